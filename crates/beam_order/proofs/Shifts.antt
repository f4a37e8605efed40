-- One turn of each loop that moves a part of the order array: the shift up, the shift down.
use Prim.Native.Nat.{ℕ, suc, ◌+◌, ◌-◌, ◌≤◌, ◌<◌}
use mathlib.Core.Path.{◌≡◌, ap, ◌∙◌}
use mathlib.Core.List.{List, [], ◌∷◌, ◌++◌, append_assoc}
use native.Mathlib.Omega.{arith}
use native.Mathlib.Numerals.{add-one}
use lib.ListN.{length, take, drop, get_or, set, length-drop}
use lib.Seq.{take-set-le, drop-set-add, get_or-drop, drop-cons, take-suc-set, drop-set-lt, set_split, take-suc, length-take-le, drop_at}
use Rattle.beam_order.specs.Order.{inserted, removed}

-- ---- the shift up

pub insert_more : (l : List ℕ) (j p x : ℕ) → p < j → j < length l → inserted (set l j (get_or l (j - 1) 0)) (j - 1) p x ≡ inserted l j p x
unfolding inserted
insert_more l j p x h room =
    let v : ℕ = get_or l (j - 1) 0 in
    let front : take p (set l j v) ≡ take p l = take-set-le p l j v (omega arith) in
    let at : j ≡ p + (j - p) = omega arith in
    let middle : take (j - 1 - p) (drop p (set l j v)) ≡ take (j - 1 - p) (drop p l) =
    ap (λ (k : ℕ). take (j - 1 - p) (drop p (set l k v))) at ∙ ap (take (j - 1 - p)) (drop-set-add p l (j - p) v) ∙ take-set-le (j - 1 - p) (drop p l) (j - p) v (omega arith) in
    let next : suc (j - 1) ≡ j = omega arith in
    let back : drop (suc (j - 1)) (set l j v) ≡ v ∷ drop (suc j) l =
    ap (λ (k : ℕ). drop k (set l j v)) next ∙ ap (drop j) (set_split l j v room) ∙ drop_at (take j l) (v ∷ drop (suc j) l) j (length-take-le j l (omega arith)) in
    let one : j - p ≡ suc (j - 1 - p) = omega arith in
    let there : p + (j - 1 - p) ≡ j - 1 = omega arith in
    let last : get_or (drop p l) (j - 1 - p) 0 ≡ v = get_or-drop p l (j - 1 - p) 0 ∙ ap (λ (k : ℕ). get_or l k 0) there in
    let whole : take (j - p) (drop p l) ≡ take (j - 1 - p) (drop p l) ++ (v ∷ []) =
    ap (λ (k : ℕ). take k (drop p l)) one ∙ take-suc (drop p l) (j - 1 - p) 0 (omega (arith, length-drop p l)) ∙ ap (λ (k : ℕ). take (j - 1 - p) (drop p l) ++ (k ∷ [])) last in
    rw (front, middle, back, whole, append_assoc)

pub insert_end : (l : List ℕ) (j p x : ℕ) → j ≡ p → p < length l → set l p x ≡ inserted l j p x
unfolding inserted
insert_end l j p x e room =
    let z : p - p ≡ 0 = omega arith in
    rw (e, z, set_split l p x room)

-- ---- the shift down

-- the places before j are done, x is to stand last
unfoldable pub removing : List ℕ → (n j x : ℕ) → List ℕ
removing l n j x = take (j - 1) l ++ (take (n - j) (drop j l) ++ (x ∷ drop n l))

pub remove_start : (l : List ℕ) (n p : ℕ) → p < n → removing l n (p + 1) (get_or l p 0) ≡ removed l n p
unfolding removing removed
remove_start l n p h =
    let e : p + 1 - 1 ≡ p = omega arith in
    rw (e, add-one)

pub remove_more : (l : List ℕ) (n j x : ℕ) → 0 < j → j < n → n ≤ length l → removing (set l (j - 1) (get_or l j 0)) n (j + 1) x ≡ removing l n j x
unfolding removing
remove_more l n j x pos h room =
    let v : ℕ = get_or l j 0 in
    let e : j + 1 - 1 ≡ suc (j - 1) = omega arith in
    let one : n - j ≡ suc (n - (j + 1)) = omega arith in
    rw (e, take-suc-set l (j - 1) v (omega arith), drop-set-lt (j + 1) l (j - 1) v (omega arith), drop-set-lt n l (j - 1) v (omega arith), one, drop-cons l j 0 (omega arith), add-one, append_assoc)

pub remove_end : (l : List ℕ) (n j x : ℕ) → 0 < n → j ≡ n → n ≤ length l → set l (n - 1) x ≡ removing l n j x
unfolding removing
remove_end l n j x pos e room =
    let z : n - n ≡ 0 = omega arith in
    let k : suc (n - 1) ≡ n = omega arith in
    rw (e, z, set_split l (n - 1) x (omega arith), k)
