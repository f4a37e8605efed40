-- Counts of the order array: what a shift leaves of them, and the kept slots after it.
use Prim.Native.Nat.{ℕ, zero, suc, ◌+◌, ◌-◌, ◌≤◌, ◌<◌}
use mathlib.Core.Path.{◌≡◌, refl, sym, ap, ◌∙◌}
use mathlib.Core.Logic.{◌≢◌}
use mathlib.Core.Bool.{Bool, true, false, cond}
use mathlib.Core.List.{List, [], ◌∷◌, ◌++◌, map, drop_last, append_assoc}
use native.Mathlib.Nat.{zero-add}
use native.Mathlib.Omega.{arith}
use native.Mathlib.Decide.{dec_lt}
use borrow.Author.Tests.{eqb-true, eq-eqb, ne_eqb, ltb-true, lt-ltb, le-ltb}
use lib.Dec.{eqb}
use lib.ListN.{length, take, drop, get_or, length-append, length-drop, take-append-drop}
use lib.Seq.{take-take, take_at, length-take-le, take-add, drop_at, drop-drop, split_at}
use Rattle.beam_order.specs.Order.{count, Distinct, used, inserted, removed, without, up_from}

-- ---- counts

pub count_append : (x : ℕ) (a b : List ℕ) → count x (a ++ b) ≡ count x a + count x b
unfolding count
count_append x [] b = rw zero-add
count_append x (y ∷ a) b = omega (arith, count_append x a b)

pub count_cons : (x y : ℕ) (a : List ℕ) → count x (y ∷ a) ≡ count x (y ∷ []) + count x a
unfolding count
count_cons x y a = omega arith

pub count_here : (x : ℕ) → count x (x ∷ []) ≡ 1
unfolding count
count_here x = rw (eq-eqb x x refl)

pub count_other : (x y : ℕ) → x ≢ y → count x (y ∷ []) ≡ 0
unfolding count
count_other x y n = rw (ne_eqb x y n)

pub count_part : (s n : ℕ) (l : List ℕ) → count s l ≡ count s (take n l) + count s (drop n l)
count_part s n l = ap (count s) (sym (take-append-drop n l)) ∙ count_append s (take n l) (drop n l)

-- what stands at a place is counted
pub count_at_lem : (k : List ℕ) (i : ℕ) → i < length k → 0 < count (get_or k i 0) k
unfolding count
count_at_lem [] i h = absurd (omega arith)
count_at_lem (y ∷ k) zero h = rw (eq-eqb y y refl) (omega arith)
count_at_lem (y ∷ k) (suc i) h = omega (arith, count_at_lem k i (omega arith))

-- what is counted stands at a place
pub count_find : {R : Type 0} (k : List ℕ) (s : ℕ) → 0 < count s k → ((i : ℕ) → i < length k → get_or k i 0 ≡ s → R) → R
unfolding count
count_find [] s h f = absurd (omega arith)
count_find {R} (y ∷ k) s h f = by_test (eqb s y) refl h (λ g. count_find k s g (λ i a e. f (suc i) (omega arith) e))
  where
    by_test : (t : Bool) → eqb s y ≡ t → 0 < cond t 1 0 + count s k → (0 < count s k → R) → R
    by_test true e g rest = f zero (omega arith) (sym (eqb-true s y e))
    by_test false e g rest = rest (omega arith)

-- maps that agree on what is counted
pub map_same : {B : Type 0} (f g : ℕ → B) (k : List ℕ) → ((s : ℕ) → 0 < count s k → f s ≡ g s) → map f k ≡ map g k
unfolding count
map_same f g [] e = refl
map_same f g (y ∷ k) e =
    let a : f y ≡ g y = e y (rw (eq-eqb y y refl) (omega arith)) in
    let b : map f k ≡ map g k = map_same f g k (λ s h. e s (omega arith)) in
    cc

-- ---- the numbers from 0 on

up_count : (x i n : ℕ) → x < i → count x (up_from i n) ≡ 0
unfolding count up_from
up_count x i zero h = refl
up_count x i (suc n) h = rw (ne_eqb x i (λ e. omega arith)) (omega (arith, up_count x (suc i) n (omega arith)))

up_once : (x i n : ℕ) → count x (up_from i n) ≤ 1
unfolding count up_from
up_once x i zero = omega arith
up_once x i (suc n) = by_test (eqb x i) refl (up_once x (suc i) n)
  where
    by_test : (t : Bool) → eqb x i ≡ t → count x (up_from (suc i) n) ≤ 1 → cond t 1 0 + count x (up_from (suc i) n) ≤ 1
    by_test true e rest = omega (arith, up_count x (suc i) n (omega (arith, eqb-true x i e)))
    by_test false e rest = omega arith

up_below : (x i n : ℕ) → i + n ≤ x → count x (up_from i n) ≡ 0
unfolding count up_from
up_below x i zero h = refl
up_below x i (suc n) h = rw (ne_eqb x i (λ e. omega arith)) (omega (arith, up_below x (suc i) n (omega arith)))

pub up_distinct : (w : ℕ) → Distinct w (up_from 0 w)
up_distinct w = record { once = λ x. up_once x 0 w; below = λ x h. up_below x 0 w (omega arith) }

-- ---- shifts keep the counts

pub count_inserted : (l : List ℕ) (n p x s : ℕ) → p ≤ n → n < length l → x ≡ get_or l n 0 → count s (inserted l n p x) ≡ count s l
unfolding inserted
count_inserted l n p x s h room e =
    let z : n ≡ p + (n - p) = omega arith in
    let front : List ℕ = take p l in
    let middle : List ℕ = take (n - p) (drop p l) in
    let back : List ℕ = drop (suc n) l in
    let whole : l ≡ front ++ (middle ++ (get_or l n 0 ∷ back)) =
    split_at l n 0 room ∙ ap (λ (k : List ℕ). k ++ (get_or l n 0 ∷ back)) (ap (λ (k : ℕ). take k l) z ∙ take-add p (n - p) l) ∙ append_assoc front middle (get_or l n 0 ∷ back) in
    let after : count s (inserted l n p x) ≡ count s front + (count s (get_or l n 0 ∷ []) + (count s middle + count s back)) =
    rw (e, count_append s front, count_cons s (get_or l n 0) (middle ++ back), count_append s middle) in
    let now : count s l ≡ count s front + (count s middle + (count s (get_or l n 0 ∷ []) + count s back)) =
    ap (count s) whole ∙ rw (count_append s front, count_append s middle, count_cons s (get_or l n 0) back) in
    omega arith

pub count_removed : (l : List ℕ) (n p s : ℕ) → p < n → n ≤ length l → count s (removed l n p) ≡ count s l
unfolding removed
count_removed l n p s h room =
    let z : suc p + (n - suc p) ≡ n = omega arith in
    let front : List ℕ = take p l in
    let middle : List ℕ = take (n - suc p) (drop (suc p) l) in
    let back : List ℕ = drop n l in
    let rest : drop (n - suc p) (drop (suc p) l) ≡ back = drop-drop (n - suc p) (suc p) l ∙ ap (λ (k : ℕ). drop k l) z in
    let whole : l ≡ front ++ (get_or l p 0 ∷ (middle ++ back)) =
    split_at l p 0 (omega arith) ∙ ap (λ (k : List ℕ). front ++ (get_or l p 0 ∷ k)) (sym (take-append-drop (n - suc p) (drop (suc p) l)) ∙ ap (λ (k : List ℕ). middle ++ k) rest) in
    let after : count s (removed l n p) ≡ count s front + (count s middle + (count s (get_or l p 0 ∷ []) + count s back)) =
    rw (count_append s front, count_append s middle, count_cons s (get_or l p 0) back) in
    let now : count s l ≡ count s front + (count s (get_or l p 0 ∷ []) + (count s middle + count s back)) =
    ap (count s) whole ∙ rw (count_append s front, count_cons s (get_or l p 0) (middle ++ back), count_append s middle) in
    omega arith

-- ---- one member less

without_split : {A : Type 0} (p : ℕ) (k : List A) → p < length k → without p k ≡ take p k ++ drop (suc p) k
unfolding without
without_split p [] h = absurd (omega arith)
without_split zero (x ∷ k) h = refl
without_split {A} (suc p) (x ∷ k) h = ap (λ (l : List A). x ∷ l) (without_split p k (omega arith))

pub without_map : {A B : Type 0} (f : A → B) (p : ℕ) (k : List A) → map f (without p k) ≡ without p (map f k)
unfolding without
without_map f p [] = refl
without_map f zero (x ∷ k) = refl
without_map {A} {B} f (suc p) (x ∷ k) = ap (λ (l : List B). f x ∷ l) (without_map f p k)

pub without_count : (s p : ℕ) (k : List ℕ) → p < length k → count s (without p k) + count s (get_or k p 0 ∷ []) ≡ count s k
unfolding without count
without_count s p [] h = absurd (omega arith)
without_count s zero (x ∷ k) h = omega arith
without_count s (suc p) (x ∷ k) h = omega (arith, without_count s p k (omega arith))

pub without_last : {A : Type 0} (p : ℕ) (l : List A) → length l ≡ suc p → without p l ≡ drop_last l
unfolding without
without_last p [] e = absurd (omega arith)
without_last zero (x ∷ []) e = refl
without_last zero (x ∷ y ∷ l) e = absurd (omega arith)
without_last (suc p) (x ∷ []) e = absurd (omega arith)
without_last {A} (suc p) (x ∷ y ∷ l) e = ap (λ (m : List A). x ∷ m) (without_last p (y ∷ l) (omega arith))

-- ---- the kept slots after a shift

drop_take : {A : Type 0} (l : List A) (n p : ℕ) → p ≤ n → n ≤ length l → drop p (take n l) ≡ take (n - p) (drop p l)
drop_take {A} l n p h room =
    let e : n ≡ p + (n - p) = omega arith in
    ap (λ (k : ℕ). drop p (take k l)) e ∙ ap (λ (m : List A). drop p m) (take-add p (n - p) l) ∙ drop_at (take p l) (take (n - p) (drop p l)) p (length-take-le p l (omega arith))

pub take_removed : (l : List ℕ) (n p : ℕ) → p < n → n ≤ length l → take (n - 1) (removed l n p) ≡ without p (take n l)
unfolding removed
take_removed l n p h room =
    let front : List ℕ = take p l in
    let middle : List ℕ = take (n - suc p) (drop (suc p) l) in
    let long : length (front ++ middle) ≡ n - 1 =
    omega (arith, length-append front middle, length-take-le p l (omega arith), length-take-le (n - suc p) (drop (suc p) l) (omega (arith, length-drop (suc p) l))) in
    let rest : without p (take n l) ≡ front ++ middle =
    without_split p (take n l) (omega (arith, length-take-le n l room)) ∙ rw (take-take p n l (omega arith), drop_take l n (suc p) (omega arith) room) in
    ap (take (n - 1)) (sym (append_assoc front middle (get_or l p 0 ∷ drop n l))) ∙ take_at (front ++ middle) (get_or l p 0 ∷ drop n l) (n - 1) long ∙ sym rest

pub take_inserted : (l : List ℕ) (n p x : ℕ) → p ≤ n → n < length l → take (n + 1) (inserted l n p x) ≡ take p (take n l) ++ (x ∷ drop p (take n l))
unfolding inserted
take_inserted l n p x h room =
    let front : List ℕ = take p l in
    let middle : List ℕ = take (n - p) (drop p l) in
    let long : length (front ++ (x ∷ middle)) ≡ n + 1 =
    omega (arith, length-append front (x ∷ middle), length-take-le p l (omega arith), length-take-le (n - p) (drop p l) (omega (arith, length-drop p l))) in
    let rest : take p (take n l) ++ (x ∷ drop p (take n l)) ≡ front ++ (x ∷ middle) = rw (take-take p n l h, drop_take l n p h (omega arith)) in
    ap (take (n + 1)) (sym (append_assoc front (x ∷ middle) (drop (suc n) l))) ∙ take_at (front ++ (x ∷ middle)) (drop (suc n) l) (n + 1) long ∙ sym rest

-- one more
pub count_more : (s p x : ℕ) (k : List ℕ) → count s (take p k ++ (x ∷ drop p k)) ≡ count s (x ∷ []) + count s k
count_more s p x k = omega (arith, count_part s p k, count_append s (take p k) (x ∷ drop p k), count_cons s x (drop p k))

-- ---- used slots

pub used_same : (order order' : List ℕ) (n n' s : ℕ) → count s (take n' order') ≡ count s (take n order) → used order' n' s ≡ used order n s
unfolding used
used_same order order' n n' s e = rw e

pub used_no : (order : List ℕ) (n s : ℕ) → count s (take n order) ≤ 0 → used order n s ≡ false
unfolding used
used_no order n s h = le-ltb 0 (count s (take n order)) h

pub used_yes : (order : List ℕ) (n s : ℕ) → 0 < count s (take n order) → used order n s ≡ true
unfolding used
used_yes order n s h = lt-ltb 0 (count s (take n order)) h

pub used_count : (order : List ℕ) (n s : ℕ) → used order n s ≡ true → 0 < count s (take n order)
unfolding used
used_count order n s e = ltb-true 0 (count s (take n order)) e

module _ (w : ℕ) (order : List ℕ) (d : Distinct w order) where
  pub slot_below : (p : ℕ) → p < length order → get_or order p 0 < w
  slot_below p h = elim (dec_lt (get_or order p 0) w) [ yes y ↦ y | no z ↦ absurd (omega (arith, count_at_lem order p h, d.below (get_or order p 0) (omega arith))) ]

  pub kept_below : (n s : ℕ) → 0 < count s (take n order) → s < w
  kept_below n s h = elim (dec_lt s w) [ yes y ↦ y | no z ↦ absurd (omega (arith, count_part s n order, d.below s (omega arith))) ]
