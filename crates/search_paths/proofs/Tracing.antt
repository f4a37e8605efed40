-- The steps of a path, written from the last one on: what is left to follow and what is written are the path.
use Prim.Native.Nat.{ℕ, zero, suc, ◌+◌, ◌*◌, ◌-◌, ◌/◌, ◌%◌, ◌≤◌, ◌<◌}
use mathlib.Core.Path.{◌≡◌, refl, sym, ap, ◌∙◌}
use mathlib.Core.List.{List, [], ◌∷◌, ◌++◌, append_assoc, reverse, reverse-cons}
use native.Mathlib.Omega.{arith}
use native.Mathlib.Nat.{mod-lt, mul-le-mul}
use lib.ListN.{length, take, drop, set}
use lib.Seq.{set_split, drop_at, length-take-le}
use Rattle.search_paths.specs.Routes.{back_in, path_by}

-- ---- the place of a back pointer

pub row_room : (w k i : ℕ) → 0 < w → w ≤ 4096 → k ≤ 256 → k * w + i % w < 1052672
row_room w k i pos h l =
    let m : i % w < w = mod-lt i pos in
    let t : k * w ≤ 256 * 4096 = mul-le-mul l h in
    omega arith

-- ---- one step

-- the step stored stands before those written
stored : (plan : List ℕ) (n x : ℕ) → n < length plan → drop n (set plan n x) ≡ x ∷ drop (suc n) plan
stored plan n x h = ap (drop n) (set_split plan n x h) ∙ drop_at (take n plan) (x ∷ drop (suc n) plan) n (length-take-le n plan (omega arith))

moved_over : (x : ℕ) (path rest : List ℕ) → reverse (x ∷ path) ++ rest ≡ reverse path ++ (x ∷ rest)
moved_over x path rest = ap (λ (l : List ℕ). l ++ rest) (reverse-cons x path) ∙ append_assoc (reverse path) (x ∷ []) rest

step_written : (words : List ℕ) (w left slot : ℕ) (plan : List ℕ) → 0 < left → left ≤ length plan
    → (let back = back_in words w left slot in
    reverse (path_by words w left slot) ++ drop left plan ≡ reverse (path_by words w (left - 1) (back / 256)) ++ drop (left - 1) (set plan (left - 1) (back % 256)))
unfolding path_by
step_written words w zero slot plan h l = absurd (omega arith)
step_written words w (suc n) slot plan h l =
    let back = back_in words w (suc n) slot in
    let z : suc n - 1 ≡ n = omega arith in
    rw z
    (moved_over (back % 256) (path_by words w n (back / 256)) (drop (suc n) plan)
    ∙ ap (λ (r : List ℕ). reverse (path_by words w n (back / 256)) ++ r) (sym (stored plan n (back % 256) (omega arith))))

-- so that the whole stays the same
pub step_on : {path : List ℕ} (words : List ℕ) (w left slot back : ℕ) (plan : List ℕ) → 0 < left → left ≤ length plan → back ≡ back_in words w left slot
    → path ≡ reverse (path_by words w left slot) ++ drop left plan → path ≡ reverse (path_by words w (left - 1) (back / 256)) ++ drop (left - 1) (set plan (left - 1) (back % 256))
step_on words w left slot back plan h l e whole = rw e (whole ∙ step_written words w left slot plan h l)

-- no step left to follow
pub all_written : (words : List ℕ) (w left slot : ℕ) (plan : List ℕ) → left ≤ 0 → reverse (path_by words w left slot) ++ drop left plan ≡ plan
unfolding path_by
all_written words w zero slot plan h = refl
all_written words w (suc n) slot plan h = absurd (omega arith)

-- a path to layer k has k steps
pub path_length : (words : List ℕ) (w k i : ℕ) → length (path_by words w k i) ≡ k
unfolding path_by
path_length words w zero i = refl
path_length words w (suc k) i = ap suc (path_length words w k _)
