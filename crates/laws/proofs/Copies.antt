-- A list copied into the front of another, one place after the other.
use Prim.Native.Nat.{ℕ, suc, ◌+◌, ◌≤◌, ◌<◌}
use mathlib.Core.Path.{◌≡◌, ap, ◌∙◌}
use mathlib.Core.List.{List, ◌++◌, append-nil}
use native.Mathlib.Numerals.{add-one}
use native.Mathlib.Omega.{arith}
use lib.ListN.{length, take, drop, get_or, set}
use lib.Seq.{take-suc, drop-cons, set_at, length-take-le, append_snoc, take_all, drop-length}

pub copied_more : (from to₀ to : List ℕ) (i : ℕ) → i < length from → i < length to₀ → to ≡ take i from ++ drop i to₀ → set to i (get_or from i 0) ≡ take (i + 1) from ++ drop (i + 1) to₀
copied_more from to₀ to i hs hd e =
    let front : length (take i from) ≡ i = length-take-le i from (omega arith) in
    ap (λ (l : List ℕ). set l i (get_or from i 0)) (e ∙ ap (λ (l : List ℕ). take i from ++ l) (drop-cons to₀ i 0 hd))
    ∙ set_at (take i from) (get_or to₀ i 0) (drop (suc i) to₀) (get_or from i 0) i front
    ∙ rw (add-one, take-suc from i 0, append_snoc)

pub copied_whole : (from to₀ to : List ℕ) (n i : ℕ) → i ≤ n → n ≤ i → to ≡ take i from ++ drop i to₀ → to ≡ take n from ++ drop n to₀
copied_whole from to₀ to n i lo hi e = let same : i ≡ n = omega arith in e ∙ ap (λ (k : ℕ). take k from ++ drop k to₀) same

-- the whole list, into one as long
pub copied_all : (from to₀ to : List ℕ) (i : ℕ) → length from ≡ length to₀ → i ≡ length from → to ≡ take i from ++ drop i to₀ → to ≡ from
copied_all from to₀ to i long whole e =
    e ∙ ap (λ (k : ℕ). take i from ++ drop k to₀) (whole ∙ long)
    ∙ rw (drop-length to₀, append-nil (take i from)) (take_all i from (omega arith))
