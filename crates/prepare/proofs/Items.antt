-- Items of a list by their number: the one at k, those from k on, and what an outline says of them.
use Prim.Native.Nat.{ℕ, zero, suc, ◌+◌, ◌≤◌, ◌<◌}
use mathlib.Core.Path.{◌≡◌, refl, ap, ◌∙◌}
use mathlib.Core.List.{List, [], ◌∷◌}
use mathlib.Core.Option.{some, none}
use native.Mathlib.Omega.{arith}
use lib.ListN.{length, get_or, get_elem?, drop}
use Rattle.model.specs.Readers.{Reader, read}
use Rattle.outline.specs.Outline.{Items}

module _ {A : Type 0} where
  pub record Nth (l : List A) (k : ℕ) : Type 0 where
    pub nth : A
    pub found : get_elem? l k ≡ some nth
    pub rest : drop k l ≡ nth ∷ drop (k + 1) l

  pub nth_of : (l : List A) (k : ℕ) → k < length l → Nth l k
  nth_of [] k h = let z : ⊥ = omega arith in absurd z
  nth_of (x ∷ xs) zero h = record { nth = x; found = refl; rest = refl }
  nth_of (x ∷ xs) (suc k) h =
      let n = nth_of xs k (omega arith) in
      record { nth = n.nth; found = n.found; rest = n.rest ∙ ap (λ (i : ℕ). n.nth ∷ drop i (x ∷ xs)) later }
    where
      later : suc (k + 1) ≡ suc k + 1
      later = omega arith

  pub none_beyond : (l : List A) (k : ℕ) → length l ≤ k → get_elem? l k ≡ none
  none_beyond [] k h = refl
  none_beyond (x ∷ xs) zero h = let z : ⊥ = omega arith in absurd z
  none_beyond (x ∷ xs) (suc k) h = none_beyond xs k (omega arith)

-- item k stands at a place in the bytes
pub record Item {A : Type 0} (r : Reader A) (bytes : List ℕ) (l : List A) (k at : ℕ) : Type 0 where
  pub item : A
  pub used : ℕ
  pub rest : drop k l ≡ item ∷ drop (k + 1) l
  pub inside : at ≤ length bytes
  pub reads : r (drop at bytes) ≡ read item used

pub item_at : {A : Type 0} {r : Reader A} {bytes words : List ℕ} {from : ℕ} {l : List A} → Items r bytes words from l → {k at : ℕ} → k < length l → at ≡ get_or words (from + k) 0 → Item r bytes l k at
item_at {l = l} items {k} h stands =
    let n = nth_of l k h in
    let i = items k n.nth n.found in
    record { item = n.nth; used = i.used; rest = n.rest; inside = rw stands i.inside; reads = rw stands i.reads }
