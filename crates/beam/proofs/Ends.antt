-- The layer's end: those with f below the best stand first, and the least f is the first one's.
use Prim.Native.Nat.{ℕ, zero, suc, ◌-◌, ◌≤◌, ◌<◌}
use mathlib.Core.Path.{◌≡◌, refl, sym, ap, ◌∙◌}
use mathlib.Core.Bool.{Bool, true, false, cond, not}
use mathlib.Core.List.{List, [], ◌∷◌, map}
use mathlib.Core.Option.{some, none}
use native.Mathlib.Omega.{arith}
use lib.ListN.{length, take, get_or}
use lib.Seq.{get_or-take, take-take, length-take-le}
use Rattle.laws.specs.Lists.{filter, All}
use Rattle.laws.proofs.Bools.{not_both}
use Rattle.model.specs.Meaning.{State}
use Rattle.model.specs.declared.Cost.{Cost}
use Rattle.model.specs.Costs.{at_most}
use Rattle.search.specs.Search.{Node, Route, less, below_best, least_f}
use Rattle.steps.specs.InBytes.{system_in}
use Rattle.steps.specs.Follow.{costs_in}
use Rattle.steps.proofs.Promises.{cost_order}
use Rattle.beam_order.specs.Slots.{f_of, words_in, earlier, Sorted, more}
use Rattle.beam_order.specs.Order.{kept_in}
use Rattle.beam_order.proofs.Tests.{at_most_through}
use Rattle.beam_order.proofs.Ranks.{not_before_itself, f_order, sorted_take}
use Rattle.beam.specs.Nodes.{node_of, nodes_in}
use Rattle.beam.specs.Parts.{LayerParts}
use Rattle.beam.proofs.Mapped.{filter_map, filter_same, take_map}

-- ---- a test that the first r pass and the others do not

filter_first : {A : Type 0} (p : A → Bool) (at : ℕ → A) (k : List ℕ) (r : ℕ) → r ≤ length k → ((i : ℕ) → i < r → p (at (get_or k i 0)) ≡ true) → ((i : ℕ) → r ≤ i → i < length k → p (at (get_or k i 0)) ≡ false)
    → filter p (map at k) ≡ map at (take r k)
unfolding filter
filter_first p at [] zero h yes-first no-rest = refl
filter_first p at [] (suc r) h yes-first no-rest = absurd (omega arith)
filter_first p at (x ∷ k) zero h yes-first no-rest =
    rw (no-rest 0 (omega arith) (omega arith)) (filter_first p at k zero (omega arith) (λ i l. absurd (omega arith)) (λ i a l. no-rest (suc i) (omega arith) (omega arith)))
filter_first {A} p at (x ∷ k) (suc r) h yes-first no-rest =
    rw (yes-first 0 (omega arith)) (ap (λ (l : List A). at x ∷ l) (filter_first p at k r (omega arith) (λ i l. yes-first (suc i) (omega arith)) (λ i a l. no-rest (suc i) (omega arith) (omega arith))))

-- ---- f rises along a layer

f_first : (m : List ℕ) (at : ℕ → List ℕ) (k : List ℕ) (j : ℕ) → All (λ n. earlier n m ≡ false) (map at k) → j < length k → at_most (f_of m) (f_of (at (get_or k j 0))) ≡ true
f_first m at [] j a h = absurd (omega arith)
f_first m at (x ∷ k) zero a h = f_order m (at x) a.0
f_first m at (x ∷ k) (suc j) a h = f_first m at k j a.1 (omega arith)

f_rises : (at : ℕ → List ℕ) (k : List ℕ) (i j : ℕ) → Sorted (map at k) → i ≤ j → j < length k → at_most (f_of (at (get_or k i 0))) (f_of (at (get_or k j 0))) ≡ true
f_rises at [] i j s l h = absurd (omega arith)
f_rises at (x ∷ k) zero zero (more a s) l h = f_order (at x) (at x) (not_before_itself (at x))
f_rises at (x ∷ k) zero (suc j) (more a s) l h = f_first (at x) at k j a (omega arith)
f_rises at (x ∷ k) (suc i) zero (more a s) l h = absurd (omega arith)
f_rises at (x ∷ k) (suc i) (suc j) (more a s) l h = f_rises at k i j s (omega arith) (omega arith)

module _ {w n : ℕ} {slots order : List ℕ} (la : LayerParts w n slots order) where
  long : length (take n order) ≡ n
  long = length-take-le n order la.inside.room

  -- the f at a place
  abbrev pub f_in : ℕ → Cost
  f_in i = f_of (words_in slots (get_or order i 0))

  f_at_lem : (i : ℕ) → i < n → f_of (words_in slots (get_or (take n order) i 0)) ≡ f_in i
  f_at_lem i h = ap (λ (s : ℕ). f_of (words_in slots s)) (get_or-take n order i 0 h)

  f_up : (i j : ℕ) → i ≤ j → j < n → at_most (f_in i) (f_in j) ≡ true
  f_up i j l h =
      let s : Sorted (map (words_in slots) (take n order)) = unfold kept_in in la.sorted in
      rw (← (f_at_lem i (omega arith)), ← (f_at_lem j h)) (f_rises (words_in slots) (take n order) i j s l (omega (arith, long)))

  -- the first r of the order
  module _ (r : ℕ) (h : r ≤ n) where
    first : take r (take n order) ≡ take r order
    first = take-take r n order h

    kept_first : kept_in slots order r ≡ take r (kept_in slots order n)
    kept_first = unfold kept_in in ap (map (words_in slots)) (sym first) ∙ sym (take_map (words_in slots) r (take n order))

    pub fewer_layer : LayerParts w r slots order
    fewer_layer =
        record {
          slots_long = la.slots_long;
          inside = record { room = omega (arith, la.inside.room); each = λ i l. la.inside.each i (omega arith) };
          sorted = rw kept_first (sorted_take r (kept_in slots order n) la.sorted);
        }

  -- where the first r have an f below the best and the others have not, they are what is left
  module _ (r : ℕ) (best : Cost) (h : r ≤ n) (low : (i : ℕ) → i < r → at_most best (f_in i) ≡ false) (high : (i : ℕ) → r ≤ i → i < n → at_most best (f_in i) ≡ true) where
    below : List ℕ → Bool
    below m = not (at_most best (f_of m))

    words_left : filter below (kept_in slots order n) ≡ kept_in slots order r
    unfolding below
    words_left =
        unfold kept_in in
        filter_first below (words_in slots) (take n order) r (omega (arith, long))
        (λ i l. ap (λ (f : Cost). not (at_most best f)) (f_at_lem i (omega arith)) ∙ ap not (low i l))
        (λ i a l. let z : i < n = omega (arith, long) in ap (λ (f : Cost). not (at_most best f)) (f_at_lem i z) ∙ ap not (high i a z))
        ∙ ap (map (words_in slots)) (first r h)

    pub left_below : (bytes : List ℕ) (path : ℕ → List ℕ) (b : Route Cost) → b.cost ≡ best
        → nodes_in bytes path slots order r ≡ filter (λ m. below_best (costs_in bytes) (system_in bytes) m.f (some b)) (nodes_in bytes path slots order n)
    unfolding below
    left_below bytes path b e =
        unfold nodes_in in
        sym
        (filter_map (node_of bytes path) (λ m. below_best (costs_in bytes) (system_in bytes) m.f (some b)) (kept_in slots order n)
        ∙ ap (map (node_of bytes path)) (filter_same (λ m. below_best (costs_in bytes) (system_in bytes) (node_of bytes path m).f (some b)) below (kept_in slots order n) (λ m. unfold below_best less node_of in rw (e, cost_order bytes best (f_of m))) ∙ words_left))

  -- where the one before place r is below the best, all before it are
  pub low_before : (r : ℕ) (best : Cost) → 0 < r → r ≤ n → at_most best (f_in (r - 1)) ≡ false → (i : ℕ) → i < r → at_most best (f_in i) ≡ false
  low_before r best pos h l i k = by_test (at_most best (f_in i)) refl
    where
      by_test : (t : Bool) → at_most best (f_in i) ≡ t → t ≡ false
      by_test false e = refl
      by_test true e = absurd (not_both (at_most_through best (f_in i) (f_in (r - 1)) e (f_up i (r - 1) (omega arith) (omega arith))) l)

-- without a best all are left
pub filter_no_best : (bytes : List ℕ) (l : List (Node State Cost)) → filter (λ m. below_best (costs_in bytes) (system_in bytes) m.f none) l ≡ l
unfolding filter below_best
filter_no_best bytes [] = refl
filter_no_best bytes (x ∷ l) = ap (λ (m : List (Node State Cost)). x ∷ m) (filter_no_best bytes l)

-- ---- the least f

least_of : (bytes : List ℕ) (path : ℕ → List ℕ) (m : List ℕ) (l : List (List ℕ)) → All (λ n. earlier n m ≡ false) l → least_f (costs_in bytes) (system_in bytes) (f_of m) (map (node_of bytes path) l) ≡ f_of m
unfolding least_f node_of
least_of bytes path m [] a = refl
least_of bytes path m (x ∷ l) a =
    let e : cond ((costs_in bytes).at_most (f_of m) (f_of x)) (f_of m) (f_of x) ≡ f_of m = rw (cost_order bytes (f_of m) (f_of x), f_order m x a.0) in
    ap (λ (k : Cost). least_f (costs_in bytes) (system_in bytes) k (map (node_of bytes path) l)) e ∙ least_of bytes path m l a.1

-- of a layer in order the least f is that of the first
pub least_first : (bytes : List ℕ) (path : ℕ → List ℕ) (m : List ℕ) (l : List (List ℕ)) → Sorted (m ∷ l) → least_f (costs_in bytes) (system_in bytes) (node_of bytes path m).f (map (node_of bytes path) l) ≡ f_of m
least_first bytes path m l (more a s) = unfold node_of in least_of bytes path m l a
