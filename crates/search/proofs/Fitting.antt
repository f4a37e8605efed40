-- Whether every layer fits the widest beam, by tests that compute with the layers as lists: where they pass, `Fits` or its opposite holds.
use Prim.Native.Nat.{ℕ, zero, suc, ◌≤◌}
use mathlib.Core.Path.{◌≡◌, sym, subst}
use mathlib.Core.Logic.{inl, inr}
use mathlib.Core.Bool.{Bool, true, false, not, ◌&&◌}
use mathlib.Core.List.{List, [], ◌∷◌}
use native.Mathlib.Omega.{arith}
use native.Mathlib.Nat.{eq-or-lt_of_le}
use lib.ListN.{length}
use lib.Dec.{leb, ltb}
use borrow.Author.Tests.{leb-true, ltb-true}
use Rattle.laws.specs.Lists.{Different, any}
use Rattle.laws.proofs.Bools.{not_both, not_true, and_both}
use Rattle.laws.proofs.Lists.{some_all, all_map, any_none}
use Rattle.model.specs.System.{Costs, System, Status, base, unfinished, no_status}
use Rattle.model.specs.Plans.{Overfull}
use Rattle.model.proofs.Enumerated.{listed, different_members, in_layer_listed, listed_in_layer}
use Rattle.search.specs.Guarantee.{Fits}

unfoldable pub is_unfinished : Status → Bool
is_unfinished base = false
is_unfinished unfinished = true
is_unfinished (no_status t) = false

module _ {S C : Type 0} (M : System S C) (start : S) where
  -- no layer up to k has more than W states listed
  unfoldable pub none_wider : (W k : ℕ) → Bool
  none_wider W zero = leb (length (listed M start zero)) W
  none_wider W (suc k) = none_wider W k && leb (length (listed M start (suc k))) W

  -- nor is one unfinished at the limit
  unfoldable pub listed_fit : (W limit : ℕ) → Bool
  listed_fit W limit = none_wider W limit && not (any (λ s. is_unfinished (M.status s)) (listed M start limit))

  -- no state of the list dominates one behind it
  unfoldable pub none_dominates : List S → Bool
  none_dominates [] = true
  none_dominates (s ∷ l) = not (any (λ u. M.dominates s u) l) && none_dominates l

  -- layer k has more than W states listed, which are different
  unfoldable pub listed_over : (W k : ℕ) → Bool
  listed_over W k = none_dominates (listed M start k) && ltb W (length (listed M start k))

  each_within : (W limit k : ℕ) → none_wider W limit ≡ true → k ≤ limit → length (listed M start k) ≤ W
  unfolding none_wider
  each_within W zero zero e le = leb-true _ W e
  each_within W zero (suc k) e le = absurd (omega arith)
  each_within W (suc limit) k e le =
      let (before, last) = and_both (none_wider W limit) (leb (length (listed M start (suc limit))) W) e in
      elim (eq-or-lt_of_le le) [ inl q ↦ subst (λ n. length (listed M start n) ≤ W) (sym q) (leb-true _ W last) | inr lt ↦ each_within W limit k before (omega arith) ]

  pub listed_fit_lem : (K : Costs C) (spent : C) (W limit : ℕ) → listed_fit W limit ≡ true → Fits K M (record { start = start; spent = spent }) W limit
  unfolding listed_fit is_unfinished
  listed_fit_lem K spent W limit e =
      let (narrow, none) = and_both (none_wider W limit) (not (any (λ s. is_unfinished (M.status s)) (listed M start limit))) e in
      record {
        layers_fit = λ k l le d a. omega (arith, different_members l (listed M start k) d (all_map l (λ s i. in_layer_listed M start i) a), each_within W limit k narrow le);
        none_open =
            λ s i u.
            some_all (listed M start limit) (any_none (λ s. is_unfinished (M.status s)) (listed M start limit) (not_true _ none)) (in_layer_listed M start i)
            (λ x f q. not_both (rw (q, u)) f);
      }

  module _ (self : (s : S) → M.dominates s s ≡ true) where
    different_listed : (l : List S) → none_dominates l ≡ true → Different l
    unfolding none_dominates
    different_listed [] e = tt
    different_listed (s ∷ l) e =
        let (first, rest) = and_both (not (any (λ u. M.dominates s u) l)) (none_dominates l) e in
        (all_map l (λ u f q. not_both (subst (λ x. M.dominates s x ≡ true) q (self s)) f) (any_none (λ u. M.dominates s u) l (not_true _ first)), different_listed l rest)

    pub listed_overfull : (W limit k : ℕ) → k ≤ limit → listed_over W k ≡ true → Overfull M start W limit
    unfolding listed_over
    listed_overfull W limit k le e =
        let (apart, many) = and_both (none_dominates (listed M start k)) (ltb W (length (listed M start k))) e in
        (k, listed M start k, le, different_listed (listed M start k) apart, listed_in_layer M start k, ltb-true W _ many)
