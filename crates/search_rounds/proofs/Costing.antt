-- Costs of a layer: where each part of a node's cost is at most k times the end of the numbers' range, so it is of the children, k + 1 times. In layer k of
-- a round the steps before its root count too.
use Prim.Native.Nat.{ℕ, suc, ◌+◌}
use mathlib.Core.Path.{◌≡◌, sym, subst}
use mathlib.Core.Bool.{not}
use mathlib.Core.List.{List, [], ◌∷◌}
use native.Mathlib.Omega.{arith}
use native.Mathlib.Nat.{suc-mul}
use lib.Dec.{ltb}
use lib.ListN.{length}
use Rattle.laws.specs.Lists.{any, filter, All}
use Rattle.laws.proofs.Bools.{by_cond}
use Rattle.laws.proofs.Lists.{all_filter, all_drop_last}
use Rattle.model.specs.Numbers.{range_end}
use Rattle.model.specs.System.{Costs, System, moved}
use Rattle.model.specs.Meaning.{State}
use Rattle.model.specs.declared.Cost.{Cost}
use Rattle.model.proofs.Ranges.{up_to_less, below_up_to}
use Rattle.search.specs.Search.{Node, Round, on, below_best, before, place, beats, cut, insert, offer, child, counted, at_limit, improved_by, layer, layer_end, next_layer}
use Rattle.search.proofs.Induction.{Holds, Point, taking, expanding, Changes, layer_holds}
use Rattle.steps.specs.InBytes.{system_in}
use Rattle.steps.specs.Follow.{costs_in}
use Rattle.steps.proofs.Promises.{combined_up_to, step_cost_below}
use Rattle.search_visits.specs.Work.{Within}

-- ---- what holds of each kept node and of a child, holds of each after the child was offered

module _ {S C : Type 0} (K : Costs C) (M : System S C) (P : Node S C → Type 0) where
  all_placed : (n : Node S C) (l : List (Node S C)) → P n → All P l → All P (place K M n l)
  unfolding place
  all_placed n [] h a = (h, tt)
  all_placed n (m ∷ l) h a = by_cond (All P) (before K M n m) (λ e. (h, a)) (λ e. (a.0, all_placed n l h a.1))

  all_cut : (width : ℕ) (l : List (Node S C)) (r : Round S C) → All P l → All P (cut K M width l r).kept
  unfolding cut
  all_cut width l r a = by_cond (All P) (ltb width (length l)) (λ e. all_drop_last P l a) (λ e. a)

  all_inserted : (width : ℕ) (n : Node S C) (r : Round S C) → P n → All P r.kept → All P (insert K M width n r).kept
  unfolding insert
  all_inserted width n r h a =
      by_cond (λ (x : Round S C). All P x.kept) (any (λ k. beats K M k n) r.kept) (λ e. a)
      (λ e. all_cut width (place K M n (filter (λ k. not (beats K M n k)) r.kept)) r (all_placed n (filter (λ k. not (beats K M n k)) r.kept) h (all_filter P (λ k. not (beats K M n k)) r.kept a)))

  all_offered : (width : ℕ) (n : Node S C) (r : Round S C) → P n → All P r.kept → All P (offer K M width n r).kept
  unfolding offer
  all_offered width n r h a = by_cond (λ (x : Round S C). All P x.kept) (below_best K M n.f r.progress.best) (λ e. all_inserted width n r h a) (λ e. a)

-- ---- the layer

-- the nodes ahead
abbrev Ahead : (k : ℕ) → Point State Cost → Type 0
Ahead k (taking ns) = All (Within k) ns
Ahead k (expanding n t ns) = Within k n × All (Within k) ns

abbrev Costing : (k left : ℕ) → Point State Cost → Round State Cost → Type 0
Costing k left point r = All (Within (suc k)) r.kept × Ahead k point

child_within : (bytes : List ℕ) (k : ℕ) (n : Node State Cost) (t : ℕ) {c : Cost} (h : Cost) {u : State} → Within k n → (system_in bytes).move n.state t ≡ moved c u → Within (suc k) (child (costs_in bytes) (system_in bytes) n t c u h)
unfolding child
child_within bytes k n t h a e = up_to_less (combined_up_to bytes a (below_up_to (step_cost_below bytes n.state t e))) (omega (arith, suc-mul k range_end))

costing : (bytes : List ℕ) (budget width : ℕ) → Changes (costs_in bytes) (system_in bytes) budget width Costing (λ s. Unit {0})
unfolding improved_by at_limit counted layer_end next_layer
costing bytes budget width =
    record {
      no_status_lem = λ p e. tt;
      no_better = λ p e b. (p.0, p.1.1);
      better = λ p e b l. (p.0, p.1.1);
      at_low = λ p e b l. tt;
      at_limit_lem = λ p e. (p.0, p.1.1);
      budget_spent_lem = λ p e b. tt;
      expansion_begins = λ p e b. (p.0, p.1);
      is_blocked = λ p l e. p;
      has_moved = λ {k} {left} {t} {n} {ns} {r} {c} {h} {u} p l e b. (all_offered (costs_in bytes) (system_in bytes) (Within (suc k)) width (child (costs_in bytes) (system_in bytes) n t c u h) r (child_within bytes k n t h p.1.0 e) p.0, p.1);
      no_bound = λ p l e b. tt;
      trouble_before_lem = λ p l e. tt;
      trouble_after_lem = λ p l e. tt;
      expansion_ends = λ p. (p.0, p.1.1);
      layer_ends = λ {k} {left} {r} p. (all_filter (Within (suc k)) (λ n. below_best (costs_in bytes) (system_in bytes) n.f r.progress.best) r.kept p.0, tt);
      next_layer_lem = λ p e. (tt, p.0);
    }

-- the nodes that a layer from none leaves at its end
left_within : (bytes : List ℕ) (budget width k left : ℕ) (ns : List (Node State Cost)) (r r' x : Round State Cost) → All (Within k) ns → r.kept ≡ [] → layer (costs_in bytes) (system_in bytes) budget width left ns r ≡ on r'
    → layer_end (costs_in bytes) (system_in bytes) r' ≡ x → All (Within (suc k)) x.kept
left_within bytes budget width k left ns r r' x a none same end =
    subst (λ (y : Round State Cost). All (Within (suc k)) y.kept) end
    ((costing bytes budget width).layer_ends {k = k} {left = left} {r = r'}
    (subst (Holds (Costing k left (taking [])) (λ s. Unit {0})) same
    (layer_holds (costs_in bytes) (system_in bytes) budget width Costing (λ s. Unit {0}) (costing bytes budget width) {k = k} {left = left} {r = r} ns (subst (All (Within (suc k))) (sym none) tt, a)))).0

-- in layer k, behind `before` steps
pub end_within : (bytes : List ℕ) (budget width before k left : ℕ) (ns : List (Node State Cost)) (r r' x : Round State Cost) → All (Within (before + k)) ns → r.kept ≡ []
    → layer (costs_in bytes) (system_in bytes) budget width left ns r ≡ on r' → layer_end (costs_in bytes) (system_in bytes) r' ≡ x → All (Within (before + suc k)) x.kept
end_within bytes budget width before k left ns r r' x a none same end =
    let one_further : suc (before + k) ≡ before + suc k = omega arith in
    subst (λ (j : ℕ). All (Within j) x.kept) one_further (left_within bytes budget width (before + k) left ns r r' x a none same end)
