-- The induction over a round: what each single change of rules 2 to 6 keeps, the whole round keeps.
-- A property may speak of the point in the round: the layer, the layers left, the nodes still to be taken.
use Prim.Native.Nat.{ℕ, zero, suc, ◌+◌, ◌≤◌, ◌<◌}
use mathlib.Core.Path.{◌≡◌, refl, subst}
use mathlib.Core.Logic.{◌⊎◌, inl, inr}
use mathlib.Core.Bool.{Bool, true, false, cond, ◌||◌}
use mathlib.Core.List.{List, [], ◌∷◌}
use native.Mathlib.Omega.{arith}
use lib.Dec.{ltb}
use borrow.Author.Tests.{ltb-true, ltb-false}
use Rattle.laws.specs.Lists.{is_empty}
use Rattle.laws.proofs.Bools.{by_cond}
use Rattle.model.specs.Values.{Value, value, trouble}
use Rattle.model.specs.System.{Costs, System, Status, base, unfinished, no_status, Move, blocked, moved, trouble_before, trouble_after}
use Rattle.search.specs.Answer.{cheapest, budget_spent, contradicted}
use Rattle.search.specs.Search.{Node, Progress, Round, Ending, decided, refused, Stop, Result, on, over, and_then, below_best, offer, refuse, route_to, route_over, child, bounded, tried, expand, counted, at_limit, advance, improved_by, new_best, reached, visit, layer, layer_end, next_layer, unless_ended, layers, fresh_round, round}

-- P of a round that goes on, Q of a run that is over
module _ {A C : Type 0} where
  abbrev pub Holds : (A → Type 0) → (Stop C → Type 0) → Result A C → Type 0
  Holds P Q (on a) = P a
  Holds P Q (over s) = Q s

holds_and_then : {A B C : Type 0} (P : A → Type 0) (P' : B → Type 0) (Q : Stop C → Type 0) (x : Result A C) (next : A → Result B C) → Holds P Q x → ((a : A) → P a → Holds P' Q (next a)) → Holds P' Q (and_then x next)
unfolding and_then
holds_and_then P P' Q (on a) next h f = f a h
holds_and_then P P' Q (over s) next h f = h

module _ {S C : Type 0} where
  abbrev pub stop_at : Ending C → Round S C → Stop C
  stop_at e r = record { ending = e; progress = r.progress }

-- a point in a layer: before the nodes still to be taken; or a node is being expanded, its transitions from number t on are untried
pub data Point (S C : Type 0) : Type 0 where
  taking : List (Node S C) → Point S C
  expanding : Node S C → (t : ℕ) → List (Node S C) → Point S C

-- behind the last layer of a round, and why it was the last
pub record RoundEnd {S C : Type 0} (P : (k left : ℕ) → Point S C → Round S C → Type 0) (r : Round S C) : Type 0 where
  pub depth : ℕ
  pub left : ℕ
  pub holds : P depth left (taking []) r
  pub ended : (left ≡ 0) ⊎ ((is_empty r.kept || r.improved) ≡ true)

module _ {S C : Type 0} (K : Costs C) (M : System S C) (budget width : ℕ) where
  -- P k left: of a round in layer k, `left` layers before the limit. Q: of a run that is over
  module _ (P : (k left : ℕ) → Point S C → Round S C → Type 0) (Q : Stop C → Type 0) where
    -- the single changes: each keeps P, or ends the run with Q
    pub record Changes : Type 0 where
      -- rule 2
      pub no_status_lem : {k left e : ℕ} {n : Node S C} {ns : List (Node S C)} {r : Round S C} → P k left (taking (n ∷ ns)) r → M.status n.state ≡ no_status e → Q (stop_at (refused e (route_to K M n)) r)
      pub no_better : {k left : ℕ} {n : Node S C} {ns : List (Node S C)} {r : Round S C} → P k left (taking (n ∷ ns)) r → M.status n.state ≡ base → below_best K M n.g r.progress.best ≡ false → P k left (taking ns) r
      pub better : {k left : ℕ} {n : Node S C} {ns : List (Node S C)} {r : Round S C} → P k left (taking (n ∷ ns)) r → M.status n.state ≡ base → below_best K M n.g r.progress.best ≡ true → K.at_most n.g r.progress.low ≡ false → P k left (taking ns) (improved_by K M n r)
      pub at_low : {k left : ℕ} {n : Node S C} {ns : List (Node S C)} {r : Round S C} → P k left (taking (n ∷ ns)) r → M.status n.state ≡ base → below_best K M n.g r.progress.best ≡ true → K.at_most n.g r.progress.low ≡ true → Q (stop_at (decided (cond (K.at_most r.progress.low n.g) cheapest contradicted)) (improved_by K M n r))
      -- rule 3
      pub at_limit_lem : {k : ℕ} {n : Node S C} {ns : List (Node S C)} {r : Round S C} → P k 0 (taking (n ∷ ns)) r → M.status n.state ≡ unfinished → P k 0 (taking ns) (at_limit K M n r)
      pub budget_spent_lem : {k left : ℕ} {n : Node S C} {ns : List (Node S C)} {r : Round S C} → P k (suc left) (taking (n ∷ ns)) r → M.status n.state ≡ unfinished → budget ≤ r.progress.expansions → Q (stop_at (decided budget_spent) r)
      pub expansion_begins : {k left : ℕ} {n : Node S C} {ns : List (Node S C)} {r : Round S C} → P k (suc left) (taking (n ∷ ns)) r → M.status n.state ≡ unfinished → r.progress.expansions < budget → P k (suc left) (expanding n 0 ns) (counted K M r)
      -- rule 4
      pub is_blocked : {k left t : ℕ} {n : Node S C} {ns : List (Node S C)} {r : Round S C} → P k (suc left) (expanding n t ns) r → t < M.transitions → M.move n.state t ≡ blocked → P k (suc left) (expanding n (suc t) ns) r
      pub has_moved : {k left t : ℕ} {n : Node S C} {ns : List (Node S C)} {r : Round S C} {c h : C} {u : S} → P k (suc left) (expanding n t ns) r → t < M.transitions → M.move n.state t ≡ moved c u → M.bound u ≡ value h → P k (suc left) (expanding n (suc t) ns) (offer K M width (child K M n t c u h) r)
      pub no_bound : {k left t e : ℕ} {n : Node S C} {ns : List (Node S C)} {r : Round S C} {c : C} {u : S} → P k (suc left) (expanding n t ns) r → t < M.transitions → M.move n.state t ≡ moved c u → M.bound u ≡ trouble e → Q (stop_at (refused e (route_over K M n t c)) r)
      pub trouble_before_lem : {k left t e : ℕ} {n : Node S C} {ns : List (Node S C)} {r : Round S C} → P k (suc left) (expanding n t ns) r → t < M.transitions → M.move n.state t ≡ trouble_before e → Q (stop_at (refused e (route_to K M n)) r)
      pub trouble_after_lem : {k left t e : ℕ} {n : Node S C} {ns : List (Node S C)} {r : Round S C} {c : C} → P k (suc left) (expanding n t ns) r → t < M.transitions → M.move n.state t ≡ trouble_after c e → Q (stop_at (refused e (route_over K M n t c)) r)
      pub expansion_ends : {k left : ℕ} {n : Node S C} {ns : List (Node S C)} {r : Round S C} → P k (suc left) (expanding n M.transitions ns) r → P k (suc left) (taking ns) r
      -- rule 6
      pub layer_ends : {k left : ℕ} {r : Round S C} → P k left (taking []) r → P k left (taking []) (layer_end K M r)
      pub next_layer_lem : {k left : ℕ} {r : Round S C} → P k (suc left) (taking []) r → (is_empty r.kept || r.improved) ≡ false → P (suc k) left (taking r.kept) (next_layer K M r)

    module _ (changes : Changes) where
      bounded_holds : {k left t : ℕ} {n : Node S C} {ns : List (Node S C)} {r : Round S C} {c : C} {u : S} (b : Value C) → M.bound u ≡ b → t < M.transitions → M.move n.state t ≡ moved c u → P k (suc left) (expanding n t ns) r
          → Holds (P k (suc left) (expanding n (suc t) ns)) Q (bounded K M width n t c u b r)
      unfolding bounded refuse
      bounded_holds (value h) b lt e p = changes.has_moved p lt e b
      bounded_holds (trouble x) b lt e p = changes.no_bound p lt e b

      tried_holds : {k left t : ℕ} {n : Node S C} {ns : List (Node S C)} {r : Round S C} (m : Move S C) → M.move n.state t ≡ m → t < M.transitions → P k (suc left) (expanding n t ns) r → Holds (P k (suc left) (expanding n (suc t) ns)) Q (tried K M width n t m r)
      unfolding tried refuse
      tried_holds blocked e lt p = changes.is_blocked p lt e
      tried_holds (moved c u) e lt p = bounded_holds (M.bound u) refl lt e p
      tried_holds (trouble_before x) e lt p = changes.trouble_before_lem p lt e
      tried_holds (trouble_after c x) e lt p = changes.trouble_after_lem p lt e

      expand_holds : {k left : ℕ} {n : Node S C} {ns : List (Node S C)} {r : Round S C} (j t : ℕ) → t + j ≡ M.transitions → P k (suc left) (expanding n t ns) r → Holds (P k (suc left) (taking ns)) Q (expand K M width j t n r)
      unfolding expand
      expand_holds {k} {left} {n} {ns} {r} zero t e p = let last : t ≡ M.transitions = omega arith in changes.expansion_ends (subst (λ x. P k (suc left) (expanding n x ns) r) last p)
      expand_holds {k} {left} {n} {ns} {r} (suc j) t e p =
          holds_and_then (P k (suc left) (expanding n (suc t) ns)) (P k (suc left) (taking ns)) Q (tried K M width n t (M.move n.state t) r) (λ r'. expand K M width j (suc t) n r') (tried_holds (M.move n.state t) refl (omega arith) p)
          (λ r' p'. expand_holds {r = r'} j (suc t) (omega arith) p')

      advance_holds : {k : ℕ} {n : Node S C} {ns : List (Node S C)} {r : Round S C} (left : ℕ) → M.status n.state ≡ unfinished → P k left (taking (n ∷ ns)) r → Holds (P k left (taking ns)) Q (advance K M budget width left n r)
      unfolding advance
      advance_holds zero e p = changes.at_limit_lem p e
      advance_holds {k} {n} {ns} {r} (suc left) e p =
          by_cond (Holds (P k (suc left) (taking ns)) Q) (ltb r.progress.expansions budget)
          (λ b. expand_holds M.transitions 0 (omega arith) (changes.expansion_begins p e (ltb-true _ _ b)))
          (λ b. changes.budget_spent_lem p e (ltb-false _ _ b))

      reached_holds : {k left : ℕ} {n : Node S C} {ns : List (Node S C)} {r : Round S C} → M.status n.state ≡ base → P k left (taking (n ∷ ns)) r → Holds (P k left (taking ns)) Q (reached K M n r)
      unfolding reached new_best
      reached_holds {k} {left} {n} {ns} {r} e p =
          by_cond (Holds (P k left (taking ns)) Q) (below_best K M n.g r.progress.best)
          (λ b. by_cond (Holds (P k left (taking ns)) Q) (K.at_most n.g r.progress.low) (λ l. changes.at_low p e b l) (λ l. changes.better p e b l))
          (λ b. changes.no_better p e b)

      visit_holds : {k left : ℕ} {n : Node S C} {ns : List (Node S C)} {r : Round S C} (s : Status) → M.status n.state ≡ s → P k left (taking (n ∷ ns)) r → Holds (P k left (taking ns)) Q (visit K M budget width left s n r)
      unfolding visit refuse
      visit_holds base e p = reached_holds e p
      visit_holds {left} unfinished e p = advance_holds left e p
      visit_holds (no_status x) e p = changes.no_status_lem p e

      pub layer_holds : {k left : ℕ} {r : Round S C} (ns : List (Node S C)) → P k left (taking ns) r → Holds (P k left (taking [])) Q (layer K M budget width left ns r)
      unfolding layer
      layer_holds [] p = p
      layer_holds {k} {left} {r} (n ∷ ns) p =
          holds_and_then (P k left (taking ns)) (P k left (taking [])) Q (visit K M budget width left (M.status n.state) n r) (λ r'. layer K M budget width left ns r') (visit_holds (M.status n.state) refl p)
          (λ r' p'. layer_holds {r = r'} ns p')

      unless_ended_holds : {k left : ℕ} {r : Round S C} (next : Round S C → Result (Round S C) C) → P k left (taking []) r → ((is_empty r.kept || r.improved) ≡ false → Holds (RoundEnd P) Q (next r)) → Holds (RoundEnd P) Q (unless_ended K M r next)
      unfolding unless_ended
      unless_ended_holds {k} {left} {r} next p f = pick (is_empty r.kept || r.improved) refl
        where
          pick : (b : Bool) → (is_empty r.kept || r.improved) ≡ b → Holds (RoundEnd P) Q (elim b [ true ↦ on r | false ↦ next r ])
          pick true e = record { depth = k; left = left; holds = p; ended = inr e }
          pick false e = f e

      layers_hold : {k : ℕ} {ns : List (Node S C)} {r : Round S C} (left : ℕ) → P k left (taking ns) r → Holds (RoundEnd P) Q (layers K M budget width left ns r)
      unfolding layers
      layers_hold {k} {ns} {r} zero p =
          holds_and_then (P k zero (taking [])) (RoundEnd P) Q (layer K M budget width zero ns r) (λ r'. on (layer_end K M r')) (layer_holds ns p)
          (λ r' p'. record { depth = k; left = zero; holds = changes.layer_ends p'; ended = inl refl })
      layers_hold {k} {ns} {r} (suc left) p =
          holds_and_then (P k (suc left) (taking [])) (RoundEnd P) Q (layer K M budget width (suc left) ns r) (λ r'. unless_ended K M (layer_end K M r') (λ x. layers K M budget width left x.kept (next_layer K M x))) (layer_holds ns p)
          (λ r' p'. unless_ended_holds (λ x. layers K M budget width left x.kept (next_layer K M x)) (changes.layer_ends p') (λ e. layers_hold {k = suc k} {ns = (layer_end K M r').kept} {r = next_layer K M (layer_end K M r')} left (changes.next_layer_lem (changes.layer_ends p') e)))

      -- the whole round
      pub round_holds : {limit : ℕ} {n : Node S C} (p : Progress C) → P 0 limit (taking (n ∷ [])) (fresh_round K M p) → Holds (RoundEnd P) Q (round K M budget limit width n p)
      unfolding round
      round_holds {limit} p h = layers_hold limit h
