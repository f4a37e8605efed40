-- A turn: the layer, its end, and the layer behind it.
use Prim.Native.Nat.{ℕ, zero, suc, ◌+◌, ◌-◌, ◌*◌, ◌≤◌, ◌<◌}
use mathlib.Core.Path.{◌≡◌, refl, sym, ap, subst, ◌∙◌}
use mathlib.Core.Bool.{Bool, true, false, ◌||◌, true≢false, false≢true}
use mathlib.Core.List.{List, [], ◌∷◌}
use Rattle.std.specs.Prelude as P
use Rattle.std.specs.Prelude.{Some, None, Ok, Err}
use native.Mathlib.Omega.{arith}
use native.Mathlib.Nat.{mul_comm, mul-le-mul}
use lib.ListN.{length}
use Rattle.laws.specs.Lists.{is_empty, All}
use Rattle.laws.proofs.Bools.{or_first, or_second}
use Rattle.model.specs.Meaning.{State}
use Rattle.model.specs.declared.Cost.{Cost}
use Rattle.search.specs.Search.{Node, Result, on, and_then, layer_end, next_layer, unless_ended, layers}
use Rattle.search.specs.Search as S
use Rattle.steps.specs.InBytes.{system_in}
use Rattle.steps.specs.Follow.{costs_in}
use Rattle.beam.specs.Layers.{nodes_of, Layer}
use Rattle.beam.proofs.Moves.{layer_of, few_in, width_positive}
use Rattle.beam.proofs.Nodes.{nodes_none, nodes_length}
use Rattle.search_paths.specs.Routes.{path_by, next_of, current_of, Taken}
use Rattle.search_visits.specs.Work.{BestFits, Within, Ready, Leaves, round_of, round_in, result_of, Inside}
use Rattle.search_rounds.specs.Rounds.{LayerEnds, layers_from, PassesLayer}
use Rattle.search_rounds.specs.Ends.{behind_end, Onward, EntersNext}
use Rattle.search_visits.specs.declared.work.Round.{Round}
use Rattle.search_visits.specs.declared.work.Ending.{Ending}
use Rattle.search_visits.specs.declared.work.Visited.{Visited}
use Rattle.search_paths.proofs.Gathering.{paths_kept}
use Rattle.search_rounds.proofs.Costing.{end_within}
use Rattle.beam_order.specs.Slots.{backs_at}

-- ---- the definition, by its parts

layers_by : (bytes : List ℕ) (w budget left : ℕ) (ns : List (Node State Cost)) (r : S.Round State Cost)
    → layers (costs_in bytes) (system_in bytes) budget w left ns r ≡ and_then (S.layer (costs_in bytes) (system_in bytes) budget w left ns r) (λ r'. behind_end bytes w budget left (layer_end (costs_in bytes) (system_in bytes) r'))
unfolding layers behind_end
layers_by bytes w budget zero ns r = refl
layers_by bytes w budget (suc left) ns r = refl

at_end : (bytes : List ℕ) (w budget left : ℕ) (r : S.Round State Cost) → (is_empty r.kept || r.improved) ≡ true → behind_end bytes w budget left r ≡ on r
unfolding behind_end unless_ended
at_end bytes w budget zero r e = refl
at_end bytes w budget (suc left) r e = picks (is_empty r.kept || r.improved) e
  where
    picks : (b : Bool) → b ≡ true → ◌≡◌ {A = Result (S.Round State Cost) Cost} (elim b [ true ↦ on r | false ↦ layers (costs_in bytes) (system_in bytes) budget w left r.kept (next_layer (costs_in bytes) (system_in bytes) r) ]) (on r)
    picks true q = refl
    picks false q = absurd (false≢true q)

not_at_end : (bytes : List ℕ) (w budget left : ℕ) (r : S.Round State Cost) → (is_empty r.kept || r.improved) ≡ false
    → behind_end bytes w budget (suc left) r ≡ layers (costs_in bytes) (system_in bytes) budget w left r.kept (next_layer (costs_in bytes) (system_in bytes) r)
unfolding behind_end unless_ended
not_at_end bytes w budget left r e = picks (is_empty r.kept || r.improved) e
  where
    picks : (b : Bool) → b ≡ false
        → ◌≡◌ {A = Result (S.Round State Cost) Cost} (elim b [ true ↦ on r | false ↦ layers (costs_in bytes) (system_in bytes) budget w left r.kept (next_layer (costs_in bytes) (system_in bytes) r) ]) (layers (costs_in bytes) (system_in bytes) budget w left r.kept (next_layer (costs_in bytes) (system_in bytes) r))
    picks true q = absurd (true≢false q)
    picks false q = refl

some_left : {A : Type 0} (l : List A) → 0 < length l → is_empty l ≡ false
unfolding is_empty
some_left [] h = absurd (omega arith)
some_left (x ∷ l) h = refl

none_left : {A : Type 0} (l : List A) → l ≡ [] → is_empty l ≡ true
unfolding is_empty
none_left l e = rw e

-- ---- the layer behind

module _ (words : List ℕ) (w limit k : ℕ) (x : Round) where
  stops : Layer w x.count (next_of w words) → ((bytes plan : List ℕ) (budget : ℕ) → behind_end bytes w budget (limit - k) (round_in bytes words plan w k x) ≡ on (round_in bytes words plan w k x)) → EntersNext words words w limit k x x None
  stops la e = record { best_same = refl; round_same = refl; layer = la; going_on = λ nodes m. absurd (cc); ends = λ m. e }

  pub stops_at_limit : Layer w x.count (next_of w words) → k ≡ limit → EntersNext words words w limit k x x None
  unfolding behind_end
  stops_at_limit la e =
      let z : limit - k ≡ 0 = omega arith in
      stops la (λ bytes plan budget. rw z)

  pub stops_at_none : Layer w x.count (next_of w words) → x.count ≡ 0 → EntersNext words words w limit k x x None
  unfolding round_of
  stops_at_none la e =
      stops la
      (λ bytes plan budget. at_end bytes w budget (limit - k) (round_in bytes words plan w k x)
      (or_first _ _ (none_left (nodes_of w (next_of w words) bytes (path_by words w k) x.count) (rw e (nodes_none w (next_of w words) bytes (path_by words w k))))))

  pub stops_improved : Layer w x.count (next_of w words) → x.improved ≡ true → EntersNext words words w limit k x x None
  unfolding round_of
  stops_improved la e = stops la (λ bytes plan budget. at_end bytes w budget (limit - k) (round_in bytes words plan w k x) (or_second (is_empty (round_in bytes words plan w k x).kept) x.improved e))

  pub moves : (words' : List ℕ) → Layer w x.count (next_of w words) → k < limit → 0 < x.count → x.improved ≡ false → Taken words words' w k x.count
      → EntersNext words words' w limit k x (record { count = 0; marks = x.marks; improved = x.improved; progress = x.progress }) (Some x.count)
  unfolding round_of next_layer
  moves words' la less some-nodes not_yet taken =
      record {
        best_same = refl;
        round_same = refl;
        layer = layer_of (taken.held []);
        going_on = λ nodes m.
            let many : x.count ≡ nodes = cc in
            rw (← many) (record { further = less; none_yet = refl; as_many = refl; taken = taken; same = onward });
        ends = λ m. absurd (cc);
      }
    where
      onward : (bytes plan : List ℕ) (budget : ℕ) → behind_end bytes w budget (limit - k) (round_in bytes words plan w k x)
          ≡ layers_from bytes words' plan w budget limit (suc k) x.count (record { count = 0; marks = x.marks; improved = x.improved; progress = x.progress })
      onward bytes plan budget =
          let nodes : List (Node State Cost) = nodes_of w (next_of w words) bytes (path_by words w k) x.count in
          let z : limit - k ≡ suc (limit - suc k) = omega arith in
          ap (λ (left : ℕ). behind_end bytes w budget left (round_in bytes words plan w k x)) z
          ∙ not_at_end bytes w budget (limit - suc k) (round_in bytes words plan w k x)
          (rw (some_left nodes (omega (arith, nodes_length bytes (path_by words w k) la))) not_yet)
          ∙ rw (taken.nodes bytes, nodes_none w (next_of w words') bytes (path_by words' w (suc k)))

-- ---- a turn

module _ (budget : ℕ) {bytes outline words words₁ plan plan₁ : List ℕ} {w limit k n : ℕ} {x : Round} (ready : Ready bytes outline words plan w limit k n x) {v : Visited}
    (leaves : Leaves bytes outline words words₁ plan plan₁ w limit k x v (S.layer (costs_in bytes) (system_in bytes) budget w (limit - k) (current_of bytes words w k n))) where
  -- the run is over in the layer
  pub passes_over : (e : Ending) → v.next ≡ Err e → PassesLayer bytes outline words words₁ plan plan₁ w budget limit k n x (record { round = v.round; next = Err e })
  unfolding round_of
  passes_over e is-over =
      record {
        best_fits = leaves.best_fits;
        round_same = leaves.round_same;
        inside = subst (Inside w limit k) is-over leaves.inside;
        counted = nodes_length bytes (path_by words₁ w k) (layer_of leaves.held);
        going_on = λ nodes m. absurd (cc);
        ends = λ m. absurd (cc);
        over = λ e' m. let same : e ≡ e' = cc in rw (← same) over_still;
      }
    where
      over_still : layers_from bytes words plan w budget limit k n x ≡ result_of (path_by words₁ w k) (Err e) (round_in bytes words₁ plan₁ w k v.round)
      over_still =
          layers_by bytes w budget (limit - k) (current_of bytes words w k n) (round_in bytes words plan w k x)
          ∙ ap (λ (q : Result (S.Round State Cost) Cost). and_then q (λ r'. behind_end bytes w budget (limit - k) (layer_end (costs_in bytes) (system_in bytes) r')))
          (leaves.same ∙ ap (λ (q : P.Result (Unit {0}) Ending). result_of (path_by words w k) q (round_in bytes words₁ plan₁ w k v.round)) is-over)
          ∙ over_after (round_in bytes words₁ plan₁ w k v.round)
          ∙ ap (λ (p : ℕ → List ℕ). result_of p (Err e) (round_in bytes words₁ plan₁ w k v.round)) (sym (paths_kept words words₁ w (width_positive leaves.held) leaves.current leaves.rows k))
        where
          over_after : (r : S.Round State Cost) → and_then (result_of (path_by words w k) (Err e) r) (λ r'. behind_end bytes w budget (limit - k) (layer_end (costs_in bytes) (system_in bytes) r')) ≡ result_of (path_by words w k) (Err e) r
          over_after r = unfold result_of and_then in refl

  -- it goes on
  module _ (is-on : v.next ≡ Ok tt) {z : Round} (end : LayerEnds words₁ w v.round z) where
    -- the layer's nodes and its end, in the definition
    layer_same : S.layer (costs_in bytes) (system_in bytes) budget w (limit - k) (current_of bytes words w k n) (round_in bytes words plan w k x) ≡ on (round_in bytes words₁ plan₁ w k v.round)
    layer_same = leaves.same ∙ ap (λ (q : P.Result (Unit {0}) Ending). result_of (path_by words w k) q (round_in bytes words₁ plan₁ w k v.round)) is-on ∙ unfold result_of in refl

    layers_same : layers_from bytes words plan w budget limit k n x ≡ behind_end bytes w budget (limit - k) (round_in bytes words₁ plan₁ w k z)
    unfolding and_then
    layers_same =
        layers_by bytes w budget (limit - k) (current_of bytes words w k n) (round_in bytes words plan w k x)
        ∙ ap (λ (q : Result (S.Round State Cost) Cost). and_then q (λ r'. behind_end bytes w budget (limit - k) (layer_end (costs_in bytes) (system_in bytes) r'))) layer_same
        ∙ ap (behind_end bytes w budget (limit - k)) (end.same bytes plan₁ k)

    kept_within : x.count ≡ 0 → All (Within (ready.before + suc k)) (round_in bytes words₁ plan₁ w k z).kept
    unfolding round_of
    kept_within none_yet =
        end_within bytes budget w ready.before k (limit - k) (current_of bytes words w k n) (round_in bytes words plan w k x) (round_in bytes words₁ plan₁ w k v.round) (round_in bytes words₁ plan₁ w k z) ready.costs
        (rw none_yet (nodes_none w (next_of w words) bytes (path_by words w k)))
        layer_same (end.same bytes plan₁ k)

    pub passes_on : x.count ≡ 0 → length plan₁ ≡ length plan → {words₂ : List ℕ} {y : Round} {follows : P.Option ℕ} → EntersNext words₁ words₂ w limit k z y follows
        → PassesLayer bytes outline words words₂ plan plan₁ w budget limit k n x (record { round = y; next = Ok follows })
    unfolding round_of
    passes_on none_yet plan_same {words₂} {y} {follows} moved =
        record {
          best_fits = fits;
          round_same = moved.round_same ∙ end.round_same ∙ leaves.round_same;
          inside = tt;
          counted = nodes_length bytes (path_by words₂ w k) moved.layer;
          going_on = λ nodes m. let some_nodes : follows ≡ Some nodes = cc in onward (moved.going_on nodes some_nodes);
          ends = λ m. let at_its_end : follows ≡ None = cc in layers_same ∙ moved.ends at_its_end bytes plan₁ budget;
          over = λ e m. absurd (cc);
        }
      where
        fits : BestFits limit y.progress.best
        fits = rw (moved.best_same, end.best_same) leaves.best_fits

        onward : {nodes : ℕ} → Onward words₁ words₂ w limit k z y nodes
            → (k < limit) × (y.count ≡ 0) × Ready bytes outline words₂ plan₁ w limit (suc k) nodes y × (layers_from bytes words plan w budget limit k n x ≡ layers_from bytes words₂ plan₁ w budget limit (suc k) nodes y)
        onward o = (
          o.further,
          o.none_yet,
          record {
            outlined = ready.outlined;
            held = rw o.none_yet (o.taken.held outline);
            narrow = ready.narrow;
            depth = omega (arith, o.further);
            before = ready.before;
            few_steps = ready.few_steps;
            plan_room = omega (arith, ready.plan_room);
            best_fits = fits;
            few_nodes = omega (arith, o.as_many, few_in end.layer);
            costs = rw (o.as_many, o.taken.nodes bytes) (kept_within none_yet);
          },
          layers_same ∙ o.same bytes plan₁ budget,
        )

-- the back pointers of layer k + 1 have room
pub rows_fit : (w limit k l : ℕ) → k < limit → backs_at * w + w * (limit + 1) ≤ l → backs_at * w + (k + 2) * w ≤ l
rows_fit w limit k l less h =
    let a : k + 2 ≤ limit + 1 = omega arith in
    let b : w ≤ w = omega arith in
    let m : (k + 2) * w ≤ (limit + 1) * w = mul-le-mul a b in
    omega (arith, mul_comm w (limit + 1))
