-- A layer node by node: what is left of it to take, and the working words in between.
use Prim.Native.Nat.{ℕ, suc, ◌+◌, ◌*◌, ◌-◌, ◌≤◌, ◌<◌}
use mathlib.Core.Path.{◌≡◌, refl, sym, ap, ◌∙◌, subst}
use mathlib.Core.List.{List}
use mathlib.Core.Bool.{true, false}
use Rattle.std.specs.Prelude as P
use Rattle.std.specs.Prelude.{Ok, Err, is_err}
use native.Mathlib.Omega.{arith}
use native.Mathlib.Numerals.{add-one}
use lib.ListN.{length, take, drop}
use Rattle.laws.specs.Lists.{All}
use Rattle.model.specs.Meaning.{State}
use Rattle.model.specs.declared.Cost.{Cost}
use Rattle.search.specs.Search.{Node, Result, and_then, visit, layer}
use Rattle.search.specs.Search as S
use Rattle.beam_order.specs.Slots.{words_in, next_at, next_end}
use Rattle.steps.specs.InBytes.{system_in}
use Rattle.steps.specs.Follow.{costs_in}
use Rattle.beam.specs.Nodes.{node_at}
use Rattle.beam.proofs.Moves.{width_positive}
use Rattle.search_paths.specs.Routes.{path_by, nodes_from, current_of}
use Rattle.beam.proofs.Written.{slot_first}
use Rattle.search_paths.proofs.Gathering.{paths_kept, current_kept}
use Rattle.search_visits.specs.Work.{result_of, round_begun, round_in, Within, Ready, Leaves}
use Rattle.search_visits.specs.declared.work.Round.{Round}
use Rattle.search_visits.specs.declared.work.Ending.{Ending}
use Rattle.search_visits.specs.declared.work.Visited.{Visited}

-- ---- i nodes are taken

pub record Halfway (bytes outline words plan words' plan' : List ℕ) (w budget limit k n i : ℕ) (x x' : Round) : Type 0 where
  pub ready : Ready bytes outline words' plan' w limit k n x'
  pub within : i ≤ n
  pub round_same : round_begun x'.progress ≡ round_begun x.progress
  pub room_same : length words' ≡ length words
  pub plan_same : length plan' ≡ length plan
  pub current : take (next_at * w) words' ≡ take (next_at * w) words
  pub rows : drop (next_end * w) words' ≡ drop (next_end * w) words
  pub same : layer (costs_in bytes) (system_in bytes) budget w (limit - k) (current_of bytes words w k n) (round_in bytes words plan w k x)
      ≡ layer (costs_in bytes) (system_in bytes) budget w (limit - k) (nodes_from bytes (path_by words w k) words (n - i) i) (round_in bytes words' plan' w k x')

pub halfway_first : (bytes outline words plan : List ℕ) (w budget limit k n : ℕ) (x : Round) → Ready bytes outline words plan w limit k n x → Halfway bytes outline words plan words plan w budget limit k n 0 x x
halfway_first bytes outline words plan w budget limit k n x r =
    let z : n - 0 ≡ n = omega arith in
    record { ready = r; within = omega arith; round_same = refl; room_same = refl; plan_same = refl; current = refl; rows = refl; same = rw z }

module _ {bytes outline words plan words' plan' : List ℕ} {w budget limit k n i : ℕ} {x x' : Round} (h : Halfway bytes outline words plan words' plan' w budget limit k n i x x') where
  abbrev rest : (m j : ℕ) → S.Round State Cost → Result (S.Round State Cost) Cost
  rest m j r = layer (costs_in bytes) (system_in bytes) budget w (limit - k) (nodes_from bytes (path_by words w k) words m j) r

  pub layer_done : n ≤ i → Leaves bytes outline words words' plan plan' w limit k x (record { round = x'; next = Ok tt }) (layer (costs_in bytes) (system_in bytes) budget w (limit - k) (current_of bytes words w k n))
  layer_done b =
      record {
        held = h.ready.held;
        best_fits = h.ready.best_fits;
        round_same = h.round_same;
        inside = tt {0};
        current = h.current;
        rows = h.rows;
        same = h.same ∙ none_left;
      }
    where
      none_left : rest (n - i) i (round_in bytes words' plan' w k x') ≡ result_of (path_by words w k) (Ok tt) (round_in bytes words' plan' w k x')
      none_left =
          unfold nodes_from layer result_of in
          let z : n - i ≡ 0 = omega arith in
          rw z

  module _ (less : i < n) (words'' plan'' : List ℕ) (y : Visited)
      (l : Leaves bytes outline words' words'' plan' plan'' w limit k x' y (visit (costs_in bytes) (system_in bytes) budget w (limit - k) ((system_in bytes).status (node_at bytes (path_by words' w k) i (words_in words' i)).state) (node_at bytes (path_by words' w k) i (words_in words' i))))
      (words_long : length words'' ≡ length words') (plan-long : length plan'' ≡ length plan')
    where
      abbrev next_node : Node State Cost
      next_node = node_at bytes (path_by words w k) i (words_in words i)

      some_width : 0 < w
      some_width = width_positive h.ready.held

      slots : words_in words' i ≡ words_in words i
      slots = slot_first words words' (next_at * w) i h.current (omega (arith, h.ready.few_nodes))

      visited : visit (costs_in bytes) (system_in bytes) budget w (limit - k) ((system_in bytes).status next_node.state) next_node (round_in bytes words' plan' w k x') ≡ result_of (path_by words w k) y.next (round_in bytes words'' plan'' w k y.round)
      visited =
          subst (λ (p : ℕ → List ℕ). visit (costs_in bytes) (system_in bytes) budget w (limit - k) ((system_in bytes).status (node_at bytes p i (words_in words i)).state) (node_at bytes p i (words_in words i)) (round_in bytes words' plan' w k x') ≡ result_of p y.next (round_in bytes words'' plan'' w k y.round))
          (paths_kept words words' w some_width h.current h.rows k)
          (subst (λ (s : List ℕ). visit (costs_in bytes) (system_in bytes) budget w (limit - k) ((system_in bytes).status (node_at bytes (path_by words' w k) i s).state) (node_at bytes (path_by words' w k) i s) (round_in bytes words' plan' w k x') ≡ result_of (path_by words' w k) y.next (round_in bytes words'' plan'' w k y.round))
          slots l.same)

      turned : layer (costs_in bytes) (system_in bytes) budget w (limit - k) (current_of bytes words w k n) (round_in bytes words plan w k x) ≡ and_then (result_of (path_by words w k) y.next (round_in bytes words'' plan'' w k y.round)) (λ r. rest (n - suc i) (suc i) r)
      turned = h.same ∙ one_further ∙ ap (λ (q : Result (S.Round State Cost) Cost). and_then q (λ r. rest (n - suc i) (suc i) r)) visited
        where
          one_further : rest (n - i) i (round_in bytes words' plan' w k x') ≡ and_then (visit (costs_in bytes) (system_in bytes) budget w (limit - k) ((system_in bytes).status next_node.state) next_node (round_in bytes words' plan' w k x')) (λ r. rest (n - suc i) (suc i) r)
          one_further =
              unfold nodes_from layer in
              let z : n - i ≡ suc (n - suc i) = omega arith in
              rw z

      ready'' : Ready bytes outline words'' plan'' w limit k n y.round
      ready'' =
          record {
            outlined = h.ready.outlined;
            held = l.held;
            narrow = h.ready.narrow;
            depth = h.ready.depth;
            before = h.ready.before;
            few_steps = h.ready.few_steps;
            plan_room = omega (arith, h.ready.plan_room, plan-long);
            best_fits = l.best_fits;
            few_nodes = h.ready.few_nodes;
            costs = subst (All (Within (h.ready.before + k))) (sym (current_kept words' words'' w some_width l.current l.rows bytes k n h.ready.few_nodes)) h.ready.costs;
          }

      pub halfway_more : is_err y.next ≡ false → Halfway bytes outline words plan words'' plan'' w budget limit k n (i + 1) x y.round
      unfolding and_then result_of
      halfway_more goes = by_next y.next refl goes
        where
          by_next : (q : P.Result (Unit {0}) Ending) → y.next ≡ q → is_err q ≡ false → Halfway bytes outline words plan words'' plan'' w budget limit k n (i + 1) x y.round
          by_next (Ok _) e _ =
              let z : i + 1 ≡ suc i = add-one i in
              record {
                ready = ready'';
                within = omega arith;
                round_same = l.round_same ∙ h.round_same;
                room_same = words_long ∙ h.room_same;
                plan_same = plan-long ∙ h.plan_same;
                current = l.current ∙ h.current;
                rows = l.rows ∙ h.rows;
                same = rw z (rw e at turned);
              }
          by_next (Err _) e f = absurd (cc)

      pub layer_over : is_err y.next ≡ true → Leaves bytes outline words words'' plan plan'' w limit k x y (layer (costs_in bytes) (system_in bytes) budget w (limit - k) (current_of bytes words w k n))
      unfolding and_then result_of
      layer_over ends = by_next y.next refl ends
        where
          by_next : (q : P.Result (Unit {0}) Ending) → y.next ≡ q → is_err q ≡ true → Leaves bytes outline words words'' plan plan'' w limit k x y (layer (costs_in bytes) (system_in bytes) budget w (limit - k) (current_of bytes words w k n))
          by_next (Ok _) e f = absurd (cc)
          by_next (Err _) e _ =
              record {
                held = l.held;
                best_fits = l.best_fits;
                round_same = l.round_same ∙ h.round_same;
                inside = l.inside;
                current = l.current ∙ h.current;
                rows = l.rows ∙ h.rows;
                same = rw e (rw e at turned);
              }
