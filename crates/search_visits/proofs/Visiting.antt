-- One node of a layer: the parts of a visit on the records that stand for the definition's, and what they leave of the working words.
use Prim.Native.Nat.{ℕ, zero, suc, ◌+◌, ◌*◌, ◌-◌, ◌≤◌, ◌<◌, ◌^◌}
use mathlib.Core.Path.{◌≡◌, refl, sym, ap, ◌∙◌, subst}
use mathlib.Core.Bool.{Bool, true, false, ◌||◌}
use mathlib.Core.List.{List, ◌++◌, reverse, reverse-reverse}
use Rattle.std.specs.Prelude as P
use Rattle.std.specs.Prelude.{Some, None, Ok, Err}
use native.Mathlib.Decide.{dec_lt}
use native.Mathlib.Omega.{arith}
use native.Mathlib.Numerals.{add-one}
use borrow.Author.Tests.{lt-ltb, le-ltb}
use lib.ListN.{length, take, drop, length-reverse, length-drop, length-take}
use lib.Seq.{length-take-le, take_at, take_all}
use Rattle.laws.specs.Lists.{All}
use Rattle.model.specs.Meaning.{State}
use Rattle.model.specs.declared.Cost.{Cost}
use Rattle.model.specs.Costs.{at_most, CostBelow}
use Rattle.model.proofs.Ranges.{up_to_below}
use Rattle.search.specs.Search.{Node, Result, on, less, below_best, expand, new_best, improved_by, route_to, reached, at_limit, counted, advance, refuse, visit}
use Rattle.search.specs.Search as S
use Rattle.beam_order.specs.Slots.{slot_words, g_of, h_of, f_of, state_at, words_in, next_at, next_end}
use Rattle.std.specs.Prelude.{Ok, Err}
use Rattle.eval_sets.specs.declared.troubles.Trouble.{Trouble}
use Rattle.steps.specs.declared.answers.Status.TheVariants as A
use Rattle.steps.specs.Answers.{status_answer}
use Rattle.steps.specs.InBytes.{system_in, state_in}
use Rattle.steps.specs.Follow.{costs_in}
use Rattle.steps.proofs.Promises.{cost_order}
use Rattle.steps.proofs.Following.{is_base, is_unfinished_lem}
use Rattle.steps.proofs.Numbered.{Numbers, status_numbered}
use Rattle.beam.specs.Nodes.{state_words, node_at}
use Rattle.beam.specs.Layers.{nodes_of, Indexed, round_with}
use Rattle.beam.proofs.Whole.{put, put_in}
use Rattle.beam.proofs.Moves.{width_positive}
use Rattle.search_expansion.specs.Expansion.{BestIs, below_cost, halted, trial_result, Grows}
use Rattle.search_paths.specs.Routes.{path_by, next_of, nodes_from}
use Rattle.search_paths.proofs.Tracing.{path_length}
use Rattle.search_tally.specs.Tally.{one_more}
use Rattle.search_paths.proofs.Gathering.{paths_kept, making_first, making_last}
use Rattle.search_visits.specs.Work.{best_of, progress_of, round_of, round_begun, ending_of, result_of, verdict_of, round_in, BestFits, Within, Ready, Inside, Leaves}
use Rattle.search_visits.specs.Visits.{NewBest, Reached, Limited, Counted, Told, Met, Keeps}
use Rattle.search_expansion.specs.declared.trials.Halt.TheVariants as H
use Rattle.search_tally.specs.declared.Tally.{Tally}
use Rattle.search_expansion.specs.declared.trials.Expanded.{Expanded}
use Rattle.search_visits.specs.declared.work.Verdict.TheVariants as W
use Rattle.search_expansion.specs.declared.trials.Found.{Found}
use Rattle.search_visits.specs.declared.work.Round.{Round}
use Rattle.search_visits.specs.declared.work.Ending.TheVariants as E
use Rattle.search_visits.specs.declared.work.Visited.{Visited}

-- ---- the best plan

pub below_best_is : (bytes plan : List ℕ) (b : P.Option Found) (f : Cost) → below_best (costs_in bytes) (system_in bytes) f (best_of plan b) ≡ below_cost b f
unfolding below_best less best_of below_cost
below_best_is bytes plan None f = refl
below_best_is bytes plan (Some b) f = rw (cost_order bytes b.cost f)

pub best_is : (plan : List ℕ) (b : P.Option Found) → BestIs b (best_of plan b)
unfolding best_of
best_is plan None = tt
best_is plan (Some b) = refl

-- ---- rule 2: a new best

-- the round with a plan of k steps and cost g for its best
abbrev pub better : (k : ℕ) (g : Cost) → Round → Round
better k g x = record { count = x.count; marks = x.marks; improved = true; progress = record { best = Some (record { cost = g; length = k }); low = x.progress.low; tally = x.progress.tally } }

module _ (k : ℕ) (g : Cost) (x : Round) where
  pub best_cheapest : true ≡ at_most g x.progress.low → true ≡ at_most x.progress.low g → NewBest k g x (record { round = better k g x; next = Err (E.Decided W.Cheapest) })
  unfolding new_best improved_by route_to round_of progress_of best_of result_of ending_of verdict_of
  best_cheapest a b = record { count = refl; best = refl; round_same = refl; inside = λ w limit j. tt {0}; same = λ bytes kept plan plan' path n e p. rw (e, p, cost_order bytes g x.progress.low, cost_order bytes x.progress.low g, ← a, ← b) }

  pub best_contradicted : true ≡ at_most g x.progress.low → false ≡ at_most x.progress.low g → NewBest k g x (record { round = better k g x; next = Err (E.Decided W.Contradicted) })
  unfolding new_best improved_by route_to round_of progress_of best_of result_of ending_of verdict_of
  best_contradicted a b = record { count = refl; best = refl; round_same = refl; inside = λ w limit j. tt {0}; same = λ bytes kept plan plan' path n e p. rw (e, p, cost_order bytes g x.progress.low, cost_order bytes x.progress.low g, ← a, ← b) }

  pub best_on : false ≡ at_most g x.progress.low → NewBest k g x (record { round = better k g x; next = Ok tt })
  unfolding new_best improved_by route_to round_of progress_of best_of result_of
  best_on a = record { count = refl; best = refl; round_same = refl; inside = λ w limit j. tt {0}; same = λ bytes kept plan plan' path n e p. rw (e, p, cost_order bytes g x.progress.low, ← a) }

-- ---- rule 3: at the limit, counting, and the answer of an expansion

pub limited : (f : Cost) (x : Round) (t : Bool) → t ≡ (x.marks.length || below_cost x.progress.best f)
    → Limited f x (record { count = x.count; marks = record { width = x.marks.width; length = t }; improved = x.improved; progress = x.progress })
unfolding at_limit round_of progress_of
limited f x t e = record { count = refl; best = refl; round_same = refl; same = λ bytes kept plan n q. rw (e, q, below_best_is bytes plan x.progress.best f) }

pub counted_one : (x : Round) (t : Tally) → t ≡ one_more x.progress.tally → Counted x (record { count = x.count; marks = x.marks; improved = x.improved; progress = record { best = x.progress.best; low = x.progress.low; tally = t } })
unfolding counted round_of progress_of
counted_one x t e = rw e (record { best = refl; round_same = refl; same = λ bytes kept plan. rw (add-one x.progress.tally.expansions) })

module _ (g : Cost) (i : ℕ) (z : Expanded) (x : Round) (t : Bool) (m : t ≡ (x.marks.width || z.cut)) where
  abbrev after : Round
  after = record { count = z.count; marks = record { width = t; length = x.marks.length }; improved = x.improved; progress = x.progress }

  pub told_on : z.trial ≡ Ok tt → Told g i z x (record { round = after; next = Ok tt })
  unfolding trial_result round_with round_of result_of
  told_on e = record { count = refl; best = refl; round_same = refl; inside = λ w limit k s d h. tt {0}; same = λ before kept plan path n p q. rw (e, m) }

  pub told_before : {r : ℕ} → z.trial ≡ Err (H.Before r) → Told g i z x (record { round = after; next = Err (E.At r g i) })
  unfolding trial_result halted round_with round_of result_of ending_of
  told_before e = record { count = refl; best = refl; round_same = refl; inside = λ w limit k s d h. (s, omega arith); same = λ before kept plan path n p q. rw (e, p, q) }

  pub told_at : {r u : ℕ} {c : Cost} → z.trial ≡ Err (H.At r c u) → Told g i z x (record { round = after; next = Err (E.Beyond r c i u) })
  unfolding trial_result halted round_with round_of result_of ending_of
  told_at e = record { count = refl; best = refl; round_same = refl; inside = λ w limit k s d h. (s, rw e at h, d); same = λ before kept plan path n p q. rw (e, q) }

-- ---- rule 2: a base state

module _ (words plan : List ℕ) (w k i : ℕ) (g : Cost) (x : Round) where
  test : (bytes : List ℕ) (n : Node State Cost) → n.g ≡ g → {t : Bool} → t ≡ below_cost x.progress.best g → below_best (costs_in bytes) (system_in bytes) n.g (best_of plan x.progress.best) ≡ t
  test bytes n p b = below_best_is bytes plan x.progress.best n.g ∙ ap (below_cost x.progress.best) p ∙ sym b

  pub reached_best : (plan' : List ℕ) (y : Visited) → true ≡ below_cost x.progress.best g → take k plan' ≡ reverse (path_by words w k i) → NewBest k g x y → Reached words plan plan' w k i g x y
  unfolding reached round_of progress_of
  reached_best plan' y b e h =
      record {
        count = h.count;
        best_fits = λ limit a o. rw h.best a;
        round_same = h.round_same;
        inside = h.inside;
        same = λ bytes kept n p q.
            rw (test bytes n p b)
            (h.same bytes kept plan plan' (path_by words w k) n p (q ∙ sym (ap reverse e ∙ reverse-reverse (path_by words w k i))));
      }

  pub reached_worse : false ≡ below_cost x.progress.best g → Reached words plan plan w k i g x (record { round = x; next = Ok tt })
  unfolding reached round_of progress_of result_of
  reached_worse b =
      record {
        count = refl;
        best_fits = λ limit a o. o;
        round_same = refl;
        inside = λ v limit j. tt {0};
        same = λ bytes kept n p q. rw (test bytes n p b);
      }

-- ---- the working words

-- a held layer in the making has its room
pub room : {outline : List ℕ} {w n : ℕ} (words : List ℕ) → Indexed outline w n (next_of w words) → next_end * w ≤ length words
room {outline} {w} {n} words h = omega (arith, h.long, width_positive h, length-take (next_end * w - next_at * w) (drop (next_at * w) words), length-drop (next_at * w) words)

-- and so has each slot
pub slot_room : {outline : List ℕ} {w n : ℕ} (words : List ℕ) → Indexed outline w n (next_of w words) → (i : ℕ) → i < w → i * slot_words + slot_words ≤ length words
slot_room words h i less = omega (arith, room words h)

-- a node's state, copied out of its words
pub state_copied : (node state : List ℕ) → length node ≡ slot_words → state ≡ take (length node - state_at) (drop state_at node) → state ≡ state_words node
state_copied node state l e = e ∙ take_all (length node - state_at) (drop state_at node) (omega (arith, length-drop state_at node))

-- ---- what is left of the working words and the round, by each way of a visit

module _ (bytes outline words node : List ℕ) (w limit k i : ℕ) (x : Round) (m : Met bytes outline words node w limit k i x) where
  abbrev here : Node State Cost
  here = node_at bytes (path_by words w k) i node

  -- the words stay, and so many nodes are in the making
  stays : (plan plan' : List ℕ) (y : Visited) (rule : S.Round State Cost → Result (S.Round State Cost) Cost) → y.round.count ≡ x.count → BestFits limit y.round.progress.best → round_begun y.round.progress ≡ round_begun x.progress → Inside w limit k y.next
      → rule (round_in bytes words plan w k x) ≡ result_of (path_by words w k) y.next (round_of (nodes_of w (next_of w words) bytes (path_by words w k) x.count) plan' y.round)
      → Leaves bytes outline words words plan plan' w limit k x y rule
  unfolding round_of
  stays plan plan' y rule n b o s e = record { held = rw n m.held; best_fits = b; round_same = o; inside = s; current = refl; rows = refl; same = rw n e }

  -- rule 3: at the limit
  pub limit_leaves : (budget : ℕ) (x' : Round) {f : Cost} → f ≡ f_of node → k ≡ limit → Limited f x x' → Keeps bytes outline words words w limit k x (record { round = x'; next = Ok tt }) (advance (costs_in bytes) (system_in bytes) budget w (limit - k) here)
  unfolding advance result_of node_at
  limit_leaves budget x' known a h =
      let z : limit - k ≡ 0 = omega arith in
      record {
        leaves = λ plan. stays plan plan (record { round = x'; next = Ok tt }) (advance (costs_in bytes) (system_in bytes) budget w (limit - k) here) h.count (rw h.best m.best_fits) h.round_same (tt {0})
            (rw z (ap on (h.same bytes (nodes_of w (next_of w words) bytes (path_by words w k) x.count) plan here (sym known))));
      }

  -- rule 3: the budget is used up
  pub spent_leaves : (budget : ℕ) → k < limit → budget ≤ x.progress.tally.expansions → Keeps bytes outline words words w limit k x (record { round = x; next = Err (E.Decided W.BudgetSpent) }) (advance (costs_in bytes) (system_in bytes) budget w (limit - k) here)
  unfolding advance result_of ending_of verdict_of round_of progress_of
  spent_leaves budget a b =
      let z : limit - k ≡ suc (limit - k - 1) = omega arith in
      record {
        leaves = λ plan. stays plan plan (record { round = x; next = Err (E.Decided W.BudgetSpent) }) (advance (costs_in bytes) (system_in bytes) budget w (limit - k) here) refl m.best_fits refl (tt {0})
            (rw (z, le-ltb x.progress.tally.expansions budget b));
      }

  -- rule 3: one that is expanded
  pub expanded_leaves : (budget : ℕ) (words' : List ℕ) (y : Visited) → k < limit → x.progress.tally.expansions < budget
      → Keeps bytes outline words words' w limit k x y (λ q. expand (costs_in bytes) (system_in bytes) w (system_in bytes).transitions 0 here (counted (costs_in bytes) (system_in bytes) q))
      → Keeps bytes outline words words' w limit k x y (advance (costs_in bytes) (system_in bytes) budget w (limit - k) here)
  unfolding advance round_of progress_of
  expanded_leaves budget words' y a b h =
      let z : limit - k ≡ suc (limit - k - 1) = omega arith in
      record { leaves = λ plan. let l = h.leaves plan in record { held = l.held; best_fits = l.best_fits; round_same = l.round_same; inside = l.inside; current = l.current; rows = l.rows; same = rw (z, lt-ltb x.progress.tally.expansions budget b) l.same } }

  -- rule 4: what an expansion leaves
  abbrev Growing : (g : Cost) (state ys : List ℕ) → Expanded → Type 0
  Growing g state ys z = Grows bytes outline x.count (record { slot = i; g = g; width = w; best = x.progress.best }) state (next_of w words) ys z (λ n q. expand (costs_in bytes) (system_in bytes) w (system_in bytes).transitions 0 n q)

  -- of the node with these g and state
  module _ {g : Cost} (known : g ≡ g_of node) (state ys : List ℕ) (copied : state ≡ state_words node) (less : k < limit) (l : length ys ≡ length (next_of w words)) (z : Expanded)
      (grows : Growing g state ys z) (x' : Round) (one : Counted x x') (y : Visited) (told : Told g i z x' y)
    where
      abbrev words' : List ℕ
      words' = put (next_at * w) (next_end * w) words ys

      abbrev path : ℕ → List ℕ
      path = path_by words w k

      abbrev kept : List (Node State Cost)
      kept = nodes_of w (next_of w words) bytes path x.count

      abbrev kept' : List (Node State Cost)
      kept' = nodes_of w ys bytes path z.count

      inside_it : next_of w words' ≡ ys
      inside_it = put_in (next_at * w) (next_end * w) words ys (omega arith) (room words m.held) l

      current' : take (next_at * w) words' ≡ take (next_at * w) words
      current' = making_first words ys w (room words m.held) l

      rows' : drop (next_end * w) words' ≡ drop (next_end * w) words
      rows' = making_last words ys w (room words m.held) l

      grown : (plan : List ℕ) → expand (costs_in bytes) (system_in bytes) w (system_in bytes).transitions 0 here (counted (costs_in bytes) (system_in bytes) (round_of kept plan x)) ≡ result_of path y.next (round_of kept' plan y.round)
      unfolding counted round_of progress_of node_at
      grown plan =
          (subst (λ (s : List ℕ). Growing (g_of node) s ys z) copied (subst (λ (c : Cost). Growing c state ys z) known grows)).same path (h_of node) (f_of node) (counted (costs_in bytes) (system_in bytes) (round_of kept plan x)) refl (best_is plan x.progress.best)
          ∙ ap (λ (r : S.Round State Cost). trial_result z.trial here (round_with kept' z.cut r)) (one.same bytes kept plan)
          ∙ told.same kept kept' plan path here (sym known) refl

      pub grown_leaves : Keeps bytes outline words words' w limit k x y (λ q. expand (costs_in bytes) (system_in bytes) w (system_in bytes).transitions 0 here (counted (costs_in bytes) (system_in bytes) q))
      unfolding round_of
      grown_leaves =
          record {
            leaves = λ plan.
                record {
                  held = rw (told.count, inside_it) grows.held;
                  best_fits = rw (told.best, one.best) m.best_fits;
                  round_same = told.round_same ∙ one.round_same;
                  inside = told.inside w limit k m.slot less grows.numbered;
                  current = current';
                  rows = rows';
                  same = rw (told.count, inside_it, paths_kept words words' w (width_positive m.held) current' rows' k) (grown plan);
                };
          }

  -- ---- the three answers of the status

  abbrev rest : (budget : ℕ) → S.Round State Cost → Result (S.Round State Cost) Cost
  rest budget = visit (costs_in bytes) (system_in bytes) budget w (limit - k) ((system_in bytes).status here.state) here

  pub base_leaves : (budget : ℕ) (plan plan' : List ℕ) (y : Visited) {g : Cost} → g ≡ g_of node → Ok A.Base ≡ status_answer ((system_in bytes).status (state_in bytes (state_words node))) → Reached words plan plan' w k i g x y → Leaves bytes outline words words plan plan' w limit k x y (rest budget)
  unfolding visit node_at
  base_leaves budget plan plan' y known e h =
      stays plan plan' y (rest budget) h.count (h.best_fits limit m.depth m.best_fits) h.round_same (h.inside w limit k)
      (rw (is_base _ (sym e)) (h.same bytes (nodes_of w (next_of w words) bytes (path_by words w k) x.count) here (sym known) refl))

  pub advance_leaves : (budget : ℕ) (words' plan : List ℕ) (y : Visited) → Ok A.Unfinished ≡ status_answer ((system_in bytes).status (state_in bytes (state_words node)))
      → Keeps bytes outline words words' w limit k x y (advance (costs_in bytes) (system_in bytes) budget w (limit - k) here) → Leaves bytes outline words words' plan plan w limit k x y (rest budget)
  unfolding visit node_at
  advance_leaves budget words' plan y e h =
      let l = h.leaves plan in
      record { held = l.held; best_fits = l.best_fits; round_same = l.round_same; inside = l.inside; current = l.current; rows = l.rows; same = rw (is_unfinished_lem _ (sym e)) l.same }

  pub trouble_leaves : (budget : ℕ) (plan : List ℕ) {g : Cost} {u : Trouble} {t : ℕ} → g ≡ g_of node → Err u ≡ status_answer ((system_in bytes).status (state_in bytes (state_words node))) → Numbers u t → Leaves bytes outline words words plan plan w limit k x (record { round = x; next = Err (E.At t g i) }) (rest budget)
  unfolding visit refuse route_to node_at result_of ending_of round_of
  trouble_leaves budget plan {g} {t = t} known e numbers = stays plan plan (record { round = x; next = Err (E.At t g i) }) (rest budget) refl m.best_fits refl (m.slot, m.depth) (rw (status_numbered bytes (state_in bytes (state_words node)) (sym e) numbers, known))

-- ---- a path that was written

pub traced : (words plan plan' : List ℕ) (w k i : ℕ) → plan' ≡ reverse (path_by words w k i) ++ drop k plan → take k plan' ≡ reverse (path_by words w k i)
traced words plan plan' w k i e = ap (take k) e ∙ take_at (reverse (path_by words w k i)) (drop k plan) k (length-reverse (path_by words w k i) ∙ path_length words w k i)

-- ---- the node in slot i

module _ (bytes : List ℕ) (path : ℕ → List ℕ) (words : List ℕ) where
  -- what holds of n nodes from slot j on
  pub all_from : (P : Node State Cost → Type 0) (n j i : ℕ) → j ≤ i → i < j + n → All P (nodes_from bytes path words n j) → P (node_at bytes path i (words_in words i))
  unfolding nodes_from
  all_from P zero j i lo hi a = absurd (omega arith)
  all_from P (suc n) j i lo hi a = by_place (dec_lt j i) (λ h. all_from P n (suc j) i h (omega arith) a.1)
    where
      by_place : Dec (j < i) → (j < i → P (node_at bytes path i (words_in words i))) → P (node_at bytes path i (words_in words i))
      by_place (yes h) later = later h
      by_place (no h) later =
          let z : i ≡ j = omega arith in
          rw z a.0

module _ {bytes outline words plan : List ℕ} {w limit k n : ℕ} {x : Round} (r : Ready bytes outline words plan w limit k n x) (i : ℕ) (h : i < n) where
  slot_long : length (words_in words i) ≡ slot_words
  unfolding words_in
  slot_long =
      length-take-le slot_words (drop (i * slot_words) words)
      (omega (arith, slot_room words r.held i (omega (arith, r.few_nodes)), length-drop (i * slot_words) words))

  slot_small : CostBelow (2 ^ 63) (g_of (words_in words i))
  unfolding node_at
  slot_small = up_to_below (all_from bytes (path_by words w k) words (Within (r.before + k)) n 0 i (omega arith) (omega arith) r.costs) (omega (arith, r.depth, r.few_steps))

  pub met_at : Met bytes outline words (words_in words i) w limit k i x
  met_at =
      record {
        outlined = r.outlined;
        held = r.held;
        narrow = r.narrow;
        depth = r.depth;
        few_steps = omega (arith, r.few_steps);
        best_fits = r.best_fits;
        slot = omega (arith, r.few_nodes);
        long = slot_long;
        small = slot_small;
      }

pub visited_at : (bytes outline words words' plan plan' : List ℕ) (w budget limit k i : ℕ) (x : Round) (y : Visited) (node : List ℕ) → node ≡ words_in words i
    → Leaves bytes outline words words' plan plan' w limit k x y (visit (costs_in bytes) (system_in bytes) budget w (limit - k) ((system_in bytes).status (node_at bytes (path_by words w k) i node).state) (node_at bytes (path_by words w k) i node))
    → Leaves bytes outline words words' plan plan' w limit k x y (visit (costs_in bytes) (system_in bytes) budget w (limit - k) ((system_in bytes).status (node_at bytes (path_by words w k) i (words_in words i)).state) (node_at bytes (path_by words w k) i (words_in words i)))
visited_at bytes outline words words' plan plan' w budget limit k i x y node e l =
    subst (λ (s : List ℕ). Leaves bytes outline words words' plan plan' w limit k x y (visit (costs_in bytes) (system_in bytes) budget w (limit - k) ((system_in bytes).status (node_at bytes (path_by words w k) i s).state) (node_at bytes (path_by words w k) i s))) e l
