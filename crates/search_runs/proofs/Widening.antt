-- The rounds of a run: a round that is judged, and what the loop over the rounds keeps.
use Prim.Native.Nat.{ℕ, suc, ◌+◌, ◌-◌, ◌*◌, ◌≤◌, ◌<◌}
use mathlib.Core.Path.{◌≡◌, refl, sym, ap, subst, ◌∙◌}
use mathlib.Core.Bool.{Bool, true, ◌&&◌}
use mathlib.Core.List.{List}
use mathlib.Core.Option.{none}
use Rattle.std.specs.Prelude as P
use Rattle.std.specs.Prelude.{Some, None, Ok, Err}
use lib.Dec.{leb, eqb}
use lib.ListN.{length, get_or, drop}
use native.Mathlib.Omega.{arith}
use borrow.Author.Tests.{leb-true}
use Rattle.laws.proofs.Bools.{and_both}
use Rattle.model.specs.Numbers.{most_widths}
use native.Mathlib.Nat.{mul-le-mul_right}
use native.Mathlib.Numerals.{add-one}
use Rattle.model.specs.System.{Origin}
use Rattle.model.specs.Meaning.{State}
use Rattle.model.specs.declared.Cost.{Cost}
use Rattle.search.specs.Answer as A
use Rattle.search.specs.Search as S
use Rattle.search.specs.Run.{listed, rising_from, rising, widest_of}
use Rattle.search.proofs.Settings.{entry_fits, some_entries}
use Rattle.steps.specs.InBytes.{system_in}
use Rattle.steps.specs.Follow.{costs_in}
use Rattle.beam_order.specs.Slots.{f_of}
use Rattle.beam.specs.Nodes.{node_at}
use Rattle.beam.specs.Layers.{nodes_of}
use Rattle.search_visits.specs.declared.work.Verdict.{Verdict}
use Rattle.search_visits.specs.declared.work.Verdict.TheVariants as W
use Rattle.search_visits.specs.declared.work.Progress.{Progress}
use Rattle.search_visits.specs.declared.work.Ending.{Ending}
use Rattle.search_visits.specs.declared.work.Ending.TheVariants as E
use Rattle.search_rounds.specs.declared.Ended.{Ended}
use Rattle.search_runs.specs.declared.Judged.{Judged}
use Rattle.search_paths.specs.Routes.{RootIs, path_by, next_of}
use Rattle.search_visits.specs.Work.{verdict_of, best_of, BestFits, progress_of, round_of, round_in, ending_of, result_of}
use Rattle.search_rounds.specs.Rounds.{RoomFor, RoundEnds}
use Rattle.search_runs.specs.Runs.{Judges, judgement_of, Runs}
use Rattle.search_runs.specs.Widths.{begins_at, after_of, RoundJudged}
use Rattle.beam_widths.specs.Lists.{place_behind}
use Rattle.beam_widths.proofs.Places.{last_empty, next_inside, next_is, later_are}

-- ---- a round that is judged

module _ {bytes root words' plan plan' : List ℕ} {w budget limit : ℕ} {p : Progress} {y : Ended} (r : RoundEnds bytes root words' plan plan' w budget limit p y) where
  -- the run was over in the round
  pub round_over : {last : Bool} {e : Ending} → y.next ≡ Err e → RoundJudged bytes root words' plan plan' last budget limit w p (record { next = Err e; progress = y.round.progress; layer = y.layer })
  unfolding S.after_round result_of round_of after_of
  round_over over =
      record {
        best_fits = r.best_fits;
        round_same = r.round_same;
        inside = rw over at r.inside;
        same = λ o h is. rw (r.same o h is, over);
      }

  judge_same : {b : Bool} {j : P.Option Verdict} → Judges b y.round j
      → S.judge (costs_in bytes) (system_in bytes) b (round_in bytes words' plan' w y.layer y.round) ≡ judgement_of (costs_in bytes) (system_in bytes) j (progress_of plan' y.round.progress)
  unfolding round_of
  judge_same judged = judged.same bytes plan' (nodes_of w (next_of w words') bytes (path_by words' w y.layer) y.round.count) r.counted

  -- another round follows
  pub round_again : {last : Bool} {j : P.Option Verdict} → y.next ≡ Ok tt → Judges last y.round j → j ≡ None
      → RoundJudged bytes root words' plan plan' last budget limit w p (record { next = Ok tt; progress = y.round.progress; layer = y.layer })
  unfolding S.after_round result_of after_of judgement_of
  round_again on judged again =
      record {
        best_fits = r.best_fits;
        round_same = r.round_same;
        inside = tt;
        same = λ o h is. rw (r.same o h is, on, judge_same judged, again);
      }

  -- a verdict
  pub round_ended : {last : Bool} {j : P.Option Verdict} {v : Verdict} → y.next ≡ Ok tt → Judges last y.round j → j ≡ Some v
      → RoundJudged bytes root words' plan plan' last budget limit w p (record { next = Err (E.Decided v); progress = y.round.progress; layer = y.layer })
  unfolding S.after_round result_of after_of judgement_of ending_of
  round_ended on judged ended =
      record {
        best_fits = r.best_fits;
        round_same = r.round_same;
        inside = tt;
        same = λ o h is. rw (r.same o h is, on, judge_same judged, ended);
      }

-- ---- the loop over the rounds

-- a narrower round has room where the widest has
pub room_for : {words₀ plan₀ words plan : List ℕ} {widest limit w : ℕ} → RoomFor words₀ plan₀ widest limit → length words ≡ length words₀ → length plan ≡ length plan₀ → 0 < w → w ≤ widest → RoomFor words plan w limit
room_for {widest = widest} {limit = limit} {w = w} r a b pos le =
    let m : w * (limit + 1) ≤ widest * (limit + 1) = mul-le-mul_right (limit + 1) le in
    record {
      some_width = pos;
      narrow = omega (arith, r.narrow);
      few_steps = r.few_steps;
      plan_room = omega (arith, r.plan_room);
      words_room = omega (arith, r.words_room);
    }

-- a list that rises is short
pub few_entries : (ws : List ℕ) → rising ws ≡ true → length ws ≤ most_widths
unfolding rising
few_entries ws e = leb-true (length ws) most_widths (and_both (leb 1 (length ws)) (leb (length ws) most_widths) (and_both (leb 1 (length ws) && leb (length ws) most_widths) (rising_from 0 ws) e).0).1

-- the rounds from round k on, the widths behind this one being `wider`
abbrev rounds_from : (bytes plan : List ℕ) (budget limit : ℕ) (o : Origin State Cost) (h : Cost) (most width : ℕ) (wider : List ℕ) (k : ℕ) → Progress → A.Answer Cost
rounds_from bytes plan budget limit o h most width wider k p =
    S.rounds (costs_in bytes) (system_in bytes) most budget limit width wider k (S.root (costs_in bytes) (system_in bytes) o h) (progress_of plan p)

-- in the round that the tally tells, at this place of the list, the rounds that are left give the run's answer
pub record Widening (bytes root words₀ words plan₀ plan widths : List ℕ) (budget limit place : ℕ) (p : Progress) (most : ℕ) : Type 0 where
  pub same_words : length words ≡ length words₀
  pub same_plan : length plan ≡ length plan₀
  pub best_fits : BestFits limit p.best
  pub inside : place < length widths
  pub width_there : p.tally.width ≡ get_or widths place 0
  pub counted : p.tally.rounds + most ≡ budget + 2
  pub same : (o : Origin State Cost) (h : Cost) → RootIs bytes root o h
      → S.rounds (costs_in bytes) (system_in bytes) (suc budget) budget limit (get_or widths 0 0) (drop 1 widths) 1 (S.root (costs_in bytes) (system_in bytes) o h) (record { best = none; low = (costs_in bytes).combine o.spent h; expansions = 0 })
      ≡ rounds_from bytes plan budget limit o h most (get_or widths place 0) (drop (place + 1) widths) p.tally.rounds p

-- before any round: nothing is found
abbrev unbegun : (low : Cost) → Progress
unbegun low = record { best = None; low = low; tally = record { expansions = 0; rounds = 0; width = 0 } }

root_f : {bytes root : List ℕ} {o : Origin State Cost} {h : Cost} → RootIs bytes root o h → (costs_in bytes).combine o.spent h ≡ f_of root
unfolding node_at S.root
root_f is = sym (ap (λ (n : S.Node State Cost). n.f) is.node)

-- low is the root's f
pub widening_first : {bytes root words plan widths : List ℕ} {budget limit first : ℕ} {p : Progress} {low : Cost} → rising widths ≡ true → first ≡ get_or widths 0 0 → low ≡ f_of root → p ≡ begins_at first (unbegun low)
    → Widening bytes root words words plan plan widths budget limit 0 p (budget + 1)
unfolding progress_of best_of
widening_first {widths = widths} {budget = budget} rises e least begins =
    rw begins
    (record {
      same_words = refl;
      same_plan = refl;
      best_fits = tt;
      inside = some_entries widths rises;
      width_there = e;
      counted = omega arith;
      same = λ o h is. rw (root_f is, ← least, add-one budget);
    })

module _ {bytes root words₀ words plan₀ plan widths : List ℕ} {budget limit place : ℕ} {p : Progress} {most : ℕ} (s : Widening bytes root words₀ words plan₀ plan widths budget limit place p most) where
  abbrev width : ℕ
  width = get_or widths place 0

  abbrev k : ℕ
  k = p.tally.rounds

  abbrev last : Bool
  last = eqb (place + 1) (length widths)

  pub room : rising widths ≡ true → RoomFor words₀ plan₀ (widest_of (listed widths)) limit → RoomFor words plan width limit
  room rises r = let fits = entry_fits widths place rises s.inside in room_for r s.same_words s.same_plan fits.0 fits.1

  -- round k, then those behind it
  one_further : {words' plan' : List ℕ} {left : ℕ} {y : Judged} → most ≡ suc left → RoundJudged bytes root words' plan plan' last budget limit width p y → (o : Origin State Cost) (h : Cost) → RootIs bytes root o h
      → rounds_from bytes plan budget limit o h most width (drop (place + 1) widths) k p
      ≡ S.unless_over (costs_in bytes) (system_in bytes) k width (after_of (costs_in bytes) (system_in bytes) (path_by words' width y.layer) y.next (progress_of plan' y.progress))
      (λ q. S.rounds (costs_in bytes) (system_in bytes) left budget limit (get_or widths (place_behind (length widths) place) 0) (drop (place_behind (length widths) place + 1) widths) (suc k) (S.root (costs_in bytes) (system_in bytes) o h) q)
  unfolding S.rounds
  one_further e r o h is =
      let K = costs_in bytes in
      let M = system_in bytes in
      rw (e, last_empty widths place s.inside, r.same o h is, next_is widths place s.inside K M, later_are widths place s.inside K M)

  -- a round at the width of the place
  pub judged_there : {words' plan' : List ℕ} {y : Judged} {w : ℕ} → w ≡ width → RoundJudged bytes root words' plan plan' last budget limit w p y → RoundJudged bytes root words' plan plan' last budget limit width p y
  judged_there {words'} {plan'} {y} e r = subst (λ v. RoundJudged bytes root words' plan plan' last budget limit v p y) e r

  -- the round has left its number and its width in the tally
  module _ {words' plan' : List ℕ} {y : Judged} (r : RoundJudged bytes root words' plan plan' last budget limit width p y) where
    pub number_same : y.progress.tally.rounds ≡ k
    number_same = ap (λ (q : ℕ × ℕ). q.0) r.round_same

    width_same : y.progress.tally.width ≡ width
    width_same = ap (λ (q : ℕ × ℕ). q.1) r.round_same ∙ s.width_there

  pub widening_more : {words' plan' : List ℕ} {y : Judged} {place' next : ℕ} {p' : Progress} → 0 < most → RoundJudged bytes root words' plan plan' last budget limit width p y → y.next ≡ Ok tt
      → place' ≡ place_behind (length widths) place → next ≡ get_or widths place' 0 → p' ≡ begins_at next y.progress → length words' ≡ length words → length plan' ≡ length plan
      → Widening bytes root words₀ words' plan₀ plan' widths budget limit place' p' (most - 1)
  unfolding S.unless_over after_of progress_of
  widening_more {y = y} {next = next} pos r on goes e begins a b =
      let one : most ≡ suc (most - 1) = omega arith in
      rw (begins, goes)
      (record {
        same_words = a ∙ s.same_words;
        same_plan = b ∙ s.same_plan;
        best_fits = r.best_fits;
        inside = next_inside widths place s.inside;
        width_there = rw goes at e;
        counted = omega (arith, s.counted, number_same r);
        same = λ o h is. s.same o h is ∙ one_further one r o h is ∙ rw (on, number_same r, add-one k);
      })

  pub widening_over : rising widths ≡ true → {words' plan' : List ℕ} {y : Judged} {e : Ending} → 0 < most → RoundJudged bytes root words' plan plan' last budget limit width p y → y.next ≡ Err e
      → Runs bytes root words' plan' widths budget limit (record { ending = e; progress = y.progress; layer = y.layer })
  unfolding S.unless_over S.answer after_of progress_of
  widening_over rises pos r over =
      let one : most ≡ suc (most - 1) = omega arith in
      let fits = entry_fits widths place rises s.inside in
      record {
        best_fits = r.best_fits;
        some_width = rw (width_same r) fits.0;
        narrow = rw (width_same r) fits.1;
        inside = rw (width_same r) (rw over at r.inside);
        same = λ o h is. rw (number_same r, width_same r) (s.same o h is ∙ one_further one r o h is ∙ rw over);
      }

  -- the definition's own last clause, which no run comes to
  pub widening_spent : rising widths ≡ true → most ≡ 0 → Runs bytes root words plan widths budget limit (record { ending = E.Decided W.BudgetSpent; progress = p; layer = 0 })
  unfolding S.rounds S.answer ending_of verdict_of progress_of
  widening_spent rises e =
      let fits = entry_fits widths place rises s.inside in
      record {
        best_fits = s.best_fits;
        some_width = rw s.width_there fits.0;
        narrow = rw s.width_there fits.1;
        inside = tt;
        same = λ o h is. rw s.width_there (s.same o h is ∙ rw e);
      }
