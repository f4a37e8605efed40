-- Rule 7 on the code's record: each way to a judgement.
use Prim.Native.Nat.{ℕ}
use mathlib.Core.Path.{◌≡◌, sym, ap}
use mathlib.Core.Bool.{Bool, true, false, not, ◌&&◌}
use mathlib.Core.List.{List, [], ◌∷◌}
use Rattle.std.specs.Prelude.{Some, None}
use lib.Dec.{eqb}
use lib.ListN.{length}
use borrow.Author.Tests.{eq-eqb, ne_eqb}
use native.Mathlib.Omega.{arith}
use Rattle.laws.specs.Lists.{is_empty}
use Rattle.model.specs.Meaning.{State}
use Rattle.model.specs.declared.Cost.{Cost}
use Rattle.search.specs.Search.{Node}
use Rattle.search.specs.Search as S
use Rattle.search_visits.specs.declared.work.Verdict.TheVariants as W
use Rattle.search_visits.specs.declared.work.Round.{Round}
use Rattle.search_expansion.specs.declared.trials.Found.{Found}
use Rattle.search_visits.specs.Work.{round_of, progress_of, best_of, verdict_of}
use Rattle.search_runs.specs.Runs.{Judges, judgement_of}
use Rattle.search_runs.specs.Widths.{nothing_left}

-- none remaining, by their count
none_left : {A : Type 0} (kept : List A) (n : ℕ) → length kept ≡ n → is_empty kept ≡ eqb n 0
unfolding is_empty
none_left [] n e = sym (eq-eqb n 0 (sym e))
none_left (x ∷ kept) n e = sym (ne_eqb n 0 (λ z. omega arith))

-- "No mark and none remaining", of the definition's round
same_test : (kept : List (Node State Cost)) (plan : List ℕ) (x : Round) → length kept ≡ x.count
    → (not (round_of kept plan x).width_mark && not (round_of kept plan x).length_mark && is_empty (round_of kept plan x).kept) ≡ nothing_left x
unfolding round_of nothing_left
same_test kept plan x e = ap (λ b. not x.marks.width && not x.marks.length && b) (none_left kept x.count e)

module _ (widest : Bool) (x : Round) where
  pub judged_cheapest : {found : Found} → nothing_left x ≡ true → x.progress.best ≡ Some found → Judges widest x (Some W.Cheapest)
  unfolding S.judge S.end_with S.exhausted judgement_of verdict_of round_of progress_of best_of
  judged_cheapest d f = record { same = λ bytes plan kept e. rw (same_test kept plan x e, d, f) }

  pub judged_no_plan : nothing_left x ≡ true → x.progress.best ≡ None → Judges widest x (Some W.NoPlan)
  unfolding S.judge S.end_with S.exhausted judgement_of verdict_of round_of progress_of best_of
  judged_no_plan d f = record { same = λ bytes plan kept e. rw (same_test kept plan x e, d, f) }

  pub judged_better : nothing_left x ≡ false → x.improved ≡ true → Judges widest x None
  unfolding S.judge S.end_with judgement_of round_of
  judged_better d i = record { same = λ bytes plan kept e. rw (same_test kept plan x e, d, i) }

  pub judged_width_stop : nothing_left x ≡ false → x.improved ≡ false → x.marks.width ≡ true → widest ≡ true → Judges widest x (Some W.WidthStop)
  unfolding S.judge S.end_with judgement_of verdict_of round_of
  judged_width_stop d i w a = record { same = λ bytes plan kept e. rw (same_test kept plan x e, d, i, w, a) }

  pub judged_wider : nothing_left x ≡ false → x.improved ≡ false → x.marks.width ≡ true → widest ≡ false → Judges widest x None
  unfolding S.judge S.end_with judgement_of round_of
  judged_wider d i w a = record { same = λ bytes plan kept e. rw (same_test kept plan x e, d, i, w, a) }

  pub judged_length_stop : nothing_left x ≡ false → x.improved ≡ false → x.marks.width ≡ false → Judges widest x (Some W.LengthStop)
  unfolding S.judge S.end_with judgement_of verdict_of round_of
  judged_length_stop d i w = record { same = λ bytes plan kept e. rw (same_test kept plan x e, d, i, w) }
