-- What a report comes to: the answer's fields and the plan buffer by the ending, and the fields in numbers.
use Prim.Native.Nat.{ℕ, suc, ◌+◌, ◌≤◌, ◌<◌}
use mathlib.Core.Path.{◌≡◌, refl, sym, ap, ◌∙◌, subst}
use mathlib.Core.Bool.{Bool, true, false}
use mathlib.Core.List.{List, [], ◌∷◌, ◌++◌, reverse, reverse-cons, reverse-reverse}
use native.Mathlib.Omega.{arith}
use Rattle.std.specs.Prelude.{Some, None, Ok, Err}
use lib.ListN.{length, take, drop, get_or, set, length-reverse}
use lib.Seq.{drop-cons, set_at, length-take-le, append_snoc}
use Rattle.model.specs.declared.Cost.{Cost}
use Rattle.model.specs.Costs.{free}
use Rattle.search.specs.Answer as A
use Rattle.search.specs.Answer.{verdict, buffer_after}
use Rattle.search.specs.Search.{bound_at, best_cost, best_steps, has_plan, tally_of, answer_of}
use Rattle.steps.specs.InBytes.{system_in}
use Rattle.steps.specs.Follow.{costs_in}
use Rattle.search_paths.specs.Routes.{path_by}
use Rattle.search_paths.proofs.Tracing.{path_length}
use Rattle.search_visits.specs.Work.{verdict_of, best_of, progress_of, ending_of, EndsInside}
use Rattle.search_report.specs.Answers.{refusal_of, outcome_of, AnswerIs, Reports}
use Rattle.search_report.specs.Reported.{BoundIs, decided_answer, Decides, Refuses}
use Rattle.search_visits.specs.declared.work.Verdict.{Verdict}
use Rattle.search_visits.specs.declared.work.Verdict.TheVariants as W
use Rattle.search_visits.specs.declared.work.Progress.{Progress}
use Rattle.search_visits.specs.declared.work.Ending.{Ending}
use Rattle.search_visits.specs.declared.work.Ending.TheVariants as E
use Rattle.search_expansion.specs.declared.trials.Found.{Found}
use Rattle.search_report.specs.declared.answers.Refusal.TheVariants as R
use Rattle.search_report.specs.declared.answers.Answer.{Answer}
use Rattle.search_runs.specs.declared.Stop.{Stop}

-- ---- bytes

-- a path is written first step first, in front of what stays of the buffer
pub path_front : (plan path : List ℕ) (k : ℕ) → length path ≡ k → reverse path ++ drop k plan ≡ reverse path ++ drop (length (reverse path)) plan
path_front plan path k e = ap (λ (n : ℕ). reverse path ++ drop n plan) (sym e ∙ sym (length-reverse path))

-- one step more
pub step_written : (plan path : List ℕ) (t k : ℕ) → length path ≡ k → k < length plan
    → set (reverse path ++ drop k plan) k t ≡ reverse (t ∷ path) ++ drop (length (reverse (t ∷ path))) plan
step_written plan path t k e h =
    let front : length (reverse path) ≡ k = length-reverse path ∙ e in
    let all : length (reverse (t ∷ path)) ≡ suc k = length-reverse (t ∷ path) ∙ ap suc e in
    ap (λ (l : List ℕ). set (reverse path ++ l) k t) (drop-cons plan k 0 h)
    ∙ set_at (reverse path) (get_or plan k 0) (drop (suc k) plan) t k front
    ∙ sym (append_snoc (reverse path) t (drop (suc k) plan))
    ∙ ap (λ (l : List ℕ). l ++ drop (suc k) plan) (sym (reverse-cons t path))
    ∙ ap (λ (n : ℕ). reverse (t ∷ path) ++ drop n plan) (sym all)

-- ---- the bound

module _ (v : Verdict) (p : Progress) where
  pub bound_cost : {found : Found} → v ≡ W.Cheapest → p.best ≡ Some found → BoundIs v p found.cost
  unfolding verdict_of bound_at progress_of best_of best_cost
  bound_cost e f = record { same = λ bytes best. rw (e, f) }

  pub bound_without : v ≡ W.Cheapest → p.best ≡ None → BoundIs v p free
  unfolding verdict_of bound_at progress_of best_of best_cost Rattle.model.specs.Costs.costs_of
  bound_without e f = record { same = λ bytes best. rw (e, f) }

-- ---- the answer

pub answer_same : {a b : A.Answer Cost} (x : Answer) → a ≡ b → AnswerIs b x → AnswerIs a x
answer_same x e h = subst (λ (a : A.Answer Cost). AnswerIs a x) (sym e) h

module _ (best plan plan' : List ℕ) (v : Verdict) (stop : Stop) (h : Cost) (b : BoundIs v stop.progress h) where
  abbrev fields_with : (bytes : List ℕ) (flag : Bool) (cost : Cost) (steps : List ℕ) → A.Answer Cost
  fields_with bytes flag cost steps =
      record {
        outcome = verdict (verdict_of v);
        flag = flag;
        cost = cost;
        bound = bound_at (costs_in bytes) (system_in bytes) (verdict_of v) (progress_of best stop.progress);
        steps = steps;
        tally = record { expansions = stop.progress.tally.expansions; rounds = stop.progress.tally.rounds; width = stop.progress.tally.width };
      }

  with_plan : (bytes : List ℕ) {found : Found} → stop.progress.best ≡ Some found → decided_answer bytes best v stop ≡ fields_with bytes true found.cost (take found.length best)
  unfolding answer_of has_plan best_cost best_steps tally_of progress_of best_of
  with_plan bytes f = rw (f, reverse-reverse)

  without_plan : (bytes : List ℕ) → stop.progress.best ≡ None → decided_answer bytes best v stop ≡ fields_with bytes false free []
  unfolding answer_of has_plan best_cost best_steps tally_of progress_of best_of Rattle.model.specs.Costs.costs_of
  without_plan bytes f = rw f

  pub decides_found : {found : Found} → stop.progress.best ≡ Some found → found.length ≤ length best → plan' ≡ take found.length best ++ drop found.length plan
      → Decides best plan plan' v stop (record { outcome = Ok v; flag = true; cost = found.cost; bound = h; length = found.length; tally = stop.progress.tally })
  unfolding outcome_of buffer_after
  decides_found {found} f room e =
      let whole : length (take found.length best) ≡ found.length = length-take-le found.length best room in
      record {
        answer = λ bytes. answer_same _ (with_plan bytes f)
            (record { outcome = refl; flag = refl; cost = refl; bound = b.same bytes best; length_is = sym whole; expansions = refl; rounds = refl; width = refl });
        plan_after = λ bytes. rw (with_plan bytes f, whole) e;
      }

  pub decides_none : stop.progress.best ≡ None → plan' ≡ plan
      → Decides best plan plan' v stop (record { outcome = Ok v; flag = false; cost = free; bound = h; length = 0; tally = stop.progress.tally })
  unfolding outcome_of buffer_after
  decides_none f e =
      record {
        answer = λ bytes. answer_same _ (without_plan bytes f)
            (record { outcome = refl; flag = refl; cost = refl; bound = b.same bytes best; length_is = refl; expansions = refl; rounds = refl; width = refl });
        plan_after = λ bytes. rw (without_plan bytes f) e;
      }

pub refuses : (number : ℕ) (cost : Cost) (n : ℕ) (stop : Stop)
    → Refuses number cost n stop (record { outcome = Err (R.ByState number); flag = false; cost = cost; bound = stop.progress.low; length = n; tally = stop.progress.tally })
unfolding answer_of outcome_of refusal_of tally_of progress_of
refuses number cost n stop =
    record {
      answer = λ bytes best path e.
          record { outcome = refl; flag = refl; cost = refl; bound = refl; length_is = sym (length-reverse path ∙ e); expansions = refl; rounds = refl; width = refl };
    }

-- ---- by the ending

pub inside_at : {w limit k e i : ℕ} {c : Cost} (x : Ending) → x ≡ E.At e c i → EndsInside w limit k x → (i < w) × (k ≤ limit)
inside_at {w} {limit} {k} x eq h = subst (λ (y : Ending). EndsInside w limit k y) eq h

pub inside_beyond : {w limit k e i t : ℕ} {c : Cost} (x : Ending) → x ≡ E.Beyond e c i t → EndsInside w limit k x → (i < w) × (t < 256) × (k < limit)
inside_beyond {w} {limit} {k} x eq h = subst (λ (y : Ending). EndsInside w limit k y) eq h

module _ (words best plan : List ℕ) (stop : Stop) (x : Answer) where
  pub reports_decided : (plan' : List ℕ) (v : Verdict) → stop.ending ≡ E.Decided v → Decides best plan plan' v stop x → Reports words best plan plan' stop x
  unfolding ending_of
  reports_decided plan' v e d = record { answer = λ bytes. rw e (d.answer bytes); plan_after = λ bytes. rw e (d.plan_after bytes) }

  pub reports_at : (plan' : List ℕ) (e : ℕ) (c : Cost) (i : ℕ) → stop.ending ≡ E.At e c i → Refuses e c stop.layer stop x
      → plan' ≡ reverse (path_by words stop.progress.tally.width stop.layer i) ++ drop stop.layer plan → Reports words best plan plan' stop x
  unfolding ending_of buffer_after answer_of
  reports_at plan' e c i eq d p =
      let long : length (path_by words stop.progress.tally.width stop.layer i) ≡ stop.layer = path_length words stop.progress.tally.width stop.layer i in
      record {
        answer = λ bytes. rw eq (d.answer bytes best (path_by words stop.progress.tally.width stop.layer i) long);
        plan_after = λ bytes. rw eq (p ∙ path_front plan (path_by words stop.progress.tally.width stop.layer i) stop.layer long);
      }

  pub reports_beyond : (plan₁ : List ℕ) (e : ℕ) (c : Cost) (i t : ℕ) → stop.ending ≡ E.Beyond e c i t → stop.layer < length plan → Refuses e c (stop.layer + 1) stop x
      → plan₁ ≡ reverse (path_by words stop.progress.tally.width stop.layer i) ++ drop stop.layer plan → Reports words best plan (set plan₁ stop.layer t) stop x
  unfolding ending_of buffer_after answer_of
  reports_beyond plan₁ e c i t eq room d p =
      let long : length (path_by words stop.progress.tally.width stop.layer i) ≡ stop.layer = path_length words stop.progress.tally.width stop.layer i in
      let more : length (t ∷ path_by words stop.progress.tally.width stop.layer i) ≡ stop.layer + 1 = omega arith in
      record {
        answer = λ bytes. rw eq (d.answer bytes best (t ∷ path_by words stop.progress.tally.width stop.layer i) more);
        plan_after = λ bytes. rw eq (ap (λ (l : List ℕ). set l stop.layer t) p ∙ step_written plan (path_by words stop.progress.tally.width stop.layer i) t stop.layer long room);
      }
