-- The gap of an answer is what is open between cost and bound: nothing is cut, and it is never 0.
use Prim.Native.Nat.{ℕ, ◌<◌}
use mathlib.Core.Path.{◌≡◌, refl}
use mathlib.Core.Bool.{true, false, false≢true}
use mathlib.Core.List.{List}
use Rattle.model.specs.Numbers.{range_end}
use Rattle.model.specs.declared.Cost.{Cost}
use Rattle.model.proofs.Real.{plan_no_moves, more_hours}
use Rattle.search.specs.Answer.{Answer}
use Rattle.search.specs.Run.{Settings, Lent, refused_by_input, run}
use Rattle.search.proofs.Source.{Source, input_refused, searched, run_source}
use Rattle.search.proofs.Mission.{a_plan_given_is_a_plan}
use Rattle.search.proofs.Gap.{stopped_bound_below_plan}
use Rattle.solver.specs.Searches.{settings, lent_of}
use Rattle.month_figures.specs.Closing.{answered, is_open}
use Rattle.month_figures.proofs.Open.{open_is_stopped}
use Rattle.month.specs.Month.{answer_to}

-- the plan of a run has no moves
run_no_moves : (most : ℕ) (bytes : List ℕ) (q : Settings) (l : Lent) → (run most bytes q l).flag ≡ true → (run most bytes q l).cost.moves ≡ 0
run_no_moves most bytes q l e = by_source (run most bytes q l) (run_source bytes q l most) refl
  where
    by_source : (a : Answer Cost) → Source bytes q l a → run most bytes q l ≡ a → (run most bytes q l).cost.moves ≡ 0
    by_source a (input_refused t r) same = let none-given : false ≡ true = unfold refused_by_input in (rw same at e) in absurd (false≢true none-given)
    by_source a (searched m x) same = plan_no_moves range_end m (a_plan_given_is_a_plan most bytes q l m x.used x.reads e).plan

pub gap_exact : (bytes : List ℕ) → is_open (answered (answer_to bytes)) ≡ true → (answer_to bytes).bound.high < (answer_to bytes).cost.high
gap_exact bytes e =
    let stopped = open_is_stopped (answer_to bytes) e in
    let q = settings 16 64 100000 in
    let l = lent_of 64 2064 in
    more_hours (run 16384 bytes q l).cost (run 16384 bytes q l).bound (run_no_moves 16384 bytes q l stopped.1) (stopped_bound_below_plan 16384 bytes q l stopped.0 stopped.1)
