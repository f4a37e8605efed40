-- Document 02, §1, of any system: a start that breaks a constraint, or has trouble in one or in its h, ends the run at once.
-- Every field of the answer is known.
use Prim.Native.Nat.{ℕ}
use mathlib.Core.Path.{◌≡◌}
use mathlib.Core.Bool.{true, false}
use mathlib.Core.List.{List, []}
use Rattle.model.specs.Values.{value, trouble}
use Rattle.model.specs.System.{Costs, System, Origin}
use Rattle.search.specs.Answer.{no_plan, verdict, by_state}
use Rattle.search.specs.Search.{has_plan, best_cost, best_steps, bound_at, tally_of, answer_of, answer, untouched, refused_at_start, begin, enter, search_within, search}

module _ {S C : Type 0} (K : Costs C) (M : System S C) (o : Origin S C) (budget limit width : ℕ) (wider : List ℕ) where
  -- "the verdict is 1 with no expansion, one round begun", the first width and bound 0
  pub broken_start : M.admits o.start ≡ value false → search K M budget limit width wider o
      ≡ record { outcome = verdict no_plan; flag = false; cost = K.empty; bound = K.empty; steps = []; tally = record { expansions = 0; rounds = 1; width = width } }
  unfolding search search_within enter answer answer_of has_plan best_cost best_steps bound_at tally_of untouched
  broken_start e = rw e

  -- trouble is a refusal by the state, with the empty path
  pub troubled_start : {t : ℕ} → M.admits o.start ≡ trouble t → search K M budget limit width wider o
      ≡ record { outcome = by_state t; flag = false; cost = o.spent; bound = K.empty; steps = []; tally = record { expansions = 0; rounds = 1; width = width } }
  unfolding search search_within enter answer answer_of tally_of refused_at_start untouched
  troubled_start e = rw e

  -- trouble in h is the same refusal, behind constraints that are met
  pub unbounded_start : {t : ℕ} → M.admits o.start ≡ value true → M.bound o.start ≡ trouble t → search K M budget limit width wider o
      ≡ record { outcome = by_state t; flag = false; cost = o.spent; bound = K.empty; steps = []; tally = record { expansions = 0; rounds = 1; width = width } }
  unfolding search search_within enter begin answer answer_of tally_of refused_at_start untouched
  unbounded_start a e = rw (a, e)
