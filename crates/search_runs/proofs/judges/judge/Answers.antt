-- `search_runs::judges::judge` meets its contract: each way by its law.
use mathlib.Core.Path.{sym, ◌∙◌}
use Rattle.search_runs.proofs.Judging.{judged_cheapest, judged_no_plan, judged_better, judged_width_stop, judged_wider, judged_length_stop}
use Rattle.search_runs.proofs.judges.judge.Goals as goal

pub returns-in-Some : goal.returns-in-Some
returns-in-Some c =
    judged_cheapest _ _ (sym c.nothing_left.ensures ∙ c.if-nothing_left.true) c.in-Some.is

pub returns-in-None : goal.returns-in-None
returns-in-None c =
    judged_no_plan _ _ (sym c.nothing_left.ensures ∙ c.if-nothing_left.true) c.in-None.is

pub returns-then-round : goal.returns-then-round
returns-then-round c =
    judged_better _ _ (sym c.nothing_left.ensures ∙ c.if-nothing_left.false) c.if-round.true

pub returns-then-widest : goal.returns-then-widest
returns-then-widest c =
    judged_width_stop _ _ (sym c.nothing_left.ensures ∙ c.if-nothing_left.false)
    c.if-round.false c.if-round-2.true c.if-widest.true

pub returns-then-round-2 : goal.returns-then-round-2
returns-then-round-2 c =
    judged_wider _ _ (sym c.nothing_left.ensures ∙ c.if-nothing_left.false)
    c.if-round.false c.if-round-2.true c.if-widest.false

pub returns : goal.returns
returns c =
    judged_length_stop _ _ (sym c.nothing_left.ensures ∙ c.if-nothing_left.false) c.if-round.false c.if-round-2.false
