-- `prepare::guards::guards` meets its contract. The invariant: the guards of the transitions passed are put.
use mathlib.Core.Path.{◌≡◌, ◌∙◌}
use native.Mathlib.Omega.{arith}
use lib.ListN.{length}
use Rattle.laws.proofs.Lists.{found_below}
use Rattle.outline.specs.Outline.{model_of}
use Rattle.prepare.proofs.Loops.{guards_more}
use Rattle.prepare.proofs.guards.guards.Goals as goal

pub loop-t-preserved : goal.loop-t-preserved
loop-t-preserved c =
    guards_more _ c.loop-t.invariant c.word_at-at.ensures c.guard_of-g.ensures c.put_guard.ensures.put c.put_guard.ensures.kept

pub returns : goal.returns
returns c =
    let counted : c.word_at-all.result ≡ length (model_of c.args.model.now).transitions = c.word_at-all.ensures ∙ c.requires.outlines.transition_count in
    let done = c.loop-t.invariant in
    record { kept = done.kept; guards = λ t x e. done.guards t (omega (arith, found_below (model_of c.args.model.now).transitions t e, c.loop-t-test.false, counted)) x e }
