-- `prepare::conjuncts::guarded` meets its contract.
use mathlib.Core.Path.{sym, ◌∙◌}
use Rattle.prepare.proofs.Parting.{guarded_plain, guarded_test}
use Rattle.prepare.proofs.conjuncts.guarded.Goals as goal

pub returns-in-Some : goal.returns-in-Some
returns-in-Some c =
    guarded_test c.args.model.now c.args.at c.in-Some.t (sym c.byte_at.ensures ∙ c.if-byte_at-eq89.true) (sym c.byte_at-then-byte_at-eq89.ensures ∙ c.if-byte_at-eq87.true) c.in-Some.ensures.says

pub returns-else-byte_at-eq89 : goal.returns-else-byte_at-eq89
returns-else-byte_at-eq89 c =
    guarded_plain c.args.model.now c.args.at

pub returns-in_default : goal.returns-in_default
returns-in_default c =
    guarded_plain c.args.model.now c.args.at
