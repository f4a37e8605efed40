-- `members_fit` meets its contract, by the test of the count.
use mathlib.Core.Path.{◌≡◌, sym, ◌∙◌}
use mathlib.Core.Bool.{true, false}
use Rattle.model.specs.Expressions.{is_count}
use Rattle.read_forms.proofs.Operands.{full_fits}
use Rattle.read_forms.proofs.bytes.members_fit.Goals as goal

pub returns-then-is_count : goal.returns-then-is_count
returns-then-is_count c =
    let counted : is_count c.args.n ≡ true = sym c.is_count.ensures ∙ c.if-is_count.true in
    rw (c.full.ensures, counted) (full_fits c.args.n c.args.members counted)

pub returns-else-is_count : goal.returns-else-is_count
returns-else-is_count c =
    let uncounted : is_count c.args.n ≡ false = sym c.is_count.ensures ∙ c.if-is_count.false in
    rw (c.is_count.ensures, uncounted)
