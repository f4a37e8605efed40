-- `high_cost` meets its contract. 10 and a number, or the byte of another command.
use mathlib.Core.Path.{◌≡◌, sym, ap, ◌∙◌}
use native.Mathlib.Omega.{arith}
use lib.ListN.{get_or}
use Rattle.laws.proofs.Lists.{byte_inside}
use Rattle.read_declarations.specs.Positions.{position_of}
use Rattle.read_transitions.proofs.Reading.{optional_there, optional_other, optional_early}
use Rattle.read_transitions.proofs.high_cost.Goals as goal

pub returns-then-byte_at-eq16 : goal.returns-then-byte_at-eq16
returns-then-byte_at-eq16 c =
    let written : (get_or c.args.model.now c.args.at 0 ≡ 0x10) = sym c.byte_at.ensures ∙ c.if-byte_at-eq16.true in
    c.number_at.ensures ∙ optional_there 0x10 _ c.args.at c.args.model.now (written) (byte_inside c.args.model.now c.args.at 0x10 (omega arith) (written))

pub returns-then-at-model : goal.returns-then-at-model
returns-then-at-model c =
    sym (ap position_of (optional_other 0x10 _ c.args.at c.args.model.now (λ q. c.if-byte_at-eq16.false (c.byte_at.ensures ∙ q)) c.if-at-model.true))

pub returns-else-at-model : goal.returns-else-at-model
returns-else-at-model c =
    sym (ap position_of (optional_early 0x10 _ c.args.at c.args.model.now c.if-at-model.false))
