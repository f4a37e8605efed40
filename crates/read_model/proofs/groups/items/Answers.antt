-- `read_model::groups::items` meets its contract. The invariant: so many items are read, their offsets are stored, and the loop goes on from here. The measure is the room that is left.
use Prim.Native.Nat.{◌+◌, ◌<◌}
use mathlib.Core.Path.{◌≡◌, sym, ◌∙◌}
use native.Mathlib.Omega.{arith}
use lib.ListN.{length, get_or}
use Rattle.model.specs.Readers.{Reader}
use Rattle.read_forms.specs.Parts.{variables_in, tables_in}
use Rattle.read_model.specs.Groups.{Item, code_of, item_of}
use Rattle.read_declarations.specs.Positions.{read_at}
use Rattle.read_model.proofs.Outlining.{code_positive, item_fair}
use Rattle.read_declarations.proofs.Items.{item_too_many, item_refused, items_early}
use Rattle.read_model.proofs.Offsets.{no_offsets, offset_more, offsets_end}
use Rattle.read_declarations.proofs.Positions.{passed_on, fair_refusal, position_read}
use Rattle.read_model.proofs.groups.items.Goals as goal

pub returns-then-n-offsets : goal.returns-then-n-offsets
returns-then-n-offsets c =
    let positive : 0 < code_of c.args.group = code_positive c.args.group in
    let due : get_or c.args.model.now c.loop-group.at 0 ≡ code_of c.args.group = sym c.byte_at.ensures ∙ (c.loop-group-test.true ∙ c.code-c.ensures) in
    item_too_many c.loop-group.invariant.so_far (positive) (due) (omega (arith, c.if-n-offsets.true, c.loop-group.invariant.size))

pub loop-group-preserved : goal.loop-group-preserved
loop-group-preserved c =
    let positive : 0 < code_of c.args.group = code_positive c.args.group in
    let due : get_or c.args.model.now c.loop-group.at 0 ≡ code_of c.args.group = sym c.byte_at.ensures ∙ (c.loop-group-test.true ∙ c.code-c.ensures) in
    let room : (c.loop-group.n < length c.args.offsets.now) = omega (arith, c.loop-group.invariant.so_far.few, c.if-n-offsets.false, c.loop-group.invariant.size) in
    let reader : Reader (Item c.args.group) = item_of (variables_in c.args.names) (tables_in c.args.names) c.args.group in
    offset_more c.loop-group.invariant (positive) (due) (room)
    (position_read (read_at (reader) (c.loop-group.at + 1) c.args.model.now) c.in_ok-at.ensures).1

pub returns-in_err-at : goal.returns-in_err-at
returns-in_err-at c =
    let positive : 0 < code_of c.args.group = code_positive c.args.group in
    let due : get_or c.args.model.now c.loop-group.at 0 ≡ code_of c.args.group = sym c.byte_at.ensures ∙ (c.loop-group-test.true ∙ c.code-c.ensures) in
    let room : (c.loop-group.n < length c.args.offsets.now) = omega (arith, c.loop-group.invariant.so_far.few, c.if-n-offsets.false, c.loop-group.invariant.size) in
    let reader : Reader (Item c.args.group) = item_of (variables_in c.args.names) (tables_in c.args.names) c.args.group in
    rw (passed_on c.from_residual.result c.from_residual.ensures.1) (item_refused c.loop-group.invariant.so_far (positive) (due) (room)
    (fair_refusal reader (c.loop-group.at + 1) c.args.model.now (item_fair (variables_in c.args.names) (tables_in c.args.names) c.args.group) c.in_err-at.ensures))

pub returns-then-at-model : goal.returns-then-at-model
returns-then-at-model c =
    offsets_end c.loop-group.invariant c.if-at-model.true (λ q. c.loop-group-test.false (c.byte_at.ensures ∙ (q ∙ sym c.code-c.ensures)))

pub returns-else-at-model : goal.returns-else-at-model
returns-else-at-model c =
    items_early c.loop-group.invariant.so_far c.if-at-model.false

pub loop-group-init : goal.loop-group-init
loop-group-init c = no_offsets
