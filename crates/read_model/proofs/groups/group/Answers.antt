-- `read_model::groups::group` meets its contract. The part of the outline that is lent holds the group's offsets; its count goes into one word.
use Prim.Native.Nat.{◌+◌, ◌-◌}
use native.Mathlib.Omega.{arith}
use Rattle.read_forms.specs.Parts.{variables_in, tables_in}
use Rattle.read_model.proofs.Outlining.{group_told}
use Rattle.read_model.proofs.groups.group.Goals as goal

pub returns : goal.returns
returns c =
    let part = c.items.new.offsets in
    group_told (variables_in c.args.names) (tables_in c.args.names) c.args.group c.args.model.now c.args.start c.args.outline.now part c.offsets_from-from.result (c.offsets_from-from.result + c.most.result - c.offsets_from-from.result) c.offsets_from-from.ensures
    (omega (arith, c.most.ensures)) c.requires.1 c.items.auto.offsets c.count_at.ensures
    c.in_ok-listed.ensures
