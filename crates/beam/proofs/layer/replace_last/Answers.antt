-- `beam::layer::replace_last` meets its contract.
use Prim.Native.Nat.{◌-◌}
use mathlib.Core.List.{◌++◌}
use native.Mathlib.Omega.{arith}
use Rattle.beam.proofs.Layers.{slot_room}
use Rattle.beam.proofs.Moves.{width_positive, slot_at}
use Rattle.beam.proofs.Cases.{last_replaced}
use Rattle.beam.proofs.layer.replace_last.Goals as goal

pub slot_bucket-other-requires : goal.slot_bucket-other-requires
slot_bucket-other-requires c =
    let held = c.requires.0.held in (
      c.requires.1,
      (slot_room held.parts _ (slot_at held (c.args.w - 1) (omega (arith, width_positive held))), record { some = held.parts.some_bucket; few = held.parts.few_buckets }),
    )

pub returns : goal.returns
returns c =
    last_replaced c.remove_position.new.layer (c.args.header.now ++ c.args.state.now) c.requires.0.held c.remove_position.ensures c.add_child.ensures
