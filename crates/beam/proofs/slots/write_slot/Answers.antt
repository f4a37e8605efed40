-- `beam::slots::write_slot` meets its contract.
use Prim.Native.Nat.{◌+◌, ◌*◌, ◌-◌}
use mathlib.Core.Path.{◌≡◌}
use native.Mathlib.Omega.{arith}
use Rattle.model.specs.Numbers.{most_variables}
use Rattle.beam_order.specs.Slots.{slot_words, header_words, state_at}
use Rattle.beam.specs.Parts.{written}
use Rattle.beam.proofs.Written.{two_parts_lem}
use Rattle.beam.proofs.slots.write_slot.Goals as goal

pub returns : goal.returns
unfolding written
returns c =
    let e : c.args.s * slot_words + state_at - c.args.s * slot_words ≡ header_words = omega arith in
    let f : c.args.s * slot_words + slot_words - (c.args.s * slot_words + state_at) ≡ most_variables = omega arith in
    rw (e, f, c.copy_from_slice.ensures.after, c.copy_from_slice-2.ensures.after) (two_parts_lem c.args.slots.now c.args.header.now c.args.state.now (c.args.s * slot_words) (omega arith) c.requires.1.header_long)
