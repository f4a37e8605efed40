-- `beam::buckets::slot_bucket` meets its contract.
use Prim.Native.Nat.{◌+◌, ◌*◌, ◌-◌}
use mathlib.Core.Path.{◌≡◌}
use native.Mathlib.Omega.{arith}
use Rattle.model.specs.Numbers.{most_variables}
use Rattle.beam_order.specs.Slots.{slot_words, state_at}
use Rattle.beam.specs.Parts.{bucket_in}
use Rattle.beam.proofs.Written.{state_in_lem}
use Rattle.beam.proofs.buckets.slot_bucket.Goals as goal

pub returns : goal.returns
unfolding bucket_in
returns c =
    let e : c.args.s * slot_words + slot_words - (c.args.s * slot_words + state_at) ≡ most_variables = omega arith in
    rw (state_in_lem c.args.slots.now c.args.s) (rw e at c.bucket.ensures)
