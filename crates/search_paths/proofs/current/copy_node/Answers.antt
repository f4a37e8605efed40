-- `search_paths::current::copy_node` meets its contract.
use Prim.Native.Nat.{◌+◌, ◌*◌, ◌-◌}
use mathlib.Core.Path.{◌≡◌}
use native.Mathlib.Omega.{arith}
use Rattle.beam_order.specs.Slots.{slot_words, words_in}
use Rattle.search_paths.proofs.current.copy_node.Goals as goal

pub returns : goal.returns
unfolding words_in
returns c =
    let e : c.args.i * slot_words + slot_words - c.args.i * slot_words ≡ slot_words = omega arith in
    rw (c.copy_from_slice.ensures.after, e)
