-- `solver::roots::write_root` meets its contract.
use Prim.Native.Nat.{ℕ, ◌≤◌}
use mathlib.Core.Path.{◌≡◌, ◌∙◌}
use mathlib.Core.List.{List, append-nil}
use native.Mathlib.Omega.{arith}
use lib.ListN.{length, drop_of_length-le}
use Rattle.beam_order.specs.Slots.{slot_words}
use Rattle.beam.specs.Parts.{written}
use Rattle.solver.proofs.roots.write_root.Goals as goal

-- one slot, written whole
slot_whole : (words node : List ℕ) → length words ≤ slot_words → written words 0 node ≡ node
unfolding written
slot_whole words node few = rw (drop_of_length-le words few, append-nil)

pub returns : goal.returns
returns c =
    c.write_slot.ensures ∙ slot_whole c.args.root.now _ (omega (arith, c.requires.1))
