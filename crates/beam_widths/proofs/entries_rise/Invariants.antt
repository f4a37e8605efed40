-- `beam_widths::entries_rise` meets its contract. The invariant: the list rises as the entries that are left rise from the one before.
use Prim.Native.Nat.{◌≤◌}
use mathlib.Core.Path.{◌≡◌}
use lib.ListN.{length, drop}
use Rattle.search.specs.Run.{rising_from}
use Rattle.beam_widths.proofs.entries_rise.Given as goal

abbrev pub invariant-loop-entry : goal.invariant-loop-entry
invariant-loop-entry l = (l.entry-index ≤ length l.widths) × (rising_from 0 l.widths ≡ rising_from l.before (drop l.entry-index l.widths))
