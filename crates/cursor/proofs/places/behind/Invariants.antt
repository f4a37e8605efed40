-- `cursor::places::behind` meets its contract.
use Prim.Native.Nat.{◌+◌, ◌≤◌}
use mathlib.Core.Path.{◌≡◌}
use lib.ListN.{length, drop}
use Rattle.eval_sets.specs.Forms.{span}
use Rattle.cursor.proofs.places.behind.Given as goal

abbrev pub invariant-loop : goal.invariant-loop
invariant-loop l = (l.q ≤ length l.e) × (l.q ≡ l.at + span (drop l.at l.e) 0 l.counter)
