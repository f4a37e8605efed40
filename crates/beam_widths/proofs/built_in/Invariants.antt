-- `beam_widths::built_in` meets its contract. The invariant: W is not among the widths passed.
use Prim.Native.Nat.{◌≤◌}
use mathlib.Core.Path.{◌≡◌}
use lib.ListN.{drop}
use Rattle.search.specs.Run.{is_width}
use Rattle.beam_widths.proofs.Rising.{widths, among}
use Rattle.beam_widths.proofs.built_in.Given as goal

abbrev pub invariant-loop-place : goal.invariant-loop-place
invariant-loop-place l = (l.place ≤ 13) × (is_width l.width ≡ among l.width (drop l.place widths))
