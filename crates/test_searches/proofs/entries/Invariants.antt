-- `test_searches::entries`: the count is within the list.
use Rattle.std.proofs.Common.{length, ◌≤◌, ◌≡◌}
use Rattle.test_searches.proofs.entries.Given as goal

abbrev pub invariant-loop-digits : goal.invariant-loop-digits
invariant-loop-digits l = (l.count ≤ length l.widths) × (length l.widths ≡ length l.initial.widths)
