-- `read_declarations::tables::entries` meets its contract. The invariant: the entries that are left end where all of them end.
use Prim.Native.Nat.{◌-◌}
use mathlib.Core.Path.{◌≡◌}
use Rattle.model.specs.Commands.{entries}
use Rattle.read_declarations.specs.Positions.{read_at, position_of}
use Rattle.read_declarations.proofs.tables.entries.Given as goal

abbrev pub invariant-loop : goal.invariant-loop
invariant-loop l = position_of (read_at (entries (l.count - l.counter)) l.at l.model) ≡ position_of (read_at (entries l.count) l.start l.model)
