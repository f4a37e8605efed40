-- `read_declarations::tables::entries` meets its contract. The invariant: the entries that are left end where all of them end.
use Prim.Native.Nat.{ℕ, suc, ◌+◌, ◌-◌}
use mathlib.Core.Path.{◌≡◌, sym, ap, ◌∙◌}
use native.Mathlib.Omega.{arith}
use native.Mathlib.Nat.{sub-zero}
use Rattle.model.specs.Commands.{entries}
use Rattle.read_declarations.specs.Positions.{read_at, position_of}
use Rattle.read_declarations.proofs.Entries.{no_entries, entries_more, entries_refused}
use Rattle.read_declarations.proofs.Positions.{passed_on}
use Rattle.read_declarations.proofs.tables.entries.Goals as goal

pub loop-init : goal.loop-init
loop-init c =
    rw (sub-zero c.args.count)

pub loop-preserved : goal.loop-preserved
loop-preserved c =
    let one_more : c.args.count - c.loop.counter ≡ suc (c.args.count - (c.loop.counter + 1)) = omega (arith, c.loop-test.true) in
    entries_more c.args.model.now c.loop.at (c.args.count - (c.loop.counter + 1)) c.in_ok-at.ensures
    ∙ (ap (λ (n : ℕ). position_of (read_at (entries n) c.loop.at c.args.model.now)) (sym one_more) ∙ c.loop.invariant)

pub returns-in_err-at : goal.returns-in_err-at
returns-in_err-at c =
    let one_more : c.args.count - c.loop.counter ≡ suc (c.args.count - (c.loop.counter + 1)) = omega (arith, c.loop-test.true) in
    passed_on c.from_residual.result c.from_residual.ensures.1
    ∙ (entries_refused c.args.model.now c.loop.at (c.args.count - (c.loop.counter + 1)) c.in_err-at.ensures
    ∙ (ap (λ (n : ℕ). position_of (read_at (entries n) c.loop.at c.args.model.now)) (sym one_more) ∙ c.loop.invariant))

pub returns : goal.returns
returns c =
    let none : c.args.count - c.loop.counter ≡ 0 = omega (arith, c.loop-test.false) in
    no_entries c.args.model.now c.loop.at ∙ (ap (λ (n : ℕ). position_of (read_at (entries n) c.loop.at c.args.model.now)) (sym none) ∙ c.loop.invariant)
