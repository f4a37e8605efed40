-- `quick::sums::closing` meets its contract.
use Prim.Native.Nat.{◌+◌}
use mathlib.Core.Path.{sym, ◌∙◌}
use Rattle.words.proofs.Integers.{back}
use Rattle.words.proofs.Entries.{integer_there}
use Rattle.quick.proofs.sums.closing.Goals as goal

pub returns-then-at_end : goal.returns-then-at_end
returns-then-at_end c =
    let e = sym c.at_end.ensures ∙ c.if-at_end.true in
    let number = integer_there c.args.model.now (c.args.at + 11) (rw c.after.ensures at c.integer.ensures.0) in
    rw (back (record { sfits = c.integer.type_inv }), e) (number, c.requires.1.memory)
