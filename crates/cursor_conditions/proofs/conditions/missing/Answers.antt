-- `cursor_conditions::conditions::missing` meets its contract.
use Prim.Native.Nat.{◌+◌}
use Rattle.words.proofs.Literal.{suffix}
use Rattle.cursor.specs.Places.{Stands}
use Rattle.cursor_conditions.proofs.ConditionLaws.{missing_told}
use Rattle.cursor_conditions.proofs.conditions.missing.Goals as goal

pub returns-then-e-p-eq65 : goal.returns-then-e-p-eq65
returns-then-e-p-eq65 c =
    let there : (Stands c.args.m.now.now c.args.at.now 14) = c.stands.ensures c.if-stands.true in
    let a = c.args in
    missing_told _ _ _ c.requires (there) c.if-e-p-eq69.true c.if-e-p-eq64.true c.if-e-p-eq65.true (rw (suffix (a.at.now + 4) a.m.now.now) at c.long-s.ensures) c.word_at-t.ensures
    c.intersection.ensures
