-- `cursor::sets::leaf_set` meets its contract.
use Prim.Native.Nat.{◌+◌}
use Rattle.words.proofs.Literal.{suffix}
use Rattle.cursor.specs.Places.{Stands}
use Rattle.cursor.proofs.SetLaws.{variable_is, literal_is}
use Rattle.cursor.proofs.sets.leaf_set.Goals as goal

pub returns-then-e-p-eq65 : goal.returns-then-e-p-eq65
returns-then-e-p-eq65 c moved =
    let there : (Stands c.args.m.now.now c.args.at.now 2) = c.stands.ensures c.if-stands.true in
    variable_is c.args.m.now.now c.args.outline.now c.args.state.now c.args.at.now c.word_at.result (there) c.if-e-p-eq65.true c.word_at.ensures

pub returns-then-stands-2 : goal.returns-then-stands-2
returns-then-stands-2 c moved =
    let all_there : (Stands c.args.m.now.now c.args.at.now 10) = c.stands-then-e-p-eq64.ensures c.if-stands-2.true in
    literal_is c.args.m.now.now c.args.outline.now c.args.state.now c.args.at.now c.long.result (all_there) c.if-e-p-eq64.true
    (rw (suffix (c.args.at.now + 2) c.args.m.now.now) at c.long.ensures)
