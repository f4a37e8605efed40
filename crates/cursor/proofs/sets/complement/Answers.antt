-- `cursor::sets::complement` meets its contract.
use mathlib.Core.Path.{◌∙◌}
use Rattle.cursor.specs.Places.{Stands}
use Rattle.cursor.proofs.SetLaws.{complement_is}
use Rattle.cursor.proofs.sets.complement.Goals as goal

pub returns-then-e-p-eq65 : goal.returns-then-e-p-eq65
returns-then-e-p-eq65 c moved =
    let there : (Stands c.args.m.now.now c.args.at.now 3) = c.stands.ensures c.if-stands.true in
    complement_is c.args.m.now.now c.args.outline.now c.args.state.now c.args.at.now c.difference.result (there) c.requires.byte c.if-e-p-eq65.true
    (c.difference.ensures ∙ rw (c.full.ensures, c.objects_in.ensures, c.word_at.ensures))
