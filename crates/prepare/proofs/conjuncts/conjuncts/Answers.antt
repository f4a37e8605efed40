-- `prepare::conjuncts::conjuncts` meets its contract. The invariant: the constraints passed are taken apart.
use mathlib.Core.Path.{◌≡◌, ◌∙◌}
use native.Mathlib.Omega.{arith}
use lib.ListN.{length}
use Rattle.outline.specs.Outline.{model_of}
use Rattle.prepare.specs.Layout.{conjuncts_from}
use Rattle.prepare.specs.Promised.{Room}
use Rattle.prepare.proofs.Dividing.{all_put}
use Rattle.prepare.proofs.Kept.{room_kept}
use Rattle.prepare.proofs.conjuncts.conjuncts.Goals as goal

pub part-n-requires : goal.part-n-requires
part-n-requires c =
    let room : Room c.args.model.now c.loop-k.outline = room_kept {end = conjuncts_from} (omega arith) c.loop-k.invariant.kept c.requires in
    let counted : c.word_at-all.result ≡ length (model_of c.args.model.now).constraints = c.word_at-all.ensures ∙ c.requires.outlines.constraint_count in
    (room, (c.loop-k.invariant.parting, omega (arith, c.loop-k-test.true, counted)))

pub returns : goal.returns
returns c =
    let counted : c.word_at-all.result ≡ length (model_of c.args.model.now).constraints = c.word_at-all.ensures ∙ c.requires.outlines.constraint_count in
    all_put _ c.loop-k.invariant (omega (arith, c.loop-k-test.false, counted)) c.put.ensures
