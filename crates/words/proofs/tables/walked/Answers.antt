-- `words::tables::walked` meets its contract: over no members, over members whose cells are all there, and over others.
use mathlib.Core.Path.{◌∙◌}
use native.Mathlib.Omega.{arith}
use Rattle.words.specs.Tables.{Covered}
use Rattle.words.proofs.Covered.{covered_sum}
use Rattle.words.proofs.Integers.{back}
use Rattle.words.proofs.Members.{members_none}
use Rattle.words.proofs.Sums.{begin, done}
use Rattle.words.proofs.tables.walked.Goals as goal

pub returns-then-s-eq0 : goal.returns-then-s-eq0
returns-then-s-eq0 c =
    rw c.if-s-eq0.true (done 32 _ 0 _ _ members_none (begin 32 _ 0 (omega arith)))

pub returns-then-covers : goal.returns-then-covers
returns-then-covers c =
    let covered : let a = c.args in Covered a.model.now a.table a.s a.from a.j = c.covers.ensures c.if-covers.true in
    rw (back (record { sfits = c.summed.type_inv })) (c.summed.ensures.0 ∙ covered_sum (covered), c.summed.ensures.1)
