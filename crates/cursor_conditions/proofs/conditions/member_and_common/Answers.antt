-- `cursor_conditions::conditions::member_and_common` meets its contract.
use Prim.Native.Nat.{◌+◌}
use mathlib.Core.Path.{sym, ap, ◌∙◌}
use mathlib.Core.Bool.{not}
use lib.Dec.{eqb}
use Rattle.words.proofs.Literal.{suffix}
use Rattle.cursor_conditions.specs.Forms.{MemberAndCommon}
use Rattle.cursor_conditions.proofs.ConditionLaws.{member_and_common_told}
use Rattle.cursor_conditions.proofs.conditions.member_and_common.Goals as goal

pub returns-then-is_member : goal.returns-then-is_member
returns-then-is_member c =
    let form : MemberAndCommon c.args.m.now.now c.args.at.now = c.is_member_and_common.ensures c.if-is_member_and_common.true in
    member_and_common_told _ _ _ form c.object-k.ensures.0 c.word_at-s.ensures c.word_at-t.ensures
    (rw (suffix (c.args.at.now + 11) c.args.m.now.now) at c.long-u.ensures)
    (sym c.if-is_member.true ∙ c.is_member.ensures)
    (ap (λ i. not (eqb i 0)) c.intersection.ensures)

pub returns-else-is_member : goal.returns-else-is_member
returns-else-is_member c =
    let form : MemberAndCommon c.args.m.now.now c.args.at.now = c.is_member_and_common.ensures c.if-is_member_and_common.true in
    member_and_common_told _ _ _ form c.object-k.ensures.0 c.word_at-s.ensures c.word_at-t.ensures
    (rw (suffix (c.args.at.now + 11) c.args.m.now.now) at c.long-u.ensures)
    (sym c.if-is_member.false ∙ c.is_member.ensures)
    c.if-is_member.false
