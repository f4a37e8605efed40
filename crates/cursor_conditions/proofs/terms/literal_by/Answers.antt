-- `cursor_conditions::terms::literal_by` meets its contract.
use Prim.Native.Nat.{◌+◌}
use native.Mathlib.Omega.{arith}
use mir.Syntax.{w64}
use mir.Val.{SFits}
use borrow.Author.Rules.{rules}
use Rattle.words.proofs.Integers.{back}
use Rattle.words.proofs.Literal.{suffix}
use Rattle.cursor_conditions.proofs.SumLaws.{integer_there, literals_chosen}
use Rattle.cursor_conditions.proofs.terms.literal_by.Goals as goal

pub returns-then-c : goal.returns-then-c
returns-then-c c =
    let f : SFits w64 c.integer.result = search rules in
    let there = c.stands.ensures c.if-stands.true in
    let bytes = c.args.m.now.now in
    let p = c.args.at.now in
    let other = integer_there bytes (p + 6) (omega (arith, there.inside)) (λ i. omega (arith, c.shared_slice_known-then-e-p-eq32-1.given i)) in
    rw (back f) (literals_chosen _ _ _ there c.if-e-p-eq32.true c.if-e-p-eq32-2.true (rw (suffix (p + 1) bytes) at c.integer.ensures.0) c.integer.ensures.1 other.1 other.2 (rw c.if-c.true))

pub returns-then-e-p-eq32-2 : goal.returns-then-e-p-eq32-2
returns-then-e-p-eq32-2 c =
    let f : SFits w64 c.integer-then-e-p-eq32-2.result = search rules in
    let there = c.stands.ensures c.if-stands.true in
    let bytes = c.args.m.now.now in
    let p = c.args.at.now in
    let other = integer_there bytes (p + 1) (omega (arith, there.inside)) (λ i. omega (arith, c.shared_slice_known-then-e-p-eq32-1.given i)) in
    rw (back f) (literals_chosen _ _ _ there c.if-e-p-eq32.true c.if-e-p-eq32-2.true other.1 other.2 (rw (suffix (p + 6) bytes) at c.integer-then-e-p-eq32-2.ensures.0) c.integer-then-e-p-eq32-2.ensures.1 (rw c.if-c.false))
