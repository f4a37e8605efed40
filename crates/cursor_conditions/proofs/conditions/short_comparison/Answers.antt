-- `cursor_conditions::conditions::short_comparison` meets its contract: the byte at the cursor is a relation's, so every branch may be called,
-- and what the branch tells is what is told.
use mathlib.Core.Path.{◌≡◌, sym, ◌∙◌}
use mathlib.Core.Bool.{true}
use native.Mathlib.Omega.{arith}
use Rattle.cursor.specs.Places.{Begins}
use Rattle.cursor.specs.Codes.{is_relation}
use Rattle.cursor_conditions.proofs.ConditionLaws.{relation_some}
use Rattle.cursor_conditions.proofs.conditions.short_comparison.Goals as goal

pub overflow_add-p : goal.overflow_add-p
overflow_add-p c =
    let begins : (let a = c.args in let b = c.first_byte-b.result in Begins a.m.now.now a.at.now b × (is_relation b ≡ true)) = let compares = sym c.is_relation.ensures ∙ c.if-is_relation.true in
    (c.first_byte-b.ensures.begins (relation_some _ compares), compares) in
    omega (arith, (begins).0.there.near)

pub overflow_add-p-then-is_relation : goal.overflow_add-p-then-is_relation
overflow_add-p-then-is_relation c =
    let begins : (let a = c.args in let b = c.first_byte-b.result in Begins a.m.now.now a.at.now b × (is_relation b ≡ true)) = let compares = sym c.is_relation.ensures ∙ c.if-is_relation.true in
    (c.first_byte-b.ensures.begins (relation_some _ compares), compares) in
    omega (arith, (begins).0.there.near)

pub shifted_first-requires : goal.shifted_first-requires
shifted_first-requires c =
    let begins : (let a = c.args in let b = c.first_byte-b.result in Begins a.m.now.now a.at.now b × (is_relation b ≡ true)) = let compares = sym c.is_relation.ensures ∙ c.if-is_relation.true in
    (c.first_byte-b.ensures.begins (relation_some _ compares), compares) in
    begins
