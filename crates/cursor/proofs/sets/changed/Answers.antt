-- `cursor::sets::changed` meets its contract.
use Prim.Native.Nat.{◌+◌}
use mathlib.Core.Path.{◌≡◌, sym, ◌∙◌}
use borrow.Author.Tests.{eq-eqb, ne_eqb}
use lib.ListN.{get_or}
use Rattle.quick.specs.Sets.{object_in, changed_by}
use Rattle.cursor.specs.Places.{Stands}
use Rattle.cursor.specs.Told.{SetTo}
use Rattle.cursor.proofs.SetLaws.{changed_variable_is}
use Rattle.cursor.proofs.sets.changed.Goals as goal

pub returns-then-b-eq66 : goal.returns-then-b-eq66
unfolding changed_by
returns-then-b-eq66 c moved =
    let there : (Stands c.args.m.now.now c.args.at.now 5) = c.stands.ensures c.if-stands.true in
    let changed_is : (s : _) → (let a = c.args in let e = a.m.now.now in s ≡ changed_by a.b (object_in (get_or e (a.at.now + 1) 0) (get_or e (a.at.now + 2) 0) a.state.now) (get_or a.state.now (get_or e (a.at.now + 4) 0) 0) → SetTo e a.outline.now a.state.now a.at.now s (a.at.now + 5)) = λ s. λ is. let a = c.args in
    changed_variable_is a.m.now.now a.outline.now a.state.now a.at.now a.b s (there) c.requires.0.byte c.requires.1 (sym c.begins_element.ensures ∙ c.if-begins_element.true) c.if-e-p-eq65.true is in
    changed_is c.union.result (c.union.ensures ∙ rw (eq-eqb c.args.b 0x42 c.if-b-eq66.true, c.single-k.ensures, c.object.ensures.0, c.word_at-s.ensures))

pub returns-then-begins_element : goal.returns-then-begins_element
unfolding changed_by
returns-then-begins_element c moved =
    let there : (Stands c.args.m.now.now c.args.at.now 5) = c.stands.ensures c.if-stands.true in
    let changed_is : (s : _) → (let a = c.args in let e = a.m.now.now in s ≡ changed_by a.b (object_in (get_or e (a.at.now + 1) 0) (get_or e (a.at.now + 2) 0) a.state.now) (get_or a.state.now (get_or e (a.at.now + 4) 0) 0) → SetTo e a.outline.now a.state.now a.at.now s (a.at.now + 5)) = λ s. λ is. let a = c.args in
    changed_variable_is a.m.now.now a.outline.now a.state.now a.at.now a.b s (there) c.requires.0.byte c.requires.1 (sym c.begins_element.ensures ∙ c.if-begins_element.true) c.if-e-p-eq65.true is in
    changed_is c.difference.result (c.difference.ensures ∙ rw (ne_eqb c.args.b 0x42 c.if-b-eq66.false, c.single-k.ensures, c.object.ensures.0, c.word_at-s.ensures))
