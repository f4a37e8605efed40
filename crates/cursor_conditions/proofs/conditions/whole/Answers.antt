-- `cursor_conditions::conditions::whole` meets its contract.
use mathlib.Core.Path.{◌≡◌, sym, ◌∙◌}
use mathlib.Core.Bool.{true}
use native.Mathlib.Omega.{arith}
use Rattle.cursor.specs.Places.{Begins}
use Rattle.cursor_conditions.specs.Waiting.{is_connective}
use Rattle.cursor_conditions.proofs.Waiting.{connective_some, connective_low, connective_high, Read, read_part, due_start, due_put}
use Rattle.cursor_conditions.proofs.conditions.whole.Goals as goal

pub loop-waiting-init : goal.loop-waiting-init
loop-waiting-init c =
    due_start _ _ _

pub overflow_sub-waiting : goal.overflow_sub-waiting
overflow_sub-waiting c =
    let connects : is_connective c.first_byte-b.result ≡ true = sym c.is_connective.ensures ∙ c.if-is_connective.true in
    omega (arith, connective_low _ (connects))

pub overflow_add-waiting : goal.overflow_add-waiting
overflow_add-waiting c =
    let connects : is_connective c.first_byte-b.result ≡ true = sym c.is_connective.ensures ∙ c.if-is_connective.true in
    omega (arith, c.if-waiting-gt-MOST_WAITING.false, connective_high _ (connects))

pub overflow_add-q : goal.overflow_add-q
overflow_add-q c =
    let connects : is_connective c.first_byte-b.result ≡ true = sym c.is_connective.ensures ∙ c.if-is_connective.true in
    let begins : Begins c.args.m.now.now c.loop-waiting.q c.first_byte-b.result = c.first_byte-b.ensures.begins (connective_some _ (connects)) in
    omega (arith, (begins).there.near)

pub loop-waiting-smaller-then-is_connective : goal.loop-waiting-smaller-then-is_connective
loop-waiting-smaller-then-is_connective c =
    let connects : is_connective c.first_byte-b.result ≡ true = sym c.is_connective.ensures ∙ c.if-is_connective.true in
    let begins : Begins c.args.m.now.now c.loop-waiting.q c.first_byte-b.result = c.first_byte-b.ensures.begins (connective_some _ (connects)) in
    omega (arith, (begins).there.inside)

pub loop-waiting-preserved-then-is_connective : goal.loop-waiting-preserved-then-is_connective
loop-waiting-preserved-then-is_connective c =
    let connects : is_connective c.first_byte-b.result ≡ true = sym c.is_connective.ensures ∙ c.if-is_connective.true in
    let begins : Begins c.args.m.now.now c.loop-waiting.q c.first_byte-b.result = c.first_byte-b.ensures.begins (connective_some _ (connects)) in
    due_put _ _ _ c.loop-waiting.invariant (begins) (connects)

pub loop-waiting-smaller : goal.loop-waiting-smaller
loop-waiting-smaller c =
    let part-is : (Read c.args.m.now.now c.args.outline.now c.args.state.now c.loop-waiting.q c.plain.new.at) = read_part _ _ _ c.in_ok-c.ensures in
    omega (arith, (part-is).past, (part-is).there.inside, c.settled.ensures.further)
