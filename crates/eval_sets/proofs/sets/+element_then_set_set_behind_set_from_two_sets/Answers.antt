-- The evaluators of sets, which call each other, meet their contracts.
use Rattle.std.proofs.Common.{◌+◌, ◌-◌, ◌≤◌, drop, length, length-drop, refl, sym, ◌∙◌, arith}
use Rattle.eval_sets.specs.Runs.{run_set, set_behind, element_then_set as element_set, two_sets}
use Rattle.eval_sets.proofs.Within.{element_past, element_set_small, set_past, set_within, set_behind_within}
use Rattle.eval_sets.proofs.Opening.{set_opens}
use Rattle.eval_sets.proofs.Slices.{behind}
use Rattle.eval_sets.proofs.sets.+element_then_set_set_behind_set_from_two_sets.Goals as goal

-- ---- an element and a set

pub element_then_set-overflow_add-at : goal.element_then_set-overflow_add-at
element_then_set-overflow_add-at t c =
    let ends : c.element-x.result.used ≤ length c.args.e.now - c.args.at = element_past _ c.args.at c.args.e.now _ _ c.after.ensures c.element-x.ensures.run in
    omega arith

pub element_then_set-overflow_add-result : goal.element_then_set-overflow_add-result
element_then_set-overflow_add-result t c =
    let ends : c.element-x.result.used ≤ length c.args.e.now - c.args.at = element_past _ c.args.at c.args.e.now _ _ c.after.ensures c.element-x.ensures.run in
    omega (arith, set_past _ _ _ (c.args.at + c.element-x.result.used) c.args.e.now _ c.set_from-y.ensures)

pub element_then_set-returns : goal.element_then_set-returns
unfolding element_set
element_then_set-returns t c = rw (c.set_from-y.ensures, behind c.args.at c.element-x.result.used c.args.e.now, c.element-x.ensures.run, c.after.ensures)

-- ---- behind a set's first byte

pub set_behind-changed-requires : goal.set_behind-changed-requires
set_behind-changed-requires t c = rw c.element_then_set.ensures (element_set_small _ _ _)

pub set_behind-returns-in-Literal : goal.set_behind-returns-in-Literal
unfolding set_behind
set_behind-returns-in-Literal t c = rw c.in-Literal.is (rw c.after.ensures at c.literal_set.ensures)

pub set_behind-returns-in-Variable : goal.set_behind-returns-in-Variable
unfolding set_behind
set_behind-returns-in-Variable t c = rw c.in-Variable.is (rw c.after-in-Variable.ensures at c.set_variable.ensures)

pub set_behind-returns-in-Changed : goal.set_behind-returns-in-Changed
unfolding set_behind
set_behind-returns-in-Changed t c = rw (c.in-Changed.is, c.changed.ensures, c.element_then_set.ensures)

pub set_behind-returns-in-Combined : goal.set_behind-returns-in-Combined
unfolding set_behind
set_behind-returns-in-Combined t c = rw (c.in-Combined.is, c.combined.ensures, c.two_sets.ensures)

pub set_behind-returns-in-Complement : goal.set_behind-returns-in-Complement
unfolding set_behind
set_behind-returns-in-Complement t c = rw (c.in-Complement.is, c.complemented.ensures, c.set_from.ensures)

pub set_behind-returns-in-Other : goal.set_behind-returns-in-Other
unfolding set_behind
set_behind-returns-in-Other t c = rw c.in-Other.is c.no_set.ensures

-- ---- a set from a position on

pub set_from-returns-then-depth-eq0 : goal.set_from-returns-then-depth-eq0
set_from-returns-then-depth-eq0 t c = c.no_set.ensures ∙ sym ((set_opens _ _).no_depth_lem _ c.args.at c.args.e.now c.if-depth-eq0.true)

pub set_from-returns-then-e-at : goal.set_from-returns-then-e-at
set_from-returns-then-e-at t c = c.no_set-then-e-at.ensures ∙ sym ((set_opens _ _).no_byte _ c.args.at c.args.e.now c.if-e-at.true)

pub set_from-set_past-requires : goal.set_from-set_past-requires
set_from-set_past-requires t c =
    let d = c.args.depth - 1 in
    let ws = c.args.state.now in
    let os = c.args.outline.now in
    let h = set_behind_within ws (λ f. run_set d ws os f) (λ f. set_within d ws os f) os c.set_form.result (drop (c.args.at + 1) c.args.e.now) in
    omega (arith, rw (← c.set_behind.ensures) at h, length-drop (c.args.at + 1) c.args.e.now)

pub set_from-returns : goal.set_from-returns
set_from-returns t c =
    rw (c.set_past.ensures, c.set_behind.ensures, c.set_form.ensures)
    (sym ((set_opens _ _).opened _ c.args.at c.args.e.now c.if-depth-eq0.false c.if-e-at.false refl))

-- ---- two sets

pub two_sets-overflow_add-at : goal.two_sets-overflow_add-at
two_sets-overflow_add-at t c =
    let ends : c.set_from-x.result.used ≤ length c.args.e.now - c.args.at = set_past _ _ _ c.args.at c.args.e.now _ c.set_from-x.ensures in
    omega arith

pub two_sets-overflow_add-result : goal.two_sets-overflow_add-result
two_sets-overflow_add-result t c =
    let ends : c.set_from-x.result.used ≤ length c.args.e.now - c.args.at = set_past _ _ _ c.args.at c.args.e.now _ c.set_from-x.ensures in
    omega (arith, set_past _ _ _ (c.args.at + c.set_from-x.result.used) c.args.e.now _ c.set_from-y.ensures)

pub two_sets-returns : goal.two_sets-returns
unfolding two_sets
two_sets-returns t c = rw (c.set_from-y.ensures, behind c.args.at c.set_from-x.result.used c.args.e.now, c.set_from-x.ensures)
