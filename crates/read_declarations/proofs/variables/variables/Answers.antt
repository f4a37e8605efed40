-- `read_declarations::variables::variables` meets its contract. The invariant: so many variables are read and stored, and the loop goes on from here. The measure is the room that is left.
use Prim.Native.Nat.{◌<◌}
use native.Mathlib.Omega.{arith}
use Rattle.read_declarations.proofs.Declarations.{variable_due, variable_inside, declared_here, no_variables, variables_so_far, variable_more, variable_too_many, variable_refused, variables_end, variables_early}
use Rattle.read_declarations.proofs.Positions.{passed_on}
use Rattle.read_declarations.proofs.variables.variables.Goals as goal

pub loop-behind-init : goal.loop-behind-init
loop-behind-init c =
    no_variables c.requires.0 c.requires.1

pub overflow_add-behind : goal.overflow_add-behind
overflow_add-behind c =
    let due = variable_due c.args.model.now c.loop-behind.at c.byte_at.ensures c.declares_variable.ensures c.loop-behind-test.true in
    record { fits = omega (arith, variable_inside c.args.model.now c.loop-behind.at due, c.well_formed) }

pub slice_bounds-variable-start : goal.slice_bounds-variable-start
slice_bounds-variable-start c =
    let due = variable_due c.args.model.now c.loop-behind.at c.byte_at.ensures c.declares_variable.ensures c.loop-behind-test.true in
    omega (arith, variable_inside c.args.model.now c.loop-behind.at due)

pub slice_bounds-variable-count : goal.slice_bounds-variable-count
slice_bounds-variable-count c =
    let due = variable_due c.args.model.now c.loop-behind.at c.byte_at.ensures c.declares_variable.ensures c.loop-behind-test.true in
    omega (arith, variable_inside c.args.model.now c.loop-behind.at due)

pub returns-in_err-declaration : goal.returns-in_err-declaration
returns-in_err-declaration c =
    let due = variable_due c.args.model.now c.loop-behind.at c.byte_at.ensures c.declares_variable.ensures c.loop-behind-test.true in
    let refused = declared_here c.args.model.now c.loop-behind.at c.byte_at-in-loop-behind.ensures c.in_err-declaration.was c.variable.ensures in
    variables_so_far c.loop-behind.invariant (rw (passed_on c.from_residual.result c.from_residual.ensures.1) (variable_refused c.loop-behind.invariant due refused))

pub returns-then-n-eq-MOST_VARIABLES : goal.returns-then-n-eq-MOST_VARIABLES
returns-then-n-eq-MOST_VARIABLES c =
    let due = variable_due c.args.model.now c.loop-behind.at c.byte_at.ensures c.declares_variable.ensures c.loop-behind-test.true in
    let told = declared_here c.args.model.now c.loop-behind.at c.byte_at-in-loop-behind.ensures c.in_ok-declaration.was c.variable.ensures in
    variables_so_far c.loop-behind.invariant (variable_too_many c.loop-behind.invariant due told c.if-n-eq-MOST_VARIABLES.true)

pub overflow_add-at : goal.overflow_add-at
overflow_add-at c =
    let due = variable_due c.args.model.now c.loop-behind.at c.byte_at.ensures c.declares_variable.ensures c.loop-behind-test.true in
    let told = declared_here c.args.model.now c.loop-behind.at c.byte_at-in-loop-behind.ensures c.in_ok-declaration.was c.variable.ensures in
    record { fits = omega (arith, variable_inside c.args.model.now c.loop-behind.at due, c.well_formed, told.short) }

pub loop-behind-preserved : goal.loop-behind-preserved
loop-behind-preserved c =
    let due = variable_due c.args.model.now c.loop-behind.at c.byte_at.ensures c.declares_variable.ensures c.loop-behind-test.true in
    let told = declared_here c.args.model.now c.loop-behind.at c.byte_at-in-loop-behind.ensures c.in_ok-declaration.was c.variable.ensures in
    let room : c.loop-behind.n < 16 = omega (arith, c.loop-behind.invariant.few, c.if-n-eq-MOST_VARIABLES.false) in
    rw c.store.ensures (variable_more c.loop-behind.invariant due told room)

pub returns-then-at-model : goal.returns-then-at-model
returns-then-at-model c =
    let other = variable_due c.args.model.now c.loop-behind.at c.byte_at.ensures c.declares_variable.ensures c.loop-behind-test.false in
    variables_so_far c.loop-behind.invariant (variables_end c.loop-behind.invariant c.if-at-model.true other)

pub returns-else-at-model : goal.returns-else-at-model
returns-else-at-model c =
    variables_so_far c.loop-behind.invariant (variables_early c.loop-behind.invariant c.if-at-model.false)
