-- The evaluators of numbers and conditions, which call each other, meet their contracts.
use Rattle.std.proofs.Common.{◌≡◌, ◌+◌, ◌-◌, ◌^◌, ◌<◌, ◌≤◌, drop, length, length-drop, refl, sym, ◌∙◌, arith, rules, w64, Ok}
use Rattle.std.proofs.lemmas.Result.{err_from_is_err_and}
use mir.Val.{SFits}
use Rattle.eval_sets.specs.declared.answers.ConditionValue.TheVariants as C
use Rattle.eval_sets.specs.Forms.{number_form, condition_form}
use Rattle.eval_sets.specs.Runs.{Environment, environment, run_number, run_condition, number_at, condition_at, number_behind, condition_behind, run_pair, pair_first, pair_second, number_before, chosen, run_choice, choice_first, run_connective, connective_first, decided}
use Rattle.eval_sets.proofs.Within.{number_within, condition_within, condition_known, number_past, condition_past, number_room, condition_room, variable_room, literal_room, member_room, pair_in_range, pair_run_within, number_at_within, condition_at_within}
use Rattle.eval_sets.proofs.Opening.{number_opens, condition_opens}
use Rattle.eval_sets.proofs.Spans.{span_within}
use Rattle.words.proofs.Integers.{back}
use Rattle.eval_sets.proofs.Slices.{behind}
use Rattle.eval_numbers.proofs.+choice_condition_behind_condition_from_connective_number_before_number_behind_number_beyond_number_from_pair.Goals as goal

-- ---- `choice`

pub choice-number_before-requires : goal.choice-number_before-requires
choice-number_before-requires t c =
    let holds : run_condition c.args.depth (environment c.args.model.now c.args.state.now c.args.outline.now) (drop c.args.at c.args.e.now) ≡ C.Holds c.in-Holds.b c.in-Holds.n = sym c.condition_from.ensures ∙ c.in-Holds.is in
    (omega arith, condition_known _ _ _ _ _ holds)

pub choice-number_beyond-requires : goal.choice-number_beyond-requires
choice-number_beyond-requires t c =
    let holds : run_condition c.args.depth (environment c.args.model.now c.args.state.now c.args.outline.now) (drop c.args.at c.args.e.now) ≡ C.Holds c.in-Holds.b c.in-Holds.n = sym c.condition_from.ensures ∙ c.in-Holds.is in
    (omega arith, condition_known _ _ _ _ _ holds)

pub choice-returns-then-b : goal.choice-returns-then-b
unfolding run_choice choice_first chosen
choice-returns-then-b t c =
    let holds : run_condition c.args.depth (environment c.args.model.now c.args.state.now c.args.outline.now) (drop c.args.at c.args.e.now) ≡ C.Holds c.in-Holds.b c.in-Holds.n = sym c.condition_from.ensures ∙ c.in-Holds.is in
    rw (holds, c.if-b.true) c.number_before.ensures

pub choice-returns-else-b : goal.choice-returns-else-b
unfolding run_choice choice_first
choice-returns-else-b t c =
    let holds : run_condition c.args.depth (environment c.args.model.now c.args.state.now c.args.outline.now) (drop c.args.at c.args.e.now) ≡ C.Holds c.in-Holds.b c.in-Holds.n = sym c.condition_from.ensures ∙ c.in-Holds.is in
    rw (holds, c.if-b.false) c.number_beyond.ensures

pub choice-returns-in-Trouble : goal.choice-returns-in-Trouble
unfolding run_choice choice_first
choice-returns-in-Trouble t c = rw (← c.condition_from.ensures, c.in-Trouble.is)

-- ---- `condition_behind`

pub condition_behind-returns-in-Comparison : goal.condition_behind-returns-in-Comparison
unfolding condition_at condition_behind
condition_behind-returns-in-Comparison t c = rw (c.in-Comparison.is, c.comparison.ensures, c.pair.ensures)

pub condition_behind-returns-in-Same : goal.condition_behind-returns-in-Same
unfolding condition_at condition_behind
condition_behind-returns-in-Same t c = rw c.in-Same.is (rw c.after.ensures at c.same_elements.ensures)

pub condition_behind-returns-in-Member : goal.condition_behind-returns-in-Member
unfolding condition_at condition_behind
condition_behind-returns-in-Member t c = rw c.in-Member.is c.member_of.ensures

pub condition_behind-returns-in-Empty : goal.condition_behind-returns-in-Empty
unfolding condition_at condition_behind
condition_behind-returns-in-Empty t c = rw c.in-Empty.is c.empty_set.ensures

pub condition_behind-returns-in-Subset : goal.condition_behind-returns-in-Subset
unfolding condition_at condition_behind
condition_behind-returns-in-Subset t c = rw c.in-Subset.is c.subset_of.ensures

pub condition_behind-returns-in-Negation : goal.condition_behind-returns-in-Negation
unfolding condition_at condition_behind
condition_behind-returns-in-Negation t c = rw (c.in-Negation.is, c.negation.ensures, c.condition_from.ensures)

pub condition_behind-returns-in-Connective : goal.condition_behind-returns-in-Connective
unfolding condition_at condition_behind
condition_behind-returns-in-Connective t c = rw c.in-Connective.is c.connective.ensures

pub condition_behind-returns-in-Other : goal.condition_behind-returns-in-Other
unfolding condition_at condition_behind
condition_behind-returns-in-Other t c = rw c.in-Other.is

-- ---- `condition_from`

pub condition_from-returns-then-depth-eq0 : goal.condition_from-returns-then-depth-eq0
condition_from-returns-then-depth-eq0 t c = sym ((condition_opens _).no_depth_lem _ c.args.at c.args.e.now c.if-depth-eq0.true)

pub condition_from-returns-then-e-at : goal.condition_from-returns-then-e-at
condition_from-returns-then-e-at t c = sym ((condition_opens _).no_byte _ c.args.at c.args.e.now c.if-e-at.true)

pub condition_from-condition_past-requires : goal.condition_from-condition_past-requires
condition_from-condition_past-requires t c =
    let p : Environment = environment c.args.model.now c.args.state.now c.args.outline.now in
    let left : 1 + length (drop (c.args.at + 1) c.args.e.now) < 2 ^ 64 = omega (arith, length-drop (c.args.at + 1) c.args.e.now) in
    rw c.member_of.ensures (member_room _ p _ left)

pub condition_from-returns-then-b-eq84 : goal.condition_from-returns-then-b-eq84
unfolding condition_at condition_behind condition_form
condition_from-returns-then-b-eq84 t c =
    let p : Environment = environment c.args.model.now c.args.state.now c.args.outline.now in
    rw (c.condition_past.ensures, c.member_of.ensures)
    (sym ((condition_opens p).opened _ c.args.at c.args.e.now c.if-depth-eq0.false c.if-e-at.false c.if-b-eq84.true))

pub condition_from-condition_past-requires-2 : goal.condition_from-condition_past-requires-2
condition_from-condition_past-requires-2 t c =
    let p : Environment = environment c.args.model.now c.args.state.now c.args.outline.now in
    let left : 1 + length (drop (c.args.at + 1) c.args.e.now) < 2 ^ 64 = omega (arith, length-drop (c.args.at + 1) c.args.e.now) in
    let f = drop (c.args.at + 1) c.args.e.now in
    let d = c.args.depth - 1 in
    let o = c.condition_form.result in
    rw c.condition_behind.ensures (condition_room 1 (length f) (condition_at d p o f) (condition_at_within d p o f) left)

pub condition_from-returns : goal.condition_from-returns
condition_from-returns t c =
    rw (c.condition_past-2.ensures, c.condition_behind.ensures, c.condition_form.ensures)
    (sym ((condition_opens _).opened _ c.args.at c.args.e.now c.if-depth-eq0.false c.if-e-at.false refl))

-- ---- `connective`

pub connective-overflow_add-at : goal.connective-overflow_add-at
connective-overflow_add-at t c =
    let holds : run_condition c.args.depth (environment c.args.model.now c.args.state.now c.args.outline.now) (drop c.args.at c.args.e.now) ≡ C.Holds c.in-Holds.b c.in-Holds.n = sym c.condition_from.ensures ∙ c.in-Holds.is in
    let ends : c.in-Holds.n ≤ length c.args.e.now - c.args.at = condition_past _ _ c.args.at c.args.e.now _ _ holds in
    omega arith

pub connective-overflow_add-used : goal.connective-overflow_add-used
connective-overflow_add-used t c =
    let holds : run_condition c.args.depth (environment c.args.model.now c.args.state.now c.args.outline.now) (drop c.args.at c.args.e.now) ≡ C.Holds c.in-Holds.b c.in-Holds.n = sym c.condition_from.ensures ∙ c.in-Holds.is in
    let ends : c.in-Holds.n ≤ length c.args.e.now - c.args.at = condition_past _ _ c.args.at c.args.e.now _ _ holds in
    omega (
      arith,
      rw c.after.ensures at c.skip.ensures,
      span_within (drop (c.args.at + c.in-Holds.n) c.args.e.now) 0 1,
      length-drop (c.args.at + c.in-Holds.n) c.args.e.now,
    )

pub connective-overflow_add-at-else-agree : goal.connective-overflow_add-at-else-agree
connective-overflow_add-at-else-agree t c =
    let holds : run_condition c.args.depth (environment c.args.model.now c.args.state.now c.args.outline.now) (drop c.args.at c.args.e.now) ≡ C.Holds c.in-Holds.b c.in-Holds.n = sym c.condition_from.ensures ∙ c.in-Holds.is in
    let ends : c.in-Holds.n ≤ length c.args.e.now - c.args.at = condition_past _ _ c.args.at c.args.e.now _ _ holds in
    omega arith

pub connective-condition_past-requires : goal.connective-condition_past-requires
connective-condition_past-requires t c =
    let holds : run_condition c.args.depth (environment c.args.model.now c.args.state.now c.args.outline.now) (drop c.args.at c.args.e.now) ≡ C.Holds c.in-Holds.b c.in-Holds.n = sym c.condition_from.ensures ∙ c.in-Holds.is in
    let ends : c.in-Holds.n ≤ length c.args.e.now - c.args.at = condition_past _ _ c.args.at c.args.e.now _ _ holds in
    let p : Environment = environment c.args.model.now c.args.state.now c.args.outline.now in
    let f = drop (c.args.at + c.in-Holds.n) c.args.e.now in
    let room : c.in-Holds.n + length (drop (c.args.at + c.in-Holds.n) c.args.e.now) < 2 ^ 64 = omega (arith, length-drop (c.args.at + c.in-Holds.n) c.args.e.now) in
    rw c.condition_from-else-agree.ensures
    (condition_room c.in-Holds.n (length f) (run_condition c.args.depth p f) (condition_within c.args.depth p f) room)

pub connective-returns-then-agree : goal.connective-returns-then-agree
unfolding run_connective connective_first decided
connective-returns-then-agree t c =
    let holds : run_condition c.args.depth (environment c.args.model.now c.args.state.now c.args.outline.now) (drop c.args.at c.args.e.now) ≡ C.Holds c.in-Holds.b c.in-Holds.n = sym c.condition_from.ensures ∙ c.in-Holds.is in
    rw (holds, ← c.agree.ensures, c.if-agree.true, c.skip.ensures, c.after.ensures, behind c.args.at c.in-Holds.n c.args.e.now)

pub connective-returns-else-agree : goal.connective-returns-else-agree
unfolding run_connective connective_first decided
connective-returns-else-agree t c =
    let holds : run_condition c.args.depth (environment c.args.model.now c.args.state.now c.args.outline.now) (drop c.args.at c.args.e.now) ≡ C.Holds c.in-Holds.b c.in-Holds.n = sym c.condition_from.ensures ∙ c.in-Holds.is in
    rw (c.condition_past.ensures, c.condition_from-else-agree.ensures, holds, ← c.agree.ensures, c.if-agree.false, behind c.args.at c.in-Holds.n c.args.e.now)

pub connective-returns-in-Trouble : goal.connective-returns-in-Trouble
unfolding run_connective connective_first
connective-returns-in-Trouble t c = rw (← c.condition_from.ensures, c.in-Trouble.is)

-- ---- `number_before`

pub number_before-overflow_add-k : goal.number_before-overflow_add-k
number_before-overflow_add-k t c =
    let read : run_number c.args.depth (environment c.args.model.now c.args.state.now c.args.outline.now) (drop (c.args.at + c.args.n) c.args.e.now) ≡ Ok c.in_ok-z.z = sym c.number_from.ensures ∙ c.in_ok-z.was in
    let ends : c.args.n + c.in_ok-z.z.used ≤ length c.args.e.now - c.args.at = omega (arith, c.requires, length-drop c.args.at c.args.e.now, number_past _ _ (c.args.at + c.args.n) c.args.e.now read) in
    omega arith

pub number_before-overflow_add-at-2 : goal.number_before-overflow_add-at-2
number_before-overflow_add-at-2 t c =
    let read : run_number c.args.depth (environment c.args.model.now c.args.state.now c.args.outline.now) (drop (c.args.at + c.args.n) c.args.e.now) ≡ Ok c.in_ok-z.z = sym c.number_from.ensures ∙ c.in_ok-z.was in
    let ends : c.args.n + c.in_ok-z.z.used ≤ length c.args.e.now - c.args.at = omega (arith, c.requires, length-drop c.args.at c.args.e.now, number_past _ _ (c.args.at + c.args.n) c.args.e.now read) in
    omega arith

pub number_before-overflow_add-used : goal.number_before-overflow_add-used
number_before-overflow_add-used t c =
    let read : run_number c.args.depth (environment c.args.model.now c.args.state.now c.args.outline.now) (drop (c.args.at + c.args.n) c.args.e.now) ≡ Ok c.in_ok-z.z = sym c.number_from.ensures ∙ c.in_ok-z.was in
    let ends : c.args.n + c.in_ok-z.z.used ≤ length c.args.e.now - c.args.at = omega (arith, c.requires, length-drop c.args.at c.args.e.now, number_past _ _ (c.args.at + c.args.n) c.args.e.now read) in
    omega (
      arith,
      rw c.after.ensures at c.skip.ensures,
      span_within (drop (c.args.at + (c.args.n + c.in_ok-z.z.used)) c.args.e.now) 0 1,
      length-drop (c.args.at + (c.args.n + c.in_ok-z.z.used)) c.args.e.now,
    )

pub number_before-returns : goal.number_before-returns
unfolding number_before
number_before-returns t c =
    let read : run_number c.args.depth (environment c.args.model.now c.args.state.now c.args.outline.now) (drop (c.args.at + c.args.n) c.args.e.now) ≡ Ok c.in_ok-z.z = sym c.number_from.ensures ∙ c.in_ok-z.was in
    let f : SFits w64 c.in_ok-z.z.value = search rules in
    rw (back f, ← behind c.args.at c.args.n c.args.e.now, read, c.skip.ensures, c.after.ensures, behind c.args.at (c.args.n + c.in_ok-z.z.used) c.args.e.now)

pub number_before-returns-in_err-z : goal.number_before-returns-in_err-z
unfolding number_before
number_before-returns-in_err-z t c =
    let p = err_from_is_err_and c.from_residual.result c.from_residual.ensures.1 in
    rw (p.1, p.2, ← behind c.args.at c.args.n c.args.e.now, ← c.number_from.ensures, c.in_err-z.was)

-- ---- `number_behind`

pub number_behind-arithmetic-requires : goal.number_behind-arithmetic-requires
number_behind-arithmetic-requires t c =
    let p : Environment = environment c.args.model.now c.args.state.now c.args.outline.now in
    let e = drop c.args.at c.args.e.now in
    rw c.pair.ensures (pair_in_range (length e) (run_pair (λ f. run_number c.args.depth p f) e) (pair_run_within c.args.depth p e))

pub number_behind-returns-in-Literal : goal.number_behind-returns-in-Literal
unfolding number_at number_behind
number_behind-returns-in-Literal t c = rw c.in-Literal.is (rw c.after.ensures at c.literal_number.ensures)

pub number_behind-returns-in-Variable : goal.number_behind-returns-in-Variable
unfolding number_at number_behind
number_behind-returns-in-Variable t c = rw c.in-Variable.is (rw c.after-in-Variable.ensures at c.number_variable.ensures)

pub number_behind-returns-in-Arithmetic : goal.number_behind-returns-in-Arithmetic
unfolding number_at number_behind
number_behind-returns-in-Arithmetic t c = rw (c.in-Arithmetic.is, c.arithmetic.ensures, c.pair.ensures)

pub number_behind-returns-in-Entry : goal.number_behind-returns-in-Entry
unfolding number_at number_behind
number_behind-returns-in-Entry t c = rw c.in-Entry.is (rw c.after-in-Entry.ensures at c.entry_number.ensures)

pub number_behind-returns-in-Size : goal.number_behind-returns-in-Size
unfolding number_at number_behind
number_behind-returns-in-Size t c = rw c.in-Size.is c.size_number.ensures

pub number_behind-returns-in-Total : goal.number_behind-returns-in-Total
unfolding number_at number_behind
number_behind-returns-in-Total t c = rw c.in-Total.is c.total_number.ensures

pub number_behind-returns-in-Choice : goal.number_behind-returns-in-Choice
unfolding number_at number_behind
number_behind-returns-in-Choice t c = rw c.in-Choice.is c.choice.ensures

pub number_behind-returns-in-Other : goal.number_behind-returns-in-Other
unfolding number_at number_behind
number_behind-returns-in-Other t c = rw c.in-Other.is

-- ---- `number_beyond`

pub number_beyond-overflow_add-k : goal.number_beyond-overflow_add-k
number_beyond-overflow_add-k t c =
    let ends : c.args.n + c.skip.result ≤ length c.args.e.now - c.args.at =
    omega (
      arith,
      rw c.after.ensures at c.skip.ensures,
      span_within (drop (c.args.at + c.args.n) c.args.e.now) 0 1,
      length-drop (c.args.at + c.args.n) c.args.e.now,
      c.requires,
      length-drop c.args.at c.args.e.now,
    ) in
    omega arith

pub number_beyond-overflow_add-at-2 : goal.number_beyond-overflow_add-at-2
number_beyond-overflow_add-at-2 t c =
    let ends : c.args.n + c.skip.result ≤ length c.args.e.now - c.args.at =
    omega (
      arith,
      rw c.after.ensures at c.skip.ensures,
      span_within (drop (c.args.at + c.args.n) c.args.e.now) 0 1,
      length-drop (c.args.at + c.args.n) c.args.e.now,
      c.requires,
      length-drop c.args.at c.args.e.now,
    ) in
    omega arith

pub number_beyond-number_past-requires : goal.number_beyond-number_past-requires
number_beyond-number_past-requires t c =
    let ends : c.args.n + c.skip.result ≤ length c.args.e.now - c.args.at =
    omega (
      arith,
      rw c.after.ensures at c.skip.ensures,
      span_within (drop (c.args.at + c.args.n) c.args.e.now) 0 1,
      length-drop (c.args.at + c.args.n) c.args.e.now,
      c.requires,
      length-drop c.args.at c.args.e.now,
    ) in
    let p : Environment = environment c.args.model.now c.args.state.now c.args.outline.now in
    let k = c.args.n + c.skip.result in
    let f = drop (c.args.at + k) c.args.e.now in
    let room : c.args.n + c.skip.result + length (drop (c.args.at + (c.args.n + c.skip.result)) c.args.e.now) < 2 ^ 64 = omega (arith, length-drop (c.args.at + (c.args.n + c.skip.result)) c.args.e.now) in
    rw c.number_from.ensures
    (number_room k (length f) (run_number c.args.depth p f) (number_within c.args.depth p f) room)

pub number_beyond-returns : goal.number_beyond-returns
unfolding chosen
number_beyond-returns t c =
    let q = rw (c.after.ensures, behind c.args.at c.args.n c.args.e.now) at c.skip.ensures in
    rw (c.number_past.ensures, c.number_from.ensures, behind c.args.at (c.args.n + c.skip.result) c.args.e.now, q)

-- ---- `number_from`

pub number_from-returns-then-depth-eq0 : goal.number_from-returns-then-depth-eq0
number_from-returns-then-depth-eq0 t c = sym ((number_opens _).no_depth_lem _ c.args.at c.args.e.now c.if-depth-eq0.true)

pub number_from-returns-then-e-at : goal.number_from-returns-then-e-at
number_from-returns-then-e-at t c = sym ((number_opens _).no_byte _ c.args.at c.args.e.now c.if-e-at.true)

pub number_from-number_past-requires : goal.number_from-number_past-requires
number_from-number_past-requires t c =
    let p : Environment = environment c.args.model.now c.args.state.now c.args.outline.now in
    let left : 1 + length (drop (c.args.at + 1) c.args.e.now) < 2 ^ 64 = omega (arith, length-drop (c.args.at + 1) c.args.e.now) in
    rw (c.number_variable.ensures, c.after.ensures) (variable_room 0 p _ left)

pub number_from-returns-then-b-eq33 : goal.number_from-returns-then-b-eq33
unfolding number_at number_behind number_form
number_from-returns-then-b-eq33 t c =
    let p : Environment = environment c.args.model.now c.args.state.now c.args.outline.now in
    rw (c.number_past.ensures, c.number_variable.ensures, c.after.ensures)
    (sym ((number_opens p).opened _ c.args.at c.args.e.now c.if-depth-eq0.false c.if-e-at.false c.if-b-eq33.true))

pub number_from-number_past-requires-then-b-eq32 : goal.number_from-number_past-requires-then-b-eq32
number_from-number_past-requires-then-b-eq32 t c =
    let p : Environment = environment c.args.model.now c.args.state.now c.args.outline.now in
    let left : 1 + length (drop (c.args.at + 1) c.args.e.now) < 2 ^ 64 = omega (arith, length-drop (c.args.at + 1) c.args.e.now) in
    rw (c.literal_number.ensures, c.after-then-b-eq32.ensures) (literal_room 0 p _ left)

pub number_from-returns-then-b-eq32 : goal.number_from-returns-then-b-eq32
unfolding number_at number_behind number_form
number_from-returns-then-b-eq32 t c =
    let p : Environment = environment c.args.model.now c.args.state.now c.args.outline.now in
    rw (c.number_past-then-b-eq32.ensures, c.literal_number.ensures, c.after-then-b-eq32.ensures)
    (sym ((number_opens p).opened _ c.args.at c.args.e.now c.if-depth-eq0.false c.if-e-at.false c.if-b-eq32.true))

pub number_from-number_past-requires-2 : goal.number_from-number_past-requires-2
number_from-number_past-requires-2 t c =
    let p : Environment = environment c.args.model.now c.args.state.now c.args.outline.now in
    let left : 1 + length (drop (c.args.at + 1) c.args.e.now) < 2 ^ 64 = omega (arith, length-drop (c.args.at + 1) c.args.e.now) in
    let f = drop (c.args.at + 1) c.args.e.now in
    let d = c.args.depth - 1 in
    let o = c.number_form.result in
    rw c.number_behind.ensures (number_room 1 (length f) (number_at d p o f) (number_at_within d p o f) left)

pub number_from-returns : goal.number_from-returns
number_from-returns t c =
    rw (c.number_past-2.ensures, c.number_behind.ensures, c.number_form.ensures)
    (sym ((number_opens _).opened _ c.args.at c.args.e.now c.if-depth-eq0.false c.if-e-at.false refl))

-- ---- `pair`

pub pair-overflow_add-at : goal.pair-overflow_add-at
pair-overflow_add-at t c =
    let read : run_number c.args.depth (environment c.args.model.now c.args.state.now c.args.outline.now) (drop c.args.at c.args.e.now) ≡ Ok c.in_ok-x.x = sym c.number_from.ensures ∙ c.in_ok-x.was in
    let ends : c.in_ok-x.x.used ≤ length c.args.e.now - c.args.at = number_past _ _ c.args.at c.args.e.now read in
    omega arith

pub pair-overflow_add-result : goal.pair-overflow_add-result
pair-overflow_add-result t c =
    let read : run_number c.args.depth (environment c.args.model.now c.args.state.now c.args.outline.now) (drop c.args.at c.args.e.now) ≡ Ok c.in_ok-x.x = sym c.number_from.ensures ∙ c.in_ok-x.was in
    let ends : c.in_ok-x.x.used ≤ length c.args.e.now - c.args.at = number_past _ _ c.args.at c.args.e.now read in
    omega (arith, number_past _ _ (c.args.at + c.in_ok-x.x.used) c.args.e.now (sym c.number_from-2.ensures ∙ c.in_ok-y.was))

pub pair-returns : goal.pair-returns
unfolding run_pair pair_first pair_second
pair-returns t c =
    let read : run_number c.args.depth (environment c.args.model.now c.args.state.now c.args.outline.now) (drop c.args.at c.args.e.now) ≡ Ok c.in_ok-x.x = sym c.number_from.ensures ∙ c.in_ok-x.was in
    let f : SFits w64 c.in_ok-x.x.value = search rules in
    let g : SFits w64 c.in_ok-y.y.value = search rules in
    rw (back f, back g, read, ← behind _ _ _, ← c.number_from-2.ensures, c.in_ok-y.was)

pub pair-returns-in_err-y : goal.pair-returns-in_err-y
unfolding run_pair pair_first pair_second
pair-returns-in_err-y t c =
    let read : run_number c.args.depth (environment c.args.model.now c.args.state.now c.args.outline.now) (drop c.args.at c.args.e.now) ≡ Ok c.in_ok-x.x = sym c.number_from.ensures ∙ c.in_ok-x.was in
    let p = err_from_is_err_and c.from_residual-in_err-y.result c.from_residual-in_err-y.ensures.1 in
    rw (p.1, p.2, read, ← behind _ _ _, ← c.number_from-2.ensures, c.in_err-y.was)

pub pair-returns-in_err-x : goal.pair-returns-in_err-x
unfolding run_pair pair_first
pair-returns-in_err-x t c =
    let p = err_from_is_err_and c.from_residual.result c.from_residual.ensures.1 in
    rw (p.1, p.2, ← c.number_from.ensures, c.in_err-x.was)
