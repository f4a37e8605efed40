-- `search_expansion::children::try_transition` meets its contract.
use Prim.Native.Nat.{◌<◌}
use native.Mathlib.Omega.{arith}
use Rattle.steps.proofs.Promises.{few_transitions}
use Rattle.search_expansion.proofs.TrialSteps.{moved_small, after_small, tried_blocked, tried_before, tried_after, tried_moved}
use Rattle.search_expansion.proofs.children.try_transition.Goals as goal

pub bounded-requires : goal.bounded-requires
bounded-requires c =
    let small : c.args.turn.transition < 256 = omega (arith, c.requires.1.declared, few_transitions c.requires.0.outlined) in
    (c.requires.0, record { transition = small; cost = moved_small c.allowed_step.ensures.0 c.in-Moved.is }, c.allowed_step.ensures.1)

pub combine-requires : goal.combine-requires
combine-requires c =
    (c.requires.0.outlined, omega (arith, c.requires.0.small, after_small c.allowed_step.ensures.0 c.in-After.is))

pub returns-in-Blocked : goal.returns-in-Blocked
returns-in-Blocked c =
    (tried_blocked _ _ _ _ _ _ _ c.allowed_step.ensures.0 c.in-Blocked.is c.requires.0.held, c.allowed_step.ensures.1)

pub returns-in-Moved : goal.returns-in-Moved
returns-in-Moved c =
    (tried_moved _ _ _ _ _ _ _ c.allowed_step.ensures.0 _ c.in-Moved.is (c.bounded.ensures.0.grows _), c.bounded.ensures.1)

pub returns-in-Before : goal.returns-in-Before
returns-in-Before c =
    (tried_before _ _ _ _ _ _ _ c.allowed_step.ensures.0 c.in-Before.is c.number.ensures.kept c.requires.0.held, c.allowed_step.ensures.1)

pub returns-in-After : goal.returns-in-After
returns-in-After c =
    let small : c.args.turn.transition < 256 = omega (arith, c.requires.1.declared, few_transitions c.requires.0.outlined) in
    (tried_after _ _ _ _ _ _ _ c.allowed_step.ensures.0 c.in-After.is c.number-in-After.ensures.kept (small) c.combine.ensures c.requires.0.held, c.allowed_step.ensures.1)
