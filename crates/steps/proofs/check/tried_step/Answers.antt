-- `steps::check::tried_step` meets its contract.
use Rattle.steps.proofs.Following.{checked_blocked, checked_before, checked_after, step_small, joinable, checked_moved}
use Rattle.steps.proofs.check.tried_step.Goals as goal

pub step-requires : goal.step-requires
step-requires c =
    (c.requires.0, c.forget.ensures _ _)

pub combine-requires : goal.combine-requires
combine-requires c =
    (c.requires.0, joinable c.requires.1 (step_small _ _ _ c.args.g _ _ c.step.ensures.0 c.in-Moved.is))

pub returns-in-Blocked : goal.returns-in-Blocked
returns-in-Blocked c =
    checked_blocked _ _ _ _ _ _ c.step.ensures.0 c.in-Blocked.is

pub returns-in-Moved : goal.returns-in-Moved
returns-in-Moved c =
    checked_moved _ _ _ _ _ _ c.step.ensures.0 c.in-Moved.is c.combine.ensures

pub returns-in-Before : goal.returns-in-Before
returns-in-Before c =
    checked_before _ _ _ _ _ _ c.step.ensures.0 c.in-Before.is

pub returns-in-After : goal.returns-in-After
returns-in-After c =
    checked_after _ _ _ _ _ _ c.step.ensures.0 c.in-After.is
