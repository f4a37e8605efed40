-- `steps::moves::settle` meets its contract.
use Rattle.steps.proofs.Moving.{move_blocked, move_before, move_after}
use Rattle.steps.proofs.moves.settle.Goals as goal

pub returns-in-NotTaken : goal.returns-in-NotTaken
returns-in-NotTaken c =
    move_blocked _ _ _ _ _ c.requires.1 c.in-NotTaken.is

pub returns-in-Taken : goal.returns-in-Taken
returns-in-Taken c =
    move_after _ _ _ _ _ c.requires.1 c.in-Taken.is _ c.constrained.ensures

pub returns-in-Trouble : goal.returns-in-Trouble
returns-in-Trouble c =
    move_before _ _ _ _ _ c.requires.1 c.in-Trouble.is
