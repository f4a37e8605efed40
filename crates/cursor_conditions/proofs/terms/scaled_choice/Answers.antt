-- `cursor_conditions::terms::scaled_choice` meets its contract.
use Rattle.cursor_conditions.proofs.SumLaws.{choice_told}
use Rattle.cursor_conditions.proofs.terms.scaled_choice.Goals as goal

pub returns : goal.returns
returns c =
    choice_told _ _ _ _ c.requires c.in_ok-c.ensures _ c.literal_by.ensures
