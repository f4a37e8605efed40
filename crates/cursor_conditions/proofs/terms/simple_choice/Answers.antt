-- `cursor_conditions::terms::simple_choice` meets its contract.
use Rattle.cursor_conditions.proofs.SumLaws.{choice_told}
use Rattle.cursor_conditions.proofs.terms.simple_choice.Goals as goal

pub returns : goal.returns
returns c =
    choice_told _ _ _ _ c.requires c.in_ok-c.ensures _ c.simple_by.ensures
