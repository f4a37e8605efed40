-- `steps::states::start` meets its contract.
use Rattle.steps.proofs.Outlined.{start_state}
use Rattle.steps.specs.InBytes.{state_in}
use mathlib.Core.Path.{ap, ◌∙◌}
use Rattle.steps.proofs.states.start.Goals as goal

pub returns : goal.returns
returns c =
    ap (state_in _) c.copy_start.ensures ∙ start_state _ _ c.requires.0 _
