-- `beam_widths::widest` meets its contract.
use mathlib.Core.Path.{◌∙◌}
use Rattle.beam_widths.proofs.Places.{last_is_widest}
use Rattle.beam_widths.proofs.widest.Goals as goal

pub returns : goal.returns
returns c =
    c.width_at.ensures ∙ last_is_widest c.args.widths.now c.requires
