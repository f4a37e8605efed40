-- `profile::loading_length` meets its contract.
use Prim.Native.Nat.{ℕ, max}
use mathlib.Core.Path.{◌≡◌, sym, ap, ◌∙◌}
use native.Mathlib.Omega.{arith}
use lib.ListN.{length}
use Rattle.model.specs.Sets.{members}
use Rattle.model.specs.Profile.{loading_length}
use Rattle.outline.specs.Outline.{model_of}
use Rattle.profile.proofs.Outlined.{length_told}
use Rattle.profile.proofs.loading_length.Goals as goal

pub returns : goal.returns
returns c =
    let counted : (loading_length (model_of c.args.model.now) ≡ max 1 c.count-members.result) = length_told _ _ c.requires.0 c.requires.1 ∙ ap (λ (w : ℕ). max 1 (length (members w))) (sym c.word_at.ensures) ∙ ap (max 1) (sym c.count-members.ensures.0) in
    omega (arith, counted, c.max.ensures)
