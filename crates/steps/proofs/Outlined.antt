-- What an outline says of states: the start's words.
use Prim.Native.Nat.{ℕ, ◌+◌, ◌≤◌, ◌<◌}
use mathlib.Core.Path.{◌≡◌, ap, ◌∙◌}
use mathlib.Core.List.{List, ◌++◌}
use native.Mathlib.Omega.{arith}
use lib.ListN.{length, get_or, take, drop, length-drop, get_or-append}
use lib.Seq.{length-take-le, get_or-take, get_or-drop}
use Rattle.model.specs.Steps.{target}
use Rattle.words.specs.States.{value_of}
use Rattle.outline.specs.Outline.{model_of}
use Rattle.steps.specs.InBytes.{Outlined, state_in}
use Rattle.laws.proofs.Lists.{found_below}
use Rattle.steps.proofs.StateWords.{state_started}

front_word : (ws us : List ℕ) (v : ℕ) → 16 ≤ length ws → v < 16 → get_or (take 16 ws ++ us) v 0 ≡ get_or ws v 0
front_word ws us v h l =
    let k : length (take 16 ws) ≡ 16 = length-take-le 16 ws h in
    get_or-append (take 16 ws) us 0 v (omega arith) ∙ get_or-take 16 ws v 0 l

module _ (bytes words : List ℕ) (o : Outlined bytes words) where
  pub start_state : (us : List ℕ) → state_in bytes (take 16 (drop 48 words) ++ us) ≡ target (model_of bytes)
  unfolding target
  start_state us = state_started (model_of bytes).variables (take 16 (drop 48 words) ++ us) (λ v x e. ap (value_of x.kind) (start_word v (found_below (model_of bytes).variables v e)) ∙ (o.outlines.variables v x e).start)
    where
      start_word : (v : ℕ) → v < length (model_of bytes).variables → get_or (take 16 (drop 48 words) ++ us) v 0 ≡ get_or words (48 + v) 0
      start_word v h = front_word (drop 48 words) us v (rw length-drop (omega (arith, o.long))) (omega (arith, o.outlines.few_variables)) ∙ get_or-drop 48 words v 0
