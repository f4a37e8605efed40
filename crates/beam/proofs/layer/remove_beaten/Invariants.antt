-- `beam::layer::remove_beaten` meets its contract. The invariant: what is left, without those that the child beats, is the same; the measure is how many are left.
use Prim.Native.Nat.{ℕ, ◌≤◌}
use mathlib.Core.Path.{◌≡◌}
use mathlib.Core.Bool.{true}
use mathlib.Core.List.{List, ◌++◌}
use lib.ListN.{length}
use Rattle.beam_index.specs.Links.{Found}
use Rattle.beam.specs.Parts.{sought}
use Rattle.beam.specs.Layers.{slots_of, links_of, kept_of, Indexed, unbeaten}
use Rattle.beam.proofs.layer.remove_beaten.Given as goal

-- what is left, without those that the child beats, is the same
pub record Removing (bytes outline : List ℕ) (w n k : ℕ) (words₀ child words : List ℕ) (left link : ℕ) : Type 0 where
  pub fewer : left ≤ n
  pub long_same : length words ≡ length words₀
  pub held : Indexed outline w left words
  pub found : Found (links_of w words) w k (sought bytes (slots_of w words) child true) link
  pub same : unbeaten bytes child (kept_of w words left) ≡ unbeaten bytes child (kept_of w words₀ n)

abbrev pub invariant-loop-link : goal.invariant-loop-link
invariant-loop-link l = Removing l.model l.outline l.w l.n l.k l.initial.layer (l.header ++ l.state) l.layer l.left l.link

abbrev pub decreases-loop-link : goal.decreases-loop-link
decreases-loop-link l = l.left
