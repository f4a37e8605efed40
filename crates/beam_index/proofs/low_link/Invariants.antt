-- `beam_index::low_link` meets its contract. The invariant: the link is one of bucket b, and leads down from at least y.
use Prim.Native.Nat.{ℕ, ◌≤◌, ◌<◌}
use mathlib.Core.Path.{◌≡◌}
use mathlib.Core.Bool.{Bool}
use lib.ListN.{length, get_or}
use Rattle.beam_index.specs.Links.{level_at, Index, LinkOf}
use Rattle.beam_index.proofs.low_link.Given as goal

abbrev pub invariant-loop-link : goal.invariant-loop-link
invariant-loop-link l = (l.at < length l.links) × ((get_or l.links l.at 0 ≡ l.link) × ((l.y ≤ level_at l.w l.at) × ((l.link ≤ l.w) × ((used : ℕ → Bool) (bucket : ℕ → ℕ) → Index l.w used bucket l.links → LinkOf l.w used bucket l.b l.at))))

abbrev pub decreases-loop-link : goal.decreases-loop-link
decreases-loop-link l = l.link
