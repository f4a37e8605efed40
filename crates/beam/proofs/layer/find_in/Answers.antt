-- `beam::layer::find_in` meets its contract. The invariant: the slots from the link on are not sought, and the link leads to a slot of the bucket.
use Prim.Native.Nat.{ℕ, ◌+◌, ◌*◌, ◌-◌, ◌≤◌, ◌<◌}
use mathlib.Core.Path.{◌≡◌, sym, ◌∙◌}
use mathlib.Core.Bool.{Bool}
use mathlib.Core.List.{List, ◌++◌}
use native.Mathlib.Omega.{arith}
use lib.ListN.{length, get_or}
use Rattle.beam_order.specs.Slots.{order_at, links_at}
use Rattle.beam_index.proofs.Linked.{level_slot, level_head, walk_start, walk_next}
use Rattle.beam.specs.Parts.{sought}
use Rattle.beam.specs.Layers.{slots_of, links_of, Walkable}
use Rattle.beam.proofs.Written.{words_front}
use Rattle.beam.proofs.Moves.{links_length, links_at_lem}
use Rattle.beam.proofs.layer.find_in.Goals as goal

-- a slot's node is sought in the slots as in the whole layer
same-slot : (bytes layer child : List ℕ) (beaten : Bool) (w s : ℕ) → s < w → sought bytes (slots_of w layer) child beaten s ≡ sought bytes layer child beaten s
unfolding sought
same-slot bytes layer child beaten w s h = rw (words_front layer (order_at * w) s (omega arith))

module _ {w k : ℕ} {layer : List ℕ} (walk : Walkable w k layer) where
  -- the bucket's head, and the link of a slot, lead down
  head-low : get_or layer (links_at * w + (w + k)) 0 ≤ w
  head-low =
      let here : w + k < length (links_of w layer) = omega (arith, links_length w layer walk.long, walk.is_in_range) in
      omega (arith, walk.falling (w + k) here, level_head w (w + k) (omega arith), links_at_lem w layer (w + k) (omega (arith, walk.is_in_range)))

  slot_low : (s : ℕ) → s < w → get_or layer (links_at * w + s) 0 ≤ s
  slot_low s h =
      let here : s < length (links_of w layer) = omega (arith, links_length w layer walk.long) in
      omega (arith, walk.falling s here, level_slot w s h, links_at_lem w layer s (omega arith))

pub loop-next-init : goal.loop-next-init
loop-next-init c =
    let a = c.args in
    let walk = c.requires.1.0 in
    let e : get_or (links_of a.w a.layer.now) (a.w + a.k) 0 ≡ get_or a.layer.now (links_at * a.w + (a.w + a.k)) 0 = links_at_lem a.w a.layer.now (a.w + a.k) (omega (arith, walk.is_in_range)) in (
      head-low walk,
      (λ used bucket ix. rw e at (walk_start (links_of a.w a.layer.now) a.w a.k (sought a.model.now (slots_of a.w a.layer.now) (a.header.now ++ a.state.now) a.beaten) used bucket ix (omega (arith, links_length a.w a.layer.now walk.long, walk.is_in_range)))),
    )

pub returns-then-sought : goal.returns-then-sought
returns-then-sought c =
    let a = c.args in
    record {
      within = c.loop-next.invariant.0;
      none = λ used bucket ix e. absurd (omega arith);
      one = λ used bucket ix pos. (
        (c.loop-next.invariant.1 used bucket ix).here pos,
        same-slot a.model.now a.layer.now (a.header.now ++ a.state.now) a.beaten a.w (c.loop-next.next - 1) (omega (arith, c.loop-next.invariant.0)) ∙ sym c.sought.ensures ∙ c.if-sought.true,
      );
    }

pub loop-next-smaller : goal.loop-next-smaller
loop-next-smaller c =
    omega (arith, slot_low c.requires.1.0 (c.loop-next.next - 1) (omega (arith, c.loop-next.invariant.0)))

pub loop-next-preserved : goal.loop-next-preserved
loop-next-preserved c =
    let a = c.args in
    let walk = c.requires.1.0 in
    let e : get_or (links_of a.w a.layer.now) (c.loop-next.next - 1) 0 ≡ get_or a.layer.now (links_at * a.w + (c.loop-next.next - 1)) 0 = links_at_lem a.w a.layer.now (c.loop-next.next - 1) (omega (arith, c.loop-next.invariant.0)) in (
      omega (arith, slot_low walk (c.loop-next.next - 1) (omega (arith, c.loop-next.invariant.0)), c.loop-next.invariant.0),
      (λ used bucket ix. rw e at (walk_next (links_of a.w a.layer.now) a.w a.k (sought a.model.now (slots_of a.w a.layer.now) (a.header.now ++ a.state.now) a.beaten) used bucket ix c.loop-next.next (omega arith) c.loop-next.invariant.0
          (omega (arith, links_length a.w a.layer.now walk.long, c.loop-next.invariant.0)) (c.loop-next.invariant.1 used bucket ix)
          (same-slot a.model.now a.layer.now (a.header.now ++ a.state.now) a.beaten a.w (c.loop-next.next - 1) (omega (arith, c.loop-next.invariant.0)) ∙ sym c.sought.ensures ∙ c.if-sought.false))),
    )
