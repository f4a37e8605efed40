-- `beam_index::low_link` meets its contract. The invariant: the link is one of bucket b, and leads down from at least y.
use Prim.Native.Nat.{◌+◌, ◌-◌, ◌≤◌, ◌<◌}
use mathlib.Core.Path.{◌≡◌, refl}
use native.Mathlib.Omega.{arith}
use lib.ListN.{get_or}
use Rattle.beam_index.specs.Links.{level_at}
use Rattle.beam_index.proofs.Linked.{level_slot, level_head, link_head, link_next}
use Rattle.beam_index.proofs.low_link.Goals as goal

pub loop-link-init : goal.loop-link-init
loop-link-init c =
    let e : level_at c.args.w (c.args.w + c.args.b) ≡ c.args.w = level_head c.args.w (c.args.w + c.args.b) (omega arith) in (
      c.requires.0,
      (
        refl,
        (
          omega arith,
          (
            omega (arith, c.requires.1.1 (c.args.w + c.args.b) c.requires.0),
            (λ used bucket ix. link_head c.args.w c.args.b used bucket),
          ),
        ),
      ),
    )

pub loop-link-smaller : goal.loop-link-smaller
loop-link-smaller c =
    let turn = c.loop-link in
    let s : turn.link - 1 < c.args.w = omega arith in
    omega (arith, c.requires.1.1 (turn.link - 1) (omega arith), level_slot c.args.w (turn.link - 1) s)

pub loop-link-preserved : goal.loop-link-preserved
loop-link-preserved c =
    let turn = c.loop-link in
    let v = turn.invariant in
    let s : turn.link - 1 < c.args.w = omega arith in
    let e : level_at c.args.w (turn.link - 1) ≡ turn.link - 1 = level_slot c.args.w (turn.link - 1) s in
    let f : get_or c.args.links.now (turn.link - 1) 0 ≤ level_at c.args.w (turn.link - 1) = c.requires.1.1 (turn.link - 1) (omega arith) in (
      omega arith,
      (
        refl,
        (
          omega arith,
          (
            omega arith,
            (λ used bucket ix. link_next c.args.links.now c.args.w c.args.b turn.at turn.link v.0 v.1.0 (omega arith) v.1.1.1.0 used bucket ix (v.1.1.1.1 used bucket ix)),
          ),
        ),
      ),
    )
