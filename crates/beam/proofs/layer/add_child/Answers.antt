-- `beam::layer::add_child` meets its contract.
use Prim.Native.Nat.{ℕ, ◌+◌, ◌*◌, ◌<◌}
use mathlib.Core.Path.{sym, ap, subst}
use native.Mathlib.Omega.{arith}
use mathlib.Core.List.{List, ◌++◌}
use lib.ListN.{length, get_or, drop}
use Rattle.beam_order.specs.Order.{earlier_at, Cutoff}
use Rattle.beam_index.specs.Links.{Falling}
use Rattle.beam.specs.Layers.{slots_of, order_of, links_of}
use Rattle.beam.proofs.Written.{child_long, child_state_lem}
use Rattle.beam.proofs.Layers.{rising, child_cutoff}
use Rattle.beam.proofs.Whole.{put, Holds, holds, order_lent, slots_lent}
use Rattle.beam.proofs.Moves.{slots_length, layer_of, slot_at, placed_in}
use Rattle.beam_order.specs.Slots.{links_at, order_at}
use Rattle.beam.proofs.layer.add_child.Goals as goal

pub position_in-p-requires : goal.position_in-p-requires
position_in-p-requires c =
    (layer_of c.requires.0.held, c.requires.0.child.header_long)

pub write_slot-requires : goal.write_slot-requires
write_slot-requires c =
    let with-order : (let w = c.args.w in let words = c.args.layer.now in Holds w (put (order_at * w) (links_at * w) words c.insert_at.new.order) (slots_of w words) c.insert_at.new.order (links_of w words)) = order_lent (holds c.args.w c.args.layer.now c.requires.0.held.long) c.insert_at.new.order c.insert_at.auto.order in
    let free : (let a = c.args in get_or a.layer.now (order_at * a.w + a.n) 0 < a.w) = slot_at c.requires.0.held c.args.n c.requires.1 in
    let a = c.args in
    (omega (arith, slots_length a.w (put (order_at * a.w) (links_at * a.w) a.layer.now c.insert_at.new.order) (with-order).long, free), c.requires.0.child)

pub add-requires : goal.add-requires
add-requires c =
    let with-order : (let w = c.args.w in let words = c.args.layer.now in Holds w (put (order_at * w) (links_at * w) words c.insert_at.new.order) (slots_of w words) c.insert_at.new.order (links_of w words)) = order_lent (holds c.args.w c.args.layer.now c.requires.0.held.long) c.insert_at.new.order c.insert_at.auto.order in
    let with_child : (let a = c.args in Holds a.w (c.write_slot.new.slots ++ drop (order_at * a.w) (put (order_at * a.w) (links_at * a.w) a.layer.now c.insert_at.new.order)) c.write_slot.new.slots c.insert_at.new.order (links_of a.w a.layer.now)) = slots_lent (with-order) c.write_slot.new.slots c.write_slot.auto.slots in
    let free : (let a = c.args in get_or a.layer.now (order_at * a.w + a.n) 0 < a.w) = slot_at c.requires.0.held c.args.n c.requires.1 in
    let pre = c.requires in (
      omega (arith, ap length (with_child).links_in, pre.0.held.parts.links_long, pre.0.is_in_range),
      (free, subst (Falling c.args.w) (sym (with_child).links_in) pre.0.held.parts.falling),
    )

pub returns : goal.returns
returns c =
    let child : List ℕ = c.args.header.now ++ c.args.state.now in
    let goes : (Cutoff (earlier_at (slots_of c.args.w c.args.layer.now) (order_of c.args.w c.args.layer.now) (child)) c.args.n c.position_in-p.result) = child_cutoff (slots_of c.args.w c.args.layer.now) (order_of c.args.w c.args.layer.now) c.args.header.now c.args.state.now c.requires.0.child.header_long
    (c.position_in-p.ensures.1 (rising c.requires.0.held.parts _)) in
    placed_in (child) c.requires.0.held c.requires.1 (child_long c.args.header.now c.args.state.now c.requires.0.child)
    (rw (child_state_lem c.args.header.now c.args.state.now c.requires.0.child) c.requires.0.own_bucket) (goes)
    c.insert_at.auto.order c.insert_at.ensures c.write_slot.auto.slots c.write_slot.ensures c.add.auto.links c.add.ensures
