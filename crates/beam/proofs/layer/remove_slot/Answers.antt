-- `beam::layer::remove_slot` meets its contract.
use Prim.Native.Nat.{◌+◌, ◌*◌, ◌-◌, ◌<◌}
use mathlib.Core.Path.{◌≡◌, ap, ◌∙◌}
use native.Mathlib.Omega.{arith}
use lib.ListN.{get_or, take, drop}
use Rattle.laws.specs.Lists.{filter}
use Rattle.beam_order.specs.Slots.{header_words, slot_words}
use Rattle.beam.specs.Parts.{bucket_in}
use Rattle.beam.specs.Layers.{slots_of, order_of}
use Rattle.beam.proofs.Layers.{rising}
use Rattle.beam.proofs.Removals.{filter_removed}
use Rattle.beam.proofs.Moves.{layer_of, slot_found_in}
use Rattle.beam.proofs.layer.remove_slot.Goals as goal

pub position_in-end-requires : goal.position_in-end-requires
position_in-end-requires c =
    (layer_of c.requires.held, c.copy_from_slice.auto.self)

pub remove_position-requires : goal.remove_position-requires
remove_position-requires c =
    let own : (c.copy_from_slice.new.self ≡ take header_words (drop (c.args.s * slot_words) c.args.layer.now)) = let e : c.args.s * slot_words + header_words - c.args.s * slot_words ≡ header_words = omega arith in
    rw e at c.copy_from_slice.ensures.after in
    let there : ((c.find_below-p.result < c.args.n) × (get_or (order_of c.args.w c.args.layer.now) c.find_below-p.result 0 ≡ c.args.s)) = slot_found_in c.requires.held c.args.s c.position_in-end.result c.find_below-p.result c.copy_from_slice.new.self (own) c.copy_from_slice.auto.self c.requires.slot c.requires.in_use
    (c.position_in-end.ensures.1 (rising c.requires.held.parts _)) c.find_below-p.ensures in
    record {
      held = c.requires.held;
      place = (there).0;
      is_in_range = c.requires.is_in_range;
      own_bucket = ap (bucket_in c.args.outline.now (slots_of c.args.w c.args.layer.now) (4 * c.args.w)) (there).1 ∙ c.requires.own_bucket;
    }

pub returns : goal.returns
returns c =
    let own : (c.copy_from_slice.new.self ≡ take header_words (drop (c.args.s * slot_words) c.args.layer.now)) = let e : c.args.s * slot_words + header_words - c.args.s * slot_words ≡ header_words = omega arith in
    rw e at c.copy_from_slice.ensures.after in
    let there : ((c.find_below-p.result < c.args.n) × (get_or (order_of c.args.w c.args.layer.now) c.find_below-p.result 0 ≡ c.args.s)) = slot_found_in c.requires.held c.args.s c.position_in-end.result c.find_below-p.result c.copy_from_slice.new.self (own) c.copy_from_slice.auto.self c.requires.slot c.requires.in_use
    (c.position_in-end.ensures.1 (rising c.requires.held.parts _)) c.find_below-p.ensures in
    record {
      held = c.remove_position.ensures.held;
      kept = λ q f. ap (filter q) c.remove_position.ensures.kept ∙ filter_removed c.requires.held.parts c.args.s c.find_below-p.result (there) q f;
    }
