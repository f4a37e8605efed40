-- `prepare::prepare` meets its contract: the outline stays from part to part.
use native.Mathlib.Omega.{arith}
use Rattle.prepare.specs.Layout.{masks_from, places_from, guards_from, conjuncts_from}
use Rattle.prepare.proofs.Kept.{room_kept}
use Rattle.prepare.proofs.Loops.{all_prepared}
use Rattle.prepare.proofs.prepare.Goals as goal

pub places-requires : goal.places-requires
places-requires c =
    room_kept {end = masks_from} (omega arith) c.masks.ensures.kept c.requires

pub guards-requires : goal.guards-requires
guards-requires c =
    room_kept {end = places_from} (omega arith) c.places.ensures.kept (room_kept {end = masks_from} (omega arith) c.masks.ensures.kept c.requires)

pub conjuncts-requires : goal.conjuncts-requires
conjuncts-requires c =
    let marked = room_kept {end = masks_from} (omega arith) c.masks.ensures.kept c.requires in
    let placed = room_kept {end = places_from} (omega arith) c.places.ensures.kept marked in
    room_kept {end = guards_from} (omega arith) c.guards.ensures.kept placed

pub returns : goal.returns
returns c =
    let marked = room_kept {end = masks_from} (omega arith) c.masks.ensures.kept c.requires in
    let placed = room_kept {end = places_from} (omega arith) c.places.ensures.kept marked in
    let guarded = room_kept {end = guards_from} (omega arith) c.guards.ensures.kept placed in
    record {
      prepared = all_prepared _ c.requires c.masks.ensures c.places.ensures c.guards.ensures c.conjuncts.ensures;
      room = room_kept {end = conjuncts_from} (omega arith) c.conjuncts.ensures.kept guarded;
    }
