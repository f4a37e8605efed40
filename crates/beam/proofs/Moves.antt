-- What each move leaves of a layer in one list: the laws of three lists, at its parts.
use Prim.Native.Nat.{ℕ, ◌+◌, ◌*◌, ◌-◌, ◌^◌, ◌≤◌, ◌<◌}
use mathlib.Core.Path.{◌≡◌, sym, ap, subst, ◌∙◌}
use mathlib.Core.Bool.{true, false}
use mathlib.Core.List.{List, ◌++◌}
use native.Mathlib.Omega.{arith}
use lib.ListN.{length, take, drop, get_or}
use lib.Seq.{length-take-le}
use Rattle.model.specs.declared.Cost.{Cost}
use Rattle.model.specs.Costs.{at_most}
use Rattle.beam_order.specs.Slots.{header_words, slot_words, f_of, words_in, placed, layer_words, links_at, order_at}
use Rattle.beam_order.specs.Order.{used, inserted, removed, without, up_from, earlier_at, Cutoff, FoundBelow}
use Rattle.beam_order.proofs.Words.{f_in_slot}
use Rattle.beam_index.specs.Links.{Added, Cleared}
use Rattle.beam_index.specs.Links as L
use Rattle.beam.specs.Nodes.{state_words}
use Rattle.beam.specs.Buckets.{bucket_of}
use Rattle.beam.specs.Parts.{bucket_in, written}
use Rattle.beam.specs.Parts as P
use Rattle.beam.specs.Layers.{slots_of, order_of, links_of, kept_of, Indexed, Keeping, Layer, Below, Emptied}
use Rattle.beam.proofs.Written.{words_front, header_in}
use Rattle.beam.proofs.Layers.{KeepingParts, slot_inside, layer, held_removed, held_placed, emptied}
use Rattle.beam.proofs.Removals.{slot_found}
use Rattle.beam.proofs.Ends.{fewer_layer, left_below, low_before}
use Rattle.beam.proofs.Whole.{put, part_length, part_at, Holds, holds, order_lent, links_lent, slots_lent}

module _ (w : ℕ) (words : List ℕ) (long : layer_words * w ≤ length words) where
  pub slots_length : length (slots_of w words) ≡ order_at * w
  slots_length = length-take-le (order_at * w) words (omega arith)

  pub order_length : length (order_of w words) ≡ w
  order_length = part_length (order_at * w) (links_at * w) words (omega arith) (omega arith) ∙ omega arith

  pub links_length : length (links_of w words) ≡ 5 * w
  links_length = part_length (links_at * w) (layer_words * w) words (omega arith) long ∙ omega arith

pub order_at_lem : (w : ℕ) (words : List ℕ) (i : ℕ) → i < w → get_or (order_of w words) i 0 ≡ get_or words (order_at * w + i) 0
order_at_lem w words i h = part_at (order_at * w) (links_at * w) words i (omega arith)

-- ---- a layer that holds parts that are held

pub held_in : {outline : List ℕ} {w n : ℕ} {words slots order links : List ℕ} → Holds w words slots order links → P.IndexedParts outline w (4 * w) n slots order links → Indexed outline w n words
held_in h p = record { long = h.long; parts = rw (h.slots_in, h.order_in, h.links_in) p }

pub keeping_in : {outline : List ℕ} {w n : ℕ} {words slots order links : List ℕ} {l : List (List ℕ)} → Holds w words slots order links → KeepingParts outline w (4 * w) n slots order links l → Keeping outline w n words l
keeping_in h p = record { held = held_in h p.held; kept = rw (h.slots_in, h.order_in) p.kept }

pub layer_of : {outline : List ℕ} {w n : ℕ} {words : List ℕ} → Indexed outline w n words → Layer w n words
layer_of h = record { long = h.long; parts = layer h.parts }

pub width_positive : {outline : List ℕ} {w n : ℕ} {words : List ℕ} → Indexed outline w n words → 0 < w
width_positive h = omega (arith, h.parts.some_bucket)

-- the slot at a place
pub slot_at : {outline : List ℕ} {w n : ℕ} {words : List ℕ} → Indexed outline w n words → (p : ℕ) → p < w → get_or words (order_at * w + p) 0 < w
slot_at {w = w} {words = words} h p hp = subst (λ (s : ℕ). s < w) (order_at_lem w words p hp) (slot_inside h.parts p hp)

-- a used slot is found before the place where a node like its own would go
pub slot_found_in : {outline : List ℕ} {w n : ℕ} {words : List ℕ} → Indexed outline w n words → (s end p : ℕ) (header : List ℕ) → header ≡ take header_words (drop (s * slot_words) words) → length header ≡ header_words
    → s < w → used (order_of w words) n s ≡ true → Cutoff (earlier_at (slots_of w words) (order_of w words) header) n end → FoundBelow (order_of w words) end s p
    → (p < n) × (get_or (order_of w words) p 0 ≡ s)
slot_found_in {w = w} {n} {words} h s end p header e l hs u cut found =
    slot_found h.parts s end p header (e ∙ sym (header_in words s) ∙ ap (take header_words) (sym (words_front words (order_at * w) s (omega arith)))) l u cut found

-- a link, by its place behind the slots and the order
pub links_at_lem : (w : ℕ) (words : List ℕ) (i : ℕ) → i < 5 * w → get_or (links_of w words) i 0 ≡ get_or words (links_at * w + i) 0
links_at_lem w words i h = part_at (links_at * w) (layer_words * w) words i (omega arith)

-- ---- none

pub emptied_in : (w : ℕ) (words os ls : List ℕ) → 0 < w → w ≤ 2 ^ 30 → layer_words * w ≤ length words → length os ≡ length (order_of w words) → os ≡ up_from 0 (length (order_of w words))
    → length ls ≡ length (links_of w (put (order_at * w) (links_at * w) words os)) → Cleared ls → Emptied w (put (links_at * w) (layer_words * w) (put (order_at * w) (links_at * w) words os) ls)
emptied_in w words os ls pos few long lo eo ll c =
    let one = order_lent (holds w words long) os lo in
    let o : length os ≡ w = lo ∙ order_length w words long in
    let l : length ls ≡ 5 * w = ll ∙ links_length w (put (order_at * w) (links_at * w) words os) one.long in
    record {
      held = λ outline. held_in (links_lent one ls ll) (emptied outline (slots_of w words) os ls w (4 * w) (omega arith) (omega arith) (omega (arith, slots_length w words long)) o (omega arith) (eo ∙ ap (up_from 0) (order_length w words long)) c);
    }

-- ---- one out

pub removed_in : {outline : List ℕ} {w n p k : ℕ} {words ls os : List ℕ} → Indexed outline w n words → p < n → bucket_in outline (slots_of w words) (4 * w) (get_or (order_of w words) p 0) ≡ k
    → length ls ≡ length (links_of w words) → L.Removed (links_of w words) ls w k (get_or words (order_at * w + p) 0)
    → length os ≡ length (order_of w (put (links_at * w) (layer_words * w) words ls)) → os ≡ removed (order_of w (put (links_at * w) (layer_words * w) words ls)) n p
    → Keeping outline w (n - 1) (put (order_at * w) (links_at * w) (put (links_at * w) (layer_words * w) words ls) os) (without p (kept_of w words n))
removed_in {outline} {w} {n} {p} {k} {words} {ls} {os} h hp key ll rm lo eo =
    let one = links_lent (holds w words h.long) ls ll in
    let lo₀ : length os ≡ length (order_of w words) = lo ∙ ap length one.order_in in
    let eo₀ : os ≡ removed (order_of w words) n p = eo ∙ ap (λ (l : List ℕ). removed l n p) one.order_in in
    let at : get_or (order_of w words) p 0 ≡ get_or words (order_at * w + p) 0 = order_at_lem w words p (omega (arith, h.parts.few)) in
    let rm₀ : L.Removed (links_of w words) ls w k (get_or (order_of w words) p 0) = subst (L.Removed (links_of w words) ls w k) (sym at) rm in
    keeping_in (order_lent one os lo) (held_removed h.parts hp key lo₀ ll eo₀ rm₀)

-- ---- one in

pub placed_in : {outline : List ℕ} {w n p k : ℕ} {words os ss ls : List ℕ} (c : List ℕ) → Indexed outline w n words → n < w → length c ≡ slot_words → bucket_of outline (state_words c) (4 * w) ≡ k
    → Cutoff (earlier_at (slots_of w words) (order_of w words) c) n p
    → length os ≡ length (order_of w words) → os ≡ inserted (order_of w words) n p (get_or words (order_at * w + n) 0)
    → length ss ≡ length (slots_of w (put (order_at * w) (links_at * w) words os)) → ss ≡ written (slots_of w (put (order_at * w) (links_at * w) words os)) (get_or words (order_at * w + n) 0) c
    → length ls ≡ length (links_of w (ss ++ drop (order_at * w) (put (order_at * w) (links_at * w) words os))) → Added (links_of w (ss ++ drop (order_at * w) (put (order_at * w) (links_at * w) words os))) ls w k (get_or words (order_at * w + n) 0)
    → Keeping outline w (n + 1) (put (links_at * w) (layer_words * w) (ss ++ drop (order_at * w) (put (order_at * w) (links_at * w) words os)) ls) (placed c (kept_of w words n))
placed_in {outline} {w} {n} {p} {k} {words} {os} {ss} {ls} c h hn full key cut lo eo lw ew ll ad =
    let one = order_lent (holds w words h.long) os lo in
    let two = slots_lent one ss lw in
    let at : get_or (order_of w words) n 0 ≡ get_or words (order_at * w + n) 0 = order_at_lem w words n hn in
    let eo₀ : os ≡ inserted (order_of w words) n p (get_or (order_of w words) n 0) = eo ∙ ap (inserted (order_of w words) n p) (sym at) in
    let ew₀ : ss ≡ written (slots_of w words) (get_or (order_of w words) n 0) c = ew ∙ ap (λ (l : List ℕ). written l (get_or words (order_at * w + n) 0) c) one.slots_in ∙ ap (λ (s : ℕ). written (slots_of w words) s c) (sym at) in
    let ad₁ : Added (links_of w words) ls w k (get_or words (order_at * w + n) 0) = subst (λ (l : List ℕ). Added l ls w k (get_or words (order_at * w + n) 0)) two.links_in ad in
    let ad₀ : Added (links_of w words) ls w k (get_or (order_of w words) n 0) = subst (Added (links_of w words) ls w k) (sym at) ad₁ in
    keeping_in (links_lent two ls ll) (held_placed h.parts c hn full key (lw ∙ ap length one.slots_in) lo (ll ∙ ap length two.links_in) cut eo₀ ew₀ ad₀)

-- ---- the layer's end

module _ {w n : ℕ} {words : List ℕ} (la : Layer w n words) where
  pub few_in : n ≤ w
  few_in = omega (arith, la.parts.inside.room, order_length w words la.long)

  pub place_below : (i : ℕ) → i < n → get_or words (order_at * w + i) 0 < w
  place_below i h = subst (λ (s : ℕ). s < w) (order_at_lem w words i (omega (arith, few_in))) (la.parts.inside.each i h)

  -- the f at a place
  abbrev pub f_at_place : ℕ → Cost
  f_at_place i = f_of (drop (get_or words (order_at * w + i) 0 * slot_words) words)

  pub f_in_lem : (i : ℕ) → i < n → f_of (words_in (slots_of w words) (get_or (order_of w words) i 0)) ≡ f_at_place i
  f_in_lem i h =
      let s = get_or words (order_at * w + i) 0 in
      ap (λ (x : ℕ). f_of (words_in (slots_of w words) x)) (order_at_lem w words i (omega (arith, few_in)))
      ∙ ap f_of (words_front words (order_at * w) s (omega (arith, place_below i h)))
      ∙ f_in_slot words s

  -- from place r on no f is below the best
  abbrev pub Rest : (r : ℕ) (best : Cost) → Type 0
  Rest r best = (i : ℕ) → r ≤ i → i < n → at_most best (f_at_place i) ≡ true

  below_in : (r : ℕ) (best : Cost) → r ≤ n → ((i : ℕ) → i < r → at_most best (f_of (words_in (slots_of w words) (get_or (order_of w words) i 0))) ≡ false) → Rest r best → Below w n r best words
  below_in r best h low rest =
      record {
        fewer = h;
        layer = record { long = la.long; parts = fewer_layer la.parts r h };
        left = left_below la.parts r best h low (λ i a b. ap (at_most best) (f_in_lem i b) ∙ rest i a b);
      }

  pub below_at : (r : ℕ) (best : Cost) → 0 < r → r ≤ n → at_most best (f_at_place (r - 1)) ≡ false → Rest r best → Below w n r best words
  below_at r best pos h low = below_in r best h (low_before la.parts r best pos h (ap (at_most best) (f_in_lem (r - 1) (omega arith)) ∙ low))

  pub below_none : (best : Cost) → Rest 0 best → Below w n 0 best words
  below_none best = below_in 0 best (omega arith) (λ i l. absurd (omega arith))
