-- The nodes of a layer in one list, for those that read it: none at first, one after the other, and the least f.
use Prim.Native.Nat.{ℕ, ◌+◌, ◌*◌, ◌≤◌, ◌<◌}
use mathlib.Core.Path.{◌≡◌, refl, sym, ap, ◌∙◌}
use mathlib.Core.Bool.{false, cond}
use mathlib.Core.List.{List, [], ◌∷◌, map}
use native.Mathlib.Omega.{arith}
use native.Mathlib.Numerals.{add-one}
use lib.ListN.{length, take, drop, get_or, length-map, length-drop, take-append-drop, get_or-map}
use lib.Seq.{drop-cons, get_or-take, length-take-le, take-append-le, drop-append-le}
use Rattle.model.specs.declared.Cost.{Cost}
use Rattle.model.specs.Costs.{at_most}
use Rattle.search.specs.Search.{raised_low}
use Rattle.steps.specs.InBytes.{system_in}
use Rattle.steps.specs.Follow.{costs_in}
use Rattle.steps.proofs.Promises.{cost_order}
use Rattle.beam_order.specs.Slots.{slot_words, f_of, words_in, Sorted, layer_words, order_at}
use Rattle.beam_order.specs.Order.{kept_in}
use Rattle.beam.specs.Nodes.{node_of, node_in, nodes_in}
use Rattle.beam.specs.Layers.{slots_of, order_of, nodes_of, Layer}
use Rattle.beam.proofs.Ends.{least_first}
use Rattle.beam.proofs.Moves.{slots_length, order_at_lem, few_in, place_below, f_in_lem}

pub nodes_none : (w : ℕ) (words : List ℕ) (bytes : List ℕ) (path : ℕ → List ℕ) → nodes_of w words bytes path 0 ≡ []
unfolding nodes_in kept_in
nodes_none w words bytes path = refl

-- a slot's words are those of the list
pub words_in_lem : (w : ℕ) (words : List ℕ) → layer_words * w ≤ length words → (s : ℕ) → s < w → words_in (slots_of w words) s ≡ words_in words s
unfolding words_in
words_in_lem w words long s h =
    let l : length (take (order_at * w) words) ≡ order_at * w = slots_length w words long in
    sym
    (ap (λ (r : List ℕ). take slot_words (drop (s * slot_words) r)) (sym (take-append-drop (order_at * w) words))
    ∙ ap (take slot_words) (drop-append-le (s * slot_words) (take (order_at * w) words) (drop (order_at * w) words) (omega arith))
    ∙ take-append-le slot_words (drop (s * slot_words) (take (order_at * w) words)) (drop (order_at * w) words) (omega (arith, length-drop (s * slot_words) (take (order_at * w) words))))

module _ (bytes : List ℕ) (path : ℕ → List ℕ) {w n : ℕ} {words : List ℕ} (la : Layer w n words) where
  abbrev slots : List ℕ
  slots = slots_of w words

  abbrev order : List ℕ
  order = order_of w words

  first_length : length (take n order) ≡ n
  first_length = length-take-le n order la.parts.inside.room

  pub nodes_length : length (nodes_of w words bytes path n) ≡ n
  unfolding nodes_in kept_in
  nodes_length = length-map (map (words_in slots) (take n order)) (node_of bytes path) ∙ length-map (take n order) (words_in slots) ∙ first_length

  -- the node at a place
  node_at_lem : (i : ℕ) → i < n → get_or (nodes_of w words bytes path n) i (node_in bytes path slots 0) ≡ node_in bytes path words (get_or words (order_at * w + i) 0)
  unfolding nodes_in kept_in
  node_at_lem i h =
      get_or-map (node_of bytes path) (map (words_in slots) (take n order)) i (words_in slots 0)
      ∙ ap (node_of bytes path)
      (get_or-map (words_in slots) (take n order) i 0 ∙ ap (words_in slots) (get_or-take n order i 0 h ∙ order_at_lem w words i (omega (arith, few_in la)))
      ∙ words_in_lem w words la.long (get_or words (order_at * w + i) 0) (place_below la i h))

  -- from place i on: the node in the slot there, and the rest
  pub nodes_from_lem : (i : ℕ) → i < n → drop i (nodes_of w words bytes path n) ≡ node_in bytes path words (get_or words (order_at * w + i) 0) ∷ drop (i + 1) (nodes_of w words bytes path n)
  nodes_from_lem i h =
      drop-cons (nodes_of w words bytes path n) i (node_in bytes path slots 0) (omega (arith, nodes_length))
      ∙ rw (node_at_lem i h, add-one i)

  -- rule 6: low rises to the f of the first, if that is greater
  pub raised_low_lem : (low : Cost) → 0 < n → raised_low (costs_in bytes) (system_in bytes) false (nodes_of w words bytes path n) low ≡ (let f = f_of (drop (get_or words (order_at * w) 0 * slot_words) words) in cond (at_most f low) low f)
  unfolding nodes_in kept_in
  raised_low_lem low pos =
      let z : order_at * w + 0 ≡ order_at * w = omega arith in
      by_list (take n order) (omega (arith, first_length)) la.parts.sorted
      ∙ ap (λ (f : Cost). cond (at_most f low) low f)
      (ap (λ (s : ℕ). f_of (words_in slots s)) (get_or-take n order 0 0 pos) ∙ f_in_lem la 0 pos ∙ ap (λ (i : ℕ). f_of (drop (get_or words i 0 * slot_words) words)) z)
    where
      by_list : (k : List ℕ) → 0 < length k → Sorted (map (words_in slots) k) → raised_low (costs_in bytes) (system_in bytes) false (map (node_of bytes path) (map (words_in slots) k)) low ≡ (let f = f_of (words_in slots (get_or k 0 0)) in cond (at_most f low) low f)
      by_list [] h s = absurd (omega arith)
      by_list (y ∷ k) h s =
          unfold raised_low in
          rw (cost_order bytes) (ap (λ (f : Cost). cond (at_most f low) low f) (least_first bytes path (words_in slots y) (map (words_in slots) k) s))
