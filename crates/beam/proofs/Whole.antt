-- One list for the three of a layer: what a part that was lent and written leaves of it.
use Prim.Native.Nat.{ℕ, ◌+◌, ◌*◌, ◌-◌, ◌≤◌, ◌<◌}
use mathlib.Core.Path.{◌≡◌, refl, sym, ap, ◌∙◌}
use mathlib.Core.List.{List, ◌++◌}
use native.Mathlib.Omega.{arith}
use lib.ListN.{length, take, drop, get_or, length-drop, length-append, take-append-drop}
use lib.Seq.{length-take-le, take_at, drop_at, drop-drop, take-append-le, drop-append-le, get_or-take, get_or-drop}
use Rattle.beam.specs.Layers.{part, slots_of, order_of, links_of}
use Rattle.beam_order.specs.Slots.{layer_words, links_at, order_at}

-- ---- any part

-- xs with ys for its words from a to e
abbrev pub put : (a e : ℕ) (xs ys : List ℕ) → List ℕ
put a e xs ys = take a xs ++ (ys ++ drop (e - a) (drop a xs))

pub part_length : (a e : ℕ) (xs : List ℕ) → a ≤ e → e ≤ length xs → length (part a e xs) ≡ e - a
part_length a e xs le room = length-take-le (e - a) (drop a xs) (omega (arith, length-drop a xs))

pub part_at : (a e : ℕ) (xs : List ℕ) (i : ℕ) → i < e - a → get_or (part a e xs) i 0 ≡ get_or xs (a + i) 0
part_at a e xs i h = get_or-take (e - a) (drop a xs) i 0 h ∙ get_or-drop a xs i 0

module _ (a e : ℕ) (xs ys : List ℕ) (le : a ≤ e) (room : e ≤ length xs) (same : length ys ≡ length (part a e xs)) where
  front : length (take a xs) ≡ a
  front = length-take-le a xs (omega arith)

  full : length ys ≡ e - a
  full = same ∙ part_length a e xs le room

  behind : List ℕ
  behind = drop (e - a) (drop a xs)

  pub put_length : length (put a e xs ys) ≡ length xs
  put_length =
      length-append (take a xs) (ys ++ drop (e - a) (drop a xs))
      ∙ omega (arith, front, full, length-append ys (drop (e - a) (drop a xs)), length-drop (e - a) (drop a xs), length-drop a xs)

  pub put_in : part a e (put a e xs ys) ≡ ys
  put_in =
      ap (take (e - a)) (drop_at (take a xs) (ys ++ drop (e - a) (drop a xs)) a front)
      ∙ take_at ys (drop (e - a) (drop a xs)) (e - a) full

  before_it : (b c : ℕ) → b ≤ c → c ≤ a → (l : List ℕ) → part b c (take a xs ++ l) ≡ part b c (take a xs)
  before_it b c lo h l =
      ap (take (c - b)) (drop-append-le b (take a xs) l (omega (arith, front)))
      ∙ take-append-le (c - b) (drop b (take a xs)) l (omega (arith, front, length-drop b (take a xs)))

  pub put_before : (b c : ℕ) → b ≤ c → c ≤ a → part b c (put a e xs ys) ≡ part b c xs
  put_before b c lo h =
      before_it b c lo h (ys ++ drop (e - a) (drop a xs)) ∙ sym (before_it b c lo h (drop a xs)) ∙ ap (part b c) (take-append-drop a xs)

  pub put_first : (c : ℕ) → c ≤ a → take c (put a e xs ys) ≡ take c xs
  put_first c h =
      take-append-le c (take a xs) (ys ++ drop (e - a) (drop a xs)) (omega (arith, front))
      ∙ sym (take-append-le c (take a xs) (drop a xs) (omega (arith, front))) ∙ ap (take c) (take-append-drop a xs)

  from_end : drop e (put a e xs ys) ≡ drop e xs
  from_end =
      let z : e ≡ a + (e - a) = omega arith in
      ap (λ (k : ℕ). drop k (put a e xs ys)) z
      ∙ sym (drop-drop (e - a) a (put a e xs ys))
      ∙ ap (drop (e - a)) (drop_at (take a xs) (ys ++ drop (e - a) (drop a xs)) a front)
      ∙ drop_at ys (drop (e - a) (drop a xs)) (e - a) full
      ∙ drop-drop (e - a) a xs
      ∙ ap (λ (k : ℕ). drop k xs) (sym z)

  pub put_behind : (b c : ℕ) → e ≤ b → part b c (put a e xs ys) ≡ part b c xs
  put_behind b c h =
      let z : b ≡ e + (b - e) = omega arith in
      ap (take (c - b)) (ap (λ (k : ℕ). drop k (put a e xs ys)) z ∙ sym (drop-drop (b - e) e (put a e xs ys)) ∙ ap (drop (b - e)) from_end ∙ drop-drop (b - e) e xs ∙ ap (λ (k : ℕ). drop k xs) (sym z))

-- ---- the parts of a layer

-- the list holds these three
pub record Holds (w : ℕ) (words slots order links : List ℕ) : Type 0 where
  pub long : layer_words * w ≤ length words
  pub slots_in : slots_of w words ≡ slots
  pub order_in : order_of w words ≡ order
  pub links_in : links_of w words ≡ links

pub holds : (w : ℕ) (words : List ℕ) → layer_words * w ≤ length words → Holds w words (slots_of w words) (order_of w words) (links_of w words)
holds w words h = record { long = h; slots_in = refl; order_in = refl; links_in = refl }

module _ {w : ℕ} {words slots order links : List ℕ} (h : Holds w words slots order links) where
  pub order_lent : (ys : List ℕ) → length ys ≡ length (order_of w words) → Holds w (put (order_at * w) (links_at * w) words ys) slots ys links
  order_lent ys l =
      let le : order_at * w ≤ links_at * w = omega arith in
      let room : links_at * w ≤ length words = omega (arith, h.long) in
      record {
        long = omega (arith, put_length (order_at * w) (links_at * w) words ys le room l, h.long);
        slots_in = put_first (order_at * w) (links_at * w) words ys le room l (order_at * w) (omega arith) ∙ h.slots_in;
        order_in = put_in (order_at * w) (links_at * w) words ys le room l;
        links_in = put_behind (order_at * w) (links_at * w) words ys le room l (links_at * w) (layer_words * w) (omega arith) ∙ h.links_in;
      }

  pub links_lent : (ys : List ℕ) → length ys ≡ length (links_of w words) → Holds w (put (links_at * w) (layer_words * w) words ys) slots order ys
  links_lent ys l =
      let le : links_at * w ≤ layer_words * w = omega arith in
      let room : layer_words * w ≤ length words = h.long in
      record {
        long = omega (arith, put_length (links_at * w) (layer_words * w) words ys le room l, h.long);
        slots_in = put_first (links_at * w) (layer_words * w) words ys le room l (order_at * w) (omega arith) ∙ h.slots_in;
        order_in = put_before (links_at * w) (layer_words * w) words ys le room l (order_at * w) (links_at * w) (omega arith) (omega arith) ∙ h.order_in;
        links_in = put_in (links_at * w) (layer_words * w) words ys le room l;
      }

  pub slots_lent : (ys : List ℕ) → length ys ≡ length (slots_of w words) → Holds w (ys ++ drop (order_at * w) words) ys order links
  slots_lent ys l =
      let long : length (take (order_at * w) words) ≡ order_at * w = length-take-le (order_at * w) words (omega (arith, h.long)) in
      let full : length ys ≡ order_at * w = l ∙ long in
      let rest : drop (order_at * w) (ys ++ drop (order_at * w) words) ≡ drop (order_at * w) words = drop_at ys (drop (order_at * w) words) (order_at * w) full in
      let z : links_at * w ≡ order_at * w + w = omega arith in
      record {
        long = omega (arith, length-append ys (drop (order_at * w) words), length-drop (order_at * w) words, h.long);
        slots_in = take_at ys (drop (order_at * w) words) (order_at * w) full;
        order_in = ap (take (links_at * w - order_at * w)) rest ∙ h.order_in;
        links_in =
            ap (take (layer_words * w - links_at * w))
            (ap (λ (k : ℕ). drop k (ys ++ drop (order_at * w) words)) z ∙ sym (drop-drop w (order_at * w) (ys ++ drop (order_at * w) words)) ∙ ap (drop w) rest ∙ drop-drop w (order_at * w) words ∙ ap (λ (k : ℕ). drop k words) (sym z)) ∙ h.links_in;
      }
