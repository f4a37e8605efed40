-- The nodes of a layer in the making, gathered as the current layer; and what a path and a layer depend on.
use Prim.Native.Nat.{ℕ, zero, suc, ◌+◌, ◌*◌, ◌-◌, ◌/◌, ◌%◌, ◌≤◌, ◌<◌}
use mathlib.Core.Path.{◌≡◌, refl, sym, ap, subst, ◌∙◌, fun_ext}
use mathlib.Core.List.{List, [], ◌∷◌, ◌++◌}
use native.Mathlib.Decide.{dec_lt}
use native.Mathlib.Omega.{arith}
use native.Mathlib.Nat.{mod-lt, mod-eq_of_lt}
use native.Mathlib.Numerals.{add-one}
use lib.ListN.{length, take, drop, get_or, set, length-take, length-append, length-drop, length-set}
use lib.Seq.{ext_get_or, take_at, take_all, get_or-take, get_or-drop, drop-length, get_or-set_same, get_or-set_other}
use Rattle.beam_order.specs.Slots.{slot_words, back_at, words_in, backs_at, next_at, next_end, next_order_at}
use Rattle.beam_order.proofs.Arrays.{word_in}
use Rattle.beam.specs.Nodes.{node_of, node_in, node_at}
use Rattle.beam.specs.Layers.{part, nodes_of, Indexed, Layer, Emptied}
use Rattle.beam.proofs.Written.{slot_first, words_long}
use Rattle.beam.proofs.Whole.{put, part_length, part_at, put_length, put_in, put_first, put_behind}
use Rattle.beam.proofs.Moves.{few_in, place_below}
use Rattle.beam.proofs.Nodes.{nodes_length, nodes_from_lem}
use Rattle.search_paths.specs.Routes.{back_in, path_by, next_of, nodes_from, current_of, root_of, Startable, Started, NodeTaken, Taken}

-- ---- words that two lists share

-- the same words from a to e
abbrev pub Same : (words words' : List ℕ) (a e : ℕ) → Type 0
Same words words' a e = (x : ℕ) → a ≤ x → x < e → get_or words' x 0 ≡ get_or words x 0

slot_length : (words words' : List ℕ) (i : ℕ) → length words' ≡ length words → length (words_in words' i) ≡ length (words_in words i)
unfolding words_in
slot_length words words' i l = simp (length-take, length-drop, l)

slot_within : (words : List ℕ) (i x : ℕ) → x < length (words_in words i) → x < slot_words
unfolding words_in
slot_within words i x h = omega (arith, length-take slot_words (drop (i * slot_words) words), h)

-- a slot's
pub slot_same : (words words' : List ℕ) (i : ℕ) → length words' ≡ length words → Same words words' (i * slot_words) (i * slot_words + slot_words) → words_in words' i ≡ words_in words i
slot_same words words' i l same =
    ext_get_or 0 (words_in words' i) (words_in words i) (slot_length words words' i l) (λ x h. at x (slot_within words' i x h))
  where
    at : (x : ℕ) → x < slot_words → get_or (words_in words' i) x 0 ≡ get_or (words_in words i) x 0
    at x h = word_in words' i x h ∙ same (i * slot_words + x) (omega arith) (omega arith) ∙ sym (word_in words i x h)

first_same : (words words' : List ℕ) (e : ℕ) → take e words' ≡ take e words → Same words words' 0 e
first_same words words' e t x a b = sym (get_or-take e words' x 0 b) ∙ ap (λ (l : List ℕ). get_or l x 0) t ∙ get_or-take e words x 0 b

last_same : (words words' : List ℕ) (a e : ℕ) → drop a words' ≡ drop a words → Same words words' a e
last_same words words' a e t x lo hi =
    let z : a + (x - a) ≡ x = omega arith in
    ap (λ (y : ℕ). get_or words' y 0) (sym z) ∙ sym (get_or-drop a words' (x - a) 0) ∙ ap (λ (l : List ℕ). get_or l (x - a) 0) t ∙ get_or-drop a words (x - a) 0 ∙ ap (λ (y : ℕ). get_or words y 0) z

-- those behind a part that is written
beyond : (a e : ℕ) (words ys : List ℕ) → a ≤ e → e ≤ length words → length ys ≡ length (part a e words) → (x : ℕ) → e ≤ x → get_or (put a e words ys) x 0 ≡ get_or words x 0
beyond a e words ys low room same x h =
    let z : x + 0 ≡ x = omega arith in
    ap (λ (y : ℕ). get_or (put a e words ys) y 0) (sym z)
    ∙ sym (part_at x (x + 1) (put a e words ys) 0 (omega arith))
    ∙ ap (λ (l : List ℕ). get_or l 0 0) (put_behind a e words ys low room same x (x + 1) h)
    ∙ part_at x (x + 1) words 0 (omega arith)
    ∙ ap (λ (y : ℕ). get_or words y 0) z

-- a path's: the rows up to its layer
pub path_same : (words words' : List ℕ) (w k : ℕ) → 0 < w → Same words words' (backs_at * w) (backs_at * w + (k + 1) * w) → (i : ℕ) → path_by words' w k i ≡ path_by words w k i
unfolding path_by back_in
path_same words words' w zero pos same i = refl
path_same words words' w (suc k) pos same i =
    let m : i % w < w = mod-lt i pos in
    let e : get_or words' (backs_at * w + (suc k * w + i % w)) 0 ≡ get_or words (backs_at * w + (suc k * w + i % w)) 0 = same (backs_at * w + (suc k * w + i % w)) (omega arith) (omega arith) in
    let back = get_or words (backs_at * w + (suc k * w + i % w)) 0 in
    rw e (ap (λ (l : List ℕ). (back % 256) ∷ l) (path_same words words' w k pos (λ x a b. same x a (omega arith)) (back / 256)))

pub paths_same : (words words' : List ℕ) (w k : ℕ) → 0 < w → Same words words' (backs_at * w) (backs_at * w + (k + 1) * w) → path_by words' w k ≡ path_by words w k
paths_same words words' w k pos same = fun_ext (path_same words words' w k pos same)

-- a current layer's: its slots, and its paths
nodes_same : (bytes : List ℕ) (path path' : ℕ → List ℕ) (words words' : List ℕ) → path' ≡ path → (n i : ℕ) → ((j : ℕ) → j < i + n → words_in words' j ≡ words_in words j) → nodes_from bytes path' words' n i ≡ nodes_from bytes path words n i
unfolding nodes_from
nodes_same bytes path path' words words' e zero i same = refl
nodes_same bytes path path' words words' e (suc n) i same =
    let rest : nodes_from bytes path' words' n (suc i) ≡ nodes_from bytes path words n (suc i) = nodes_same bytes path path' words words' e n (suc i) (λ j h. same j (omega arith)) in
    rw (same i (omega arith), rest, e)

-- ---- only the layer in the making is written

module _ (words words' : List ℕ) (w : ℕ) (pos : 0 < w) (first : take (next_at * w) words' ≡ take (next_at * w) words) (last : drop (next_end * w) words' ≡ drop (next_end * w) words) where
  pub paths_kept : (k : ℕ) → path_by words' w k ≡ path_by words w k
  paths_kept k = paths_same words words' w k pos (λ x a b. last_same words words' (next_end * w) (backs_at * w + (k + 1) * w) last x (omega arith) b)

  pub current_kept : (bytes : List ℕ) (k n : ℕ) → n ≤ w → current_of bytes words' w k n ≡ current_of bytes words w k n
  current_kept bytes k n few =
      nodes_same bytes (path_by words w k) (path_by words' w k) words words' (paths_kept k) n 0 (λ j h. slot_first words words' (next_at * w) j first (omega arith))

-- which holds where the layer in the making was lent
module _ (words ys : List ℕ) (w : ℕ) (room : next_end * w ≤ length words) (same : length ys ≡ length (next_of w words)) where
  pub making_first : take (next_at * w) (put (next_at * w) (next_end * w) words ys) ≡ take (next_at * w) words
  making_first = put_first (next_at * w) (next_end * w) words ys (omega arith) room same (next_at * w) (omega arith)

  pub making_last : drop (next_end * w) (put (next_at * w) (next_end * w) words ys) ≡ drop (next_end * w) words
  making_last =
      let after = put (next_at * w) (next_end * w) words ys in
      let l : length after ≡ length words = put_length (next_at * w) (next_end * w) words ys (omega arith) room same in
      sym (take_all (length words - next_end * w) (drop (next_end * w) after) (omega (arith, length-drop (next_end * w) after)))
      ∙ put_behind (next_at * w) (next_end * w) words ys (omega arith) room same (next_end * w) (length words) (omega arith)
      ∙ take_all (length words - next_end * w) (drop (next_end * w) words) (omega (arith, length-drop (next_end * w) words))

-- ---- one node more

-- the first i nodes of the layer in the making stand in the current layer, which becomes layer k; all else that is read is as it was
pub record Gathered (words₀ words : List ℕ) (w k i : ℕ) : Type 0 where
  pub long : length words ≡ length words₀
  pub rest : Same words₀ words (next_at * w) (backs_at * w + k * w)
  pub slots : (j : ℕ) → j < i → words_in words j ≡ words_in words₀ (w + get_or words₀ (next_order_at * w + j) 0)
  pub backs : (j : ℕ) → j < i → get_or words (backs_at * w + (k * w + j)) 0 ≡ get_or (words_in words₀ (w + get_or words₀ (next_order_at * w + j) 0)) back_at 0

pub gathered_none : (words : List ℕ) (w k : ℕ) → Gathered words words w k 0
gathered_none words w k = record { long = refl; rest = λ x a b. refl; slots = λ j h. absurd (omega arith); backs = λ j h. absurd (omega arith) }

-- what take_node writes: the node's words, and behind them its back pointer
module _ (words node ys : List ℕ) (w k i : ℕ) (hi : i < w) (inside : get_or words (next_order_at * w + i) 0 < w) (long : backs_at * w + (k + 1) * w ≤ length words)
    (e : node ≡ words_in words (w + get_or words (next_order_at * w + i) 0)) (f : ys ≡ node) where
  -- the slot's begin and end, and the place of the back pointer
  abbrev a : ℕ
  a = i * slot_words

  abbrev b : ℕ
  b = i * slot_words + slot_words

  abbrev p : ℕ
  p = backs_at * w + (k * w + i)

  slot_low : a ≤ b
  slot_low = omega arith

  slot_room : b ≤ length words
  slot_room = omega arith

  slot_fits : length ys ≡ length (part a b words)
  slot_fits = ap length (f ∙ e) ∙ words_long words (w + get_or words (next_order_at * w + i) 0) (omega arith) ∙ sym (part_length a b words slot_low slot_room ∙ omega arith)

  abbrev base : List ℕ
  base = put a b words ys

  abbrev written : List ℕ
  written = set base p (get_or node back_at 0)

  unwritten : (x : ℕ) → x < p → get_or written x 0 ≡ get_or base x 0
  unwritten x h = get_or-set_other base p x (get_or node back_at 0) 0 (λ q. omega arith)

  slot_whole : words_in base i ≡ ys
  unfolding words_in
  slot_whole =
      let z : b - a ≡ slot_words = omega arith in
      ap (λ (n : ℕ). take n (drop a base)) (sym z) ∙ put_in a b words ys slot_low slot_room slot_fits

  pub node_written : NodeTaken words written w k i
  node_written =
      record {
        slot = slot_same base written i (length-set base p (get_or node back_at 0)) (λ x lo up. unwritten x (omega arith)) ∙ slot_whole ∙ f ∙ e;
        back = get_or-set_same base p (get_or node back_at 0) 0 (omega (arith, put_length a b words ys slot_low slot_room slot_fits)) ∙ ap (λ (l : List ℕ). get_or l back_at 0) e;
        before = λ x h. unwritten x (omega arith) ∙ first_same words base a (put_first a b words ys slot_low slot_room slot_fits a (omega arith)) x (omega arith) h;
        between = λ x lo up. unwritten x up ∙ beyond a b words ys slot_low slot_room slot_fits x lo;
      }

-- a statement on each place below i, and on i
one_further : (P : ℕ → Type 0) (i : ℕ) → ((j : ℕ) → j < i → P j) → P i → (j : ℕ) → j < i + 1 → P j
one_further P i old new j h = by_place (dec_lt j i)
  where
    by_place : Dec (j < i) → P j
    by_place (yes l) = old j l
    by_place (no l) = subst P (let z : i ≡ j = omega arith in z) new

pub gathered_more : (words₀ words words' : List ℕ) (w k i : ℕ) → i < w → get_or words₀ (next_order_at * w + i) 0 < w → length words' ≡ length words → Gathered words₀ words w k i → NodeTaken words words' w k i → Gathered words₀ words' w k (i + 1)
gathered_more words₀ words words' w k i hi inside l g t =
    let s : get_or words (next_order_at * w + i) 0 ≡ get_or words₀ (next_order_at * w + i) 0 = g.rest (next_order_at * w + i) (omega arith) (omega arith) in
    let moved : words_in words (w + get_or words (next_order_at * w + i) 0) ≡ words_in words₀ (w + get_or words₀ (next_order_at * w + i) 0) =
    ap (λ (y : ℕ). words_in words (w + y)) s ∙ slot_same words₀ words (w + get_or words₀ (next_order_at * w + i) 0) g.long (λ x a b. g.rest x (omega arith) (omega arith)) in
    record {
      long = l ∙ g.long;
      rest = λ x a b. t.between x (omega arith) (omega arith) ∙ g.rest x a b;
      slots = one_further (λ j. words_in words' j ≡ words_in words₀ (w + get_or words₀ (next_order_at * w + j) 0)) i (λ j h. slot_same words words' j l (λ x a b. t.before x (omega arith)) ∙ g.slots j h) (t.slot ∙ moved);
      backs = one_further (λ j. get_or words' (backs_at * w + (k * w + j)) 0 ≡ get_or (words_in words₀ (w + get_or words₀ (next_order_at * w + j) 0)) back_at 0) i
          (λ j h. t.between (backs_at * w + (k * w + j)) (omega arith) (omega arith) ∙ g.backs j h) (t.back ∙ ap (λ (l : List ℕ). get_or l back_at 0) moved);
    }

-- ---- all nodes

module _ (w : ℕ) (words : List ℕ) where
  -- the slot at a place of the layer in the making
  pub next_place : (i : ℕ) → i < w → get_or (next_of w words) (next_at * w + i) 0 ≡ get_or words (next_order_at * w + i) 0
  next_place i h =
      let z : next_at * w + (next_at * w + i) ≡ next_order_at * w + i = omega arith in
      part_at (next_at * w) (next_end * w) words (next_at * w + i) (omega arith) ∙ ap (λ (y : ℕ). get_or words y 0) z

  -- its words
  next_slot : (s : ℕ) → s < w → next_end * w ≤ length words → words_in (next_of w words) s ≡ words_in words (w + s)
  next_slot s h long =
      let z : length (next_of w words) ≡ next_end * w - next_at * w = part_length (next_at * w) (next_end * w) words (omega arith) long in
      let l : length (words_in (next_of w words) s) ≡ slot_words = words_long (next_of w words) s (omega arith) in
      ext_get_or 0 (words_in (next_of w words) s) (words_in words (w + s)) (l ∙ sym (words_long words (w + s) (omega arith))) (λ x k. at x (omega arith))
    where
      at : (x : ℕ) → x < slot_words → get_or (words_in (next_of w words) s) x 0 ≡ get_or (words_in words (w + s)) x 0
      at x k =
          let z : next_at * w + (s * slot_words + x) ≡ (w + s) * slot_words + x = omega arith in
          word_in (next_of w words) s x k ∙ part_at (next_at * w) (next_end * w) words (s * slot_words + x) (omega arith) ∙ ap (λ (y : ℕ). get_or words y 0) z ∙ sym (word_in words (w + s) x k)

module _ (words₀ : List ℕ) {w n : ℕ} (la : Layer w n (next_of w words₀)) where
  -- each place holds a slot of the layer in the making
  pub place_inside : (i : ℕ) → i < n → get_or words₀ (next_order_at * w + i) 0 < w
  place_inside i h =
      let few : n ≤ w = few_in la in
      subst (λ (s : ℕ). s < w) (next_place w words₀ i (omega arith)) (place_below la i h)

  -- on the way too
  pub still_inside : (words : List ℕ) (k i : ℕ) → Gathered words₀ words w k i → i < n → get_or words (next_order_at * w + i) 0 < w
  still_inside words k i g h =
      let few : n ≤ w = few_in la in
      rw (g.rest (next_order_at * w + i) (omega arith) (omega arith)) (place_inside i h)

node_same : (bytes : List ℕ) (path parent : ℕ → List ℕ) (j : ℕ) (ws us : List ℕ) → ws ≡ us → path j ≡ (get_or us back_at 0 % 256) ∷ parent (get_or us back_at 0 / 256) → node_at bytes path j ws ≡ node_of bytes parent us
unfolding node_at node_of
node_same bytes path parent j ws us e p = rw (e, p)

module _ (words₀ words ys : List ℕ) (w k n : ℕ) (pos : 0 < w) (la : Layer w n (next_of w words₀)) (long : backs_at * w + (k + 2) * w ≤ length words₀)
    (g : Gathered words₀ words w (k + 1) n) (same : length ys ≡ length (part (next_at * w) (next_end * w) words)) where
  abbrev after : List ℕ
  after = put (next_at * w) (next_end * w) words ys

  low : next_at * w ≤ next_end * w
  low = omega arith

  room : next_end * w ≤ length words
  room = omega (arith, g.long)

  after_length : length after ≡ length words
  after_length = put_length (next_at * w) (next_end * w) words ys low room same

  before_making : Same words after 0 (next_at * w)
  before_making = first_same words after (next_at * w) (put_first (next_at * w) (next_end * w) words ys low room same (next_at * w) (omega arith))

  behind_making : (x : ℕ) → next_end * w ≤ x → get_or after x 0 ≡ get_or words x 0
  behind_making = beyond (next_at * w) (next_end * w) words ys low room same

  parents : path_by after w k ≡ path_by words₀ w k
  parents = paths_same words₀ after w k pos (λ x a b. behind_making x (omega arith) ∙ g.rest x (omega arith) b)

  abbrev slot_of : ℕ → ℕ
  slot_of j = get_or words₀ (next_order_at * w + j) 0

  slot_taken : (j : ℕ) → j < n → words_in after j ≡ words_in words₀ (w + slot_of j)
  slot_taken j h = slot_same words after j after_length (λ x a b. before_making x (omega arith) (omega (arith, few_in la))) ∙ g.slots j h

  back_taken : (j : ℕ) → j < n → back_in after w (suc k) j ≡ get_or (words_in words₀ (w + slot_of j)) back_at 0
  unfolding back_in
  back_taken j h =
      let m : j % w ≡ j = mod-eq_of_lt (let q : j < w = omega (arith, few_in la) in q) in
      let z : backs_at * w + (suc k * w + j % w) ≡ backs_at * w + ((k + 1) * w + j) = omega arith in
      ap (λ (y : ℕ). get_or after y 0) z ∙ behind_making (backs_at * w + ((k + 1) * w + j)) (omega arith) ∙ g.backs j h

  path_taken : (j : ℕ) → j < n → (let b = get_or (words_in words₀ (w + slot_of j)) back_at 0 in path_by after w (suc k) j ≡ (b % 256) ∷ path_by words₀ w k (b / 256))
  unfolding path_by
  path_taken j h = rw (back_taken j h, parents)

  node_taken : (bytes : List ℕ) (j : ℕ) → j < n → node_at bytes (path_by after w (suc k)) j (words_in after j) ≡ node_in bytes (path_by words₀ w k) (next_of w words₀) (get_or (next_of w words₀) (next_at * w + j) 0)
  node_taken bytes j h =
      node_same bytes (path_by after w (suc k)) (path_by words₀ w k) j (words_in after j) (words_in words₀ (w + slot_of j)) (slot_taken j h) (path_taken j h)
      ∙ ap (node_of bytes (path_by words₀ w k)) (sym (next_slot w words₀ (slot_of j) (place_inside words₀ la j h) (omega arith)))
      ∙ ap (node_in bytes (path_by words₀ w k) (next_of w words₀)) (sym (next_place w words₀ j (omega (arith, few_in la))))

  nodes_taken : (bytes : List ℕ) (m i : ℕ) → i + m ≡ n → nodes_from bytes (path_by after w (suc k)) after m i ≡ drop i (nodes_of w (next_of w words₀) bytes (path_by words₀ w k) n)
  unfolding nodes_from
  nodes_taken bytes zero i e =
      let kept = nodes_of w (next_of w words₀) bytes (path_by words₀ w k) n in
      let z : length kept ≡ i = nodes_length bytes (path_by words₀ w k) la ∙ omega arith in
      sym (ap (λ (y : ℕ). drop y kept) (sym z) ∙ drop-length kept)
  nodes_taken bytes (suc m) i e =
      let kept = nodes_of w (next_of w words₀) bytes (path_by words₀ w k) n in
      let rest : nodes_from bytes (path_by after w (suc k)) after m (suc i) ≡ drop (i + 1) kept = nodes_taken bytes m (suc i) (omega arith) ∙ ap (λ (y : ℕ). drop y kept) (sym (add-one i)) in
      rw (node_taken bytes i (omega arith), rest) (sym (nodes_from_lem bytes (path_by words₀ w k) la i (omega arith)))

  -- the layer in the making is emptied, and its nodes are current
  pub all_taken : Emptied w ys → Taken words₀ after w k n
  all_taken e =
      record {
        held = λ outline. subst (Indexed outline w 0) (sym (put_in (next_at * w) (next_end * w) words ys low room same)) (e.held outline);
        nodes = λ bytes. nodes_taken bytes n 0 (omega arith);
      }

-- ---- the start

-- rule 1: the root's words in slot 0, and the layer in the making emptied
pub round_started : (root words first ys : List ℕ) (w : ℕ) → Startable root words w → first ≡ root
    → length ys ≡ length (part (next_at * w) (next_end * w) (first ++ drop slot_words words)) → Emptied w ys
    → Started root (put (next_at * w) (next_end * w) (first ++ drop slot_words words) ys) w
unfolding nodes_from path_by words_in
round_started root words first ys w s eq same em =
    let lf : length first ≡ slot_words = ap length eq ∙ s.long in
    let pos : 0 < w = s.some_width in
    let long : backs_at * w ≤ length words = s.room in
    let lw : length (first ++ drop slot_words words) ≡ length words = length-append first (drop slot_words words) ∙ omega (arith, length-drop slot_words words) in
    let low : next_at * w ≤ next_end * w = omega arith in
    let room : next_end * w ≤ length (first ++ drop slot_words words) = omega arith in
    let slot : take slot_words (put (next_at * w) (next_end * w) (first ++ drop slot_words words) ys) ≡ root =
    put_first (next_at * w) (next_end * w) (first ++ drop slot_words words) ys low room same slot_words (omega arith) ∙ take_at first (drop slot_words words) slot_words lf ∙ eq in
    record {
      held = λ outline. subst (Indexed outline w 0) (sym (put_in (next_at * w) (next_end * w) (first ++ drop slot_words words) ys low room same)) (em.held outline);
      root_alone = λ bytes. ap (λ (n : List ℕ). root_of bytes n ∷ []) slot;
    }
