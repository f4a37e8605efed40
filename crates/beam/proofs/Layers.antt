-- A held layer: the facts that its readers need, and what taking a node out and taking a child in leave of it.
use Prim.Native.Nat.{ℕ, suc, ◌+◌, ◌*◌, ◌-◌, ◌^◌, ◌≤◌, ◌<◌}
use mathlib.Core.Path.{◌≡◌, refl, sym, ap, subst, ◌∙◌}
use mathlib.Core.Logic.{◌≢◌}
use mathlib.Core.Bool.{true, false}
use mathlib.Core.List.{List, [], ◌∷◌, ◌++◌, map}
use native.Mathlib.Omega.{arith}
use lib.ListN.{length, take, drop, get_or, length-map}
use lib.Seq.{length-take-le, get_or-take, split_at}
use Rattle.beam_order.specs.Slots.{header_words, slot_words, words_in, earlier, placed, none}
use Rattle.beam_order.specs.Order.{count, Distinct, used, kept_in, inserted, removed, without, up_from, earlier_at, Cutoff, Rising, Inside}
use Rattle.beam_order.proofs.Counts.{count_append, count_cons, count_here, count_other, count_part, count_at_lem, map_same, count_inserted, count_removed, without_map, without_count, take_removed, take_inserted, count_more, used_same, used_no, used_yes, up_distinct, slot_below}
use Rattle.beam_order.proofs.Ranks.{earlier_front, sorted_rising, sorted_without, sorted_placed, placed_at}
use Rattle.beam_index.specs.Links.{SameBut, Added, Cleared}
use Rattle.beam_index.specs.Links as L
use Rattle.beam_index.proofs.Linked.{cleared_falling, cleared_index}
use Rattle.beam.specs.Nodes.{state_words}
use Rattle.beam.specs.Buckets.{bucket_of}
use Rattle.beam.specs.Parts.{bucket_in, written, IndexedParts, LayerParts}
use Rattle.beam.proofs.Written.{written_same, written_other}
use Rattle.beam.proofs.Mapped.{map_append}

kept_by : (slots order : List ℕ) (n : ℕ) (l : List (List ℕ)) → map (words_in slots) (take n order) ≡ l → kept_in slots order n ≡ l
unfolding kept_in
kept_by slots order n l e = e

-- three lists hold n nodes that have these words, in order
pub record KeepingParts (outline : List ℕ) (w size n : ℕ) (slots order links : List ℕ) (kept_words : List (List ℕ)) : Type 0 where
  pub held : IndexedParts outline w size n slots order links
  pub kept : kept_in slots order n ≡ kept_words

-- ---- a child's header goes where all its words go

pub child_earlier : (slots order header state : List ℕ) → length header ≡ header_words → (i : ℕ) → earlier_at slots order (header ++ state) i ≡ earlier_at slots order header i
unfolding earlier_at
child_earlier slots order header state l i = earlier_front header state (words_in slots (get_or order i 0)) l

pub child_cutoff : (slots order header state : List ℕ) {n r : ℕ} → length header ≡ header_words → Cutoff (earlier_at slots order header) n r → Cutoff (earlier_at slots order (header ++ state)) n r
child_cutoff slots order header state l t =
    record {
      within = t.within;
      fails = λ i h. child_earlier slots order header state l i ∙ t.fails i h;
      passes = λ i a b. child_earlier slots order header state l i ∙ t.passes i a b;
    }

module _ {outline : List ℕ} {w size n : ℕ} {slots order links : List ℕ} (hd : IndexedParts outline w size n slots order links) where
  pub order_room : n ≤ length order
  order_room = omega (arith, hd.few, hd.order_long)

  pub first_length : length (take n order) ≡ n
  first_length = length-take-le n order order_room

  pub kept_length : length (kept_in slots order n) ≡ n
  unfolding kept_in
  kept_length = length-map (take n order) (words_in slots) ∙ first_length

  pub slot_inside : (p : ℕ) → p < w → get_or order p 0 < w
  slot_inside p h = slot_below w order hd.distinct p (omega (arith, hd.order_long))

  -- a slot's words lie inside
  pub slot_room : (s : ℕ) → s < w → s * slot_words + slot_words ≤ length slots
  slot_room s h = omega (arith, hd.slots_long)

  pub inside : Inside w n order
  inside = record { room = order_room; each = λ i h. slot_inside i (omega (arith, hd.few)) }

  pub layer : LayerParts w n slots order
  layer = record { slots_long = hd.slots_long; inside = inside; sorted = hd.sorted }

  used_at : (p : ℕ) → p < n → used order n (get_or order p 0) ≡ true
  used_at p h =
      let e : get_or (take n order) p 0 ≡ get_or order p 0 = get_or-take n order p 0 h in
      used_yes order n (get_or order p 0) (rw e at (count_at_lem (take n order) p (omega (arith, first_length))))

  -- ---- the order's test

  pub rising : (c : List ℕ) → Rising (earlier_at slots order c) n
  unfolding earlier_at kept_in
  rising c i j l m e =
      let a : get_or (take n order) i 0 ≡ get_or order i 0 = get_or-take n order i 0 (omega arith) in
      let b : get_or (take n order) j 0 ≡ get_or order j 0 = get_or-take n order j 0 m in
      rw b at (sorted_rising c (words_in slots) (take n order) hd.sorted i j l (omega (arith, first_length)) (rw a e))

  pub cutoff : (c : List ℕ) (r : ℕ) → Cutoff (earlier_at slots order c) n r → Cutoff (λ i. earlier c (words_in slots (get_or (take n order) i 0))) (length (take n order)) r
  unfolding earlier_at
  cutoff c r t =
      record {
        within = omega (arith, t.within, first_length);
        fails = λ i l. let a : get_or (take n order) i 0 ≡ get_or order i 0 = get_or-take n order i 0 (omega (arith, t.within)) in rw a (t.fails i l);
        passes = λ i l m. let z : i < n = omega (arith, first_length) in let a : get_or (take n order) i 0 ≡ get_or order i 0 = get_or-take n order i 0 z in rw a (t.passes i l z);
      }

  pub placed_by : (c : List ℕ) (p : ℕ) → Cutoff (earlier_at slots order c) n p
      → placed c (kept_in slots order n) ≡ map (words_in slots) (take p (take n order)) ++ (c ∷ map (words_in slots) (drop p (take n order)))
  placed_by c p t = unfold kept_in in placed_at c (words_in slots) (take n order) p (cutoff c p t)

  -- ---- taking a node out

  pub held_removed : {p b : ℕ} {order' links' : List ℕ} → p < n → bucket_in outline slots size (get_or order p 0) ≡ b → length order' ≡ length order → length links' ≡ length links
      → order' ≡ removed order n p → L.Removed links links' w b (get_or order p 0) → KeepingParts outline w size (n - 1) slots order' links' (without p (kept_in slots order n))
  held_removed {p} {b} {order'} {links'} h key lo ll e rm =
      record {
        held =
            record {
              few = omega (arith, hd.few);
              some_bucket = hd.some_bucket;
              few_buckets = hd.few_buckets;
              slots_long = hd.slots_long;
              order_long = lo ∙ hd.order_long;
              links_long = ll ∙ hd.links_long;
              distinct = record { once = λ s. rw (all s) (hd.distinct.once s); below = λ s g. all s ∙ hd.distinct.below s g };
              falling = rm.falling;
              index = rm.index (used order n) (used order' (n - 1)) (bucket_in outline slots size) (bucket_in outline slots size) hd.index same (used_at p h) key gone;
              sorted = rw kept (sorted_without p (kept_in slots order n) hd.sorted);
            };
        kept = kept;
      }
    where
      x : ℕ
      x = get_or order p 0

      k : List ℕ
      k = take n order

      at_p : get_or k p 0 ≡ x
      at_p = get_or-take n order p 0 h

      all : (s : ℕ) → count s order' ≡ count s order
      all s = ap (count s) e ∙ count_removed order n p s h order_room

      part : take (n - 1) order' ≡ without p k
      part = ap (take (n - 1)) e ∙ take_removed order n p h order_room

      counted : (s : ℕ) → count s (take (n - 1) order') + count s (x ∷ []) ≡ count s k
      counted s = rw (part, ← at_p) (without_count s p k (omega (arith, first_length)))

      same : SameBut x (used order n) (used order' (n - 1)) (bucket_in outline slots size) (bucket_in outline slots size)
      same = record { same_use = λ s ne. used_same order order' n (n - 1) s (omega (arith, counted s, count_other s x ne)); same_bucket = λ s ne. refl }

      gone : used order' (n - 1) x ≡ false
      gone = used_no order' (n - 1) x (omega (arith, counted x, count_here x, count_part x n order, hd.distinct.once x))

      kept : kept_in slots order' (n - 1) ≡ without p (kept_in slots order n)
      kept = unfold kept_in in ap (map (words_in slots)) part ∙ without_map (words_in slots) p k

  -- ---- taking a child into the first free slot

  pub held_placed : {p b : ℕ} {slots' order' links' : List ℕ} (c : List ℕ) → n < w → length c ≡ slot_words → bucket_of outline (state_words c) size ≡ b
      → length slots' ≡ length slots → length order' ≡ length order → length links' ≡ length links
      → Cutoff (earlier_at slots order c) n p → order' ≡ inserted order n p (get_or order n 0) → slots' ≡ written slots (get_or order n 0) c → Added links links' w b (get_or order n 0)
      → KeepingParts outline w size (n + 1) slots' order' links' (placed c (kept_in slots order n))
  held_placed {p} {b} {slots'} {order'} {links'} c hn full key ls lo ll cut eo es ad =
      record {
        held =
            record {
              few = omega arith;
              some_bucket = hd.some_bucket;
              few_buckets = hd.few_buckets;
              slots_long = omega (arith, hd.slots_long);
              order_long = lo ∙ hd.order_long;
              links_long = ll ∙ hd.links_long;
              distinct = record { once = λ s. rw (all s) (hd.distinct.once s); below = λ s g. all s ∙ hd.distinct.below s g };
              falling = ad.falling (used order n) (bucket_in outline slots size) hd.index fresh;
              index = ad.index (used order n) (used order' (n + 1)) (bucket_in outline slots size) (bucket_in outline slots' size) hd.index same fresh came key_x;
              sorted = rw kept (sorted_placed c (kept_in slots order n) hd.sorted);
            };
        kept = kept;
      }
    where
      x : ℕ
      x = get_or order n 0

      k : List ℕ
      k = take n order

      free : n < length order
      free = omega (arith, hd.order_long)

      room : x * slot_words + slot_words ≤ length slots
      room = slot_room x (slot_inside n hn)

      all : (s : ℕ) → count s order' ≡ count s order
      all s = ap (count s) eo ∙ count_inserted order n p x s cut.within free refl

      part : take (n + 1) order' ≡ take p k ++ (x ∷ drop p k)
      part = ap (take (n + 1)) eo ∙ take_inserted order n p x cut.within free

      counted : (s : ℕ) → count s (take (n + 1) order') ≡ count s (x ∷ []) + count s k
      counted s = ap (count s) part ∙ count_more s p x k

      none_x : count x k ≤ 0
      none_x =
          let e : count x order ≡ count x k + count x (x ∷ drop (suc n) order) = ap (count x) (split_at order n 0 free) ∙ count_append x k (x ∷ drop (suc n) order) in
          omega (arith, count_cons x x (drop (suc n) order), count_here x, hd.distinct.once x)

      fresh : used order n x ≡ false
      fresh = used_no order n x none_x

      came : used order' (n + 1) x ≡ true
      came = used_yes order' (n + 1) x (omega (arith, counted x, count_here x))

      words_x : words_in slots' x ≡ c
      words_x = ap (λ (l : List ℕ). words_in l x) es ∙ written_same slots x c room full

      words_other : (s : ℕ) → s ≢ x → words_in slots' s ≡ words_in slots s
      words_other s ne = ap (λ (l : List ℕ). words_in l s) es ∙ written_other slots x c room full s ne

      key_x : bucket_in outline slots' size x ≡ b
      key_x = unfold bucket_in in ap (λ (l : List ℕ). bucket_of outline (state_words l) size) words_x ∙ key

      same : SameBut x (used order n) (used order' (n + 1)) (bucket_in outline slots size) (bucket_in outline slots' size)
      same =
          record {
            same_use = λ s ne. used_same order order' n (n + 1) s (omega (arith, counted s, count_other s x ne));
            same_bucket = λ s ne. unfold bucket_in in ap (λ (l : List ℕ). bucket_of outline (state_words l) size) (words_other s ne);
          }

      at_same : (s : ℕ) → 0 < count s k → words_in slots' s ≡ words_in slots s
      at_same s h = words_other s (λ z. omega (arith, none_x, (rw z at h)))

      kept : kept_in slots' order' (n + 1) ≡ placed c (kept_in slots order n)
      kept =
          let a : map (words_in slots') (take p k) ≡ map (words_in slots) (take p k) = map_same (words_in slots') (words_in slots) (take p k) (λ s h. at_same s (omega (arith, count_part s p k))) in
          let d : map (words_in slots') (drop p k) ≡ map (words_in slots) (drop p k) = map_same (words_in slots') (words_in slots) (drop p k) (λ s h. at_same s (omega (arith, count_part s p k))) in
          let e : map (words_in slots') (take (n + 1) order') ≡ map (words_in slots) (take p k) ++ (c ∷ map (words_in slots) (drop p k)) =
          ap (map (words_in slots')) part ∙ map_append (words_in slots') (take p k) (x ∷ drop p k) ∙ rw (a, d, words_x) in
          kept_by slots' order' (n + 1) (placed c (kept_in slots order n)) (e ∙ sym (placed_by c p cut))

-- ---- an empty layer

pub emptied : (outline slots order links : List ℕ) (w size : ℕ) → 0 < size → size ≤ 2 ^ 32 → w * slot_words ≤ length slots → length order ≡ w → length links ≡ w + size → order ≡ up_from 0 w → Cleared links → IndexedParts outline w size 0 slots order links
emptied outline slots order links w size pos few long lo ll e c =
    record {
      few = omega arith;
      some_bucket = pos;
      few_buckets = few;
      slots_long = long;
      order_long = lo;
      links_long = ll;
      distinct = subst (Distinct w) (sym e) (up_distinct w);
      falling = cleared_falling w links c;
      index = cleared_index w (used order 0) (bucket_in outline slots size) links c (λ s. used_no order 0 s (unfold count in omega arith));
      sorted = unfold kept_in in none;
    }
