-- The search of a bucket answers for the whole layer; what removing by slot, and removing all that the child beats, leave.
use Prim.Native.Nat.{ℕ, zero, suc, ◌+◌, ◌-◌, ◌<◌}
use mathlib.Core.Path.{◌≡◌, refl, sym, ap, ◌∙◌}
use mathlib.Core.Bool.{Bool, true, false, cond, not, ◌||◌}
use mathlib.Core.List.{List, [], ◌∷◌, ◌++◌}
use native.Mathlib.Omega.{arith}
use native.Mathlib.Decide.{dec_lt}
use borrow.Author.Tests.{eqb-true, eq-eqb}
use lib.Dec.{eqb}
use lib.ListN.{length, take, drop, get_or, take-append-drop}
use lib.Seq.{get_or-take}
use Rattle.laws.specs.Lists.{any, filter}
use Rattle.laws.proofs.Bools.{and_both, not_both}
use Rattle.steps.specs.InBytes.{Outlined}
use Rattle.beam_order.specs.Slots.{header_words, words_in, earlier}
use Rattle.beam_order.specs.Order.{count, used, kept_in, without, earlier_at, Cutoff, FoundBelow}
use Rattle.beam_order.proofs.Counts.{count_find, used_yes, used_no, used_count, kept_below}
use Rattle.beam_order.proofs.Ranks.{earlier_front, not_before_itself}
use Rattle.beam_index.specs.Links.{Found}
use Rattle.beam_index.proofs.Linked.{member_of_lem, is_member_lem}
use Rattle.beam.specs.Nodes.{state_words, beats}
use Rattle.beam.specs.Buckets.{bucket_of}
use Rattle.beam.specs.Parts.{bucket_in, sought, IndexedParts}
use Rattle.beam.proofs.Bucketing.{same_bucket}
use Rattle.beam.proofs.Mapped.{any_map, filter_all, filter_without}
use Rattle.beam.proofs.Layers.{first_length}

-- ---- tests of the kept ones, by slot

pub some_kept : (p : ℕ → Bool) (k : List ℕ) (s : ℕ) → 0 < count s k → p s ≡ true → any p k ≡ true
unfolding any count
some_kept p [] s h e = absurd (omega arith)
some_kept p (y ∷ k) s h e = by_test (eqb s y) refl h (λ g. some_kept p k s g e)
  where
    by_test : (t : Bool) → eqb s y ≡ t → 0 < cond t 1 0 + count s k → (0 < count s k → any p k ≡ true) → (p y || any p k) ≡ true
    by_test true z g rest =
        let q : p y ≡ true = rw (← (eqb-true s y z)) e in
        rw q
    by_test false z g rest = second (p y) (rest (omega arith))
      where
        second : (t : Bool) → any p k ≡ true → (t || any p k) ≡ true
        second true q = refl
        second false q = q

none_kept : (p : ℕ → Bool) (k : List ℕ) → ((s : ℕ) → 0 < count s k → p s ≡ false) → any p k ≡ false
unfolding any count
none_kept p [] n = refl
none_kept p (y ∷ k) n =
    let q : p y ≡ false = n y (rw (eq-eqb y y refl) (omega arith)) in
    rw q (none_kept p k (λ s h. n s (omega arith)))

module _ {outline : List ℕ} {w size n : ℕ} {slots order links : List ℕ} (hd : IndexedParts outline w size n slots order links) (b : ℕ) (p : List ℕ → Bool)
    (own : (m : List ℕ) → p m ≡ true → bucket_of outline (state_words m) size ≡ b) (passes : ℕ → Bool) (by-words : (s : ℕ) → passes s ≡ p (words_in slots s)) where
  -- where only bucket b can hold what passes, its search answers for all
  pub found_none : Found links w b passes 0 → any p (kept_in slots order n) ≡ false
  unfolding kept_in
  found_none f = any_map (words_in slots) p (take n order) ∙ none_kept (λ s. p (words_in slots s)) (take n order) (λ s h. by_test s h (p (words_in slots s)) refl)
    where
      by_test : (s : ℕ) → 0 < count s (take n order) → (t : Bool) → p (words_in slots s) ≡ t → t ≡ false
      by_test s h false e = refl
      by_test s h true e =
          let key : bucket_in outline slots size s ≡ b = unfold bucket_in in own (words_in slots s) e in
          let m = is_member_lem w (used order n) (bucket_in outline slots size) b s (used_yes order n s h) key in
          sym (sym (f.none (used order n) (bucket_in outline slots size) hd.index refl s (kept_below w order hd.distinct n s h) m) ∙ by-words s ∙ e)

  pub found_some : (q : ℕ) → Found links w b passes q → 0 < q → any p (kept_in slots order n) ≡ true
  unfolding kept_in
  found_some q f pos =
      let r = f.one (used order n) (bucket_in outline slots size) hd.index pos in
      let m = member_of_lem w (used order n) (bucket_in outline slots size) b (q - 1) r.0 in
      any_map (words_in slots) p (take n order) ∙ some_kept (λ s. p (words_in slots s)) (take n order) (q - 1) (used_count order n (q - 1) m.0) (sym (by-words (q - 1)) ∙ r.1)

-- ---- dominance stays in a bucket

module _ {bytes outline : List ℕ} (o : Outlined bytes outline) (size : ℕ) where
  pub beats_bucket : (a c : List ℕ) → beats bytes a c ≡ true → bucket_of outline (state_words a) size ≡ bucket_of outline (state_words c) size
  unfolding beats
  beats_bucket a c e = same_bucket o (state_words a) (state_words c) size (and_both _ _ e).0

-- ---- removing by slot

-- a node does not go before itself
test_at : (slots order : List ℕ) (s i : ℕ) (header : List ℕ) → header ≡ take header_words (words_in slots s) → length header ≡ header_words → get_or order i 0 ≡ s → earlier_at slots order header i ≡ false
unfolding earlier_at
test_at slots order s i header z l e =
    let rest : List ℕ = drop header_words (words_in slots s) in
    let whole : header ++ rest ≡ words_in slots s = ap (λ (h : List ℕ). h ++ rest) z ∙ take-append-drop header_words (words_in slots s) in
    ap (λ (k : ℕ). earlier header (words_in slots k)) e
    ∙ sym (earlier_front header rest (words_in slots s) l)
    ∙ ap (λ (n : List ℕ). earlier n (words_in slots s)) whole
    ∙ not_before_itself (words_in slots s)

-- a used slot is found before the place where a node like its own would go
pub slot_found : {outline : List ℕ} {w size n : ℕ} {slots order links : List ℕ} → IndexedParts outline w size n slots order links → (s end p : ℕ) (header : List ℕ) → header ≡ take header_words (words_in slots s) → length header ≡ header_words → used order n s ≡ true
    → Cutoff (earlier_at slots order header) n end → FoundBelow order end s p → (p < n) × (get_or order p 0 ≡ s)
slot_found {n = n} {slots = slots} {order = order} hd s end p header z₀ l₀ u cut f = count_find (take n order) s (used_count order n s u) there
  where
    there : (i : ℕ) → i < length (take n order) → get_or (take n order) i 0 ≡ s → (p < n) × (get_or order p 0 ≡ s)
    there i h z =
        let hn : i < n = omega (arith, first_length hd) in
        let at_i : get_or order i 0 ≡ s = sym (get_or-take n order i 0 hn) ∙ z in
        let low : i < end = elim (dec_lt i end) [ yes y ↦ y | no m ↦ absurd (not_both (cut.passes i (omega arith) hn) (test_at slots order s i header z₀ l₀ at_i)) ] in
        let r = f.found i low at_i in
        (omega (arith, r.0, cut.within), r.1)

filter_kept : (q : List ℕ → Bool) (slots order : List ℕ) (n p : ℕ) → p < length (take n order) → q (words_in slots (get_or (take n order) p 0)) ≡ false → filter q (without p (kept_in slots order n)) ≡ filter q (kept_in slots order n)
unfolding kept_in
filter_kept q slots order n p l g = filter_without q (words_in slots) p (take n order) l g

-- one that fails the test is missing
pub filter_removed : {outline : List ℕ} {w size n : ℕ} {slots order links : List ℕ} → IndexedParts outline w size n slots order links → (s p : ℕ) → (p < n) × (get_or order p 0 ≡ s)
    → (q : List ℕ → Bool) → q (words_in slots s) ≡ false → filter q (without p (kept_in slots order n)) ≡ filter q (kept_in slots order n)
filter_removed {n = n} {slots} {order} hd s p at q f =
    let z : get_or (take n order) p 0 ≡ s = get_or-take n order p 0 at.0 ∙ at.1 in
    filter_kept q slots order n p (omega (arith, at.0, first_length hd)) (rw z f)

-- ---- removing all that the child beats

-- a slot in use, of bucket b, whose node the child beats
pub record Beaten (bytes outline : List ℕ) (w size n : ℕ) (slots order : List ℕ) (b : ℕ) (c : List ℕ) (s : ℕ) : Type 0 where
  pub in_use : used order n s ≡ true
  pub in_bucket_lem : bucket_in outline slots size s ≡ b
  pub beaten : not (beats bytes c (words_in slots s)) ≡ false

module _ (bytes : List ℕ) {outline : List ℕ} {w size n : ℕ} {slots order links : List ℕ} (hd : IndexedParts outline w size n slots order links) (b : ℕ) (c : List ℕ) where
  -- the slot that a search finds
  pub beaten_one : (q : ℕ) → Found links w b (sought bytes slots c true) q → 0 < q → Beaten bytes outline w size n slots order b c (q - 1)
  unfolding sought
  beaten_one q f pos =
      let r = f.one (used order n) (bucket_in outline slots size) hd.index pos in
      let m = member_of_lem w (used order n) (bucket_in outline slots size) b (q - 1) r.0 in
      record { in_use = m.0; in_bucket_lem = m.1; beaten = ap not r.1 }

  module _ (o : Outlined bytes outline) (key : bucket_of outline (state_words c) size ≡ b) where
    -- none found: none is to go
    pub beaten_none : (q : ℕ) → Found links w b (sought bytes slots c true) q → q ≡ 0 → filter (λ m. not (beats bytes c m)) (kept_in slots order n) ≡ kept_in slots order n
    beaten_none q f e =
        filter_all (beats bytes c) (kept_in slots order n)
        (found_none hd b (beats bytes c) (λ m t. sym (beats_bucket o size c m t) ∙ key) (sought bytes slots c true) (λ s. unfold sought in refl) (rw e at f))

    -- whether some kept node beats the child
    pub beating_none : (q : ℕ) → Found links w b (sought bytes slots c false) q → q ≡ 0 → any (λ m. beats bytes m c) (kept_in slots order n) ≡ false
    beating_none q f e =
        found_none hd b (λ m. beats bytes m c) (λ m t. beats_bucket o size m c t ∙ key) (sought bytes slots c false) (λ s. unfold sought in refl) (rw e at f)

    pub beating_one : (q : ℕ) → Found links w b (sought bytes slots c false) q → 0 < q → any (λ m. beats bytes m c) (kept_in slots order n) ≡ true
    beating_one q f pos =
        found_some hd b (λ m. beats bytes m c) (λ m t. beats_bucket o size m c t ∙ key) (sought bytes slots c false) (λ s. unfold sought in refl) q f pos

pub some_used : (order : List ℕ) (n s : ℕ) → used order n s ≡ true → 0 < n
some_used order zero s u = absurd (not_both u (used_no order 0 s (unfold count in omega arith)))
some_used order (suc n) s u = omega arith
