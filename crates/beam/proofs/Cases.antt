-- The four ways that an insertion ends: dropped; room for it; the last one cut; the child cut.
use Prim.Native.Nat.{ℕ, suc, ◌+◌, ◌-◌, ◌≤◌, ◌<◌}
use mathlib.Core.Path.{◌≡◌, sym, ap, subst, ◌∙◌}
use mathlib.Core.Bool.{Bool, true, false, cond}
use mathlib.Core.List.{List, [], ◌∷◌, ◌++◌, map, drop_last}
use native.Mathlib.Omega.{arith}
use borrow.Author.Tests.{lt-ltb, le-ltb}
use lib.Dec.{ltb}
use lib.ListN.{length, take, drop, get_or, drop_of_length-le}
use lib.Seq.{take_all, get_or-take}
use Rattle.laws.specs.Lists.{any}
use Rattle.beam_order.specs.Slots.{words_in, earlier, placed}
use Rattle.beam_order.specs.Order.{kept_in, without, earlier_at, Cutoff}
use Rattle.beam_order.proofs.Arrays.{fails_below}
use Rattle.beam_order.proofs.Counts.{count_at_lem, without_last}
use Rattle.beam_order.proofs.Ranks.{placed_length, cut_last, cut_before}
use Rattle.beam.specs.Nodes.{nodes_in, beats}
use Rattle.beam.specs.Layers.{slots_of, order_of, kept_of, Indexed, Keeping, unbeaten, InsertedInto}
use Rattle.beam.proofs.Mapped.{any_map, insert_dropped, insert_placed}
use Rattle.beam.proofs.Layers.{first_length, kept_length, rising, placed_by}
use Rattle.beam.proofs.Removals.{some_kept}
use Rattle.beam.proofs.Moves.{width_positive}

-- ---- a full layer

-- the last one out, then the child in
pub last_replaced : {outline : List ℕ} {w : ℕ} {words words' : List ℕ} (words₁ c : List ℕ) → Indexed outline w w words → Keeping outline w (w - 1) words₁ (without (w - 1) (kept_of w words w))
    → Keeping outline w (w - 1 + 1) words' (placed c (kept_of w words₁ (w - 1))) → Keeping outline w w words' (placed c (drop_last (kept_of w words w)))
last_replaced {w = w} {words} words₁ c hd r p =
    let pos : 0 < w = width_positive hd in
    let z : w - 1 + 1 ≡ w = omega arith in
    let one : w - 1 + 1 ≡ suc (w - 1) = omega arith in
    record {
      held = rw z at p.held;
      kept = (rw z at p.kept) ∙ ap (placed c) (r.kept ∙ without_last (w - 1) (kept_of w words w) (kept_length hd.parts ∙ sym z ∙ one));
    }

-- as many are left as there are slots
pub full : {outline : List ℕ} {w m : ℕ} {words : List ℕ} {l : List (List ℕ)} → Keeping outline w m words l → w ≤ m → Keeping outline w w words l
full {outline} {w} {m} {words} {l} b h =
    let z : m ≡ w = omega (arith, b.held.parts.few) in
    subst (λ (k : ℕ). Keeping outline w k words l) z b

-- the child goes before the last one
some_later : (w : ℕ) (slots order c : List ℕ) → 0 < w → length (take w order) ≡ w → earlier_at slots order c (w - 1) ≡ true → any (earlier c) (kept_in slots order w) ≡ true
unfolding kept_in earlier_at
some_later w slots order c pos l e =
    let z : get_or (take w order) (w - 1) 0 ≡ get_or order (w - 1) 0 = get_or-take w order (w - 1) 0 (omega arith) in
    let t : earlier c (words_in slots (get_or (take w order) (w - 1) 0)) ≡ true = rw z e in
    any_map (words_in slots) (earlier c) (take w order) ∙ some_kept (λ s. earlier c (words_in slots s)) (take w order) (get_or (take w order) (w - 1) 0) (count_at_lem (take w order) (w - 1) (omega arith)) t

-- the child goes behind all
behind_all : (w : ℕ) (slots order c : List ℕ) → length (take w order) ≤ w
    → kept_in slots order w ++ (c ∷ []) ≡ map (words_in slots) (take w (take w order)) ++ (c ∷ map (words_in slots) (drop w (take w order)))
unfolding kept_in
behind_all w slots order c l = rw (take_all w (take w order) l, drop_of_length-le (take w order) l)

-- ---- the cases

pub dropped : {bytes outline : List ℕ} {w n : ℕ} {words c : List ℕ} → Indexed outline w n words → any (λ m. beats bytes m c) (kept_of w words n) ≡ true → InsertedInto bytes outline w n n false words words c
dropped {bytes} {w = w} {n} {words} {c} hd e =
    record { held = hd; inserts = λ path r is. unfold nodes_in in insert_dropped bytes path w c (kept_of w words n) r (unfold nodes_in in is) e }

module _ (bytes : List ℕ) (w n : ℕ) (words c : List ℕ) (free : any (λ m. beats bytes m c) (kept_of w words n) ≡ false) where
  abbrev rest : List (List ℕ)
  rest = unbeaten bytes c (kept_of w words n)

  -- a layer that holds what the definition keeps
  ended : {outline : List ℕ} {count : ℕ} (cut : Bool) (words' : List ℕ) → Indexed outline w count words' → ltb w (length (placed c rest)) ≡ cut → kept_of w words' count ≡ cond cut (drop_last (placed c rest)) (placed c rest)
      → InsertedInto bytes outline w n count cut words words' c
  ended {count = count} cut words' hd m k =
      record { held = hd; inserts = λ path r is. unfold nodes_in in insert_placed bytes path w c (kept_of w words n) r (unfold nodes_in in is) cut (kept_of w words' count) free m k }

  with_child : {outline : List ℕ} {m : ℕ} {words₁ : List ℕ} → Keeping outline w m words₁ rest → length (placed c rest) ≡ suc m
  with_child b = placed_length c rest ∙ ap suc (ap length (sym b.kept) ∙ kept_length b.held.parts)

  pub roomed : {outline : List ℕ} {m : ℕ} (words₁ words' : List ℕ) → Keeping outline w m words₁ rest → m < w → Keeping outline w (m + 1) words' (placed c (kept_of w words₁ m)) → InsertedInto bytes outline w n (m + 1) false words words' c
  roomed words₁ words' b h p = ended false words' p.held (le-ltb w _ (omega (arith, with_child b))) (p.kept ∙ ap (placed c) b.kept)

  module _ {outline : List ℕ} (words₁ : List ℕ) (b : Keeping outline w w words₁ rest) where
    abbrev test : ℕ → Bool
    test = earlier_at (slots_of w words₁) (order_of w words₁) c

    pub last_cut : (words' : List ℕ) → test (w - 1) ≡ true → Keeping outline w w words' (placed c (drop_last (kept_of w words₁ w))) → InsertedInto bytes outline w n w true words words' c
    last_cut words' e p =
        ended true words' p.held (lt-ltb w _ (omega (arith, with_child b)))
        (p.kept ∙ sym (cut_kept (kept_of w words₁ w) (kept_length b.held.parts) (some_later w (slots_of w words₁) (order_of w words₁) c (width_positive b.held) (first_length b.held.parts) e)) ∙ ap (λ (l : List (List ℕ)). drop_last (placed c l)) b.kept)
      where
        cut_kept : (l : List (List ℕ)) → length l ≡ w → any (earlier c) l ≡ true → drop_last (placed c l) ≡ placed c (drop_last l)
        cut_kept [] h a = absurd (omega (arith, width_positive b.held))
        cut_kept (x ∷ l) h a = cut_before c x l a

    pub child_cut : test (w - 1) ≡ false → InsertedInto bytes outline w n w true words words₁ c
    child_cut e =
        ended true words₁ b.held (lt-ltb w _ (omega (arith, with_child b)))
        (sym (cut_last (kept_of w words₁ w) c) ∙ ap drop_last (sym at_end) ∙ ap (λ (l : List (List ℕ)). drop_last (placed c l)) b.kept)
      where
        none_passes : Cutoff test w w
        none_passes =
            record {
              within = omega arith;
              fails = λ i h. fails_below test w (w - 1) i (rising b.held.parts c) (omega arith) e (omega arith);
              passes = λ i x y. absurd (omega arith);
            }

        at_end : placed c (kept_of w words₁ w) ≡ kept_of w words₁ w ++ (c ∷ [])
        at_end = placed_by b.held.parts c w none_passes ∙ sym (behind_all w (slots_of w words₁) (order_of w words₁) c (omega (arith, first_length b.held.parts)))
