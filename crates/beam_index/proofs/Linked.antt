-- What the stores of adding and removing do to the index, and how a walk goes through a bucket.
use Prim.Native.Nat.{ℕ, zero, suc, ◌+◌, ◌-◌, ◌≤◌, ◌<◌}
use mathlib.Core.Path.{◌≡◌, refl, sym, ◌∙◌}
use mathlib.Core.Logic.{◌≢◌}
use mathlib.Core.Bool.{Bool, true, false}
use mathlib.Core.List.{List}
use native.Mathlib.Omega.{arith}
use native.Mathlib.Decide.{dec_lt, ℕ_discrete}
use native.Mathlib.Numerals.{add-one}
use borrow.Author.Tests.{eqb-true, eq-eqb, lt-ltb, le-ltb}
use lib.Dec.{eqb}
use lib.ListN.{length, get_or, set, length-set}
use lib.Seq.{get_or-set_same, get_or-set_other}
use Rattle.laws.proofs.Bools.{and_both, not_both}
use Rattle.beam_index.specs.Links.{highest_below, level_at, in_bucket, bucket_at, Live, Index, LinkOf, Falling, LowLink, SameBut, Added, Removed, Cleared, Walked}
use Rattle.beam_index.proofs.Highest.{highest, highest_above, same_low, same_high, same_all, came_top, came_rest, went}

-- ---- places

pub level_slot : (w i : ℕ) → i < w → level_at w i ≡ i
unfolding level_at
level_slot w i h = rw (lt-ltb i w h)

pub level_head : (w i : ℕ) → w ≤ i → level_at w i ≡ w
unfolding level_at
level_head w i h = rw (le-ltb i w h)

pub level_within : (w i : ℕ) → level_at w i ≤ w
level_within w i = by_side (dec_lt i w)
  where
    by_side : Dec (i < w) → level_at w i ≤ w
    by_side (yes h) = omega (arith, level_slot w i h)
    by_side (no h) = omega (arith, level_head w i (omega arith))

module _ (w : ℕ) (used : ℕ → Bool) (bucket : ℕ → ℕ) where
  pub bucket_slot : (i : ℕ) → i < w → bucket_at w used bucket i ≡ bucket i
  unfolding bucket_at
  bucket_slot i h = rw (lt-ltb i w h)

  pub bucket_head : (b : ℕ) → bucket_at w used bucket (w + b) ≡ b
  unfolding bucket_at
  bucket_head b =
      let e : w + b - w ≡ b = omega arith in
      rw (le-ltb (w + b) w (omega arith), e)

  bucket_above : (i : ℕ) → w ≤ i → w + bucket_at w used bucket i ≡ i
  unfolding bucket_at
  bucket_above i h = rw (le-ltb i w h) (omega arith)

  -- two links of one bucket that lead down from one level are one
  same_place : (i j : ℕ) → bucket_at w used bucket i ≡ bucket_at w used bucket j → level_at w i ≡ level_at w j → i ≡ j
  same_place i j b l = by_sides (dec_lt i w) (dec_lt j w)
    where
      by_sides : Dec (i < w) → Dec (j < w) → i ≡ j
      by_sides (yes p) (yes q) = omega (arith, level_slot w i p, level_slot w j q)
      by_sides (yes p) (no q) = absurd (omega (arith, level_slot w i p, level_head w j (omega arith)))
      by_sides (no p) (yes q) = absurd (omega (arith, level_head w i (omega arith), level_slot w j q))
      by_sides (no p) (no q) = omega (arith, bucket_above i (omega arith), bucket_above j (omega arith))

  -- ---- members of a bucket

  pub member_of_lem : (b s : ℕ) → in_bucket w used bucket b s ≡ true → (used s ≡ true) × (bucket s ≡ b)
  unfolding in_bucket
  member_of_lem b s e =
      let r = and_both (used s) (eqb (bucket s) b) e in
      (r.0, eqb-true _ _ r.1)

  pub is_member_lem : (b s : ℕ) → used s ≡ true → bucket s ≡ b → in_bucket w used bucket b s ≡ true
  unfolding in_bucket
  is_member_lem b s u k = rw (u, eq-eqb (bucket s) b k)

  no_member : (b s : ℕ) → (used s ≡ true → bucket s ≡ b → ⊥) → in_bucket w used bucket b s ≡ false
  no_member b s n = by_test (in_bucket w used bucket b s) refl
    where
      by_test : (t : Bool) → in_bucket w used bucket b s ≡ t → t ≡ false
      by_test false e = refl
      by_test true e = let r = member_of_lem b s e in absurd (n r.0 r.1)

  -- the link of a slot that is in bucket b leads to the next lower one
  slot_link : (links : List ℕ) (b s : ℕ) → Index w used bucket links → s < w → s < length links → in_bucket w used bucket b s ≡ true → get_or links s 0 ≡ highest_below (in_bucket w used bucket b) s
  slot_link links b s ix h l e =
      let r = member_of_lem b s e in
      rw (level_slot w s h, bucket_slot s h, r.1) at (ix.linked s l (λ _. r.0))

-- ---- one store moves one link

module _ (links links' : List ℕ) (w b x at : ℕ) (used used' : ℕ → Bool) (bucket bucket' : ℕ → ℕ)
    (ix : Index w used bucket links) (lk : LinkOf w used bucket b at) (same : SameBut x used used' bucket bucket')
    (hx : x < w) (over : x < level_at w at) (under : highest_below (in_bucket w used bucket b) (level_at w at) ≤ suc x)
    (old : used x ≡ true → bucket x ≡ b) (new : used' x ≡ true → bucket' x ≡ b)
    (long : length links' ≡ length links)
    (set_at : get_or links' at 0 ≡ highest_below (in_bucket w used' bucket' b) (level_at w at))
    (set-x : used' x ≡ true → get_or links' x 0 ≡ highest_below (in_bucket w used' bucket' b) x)
    (rest : (i : ℕ) → i ≢ at → i ≢ x → get_or links' i 0 ≡ get_or links i 0) where
  same_member : (c s : ℕ) → s ≢ x → in_bucket w used' bucket' c s ≡ in_bucket w used bucket c s
  unfolding in_bucket
  same_member c s n = rw (same.same_use s n, same.same_bucket s n)

  same_own : (i : ℕ) → i ≢ x → bucket_at w used' bucket' i ≡ bucket_at w used bucket i
  same_own i n = by_side (dec_lt i w)
    where
      by_side : Dec (i < w) → bucket_at w used' bucket' i ≡ bucket_at w used bucket i
      by_side (yes h) = bucket_slot w used' bucket' i h ∙ same.same_bucket i n ∙ sym (bucket_slot w used bucket i h)
      by_side (no h) = omega (arith, bucket_above w used' bucket' i (omega arith), bucket_above w used bucket i (omega arith))

  -- in another bucket nothing changes
  elsewhere : (c i : ℕ) → c ≢ b → highest_below (in_bucket w used' bucket' c) i ≡ highest_below (in_bucket w used bucket c) i
  elsewhere c i n =
      same_all (in_bucket w used bucket c) (in_bucket w used' bucket' c) x (same_member c) i
      (no_member w used' bucket' c x (λ u k. n (sym k ∙ new u)) ∙ sym (no_member w used bucket c x (λ u k. n (sym k ∙ old u))))

  -- a link of bucket b that starts above x, and is not the one at `at`, does not reach down to x
  passes_over : (i : ℕ) → i ≢ at → Live w used bucket i → bucket_at w used bucket i ≡ b → x < level_at w i → suc x < highest_below (in_bucket w used bucket b) (level_at w i)
  passes_over i ne live own h = by_order (dec_lt (level_at w i) (level_at w at)) (dec_lt (level_at w at) (level_at w i))
    where
      m : ℕ → Bool
      m = in_bucket w used bucket b

      member_at : (j : ℕ) → Live w used bucket j → bucket_at w used bucket j ≡ b → level_at w j < w → m (level_at w j) ≡ true
      member_at j live' own' l = by_side (dec_lt j w)
        where
          by_side : Dec (j < w) → m (level_at w j) ≡ true
          by_side (yes p) = rw (level_slot w j p) (is_member_lem w used bucket b j (live' p) (sym (bucket_slot w used bucket j p) ∙ own'))
          by_side (no p) = absurd (omega (arith, level_head w j (omega arith)))

      by_order : Dec (level_at w i < level_at w at) → Dec (level_at w at < level_at w i) → suc x < highest_below m (level_at w i)
      by_order (yes p) q = absurd (not_both (member_at i live own (omega (arith, level_within w at))) ((highest m (level_at w at)).none (level_at w i) (omega arith) p))
      by_order (no p) (yes q) = omega (arith, highest_above m (level_at w i) (level_at w at) (member_at at lk.live lk.own (omega (arith, level_within w i))) q)
      by_order (no p) (no q) = absurd (ne (same_place w used bucket i at (own ∙ sym lk.own) (omega arith)))

  unmoved : (i : ℕ) → i ≢ at → i ≢ x → Live w used bucket i → highest_below (in_bucket w used' bucket' (bucket_at w used bucket i)) (level_at w i) ≡ highest_below (in_bucket w used bucket (bucket_at w used bucket i)) (level_at w i)
  unmoved i na nx live = by_bucket (ℕ_discrete (bucket_at w used bucket i) b)
    where
      by_bucket : Dec (bucket_at w used bucket i ≡ b) → highest_below (in_bucket w used' bucket' (bucket_at w used bucket i)) (level_at w i) ≡ highest_below (in_bucket w used bucket (bucket_at w used bucket i)) (level_at w i)
      by_bucket (no n) = elsewhere (bucket_at w used bucket i) (level_at w i) n
      by_bucket (yes e) = rw e (by_level (dec_lt x (level_at w i)))
        where
          by_level : Dec (x < level_at w i) → highest_below (in_bucket w used' bucket' b) (level_at w i) ≡ highest_below (in_bucket w used bucket b) (level_at w i)
          by_level (yes h) = same_high (in_bucket w used bucket b) (in_bucket w used' bucket' b) x (same_member b) (level_at w i) (passes_over i na live e h)
          by_level (no h) = same_low (in_bucket w used bucket b) (in_bucket w used' bucket' b) x (same_member b) (level_at w i) (omega arith)

  relinked : Index w used' bucket' links'
  relinked = record { linked = λ i l live. by_place i l live (ℕ_discrete i at) (ℕ_discrete i x) }
    where
      by_place : (i : ℕ) → i < length links' → Live w used' bucket' i → Dec (i ≡ at) → Dec (i ≡ x) → get_or links' i 0 ≡ highest_below (in_bucket w used' bucket' (bucket_at w used' bucket' i)) (level_at w i)
      by_place i l live p (yes z) =
          let u : used' x ≡ true = rw z at (live (omega arith)) in
          rw (z, bucket_slot w used' bucket' x hx, new u, level_slot w x hx) (set-x u)
      by_place i l live (yes e) (no z) = rw (same_own i z, e, lk.own) set_at
      by_place i l live (no e) (no z) =
          let live₀ : Live w used bucket i = λ h. sym (same.same_use i z) ∙ live h in
          rw (same_own i z) (rest i e z ∙ ix.linked i (omega arith) live₀ ∙ sym (unmoved i e z live₀))

-- ---- adding

module _ (links : List ℕ) (w b x at : ℕ) (room : w + b < length links) (hx : x < w) (lw : LowLink links w b x at) where
  abbrev with_slot : List ℕ
  with_slot = set (set links x (get_or links at 0)) at (x + 1)

  -- the link to change leads from above x
  starts_above : (used : ℕ → Bool) (bucket : ℕ → ℕ) → Index w used bucket links → used x ≡ false → (at ≢ x) × (x < level_at w at)
  starts_above used bucket ix no-x =
      let ne : at ≢ x = λ z. not_both ((lw.link used bucket ix).live (omega arith)) (rw z no-x) in
      (ne, by_order ne (dec_lt x (level_at w at)) (dec_lt at w))
    where
      by_order : at ≢ x → Dec (x < level_at w at) → Dec (at < w) → x < level_at w at
      by_order ne (yes h) s = h
      by_order ne (no h) (yes s) = absurd (ne (omega (arith, lw.high, level_slot w at s)))
      by_order ne (no h) (no s) = absurd (omega (arith, level_head w at (omega arith)))

  at_at : get_or with_slot at 0 ≡ x + 1
  at_at = get_or-set_same (set links x (get_or links at 0)) at (x + 1) 0 (omega (arith, lw.inside, length-set links x (get_or links at 0)))

  at_x : at ≢ x → get_or with_slot x 0 ≡ get_or links at 0
  at_x ne = get_or-set_other (set links x (get_or links at 0)) at x (x + 1) 0 (λ z. ne (sym z)) ∙ get_or-set_same links x (get_or links at 0) 0 (omega arith)

  at_rest : (i : ℕ) → i ≢ at → i ≢ x → get_or with_slot i 0 ≡ get_or links i 0
  at_rest i na nx = get_or-set_other (set links x (get_or links at 0)) at i (x + 1) 0 na ∙ get_or-set_other links x i (get_or links at 0) 0 nx

  added_index : (used used' : ℕ → Bool) (bucket bucket' : ℕ → ℕ) → Index w used bucket links → SameBut x used used' bucket bucket' → used x ≡ false → used' x ≡ true → bucket' x ≡ b → Index w used' bucket' with_slot
  added_index used used' bucket bucket' ix same no-x yes-x key =
      let lk = lw.link used bucket ix in
      let up = starts_above used bucket ix no-x in
      let here : get_or links at 0 ≡ highest_below (in_bucket w used bucket b) (level_at w at) = rw lk.own at (ix.linked at lw.inside lk.live) in
      let under : highest_below (in_bucket w used bucket b) (level_at w at) ≤ x = omega (arith, lw.low) in
      relinked links with_slot w b x at used used' bucket bucket' ix lk same hx up.1 (omega arith) (λ u. absurd (not_both u no-x)) (λ _. key) (simp length-set)
      (at_at ∙ add-one x ∙ sym (came_top (in_bucket w used bucket b) (in_bucket w used' bucket' b) x (same_in used used' bucket bucket' same) (level_at w at) (is_member_lem w used' bucket' b x yes-x key) up.1 under))
      (λ _. at_x up.0 ∙ here ∙ sym (came_rest (in_bucket w used bucket b) (in_bucket w used' bucket' b) x (same_in used used' bucket bucket' same) (level_at w at) (omega (arith, up.1)) under))
      at_rest
    where
      same_in : (used used' : ℕ → Bool) (bucket bucket' : ℕ → ℕ) → SameBut x used used' bucket bucket' → (s : ℕ) → s ≢ x → in_bucket w used' bucket' b s ≡ in_bucket w used bucket b s
      same_in used used' bucket bucket' same s n = unfold in_bucket in rw (same.same_use s n, same.same_bucket s n)

  added_falling : Falling w links → (used : ℕ → Bool) (bucket : ℕ → ℕ) → Index w used bucket links → used x ≡ false → Falling w with_slot
  added_falling fall used bucket ix no-x i l = by_place (starts_above used bucket ix no-x) (ℕ_discrete i at) (ℕ_discrete i x)
    where
      by_place : (at ≢ x) × (x < level_at w at) → Dec (i ≡ at) → Dec (i ≡ x) → get_or with_slot i 0 ≤ level_at w i
      by_place up (yes e) z = rw (e, at_at) (omega (arith, up.1))
      by_place up (no e) (yes z) = rw (z, at_x up.0, level_slot w x hx) lw.low
      by_place up (no e) (no z) = rw (at_rest i e z) (fall i (omega (arith, length-set (set links x (get_or links at 0)) at (x + 1), length-set links x (get_or links at 0))))

  pub added : Falling w links → Added links with_slot w b x
  added fall = record { falling = added_falling fall; index = added_index }

-- ---- removing

module _ (links : List ℕ) (w b x at : ℕ) (room : w + b < length links) (hx : x < w) (lw : LowLink links w b (x + 1) at) where
  abbrev less_slot : List ℕ
  less_slot = set links at (get_or links x 0)

  at_it : get_or less_slot at 0 ≡ get_or links x 0
  at_it = get_or-set_same links at (get_or links x 0) 0 lw.inside

  removed_index : (used used' : ℕ → Bool) (bucket bucket' : ℕ → ℕ) → Index w used bucket links → SameBut x used used' bucket bucket' → used x ≡ true → bucket x ≡ b → used' x ≡ false → Index w used' bucket' less_slot
  removed_index used used' bucket bucket' ix same yes-x key no-x =
      let lk = lw.link used bucket ix in
      let here : get_or links at 0 ≡ highest_below (in_bucket w used bucket b) (level_at w at) = rw lk.own at (ix.linked at lw.inside lk.live) in
      let under : highest_below (in_bucket w used bucket b) (level_at w at) ≤ suc x = omega (arith, lw.low) in
      let over : x < level_at w at = omega (arith, lw.high) in
      let out : in_bucket w used' bucket' b x ≡ false = no_member w used' bucket' b x (λ u _. not_both u no-x) in
      relinked links less_slot w b x at used used' bucket bucket' ix lk same hx over under (λ _. key) (λ u. absurd (not_both u no-x)) (simp length-set)
      (at_it ∙ slot_link w used bucket links b x ix hx (omega arith) (is_member_lem w used bucket b x yes-x key) ∙ sym (went (in_bucket w used bucket b) (in_bucket w used' bucket' b) x same_in (level_at w at) out over under))
      (λ u. absurd (not_both u no-x))
      (λ i na nx. get_or-set_other links at i (get_or links x 0) 0 na)
    where
      same_in : (s : ℕ) → s ≢ x → in_bucket w used' bucket' b s ≡ in_bucket w used bucket b s
      same_in s n = unfold in_bucket in rw (same.same_use s n, same.same_bucket s n)

  removed_falling : Falling w links → Falling w less_slot
  removed_falling fall i l = by_place (ℕ_discrete i at)
    where
      by_place : Dec (i ≡ at) → get_or less_slot i 0 ≤ level_at w i
      by_place (yes e) = rw (e, at_it) (omega (arith, fall x (omega arith), level_slot w x hx, lw.high))
      by_place (no e) = rw (get_or-set_other links at i (get_or links x 0) 0 e) (fall i (omega (arith, length-set links at (get_or links x 0))))

  pub removed : Falling w links → Removed links less_slot w b x
  removed fall = record { falling = removed_falling fall; index = removed_index }

-- ---- the search for the link to change

pub link_head : (w b : ℕ) (used : ℕ → Bool) (bucket : ℕ → ℕ) → LinkOf w used bucket b (w + b)
link_head w b used bucket = record { live = λ h. absurd (omega arith); own = bucket_head w used bucket b }

pub link_next : (links : List ℕ) (w b at q : ℕ) → at < length links → get_or links at 0 ≡ q → 0 < q → q ≤ w → (used : ℕ → Bool) (bucket : ℕ → ℕ) → Index w used bucket links → LinkOf w used bucket b at → LinkOf w used bucket b (q - 1)
link_next links w b at q l e pos h used bucket ix lk =
    let here : get_or links at 0 ≡ highest_below (in_bucket w used bucket b) (level_at w at) = rw lk.own at (ix.linked at l lk.live) in
    let z : q ≡ suc (q - 1) = omega arith in
    let r = member_of_lem w used bucket b (q - 1) ((highest (in_bucket w used bucket b) (level_at w at)).member (q - 1) (sym here ∙ e ∙ z)) in
    record { live = λ _. r.0; own = bucket_slot w used bucket (q - 1) (omega arith) ∙ r.1 }

-- ---- walks

module _ (links : List ℕ) (w b : ℕ) (passes : ℕ → Bool) (used : ℕ → Bool) (bucket : ℕ → ℕ) (ix : Index w used bucket links) where
  -- from a level on: what the link there leads to is the next to look at
  next_walked : (i q : ℕ) → q ≡ highest_below (in_bucket w used bucket b) i → ((s : ℕ) → i ≤ s → s < w → in_bucket w used bucket b s ≡ true → passes s ≡ false) → Walked w b q used bucket passes
  next_walked i q e seen =
      let k = highest (in_bucket w used bucket b) i in
      record {
        seen = λ s a l m. by_order s a l m (dec_lt s i);
        here = λ pos. let z : q ≡ suc (q - 1) = omega arith in k.member (q - 1) (sym e ∙ z);
      }
    where
      by_order : (s : ℕ) → q ≤ s → s < w → in_bucket w used bucket b s ≡ true → Dec (s < i) → passes s ≡ false
      by_order s a l m (yes h) = absurd (not_both m ((highest (in_bucket w used bucket b) i).none s (rw e at a) h))
      by_order s a l m (no h) = seen s (omega arith) l m

  pub walk_start : w + b < length links → Walked w b (get_or links (w + b) 0) used bucket passes
  walk_start room =
      next_walked w (get_or links (w + b) 0) (rw (bucket_head w used bucket b, level_head w (w + b) (omega arith)) at (ix.linked (w + b) room (λ h. absurd (omega arith)))) (λ s a l m. absurd (omega arith))

  pub walk_next : (q : ℕ) → 0 < q → q ≤ w → w ≤ length links → Walked w b q used bucket passes → passes (q - 1) ≡ false → Walked w b (get_or links (q - 1) 0) used bucket passes
  walk_next q pos h room v fails =
      next_walked (q - 1) (get_or links (q - 1) 0) (slot_link w used bucket links b (q - 1) ix (omega arith) (omega arith) (v.here pos)) (λ s a l m. by_place s a l m (ℕ_discrete s (q - 1)))
    where
      by_place : (s : ℕ) → q - 1 ≤ s → s < w → in_bucket w used bucket b s ≡ true → Dec (s ≡ q - 1) → passes s ≡ false
      by_place s a l m (yes z) = rw z fails
      by_place s a l m (no z) = v.seen s (by_order (dec_lt s q)) l m
        where
          by_order : Dec (s < q) → q ≤ s
          by_order (yes k) = absurd (z (omega arith))
          by_order (no k) = omega arith

-- ---- no used slots

pub cleared_falling : (w : ℕ) (links : List ℕ) → Cleared links → Falling w links
cleared_falling w links c i l = omega (arith, c.zeros i)

none_highest : (m : ℕ → Bool) (i : ℕ) → ((s : ℕ) → m s ≡ false) → highest_below m i ≡ 0
unfolding highest_below
none_highest m zero n = refl
none_highest m (suc i) n = rw (n i) (none_highest m i n)

pub cleared_index : (w : ℕ) (used : ℕ → Bool) (bucket : ℕ → ℕ) (links : List ℕ) → Cleared links → ((s : ℕ) → used s ≡ false) → Index w used bucket links
cleared_index w used bucket links c n =
    record { linked = λ i l live. c.zeros i ∙ sym (none_highest (in_bucket w used bucket (bucket_at w used bucket i)) (level_at w i) (λ s. no_member w used bucket (bucket_at w used bucket i) s (λ u k. not_both u (n s)))) }

-- one more link is 0
pub clear_more : (l : List ℕ) (i : ℕ) → i < length l → ((j : ℕ) → j < i → get_or l j 0 ≡ 0) → (j : ℕ) → j < i + 1 → get_or (set l i 0) j 0 ≡ 0
clear_more l i h old j k = by_place (ℕ_discrete j i)
  where
    by_place : Dec (j ≡ i) → get_or (set l i 0) j 0 ≡ 0
    by_place (yes z) = rw z (get_or-set_same l i 0 0 h)
    by_place (no z) = get_or-set_other l i j 0 0 z ∙ old j (omega arith)
