-- Whether a list rises, entry by entry; and the built-in widths up to W as the front of their table.
use Prim.Native.Nat.{ℕ, zero, suc, ◌+◌, ◌≤◌, ◌<◌}
use mathlib.Core.Path.{◌≡◌, refl, sym, ap, subst, ◌∙◌}
use mathlib.Core.Bool.{Bool, true, false, cond, ◌&&◌, ◌||◌}
use mathlib.Core.List.{List, [], ◌∷◌}
use native.Mathlib.Omega.{arith}
use native.Mathlib.Numerals.{add-one}
use lib.ListN.{length, get_or, drop, take}
use lib.Dec.{leb, ltb, eqb}
use lib.Seq.{drop-cons, drop-length}
use borrow.Author.Tests.{le-ltb, lt-ltb, lt-leb, le-leb, eq-eqb, ne_eqb, eqb-true, eqb-false}
use Rattle.laws.specs.Lists.{any}
use Rattle.model.specs.Numbers.{most_width, most_widths}
use Rattle.search.specs.Run.{wider_widths, wider_up_to, is_width, rising_from, rising}
use Rattle.beam_widths.specs.Lists.{built_in_up_to, BuiltIn}

-- ---- the entries from a place on

module _ (ws : List ℕ) (before place : ℕ) (inside : place < length ws) where
  at_hand : rising_from before (drop place ws) ≡ (ltb before (get_or ws place 0) && leb (get_or ws place 0) most_width && rising_from (get_or ws place 0) (drop (place + 1) ws))
  unfolding rising_from
  at_hand = rw (add-one place, drop-cons ws place 0 inside)

  pub not_above : get_or ws place 0 ≤ before → rising_from before (drop place ws) ≡ false
  not_above h = at_hand ∙ rw (le-ltb before (get_or ws place 0) h)

  module _ (above : before < get_or ws place 0) where
    pub too_wide : most_width < get_or ws place 0 → rising_from before (drop place ws) ≡ false
    too_wide h = at_hand ∙ rw (lt-ltb before (get_or ws place 0) above, lt-leb (get_or ws place 0) most_width h)

    pub one_further : get_or ws place 0 ≤ most_width → rising_from before (drop place ws) ≡ rising_from (get_or ws place 0) (drop (place + 1) ws)
    one_further h = at_hand ∙ rw (lt-ltb before (get_or ws place 0) above, le-leb (get_or ws place 0) most_width h)

pub none_left : (ws : List ℕ) (before place : ℕ) → place ≤ length ws → length ws ≤ place → rising_from before (drop place ws) ≡ true
unfolding rising_from
none_left ws before place a b = let all : place ≡ length ws = omega arith in rw (all, drop-length ws)

-- ---- a list that may be lent

module _ (ws : List ℕ) where
  pub no_entry : length ws < 1 → rising ws ≡ false
  unfolding rising
  no_entry h = rw (lt-leb 1 (length ws) h)

  pub too_many : 1 ≤ length ws → most_widths < length ws → rising ws ≡ false
  unfolding rising
  too_many h k = rw (le-leb 1 (length ws) h, lt-leb (length ws) most_widths k)

  pub by_entries : 1 ≤ length ws → length ws ≤ most_widths → rising_from 0 ws ≡ rising ws
  unfolding rising
  by_entries h k = rw (le-leb 1 (length ws) h, le-leb (length ws) most_widths k)

-- ---- the built-in widths

abbrev pub widths : List ℕ
widths = 1 ∷ wider_widths

abbrev pub among : (width : ℕ) → List ℕ → Bool
among width l = any (λ w. eqb w width) l

-- what holds of every number below n
abbrev Below : (P : ℕ → Type 0) → ℕ → Type 0
Below P zero = Unit {0}
Below P (suc n) = P n × Below P n

below : (P : ℕ → Type 0) (n i : ℕ) → Below P n → i < n → P i
below P zero i all h = absurd (omega arith)
below P (suc n) i all h = by_test (eqb i n) refl (λ lt. below P n i all.1 lt)
  where
    by_test : (b : Bool) → eqb i n ≡ b → (i < n → P i) → P i
    by_test true e rest = subst P (sym (eqb-true i n e)) all.0
    by_test false e rest = rest (omega (arith, h, eqb-false i n e))

-- the front of the table up to a place is the list up to the width there
each_front : Below (λ i. take (i + 1) widths ≡ 1 ∷ wider_up_to (get_or widths i 0)) 13
unfolding wider_up_to Rattle.laws.specs.Lists.filter
each_front = (refl, (refl, (refl, (refl, (refl, (refl, (refl, (refl, (refl, (refl, (refl, (refl, (refl, tt)))))))))))))

module _ (width place : ℕ) (inside : place < 13) where
  among_at : among width (drop place widths) ≡ (eqb (get_or widths place 0) width || among width (drop (place + 1) widths))
  unfolding any
  among_at = rw (add-one place, drop-cons widths place 0 inside)

  pub width_found : get_or widths place 0 ≡ width → is_width width ≡ among width (drop place widths) → BuiltIn width (place + 1)
  unfolding built_in_up_to
  width_found e left =
      let is : is_width width ≡ true = left ∙ among_at ∙ rw (eq-eqb (get_or widths place 0) width e) in
      record {
        inside = omega (arith, inside);
        same = rw is (below (λ i. take (i + 1) widths ≡ 1 ∷ wider_up_to (get_or widths i 0)) 13 place each_front inside ∙ rw e);
      }

  pub width_passed : (get_or widths place 0 ≡ width → ⊥) → among width (drop place widths) ≡ among width (drop (place + 1) widths)
  width_passed e = among_at ∙ rw (ne_eqb (get_or widths place 0) width e)

no_width_left : (width : ℕ) → among width (drop 13 widths) ≡ false
unfolding any
no_width_left width = refl

pub no_width : (width place : ℕ) → place ≤ 13 → 13 ≤ place → is_width width ≡ among width (drop place widths) → BuiltIn width 0
unfolding built_in_up_to
no_width width place a b left =
    let all : place ≡ 13 = omega arith in
    let is : is_width width ≡ false = left ∙ ap (λ (k : ℕ). among width (drop k widths)) all ∙ no_width_left width in
    record { inside = omega arith; same = rw is }

-- what the number of built-in widths says of W
module _ (w : ℕ) where
  none_is : (b : Bool) → is_width w ≡ b → ◌≡◌ {A = List ℕ} [] (cond b (1 ∷ wider_up_to w) []) → is_width w ≡ false
  none_is true is e = let z : 0 ≡ suc (length (wider_up_to w)) = ap length e in absurd (omega arith)
  none_is false is e = is

  pub built_in_none : BuiltIn w 0 → is_width w ≡ false
  unfolding built_in_up_to
  built_in_none x = none_is (is_width w) refl x.same

  some_are : (b : Bool) (n : ℕ) → is_width w ≡ b → take (suc n) widths ≡ cond b (1 ∷ wider_up_to w) [] → (is_width w ≡ true) × (take (suc n) widths ≡ 1 ∷ wider_up_to w)
  some_are true n is e = (is, e)
  some_are false n is e = let z : suc (length (take n wider_widths)) ≡ 0 = ap length e in absurd (omega arith)

  pub built_in_some : (n : ℕ) → BuiltIn w n → 0 < n → (is_width w ≡ true) × (take n widths ≡ 1 ∷ wider_up_to w)
  unfolding built_in_up_to
  built_in_some zero x h = absurd (omega arith)
  built_in_some (suc n) x h = some_are (is_width w) n refl x.same
