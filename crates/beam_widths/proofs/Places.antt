-- Behind a place of a list of widths: the definition's next width and later ones by the place of the next; and the last entry.
use Prim.Native.Nat.{ℕ, ◌+◌, ◌-◌, ◌<◌}
use mathlib.Core.Path.{◌≡◌, refl}
use mathlib.Core.Bool.{Bool, true, false}
use mathlib.Core.List.{List, [], ◌∷◌}
use native.Mathlib.Omega.{arith}
use native.Mathlib.Numerals.{add-one}
use lib.ListN.{length, get_or, drop}
use lib.Dec.{eqb, ltb}
use lib.Seq.{drop-cons, drop-length}
use borrow.Author.Tests.{ltb-true, ltb-false, lt-ltb, le-ltb, eq-eqb, ne_eqb}
use Rattle.laws.specs.Lists.{is_empty}
use Rattle.model.specs.System.{Costs, System}
use Rattle.search.specs.Search as S
use Rattle.search.specs.Guarantee as G
use Rattle.search.specs.Run.{listed, widest_of}
use Rattle.beam_widths.specs.Lists.{place_behind}

-- nothing, at the last; or the next entry, and those behind it
data Behind (ws : List ℕ) (place : ℕ) : Type 0 where
  at_last : place + 1 ≡ length ws → drop (place + 1) ws ≡ [] → Behind ws place
  before_last : place + 1 < length ws → drop (place + 1) ws ≡ get_or ws (place + 1) 0 ∷ drop (place + 1 + 1) ws → Behind ws place

module _ (ws : List ℕ) (place : ℕ) where
  -- behind the last entry there is none
  no_more : Behind ws place → is_empty (drop (place + 1) ws) ≡ eqb (place + 1) (length ws)
  unfolding is_empty
  no_more (at_last e d) = rw (d, eq-eqb (place + 1) (length ws) e)
  no_more (before_last h d) = rw (d, ne_eqb (place + 1) (length ws) (λ z. omega (arith, h)))

  stays_inside : place < length ws → Behind ws place → place_behind (length ws) place < length ws
  unfolding place_behind
  stays_inside inside (at_last e d) = rw (le-ltb (place + 1) (length ws) (omega (arith, e))) inside
  stays_inside inside (before_last h d) = rw (lt-ltb (place + 1) (length ws) h) h

  module _ {A C : Type 0} (K : Costs C) (M : System A C) where
    next_entry : Behind ws place → S.next_width K M (get_or ws place 0) (drop (place + 1) ws) ≡ get_or ws (place_behind (length ws) place) 0
    unfolding S.next_width place_behind
    next_entry (at_last e d) = rw (d, le-ltb (place + 1) (length ws) (omega (arith, e)))
    next_entry (before_last h d) = rw (d, lt-ltb (place + 1) (length ws) h)

    later_entries : Behind ws place → S.later_widths K M (drop (place + 1) ws) ≡ drop (place_behind (length ws) place + 1) ws
    unfolding S.later_widths place_behind
    later_entries (at_last e d) = rw (le-ltb (place + 1) (length ws) (omega (arith, e)), d)
    later_entries (before_last h d) = rw (d, lt-ltb (place + 1) (length ws) h)

module _ (ws : List ℕ) (place : ℕ) (inside : place < length ws) where
  behind : Behind ws place
  behind =
      by_test (ltb (place + 1) (length ws)) refl
    where
      by_test : (b : Bool) → ltb (place + 1) (length ws) ≡ b → Behind ws place
      by_test true e = let h = ltb-true (place + 1) (length ws) e in before_last h (rw (add-one (place + 1)) (drop-cons ws (place + 1) 0 h))
      by_test false e = let h : place + 1 ≡ length ws = omega (arith, inside, ltb-false (place + 1) (length ws) e) in at_last h (rw h (drop-length ws))

  pub last_empty : is_empty (drop (place + 1) ws) ≡ eqb (place + 1) (length ws)
  last_empty = no_more ws place behind

  pub next_inside : place_behind (length ws) place < length ws
  next_inside = stays_inside ws place inside behind

  module _ {A C : Type 0} (K : Costs C) (M : System A C) where
    -- the entry at the place of the next is the definition's next width
    pub next_is : S.next_width K M (get_or ws place 0) (drop (place + 1) ws) ≡ get_or ws (place_behind (length ws) place) 0
    next_is = next_entry ws place K M behind

    pub later_are : S.later_widths K M (drop (place + 1) ws) ≡ drop (place_behind (length ws) place + 1) ws
    later_are = later_entries ws place K M behind

-- the last of a list, by its place
widest_at : (w : ℕ) (ws : List ℕ) → get_or (w ∷ ws) (length ws) 0 ≡ G.widest w ws
widest_at w [] = refl
widest_at w (v ∷ ws) = widest_at v ws

pub last_is_widest : (ws : List ℕ) → 0 < length ws → get_or ws (length ws - 1) 0 ≡ widest_of (listed ws)
last_is_widest [] h = absurd (omega arith)
last_is_widest (w ∷ ws) h = let before : length (w ∷ ws) - 1 ≡ length ws = omega arith in rw before (widest_at w ws)
