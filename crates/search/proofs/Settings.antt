-- What settings that fit promise, by cases on beam and form: every width of a run is at least 1 and at most the widest, the widest is the last
-- of them and at most 4,096, and the length limit, given or chosen, is 1 to 256. The built-in widths are a rising list.
use Prim.Native.Nat.{ℕ, zero, suc, ◌≤◌, ◌<◌}
use mathlib.Core.Path.{◌≡◌, refl, subst}
use mathlib.Core.Bool.{true, ◌&&◌, false≢true}
use mathlib.Core.List.{List, [], ◌∷◌}
use native.Mathlib.Omega.{arith}
use lib.ListN.{length, get_or}
use lib.Dec.{leb, ltb, eqb}
use borrow.Author.Tests.{leb-true, ltb-true, eqb-true}
use Rattle.laws.specs.Lists.{All}
use Rattle.laws.proofs.Bools.{and_both}
use Rattle.laws.proofs.Lists.{some_all, any_some}
use Rattle.model.specs.Numbers.{most_steps, most_width, most_widths}
use Rattle.model.specs.Readers.{read}
use Rattle.model.specs.Syntax.{Model}
use Rattle.model.specs.Commands.{model}
use Rattle.model.proofs.Profile.{loading_length_some, loading_length_within}
use Rattle.search.specs.Guarantee.{widest}
use Rattle.search.specs.Run.{Beam, up_to, listed, Form, plain, loading, Settings, Lent, wider_widths, wider_up_to, is_width, rising_from, rising, first_width, wider_than, widest_of, limit_of, beam_fits, form_fits, settings_fit, lent_fits, lent_before, accepts}

-- ---- the widths 1, 2, 4 up to 4,096

-- what holds of each of them holds of every number that is one
pub of_width : (P : ℕ → Type 0) → All P (1 ∷ wider_widths) → (w : ℕ) → is_width w ≡ true → P w
of_width P each w e = some_all (1 ∷ wider_widths) each (any_some (λ v. eqb v w) (1 ∷ wider_widths) e) (λ v holds same. subst P (eqb-true v w same) holds)

-- 1, 2, 4 up to W end with W
each_last : All (λ w. widest 1 (wider_up_to w) ≡ w) (1 ∷ wider_widths)
unfolding wider_up_to Rattle.laws.specs.Lists.filter
each_last = (refl, (refl, (refl, (refl, (refl, (refl, (refl, (refl, (refl, (refl, (refl, (refl, (refl, tt)))))))))))))

-- and rise
each_rises : All (λ w. rising (1 ∷ wider_up_to w) ≡ true) (1 ∷ wider_widths)
unfolding rising rising_from wider_up_to Rattle.laws.specs.Lists.filter
each_rises = (refl, (refl, (refl, (refl, (refl, (refl, (refl, (refl, (refl, (refl, (refl, (refl, (refl, tt)))))))))))))

pub built_in_last : (w : ℕ) → is_width w ≡ true → widest 1 (wider_up_to w) ≡ w
built_in_last w e = of_width (λ v. widest 1 (wider_up_to v) ≡ v) each_last w e

pub built_in_rises : (w : ℕ) → is_width w ≡ true → rising (1 ∷ wider_up_to w) ≡ true
built_in_rises w e = of_width (λ v. rising (1 ∷ wider_up_to v) ≡ true) each_rises w e

-- ---- a rising list

-- above `before`, and at most the last
record Lies (before last w : ℕ) : Type 0 where
  above : before < w
  within : w ≤ last

-- an entry behind `before`
record Rises (before w : ℕ) (ws : List ℕ) : Type 0 where
  above : before < w
  within : w ≤ most_width
  rest : rising_from w ws ≡ true

rises : (before w : ℕ) (ws : List ℕ) → rising_from before (w ∷ ws) ≡ true → Rises before w ws
unfolding rising_from
rises before w ws e =
    let parts = and_both (ltb before w && leb w most_width) (rising_from w ws) e in
    let entry = and_both (ltb before w) (leb w most_width) parts.0 in
    record { above = ltb-true before w entry.0; within = leb-true w most_width entry.1; rest = parts.1 }

last_above : (w : ℕ) (ws : List ℕ) → rising_from w ws ≡ true → w ≤ widest w ws
last_above w [] e = omega arith
last_above w (v ∷ ws) e = let r = rises w v ws e in omega (arith, r.above, last_above v ws r.rest)

last_within : (before w : ℕ) (ws : List ℕ) → rising_from before (w ∷ ws) ≡ true → widest w ws ≤ most_width
last_within before w [] e = (rises before w [] e).within
last_within before w (v ∷ ws) e = last_within w v ws (rises before w (v ∷ ws) e).rest

entry_lies : (before w : ℕ) (ws : List ℕ) (i : ℕ) → rising_from before (w ∷ ws) ≡ true → i < length (w ∷ ws) → Lies before (widest w ws) (get_or (w ∷ ws) i 0)
entry_lies before w [] zero e h = record { above = (rises before w [] e).above; within = omega arith }
entry_lies before w [] (suc i) e h = absurd (omega arith)
entry_lies before w (v ∷ ws) zero e h = let r = rises before w (v ∷ ws) e in record { above = r.above; within = last_above w (v ∷ ws) r.rest }
entry_lies before w (v ∷ ws) (suc i) e h =
    let r = rises before w (v ∷ ws) e in
    let later = entry_lies w v ws i r.rest (omega arith) in
    record { above = omega (arith, later.above, r.above); within = later.within }

rising_entries : (w : ℕ) (ws : List ℕ) → rising (w ∷ ws) ≡ true → rising_from 0 (w ∷ ws) ≡ true
unfolding rising
rising_entries w ws e = (and_both (leb 1 (length (w ∷ ws)) && leb (length (w ∷ ws)) most_widths) (rising_from 0 (w ∷ ws)) e).1

none_rises : rising [] ≡ true → ⊥
unfolding rising
none_rises e = false≢true e

-- W is from 1 to 4,096
pub last_fits : (ws : List ℕ) → rising ws ≡ true → (0 < widest_of (listed ws)) × (widest_of (listed ws) ≤ most_width)
last_fits [] e = absurd (none_rises e)
last_fits (w ∷ ws) e =
    let from = rising_entries w ws e in
    let r = rises 0 w ws from in
    (omega (arith, r.above, last_above w ws r.rest), last_within 0 w ws from)

-- every entry is from 1 to W
pub entry_fits : (ws : List ℕ) (i : ℕ) → rising ws ≡ true → i < length ws → (0 < get_or ws i 0) × (get_or ws i 0 ≤ widest_of (listed ws))
entry_fits [] i e h = absurd (none_rises e)
entry_fits (w ∷ ws) i e h = let x = entry_lies 0 w ws i (rising_entries w ws e) h in (x.above, x.within)

pub some_entries : (ws : List ℕ) → rising ws ≡ true → 0 < length ws
some_entries [] e = absurd (none_rises e)
some_entries (w ∷ ws) e = omega arith

-- ---- by cases on the beam

pub widest_is_last : (b : Beam) → beam_fits b ≡ true → widest (first_width b) (wider_than b) ≡ widest_of b
widest_is_last (up_to w) e = built_in_last w e
widest_is_last (listed ws) e = refl

-- ---- by cases on the form

pub given_within : (limit : ℕ) → form_fits (plain limit) ≡ true → (1 ≤ limit) × (limit ≤ most_steps)
given_within l e = let both = and_both (leb 1 l) (leb l most_steps) e in (leb-true 1 l both.0, leb-true l most_steps both.1)

pub some_limit : (f : Form) (m : Model) → form_fits f ≡ true → 1 ≤ limit_of f m
some_limit (plain l) m e = (given_within l e).0
some_limit loading m e = loading_length_some m

pub limit_within : (f : Form) (bytes : List ℕ) {m : Model} {n : ℕ} → model bytes ≡ read m n → form_fits f ≡ true → accepts f m ≡ true → limit_of f m ≤ most_steps
limit_within (plain l) bytes reads e a = (given_within l e).1
limit_within loading bytes reads e a = omega (arith, loading_length_within bytes reads a)

-- what is enough behind the reading is enough before it
pub enough_before : (f : Form) (m : Model) (widest : ℕ) (l : Lent) → lent_fits widest (limit_of f m) l ≡ true → lent_before f widest l ≡ true
enough_before (plain limit) m widest l e = e
enough_before loading m widest l e = refl

-- ---- of any settings

module _ (q : Settings) (fit : settings_fit q ≡ true) where
  pub beam_fits_lem : beam_fits q.beam ≡ true
  unfolding settings_fit
  beam_fits_lem = (and_both (beam_fits q.beam) (form_fits q.form) fit).0

  pub form_fits_lem : form_fits q.form ≡ true
  unfolding settings_fit
  form_fits_lem = (and_both (beam_fits q.beam) (form_fits q.form) fit).1
