-- Tests of a word under a mask: one member, and two tests joined into one.
use Prim.Native.Nat.{ℕ, zero, suc, ◌+◌, ◌*◌, ◌-◌, ◌/◌, ◌%◌, ◌^◌, ◌≤◌, ◌<◌, min, max}
use mathlib.Core.Path.{◌≡◌, refl, sym, ap, ap₂, ◌∙◌}
use mathlib.Core.Bool.{Bool, true, false, not, ◌&&◌}
use native.Mathlib.Omega.{arith}
use native.Mathlib.Nat.{pow-suc}
use lib.Pow.{pow_pos}
use lib.Arith.{bin_ind}
use lib.Dec.{eqb}
use lib.Bits.{bit_and, bit_or, and_step, or_step, and_zero_l, or_zero_l, and_comm, or_comm, and_le_l, and_le_r, or_add_and, and_mask, and_high}
use borrow.Author.Tests.{eqb-true, eqb-false}
use Rattle.model.specs.Numbers.{most_objects}
use Rattle.model.specs.Sets.{is_member, intersection, union}

-- ---- halves and lowest digits

and_halves : (a b : ℕ) → (bit_and a b / 2 ≡ bit_and (a / 2) (b / 2)) × (bit_and a b % 2 ≡ min (a % 2) (b % 2))
and_halves a b = let s = and_step a b in (omega arith, omega arith)

or_halves : (a b : ℕ) → (bit_or a b / 2 ≡ bit_or (a / 2) (b / 2)) × (bit_or a b % 2 ≡ max (a % 2) (b % 2))
or_halves a b = let s = or_step a b in (omega arith, omega arith)

-- ---- tests

-- two tests of apart bits, each asking for bits of its own
pub record Apart (a b x y : ℕ) : Type 0 where
  pub masks : bit_and a b ≡ 0
  pub first : bit_and x a ≡ x
  pub second : bit_and y b ≡ y

halved : {a b x y : ℕ} → Apart a b x y → Apart (a / 2) (b / 2) (x / 2) (y / 2)
halved {a} {b} {x} {y} p =
    record { masks = sym (and_halves a b).0 ∙ ap (λ (n : ℕ). n / 2) p.masks; first = sym (and_halves x a).0 ∙ ap (λ (n : ℕ). n / 2) p.first; second = sym (and_halves y b).0 ∙ ap (λ (n : ℕ). n / 2) p.second }

inside : (x a : ℕ) → min x a ≡ x → x ≤ a
inside x a e = omega arith

first_digit : (s a b x y : ℕ) → a < 2 → s < 2 → min a b ≡ 0 → x ≤ a → y ≤ b → min s (max a b) ≡ max x y → min s a ≡ x
first_digit s a b x y l k e f g h = omega arith

-- what both ask for together, the first asks for
joined_first : (s a b x y : ℕ) → Apart a b x y → bit_and s (bit_or a b) ≡ bit_or x y → bit_and s a ≡ x
joined_first = bin_ind (λ (s : ℕ). (a b x y : ℕ) → Apart a b x y → bit_and s (bit_or a b) ≡ bit_or x y → bit_and s a ≡ x) none more
  where
    none : (a b x y : ℕ) → Apart a b x y → bit_and 0 (bit_or a b) ≡ bit_or x y → bit_and 0 a ≡ x
    none a b x y p e = omega (arith, and_zero_l a, and_zero_l (bit_or a b), or_add_and x y, and_le_l x y, and_le_r x y)

    more : (s : ℕ) → ((a b x y : ℕ) → Apart a b x y → bit_and (s / 2) (bit_or a b) ≡ bit_or x y → bit_and (s / 2) a ≡ x)
        → (a b x y : ℕ) → Apart a b x y → bit_and s (bit_or a b) ≡ bit_or x y → bit_and s a ≡ x
    more s again a b x y p e =
        let h : bit_and (s / 2) (bit_or (a / 2) (b / 2)) ≡ bit_or (x / 2) (y / 2) = ap (bit_and (s / 2)) (sym (or_halves a b).0) ∙ sym (and_halves s (bit_or a b)).0 ∙ ap (λ (n : ℕ). n / 2) e ∙ (or_halves x y).0 in
        let half = again (a / 2) (b / 2) (x / 2) (y / 2) (halved p) h in
        let digit : min (s % 2) (a % 2) ≡ x % 2 = first_digit (s % 2) (a % 2) (b % 2) (x % 2) (y % 2) (omega arith) (omega arith)
        (sym (and_halves a b).1 ∙ ap (λ (n : ℕ). n % 2) p.masks) (inside _ _ (sym (and_halves x a).1 ∙ ap (λ (n : ℕ). n % 2) p.first)) (inside _ _ (sym (and_halves y b).1 ∙ ap (λ (n : ℕ). n % 2) p.second))
        (ap (min (s % 2)) (sym (or_halves a b).1) ∙ sym (and_halves s (bit_or a b)).1 ∙ ap (λ (n : ℕ). n % 2) e ∙ (or_halves x y).1) in
        and_step s a ∙ omega (arith, half, digit)

-- what each asks for, both ask for together
joined : (s a b : ℕ) → bit_and s (bit_or a b) ≡ bit_or (bit_and s a) (bit_and s b)
joined = bin_ind (λ (s : ℕ). (a b : ℕ) → bit_and s (bit_or a b) ≡ bit_or (bit_and s a) (bit_and s b)) none more
  where
    none : (a b : ℕ) → bit_and 0 (bit_or a b) ≡ bit_or (bit_and 0 a) (bit_and 0 b)
    none a b = and_zero_l (bit_or a b) ∙ sym (rw (and_zero_l a, and_zero_l b) (or_zero_l 0))

    digit : (s a b : ℕ) → min s (max a b) ≡ max (min s a) (min s b)
    digit s a b = omega arith

    more : (s : ℕ) → ((a b : ℕ) → bit_and (s / 2) (bit_or a b) ≡ bit_or (bit_and (s / 2) a) (bit_and (s / 2) b)) → (a b : ℕ) → bit_and s (bit_or a b) ≡ bit_or (bit_and s a) (bit_and s b)
    more s again a b =
        let left : bit_and s (bit_or a b) ≡ bit_and (s / 2) (bit_or (a / 2) (b / 2)) * 2 + min (s % 2) (max (a % 2) (b % 2)) = rw (← (or_halves a b).0, ← (or_halves a b).1) (and_step s (bit_or a b)) in
        let right : bit_or (bit_and s a) (bit_and s b) ≡ bit_or (bit_and (s / 2) (a / 2)) (bit_and (s / 2) (b / 2)) * 2 + max (min (s % 2) (a % 2)) (min (s % 2) (b % 2)) =
        rw (← (and_halves s a).0, ← (and_halves s a).1, ← (and_halves s b).0, ← (and_halves s b).1) (or_step (bit_and s a) (bit_and s b)) in
        omega (arith, left, right, again (a / 2) (b / 2), digit (s % 2) (a % 2) (b % 2))

apart_turned : {a b x y : ℕ} → Apart a b x y → Apart b a y x
apart_turned {a} {b} p = record { masks = and_comm b a ∙ p.masks; first = p.second; second = p.first }

-- one test of two: both hold exactly where the one does
pub joined_tests : (s a b x y : ℕ) → Apart a b x y → eqb (intersection s (union a b)) (union x y) ≡ (eqb (intersection s a) x && eqb (intersection s b) y)
unfolding intersection union
joined_tests s a b x y p = go (eqb (bit_and s (bit_or a b)) (bit_or x y)) (eqb (bit_and s a) x) (eqb (bit_and s b) y) refl refl refl
  where
    go : (t u v : Bool) → eqb (bit_and s (bit_or a b)) (bit_or x y) ≡ t → eqb (bit_and s a) x ≡ u → eqb (bit_and s b) y ≡ v → t ≡ (u && v)
    go true true true e f g = refl
    go true true false e f g =
        let turned : bit_and s (bit_or b a) ≡ bit_or y x = ap (bit_and s) (or_comm b a) ∙ eqb-true _ _ e ∙ or_comm x y in
        absurd (eqb-false _ _ g (joined_first s b a y x (apart_turned p) turned))
    go true false v e f g = absurd (eqb-false _ _ f (joined_first s a b x y p (eqb-true _ _ e)))
    go false true true e f g =
        let each : bit_and s (bit_or a b) ≡ bit_or x y = joined s a b ∙ ap₂ bit_or (eqb-true (bit_and s a) x f) (eqb-true (bit_and s b) y g) in
        absurd (eqb-false _ _ e each)
    go false true false e f g = refl
    go false false v e f g = refl

-- bits of two tests stay bits of the one
within : (s a b x y : ℕ) → bit_and x a ≡ x → bit_and y b ≡ y → s ≡ bit_or x y → bit_and s (bit_or a b) ≡ s
within = bin_ind (λ (s : ℕ). (a b x y : ℕ) → bit_and x a ≡ x → bit_and y b ≡ y → s ≡ bit_or x y → bit_and s (bit_or a b) ≡ s) (λ a b x y f g e. and_zero_l (bit_or a b)) more
  where
    digit : (s a b x y : ℕ) → x ≤ a → y ≤ b → s ≡ max x y → min s (max a b) ≡ s
    digit s a b x y f g e = omega arith

    more : (s : ℕ) → ((a b x y : ℕ) → bit_and x a ≡ x → bit_and y b ≡ y → s / 2 ≡ bit_or x y → bit_and (s / 2) (bit_or a b) ≡ s / 2)
        → (a b x y : ℕ) → bit_and x a ≡ x → bit_and y b ≡ y → s ≡ bit_or x y → bit_and s (bit_or a b) ≡ s
    more s again a b x y f g e =
        let half = again (a / 2) (b / 2) (x / 2) (y / 2) (sym (and_halves x a).0 ∙ ap (λ (n : ℕ). n / 2) f) (sym (and_halves y b).0 ∙ ap (λ (n : ℕ). n / 2) g) (ap (λ (n : ℕ). n / 2) e ∙ (or_halves x y).0) in
        let low = digit (s % 2) (a % 2) (b % 2) (x % 2) (y % 2) (inside _ _ (sym (and_halves x a).1 ∙ ap (λ (n : ℕ). n % 2) f)) (inside _ _ (sym (and_halves y b).1 ∙ ap (λ (n : ℕ). n % 2) g)) (ap (λ (n : ℕ). n % 2) e ∙ (or_halves x y).1) in
        let whole : bit_and s (bit_or a b) ≡ bit_and (s / 2) (bit_or (a / 2) (b / 2)) * 2 + min (s % 2) (max (a % 2) (b % 2)) = rw (← (or_halves a b).0, ← (or_halves a b).1) (and_step s (bit_or a b)) in
        omega (arith, whole, half, low)

pub joined_within : (a b x y : ℕ) → intersection x a ≡ x → intersection y b ≡ y → intersection (union x y) (union a b) ≡ union x y
unfolding intersection union
joined_within a b x y f g = within (bit_or x y) a b x y f g refl

one_digit : (b p : ℕ) → b < 2 → 0 < p → eqb b 1 ≡ eqb (b * p) p
one_digit zero p l h = go (eqb (0 * p) p) refl
  where
    go : (t : Bool) → eqb (0 * p) p ≡ t → false ≡ t
    go true e = let z : 0 * p ≡ p = eqb-true _ _ e in absurd (omega arith)
    go false e = refl
one_digit (suc zero) p l h = go (eqb (1 * p) p) refl
  where
    go : (t : Bool) → eqb (1 * p) p ≡ t → true ≡ t
    go true e = refl
    go false e = let once : 1 * p ≡ p = omega arith in absurd (eqb-false (1 * p) p e once)
one_digit (suc (suc b)) p l h = absurd (omega arith)

-- object k is a member where the word under its bit is its bit
pub member_test : (k s : ℕ) → is_member k s ≡ eqb (intersection s (2 ^ k)) (2 ^ k)
unfolding is_member intersection
member_test k s =
    let next : 1 + k ≡ suc k = omega arith in
    let bit : bit_and s (2 ^ k) ≡ s / 2 ^ k % 2 * 2 ^ k = ap (bit_and s) (rw next (omega (arith, pow-suc 2 k))) ∙ and_high s 1 k in
    rw bit (one_digit (s / 2 ^ k % 2) (2 ^ k) (omega arith) (pow_pos k))

-- nothing of w is in s
pub missing_test : (w s : ℕ) → eqb (intersection w s) 0 ≡ eqb (intersection s w) 0
unfolding intersection
missing_test w s = ap (λ (n : ℕ). eqb n 0) (and_comm w s)

no_digit : (b p : ℕ) → b < 2 → 0 < p → not (eqb (b * p) p) ≡ eqb (b * p) 0
no_digit b p l h = go b l (eqb (b * p) p) refl (eqb (b * p) 0) refl
  where
    go : (b : ℕ) → b < 2 → (t : Bool) → eqb (b * p) p ≡ t → (u : Bool) → eqb (b * p) 0 ≡ u → not t ≡ u
    go zero l true e u f = let z : 0 * p ≡ p = eqb-true _ _ e in absurd (omega arith)
    go zero l false e true f = refl
    go zero l false e false f = let none : 0 * p ≡ 0 = omega arith in absurd (eqb-false (0 * p) 0 f none)
    go (suc zero) l true e true f = let z : 1 * p ≡ 0 = eqb-true _ _ f in absurd (omega arith)
    go (suc zero) l true e false f = refl
    go (suc zero) l false e u f = let once : 1 * p ≡ p = omega arith in absurd (eqb-false (1 * p) p e once)
    go (suc (suc b)) l t e u f = absurd (omega arith)

-- it is none where the word under its bit is nothing
pub absent_test : (k s : ℕ) → not (eqb (intersection s (2 ^ k)) (2 ^ k)) ≡ eqb (intersection s (2 ^ k)) 0
unfolding intersection
absent_test k s =
    let next : 1 + k ≡ suc k = omega arith in
    let bit : bit_and s (2 ^ k) ≡ s / 2 ^ k % 2 * 2 ^ k = ap (bit_and s) (rw next (omega (arith, pow-suc 2 k))) ∙ and_high s 1 k in
    rw bit (no_digit (s / 2 ^ k % 2) (2 ^ k) (omega arith) (pow_pos k))

-- an object is what the word under six ones is
pub element_bits : (s : ℕ) → intersection s (most_objects - 1) ≡ s % most_objects
unfolding intersection
element_bits s = and_mask s 6
