-- Words compare as the values that they stand for, so the order of two states is that of their words.
use Prim.Native.Nat.{ℕ, suc, ◌+◌, ◌-◌, ◌%◌, ◌^◌, ◌≤◌, ◌<◌}
use mathlib.Core.Path.{◌≡◌, refl, sym, ◌∙◌}
use mathlib.Core.Bool.{Bool, true, false, cond, ◌&&◌}
use mathlib.Core.List.{List}
use mathlib.Core.Option.{some}
use native.Mathlib.Omega.{arith}
use native.Mathlib.Numerals.{add-one}
use lib.ListN.{length, get_or, get_elem?, drop, drop_of_length-le}
use lib.Dec.{eqb, leb, ltb}
use lib.IntN.{ℤ, pos, negsuc, ◌-ℤ◌}
use lib.Signed.{le_z}
use borrow.Author.Tests.{ltb-true, ltb-false, leb-true, leb-false, le-leb, lt-leb, eq-eqb, ne_eqb}
use Rattle.model.specs.Numbers.{range_end, most_objects}
use Rattle.model.specs.Syntax.{Kind, a_set, an_element, a_number, Preference, none, less, more, Variable}
use Rattle.model.specs.Meaning.{number_at, equal_z}
use Rattle.model.specs.Steps.{no_worse, none_worse, system_of}
use Rattle.words.specs.States.{value_of}
use Rattle.words.specs.Signature.{kind_byte_of, kind_byte, Objects}
use Rattle.outline.specs.Outline.{model_of, preference_number}
use Rattle.steps.specs.InBytes.{Outlined, system_in, state_in}
use Rattle.steps.specs.Order.{compared_word, no_worse_by, no_worse_at}
use Rattle.prepare.proofs.Items.{Nth, nth_of}
use Rattle.steps.proofs.StateWords.{state_at_lem}

-- ---- two tests that agree

leb_same : (a b c d : ℕ) → (a ≤ b → c ≤ d) → (c ≤ d → a ≤ b) → leb a b ≡ leb c d
leb_same a b c d f g = by_test (leb c d) (leb-true c d) (leb-false c d)
  where
    by_test : (t : Bool) → (t ≡ true → c ≤ d) → (t ≡ false → d < c) → leb a b ≡ t
    by_test true p q = le-leb a b (g (p refl))
    by_test false p q = lt-leb a b (turn (leb a b) (leb-true a b) (leb-false a b))
      where
        turn : (t : Bool) → (t ≡ true → a ≤ b) → (t ≡ false → b < a) → b < a
        turn true r s = let z : c ≤ d = f (r refl) in let y : d < c = q refl in omega arith
        turn false r s = s refl

both_ways : (a b : ℕ) → (leb a b && leb b a) ≡ eqb a b
both_ways a b = by_test (leb a b) (leb b a) (leb-true a b) (leb-false a b) (leb-true b a) (leb-false b a)
  where
    by_test : (p q : Bool) → (p ≡ true → a ≤ b) → (p ≡ false → b < a) → (q ≡ true → b ≤ a) → (q ≡ false → a < b) → (p && q) ≡ eqb a b
    by_test true true f g h k = let x : a ≤ b = f refl in let y : b ≤ a = h refl in sym (eq-eqb a b (omega arith))
    by_test true false f g h k = let x : a < b = k refl in sym (ne_eqb a b (λ e. omega arith))
    by_test false q f g h k = let x : b < a = g refl in sym (ne_eqb a b (λ e. omega arith))

-- ---- one variable

-- numbers are held from the range's low end on
lowered_order : (x y : ℕ) → le_z (pos x -ℤ pos range_end) (pos y -ℤ pos range_end) ≡ leb x y
lowered_order x y = by_test (ltb x range_end) (ltb y range_end) (ltb-true x range_end) (ltb-false x range_end) (ltb-true y range_end) (ltb-false y range_end)
  where
    by_test : (p q : Bool) → (p ≡ true → x < range_end) → (p ≡ false → range_end ≤ x) → (q ≡ true → y < range_end) → (q ≡ false → range_end ≤ y)
        → le_z (cond p (negsuc (range_end - suc x)) (pos (x - range_end))) (cond q (negsuc (range_end - suc y)) (pos (y - range_end))) ≡ leb x y
    by_test true true f g h k = let a : x < range_end = f refl in let b : y < range_end = h refl in leb_same (range_end - suc y) (range_end - suc x) x y (λ l. omega arith) (λ l. omega arith)
    by_test true false f g h k = let a : x < range_end = f refl in let b : range_end ≤ y = k refl in sym (le-leb x y (omega arith))
    by_test false true f g h k = let a : range_end ≤ x = g refl in let b : y < range_end = h refl in sym (lt-leb x y (omega arith))
    by_test false false f g h k = let a : range_end ≤ x = g refl in let b : range_end ≤ y = k refl in leb_same (x - range_end) (y - range_end) x y (λ l. omega arith) (λ l. omega arith)

value_order : (k : Kind) (n : ℕ) → Objects k n → (a b : ℕ) → le_z (value_of k a) (value_of k b) ≡ leb (compared_word (kind_byte_of k n) a) (compared_word (kind_byte_of k n) b)
unfolding value_of compared_word kind_byte_of
value_order a_number n o a b = lowered_order (a % 2 ^ 32) (b % 2 ^ 32)
value_order an_element n o a b = rw (ne_eqb n 0 (λ e. omega arith), le-leb n most_objects o.1)
value_order a_set n o a b = rw (ne_eqb (most_objects + n) 0 (λ e. omega arith), lt-leb (most_objects + n) most_objects (omega arith))

preferred : (p : Preference) (x y : ℤ) (a b : ℕ) → le_z x y ≡ leb a b → le_z y x ≡ leb b a → no_worse_by (preference_number p) a b ≡ no_worse p x y
unfolding no_worse_by preference_number no_worse equal_z
preferred none x y a b e f = rw (e, f) (sym (both_ways a b))
preferred less x y a b e f = sym e
preferred more x y a b e f = sym f

-- the variables before v are no worse: what is left to compare
abbrev pub Comparing : (bytes t s : List ℕ) → ℕ → Type 0
Comparing bytes t s v = (system_in bytes).dominates (state_in bytes t) (state_in bytes s) ≡ none_worse (drop v (model_of bytes).variables) v (state_in bytes t) (state_in bytes s)

module _ (bytes words : List ℕ) (o : Outlined bytes words) where
  module _ (t s : List ℕ) where
    -- a declared variable's words compare as its values
    pub compared_at : (v : ℕ) {x : Variable} → get_elem? (model_of bytes).variables v ≡ some x
        → no_worse_at words v t s ≡ no_worse x.preference (number_at (state_in bytes t) v) (number_at (state_in bytes s) v)
    unfolding no_worse_at number_at kind_byte
    compared_at v {x} e =
        let d = o.outlines.variables v x e in
        rw (d.kind, d.preference, state_at_lem (model_of bytes).variables t v e, state_at_lem (model_of bytes).variables s v e)
        (preferred x.preference _ _ _ _ (value_order x.kind x.objects d.well_formed (get_or t v 0) (get_or s v 0)) (value_order x.kind x.objects d.well_formed (get_or s v 0) (get_or t v 0)))

    unfolded : (v : ℕ) (n : Nth (model_of bytes).variables v)
        → none_worse (drop v (model_of bytes).variables) v (state_in bytes t) (state_in bytes s) ≡ (no_worse_at words v t s && none_worse (drop (v + 1) (model_of bytes).variables) (v + 1) (state_in bytes t) (state_in bytes s))
    unfolding none_worse
    unfolded v n = rw (n.rest, compared_at v n.found, add-one v)

    pub comparing_first : Comparing bytes t s 0
    unfolding system_of
    comparing_first = refl

    pub comparing_more : (v : ℕ) → v < length (model_of bytes).variables → true ≡ no_worse_at words v t s → Comparing bytes t s v → Comparing bytes t s (v + 1)
    comparing_more v h e c = c ∙ unfolded v (nth_of (model_of bytes).variables v h) ∙ rw (← e)

    pub comparing_fails : (v : ℕ) → v < length (model_of bytes).variables → false ≡ no_worse_at words v t s → Comparing bytes t s v → false ≡ (system_in bytes).dominates (state_in bytes t) (state_in bytes s)
    comparing_fails v h e c = sym (c ∙ unfolded v (nth_of (model_of bytes).variables v h) ∙ rw (← e))

    pub comparing_last : (v : ℕ) → length (model_of bytes).variables ≤ v → Comparing bytes t s v → true ≡ (system_in bytes).dominates (state_in bytes t) (state_in bytes s)
    unfolding none_worse
    comparing_last v h c = sym (c ∙ rw (drop_of_length-le (model_of bytes).variables h))
