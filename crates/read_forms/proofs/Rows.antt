-- The layouts by first bytes, computed at all bytes: in the rows of a kind, and at every other byte.
use Prim.Native.Nat.{ℕ, ◌+◌, ◌-◌, ◌≤◌, ◌<◌}
use mathlib.Core.Path.{◌≡◌, refl}
use mathlib.Core.Bool.{Bool, true, false, cond, ◌&&◌, false≢true}
use mathlib.Core.List.{List, map, ◌++◌}
use native.Mathlib.Omega.{arith}
use lib.ListN.{get_or}
use lib.Dec.{leb, ltb}
use borrow.Author.Tests.{leb-true, ltb-true}
use Rattle.model.specs.Expressions.{among}
use Rattle.words.proofs.Bytes.{agree}
use Rattle.read_forms.specs.Layouts.{Row, ◌begins◌, refusal_of, layout_in, layouts, layout_of, rows_of}
use Rattle.read_forms.specs.declared.Due.{Due}
use Rattle.read_forms.specs.declared.Due.TheVariants as D
use Rattle.read_forms.specs.declared.Layout.{Layout}
use Rattle.read_forms.specs.declared.Layout.TheVariants.{Integer}
use Rattle.std.specs.Prelude.{Ok, Err}

abbrev layout_of_row : Row → Layout
layout_of_row (b begins l) = l

-- the rows of all kinds
unfoldable pub all_layouts : List Layout
all_layouts = map layout_of_row (layouts D.Number ++ layouts D.Element ++ layouts D.Set ++ layouts D.Condition)

-- whether b begins an expression of this kind, and whether it does not
abbrev pub of_kind : Due → ℕ → Bool
of_kind x b = among (rows_of x).first (rows_of x).count b

abbrev not_of_kind : Due → ℕ → Bool
not_of_kind x b = cond (of_kind x b) false true

pub row_at : (x : Due) (b : ℕ) → b < 256 → of_kind x b ≡ true → Ok (get_or all_layouts ((rows_of x).at + (b - (rows_of x).first)) Integer) ≡ layout_of x b
unfolding all_layouts layouts layout_in among
row_at D.Number = agree (of_kind D.Number) (λ b. Ok (get_or all_layouts (0 + (b - 0x20)) Integer)) (layout_of D.Number) refl
row_at D.Element = agree (of_kind D.Element) (λ b. Ok (get_or all_layouts (12 + (b - 0x30)) Integer)) (layout_of D.Element) refl
row_at D.Set = agree (of_kind D.Set) (λ b. Ok (get_or all_layouts (14 + (b - 0x40)) Integer)) (layout_of D.Set) refl
row_at D.Condition = agree (of_kind D.Condition) (λ b. Ok (get_or all_layouts (22 + (b - 0x50)) Integer)) (layout_of D.Condition) refl

pub in_no_row : (x : Due) (b : ℕ) → b < 256 → of_kind x b ≡ false → Err (refusal_of b) ≡ layout_of x b
in_no_row x b h q = go x (rw q)
  where
    go : (x : Due) → not_of_kind x b ≡ true → Err (refusal_of b) ≡ layout_of x b
    go D.Number = unfold layouts layout_in among in agree (not_of_kind D.Number) (λ b. Err (refusal_of b)) (layout_of D.Number) refl b h
    go D.Element = unfold layouts layout_in among in agree (not_of_kind D.Element) (λ b. Err (refusal_of b)) (layout_of D.Element) refl b h
    go D.Set = unfold layouts layout_in among in agree (not_of_kind D.Set) (λ b. Err (refusal_of b)) (layout_of D.Set) refl b h
    go D.Condition = unfold layouts layout_in among in agree (not_of_kind D.Condition) (λ b. Err (refusal_of b)) (layout_of D.Condition) refl b h

-- ---- the row's number

pub among_bounds : (a n b : ℕ) → among a n b ≡ true → (a ≤ b) × (b < a + n)
unfolding among
among_bounds a n b q = go (leb a b) refl q
  where
    go : (t : Bool) → leb a b ≡ t → (t && ltb b (a + n)) ≡ true → (a ≤ b) × (b < a + n)
    go true e q = (leb-true a b e, ltb-true b (a + n) q)
    go false e q = absurd (false≢true q)

pub row_inside : (x : Due) (b : ℕ) → of_kind x b ≡ true → ((rows_of x).first ≤ b) × ((rows_of x).at + (b - (rows_of x).first) < 32)
row_inside D.Number b q = let h = among_bounds 0x20 12 b q in (h.0, omega (arith, h.1))
row_inside D.Element b q = let h = among_bounds 0x30 2 b q in (h.0, omega (arith, h.1))
row_inside D.Set b q = let h = among_bounds 0x40 8 b q in (h.0, omega (arith, h.1))
row_inside D.Condition b q = let h = among_bounds 0x50 10 b q in (h.0, omega (arith, h.1))

pub few_rows : (x : Due) → (rows_of x).first + (rows_of x).count < 256
few_rows D.Number = omega arith
few_rows D.Element = omega arith
few_rows D.Set = omega arith
few_rows D.Condition = omega arith
