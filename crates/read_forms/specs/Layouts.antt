-- What stands behind the first byte of an expression: the table of the format, a row for each byte.
use Rattle.std.specs.Prelude.{ℕ, cond, List, [], ◌∷◌, eqb, Result, Ok, Err}
use Rattle.model.specs.Expressions.{begins_expression}
use Rattle.read_forms.specs.declared.Due.{Due}
use Rattle.read_forms.specs.declared.Due.TheVariants as D
use Rattle.read_forms.specs.declared.layouts.Rows.{Rows}
use Rattle.read_forms.specs.declared.Fit.TheVariants.{Any, AtMost, Equal}
use Rattle.read_forms.specs.declared.Layout.{Layout}
use Rattle.read_forms.specs.declared.Layout.TheVariants.{Integer, Object, ObjectsAndMembers, Variable, One, Two, InTable, Choice}
use Rattle.read_forms.specs.declared.refusals.Refusal.{Refusal}
use Rattle.read_forms.specs.declared.refusals.Refusal.TheVariants.{NotDue, Mismatch}

infix 70 ◌begins◌
pub data Row : Type 0 where
  ◌begins◌ : ℕ → Layout → Row

-- a byte that begins another expression is a mismatch, any other is not due
unfoldable pub refusal_of : ℕ → Refusal
refusal_of b = cond (begins_expression b) Mismatch NotDue

unfoldable pub layout_in : List Row → ℕ → Result Layout Refusal
layout_in [] b = Err (refusal_of b)
layout_in ((a begins l) ∷ rows) b = cond (eqb b a) (Ok l) (layout_in rows b)

unfoldable pub layouts : Due → List Row
layouts D.Number =
    0x20 begins Integer
    ∷ 0x21 begins Variable D.Number
    ∷ 0x22 begins Two D.Number D.Number Any
    ∷ 0x23 begins Two D.Number D.Number Any
    ∷ 0x24 begins Two D.Number D.Number Any
    ∷ 0x25 begins Two D.Number D.Number Any
    ∷ 0x26 begins Two D.Number D.Number Any
    ∷ 0x27 begins Two D.Number D.Number Any
    ∷ 0x28 begins InTable D.Element
    ∷ 0x29 begins One D.Set
    ∷ 0x2a begins InTable D.Set
    ∷ 0x2b begins Choice
    ∷ []
layouts D.Element =
    0x30 begins Object
    ∷ 0x31 begins Variable D.Element
    ∷ []
layouts D.Set =
    0x40 begins ObjectsAndMembers
    ∷ 0x41 begins Variable D.Set
    ∷ 0x42 begins Two D.Element D.Set AtMost
    ∷ 0x43 begins Two D.Element D.Set AtMost
    ∷ 0x44 begins Two D.Set D.Set Equal
    ∷ 0x45 begins Two D.Set D.Set Equal
    ∷ 0x46 begins Two D.Set D.Set Equal
    ∷ 0x47 begins One D.Set
    ∷ []
layouts D.Condition =
    0x50 begins Two D.Number D.Number Any
    ∷ 0x51 begins Two D.Number D.Number Any
    ∷ 0x52 begins Two D.Number D.Number Any
    ∷ 0x53 begins Two D.Element D.Element Any
    ∷ 0x54 begins Two D.Element D.Set AtMost
    ∷ 0x55 begins One D.Set
    ∷ 0x56 begins Two D.Set D.Set Equal
    ∷ 0x57 begins One D.Condition
    ∷ 0x58 begins Two D.Condition D.Condition Any
    ∷ 0x59 begins Two D.Condition D.Condition Any
    ∷ []

-- the layout behind byte b where this kind is due
abbrev pub layout_of : Due → ℕ → Result Layout Refusal
layout_of due b = layout_in (layouts due) b

-- the bytes that begin an expression of this kind, and where their rows begin among all rows
abbrev pub rows_of : Due → Rows
rows_of D.Number = record { first = 0x20; count = 12; at = 0 }
rows_of D.Element = record { first = 0x30; count = 2; at = 12 }
rows_of D.Set = record { first = 0x40; count = 8; at = 14 }
rows_of D.Condition = record { first = 0x50; count = 10; at = 22 }
