-- The forms of expressions by their first byte, and their shapes: the bytes of operands behind it and the expressions behind those.
use Rattle.std.specs.Prelude.{ℕ, zero, suc, ◌+◌, cond, true, false, List, [], ◌∷◌, eqb}
use Rattle.eval_sets.specs.declared.bytes.Shape.{Shape}
use Rattle.eval_sets.specs.declared.first_bytes.Operation.TheVariants as O
use Rattle.eval_sets.specs.declared.first_bytes.NumberForm.{NumberForm}
use Rattle.eval_sets.specs.declared.first_bytes.NumberForm.TheVariants as N
use Rattle.eval_sets.specs.declared.first_bytes.Change.TheVariants as H
use Rattle.eval_sets.specs.declared.first_bytes.Combination.TheVariants as B
use Rattle.eval_sets.specs.declared.first_bytes.SetForm.{SetForm}
use Rattle.eval_sets.specs.declared.first_bytes.SetForm.TheVariants as S
use Rattle.eval_sets.specs.declared.first_bytes.Relation.TheVariants as R
use Rattle.eval_sets.specs.declared.first_bytes.ConditionForm.{ConditionForm}
use Rattle.eval_sets.specs.declared.first_bytes.ConditionForm.TheVariants as C

unfoldable pub number_form : ℕ → NumberForm
number_form b =
    cond (eqb b 0x20) N.Literal (cond (eqb b 0x21) N.Variable (cond (eqb b 0x22) (N.Arithmetic O.Sum)
    (cond (eqb b 0x23) (N.Arithmetic O.Difference) (cond (eqb b 0x24) (N.Arithmetic O.Product)
    (cond (eqb b 0x25) (N.Arithmetic O.Quotient) (cond (eqb b 0x26) (N.Arithmetic O.Lesser)
    (cond (eqb b 0x27) (N.Arithmetic O.Greater) (cond (eqb b 0x28) N.Entry (cond (eqb b 0x29) N.Size
    (cond (eqb b 0x2a) N.Total (cond (eqb b 0x2b) N.Choice N.Other)))))))))))

unfoldable pub set_form : ℕ → SetForm
set_form b =
    cond (eqb b 0x40) S.Literal (cond (eqb b 0x41) S.Variable (cond (eqb b 0x42) (S.Changed H.Add)
    (cond (eqb b 0x43) (S.Changed H.Remove) (cond (eqb b 0x44) (S.Combined B.Union)
    (cond (eqb b 0x45) (S.Combined B.Intersection) (cond (eqb b 0x46) (S.Combined B.Difference)
    (cond (eqb b 0x47) S.Complement S.Other)))))))

unfoldable pub condition_form : ℕ → ConditionForm
condition_form b =
    cond (eqb b 0x50) (C.Comparison R.Equal) (cond (eqb b 0x51) (C.Comparison R.Less)
    (cond (eqb b 0x52) (C.Comparison R.AtMost) (cond (eqb b 0x53) C.Same (cond (eqb b 0x54) C.Member
    (cond (eqb b 0x55) C.Empty (cond (eqb b 0x56) C.Subset (cond (eqb b 0x57) C.Negation
    (cond (eqb b 0x58) (C.Connective false) (cond (eqb b 0x59) (C.Connective true) C.Other)))))))))

-- ---- shapes

abbrev shape : (operands parts : ℕ) → Shape
shape n k = record { operands = n; parts = k }

-- the bytes of operands behind byte b, and the expressions behind those
unfoldable pub shape_of : ℕ → Shape
shape_of b =
    cond (eqb b 0x20) (shape 4 0) (cond (eqb b 0x21) (shape 1 0) (cond (eqb b 0x28) (shape 1 2) (cond (eqb b 0x29) (shape 0 1)
    (cond (eqb b 0x2a) (shape 1 2) (cond (eqb b 0x2b) (shape 0 3) (cond (eqb b 0x30) (shape 1 0) (cond (eqb b 0x31) (shape 1 0)
    (cond (eqb b 0x40) (shape 9 0) (cond (eqb b 0x41) (shape 1 0) (cond (eqb b 0x47) (shape 0 1) (cond (eqb b 0x55) (shape 0 1)
    (cond (eqb b 0x57) (shape 0 1) (shape 0 2)))))))))))))

unfoldable pub operands : ℕ → ℕ
operands b = (shape_of b).operands

unfoldable pub parts : ℕ → ℕ
parts b = (shape_of b).parts

-- the bytes that operands and then the expressions that are due take, as far as there are bytes
unfoldable pub span : List ℕ → (operands due : ℕ) → ℕ
span [] j c = 0
span (b ∷ e) zero zero = 0
span (b ∷ e) zero (suc c) = suc (span e (operands b) (parts b + c))
span (b ∷ e) (suc j) c = suc (span e j c)
