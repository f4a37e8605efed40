-- What operations and relations make of values, and the bytes that begin forms of one kind.
use Rattle.std.specs.Prelude.{ℕ, ◌+◌, ◌≡◌, Bool, true, cond, ◌&&◌, List, get_or, eqb, leb, ltb, ℤ, Option, Some, None, IfSome}
use Rattle.std.specs.Int.Signed.{mag}
use Rattle.model.specs.Numbers.{range_end}
use Rattle.model.specs.Values.{value}
use Rattle.model.specs.Sets as Sets
use Rattle.eval_sets.specs.declared.first_bytes.Operation.{Operation}
use Rattle.eval_sets.specs.declared.first_bytes.NumberForm.TheVariants as NF
use Rattle.eval_sets.specs.declared.first_bytes.Relation.{Relation}
use Rattle.eval_sets.specs.declared.first_bytes.ConditionForm.TheVariants as CF
use Rattle.eval_sets.specs.Forms.{number_form, condition_form}
use Rattle.eval_sets.specs.Runs.{arithmetic, compared}

-- a number in range, or nothing
unfoldable pub ranged : ℤ → Option ℤ
ranged z = cond (ltb (mag z) range_end) (Some z) None

-- what the operation with first byte b makes of two numbers
abbrev pub OperationTold : (b : ℕ) (x y : ℤ) (r : Option ℤ) → Type 0
OperationTold b x y r = (o : Operation) → number_form b ≡ NF.Arithmetic o → IfSome r (λ z. arithmetic o x y ≡ value z)

abbrev pub QuotientTold : (x y : ℤ) (r : Option ℤ) → Type 0
QuotientTold x y r = OperationTold 0x25 x y r

-- what the relation with first byte b says of two numbers
abbrev pub RelationTold : (b : ℕ) (x y : ℤ) (holds : Bool) → Type 0
RelationTold b x y holds = (o : Relation) → condition_form b ≡ CF.Comparison o → holds ≡ compared o x y

-- 44 to 46 by their byte
unfoldable pub combined_by : (b s t : ℕ) → ℕ
combined_by b s t = cond (eqb b 0x44) (Sets.union s t) (cond (eqb b 0x45) (Sets.intersection s t) (Sets.difference s t))

-- ---- bytes that begin forms of one kind

-- 22 to 27
unfoldable pub is_operation : (b : ℕ) → Bool
is_operation b = leb 0x22 b && ltb b 0x28

-- 42 and 43
unfoldable pub is_change : (b : ℕ) → Bool
is_change b = leb 0x42 b && ltb b 0x44

-- 44 to 46
unfoldable pub is_combination : (b : ℕ) → Bool
is_combination b = leb 0x44 b && ltb b 0x47

-- behind a leaf that begins with byte b, from the byte before it on: 41 v, or 40 with its members
unfoldable pub behind_leaf : (b : ℕ) → ℕ
behind_leaf b = cond (eqb b 0x41) 3 11

-- one of the two sets behind the byte at p is no leaf
unfoldable pub is_deep : (bytes : List ℕ) (p : ℕ) → Bool
is_deep bytes p = cond (leb 0x42 (get_or bytes (p + 1) 0)) true (leb 0x42 (get_or bytes (p + behind_leaf (get_or bytes (p + 1) 0)) 0))

-- 50 to 52
unfoldable pub is_relation : (b : ℕ) → Bool
is_relation b = leb 0x50 b && ltb b 0x53

-- one of two bytes begins a sum or a choice
unfoldable pub begins_joined : (a b : ℕ) → Bool
begins_joined a b = cond (eqb a 0x2b) true (cond (eqb a 0x22) true (cond (eqb b 0x2b) true (eqb b 0x22)))
