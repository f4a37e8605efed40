-- Reading expressions: a byte, its fixed operands, its parts. In one place the refusals come in the order 4, 8, 5, 6 for kind,
-- 4 for operands, 7, 6 for names, and 6 for counts once the parts are read. docs/FORMAT.md, "Expressions" and "Refusals by the input".
use Rattle.std.specs.Prelude.{ℕ, zero, suc, ◌+◌, ◌^◌, Bool, cond, ◌&&◌, ◌||◌, List, [], ◌∷◌, length, leb, ltb, eqb}
use Rattle.std.proofs.Math.Option.{Option}
use Rattle.std.proofs.Math.Option as O
use Rattle.std.proofs.Math.ListN.{get_elem?}
use Rattle.model.specs.Numbers.{not_due, mismatch, off_limits, too_deep, most_objects}
use Rattle.model.specs.Readers.{Reader, ◌>>=◌, ◌>>◌, give, refuse, require, byte, word, integer, one, two, three}
use Rattle.model.specs.Syntax.{Element, object, element_variable, Set, some_of, set_variable, add, remove, union, intersection, difference, complement, Number, literal, number_variable, plus, minus, times, quotient, lesser, greater, entry, size, total, choice, Condition, equal, less, at_most, same, member, is_empty, subset, negation, both, either, element_count, set_count, Kind, a_set, an_element, a_number, Variable, Table, table_at}

-- ---- first bytes

-- a byte, and what is read behind it
infix 70 ◌⇒◌
pub data Form (A : Type 0) : Type 0 where
  ◌⇒◌ : ℕ → Reader A → Form A

-- b is one of the n bytes from a on
unfoldable pub among : (a n b : ℕ) → Bool
among a n b = leb a b && ltb b (a + n)

-- some expression begins with b: 20 to 2B, 30 and 31, 40 to 47, 50 to 59
unfoldable pub begins_expression : ℕ → Bool
begins_expression b = among 0x20 12 b || among 0x30 2 b || among 0x40 8 b || among 0x50 10 b

-- the form that b begins; an expression of another kind is a mismatch, another byte is not due
unfoldable pub form_of : {A : Type 0} → List (Form A) → ℕ → Reader A
form_of [] b = refuse (cond (begins_expression b) mismatch not_due)
form_of ((a ⇒ r) ∷ forms) b = cond (eqb b a) r (form_of forms b)

-- no depth is left for the byte that is due
unfoldable pub no_depth : {A : Type 0} → Reader A
no_depth = byte >> refuse too_deep

-- ---- operands

-- rows, columns and object counts
unfoldable pub is_count : ℕ → Bool
is_count n = among 1 most_objects n

-- u8 object count, u64 members, bit k for object k
unfoldable pub objects_and_members : Reader (ℕ × ℕ)
objects_and_members = do
  n ← word 1
  s ← word 8
  require (is_count n && ltb s (2 ^ n)) off_limits
  give (n, s)

-- "An element literal k is below 64"
unfoldable pub object_number : Reader ℕ
object_number = do
  k ← word 1
  require (ltb k most_objects) off_limits
  give k

unfoldable pub kind_number : Kind → ℕ
kind_number a_set = 0
kind_number an_element = 1
kind_number a_number = 2

unfoldable pub declared : Option Variable → Reader Variable
declared O.none = refuse mismatch
declared (O.some x) = give x

-- ---- parts whose counts have to fit

-- "member counts may not exceed … the set's count"
unfoldable pub element_and_set : {A : Type 0} → Reader Element → Reader Set → (Element → Set → A) → Reader A
element_and_set re rs make = do
  e ← re
  s ← rs
  require (leb (element_count e) (set_count s)) mismatch
  give (make e s)

-- "two sets need equal counts"
unfoldable pub two_sets : {A : Type 0} → Reader Set → (Set → Set → A) → Reader A
two_sets rs make = do
  s ← rs
  t ← rs
  require (eqb (set_count s) (set_count t)) mismatch
  give (make s t)

-- ---- expressions, where these variables and tables are declared; d is the depth that is left

module _ (variables : List Variable) (tables : List Table) where
  -- the number and the object count of a declared variable of this kind
  unfoldable pub variable : Kind → Reader (ℕ × ℕ)
  variable kind = do
    v ← word 1
    x ← declared (get_elem? variables v)
    require (eqb (kind_number kind) (kind_number x.kind)) mismatch
    give (v, x.objects)

  unfoldable pub table_number : Reader ℕ
  table_number = do
    t ← word 1
    require (ltb t (length tables)) mismatch
    give t

  -- "Index … counts may not exceed the table's side": a part that tells the rows, an element that tells the column
  unfoldable pub in_table : {A B : Type 0} → Reader A → (A → ℕ) → Reader Element → (ℕ → A → Element → B) → Reader B
  in_table ra count_of re make = do
    t ← table_number
    a ← ra
    e ← re
    require (leb (count_of a) (table_at tables t).rows && leb (element_count e) (table_at tables t).columns) mismatch
    give (make t a e)

  unfoldable pub element : (d : ℕ) → Reader Element
  element zero = no_depth
  element (suc d) = byte >>= form_of
      (0x30 ⇒ one object_number object
      ∷ 0x31 ⇒ one (variable an_element) (λ p. element_variable p.1 p.0)
      ∷ [])

  unfoldable pub set : (d : ℕ) → Reader Set
  set zero = no_depth
  set (suc d) = byte >>= form_of
      (0x40 ⇒ one objects_and_members (λ p. some_of p.0 p.1)
      ∷ 0x41 ⇒ one (variable a_set) (λ p. set_variable p.1 p.0)
      ∷ 0x42 ⇒ element_and_set (element d) (set d) add
      ∷ 0x43 ⇒ element_and_set (element d) (set d) remove
      ∷ 0x44 ⇒ two_sets (set d) union
      ∷ 0x45 ⇒ two_sets (set d) intersection
      ∷ 0x46 ⇒ two_sets (set d) difference
      ∷ 0x47 ⇒ one (set d) complement
      ∷ [])

  unfoldable mutual
    pub number : (d : ℕ) → Reader Number
    number zero = no_depth
    number (suc d) = byte >>= form_of
        (0x20 ⇒ one integer literal
        ∷ 0x21 ⇒ one (variable a_number) (λ p. number_variable p.0)
        ∷ 0x22 ⇒ two (number d) (number d) plus
        ∷ 0x23 ⇒ two (number d) (number d) minus
        ∷ 0x24 ⇒ two (number d) (number d) times
        ∷ 0x25 ⇒ two (number d) (number d) quotient
        ∷ 0x26 ⇒ two (number d) (number d) lesser
        ∷ 0x27 ⇒ two (number d) (number d) greater
        ∷ 0x28 ⇒ in_table (element d) element_count (element d) entry
        ∷ 0x29 ⇒ one (set d) size
        ∷ 0x2a ⇒ in_table (set d) set_count (element d) total
        ∷ 0x2b ⇒ three (condition d) (number d) (number d) choice
        ∷ [])

    pub condition : (d : ℕ) → Reader Condition
    condition zero = no_depth
    condition (suc d) = byte >>= form_of
        (0x50 ⇒ two (number d) (number d) equal
        ∷ 0x51 ⇒ two (number d) (number d) less
        ∷ 0x52 ⇒ two (number d) (number d) at_most
        ∷ 0x53 ⇒ two (element d) (element d) same
        ∷ 0x54 ⇒ element_and_set (element d) (set d) member
        ∷ 0x55 ⇒ one (set d) is_empty
        ∷ 0x56 ⇒ two_sets (set d) subset
        ∷ 0x57 ⇒ one (condition d) negation
        ∷ 0x58 ⇒ two (condition d) (condition d) both
        ∷ 0x59 ⇒ two (condition d) (condition d) either
        ∷ [])
