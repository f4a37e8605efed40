-- Abstract syntax: what the bytes of a model say. Object counts stand at the leaves, so a set or an element has its own count.
-- docs/FORMAT.md, "Commands" and "Expressions".
use Rattle.std.specs.Prelude.{ℕ, suc, List, [], get_or, ℤ}
use Rattle.std.proofs.Math.Option.{Option}

-- 30, 31
pub data Element : Type 0 where
  object : ℕ → Element
  element_variable : (objects v : ℕ) → Element

-- 40 to 47
pub data Set : Type 0 where
  some_of : (objects members : ℕ) → Set
  set_variable : (objects v : ℕ) → Set
  add remove : Element → Set → Set
  union intersection difference : Set → Set → Set
  complement : Set → Set

mutual
  -- 20 to 2B
  pub data Number : Type 0 where
    literal : ℤ → Number
    number_variable : ℕ → Number
    plus minus times quotient lesser greater : Number → Number → Number
    entry : (table : ℕ) → Element → Element → Number
    size : Set → Number
    total : (table : ℕ) → Set → Element → Number
    choice : Condition → Number → Number → Number

  -- 50 to 59
  pub data Condition : Type 0 where
    equal less at_most : Number → Number → Condition
    same : Element → Element → Condition
    member : Element → Set → Condition
    is_empty : Set → Condition
    subset : Set → Set → Condition
    negation : Condition → Condition
    both either : Condition → Condition → Condition

-- "An element literal k … has count k + 1"
unfoldable pub element_count : Element → ℕ
element_count (object k) = suc k
element_count (element_variable n v) = n

unfoldable pub set_count : Set → ℕ
set_count (some_of n s) = n
set_count (set_variable n v) = n
set_count (add e s) = set_count s
set_count (remove e s) = set_count s
set_count (union s t) = set_count s
set_count (intersection s t) = set_count s
set_count (difference s t) = set_count s
set_count (complement s) = set_count s

pub data Kind : Type 0 where
  a_set an_element a_number : Kind

pub data Preference : Type 0 where
  none less more : Preference

pub data Rule : Type 0 where
  sum largest : Rule

-- objects: 0 for a number. start: a set's members, an element's object or a number, as an integer
pub record Variable : Type 0 where
  pub kind : Kind
  pub objects : ℕ
  pub preference : Preference
  pub start : ℤ

pub record Table : Type 0 where
  pub rows : ℕ
  pub columns : ℕ
  pub entries : List ℤ

-- table t, or one without entries
unfoldable pub table_at : List Table → ℕ → Table
table_at ts t = get_or ts t (record { rows = 0; columns = 0; entries = [] })

-- an effect's expression, by the kind of its variable
pub data Expression : Type 0 where
  of_set : Set → Expression
  of_element : Element → Expression
  of_number : Number → Expression

pub record Effect : Type 0 where
  pub target : ℕ
  pub result : Expression

-- what a step costs: 09, a number; and 10, "a number, the high cost", where it is written
pub record StepCosts : Type 0 where
  pub cost : Number
  pub high : Option Number

pub record Transition : Type 0 where
  pub conditions : List Condition
  pub costs : StepCosts
  pub effects : List Effect

pub record Model : Type 0 where
  pub rule : Rule
  pub variables : List Variable
  pub tables : List Table
  pub transitions : List Transition
  pub base_cases : List (List Condition)
  pub constraints : List Condition
  pub bounds : List Number
