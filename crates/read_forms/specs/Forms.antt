-- An expression's answer from its layout and the answers of its parts, over the bytes of the declared names.
use Rattle.std.specs.Prelude.{ℕ, suc, ◌+◌, ◌≤◌, cond, ◌&&◌, List, length, get_or, drop, leb, ltb, eqb, Result, Ok, Err, IfOk}
use Rattle.model.specs.Syntax.{Kind, a_set, an_element, a_number}
use Rattle.model.specs.Readers.{integer}
use Rattle.model.specs.Expressions.{objects_and_members, object_number, kind_number}
use Rattle.words.specs.Signature.{variable_of}
use Rattle.read_forms.specs.Parts.{Answer, good, no_count, variables_in, tables_in, part_of, part_at}
use Rattle.read_forms.specs.declared.Due.{Due}
use Rattle.read_forms.specs.declared.Due.TheVariants as D
use Rattle.read_forms.specs.declared.Names.{Names}
use Rattle.read_forms.specs.declared.Part.{Part}
use Rattle.read_forms.specs.declared.Parts.{Parts}
use Rattle.read_forms.specs.declared.Fit.{Fit}
use Rattle.read_forms.specs.declared.Fit.TheVariants.{Any, AtMost, Equal}
use Rattle.read_forms.specs.declared.Layout.{Layout}
use Rattle.read_forms.specs.declared.Layout.TheVariants.{Integer, Object, ObjectsAndMembers, Variable, One, Two, InTable, Choice}
use Rattle.read_forms.specs.declared.refusals.Refusal.{Refusal}
use Rattle.read_forms.specs.declared.refusals.Refusal.TheVariants.{EndsEarly, Mismatch}

-- go on with what was read; a refusal stays
abbrev pub and_then : {A B : Type 0} → Result A Refusal → (A → Result B Refusal) → Result B Refusal
and_then (Ok a) next = next a
and_then (Err t) next = Err t

-- ---- one part behind the other

abbrev pub behind : (first second : Part) → Parts
behind p q = record { used = p.used + q.used; first = p.count; second = q.count }

abbrev pub two_parts : Answer → (ℕ → Answer) → Result Parts Refusal
two_parts first next = and_then first (λ p. and_then (next p.used) (λ q. Ok (behind p q)))

-- ---- the whole from its parts

-- "two sets need equal counts", "member counts may not exceed the set's"; the whole has the set's count
abbrev pub fitted : Fit → Parts → Answer
fitted Any p = good p.used 0
fitted AtMost p = cond (leb p.first p.second) (good p.used p.second) (Err Mismatch)
fitted Equal p = cond (eqb p.first p.second) (good p.used p.first) (Err Mismatch)

-- within a table's sides; the table's number is one byte
abbrev pub within : (rows columns : ℕ) → Parts → Answer
within r c p = cond (leb p.first r && leb p.second c) (good (1 + p.used) 0) (Err Mismatch)

abbrev pub plus_parts : ℕ → Parts → Part
plus_parts n p = record { used = n + p.used; count = 0 }

abbrev pub choice_of : Answer → (ℕ → Result Parts Refusal) → Answer
choice_of condition next = and_then condition (λ p. and_then (next p.used) (λ q. Ok (plus_parts p.used q)))

-- an element and a set have a count, a number and a condition have none
abbrev pub count_for : Due → ℕ → ℕ
count_for D.Number a = 0
count_for D.Condition a = 0
count_for D.Element a = a
count_for D.Set a = a

-- with the first byte, where this kind is due
abbrev pub whole : Due → Part → Part
whole due p = record { used = 1 + p.used; count = count_for due p.count }

-- ---- bounds

-- takes at most l bytes
abbrev pub TakesAtMost : ℕ → Answer → Type 0
TakesAtMost l r = IfOk r (λ p. p.used ≤ l)

abbrev pub TakeAtMost : ℕ → Result Parts Refusal → Type 0
TakeAtMost l r = IfOk r (λ p. p.used ≤ l)

-- ---- operands

-- as `kind_number`; no variable is a condition
abbrev pub due_number : Due → ℕ
due_number D.Set = 0
due_number D.Element = 1
due_number D.Number = 2
due_number D.Condition = 3

-- the kind of expression that is of a variable's kind
abbrev pub due_for : Kind → Due
due_for a_set = D.Set
due_for an_element = D.Element
due_for a_number = D.Number

-- a declared variable of the kind that is due
unfoldable pub variable_at : Due → (kinds : List ℕ) → List ℕ → Answer
variable_at due kinds e =
    cond (ltb 0 (length e))
    (cond (ltb (get_or e 0 0) (length kinds))
    (cond (eqb (due_number due) (kind_number (variable_of (get_or kinds (get_or e 0 0) 0)).kind)) (good 1 (variable_of (get_or kinds (get_or e 0 0) 0)).objects) (Err Mismatch))
    (Err Mismatch))
    (Err EndsEarly)

-- ---- forms

module _ (names : Names) where
  abbrev pub part : Due → (d : ℕ) → List ℕ → Answer
  part due d e = part_at due (variables_in names) (tables_in names) d e

  unfoldable pub parts_at : (first second : Due) → (d : ℕ) → List ℕ → Result Parts Refusal
  parts_at x y d e = two_parts (part x d e) (λ n. part y d (drop n e))

  -- a table's number, then what tells the rows and what tells the column
  unfoldable pub in_table_at : (first : Due) → (d : ℕ) → List ℕ → Answer
  in_table_at x d e =
      cond (ltb 0 (length e))
      (cond (ltb (get_or e 0 0) (length names.rows.now)) (and_then (parts_at x D.Element d (drop 1 e)) (within (get_or names.rows.now (get_or e 0 0) 0) (get_or names.columns.now (get_or e 0 0) 0))) (Err Mismatch))
      (Err EndsEarly)

  -- a condition and two numbers
  unfoldable pub choice_at : (d : ℕ) → List ℕ → Answer
  choice_at d e = choice_of (part D.Condition d e) (λ n. parts_at D.Number D.Number d (drop n e))

  -- what stands behind the first byte, with depth d left for the parts
  abbrev pub form_at : Layout → (d : ℕ) → List ℕ → Answer
  form_at Integer d e = part_of no_count (integer e)
  form_at Object d e = part_of suc (object_number e)
  form_at ObjectsAndMembers d e = part_of (λ p. p.0) (objects_and_members e)
  form_at (Variable due) d e = variable_at due names.kinds.now e
  form_at (One x) d e = part x d e
  form_at (Two x y fit) d e = and_then (parts_at x y d e) (fitted fit)
  form_at (InTable x) d e = in_table_at x d e
  form_at Choice d e = choice_at d e
