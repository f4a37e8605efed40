-- What the parts of the preparation are promised, one behind the other: each writes behind what the others have written.
use Rattle.std.specs.Prelude.{ℕ, ◌+◌, ◌*◌, ◌-◌, ◌≤◌, ◌<◌, ◌≡◌, ◌⊎◌, List, ◌++◌, length, get_or, drop, eqb}
use Rattle.std.proofs.Math.Option.{some}
use Rattle.std.proofs.Math.ListN.{get_elem?}
use Rattle.model.specs.Numbers.{range_end, most_nesting, most_variables}
use Rattle.model.specs.Values.{value}
use Rattle.model.specs.Readers.{read}
use Rattle.model.specs.Sets.{intersection}
use Rattle.model.specs.Syntax.{Condition, Transition, Model, table_at}
use Rattle.model.specs.Expressions.{condition}
use Rattle.model.specs.Commands.{transition}
use Rattle.model.specs.Meaning.{State, condition_value, all_hold}
use Rattle.words.specs.States.{state_of}
use Rattle.words.specs.Tables.{columns_of, cells_of, at_of}
use Rattle.outline.specs.Outline.{tables_from, model_of, Outlines}
use Rattle.prepare.specs.declared.guards.Guard.{Guard}
use Rattle.prepare.specs.declared.tests.Test.{Test}
use Rattle.prepare.specs.Layout.{masks_from, places_from, guards_from, conjuncts_from, most_conjuncts, prepared_words}
use Rattle.prepare.specs.Guards.{guard_in, GuardedTransition, GuardedCondition}
use Rattle.prepare.specs.Prepared.{MasksAt, PlaceAt, TransitionAt, ConjunctAt, Conjuncts, Prepared}

-- ---- a test that a condition's own bytes make

-- a condition of r's bytes: its value is whether the word is as needed under the mask
pub record TestIs (m : Model) (r : Test) (x : Condition) (n : ℕ) : Type 0 where
  pub used : n ≡ r.used
  pub decides : (state : List ℕ) → condition_value range_end m.tables x (state_of m.variables state)
      ≡ value (eqb (intersection (get_or state r.variable 0) r.mask) r.need)

-- what it needs are bits of its mask, and it is short
pub record TestWithin (r : Test) : Type 0 where
  pub bits : intersection r.need r.mask ≡ r.need
  pub short : r.used ≤ 14

module _ (bytes : List ℕ) (at : ℕ) where
  abbrev pub TestSays : Test → Type 0
  TestSays r = (words : List ℕ) (x : Condition) (n : ℕ) → Outlines bytes words (model_of bytes)
      → condition (model_of bytes).variables (model_of bytes).tables most_nesting (drop at bytes) ≡ read x n → TestIs (model_of bytes) r x n

  -- the guard of the transition that is read at `at`
  abbrev pub GuardSays : Guard → Type 0
  GuardSays r = (words : List ℕ) (x : Transition) (n : ℕ) → Outlines bytes words (model_of bytes)
      → transition (model_of bytes).variables (model_of bytes).tables (drop at bytes) ≡ read x n → GuardedTransition bytes (model_of bytes) r x

  -- the guard of the condition that is read at `at`
  abbrev pub ConjunctSays : Guard → Type 0
  ConjunctSays r = (words : List ℕ) (x : Condition) (n : ℕ) → Outlines bytes words (model_of bytes)
      → condition (model_of bytes).variables (model_of bytes).tables most_nesting (drop at bytes) ≡ read x n → GuardedCondition bytes (model_of bytes) r x

-- a test that can be joined to one of the mask's bits of the variable's word
pub record Joins (variable mask : ℕ) (t : Test) : Type 0 where
  pub apart : (mask ≡ 0) ⊎ ((variable ≡ t.variable) × (intersection mask t.mask ≡ 0))

-- ---- words that stay

-- the words before `end` are as they were, and no word is lost
pub record Kept (end : ℕ) (before after : List ℕ) : Type 0 where
  pub words : (i : ℕ) → i < end → get_or after i 0 ≡ get_or before i 0
  pub same : length after ≡ length before

-- words put from `at` on
pub record Put (before after : List ℕ) (at : ℕ) (words : List ℕ) : Type 0 where
  pub kept : Kept at before after
  pub there : (j : ℕ) → j < length words → get_or after (at + j) 0 ≡ get_or words j 0

-- the outline, with room for what is prepared
pub record Room (bytes words : List ℕ) : Type 0 where
  pub outlines : Outlines bytes words (model_of bytes)
  pub long : prepared_words ≤ length words

-- ---- the parts

-- of variable v, and of all of them
pub record MaskPut (before after : List ℕ) (v : ℕ) : Type 0 where
  pub kept : Kept (masks_from + 2 * v) before after
  pub masks : MasksAt after v

pub record MasksPut (before after : List ℕ) : Type 0 where
  pub kept : Kept masks_from before after
  pub masks : (v : ℕ) → v < most_variables → MasksAt after v

-- of table t: the parts of its word
pub record PlacePut (before after : List ℕ) (t : ℕ) : Type 0 where
  pub kept : Kept (places_from + 3 * t) before after
  pub first : get_or after (places_from + 3 * t) 0 ≡ at_of (get_or before (tables_from + t) 0) + 1
  pub stride : get_or after (places_from + 3 * t + 1) 0 ≡ 5 * columns_of (get_or before (tables_from + t) 0)
  pub size : get_or after (places_from + 3 * t + 2) 0 ≡ 5 * cells_of (get_or before (tables_from + t) 0)

module _ (bytes before after : List ℕ) where
  pub record PlacesPut : Type 0 where
    pub kept : Kept places_from before after
    pub places : (t : ℕ) → t < length (model_of bytes).tables → PlaceAt bytes after t (table_at (model_of bytes).tables t)

  pub record GuardsPut : Type 0 where
    pub kept : Kept guards_from before after
    pub guards : (t : ℕ) (x : Transition) → get_elem? (model_of bytes).transitions t ≡ some x → TransitionAt bytes after (model_of bytes) t x

  -- the condition at `at` as conjunct n
  pub record ConjunctPut (at n : ℕ) : Type 0 where
    pub kept : Kept (conjuncts_from + 4 * n) before after
    pub says : ConjunctSays bytes at (guard_in after (conjuncts_from + 4 * n))

  pub record ConjunctsPut : Type 0 where
    pub kept : Kept conjuncts_from before after
    pub conjuncts : Conjuncts bytes after (model_of bytes)

-- n conjuncts that are put, and the conditions that are left: together they decide as the constraints do
pub record Parted (bytes words : List ℕ) (n : ℕ) (left : List Condition) : Type 0 where
  pub parts : List Condition
  pub count : n ≡ length parts
  pub placed : (k : ℕ) (x : Condition) → get_elem? parts k ≡ some x → ConjunctAt bytes words (model_of bytes) k x
  pub same : (s : State) → all_hold range_end (model_of bytes).tables (model_of bytes).constraints s ≡ all_hold range_end (model_of bytes).tables (parts ++ left) s

-- the constraints before number k are taken apart into n conjuncts, and there is room for the others as they are
pub record Parting (bytes words : List ℕ) (k n : ℕ) : Type 0 where
  pub parted : Parted bytes words n (drop k (model_of bytes).constraints)
  pub fits : n + (length (model_of bytes).constraints - k) ≤ most_conjuncts

pub record PartedMore (bytes before after : List ℕ) (k n : ℕ) : Type 0 where
  pub kept : Kept conjuncts_from before after
  pub parting : Parting bytes after k n

-- ---- a model that was read

pub record Ready (bytes words : List ℕ) : Type 0 where
  pub room : Room bytes words
  pub prepared : Prepared bytes words (model_of bytes)
