-- The promise of the words that are prepared: each says of the model what its own definition says.
use Rattle.std.specs.Prelude.{ℕ, ◌+◌, ◌*◌, ◌-◌, ◌^◌, ◌≤◌, ◌<◌, ◌≡◌, cond, List, length, get_or, eqb, leb, pos}
use Rattle.std.proofs.Math.Option.{some}
use Rattle.std.proofs.Math.ListN.{get_elem?}
use Rattle.model.specs.Numbers.{range_end, range_size, most_variables, most_objects}
use Rattle.model.specs.Syntax.{Condition, Transition, Table, Model, table_at}
use Rattle.model.specs.Meaning.{State, all_hold}
use Rattle.words.specs.Tables.{cell_at}
use Rattle.outline.specs.Outline.{kinds_from, preferences_from}
use Rattle.prepare.specs.Layout.{masks_from, places_from, guards_from, conjuncts_from, conjunct_count_at, most_conjuncts}
use Rattle.prepare.specs.Guards.{guard_in, GuardedTransition, GuardedCondition}

-- ---- variables

-- the bits of a word that are compared, by the byte of its variable's kind: a number's and an element's lowest, a set's all
unfoldable pub compared_mask : (kind : ℕ) → ℕ
compared_mask k = cond (eqb k 0) (range_size - 1) (cond (leb k most_objects) (most_objects - 1) (2 ^ 64 - 1))

-- the bits that are hashed: none of a variable with a preference
unfoldable pub hashed_mask : (kind preference : ℕ) → ℕ
hashed_mask k p = cond (eqb p 0) (compared_mask k) 0

pub record MasksAt (words : List ℕ) (v : ℕ) : Type 0 where
  pub compared : get_or words (masks_from + 2 * v) 0 ≡ compared_mask (get_or words (kinds_from + v) 0)
  pub hashed : get_or words (masks_from + 2 * v + 1) 0 ≡ hashed_mask (get_or words (kinds_from + v) 0) (get_or words (preferences_from + v) 0)

-- ---- tables

-- entry k is the i32 that begins 5 × k bytes behind the first
pub record PlaceAt (bytes words : List ℕ) (t : ℕ) (x : Table) : Type 0 where
  pub at : ℕ
  pub first : get_or words (places_from + 3 * t) 0 ≡ at + 1
  pub stride : get_or words (places_from + 3 * t + 1) 0 ≡ 5 * x.columns
  pub size : get_or words (places_from + 3 * t + 2) 0 ≡ 5 * length x.entries
  pub cells : (k : ℕ) → k < length x.entries → get_or x.entries k (pos 0) ≡ cell_at bytes at k

-- ---- transitions and constraints

module _ (bytes words : List ℕ) (m : Model) where
  abbrev pub TransitionAt : (t : ℕ) → Transition → Type 0
  TransitionAt t x = GuardedTransition bytes m (guard_in words (guards_from + 4 * t)) x

  abbrev pub ConjunctAt : (k : ℕ) → Condition → Type 0
  ConjunctAt k x = GuardedCondition bytes m (guard_in words (conjuncts_from + 4 * k)) x

  -- the constraints, taken apart over 58: in the same order, to the first that fails, they decide alike
  pub record Conjuncts : Type 0 where
    pub parts : List Condition
    pub count : get_or words conjunct_count_at 0 ≡ length parts
    pub few : length parts ≤ most_conjuncts
    pub placed : (k : ℕ) (x : Condition) → get_elem? parts k ≡ some x → ConjunctAt k x
    pub same : (s : State) → all_hold range_end m.tables m.constraints s ≡ all_hold range_end m.tables parts s

  pub record Prepared : Type 0 where
    pub masks : (v : ℕ) → v < most_variables → MasksAt words v
    pub places : (t : ℕ) → t < length m.tables → PlaceAt bytes words t (table_at m.tables t)
    pub guards : (t : ℕ) (x : Transition) → get_elem? m.transitions t ≡ some x → TransitionAt t x
    pub conjuncts : Conjuncts
