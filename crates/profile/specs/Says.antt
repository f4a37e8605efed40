-- What is promised of the parts of a model where they stand in its bytes: what the definition of the loading profile says of them.
use Rattle.std.specs.Prelude.{ℕ, ◌+◌, ◌≡◌, Bool, true, false, List, drop, eqb}
use Rattle.laws.specs.Lists.{any}
use Rattle.model.specs.Readers.{read}
use Rattle.model.specs.Syntax.{Condition, Effect, StepCosts, Transition, Variable, Table}
use Rattle.model.specs.Commands.{conditions, costs, transition}
use Rattle.model.specs.Profile.{of_only, required_object, removed_object, loads, begins_with_set, asks_for_empty}
use Rattle.outline.specs.Outline.{model_of, Outlines}
use Rattle.steps.specs.Says.{effect_list, TransitionRead}
use Rattle.profile.specs.Forms.{told}

module _ (bytes : List ℕ) where
  abbrev variables_in : List Variable
  variables_in = (model_of bytes).variables

  abbrev tables_in : List Table
  tables_in = (model_of bytes).tables

  -- variable 0 is a set
  abbrev pub BeginsWithSet : Type 0
  BeginsWithSet = begins_with_set variables_in ≡ true

  -- the words outline the model of the bytes, and its variable 0 is a set
  pub record SetOutlined (words : List ℕ) : Type 0 where
    pub outlines : Outlines bytes words (model_of bytes)
    pub begins : BeginsWithSet

  module _ (at : ℕ) where
    -- a transition is read there, and variable 0 is a set
    pub record Loadable : Type 0 where
      pub stands : TransitionRead bytes at
      pub begins : BeginsWithSet

    -- the place behind the conditions that are read there
    abbrev pub BehindConditions : ℕ → Type 0
    BehindConditions r = (l : List Condition) (n : ℕ) → conditions variables_in tables_in (drop at bytes) ≡ read l n → r ≡ at + n

    -- the place behind the costs that are read there
    abbrev pub BehindCosts : ℕ → Type 0
    BehindCosts r = (k : StepCosts) (n : ℕ) → costs variables_in tables_in (drop at bytes) ≡ read k n → r ≡ at + n

    -- whether one of the conditions that are read there requires the object
    abbrev pub RequiresSays : (object : ℕ) → Bool → Type 0
    RequiresSays k r = (l : List Condition) (n : ℕ) → conditions variables_in tables_in (drop at bytes) ≡ read l n → r ≡ any (λ c. eqb (told (required_object c)) k) l

    -- the object that the effects that are read there remove
    abbrev pub RemovedSays : ℕ → Type 0
    RemovedSays r = (l : List Effect) (n : ℕ) → effect_list variables_in tables_in (drop at bytes) ≡ read l n → r ≡ told (removed_object l)

    abbrev pub LoadsSays : Bool → Type 0
    LoadsSays r = (t : Transition) (n : ℕ) → transition variables_in tables_in (drop at bytes) ≡ read t n → r ≡ loads t

    -- whether the only condition that is read there is that variable 0 is empty
    abbrev pub OnlyEmptySays : Bool → Type 0
    OnlyEmptySays r = (l : List Condition) (n : ℕ) → conditions variables_in tables_in (drop at bytes) ≡ read l n → r ≡ of_only asks_for_empty false l
