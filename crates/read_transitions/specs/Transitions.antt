-- What the readers of expressions, conditions and effects answer at positions of the model's bytes.
use Rattle.std.specs.Prelude.{ℕ, ◌+◌, ◌-◌, ◌<◌, ◌≡◌, Bool, true, false, List, [], ◌∷◌, ◌++◌, reverse, get_or, leb, eqb, Result, Ok, Err}
use Rattle.laws.specs.Lists.{any}
use Rattle.model.specs.Numbers.{most_variables, most_nesting}
use Rattle.model.specs.Readers.{Read, read, refused, Reader, many}
use Rattle.model.specs.Syntax.{element_count, set_count, Kind, a_set, an_element, a_number, Variable, Table, Effect}
use Rattle.model.specs.Expressions.{element, set, number, condition}
use Rattle.model.specs.Commands.{effect_target, effect_on}
use Rattle.read_forms.specs.Refusals.{number_of, named}
use Rattle.read_forms.specs.Parts.{Answer, no_count}
use Rattle.read_forms.specs.Forms.{and_then}
use Rattle.read_forms.specs.declared.Due.{Due}
use Rattle.read_forms.specs.declared.Due.TheVariants as D
use Rattle.read_forms.specs.declared.refusals.Refusal.{Refusal}
use Rattle.read_transitions.specs.declared.Placed.{Placed}
use Rattle.read_transitions.specs.declared.Change.{Change}
use Rattle.read_declarations.specs.Positions.{read_at}

-- ---- expressions

-- an expression that was read, told by the position behind it and its count
abbrev pub placed_of : {A : Type 0} → (A → ℕ) → Read A → Result Placed Refusal
placed_of count (read a n) = Ok (record { end = n; count = count a })
placed_of count (refused t) = Err (named t)

-- what was read from a position on, with the position behind it in place of its bytes
abbrev pub moved_by : (at : ℕ) → Answer → Result Placed Refusal
moved_by at r = and_then r (λ p. Ok (record { end = at + p.used; count = p.count }))

-- the position behind an expression
abbrev pub end_of : Result Placed Refusal → Result ℕ Refusal
end_of r = and_then r (λ p. Ok p.end)

-- "an effect's element count may not exceed its variable's, a set's must equal it"
abbrev pub count_fits : Kind → (n count : ℕ) → Bool
count_fits a_set n c = eqb c n
count_fits an_element n c = leb c n
count_fits a_number n c = true

module _ (vs : List Variable) (ts : List Table) where
  -- the outermost expression that is due at a position
  unfoldable pub part_from : Due → (at : ℕ) (bytes : List ℕ) → Result Placed Refusal
  part_from D.Number at bytes = placed_of no_count (read_at (number vs ts most_nesting) at bytes)
  part_from D.Condition at bytes = placed_of no_count (read_at (condition vs ts most_nesting) at bytes)
  part_from D.Element at bytes = placed_of element_count (read_at (element vs ts most_nesting) at bytes)
  part_from D.Set at bytes = placed_of set_count (read_at (set vs ts most_nesting) at bytes)

  -- ---- effects

  -- the effects behind those that were read, with room for so many more
  abbrev pub effects_behind : (room : ℕ) → List Effect → Reader (List Effect)
  effects_behind room items = many (λ b. eqb b 0x0a) (effect_target vs ts) (effect_on vs ts) room (reverse items)

  -- the marked variables are those that the effects set
  abbrev pub Marked : (marks : List Bool) → List Effect → Type 0
  Marked marks items = (v : ℕ) → get_or marks v false ≡ any (λ f. eqb f.target v) (reverse items)

  -- one effect more, on variable v, is read behind n of them
  pub record Changed (bytes : List ℕ) (at n : ℕ) (items : List Effect) (v end : ℕ) : Type 0 where
    pub effect : Effect
    pub target : effect.target ≡ v
    pub declared : v < most_variables
    pub room : n < most_variables
    pub going_on : read_at (effects_behind (most_variables - n) items) at bytes ≡ read_at (effects_behind (most_variables - (n + 1)) (items ++ (effect ∷ []))) end bytes

  abbrev pub ChangedAs : (bytes : List ℕ) (at n : ℕ) (marks : List Bool) → Result Change Refusal → Type 0
  ChangedAs bytes at n marks (Ok c) = (items : List Effect) → Marked marks items → Changed bytes at n items c.variable c.end
  ChangedAs bytes at n marks (Err t) = (items : List Effect) → Marked marks items → read_at (effects_behind (most_variables - n) items) at bytes ≡ refused (number_of t)
