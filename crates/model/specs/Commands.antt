-- Reading a whole model: its commands in their order, within their sizes.
-- docs/FORMAT.md, "Commands", "Sizes" and "Refusals by the input".
use Rattle.std.specs.Prelude.{ℕ, zero, suc, ◌*◌, cond, not, ◌&&◌, List, [], ◌∷◌, leb, ltb, eqb, ℤ, pos}
use Rattle.std.proofs.Math.ListN.{get_elem?}
use Rattle.laws.specs.Lists.{any}
use Rattle.model.specs.Numbers.{mismatch, off_limits, bytes_after_end, most_variables, most_tables, most_transitions, most_base_cases, most_constraints, most_bounds, most_conditions, most_nesting}
use Rattle.model.specs.Readers.{read, refused, Reader, ◌>>=◌, ◌>>◌, give, require, word, integer, one, command, optional, many, up_to}
use Rattle.model.specs.Syntax.{Condition, element_count, set_count, Expression, of_set, of_element, of_number, Kind, a_set, an_element, a_number, Preference, none, less, more, Rule, sum, largest, Variable, Table, Effect, StepCosts, Transition, Model}
use Rattle.model.specs.Expressions.{among, is_count, objects_and_members, declared, element, set, number, condition}

-- ---- 01 cost rule

unfoldable pub rule_of : ℕ → Rule
rule_of zero = sum
rule_of (suc n) = largest

unfoldable pub cost_rule : Reader Rule
cost_rule = do
  command 0x01
  r ← word 1
  require (ltb r 2) off_limits
  give (rule_of r)

-- ---- 02, 03, 04 variables

unfoldable pub preference_of : ℕ → Preference
preference_of zero = none
preference_of (suc zero) = less
preference_of (suc (suc n)) = more

unfoldable pub set_variable : Reader Variable
set_variable = one objects_and_members (λ p. record { kind = a_set; objects = p.0; preference = none; start = pos p.1 })

unfoldable pub element_variable : Reader Variable
element_variable = do
  n ← word 1
  p ← word 1
  s ← word 1
  require (is_count n && ltb p 3 && ltb s n) off_limits
  give (record { kind = an_element; objects = n; preference = preference_of p; start = pos s })

unfoldable pub number_variable : Reader Variable
number_variable = do
  p ← word 1
  z ← integer
  require (ltb p 3) off_limits
  give (record { kind = a_number; objects = 0; preference = preference_of p; start = z })

unfoldable pub variable_of : (b : ℕ) → Reader Variable
variable_of b = cond (eqb b 0x02) set_variable (cond (eqb b 0x03) element_variable number_variable)

unfoldable pub variables : Reader (List Variable)
variables = many (among 0x02 3) (λ b done. variable_of b) give most_variables []

-- ---- 05 table, "then exactly rows × columns commands 06, i32 each, row by row"

unfoldable pub entries : ℕ → Reader (List ℤ)
entries zero = give []
entries (suc n) = do
  command 0x06
  z ← integer
  l ← entries n
  give (z ∷ l)

unfoldable pub sides : Reader (ℕ × ℕ)
sides = do
  r ← word 1
  c ← word 1
  require (is_count r && is_count c) off_limits
  give (r, c)

unfoldable pub table_of : ℕ × ℕ → Reader Table
table_of p = one (entries (p.0 * p.1)) (λ l. record { rows = p.0; columns = p.1; entries = l })

unfoldable pub tables : Reader (List Table)
tables = many (λ b. eqb b 0x05) (λ b done. sides) table_of most_tables []

-- ---- 07 transition, 08 condition, 09 cost, 10 high cost, 0A effect

module _ (vs : List Variable) (ts : List Table) where
  unfoldable pub conditions : Reader (List Condition)
  conditions = up_to most_conditions 0x08 (condition vs ts most_nesting)

  -- "One effect per variable and transition"
  unfoldable pub effect_target : ℕ → List Effect → Reader (ℕ × Variable)
  effect_target b done = do
    v ← word 1
    require (not (any (λ f. eqb f.target v) done)) off_limits
    x ← declared (get_elem? vs v)
    give (v, x)

  -- "an effect's element count may not exceed its variable's, a set's must equal it"
  unfoldable pub expression_for : Kind → ℕ → Reader Expression
  expression_for a_set n = do
    s ← set vs ts most_nesting
    require (eqb (set_count s) n) mismatch
    give (of_set s)
  expression_for an_element n = do
    e ← element vs ts most_nesting
    require (leb (element_count e) n) mismatch
    give (of_element e)
  expression_for a_number n = one (number vs ts most_nesting) of_number

  unfoldable pub effect_on : ℕ × Variable → Reader Effect
  effect_on p = one (expression_for p.1.kind p.1.objects) (λ x. record { target = p.0; result = x })

  -- "one 09 (number, the cost)"; "Directly after command 09 a transition may carry command 10"
  unfoldable pub costs : Reader StepCosts
  costs = do
    command 0x09
    c ← number vs ts most_nesting
    h ← optional 0x10 (number vs ts most_nesting)
    give (record { cost = c; high = h })

  -- effects have no size of their own: one per variable is at most as many as there are variables
  unfoldable pub transition : Reader Transition
  transition = do
    cs ← conditions
    k ← costs
    es ← many (λ b. eqb b 0x0a) effect_target effect_on most_variables []
    give (record { conditions = cs; costs = k; effects = es })

-- ---- 0B base case, 0C state constraint, 0D dual bound, 0E end

unfoldable pub nothing_more : Reader (Unit {0})
nothing_more [] = read tt 0
nothing_more (b ∷ bytes) = refused bytes_after_end

unfoldable pub model : Reader Model
model = do
  r ← cost_rule
  vs ← variables
  ts ← tables
  transitions ← up_to most_transitions 0x07 (transition vs ts)
  base_cases ← up_to most_base_cases 0x0b (conditions vs ts)
  constraints ← up_to most_constraints 0x0c (condition vs ts most_nesting)
  bounds ← up_to most_bounds 0x0d (number vs ts most_nesting)
  command 0x0e
  nothing_more
  give (record { rule = r; variables = vs; tables = ts; transitions = transitions; base_cases = base_cases; constraints = constraints; bounds = bounds })
