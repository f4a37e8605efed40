-- Every reader of the format is fair: expressions, commands, the whole model.
-- So a refused model is refused by 4 to 9, and a model that is read uses all of its bytes.
use Prim.Native.Nat.{ℕ, zero, suc, ◌*◌, ◌≤◌}
use mathlib.Core.Path.{◌≡◌, refl, subst}
use mathlib.Core.Bool.{Bool, true, false, cond}
use mathlib.Core.List.{List, [], ◌∷◌}
use mathlib.Core.Option.{Option}
use mathlib.Core.Option as O
use native.Mathlib.Omega.{arith}
use lib.ListN.{length, get_elem?}
use lib.Dec.{eqb}
use Rattle.model.specs.Numbers.{not_due, mismatch, off_limits, too_deep, bytes_after_end, most_variables, most_tables, most_transitions, most_base_cases, most_constraints, most_bounds, most_conditions, most_nesting}
use Rattle.model.specs.Readers.{read, refused, Reader, after, continue, ◌>>=◌, ◌>>◌, give, byte}
use Rattle.model.specs.Syntax.{Element, Set, Kind, a_set, an_element, a_number, Variable, Table, Effect, Model}
use Rattle.model.specs.Expressions.{Form, ◌⇒◌, begins_expression, form_of, no_depth, objects_and_members, object_number, declared, element_and_set, two_sets, variable, table_number, in_table, element, set, number, condition}
use Rattle.model.specs.Commands.{cost_rule, set_variable, element_variable, number_variable, variable_of, variables, entries, sides, table_of, tables, conditions, effect_target, expression_for, effect_on, costs, transition, nothing_more, model}
use Rattle.model.proofs.Fair.{ReadingRefusal, ReadBy, reads, refuses, Fair, Full, cond_fair, give_fair, refuse_fair, then_fair, next_fair, require_fair, require_give_fair, byte_fair, word_fair, one_fair, two_fair, three_fair, integer_fair, command_fair, optional_fair, many_fair, up_to_fair, then_full, next_full, used_by, refused_by}

-- ---- expressions

infixr 5 ◌&◌
data FairForms {A : Type 0} : List (Form A) → Type 0 where
  no_more : FairForms []
  ◌&◌ : {b : ℕ} {r : Reader A} {forms : List (Form A)} → Fair r → FairForms forms → FairForms ((b ⇒ r) ∷ forms)

no_form_number : (b : Bool) → ReadingRefusal (cond b mismatch not_due)
no_form_number true = omega arith
no_form_number false = omega arith

form_of_fair : {A : Type 0} {forms : List (Form A)} → FairForms forms → (b : ℕ) → Fair (form_of forms b)
unfolding form_of
form_of_fair no_more b = refuse_fair _ (no_form_number (begins_expression b))
form_of_fair (◌&◌ {b = a} f fs) b = cond_fair (eqb b a) f (form_of_fair fs b)

forms_fair : {A : Type 0} {forms : List (Form A)} → FairForms forms → Fair (byte >>= form_of forms)
forms_fair fs = then_fair byte_fair (form_of_fair fs)

no_depth_fair : (A : Type 0) → Fair (no_depth {A = A})
unfolding no_depth
no_depth_fair A = next_fair byte_fair (refuse_fair too_deep (omega arith))

pub objects_and_members_fair : Fair objects_and_members
unfolding objects_and_members
objects_and_members_fair = then_fair (word_fair 1) (λ n. then_fair (word_fair 8) (λ s. require_give_fair _ off_limits _ (omega arith)))

pub object_number_fair : Fair object_number
unfolding object_number
object_number_fair = then_fair (word_fair 1) (λ k. require_give_fair _ off_limits _ (omega arith))

declared_fair : (o : Option Variable) → Fair (declared o)
unfolding declared
declared_fair O.none = refuse_fair mismatch (omega arith)
declared_fair (O.some x) = give_fair x

element_and_set_fair : {A : Type 0} {re : Reader Element} {rs : Reader Set} (make : Element → Set → A) → Fair re → Fair rs → Fair (element_and_set re rs make)
unfolding element_and_set
element_and_set_fair make f g = then_fair f (λ e. then_fair g (λ s. require_give_fair _ mismatch _ (omega arith)))

two_sets_fair : {A : Type 0} {rs : Reader Set} (make : Set → Set → A) → Fair rs → Fair (two_sets rs make)
unfolding two_sets
two_sets_fair make f = then_fair f (λ s. then_fair f (λ t. require_give_fair _ mismatch _ (omega arith)))

module _ (vs : List Variable) (ts : List Table) where
  variable_fair : (kind : Kind) → Fair (variable vs ts kind)
  unfolding variable
  variable_fair kind = then_fair (word_fair 1) (λ v. then_fair (declared_fair (get_elem? vs v)) (λ x. require_give_fair _ mismatch _ (omega arith)))

  table_number_fair : Fair (table_number vs ts)
  unfolding table_number
  table_number_fair = then_fair (word_fair 1) (λ t. require_give_fair _ mismatch _ (omega arith))

  in_table_fair : {A B : Type 0} {ra : Reader A} (count_of : A → ℕ) {re : Reader Element} (make : ℕ → A → Element → B) → Fair ra → Fair re → Fair (in_table vs ts ra count_of re make)
  unfolding in_table
  in_table_fair count_of make f g = then_fair table_number_fair (λ t. then_fair f (λ a. then_fair g (λ e. require_give_fair _ mismatch _ (omega arith))))

  pub element_fair : (d : ℕ) → Fair (element vs ts d)
  unfolding element
  element_fair zero = no_depth_fair _
  element_fair (suc d) = forms_fair (one_fair _ object_number_fair & one_fair _ (variable_fair an_element) & no_more)

  pub set_fair : (d : ℕ) → Fair (set vs ts d)
  unfolding set
  set_fair zero = no_depth_fair _
  set_fair (suc d) =
      let e = element_fair d in
      let s = set_fair d in
      forms_fair (one_fair _ objects_and_members_fair & one_fair _ (variable_fair a_set) & element_and_set_fair _ e s & element_and_set_fair _ e s & two_sets_fair _ s & two_sets_fair _ s & two_sets_fair _ s & one_fair _ s & no_more)

  -- one depth more, from the depth below it
  deeper_number_fair : (d : ℕ) → Fair (number vs ts d) → Fair (condition vs ts d) → Fair (number vs ts (suc d))
  unfolding number
  deeper_number_fair d n c =
      let e = element_fair d in
      let s = set_fair d in
      forms_fair (one_fair _ integer_fair & one_fair _ (variable_fair a_number) & two_fair _ n n & two_fair _ n n & two_fair _ n n & two_fair _ n n & two_fair _ n n & two_fair _ n n & in_table_fair _ _ e e & one_fair _ s & in_table_fair _ _ s e & three_fair _ c n n & no_more)

  deeper_condition_fair : (d : ℕ) → Fair (number vs ts d) → Fair (condition vs ts d) → Fair (condition vs ts (suc d))
  unfolding number
  deeper_condition_fair d n c =
      let e = element_fair d in
      let s = set_fair d in
      forms_fair (two_fair _ n n & two_fair _ n n & two_fair _ n n & two_fair _ e e & element_and_set_fair _ e s & one_fair _ s & two_sets_fair _ s & one_fair _ c & two_fair _ c c & two_fair _ c c & no_more)

  mutual
    unfolding number

    pub number_fair : (d : ℕ) → Fair (number vs ts d)
    number_fair zero = no_depth_fair _
    number_fair (suc d) = deeper_number_fair d (number_fair d) (condition_fair d)

    pub condition_fair : (d : ℕ) → Fair (condition vs ts d)
    condition_fair zero = no_depth_fair _
    condition_fair (suc d) = deeper_condition_fair d (number_fair d) (condition_fair d)

-- ---- commands

pub cost_rule_fair : Fair cost_rule
unfolding cost_rule
cost_rule_fair = next_fair (command_fair 0x01) (then_fair (word_fair 1) (λ r. require_give_fair _ off_limits _ (omega arith)))

set_variable_fair : Fair set_variable
unfolding set_variable
set_variable_fair = one_fair _ objects_and_members_fair

element_variable_fair : Fair element_variable
unfolding element_variable
element_variable_fair = then_fair (word_fair 1) (λ n. then_fair (word_fair 1) (λ p. then_fair (word_fair 1) (λ s. require_give_fair _ off_limits _ (omega arith))))

number_variable_fair : Fair number_variable
unfolding number_variable
number_variable_fair = then_fair (word_fair 1) (λ p. then_fair integer_fair (λ z. require_give_fair _ off_limits _ (omega arith)))

variable_of_fair : (b : ℕ) → Fair (variable_of b)
unfolding variable_of
variable_of_fair b = cond_fair (eqb b 0x02) set_variable_fair (cond_fair (eqb b 0x03) element_variable_fair number_variable_fair)

pub variables_fair : Fair variables
unfolding variables
variables_fair = many_fair _ (λ b done. variable_of_fair b) give_fair most_variables []

entries_fair : (n : ℕ) → Fair (entries n)
unfolding entries
entries_fair zero = give_fair []
entries_fair (suc n) = next_fair (command_fair 0x06) (then_fair integer_fair (λ z. then_fair (entries_fair n) (λ l. give_fair _)))

sides_fair : Fair sides
unfolding sides
sides_fair = then_fair (word_fair 1) (λ r. then_fair (word_fair 1) (λ c. require_give_fair _ off_limits _ (omega arith)))

table_of_fair : (p : ℕ × ℕ) → Fair (table_of p)
unfolding table_of
table_of_fair p = one_fair _ (entries_fair (p.0 * p.1))

pub tables_fair : Fair tables
unfolding tables
tables_fair = many_fair _ (λ b done. sides_fair) table_of_fair most_tables []

module _ (vs : List Variable) (ts : List Table) where
  pub conditions_fair : Fair (conditions vs ts)
  unfolding conditions
  conditions_fair = up_to_fair most_conditions 0x08 (condition_fair vs ts most_nesting)

  effect_target_fair : (b : ℕ) (done : List Effect) → Fair (effect_target vs ts b done)
  unfolding effect_target
  effect_target_fair b done = then_fair (word_fair 1) (λ v. next_fair (require_fair _ off_limits (omega arith)) (then_fair (declared_fair (get_elem? vs v)) (λ x. give_fair _)))

  expression_for_fair : (kind : Kind) (n : ℕ) → Fair (expression_for vs ts kind n)
  unfolding expression_for
  expression_for_fair a_set n = then_fair (set_fair vs ts most_nesting) (λ s. require_give_fair _ mismatch _ (omega arith))
  expression_for_fair an_element n = then_fair (element_fair vs ts most_nesting) (λ e. require_give_fair _ mismatch _ (omega arith))
  expression_for_fair a_number n = one_fair _ (number_fair vs ts most_nesting)

  effect_on_fair : (p : ℕ × Variable) → Fair (effect_on vs ts p)
  unfolding effect_on
  effect_on_fair p = one_fair _ (expression_for_fair p.1.kind p.1.objects)

  pub costs_fair : Fair (costs vs ts)
  unfolding costs
  costs_fair = next_fair (command_fair 0x09) (then_fair (number_fair vs ts most_nesting) (λ c. then_fair (optional_fair 0x10 (number_fair vs ts most_nesting)) (λ h. give_fair _)))

  pub transition_fair : Fair (transition vs ts)
  unfolding transition
  transition_fair = then_fair conditions_fair (λ cs. then_fair costs_fair (λ k. then_fair (many_fair _ effect_target_fair effect_on_fair most_variables []) (λ es. give_fair _)))

-- ---- the whole model

nothing_more_full : {A : Type 0} (a : A) → Full (nothing_more >> give a)
unfolding ◌>>◌ continue after nothing_more give
nothing_more_full a [] = reads {n = 0} refl
nothing_more_full a (b ∷ bytes) = refuses {t = bytes_after_end} (omega arith)

pub model_full : Full model
unfolding model
model_full = then_full cost_rule_fair (λ r. then_full variables_fair (λ vs. then_full tables_fair (λ ts.
    then_full (up_to_fair most_transitions 0x07 (transition_fair vs ts)) (λ transitions. then_full (up_to_fair most_base_cases 0x0b (conditions_fair vs ts)) (λ base_cases.
    then_full (up_to_fair most_constraints 0x0c (condition_fair vs ts most_nesting)) (λ constraints. then_full (up_to_fair most_bounds 0x0d (number_fair vs ts most_nesting)) (λ bounds.
    next_full (command_fair 0x0e) (nothing_more_full _))))))))

pub model_refusal : (bytes : List ℕ) {t : ℕ} → model bytes ≡ refused t → (4 ≤ t) × (t ≤ 9)
model_refusal bytes e = refused_by (subst (ReadBy ◌≡◌ bytes) e (model_full bytes))

-- a model that is read uses all of its bytes
pub model_uses_all : (bytes : List ℕ) {m : Model} {n : ℕ} → model bytes ≡ read m n → n ≡ length bytes
model_uses_all bytes e = used_by (subst (ReadBy ◌≡◌ bytes) e (model_full bytes))
