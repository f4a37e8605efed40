-- The lower layer with every definition opened, for cases that the checker computes.
use Prim.Native.Nat.{ℕ}
use mathlib.Core.Bool.{cond}
use mathlib.Core.List.{List, [], ◌∷◌}
use lib.IntN.{ℤ}
use Rattle.model.specs.Numbers.{outside_profile, most_nesting, range_end}
use Rattle.model.specs.Values.{Value, value, trouble}
use Rattle.model.specs.Readers.{Read, read, refused}
use Rattle.model.specs.Syntax.{Number, Model}
use Rattle.model.specs.Commands.{model}
use Rattle.model.specs.Meaning.{number_value}
use Rattle.model.specs.Check.{check}
use Rattle.model.specs.Profile.{in_profile, loading_length}
use Rattle.laws.specs.Lists as of_lists
use Rattle.laws.specs.Hex as of_hex
use Rattle.model.specs.Values as of_values
use Rattle.model.specs.Values.{◌>>=◌ as ◌bind_values◌}
use Rattle.model.specs.Sets as of_sets
use Rattle.model.specs.Syntax as of_syntax
use Rattle.model.specs.Readers as of_readers
use Rattle.model.specs.Readers.{◌>>=◌ as ◌bind_readers◌}
use Rattle.model.specs.Readers.{◌>>◌ as ◌then_readers◌}
use Rattle.model.specs.Expressions as of_expressions
use Rattle.model.specs.Commands as of_commands
use Rattle.model.specs.Meaning as of_meaning
use Rattle.model.specs.Costs as of_costs
use Rattle.model.specs.declared.Cost.{Cost}
use Rattle.model.specs.Steps as of_steps
use Rattle.model.specs.Check as of_check
use Rattle.model.specs.Profile as of_profile

unfoldable pub value_read : Read Number → Value ℤ
value_read (read x n) = number_value range_end [] x []
value_read (refused t) = trouble t

unfoldable pub length_read : Read Model → Value ℕ
length_read (read m n) = cond (in_profile m) (value (loading_length m)) (trouble outside_profile)
length_read (refused t) = trouble t

pub data Asked : Type 0 where
  -- the value of the bytes of a number expression, without variables and tables
  number_of : List ℕ → Asked
  -- the plan check of a model and a plan
  check_of : (bytes plan : List ℕ) → Asked
  -- the length that the loading profile chooses for a model
  length_of : (bytes : List ℕ) → Asked

pub data Told : Type 0 where
  valued : Value ℤ → Told
  checked : Value Cost → Told
  chosen : Value ℕ → Told

unfoldable pub opened : Asked → Told
unfolding of_lists.any of_lists.filter of_lists.is_empty of_hex.hex of_hex.zeros ◌bind_values◌ of_values.in_range of_values.floor_by of_values.floor_quotient
    of_sets.is_member of_sets.union of_sets.intersection of_sets.difference of_sets.complement of_sets.is_subset of_sets.cons_if of_sets.members_from
    of_sets.members of_syntax.element_count of_syntax.set_count of_syntax.table_at of_readers.after of_readers.continue ◌bind_readers◌ ◌then_readers◌
    of_readers.give of_readers.refuse of_readers.require of_readers.peek of_readers.byte of_readers.word of_readers.signed of_readers.one of_readers.two
    of_readers.three of_readers.integer of_readers.command of_readers.optional of_readers.many of_readers.up_to of_expressions.among of_expressions.begins_expression
    of_expressions.form_of of_expressions.no_depth of_expressions.is_count of_expressions.objects_and_members of_expressions.object_number
    of_expressions.kind_number of_expressions.declared of_expressions.element_and_set of_expressions.two_sets of_expressions.variable of_expressions.table_number
    of_expressions.in_table of_expressions.element of_expressions.set of_expressions.number of_commands.rule_of of_commands.cost_rule of_commands.preference_of
    of_commands.set_variable of_commands.element_variable of_commands.number_variable of_commands.variable_of of_commands.variables of_commands.entries
    of_commands.sides of_commands.table_of of_commands.tables of_commands.conditions of_commands.effect_target of_commands.expression_for of_commands.effect_on
    of_commands.costs of_commands.transition of_commands.nothing_more of_commands.model of_meaning.number_at of_meaning.natural_at of_meaning.element_value of_meaning.set_value
    of_meaning.equal_z of_meaning.entry_at of_meaning.sum_over of_meaning.two of_meaning.fit of_meaning.expression_value of_meaning.all_hold of_meaning.some_holds
    of_meaning.number_value of_costs.at_most of_costs.join of_costs.join_moves of_costs.combine of_costs.costs_of of_steps.target of_steps.status_of of_steps.cost_of of_steps.not_below of_steps.no_worse of_steps.none_worse of_steps.raise
    of_steps.admits of_steps.status of_steps.effects of_steps.with_high of_steps.step_cost of_steps.attempt of_steps.constrained of_steps.move_of of_steps.move_by of_steps.move of_steps.greatest of_steps.bound_hours of_steps.bound
    of_steps.system_of of_steps.origin_of of_check.final of_check.after_move of_check.after_status of_check.follow of_check.after_constraints of_check.follow_from of_check.check_model
    of_check.check of_check.answer_number of_check.cost_given of_check.answer_cost of_check.answer_low of_profile.of_only of_profile.is_variable_zero of_profile.object_beside of_profile.required_object of_profile.removed_by
    of_profile.removed_object of_profile.same_object of_profile.loads of_profile.begins_with_set of_profile.asks_for_empty of_profile.ends_empty of_profile.in_profile of_profile.loading_length
    value_read length_read
opened (number_of bytes) = valued (value_read (of_expressions.number [] [] most_nesting bytes))
opened (check_of bytes plan) = checked (check bytes plan)
opened (length_of bytes) = chosen (length_read (model bytes))

unfoldable pub all_opened : List Asked → List Told
all_opened [] = []
all_opened (q ∷ qs) = opened q ∷ all_opened qs
