-- A run, a plan check and a number's value with every definition opened, for cases that the checker computes.
use Prim.Native.Nat.{ℕ}
use mathlib.Core.List.{List, [], ◌∷◌}
use mathlib.Core.Bool.{Bool}
use lib.ListN.{length}
use lib.IntN.{ℤ}
use Rattle.model.specs.declared.Cost.{Cost}
use Rattle.model.specs.Numbers.{most_nesting, most_model_bytes}
use Rattle.model.specs.Values.{Value}
use Rattle.model.specs.Meaning.{number_value}
use Rattle.model.specs.Check.{check, answer_number, answer_cost, answer_low}
use Rattle.model.proofs.Opened.{value_read}
use Rattle.search.specs.Answer.{Answer, is_refusal, buffer_after}
use Rattle.search.specs.Run.{up_to, listed, plain, loading, run, fields}
use Rattle.laws.specs.Lists as of_lists
use Rattle.laws.specs.Hex as of_hex
use Rattle.model.specs.Values as of_values
use Rattle.model.specs.Values.{◌>>=◌ as ◌bind_values◌}
use Rattle.model.specs.Sets as of_sets
use Rattle.model.specs.Syntax as of_syntax
use Rattle.model.specs.Readers as of_readers
use Rattle.model.specs.Readers.{◌>>=◌ as ◌bind_readers◌}
use Rattle.model.specs.Readers.{◌>>◌ as ◌then_readers◌}
use Rattle.model.specs.Expressions as of_expressions
use Rattle.model.specs.Commands as of_commands
use Rattle.model.specs.Meaning as of_meaning
use Rattle.model.specs.Costs as of_costs
use Rattle.model.specs.Steps as of_steps
use Rattle.model.specs.Check as of_check
use Rattle.model.specs.Profile as of_profile
use Rattle.search.specs.Answer as of_answer
use Rattle.search.specs.Search as of_search
use Rattle.search.specs.Run as of_run

pub data Asked : Type 0 where
  -- a run: model, W, L, budget, plan buffer, working words
  run_of : (bytes : List ℕ) (widest limit budget : ℕ) (buffer : List ℕ) (words : ℕ) → Asked
  -- a run in the loading profile: the same without L
  load_of : (bytes : List ℕ) (widest budget : ℕ) (buffer : List ℕ) (words : ℕ) → Asked
  -- both with a list of widths in the place of W
  listed_of : (bytes widths : List ℕ) (limit budget : ℕ) (buffer : List ℕ) (words : ℕ) → Asked
  load_listed_of : (bytes widths : List ℕ) (budget : ℕ) (buffer : List ℕ) (words : ℕ) → Asked
  -- the plan check of a model and a plan
  check_of : (bytes plan : List ℕ) → Asked
  -- the value of the bytes of a number expression, without variables and tables
  number_of : List ℕ → Asked

pub data Told : Type 0 where
  -- refused or not, the fields of the line, the plan buffer afterwards
  answer : Bool → List ℕ → List ℕ → Told
  -- answer number, cost and low cost
  checked : ℕ → ℕ → ℕ → Told
  valued : Value ℤ → Told

unfoldable pub told : Answer Cost → List ℕ → Told
told a buffer = answer (is_refusal a.outcome) (fields a) (buffer_after a buffer)

unfoldable pub told_check : Value Cost → Told
told_check v = checked (answer_number v) (answer_cost v) (answer_low v)

unfoldable pub opened : Asked → Told
unfolding of_lists.any of_lists.filter of_lists.is_empty of_hex.hex of_hex.zeros ◌bind_values◌ of_values.in_range of_values.floor_by of_values.floor_quotient
    of_sets.is_member of_sets.union of_sets.intersection of_sets.difference of_sets.complement of_sets.is_subset of_sets.cons_if of_sets.members_from
    of_sets.members of_syntax.element_count of_syntax.set_count of_syntax.table_at of_readers.after of_readers.continue ◌bind_readers◌ ◌then_readers◌
    of_readers.give of_readers.refuse of_readers.require of_readers.peek of_readers.byte of_readers.word of_readers.signed of_readers.one of_readers.two
    of_readers.three of_readers.integer of_readers.command of_readers.optional of_readers.many of_readers.up_to of_expressions.among of_expressions.begins_expression
    of_expressions.form_of of_expressions.no_depth of_expressions.is_count of_expressions.objects_and_members of_expressions.object_number
    of_expressions.kind_number of_expressions.declared of_expressions.element_and_set of_expressions.two_sets of_expressions.variable of_expressions.table_number
    of_expressions.in_table of_expressions.element of_expressions.set of_expressions.number of_commands.rule_of of_commands.cost_rule of_commands.preference_of
    of_commands.set_variable of_commands.element_variable of_commands.number_variable of_commands.variable_of of_commands.variables of_commands.entries
    of_commands.sides of_commands.table_of of_commands.tables of_commands.conditions of_commands.effect_target of_commands.expression_for of_commands.effect_on
    of_commands.costs of_commands.transition of_commands.nothing_more of_commands.model of_meaning.number_at of_meaning.natural_at of_meaning.element_value of_meaning.set_value
    of_meaning.equal_z of_meaning.entry_at of_meaning.sum_over of_meaning.two of_meaning.fit of_meaning.expression_value of_meaning.all_hold of_meaning.some_holds
    of_meaning.number_value of_costs.at_most of_costs.join of_costs.join_moves of_costs.combine of_costs.costs_of of_steps.target of_steps.status_of of_steps.cost_of of_steps.not_below of_steps.no_worse of_steps.none_worse of_steps.raise
    of_steps.admits of_steps.status of_steps.effects of_steps.with_high of_steps.step_cost of_steps.attempt of_steps.constrained of_steps.move_of of_steps.move_by of_steps.move of_steps.greatest of_steps.bound_hours of_steps.bound
    of_steps.system_of of_steps.origin_of of_check.final of_check.after_move of_check.after_status of_check.follow of_check.after_constraints of_check.follow_from of_check.check_model
    of_check.check of_check.answer_number of_check.cost_given of_check.answer_cost of_check.answer_low of_profile.of_only of_profile.is_variable_zero of_profile.object_beside of_profile.required_object of_profile.removed_by
    of_profile.removed_object of_profile.same_object of_profile.loads of_profile.begins_with_set of_profile.asks_for_empty of_profile.ends_empty of_profile.in_profile of_profile.loading_length of_answer.verdict_number of_answer.outcome_number of_answer.is_refusal of_answer.buffer_after
    of_answer.handed_back of_search.and_then of_search.less of_search.below_best of_search.before of_search.place of_search.beats of_search.cut of_search.insert
    of_search.offer of_search.refuse of_search.route_to of_search.route_over of_search.child of_search.bounded of_search.tried of_search.expand of_search.counted
    of_search.at_limit of_search.advance of_search.improved_by of_search.new_best of_search.reached of_search.visit of_search.layer of_search.least_f
    of_search.raised_low of_search.layer_end of_search.next_layer of_search.unless_ended of_search.layers of_search.root of_search.fresh_round of_search.round
    of_search.exhausted of_search.end_with of_search.judge of_search.after_round of_search.has_plan of_search.best_cost of_search.best_steps of_search.bound_at
    of_search.tally_of of_search.answer_of of_search.answer of_search.next_width of_search.later_widths of_search.unless_over of_search.rounds of_search.untouched of_search.refused_at_start of_search.begin of_search.enter
    of_search.search_within of_search.search of_run.wider_up_to of_run.rising_from of_run.rising of_run.settings_fit of_run.words_needed of_run.lent_fits of_run.refused_by_input of_run.search_model of_run.run_read of_run.run_set of_run.run
    of_run.fields value_read told told_check
opened (run_of bytes widest limit budget buffer words) = told (run most_model_bytes bytes (record { beam = up_to widest; form = plain limit; budget = budget }) (record { plan_bytes = length buffer; words = words })) buffer
opened (load_of bytes widest budget buffer words) = told (run most_model_bytes bytes (record { beam = up_to widest; form = loading; budget = budget }) (record { plan_bytes = length buffer; words = words })) buffer
opened (listed_of bytes widths limit budget buffer words) = told (run most_model_bytes bytes (record { beam = listed widths; form = plain limit; budget = budget }) (record { plan_bytes = length buffer; words = words })) buffer
opened (load_listed_of bytes widths budget buffer words) = told (run most_model_bytes bytes (record { beam = listed widths; form = loading; budget = budget }) (record { plan_bytes = length buffer; words = words })) buffer
opened (check_of bytes plan) = told_check (check bytes plan)
opened (number_of bytes) = valued (value_read (of_expressions.number [] [] most_nesting bytes))

unfoldable pub all_opened : List Asked → List Told
all_opened [] = []
all_opened (q ∷ qs) = opened q ∷ all_opened qs
