-- Conditions one behind the other, each passed over by its first bytes; and the costs behind them.
use Prim.Native.Nat.{ℕ, ◌+◌, ◌-◌, ◌≤◌}
use mathlib.Core.Path.{◌≡◌, refl, sym, ap, ◌∙◌}
use mathlib.Core.Bool.{Bool, true, false, not}
use mathlib.Core.List.{List, [], ◌∷◌}
use native.Mathlib.Omega.{arith}
use lib.ListN.{length, get_or, drop, length-drop}
use lib.Dec.{eqb}
use borrow.Author.Tests.{eq-eqb, ne_eqb}
use Rattle.laws.specs.Lists.{any}
use Rattle.model.specs.Numbers.{most_nesting}
use Rattle.model.specs.Readers.{read}
use Rattle.model.specs.Syntax.{Condition, StepCosts, Variable, Table}
use Rattle.model.specs.Expressions.{number}
use Rattle.model.specs.Commands.{conditions}
use Rattle.model.specs.Profile.{of_only, required_object, asks_for_empty}
use Rattle.outline.specs.Outline.{model_of}
use Rattle.eval_sets.specs.Forms.{span}
use Rattle.eval_sets.proofs.Reading.{of_read}
use Rattle.eval_sets.proofs.Spans.{span_within, number_ends, condition_ends, ends_span}
use Rattle.steps.proofs.Readings.{Listed, stop, item, ConditionAt, conditions_listed, CostsAt, costs_at, first_of, none_of}
use Rattle.profile.specs.Forms.{told, object_in, empty_in}
use Rattle.profile.specs.Says.{BehindConditions, BehindCosts, RequiresSays, OnlyEmptySays}
use Rattle.profile.proofs.Trees.{ConditionIn, condition_in}

-- what is passed over is within the bytes
pub span_left : (bytes : List ℕ) (at : ℕ) → span (drop at bytes) 0 1 ≤ length bytes - at
span_left bytes at = rw (← length-drop at bytes) (span_within (drop at bytes) 0 1)

module _ (bytes : List ℕ) where
  abbrev variables_in : List Variable
  variables_in = (model_of bytes).variables

  abbrev tables_in : List Table
  tables_in = (model_of bytes).tables

  abbrev PartAt : ℕ → Condition → ℕ → Type 0
  PartAt = ConditionAt variables_in tables_in bytes

  -- where a condition that is read ends, and its form
  condition_end : {at next : ℕ} {x : Condition} → PartAt at x next → next ≡ at + span (drop at bytes) 0 1
  condition_end {at} p = omega (arith, p.ends, ends_span (drop at bytes) p.used (of_read p.reads (condition_ends variables_in tables_in most_nesting (drop at bytes))))

  condition_form_lem : {at next : ℕ} {x : Condition} → PartAt at x next → ConditionIn variables_in tables_in (drop at bytes) x
  condition_form_lem {at} p = of_read p.reads (condition_in variables_in tables_in most_nesting (drop at bytes))

  -- where the costs that are read end: behind the number of 09, or that of 10
  module _ (at : ℕ) where
    abbrev pub behind_low : ℕ
    behind_low = at + 1 + span (drop (at + 1) bytes) 0 1

    low_end : {k : StepCosts} {next : ℕ} (p : CostsAt variables_in tables_in bytes at k next) → at + 1 + p.used ≡ behind_low
    low_end p = omega (arith, ends_span (drop (at + 1) bytes) p.used (of_read p.reads (number_ends variables_in tables_in most_nesting (drop (at + 1) bytes))))

    pub costs_end : (get_or bytes behind_low 0 ≡ 0x10 → ⊥) → BehindCosts bytes at behind_low
    costs_end other k n h =
        let p = costs_at variables_in tables_in bytes at k n h in
        let a = p.high.absent (rw (low_end p) other) in
        omega (arith, a.1, low_end p)

    pub costs_end_high : get_or bytes behind_low 0 ≡ 0x10 → BehindCosts bytes at (behind_low + 1 + span (drop (behind_low + 1) bytes) 0 1)
    costs_end_high there k n h =
        let p = costs_at variables_in tables_in bytes at k n h in
        let stands = low_end p in
        let w = p.high.written (rw stands there) in
        let reads : number variables_in tables_in most_nesting (drop (behind_low + 1) bytes) ≡ read w.item w.used = rw stands at w.reads in
        omega (arith, w.ends, stands, ends_span (drop (behind_low + 1) bytes) w.used (of_read reads (number_ends variables_in tables_in most_nesting (drop (behind_low + 1) bytes))))

  -- the conditions from `at` on, those before `next` passed: v is the same of those that are left
  module _ {A : Type 0} (v : List Condition → A) where
    pub record Left (l : List Condition) (next end : ℕ) : Type 0 where
      pub rest : List Condition
      pub listed : Listed 0x08 PartAt bytes next rest end
      pub same : v l ≡ v rest

    abbrev pub Walking : (at next : ℕ) → Type 0
    Walking at next = (l : List Condition) (n : ℕ) → conditions variables_in tables_in (drop at bytes) ≡ read l n → Left l next (at + n)

    pub walking_first : (at : ℕ) → Walking at at
    walking_first at l n h = record { rest = l; listed = conditions_listed variables_in tables_in bytes at l n h; same = refl }

    module _ (at next : ℕ) (walked : Walking at next) where
      pub walking_last : (get_or bytes next 0 ≡ 0x08 → ⊥) → (l : List Condition) (n : ℕ) → conditions variables_in tables_in (drop at bytes) ≡ read l n → (v l ≡ v []) × (next ≡ at + n)
      walking_last e l n h =
          let w = walked l n h in
          let p = none_of _ _ _ w.listed e in
          (w.same ∙ ap v p.0, p.1)

      -- the condition that stands there
      pub record Here (l : List Condition) (n : ℕ) : Type 0 where
        pub first : Condition
        pub others : List Condition
        pub same : v l ≡ v (first ∷ others)
        pub form : ConditionIn variables_in tables_in (drop (next + 1) bytes) first
        pub listed : Listed 0x08 PartAt bytes (next + 1 + span (drop (next + 1) bytes) 0 1) others (at + n)

      pub walking_here : get_or bytes next 0 ≡ 0x08 → (l : List Condition) (n : ℕ) → conditions variables_in tables_in (drop at bytes) ≡ read l n → Here l n
      walking_here e l n h =
          let w = walked l n h in
          let f = first_of _ _ _ w.listed e in
          let stands : f.next ≡ next + 1 + span (drop (next + 1) bytes) 0 1 = condition_end f.part in
          record { first = f.first; others = f.others; same = w.same ∙ ap v f.whole; form = condition_form_lem f.part; listed = rw stands at f.behind }

      pub walking_more : get_or bytes next 0 ≡ 0x08 → ((c : Condition) (cs : List Condition) → ConditionIn variables_in tables_in (drop (next + 1) bytes) c → v (c ∷ cs) ≡ v cs)
          → Walking at (next + 1 + span (drop (next + 1) bytes) 0 1)
      walking_more e passes l n h =
          let here = walking_here e l n h in
          record { rest = here.others; listed = here.listed; same = here.same ∙ passes here.first here.others here.form }

  -- ---- where they end

  abbrev pub Passing : (at next : ℕ) → Type 0
  Passing = Walking (λ l. tt {0})

  pub passed_all : (at next : ℕ) → Passing at next → (get_or bytes next 0 ≡ 0x08 → ⊥) → BehindConditions bytes at next
  passed_all at next w e l n h = (walking_last (λ l. tt {0}) at next w e l n h).1

  -- ---- what they require

  abbrev requires_in : (object : ℕ) → List Condition → Bool
  requires_in k = any (λ c. eqb (told (required_object c)) k)

  abbrev pub Requiring : (object at next : ℕ) → Type 0
  Requiring k = Walking (requires_in k)

  module _ (k at next : ℕ) (w : Requiring k at next) where
    pub requires_none : (get_or bytes next 0 ≡ 0x08 → ⊥) → RequiresSays bytes at k false
    unfolding any
    requires_none e l n h = sym (walking_last (requires_in k) at next w e l n h).0

    module _ (e : get_or bytes next 0 ≡ 0x08) where
      pub requires_here : object_in 0x54 (drop (next + 1) bytes) ≡ k → RequiresSays bytes at k true
      unfolding any
      requires_here q l n h =
          let here = walking_here (requires_in k) at next w e l n h in
          sym (here.same ∙ rw (eq-eqb (told (required_object here.first)) k (sym here.form.required ∙ q)))

      pub requires_later : (object_in 0x54 (drop (next + 1) bytes) ≡ k → ⊥) → Requiring k at (next + 1 + span (drop (next + 1) bytes) 0 1)
      unfolding any
      requires_later q = walking_more (requires_in k) at next w e (λ c cs f. rw (ne_eqb (told (required_object c)) k (λ z. q (f.required ∙ z))))

  -- ---- that there is one, and variable 0 is empty in it

  abbrev only_empty : List Condition → Bool
  only_empty = of_only asks_for_empty false

  none_without : (c : Condition) (cs : List Condition) → asks_for_empty c ≡ false → only_empty (c ∷ cs) ≡ false
  unfolding of_only
  none_without c [] e = e
  none_without c (d ∷ cs) e = refl

  one_is : (c : Condition) {cs : List Condition} {next end : ℕ} → asks_for_empty c ≡ true → Listed 0x08 PartAt bytes next cs end → not (eqb (get_or bytes next 0) 8) ≡ only_empty (c ∷ cs)
  unfolding of_only
  one_is c {next = next} asks (stop h) = rw (ne_eqb (get_or bytes next 0) 8 h, asks)
  one_is c {next = next} asks (item h p r) = rw (eq-eqb (get_or bytes next 0) 8 h)

  module _ (at : ℕ) where
    pub no_condition : (get_or bytes at 0 ≡ 0x08 → ⊥) → OnlyEmptySays bytes at false
    unfolding of_only
    no_condition e l n h = sym (walking_last only_empty at at (walking_first only_empty at) e l n h).0

    module _ (e : get_or bytes at 0 ≡ 0x08) where
      pub another_condition : empty_in (drop (at + 1) bytes) ≡ false → OnlyEmptySays bytes at false
      another_condition q l n h =
          let here = walking_here only_empty at at (walking_first only_empty at) e l n h in
          sym (here.same ∙ none_without here.first here.others (sym here.form.empty ∙ q))

      pub empty_condition : empty_in (drop (at + 1) bytes) ≡ true → OnlyEmptySays bytes at (not (eqb (get_or bytes (at + 1 + span (drop (at + 1) bytes) 0 1) 0) 8))
      empty_condition q l n h =
          let here = walking_here only_empty at at (walking_first only_empty at) e l n h in
          one_is here.first (sym here.form.empty ∙ q) here.listed ∙ sym here.same
