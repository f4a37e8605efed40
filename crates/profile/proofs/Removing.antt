-- Effects one behind the other: what the only one on variable 0 removes; and a transition that requires it.
use Prim.Native.Nat.{ℕ, ◌+◌, ◌<◌}
use mathlib.Core.Path.{◌≡◌, refl, sym, ap, ◌∙◌}
use mathlib.Core.Bool.{Bool, true, false, cond, false≢true}
use mathlib.Core.List.{List, [], ◌∷◌}
use mathlib.Core.Option.{Option, none, some}
use native.Mathlib.Omega.{arith}
use lib.ListN.{length, get_or, get_elem?, drop}
use lib.Dec.{eqb}
use borrow.Author.Tests.{eqb-true, eqb-false, eq-eqb, ne_eqb}
use Rattle.laws.specs.Lists.{any, filter}
use Rattle.laws.proofs.Bools.{by_cond}
use Rattle.laws.proofs.Lists.{byte_inside}
use Rattle.model.specs.Numbers.{most_nesting}
use Rattle.model.specs.Readers.{read}
use Rattle.model.specs.Syntax.{Condition, Kind, a_set, an_element, a_number, Variable, Table, Expression, Effect, Transition}
use Rattle.model.specs.Expressions.{kind_number}
use Rattle.model.specs.Commands.{expression_for}
use Rattle.model.specs.Profile.{of_only, required_object, removed_by, removed_object, same_object, loads, begins_with_set}
use Rattle.outline.specs.Outline.{model_of}
use Rattle.eval_sets.specs.Forms.{span}
use Rattle.eval_sets.proofs.Reading.{of_read}
use Rattle.eval_sets.proofs.Spans.{Ends, element_ends, set_ends, number_ends, ends_span}
use Rattle.steps.specs.Says.{effect_list, TransitionRead}
use Rattle.steps.proofs.Readings.{Listed, EffectAt, effects_listed, first_of, none_of, costs_at, PartsAt, parts_at, set_for, element_for, number_for}
use Rattle.profile.specs.Forms.{told, object_in, removed_from}
use Rattle.profile.specs.Says.{BeginsWithSet, BehindConditions, BehindCosts, RequiresSays, RemovedSays, LoadsSays}
use Rattle.profile.proofs.Trees.{set_in}

-- ---- the only effect on variable 0

abbrev on_zero : Effect → Bool
on_zero f = eqb f.target 0

abbrev removal : Effect → Option ℕ
removal f = removed_by f.result

-- behind one that was seen
from_second : (f : Effect) (l : List Effect) → removed_from true (told (removal f)) l ≡ told (of_only removal none (f ∷ filter on_zero l))
unfolding removed_from of_only filter told
from_second f [] = refl
from_second f (g ∷ l) =
    by_cond (λ (x : List Effect). cond (on_zero g) 0 (removed_from true (told (removal f)) l) ≡ told (of_only removal none (f ∷ x))) (on_zero g)
    (λ on. rw on)
    (λ off. rw off (from_second f l))

from_first : (l : List Effect) → removed_from false 0 l ≡ told (of_only removal none (filter on_zero l))
unfolding removed_from of_only filter told
from_first [] = refl
from_first (f ∷ l) =
    by_cond (λ (x : List Effect). cond (on_zero f) (removed_from true (told (removal f)) l) (removed_from false 0 l) ≡ told (of_only removal none x)) (on_zero f)
    (λ on. rw on (from_second f l))
    (λ off. rw off (from_first l))

pub removed_from_lem : (l : List Effect) → removed_from false 0 l ≡ told (removed_object l)
unfolding removed_object
removed_from_lem l = from_first l

-- an effect more, on another variable or on variable 0
module _ (f : Effect) (l : List Effect) where
  off_zero : (seen : Bool) (object : ℕ) → (f.target ≡ 0 → ⊥) → removed_from seen object (f ∷ l) ≡ removed_from seen object l
  unfolding removed_from
  off_zero seen object e = rw (ne_eqb f.target 0 e)

  first_on_zero : (seen : Bool) (object : ℕ) → f.target ≡ 0 → seen ≡ false → removed_from seen object (f ∷ l) ≡ removed_from true (told (removal f)) l
  unfolding removed_from
  first_on_zero seen object e s = rw (eq-eqb f.target 0 e, s)

  second_on_zero : (seen : Bool) (object : ℕ) → f.target ≡ 0 → seen ≡ true → removed_from seen object (f ∷ l) ≡ 0
  unfolding removed_from
  second_on_zero seen object e s = rw (eq-eqb f.target 0 e, s)

-- ---- expressions of effects

module _ (vs : List Variable) (ts : List Table) where
  expression_ends : (k : Kind) (objects : ℕ) (e : List ℕ) (f : Expression) (n : ℕ) → expression_for vs ts k objects e ≡ read f n → Ends 1 e n
  expression_ends a_set objects e f n h = of_read (set_for vs ts e objects f n h).1 (set_ends vs ts most_nesting e)
  expression_ends an_element objects e f n h = of_read (element_for vs ts e objects f n h).1 (element_ends vs ts most_nesting e)
  expression_ends a_number objects e f n h = of_read (number_for vs ts e objects f n h).1 (number_ends vs ts most_nesting e)

  set_removes : (k : Kind) (objects : ℕ) (e : List ℕ) (f : Expression) (n : ℕ) → k ≡ a_set → expression_for vs ts k objects e ≡ read f n → object_in 0x43 e ≡ told (removed_by f)
  set_removes k objects e f n s h =
      let (x, reads, is) = set_for vs ts e objects f n (rw s at h) in
      rw is (of_read reads (set_in vs ts most_nesting e)).removes

is_set : (k : Kind) → eqb (kind_number k) (kind_number a_set) ≡ true → k ≡ a_set
unfolding kind_number
is_set a_set e = refl
is_set an_element e = absurd (false≢true e)
is_set a_number e = absurd (false≢true e)

pub first_is_set : (vs : List Variable) {x : Variable} → begins_with_set vs ≡ true → get_elem? vs 0 ≡ some x → x.kind ≡ a_set
unfolding begins_with_set
first_is_set [] b e = absurd (false≢true b)
first_is_set (y ∷ vs) {x} b e = let same : y ≡ x = cc in rw same at (is_set y.kind b)

-- ---- the effects from `at` on, those before `next` passed

module _ (bytes : List ℕ) where
  abbrev variables_in : List Variable
  variables_in = (model_of bytes).variables

  abbrev tables_in : List Table
  tables_in = (model_of bytes).tables

  abbrev PartAt : ℕ → Effect → ℕ → Type 0
  PartAt = EffectAt variables_in tables_in bytes

  effect_end : {at next : ℕ} {f : Effect} → PartAt at f next → next ≡ at + 1 + span (drop (at + 1) bytes) 0 1
  effect_end {at} {f = f} p =
      omega (arith, p.ends, ends_span (drop (at + 1) bytes) p.used (expression_ends variables_in tables_in p.variable.kind p.variable.objects (drop (at + 1) bytes) f.result p.used p.reads))

  effect_form : {at next : ℕ} {f : Effect} → BeginsWithSet bytes → PartAt at f next → f.target ≡ 0 → object_in 0x43 (drop (at + 1) bytes) ≡ told (removal f)
  effect_form {at} {f = f} b p z =
      set_removes variables_in tables_in p.variable.kind p.variable.objects (drop (at + 1) bytes) f.result p.used (first_is_set variables_in b (rw z at p.found_there)) p.reads

  pub record Left (seen : Bool) (object : ℕ) (l : List Effect) (next end : ℕ) : Type 0 where
    pub rest : List Effect
    pub listed : Listed 0x0a PartAt bytes next rest end
    pub same : removed_from false 0 l ≡ removed_from seen object rest

  abbrev pub Removing : (at : ℕ) (seen : Bool) (object next : ℕ) → Type 0
  Removing at seen object next = (l : List Effect) (n : ℕ) → effect_list variables_in tables_in (drop at bytes) ≡ read l n → Left seen object l next (at + n)

  pub removing_first : (at : ℕ) → Removing at false 0 at
  removing_first at l n h = record { rest = l; listed = effects_listed variables_in tables_in bytes at l n h; same = refl }

  module _ (at : ℕ) (seen : Bool) (object next : ℕ) (w : Removing at seen object next) where
    pub removing_last : (get_or bytes next 0 ≡ 0x0a → ⊥) → RemovedSays bytes at object
    unfolding removed_from
    removing_last e l n h =
        let left = w l n h in
        let p = none_of _ _ _ left.listed e in
        sym (sym (removed_from_lem l) ∙ left.same ∙ ap (removed_from seen object) p.0)

    module _ (e : get_or bytes next 0 ≡ 0x0a) where
      -- the effect that stands there
      record Here (l : List Effect) (n : ℕ) : Type 0 where
        first : Effect
        others : List Effect
        same : removed_from false 0 l ≡ removed_from seen object (first ∷ others)
        named : get_or bytes (next + 1) 0 ≡ first.target
        form : BeginsWithSet bytes → first.target ≡ 0 → object_in 0x43 (drop (next + 2) bytes) ≡ told (removal first)
        listed : Listed 0x0a PartAt bytes (next + 2 + span (drop (next + 2) bytes) 0 1) others (at + n)

      here_is : (l : List Effect) (n : ℕ) → effect_list variables_in tables_in (drop at bytes) ≡ read l n → Here l n
      here_is l n h =
          let left = w l n h in
          let f = first_of _ _ _ left.listed e in
          let on : next + 1 + 1 ≡ next + 2 = omega arith in
          let stands : f.next ≡ next + 2 + span (drop (next + 2) bytes) 0 1 = rw (← on) (effect_end f.part) in
          record {
            first = f.first;
            others = f.others;
            same = left.same ∙ ap (removed_from seen object) f.whole;
            named = f.part.named;
            form = λ b z. rw (← on) (effect_form b f.part z);
            listed = rw stands at f.behind;
          }

      -- on another variable
      pub removing_other : (get_or bytes (next + 1) 0 ≡ 0 → ⊥) → Removing at seen object (next + 2 + span (drop (next + 2) bytes) 0 1)
      removing_other q l n h =
          let here = here_is l n h in
          record { rest = here.others; listed = here.listed; same = here.same ∙ off_zero here.first here.others seen object (λ z. q (here.named ∙ z)) }

      module _ (q : get_or bytes (next + 1) 0 ≡ 0) where
        -- the first on variable 0
        pub removing_one : BeginsWithSet bytes → seen ≡ false → Removing at true (object_in 0x43 (drop (next + 2) bytes)) (next + 2 + span (drop (next + 2) bytes) 0 1)
        removing_one b s l n h =
            let here = here_is l n h in
            let zero-target : here.first.target ≡ 0 = sym here.named ∙ q in
            record { rest = here.others; listed = here.listed; same = here.same ∙ first_on_zero here.first here.others seen object zero-target s ∙ ap (λ (k : ℕ). removed_from true k here.others) (sym (here.form b zero-target)) }

        -- a second one
        pub removing_two : seen ≡ true → RemovedSays bytes at 0
        removing_two s l n h =
            let here = here_is l n h in
            sym (sym (removed_from_lem l) ∙ here.same ∙ second_on_zero here.first here.others seen object (sym here.named ∙ q) s)

-- ---- a transition

-- an object is the same if it is told alike
same_told : (i j : Option ℕ) → (told j ≡ 0 → ⊥) → eqb (told i) (told j) ≡ same_object i j
unfolding told same_object
same_told i none e = absurd (e refl)
same_told none (some k) e = ne_eqb 0 (k + 1) (λ z. absurd (omega arith))
same_told (some j) (some k) e = by_eqb (eqb j k) refl
  where
    by_eqb : (b : Bool) → eqb j k ≡ b → eqb (j + 1) (k + 1) ≡ b
    by_eqb true q = eq-eqb (j + 1) (k + 1) (omega (arith, eqb-true j k q))
    by_eqb false q = ne_eqb (j + 1) (k + 1) (λ z. eqb-false j k q (omega arith))

same_any : (j : Option ℕ) (cs : List Condition) → (told j ≡ 0 → ⊥) → any (λ c. eqb (told (required_object c)) (told j)) cs ≡ any (λ c. same_object (required_object c) j) cs
unfolding any
same_any j [] e = refl
same_any j (c ∷ cs) e = rw (same_told (required_object c) j e, same_any j cs e)

-- without an object none is the same
never_same : (i j : Option ℕ) → told j ≡ 0 → same_object i j ≡ false
unfolding told same_object
never_same none j e = refl
never_same (some i) none e = refl
never_same (some i) (some j) e = absurd (omega arith)

never_any : (j : Option ℕ) (cs : List Condition) → told j ≡ 0 → any (λ c. same_object (required_object c) j) cs ≡ false
unfolding any
never_any j [] e = refl
never_any j (c ∷ cs) e = rw (never_same (required_object c) j e, never_any j cs e)

module _ (bytes : List ℕ) (at costs : ℕ) (behind : BehindConditions bytes at costs) where
  abbrev Parts : Transition → Type 0
  Parts = PartsAt (model_of bytes).variables (model_of bytes).tables bytes at

  -- the cost's command stands inside
  pub costs_inside : TransitionRead bytes at → costs < length bytes
  costs_inside t =
      let p = parts_at (model_of bytes).variables (model_of bytes).tables bytes at t.item t.used t.reads in
      let stands : costs ≡ at + p.conditions_used = behind t.item.conditions p.conditions_used p.reads_conditions in
      byte_inside bytes costs 0x09 (omega arith) (costs_at (model_of bytes).variables (model_of bytes).tables bytes costs t.item.costs p.costs_used (rw stands p.reads_costs)).there

  module _ (effects object : ℕ) (costed : BehindCosts bytes costs effects) (removed : RemovedSays bytes effects object) where
    object_is : {t : Transition} → Parts t → object ≡ told (removed_object t.effects)
    object_is {t} p =
        let stands : costs ≡ at + p.conditions_used = behind t.conditions p.conditions_used p.reads_conditions in
        let on : effects ≡ at + p.conditions_used + p.costs_used = rw (← stands) (costed t.costs p.costs_used (rw stands p.reads_costs)) in
        removed t.effects p.effects_used (rw on p.reads_effects)

    pub loads_none : object ≡ 0 → LoadsSays bytes at false
    unfolding loads
    loads_none z t n h =
        let p = parts_at (model_of bytes).variables (model_of bytes).tables bytes at t n h in
        sym (never_any (removed_object t.effects) t.conditions (sym (object_is p) ∙ z))

    pub loads_as : (object ≡ 0 → ⊥) → {r : Bool} → RequiresSays bytes at object r → LoadsSays bytes at r
    unfolding loads
    loads_as some-object says t n h =
        let p = parts_at (model_of bytes).variables (model_of bytes).tables bytes at t n h in
        let is = object_is p in
        says t.conditions p.conditions_used p.reads_conditions
        ∙ ap (λ (k : ℕ). any (λ c. eqb (told (required_object c)) k) t.conditions) is
        ∙ same_any (removed_object t.effects) t.conditions (λ z. some-object (is ∙ z))
