-- A transition, and each item of a group, is read alike over the declared variables and tables and over their bytes.
use Prim.Native.Nat.{ℕ, zero, suc, ◌+◌}
use mathlib.Core.Path.{◌≡◌, refl, sym, ap, subst, ◌∙◌, fun_ext}
use mathlib.Core.Bool.{Bool, true, false}
use mathlib.Core.List.{List, [], ◌∷◌}
use mathlib.Core.Option.{Option}
use lib.ListN.{drop, get_elem?}
use lib.Dec.{eqb}
use Rattle.laws.specs.Lists.{any}
use Rattle.model.specs.Numbers.{most_variables, most_nesting}
use Rattle.model.specs.Readers.{Read, read, refused, Reader, after, many}
use Rattle.model.specs.Syntax.{Kind, a_set, an_element, a_number, Variable, Table, Effect}
use Rattle.model.specs.Commands.{conditions, costs, effect_target, expression_for, effect_on, transition}
use Rattle.model.proofs.Loops.{many_more, many_end, many_full, many_early, many_head_refused, many_body_refused}
use Rattle.words.specs.Signature.{variables_of, tables_of}
use Rattle.read_expressions.proofs.Alike.{SameVariable, neither, both, same_variable, ReadsAlike, reads_alike}
use Rattle.read_model.specs.Groups.{item_of, VariablesDeclared, TablesDeclared}
use Rattle.read_transitions.specs.Transitions.{effects_behind}
use Rattle.read_model.specs.declared.Group.{Group}
use Rattle.read_model.specs.declared.Group.TheVariants as G
use Rattle.read_transitions.proofs.Reading.{target_cut, target_again, target_undeclared, target_good}

-- ---- loops whose heads and bodies are alike

module _ {A C B : Type 0} (due : ℕ → Bool) (head : ℕ → List B → Reader A) (body : A → Reader B) (other : ℕ → List B → Reader C) (tail : C → Reader B) where
  -- refused alike; or the same bytes are read, and the same body follows
  pub data SameHead (x : Read A) (y : Read C) : Type 0 where
    both_refused : {t : ℕ} → x ≡ refused t → y ≡ refused t → SameHead x y
    both_read : {a : A} {c : C} {n : ℕ} → x ≡ read a n → y ≡ read c n → body a ≡ tail c → SameHead x y

  module _ (same : (b : ℕ) (done : List B) (e : List ℕ) → SameHead (head b done e) (other b done e)) where
    none_alike : (done : List B) (e : List ℕ) → many due head body zero done e ≡ many due other tail zero done e
    none_alike done [] = many_early due head body zero done ∙ sym (many_early due other tail zero done)
    none_alike done (b ∷ e) = go (due b) refl
      where
        with_head : due b ≡ true → SameHead (head b done e) (other b done e) → many due head body zero done (b ∷ e) ≡ many due other tail zero done (b ∷ e)
        with_head d (both_refused {t} p q) = many_head_refused due head body zero done b e t d p ∙ sym (many_head_refused due other tail zero done b e t d q)
        with_head d (both_read {a} {c} {n} p q s) = many_full due head body done b e a n d p ∙ sym (many_full due other tail done b e c n d q)

        go : (t : Bool) → due b ≡ t → many due head body zero done (b ∷ e) ≡ many due other tail zero done (b ∷ e)
        go true d = with_head d (same b done e)
        go false d = many_end due head body zero done b e d ∙ sym (many_end due other tail zero done b e d)

    more_alike : (room : ℕ) (done : List B) → ((x : B) (f : List ℕ) → many due head body room (x ∷ done) f ≡ many due other tail room (x ∷ done) f)
        → (e : List ℕ) → many due head body (suc room) done e ≡ many due other tail (suc room) done e
    more_alike room done ih [] = many_early due head body (suc room) done ∙ sym (many_early due other tail (suc room) done)
    more_alike room done ih (b ∷ e) = go (due b) refl
      where
        with_body : due b ≡ true → (a : A) (c : C) (n : ℕ) → head b done e ≡ read a n → other b done e ≡ read c n → body a ≡ tail c
            → (z : Read B) → body a (drop n e) ≡ z → many due head body (suc room) done (b ∷ e) ≡ many due other tail (suc room) done (b ∷ e)
        with_body d a c n p q s (read x k) r =
            let u : tail c (drop n e) ≡ read x k = ap (λ (w : Reader B). w (drop n e)) (sym s) ∙ r in
            many_more due head body room done b e a n x k d p r ∙ (ap (after (1 + (n + k))) (ih x (drop k (drop n e))) ∙ sym (many_more due other tail room done b e c n x k d q u))
        with_body d a c n p q s (refused t) r =
            let u : tail c (drop n e) ≡ refused t = ap (λ (w : Reader B). w (drop n e)) (sym s) ∙ r in
            many_body_refused due head body room done b e a n t d p r ∙ sym (many_body_refused due other tail room done b e c n t d q u)

        with_head : due b ≡ true → SameHead (head b done e) (other b done e) → many due head body (suc room) done (b ∷ e) ≡ many due other tail (suc room) done (b ∷ e)
        with_head d (both_refused {t} p q) = many_head_refused due head body (suc room) done b e t d p ∙ sym (many_head_refused due other tail (suc room) done b e t d q)
        with_head d (both_read {a} {c} {n} p q s) = with_body d a c n p q s (body a (drop n e)) refl

        go : (t : Bool) → due b ≡ t → many due head body (suc room) done (b ∷ e) ≡ many due other tail (suc room) done (b ∷ e)
        go true d = with_head d (same b done e)
        go false d = many_end due head body (suc room) done b e d ∙ sym (many_end due other tail (suc room) done b e d)

    pub many_alike : (room : ℕ) (done : List B) (e : List ℕ) → many due head body room done e ≡ many due other tail room done e
    many_alike zero done e = none_alike done e
    many_alike (suc room) done e = more_alike room done (λ x f. many_alike room (x ∷ done) f) e

-- ---- effects, transitions, items

module _ (vs : List Variable) (ts : List Table) (us : List Variable) (ss : List Table) (alike : ReadsAlike vs ts us ss most_nesting) where
  expression_alike : (k : Kind) (n : ℕ) → expression_for vs ts k n ≡ expression_for us ss k n
  unfolding expression_for
  expression_alike a_set n = rw alike.sets
  expression_alike an_element n = rw alike.elements
  expression_alike a_number n = rw alike.numbers

  effect_alike : (v : ℕ) (x y : Variable) → x.kind ≡ y.kind → x.objects ≡ y.objects → effect_on vs ts (v, x) ≡ effect_on us ss (v, y)
  unfolding effect_on
  effect_alike v x y p q = rw (p, q, expression_alike y.kind y.objects)

  conditions_alike : conditions vs ts ≡ conditions us ss
  unfolding conditions
  conditions_alike = rw alike.conditions

  costs_alike : costs vs ts ≡ costs us ss
  unfolding costs
  costs_alike = rw alike.numbers

  module _ (same : (v : ℕ) → SameVariable (get_elem? vs v) (get_elem? us v)) where
    same_target : (b : ℕ) (done : List Effect) (e : List ℕ)
        → SameHead (λ b. eqb b 0x0a) (effect_target vs ts) (effect_on vs ts) (effect_target us ss) (effect_on us ss) (effect_target vs ts b done e) (effect_target us ss b done e)
    same_target b done [] = both_refused (target_cut vs ts b done [] refl) (target_cut us ss b done [] refl)
    same_target b done (v ∷ f) = go (any (λ g. eqb g.target v) done) refl (get_elem? vs v) (get_elem? us v) refl refl (same v)
      where
        go : (t : Bool) → any (λ g. eqb g.target v) done ≡ t → (o i : Option Variable) → get_elem? vs v ≡ o → get_elem? us v ≡ i → SameVariable o i
            → SameHead (λ b. eqb b 0x0a) (effect_target vs ts) (effect_on vs ts) (effect_target us ss) (effect_on us ss) (effect_target vs ts b done (v ∷ f)) (effect_target us ss b done (v ∷ f))
        go true h o i p q s = both_refused (target_again vs ts b done (v ∷ f) v f refl h) (target_again us ss b done (v ∷ f) v f refl h)
        go false h o i p q neither = both_refused (target_undeclared vs ts b done (v ∷ f) v f refl h p) (target_undeclared us ss b done (v ∷ f) v f refl h q)
        go false h o i p q (both {x} {y} k n) = both_read (target_good vs ts b done (v ∷ f) v f refl h p) (target_good us ss b done (v ∷ f) v f refl h q) (effect_alike v x y k n)

    effects_alike : effects_behind vs ts most_variables [] ≡ effects_behind us ss most_variables []
    effects_alike = fun_ext (many_alike (λ b. eqb b 0x0a) (effect_target vs ts) (effect_on vs ts) (effect_target us ss) (effect_on us ss) same_target most_variables [])

    transition_alike : transition vs ts ≡ transition us ss
    unfolding transition
    transition_alike = rw (conditions_alike, costs_alike, effects_alike)

    item_alike : (g : Group) → item_of vs ts g ≡ item_of us ss g
    unfolding item_of
    item_alike G.Transitions = transition_alike
    item_alike G.BaseCases = conditions_alike
    item_alike G.Constraints = alike.conditions
    item_alike G.Bounds = alike.numbers

pub items_alike : (vs : List Variable) (ts : List Table) (kinds rows columns : List ℕ) → VariablesDeclared kinds vs → TablesDeclared rows columns ts
    → (g : Group) → item_of vs ts g ≡ item_of (variables_of kinds) (tables_of rows columns) g
items_alike vs ts kinds rows columns v t =
    item_alike vs ts (variables_of kinds) (tables_of rows columns) (reads_alike vs ts v.0 v.1 t.0 t.1 most_nesting)
    (subst (λ (ks : List ℕ). (n : ℕ) → SameVariable (get_elem? vs n) (get_elem? (variables_of ks) n)) v.1 (same_variable vs v.0))
