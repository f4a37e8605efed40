-- Effects: the word for each variable, and the child's words while effects are written.
use Prim.Native.Nat.{ℕ, ◌+◌, ◌%◌, ◌^◌, ◌≤◌, ◌<◌}
use mathlib.Core.Path.{◌≡◌, refl, sym, ap, ◌∙◌}
use mathlib.Core.List.{List, ◌∷◌}
use mathlib.Core.Option.{some}
use native.Mathlib.Omega.{arith}
use lib.ListN.{length, get_or, get_elem?, set, drop, length-set}
use lib.IntN.{ℤ, pos, ◌+ℤ◌}
use Rattle.std.specs.Prelude.{Ok, Err}
use Rattle.eval_sets.specs.declared.answers.Told.{Told}
use Rattle.model.specs.Numbers.{range_end}
use Rattle.model.specs.Values.{Value, value, trouble, ◌>>=◌}
use Rattle.model.specs.Readers.{read}
use Rattle.model.specs.Syntax.{Kind, a_set, an_element, a_number, Expression, Variable, Effect}
use Rattle.model.specs.Commands.{expression_for}
use Rattle.model.specs.Meaning.{State, expression_value}
use Rattle.model.specs.Steps.{effects}
use Rattle.words.specs.States.{value_of}
use Rattle.words.specs.Signature.{Objects, kind_byte_of, kind_byte}
use Rattle.words.proofs.Integers.{word_back}
use Rattle.outline.specs.Outline.{model_of, kinds_from}
use Rattle.eval_sets.specs.declared.troubles.Trouble.{Trouble}
use Rattle.eval_sets.specs.declared.answers.ElementValue.{ElementValue}
use Rattle.eval_sets.specs.declared.answers.SetValue.{SetValue}
use Rattle.eval_sets.specs.Answers.{NumberValue, told, set_answer}
use Rattle.quick.specs.Sets.{ChangedForm, changed_in, JoinedForm, joined_in}
use Rattle.quick.proofs.Changes.{changed_says, joined_says}
use Rattle.steps.specs.InBytes.{Outlined, state_in}
use Rattle.steps.specs.Answers.{IsTrouble, WordAnswer, effects_answer}
use Rattle.steps.specs.Says.{effect_list, NumberSays, ElementSays, SetSays, WordIs, WordWithin, NumberWordSays, WordSays, EffectsRead, EffectsSays}
use Rattle.laws.proofs.Lists.{found_below}
use Rattle.steps.proofs.StateWords.{state_set}
use Rattle.steps.proofs.Readings.{Listed, EffectAt, effects_listed, First, first_of, none_of, set_for, element_for, number_for}
use Rattle.quick.proofs.Totals.{number_is}
use Rattle.steps.proofs.Trials.{number_troubles}

-- ---- a number's word, from the evaluator's answer

module _ (bytes : List ℕ) (at : ℕ) (state : List ℕ) (q : NumberValue) (says : NumberSays bytes at state q) where
  pub number_word_says : {z : ℤ} {n w : ℕ} → q ≡ told z n → (pos w ≡ z +ℤ pos range_end) × (w < 2 ^ 32) → NumberWordSays bytes at state (told w n)
  unfolding value_of
  number_word_says {z} {n} {w} e b x m h =
      let p = number_is _ m (sym (says x m h) ∙ e) in
      rw (p.0, p.1) (w, refl, word_back w z b.0 b.1)

  pub number_word_troubles : {t : Trouble} → q ≡ Err t → NumberWordSays bytes at state (Err t)
  number_word_troubles e x m h = let p = number_troubles _ m (sym (says x m h) ∙ e) in rw p.1 (ap Err p.2)

-- ---- the word for a variable, by its kind

module _ (bytes : List ℕ) (at : ℕ) (state : List ℕ) where
  module _ (f : Expression) (n : ℕ) where
    abbrev Reads : Kind → ℕ → Type 0
    Reads k objects = expression_for (model_of bytes).variables (model_of bytes).tables k objects (drop at bytes) ≡ read f n

    abbrev Says : Kind → WordAnswer → Type 0
    Says k r = WordIs k (expression_value range_end (model_of bytes).tables f (state_in bytes state)) n r

    number_by_kind : (k : Kind) (objects : ℕ) → Objects k objects → kind_byte_of k objects ≡ 0 → (r : WordAnswer) → NumberWordSays bytes at state r → Reads k objects → Says k r
    unfolding kind_byte_of expression_value
    number_by_kind a_number objects o e r says h =
        let p = number_for _ _ (drop at bytes) objects f n h in
        rw p.2 (says p.0 n p.1)
    number_by_kind an_element objects o e r says h = absurd (omega arith)
    number_by_kind a_set objects o e r says h = absurd (omega arith)

    element_by_kind : (k : Kind) (objects : ℕ) → Objects k objects → (kind_byte_of k objects ≡ 0 → ⊥) → kind_byte_of k objects ≤ 64 → (r : ElementValue) → ElementSays bytes at state r → r.object < 64
        → Reads k objects → Says k (told r.object r.used)
    unfolding kind_byte_of expression_value value_of
    element_by_kind a_number objects o a b r says l h = absurd (a refl)
    element_by_kind an_element objects o a b r says l h =
        let p = element_for _ _ (drop at bytes) objects f n h in
        let s = says p.0 n p.1 in
        let low : r.object % 64 ≡ r.object = omega arith in
        rw p.2 (r.object, ap (told r.object) s.1, ap pos (low ∙ s.0))
    element_by_kind a_set objects o a b r says l h = absurd (omega arith)

    set_by_kind : (k : Kind) (objects : ℕ) → Objects k objects → (kind_byte_of k objects ≡ 0 → ⊥) → 64 < kind_byte_of k objects → (r : SetValue) → SetSays bytes at state r
        → Reads k objects → Says k (told r.members r.used)
    unfolding kind_byte_of expression_value value_of
    set_by_kind a_number objects o a b r says h = absurd (a refl)
    set_by_kind an_element objects o a b r says h = absurd (omega arith)
    set_by_kind a_set objects o a b r says h =
        let p = set_for _ _ (drop at bytes) objects f n h in
        let s = says p.0 n p.1 in
        rw p.2 (r.members, ap (told r.members) s.1, ap pos s.0)

  module _ (words : List ℕ) (o : Outlined bytes words) (v kind : ℕ) (k : kind ≡ get_or words (kinds_from + v) 0) where
    kind_is : (x : Variable) → get_elem? (model_of bytes).variables v ≡ some x → kind ≡ kind_byte_of x.kind x.objects
    unfolding kind_byte
    kind_is x e = k ∙ (o.outlines.variables v x e).kind

    pub word_number : kind ≡ 0 → (r : WordAnswer) → NumberWordSays bytes at state r → WordSays bytes at state v r
    word_number z r says x f n e h = number_by_kind f n x.kind x.objects (o.outlines.variables v x e).well_formed (sym (kind_is x e) ∙ z) r says h

    pub word_element : (kind ≡ 0 → ⊥) → kind ≤ 64 → (r : ElementValue) → ElementSays bytes at state r → r.object < 64 → WordSays bytes at state v (told r.object r.used)
    word_element z b r says l x f n e h = element_by_kind f n x.kind x.objects (o.outlines.variables v x e).well_formed (λ i. z (kind_is x e ∙ i)) (omega (arith, kind_is x e)) r says l h

    pub word_set : (kind ≡ 0 → ⊥) → 64 < kind → (r : SetValue) → SetSays bytes at state r → WordSays bytes at state v (told r.members r.used)
    word_set z b r says x f n e h = set_by_kind f n x.kind x.objects (o.outlines.variables v x e).well_formed (λ i. z (kind_is x e ∙ i)) (omega (arith, kind_is x e)) r says h

    -- 42 e 41 u and 43 e 41 u, in place
    pub word_changed : (kind ≡ 0 → ⊥) → 64 < kind → ChangedForm bytes at → (w : ℕ) → w ≡ changed_in bytes at state → WordSays bytes at state v (told w 5)
    word_changed z b f w q = word_set z b (set_answer w 0 5) (λ x n h. let s = changed_says bytes at words state f x n o.outlines h in (q ∙ s.0, s.1))

    -- 44 41 u and a set literal, in place
    pub word_joined : (kind ≡ 0 → ⊥) → 64 < kind → JoinedForm bytes at → (w : ℕ) → w ≡ joined_in bytes at state → WordSays bytes at state v (told w 13)
    word_joined z b f w q = word_set z b (set_answer w 0 13) (λ x n h. let s = joined_says bytes at words state f x n o.outlines h in (q ∙ s.0, s.1))

-- ---- answers taken apart

pub word_within : (l : ℕ) {r : WordAnswer} {w : Told ℕ} → r ≡ Ok w → WordWithin l r → w.used ≤ l
word_within l e h = rw e at h

word_is : (k : Kind) (v : Value ℤ) (n : ℕ) {r : WordAnswer} {w i : ℕ} → WordIs k v n r → r ≡ told w i → (v ≡ value (value_of k w)) × (n ≡ i)
word_is k (value z) n {r} {w} {i} s e =
    let p : ◌≡◌ {A = Told ℕ} (record { value = s.0; used = n }) (record { value = w; used = i }) = cc s.1 in
    (ap value (sym s.2 ∙ ap (λ (v : Told ℕ). value_of k v.value) p), ap (λ (v : Told ℕ). v.used) p)
word_is k (trouble t) n s e = let z : ◌≡◌ {A = ℕ} 0 1 = cc in absurd (omega arith)

word_troubles : (k : Kind) (v : Value ℤ) (n : ℕ) {r : WordAnswer} {t : Trouble} → WordIs k v n r → r ≡ Err t → IsTrouble v t
word_troubles k (value z) n s e = let z : ◌≡◌ {A = ℕ} 0 1 = cc s.1 in absurd (omega arith)
word_troubles k (trouble t) n s e = (t, refl, cc)

-- ---- the effects 0A from `at` on, those before `next` written

module _ (bytes state : List ℕ) where
  abbrev effects_in : List Effect → State → Value State
  effects_in l new = effects range_end (model_of bytes) l (state_in bytes state) new

  abbrev PartAt : ℕ → Effect → ℕ → Type 0
  PartAt = EffectAt (model_of bytes).variables (model_of bytes).tables bytes

  pub record Left (l : List Effect) (before : State) (next end : ℕ) (child : List ℕ) : Type 0 where
    pub rest : List Effect
    pub listed : Listed 0x0a PartAt bytes next rest end
    pub same : effects_in l before ≡ effects_in rest (state_in bytes child)

  pub record Writing (at : ℕ) (before : List ℕ) (next : ℕ) (child : List ℕ) : Type 0 where
    pub long : length child ≡ length before
    pub left : (l : List Effect) (n : ℕ) → effect_list (model_of bytes).variables (model_of bytes).tables (drop at bytes) ≡ read l n → Left l (state_in bytes before) next (at + n) child

  pub writing_first : (at : ℕ) (before : List ℕ) → Writing at before at before
  writing_first at before = record {
    long = refl;
    left = λ l n h. record { rest = l; listed = effects_listed (model_of bytes).variables (model_of bytes).tables bytes at l n h; same = refl };
  }

  effect_stops : (f : Effect) (l : List Effect) (new : State) {t : ℕ} → expression_value range_end (model_of bytes).tables f.result (state_in bytes state) ≡ trouble t → effects_in (f ∷ l) new ≡ trouble t
  unfolding effects ◌>>=◌
  effect_stops f l new e = rw e

  module _ (at : ℕ) (before : List ℕ) (next : ℕ) (child : List ℕ) (so_far : Writing at before next child) where
    pub writing_last : (get_or bytes next 0 ≡ 0x0a → ⊥) → EffectsSays bytes at state before child (Ok tt)
    unfolding effects effects_answer
    writing_last e l n h =
        let t = so_far.left l n h in
        let p = none_of _ _ _ t.listed e in
        let w : effects_in l (state_in bytes before) ≡ value (state_in bytes child) = t.same ∙ ap (λ (i : List Effect). effects_in i (state_in bytes child)) p.0 in
        record { answer = rw w; written = λ u i. cc }

    module _ (words : List ℕ) (o : Outlined bytes words) (byte : get_or bytes next 0 ≡ 0x0a) where
      -- where effects are read, the next one names a declared variable
      pub next_inside : EffectsRead bytes at → (next + 2 ≤ length bytes) × (get_or bytes (next + 1) 0 < 16)
      next_inside r =
          let t = so_far.left r.item r.used r.reads in
          let f = first_of _ _ _ t.listed byte in
          (omega (arith, f.part.there), omega (arith, f.part.named, found_below (model_of bytes).variables f.first.target f.part.found_there, o.outlines.few_variables))

      module _ (v : ℕ) (named : v ≡ get_or bytes (next + 1) 0) (r : WordAnswer) (says : WordSays bytes (next + 2) state v r) where
        said : {rest : List Effect} {end : ℕ} (f : First 0x0a PartAt bytes next rest end)
            → WordIs f.part.variable.kind (expression_value range_end (model_of bytes).tables f.first.result (state_in bytes state)) f.part.used r
        said f =
            let same_name : v ≡ f.first.target = named ∙ f.part.named in
            let stands : next + 1 + 1 ≡ next + 2 = omega arith in
            says f.part.variable f.first.result f.part.used (ap (get_elem? (model_of bytes).variables) same_name ∙ f.part.found_there)
            (rw stands at f.part.reads)

        one_further : {w k : ℕ} → v < length child → r ≡ told w k → {l : List Effect} {end : ℕ} (t : Left l (state_in bytes before) next end child) → First 0x0a PartAt bytes next t.rest end
            → Left l (state_in bytes before) (next + 2 + k) end (set child v w)
        unfolding effects ◌>>=◌
        one_further {w} {k} inside e t f =
            let same_name : v ≡ f.first.target = named ∙ f.part.named in
            let x = f.part.variable in
            let p = word_is x.kind (expression_value range_end (model_of bytes).tables f.first.result (state_in bytes state)) f.part.used (said f) e in
            let stands : f.next ≡ next + 2 + k = omega (arith, f.part.ends, p.1) in
            let declared : get_elem? (model_of bytes).variables v ≡ some x = ap (get_elem? (model_of bytes).variables) same_name ∙ f.part.found_there in
            let words : set (state_in bytes child) f.first.target (value_of x.kind w) ≡ state_in bytes (set child v w) = rw (← same_name) (sym (state_set (model_of bytes).variables child v w declared inside)) in
            let turn : effects_in (f.first ∷ f.others) (state_in bytes child) ≡ effects_in f.others (set (state_in bytes child) f.first.target (value_of x.kind w)) = rw p.0 in
            record {
              rest = f.others;
              listed = rw stands at f.behind;
              same = t.same ∙ (ap (λ (i : List Effect). effects_in i (state_in bytes child)) f.whole ∙ (turn ∙ ap (effects_in f.others) words));
            }

        pub writing_more : {w k : ℕ} → v < length child → r ≡ told w k → Writing at before (next + 2 + k) (set child v w)
        writing_more inside e = record {
          long = length-set child v _ ∙ so_far.long;
          left = λ l n h. one_further inside e (so_far.left l n h) (first_of _ _ _ (so_far.left l n h).listed byte);
        }

        pub writing_troubles : {t : Trouble} → r ≡ Err t → EffectsSays bytes at state before child (Err t)
        unfolding effects ◌>>=◌ effects_answer
        writing_troubles {t} e l n h =
            let s = so_far.left l n h in
            let f = first_of _ _ _ s.listed byte in
            let p = word_troubles f.part.variable.kind (expression_value range_end (model_of bytes).tables f.first.result (state_in bytes state)) f.part.used (said f) e in
            let w : effects_in l (state_in bytes before) ≡ trouble p.0 = s.same ∙ ap (λ (i : List Effect). effects_in i (state_in bytes child)) f.whole ∙ effect_stops f.first f.others (state_in bytes child) p.1 in
            record { answer = rw w (ap Err p.2); written = λ u i. let z : ◌≡◌ {A = ℕ} 0 1 = cc in absurd (omega arith) }
