-- A transition's move from its parts: conditions, then costs and effects, then the new state's constraints.
use Prim.Native.Nat.{ℕ, ◌+◌, ◌*◌, ◌≤◌, ◌<◌}
use mathlib.Core.Path.{◌≡◌, refl, sym, ap, ◌∙◌}
use mathlib.Core.Bool.{Bool, true, false, cond}
use mathlib.Core.List.{List}
use native.Mathlib.Omega.{arith}
use lib.ListN.{length, get_or, drop}
use Rattle.laws.proofs.Lists.{byte_inside}
use Rattle.model.specs.Numbers.{range_end}
use Rattle.model.specs.Values.{Value, value, trouble, ◌>>=◌}
use Rattle.model.specs.System.{blocked, moved, trouble_before}
use Rattle.model.specs.Readers.{read}
use Rattle.model.specs.Syntax.{Condition, Transition, Model}
use Rattle.model.specs.Commands.{costs, transition}
use Rattle.model.specs.Meaning.{State, all_hold}
use Rattle.model.specs.declared.Cost.{Cost}
use Rattle.model.specs.Steps.{Attempt, not_taken, taken, attempt, constrained, move_of, move_by, move, system_of}
use Rattle.outline.specs.Outline.{model_of}
use Rattle.prepare.specs.Layout.{guards_from}
use Rattle.prepare.specs.Guards.{passes, guard_in}
use Rattle.prepare.specs.Prepared.{TransitionAt}
use Rattle.eval_sets.specs.declared.troubles.Trouble.{Trouble}
use Rattle.steps.specs.declared.answers.HeldAnswer.{HeldAnswer}
use Rattle.steps.specs.declared.answers.HeldAnswer.TheVariants as H
use Rattle.std.specs.Prelude.{Result, Ok, Err}
use Rattle.eval_sets.specs.declared.answers.Told.{Told}
use Rattle.steps.specs.declared.answers.AttemptAnswer.{AttemptAnswer}
use Rattle.steps.specs.declared.answers.AttemptAnswer.TheVariants as A
use Rattle.steps.specs.declared.answers.MoveAnswer.{MoveAnswer}
use Rattle.steps.specs.declared.answers.MoveAnswer.TheVariants as M
use Rattle.steps.specs.InBytes.{Outlined, state_in, system_in}
use Rattle.steps.specs.Answers.{result_of, IsTrouble, held_answer, CostAnswer, EffectsAnswer, effects_answer, attempt_answer, taken_answer, move_answer}
use Rattle.steps.specs.Says.{HeldSays, CostsSay, EffectsRead, EffectsSays, AttemptSay, TakenSays, TakenRead, TransitionRead, AttemptSays, Tried, MoveSays}
use Rattle.prepare.proofs.Items.{Nth, nth_of, none_beyond}
use Rattle.steps.proofs.Readings.{costs_at, PartsAt, parts_at}
use Rattle.steps.proofs.Costing.{costs_told, costs_troubles}
use Rattle.steps.proofs.Trials.{constraints_in, all_held, one_fails, one_troubles, is_result, result_troubles}

-- ---- answers taken apart

effects_done : (v : Value State) {u : Unit {0}} → effects_answer v ≡ Ok u → (u : State) × (v ≡ value u)
unfolding effects_answer
effects_done (value u) e = (u, refl)
effects_done (trouble t) e = let z : ◌≡◌ {A = ℕ} 0 1 = cc in absurd (omega arith)

effects_trouble : (v : Value State) {t : Trouble} → effects_answer v ≡ Err t → IsTrouble v t
unfolding effects_answer
effects_trouble (value u) e = let z : ◌≡◌ {A = ℕ} 0 1 = cc in absurd (omega arith)
effects_trouble (trouble t) e = (t, refl, cc)

not_taken_lem : (v : Value Attempt) → attempt_answer v ≡ A.NotTaken → v ≡ value not_taken
unfolding attempt_answer
not_taken_lem (value not_taken) e = refl
not_taken_lem (value (taken c u)) e = let z : ◌≡◌ {A = ℕ} 0 1 = cc in absurd (omega arith)
not_taken_lem (trouble t) e = let z : ◌≡◌ {A = ℕ} 0 1 = cc in absurd (omega arith)

is_taken : (v : Value Attempt) {c : Cost} → attempt_answer v ≡ A.Taken c → (u : State) × (v ≡ value (taken c u))
unfolding attempt_answer
is_taken (value not_taken) e = let z : ◌≡◌ {A = ℕ} 0 1 = cc in absurd (omega arith)
is_taken (value (taken c u)) e = (u, cc)
is_taken (trouble t) e = let z : ◌≡◌ {A = ℕ} 0 1 = cc in absurd (omega arith)

attempt_troubles : (v : Value Attempt) {t : Trouble} → attempt_answer v ≡ A.Trouble t → IsTrouble v t
unfolding attempt_answer
attempt_troubles (value not_taken) e = let z : ◌≡◌ {A = ℕ} 0 1 = cc in absurd (omega arith)
attempt_troubles (value (taken c u)) e = let z : ◌≡◌ {A = ℕ} 0 1 = cc in absurd (omega arith)
attempt_troubles (trouble t) e = (t, refl, cc)

-- ---- answers, and what they write

module _ (bytes child : List ℕ) (v : Value Attempt) where
  says_trouble : {t : Trouble} → IsTrouble v t → AttemptSay bytes child (A.Trouble t) v
  unfolding attempt_answer
  says_trouble e = record { answer = rw (e.1, e.2); written = λ c u i. let z : ◌≡◌ {A = ℕ} 0 1 = cc e.1 in absurd (omega arith) }

  says_not_taken : v ≡ value not_taken → AttemptSay bytes child A.NotTaken v
  unfolding attempt_answer
  says_not_taken e = record { answer = rw e; written = λ c u i. let z : ◌≡◌ {A = ℕ} 0 1 = cc in absurd (omega arith) }

  says_taken : {c : Cost} {u : State} → v ≡ value (taken c u) → state_in bytes child ≡ u → AttemptSay bytes child (A.Taken c) v
  unfolding attempt_answer
  says_taken {c} {u} e w = record { answer = rw e; written = λ d y i. let p : u ≡ y = cc in w ∙ p }

-- ---- costs and effects

-- one evaluation behind another, by what the first comes to
going_on : {A B : Type 0} {v : Value A} {a : A} (next : A → Value B) → v ≡ value a → (v >>= next) ≡ next a
unfolding ◌>>=◌
going_on next e = rw e

stops : {A B : Type 0} {v : Value A} {t : Trouble} (next : A → Value B) → IsTrouble v t → IsTrouble (v >>= next) t
unfolding ◌>>=◌
stops next e = (e.0, rw e.1, e.2)

module _ (bytes : List ℕ) (at : ℕ) (state : List ℕ) (q : CostAnswer) (says : CostsSay bytes at state q) where
  pub take_stops : {t : Trouble} (child : List ℕ) → q ≡ Err t → TakenSays bytes at state child (Err t)
  take_stops child e x n l k h g = says_trouble bytes child _ (stops _ (costs_troubles _ n (sym (says x n h) ∙ e)))

  module _ {c : Told Cost} (e : q ≡ Ok c) where
    -- where the effects begin
    pub effects_begin : TakenRead bytes at → EffectsRead bytes (at + c.used)
    effects_begin r = let p = costs_told _ r.costs_read.used (sym (says r.costs_read.item r.costs_read.used r.costs_read.reads) ∙ e) in rw p.1 at r.effects_read

    -- the effects go into a copy of the state
    module _ (child : List ℕ) (r : EffectsAnswer) (effected : EffectsSays bytes (at + c.used) state state child r) where
      pub take_done : {u : Unit {0}} → r ≡ Ok u → TakenSays bytes at state child (Ok c.value)
      take_done d x n l k h g =
          let p = costs_told _ n (sym (says x n h) ∙ e) in
          let s = effected l k (rw p.1 at g) in
          let w = effects_done _ (sym s.answer ∙ d) in
          says_taken bytes child _ (going_on _ p.0 ∙ going_on _ w.1) (s.written w.0 w.1)

      pub take_troubles : {t : Trouble} → r ≡ Err t → TakenSays bytes at state child (Err t)
      take_troubles d x n l k h g =
          let p = costs_told _ n (sym (says x n h) ∙ e) in
          let s = effected l k (rw p.1 at g) in
          let w = effects_trouble _ (sym s.answer ∙ d) in
          says_trouble bytes child _ (let i = stops _ w in (i.0, going_on _ p.0 ∙ i.1, i.2))

-- ---- conditions, then the rest

module _ (bytes : List ℕ) (at : ℕ) (state : List ℕ) (q : HeldAnswer) (says : HeldSays bytes at state q) where
  abbrev PartsIn : Transition → Type 0
  PartsIn = PartsAt (model_of bytes).variables (model_of bytes).tables bytes at

  held : (x : Transition) (p : PartsIn x) → held_answer (all_hold range_end (model_of bytes).tables x.conditions (state_in bytes state)) (at + p.conditions_used) ≡ q
  held x p = sym (says x.conditions p.conditions_used p.reads_conditions)

  pub attempt_blocked : (child : List ℕ) → q ≡ H.Fails → AttemptSays bytes at state child A.NotTaken
  unfolding attempt ◌>>=◌
  attempt_blocked child e x n h =
      let p = parts_at _ _ bytes at x n h in
      let f = one_fails _ _ (held x p ∙ e) in
      says_not_taken bytes child _ (rw f)

  pub attempt_stops : {t : Trouble} (child : List ℕ) → q ≡ H.Trouble t → AttemptSays bytes at state child (A.Trouble t)
  unfolding attempt ◌>>=◌
  attempt_stops child e x n h =
      let p = parts_at _ _ bytes at x n h in
      let f = one_troubles _ _ (held x p ∙ e) in
      says_trouble bytes child _ (stops _ f)

  module _ {next : ℕ} (e : q ≡ H.All next) where
    pub rest_read : TransitionRead bytes at → TakenRead bytes next
    rest_read r =
        let p = parts_at _ _ bytes at r.item r.used r.reads in
        let f = all_held _ _ (held r.item p ∙ e) in
        let reads : costs (model_of bytes).variables (model_of bytes).tables (drop next bytes) ≡ read r.item.costs p.costs_used = rw f.1 at p.reads_costs in
        let k = costs_at _ _ bytes next r.item.costs p.costs_used reads in
        record {
          costs_read = record { item = r.item.costs; used = p.costs_used; reads = reads };
          inside = byte_inside bytes next 9 (omega arith) k.there;
          effects_read = record { item = r.item.effects; used = p.effects_used; reads = rw f.1 at p.reads_effects };
        }

    pub attempt_taken : (child : List ℕ) (r : Result Cost Trouble) → TakenSays bytes next state child r → AttemptSays bytes at state child (taken_answer r)
    unfolding attempt ◌>>=◌
    attempt_taken child r rest x n h =
        let p = parts_at _ _ bytes at x n h in
        let f = all_held _ _ (held x p ∙ e) in
        let s = rest x.costs p.costs_used x.effects p.effects_used (rw f.1 at p.reads_costs) (rw f.1 at p.reads_effects) in
        record { answer = s.answer ∙ rw f.0; written = λ c u i. s.written c u (rw f.0 at i) }

-- ---- the constraints of the new state

module _ (end : ℕ) (m : Model) (c : Cost) (s : State) (v : Value Bool) where
  pub constraints_met : {b : Bool} → Ok b ≡ result_of v → b ≡ true → M.Moved c ≡ move_answer (constrained end m c s v)
  unfolding constrained move_answer
  constraints_met e y = rw (is_result v (sym e), y)

  pub constraint_fails : {b : Bool} → Ok b ≡ result_of v → b ≡ false → M.Blocked ≡ move_answer (constrained end m c s v)
  unfolding constrained move_answer
  constraint_fails e y = rw (is_result v (sym e), y)

  pub constraint_troubles : {t : Trouble} → Err t ≡ result_of v → M.After c t ≡ move_answer (constrained end m c s v)
  unfolding constrained move_answer
  constraint_troubles e = let p = result_troubles v (sym e) in rw p.1 (ap (M.After c) p.2)

new_state : (end : ℕ) (m : Model) (c : Cost) (s : State) (v : Value Bool) {d : Cost} {u : State} → constrained end m c s v ≡ moved d u → s ≡ u
unfolding constrained
new_state end m c s (value true) e = cc
new_state end m c s (value false) e = let z : ◌≡◌ {A = ℕ} 0 1 = cc in absurd (omega arith)
new_state end m c s (trouble t) e = let z : ◌≡◌ {A = ℕ} 0 1 = cc in absurd (omega arith)

-- ---- the guard

-- a transition whose conditions a guard and others decide
attempt_guarded : (end : ℕ) (m : Model) (x : Transition) (rest : List Condition) (s : State) (b : Bool)
    → all_hold end m.tables x.conditions s ≡ cond b (all_hold end m.tables rest s) (value false)
    → attempt end m x s ≡ cond b (attempt end m (record { conditions = rest; costs = x.costs; effects = x.effects }) s) (value not_taken)
unfolding attempt ◌>>=◌
attempt_guarded end m x rest s true e = rw e
attempt_guarded end m x rest s false e = rw e

module _ (bytes words : List ℕ) (o : Outlined bytes words) (state : List ℕ) (t : ℕ) (h : t < length (model_of bytes).transitions) where
  there : Nth (model_of bytes).transitions t
  there = nth_of (model_of bytes).transitions t h

  guarded : TransitionAt bytes words (model_of bytes) t there.nth
  guarded = o.prepared.guards t there.nth there.found

  abbrev guard_passes : Bool
  guard_passes = passes (guard_in words (guards_from + 4 * t)) state

  -- the guard's four words are there
  pub guard_within : guards_from + 4 * t + 4 ≤ length words
  guard_within = omega (arith, h, o.long, o.outlines.few_transitions)

  -- the transition that is read behind the guard
  abbrev behind : Transition
  behind = record { conditions = guarded.rest; costs = there.nth.costs; effects = there.nth.effects }

  decided : attempt range_end (model_of bytes) there.nth (state_in bytes state) ≡ cond guard_passes (attempt range_end (model_of bytes) behind (state_in bytes state)) (value not_taken)
  decided = attempt_guarded range_end (model_of bytes) there.nth guarded.rest (state_in bytes state) guard_passes (guarded.decides state)

  -- where the guard fails, the transition is blocked
  pub guard_blocks : false ≡ guard_passes → (system_in bytes).move (state_in bytes state) t ≡ blocked
  unfolding system_of move move_by move_of
  guard_blocks e =
      let fails : attempt range_end (model_of bytes) there.nth (state_in bytes state) ≡ value not_taken = decided ∙ rw (← e) in
      rw (there.found, fails)

  pub move_guarded : (child : List ℕ) → false ≡ guard_passes → MoveSays bytes state t child M.Blocked
  unfolding move_answer
  move_guarded child e =
      let m = guard_blocks e in
      record { answer = rw m; arrives = λ c u i. let z : ◌≡◌ {A = ℕ} 0 1 = cc in absurd (omega arith) }

  module _ {at : ℕ} (stands : at ≡ get_or words (guards_from + 4 * t + 3) 0) where
    stands_there : transition (model_of bytes).variables (model_of bytes).tables (drop at bytes) ≡ read behind guarded.used
    unfolding guard_in
    stands_there = rw stands guarded.reads

    pub transition_read : TransitionRead bytes at
    transition_read = record { item = behind; used = guarded.used; reads = stands_there }

    pub tried : (child : List ℕ) (q : AttemptAnswer) → true ≡ guard_passes → AttemptSays bytes at state child q → Tried bytes state t child q
    tried child q e says =
        let same : attempt range_end (model_of bytes) there.nth (state_in bytes state) ≡ attempt range_end (model_of bytes) behind (state_in bytes state) = decided ∙ rw (← e) in
        record { transition_tried = there.nth; declared = there.found; says = rw same (says behind guarded.used stands_there) }

-- ---- the move

module _ (bytes state : List ℕ) (t : ℕ) where
  pub move_undeclared : (child : List ℕ) → length (model_of bytes).transitions ≤ t → MoveSays bytes state t child M.Blocked
  unfolding system_of move move_by move_answer
  move_undeclared child h = let n = none_beyond (model_of bytes).transitions t h in record { answer = rw n; arrives = λ c u i. let z : ◌≡◌ {A = ℕ} 0 1 = cc (rw n at i) in absurd (omega arith) }

module _ (bytes state : List ℕ) (t : ℕ) (child : List ℕ) (q : AttemptAnswer) (a : Tried bytes state t child q) where
  the_move : (system_in bytes).move (state_in bytes state) t ≡ move_of range_end (model_of bytes) (attempt range_end (model_of bytes) a.transition_tried (state_in bytes state))
  unfolding system_of move move_by
  the_move = rw a.declared

  pub move_blocked : q ≡ A.NotTaken → MoveSays bytes state t child M.Blocked
  unfolding move_of move_answer
  move_blocked e =
      let v = not_taken_lem _ (sym a.says.answer ∙ e) in
      let m : (system_in bytes).move (state_in bytes state) t ≡ blocked = the_move ∙ rw v in
      record { answer = rw m; arrives = λ c u i. let z : ◌≡◌ {A = ℕ} 0 1 = cc in absurd (omega arith) }

  pub move_before : {k : Trouble} → q ≡ A.Trouble k → MoveSays bytes state t child (M.Before k)
  unfolding move_of move_answer
  move_before {k} e =
      let v = attempt_troubles _ (sym a.says.answer ∙ e) in
      let m : (system_in bytes).move (state_in bytes state) t ≡ trouble_before v.0 = the_move ∙ ap (move_of range_end (model_of bytes)) v.1 in
      record { answer = rw m (ap M.Before v.2); arrives = λ c u i. let z : ◌≡◌ {A = ℕ} 0 1 = cc in absurd (omega arith) }

  pub move_after : {c : Cost} → q ≡ A.Taken c → (r : MoveAnswer) → r ≡ move_answer (constrained range_end (model_of bytes) c (state_in bytes child) (constraints_in bytes child)) → MoveSays bytes state t child r
  unfolding move_of system_of
  move_after {c} e r f =
      let v = is_taken _ (sym a.says.answer ∙ e) in
      let w : state_in bytes child ≡ v.0 = a.says.written c v.0 v.1 in
      let b : attempt range_end (model_of bytes) a.transition_tried (state_in bytes state) ≡ value (taken c (state_in bytes child)) = v.1 ∙ ap (λ (u : State). value (taken c u)) (sym w) in
      let m : (system_in bytes).move (state_in bytes state) t ≡ constrained range_end (model_of bytes) c (state_in bytes child) (constraints_in bytes child) = the_move ∙ rw b in
      record { answer = f ∙ ap move_answer (sym m); arrives = λ d u i. new_state range_end (model_of bytes) c (state_in bytes child) (constraints_in bytes child) (sym m ∙ i) }
