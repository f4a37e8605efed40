-- Laws of transitions: expressions at positions, the result of an effect, the effects of a transition, and the transition itself.
use Prim.Native.Nat.{ℕ, zero, suc, ◌+◌, ◌-◌, ◌^◌, ◌<◌, ◌≤◌}
use mathlib.Core.Path.{◌≡◌, refl, sym, ap, ◌∙◌}
use mathlib.Core.Bool.{Bool, true, false, cond, ◌||◌}
use mathlib.Core.List.{List, [], ◌∷◌, ◌++◌, reverse}
use mathlib.Core.Option.{Option, none, some}
use mathlib.Core.Option as O
use native.Mathlib.Omega.{arith}
use native.Mathlib.Nat.{add-zero}
use lib.ListN.{length, get_or, get_elem?, drop, set, length-drop, replicate}
use lib.Seq.{get_or-set_same, get_or-set_other}
use lib.Dec.{eqb, leb}
use borrow.Author.Tests.{eq-eqb, ne_eqb, eqb-true, eqb-false}
use Rattle.laws.proofs.Lists.{byte_inside}
use Rattle.laws.specs.Lists.{any}
use Rattle.model.specs.Numbers.{ends_early, mismatch, off_limits, most_variables, most_nesting}
use Rattle.model.specs.Readers.{Read, read, refused, Reader, after, continue, ◌>>=◌, ◌>>◌, give, refuse, require, peek, one, word, byte, command, optional}
use Rattle.model.specs.Syntax.{Number, Condition, element_count, set_count, Kind, a_set, an_element, a_number, of_set, of_element, Variable, Table, Effect, StepCosts, Transition}
use Rattle.model.specs.Expressions as X
use Rattle.model.specs.Expressions.{declared, element, number, condition}
use Rattle.model.specs.Commands.{conditions, effect_target, expression_for, effect_on, costs, transition}
use Rattle.words.specs.Signature.{variable_of, variables_of}
use Rattle.std.specs.Prelude.{Result, Ok, Err}
use Rattle.model.proofs.Fair.{Fair, then_fair, require_give_fair, one_fair}
use Rattle.model.proofs.Reading.{element_fair, set_fair, number_fair}
use Rattle.read_forms.specs.Refusals.{number_of}
use Rattle.read_forms.specs.Parts.{Answer, no_count, variables_in, tables_in, part_of, part_at}
use Rattle.read_forms.specs.Forms.{due_for}
use Rattle.read_forms.specs.declared.Due.{Due}
use Rattle.read_forms.specs.declared.Due.TheVariants as D
use Rattle.read_forms.specs.declared.Names.{Names}
use Rattle.read_forms.specs.declared.Part.{Part}
use Rattle.read_forms.specs.declared.refusals.Refusal.{Refusal}
use Rattle.read_forms.specs.declared.refusals.Refusal.TheVariants.{Mismatch}
use Rattle.read_forms.proofs.Numbered.{named_number}
use Rattle.read_declarations.specs.Positions.{read_at, position_of}
use Rattle.read_transitions.specs.Transitions.{placed_of, moved_by, end_of, count_fits, part_from, effects_behind, Marked, Changed}
use Rattle.read_transitions.specs.declared.Placed.{Placed}
use Rattle.words.proofs.Literal.{word_one}
use Rattle.read_expressions.proofs.Forms.{used}
use Rattle.read_declarations.proofs.Positions.{front, nothing, reads_at, refuses_at, give_at, given_at, position_read, position_refused, fair_refusal, then_read, then_refused, next_read, next_refused, reverse_more, turn, turn_full, turn_head_refused, turn_body_refused, turn_end, turn_early}

-- ---- an expression at a position

module _ {A : Type 0} (count : A → ℕ) where
  placed_moved : (at : ℕ) (x : Read A) → moved_by at (part_of count x) ≡ placed_of count (after at x)
  unfolding after
  placed_moved at (read a n) = refl
  placed_moved at (refused t) = refl

  placed_end : (x : Read A) → end_of (placed_of count x) ≡ position_of x
  placed_end (read a n) = refl
  placed_end (refused t) = refl

-- what was read of the bytes from a position on
module _ (names : Names) (at : ℕ) (bytes : List ℕ) (due : Due) {e : List ℕ} (e_is : e ≡ drop at bytes) where
  pub placed_fits : {p : Part} → Ok p ≡ part_at due (variables_in names) (tables_in names) most_nesting e → length bytes ≤ 2 ^ 63 → at < 2 ^ 64 → at + p.used < 2 ^ 64
  placed_fits {p} q h l = omega (arith, rw e_is at (used (record { names = names; depth = most_nesting; bytes = e }) due q), length-drop at bytes)

  pub part_from_lem : {r : Answer} → r ≡ part_at due (variables_in names) (tables_in names) most_nesting e → moved_by at r ≡ part_from (variables_in names) (tables_in names) due at bytes
  part_from_lem q = rw (q, e_is) (go due)
    where
      go : (due : Due) → moved_by at (part_at due (variables_in names) (tables_in names) most_nesting (drop at bytes)) ≡ part_from (variables_in names) (tables_in names) due at bytes
      go D.Number = unfold part_at part_from read_at in placed_moved no_count at _
      go D.Condition = unfold part_at part_from read_at in placed_moved no_count at _
      go D.Element = unfold part_at part_from read_at in placed_moved element_count at _
      go D.Set = unfold part_at part_from read_at in placed_moved set_count at _

module _ (vs : List Variable) (ts : List Table) (at : ℕ) (bytes : List ℕ) where
  pub number_place : {r : Result Placed Refusal} → r ≡ part_from vs ts D.Number at bytes → end_of r ≡ position_of (read_at (number vs ts most_nesting) at bytes)
  unfolding part_from
  number_place q = ap end_of q ∙ placed_end no_count (read_at (number vs ts most_nesting) at bytes)

  pub condition_place : {r : Result Placed Refusal} → r ≡ part_from vs ts D.Condition at bytes → end_of r ≡ position_of (read_at (condition vs ts most_nesting) at bytes)
  unfolding part_from
  condition_place q = ap end_of q ∙ placed_end no_count (read_at (condition vs ts most_nesting) at bytes)

  -- ---- the result of an effect

  pub result_refused : (k : Kind) (n : ℕ) {t : Refusal} → Err t ≡ part_from vs ts (due_for k) at bytes → Err t ≡ position_of (read_at (expression_for vs ts k n) at bytes)
  unfolding part_from expression_for one
  result_refused k n {t} q = go k q
    where
      stop : {A B : Type 0} (r : Reader A) (count : A → ℕ) (next : A → Reader B) → Err t ≡ placed_of count (read_at r at bytes) → Err t ≡ position_of (read_at (r >>= next) at bytes)
      stop r count next q =
          let h = position_refused (read_at r at bytes) (ap end_of q ∙ placed_end count (read_at r at bytes)) in
          ap Err h.2 ∙ sym (ap position_of (then_refused r at bytes next h.1))

      go : (k : Kind) → Err t ≡ part_from vs ts (due_for k) at bytes → Err t ≡ position_of (read_at (expression_for vs ts k n) at bytes)
      go a_set q = stop (X.set vs ts most_nesting) set_count _ q
      go an_element q = stop (element vs ts most_nesting) element_count _ q
      go a_number q = stop (number vs ts most_nesting) no_count _ q

  part_read : {A : Type 0} (count : A → ℕ) (x : Read A) {p : Placed} → Ok p ≡ placed_of count x → (a : A) × (x ≡ read a p.end) × (count a ≡ p.count)
  part_read count (read a k) {p} q =
      let e : p ≡ record { end = k; count = count a } = cc in
      (a, ap (read a) (sym (ap (λ (r : Placed). r.end) e)), sym (ap (λ (r : Placed). r.count) e))
  part_read count (refused t) q = let z : ◌≡◌ {A = ℕ} 0 1 = cc in absurd (omega arith)

  -- the test of the counts, once the expression is read
  tested : {A : Type 0} (t : Bool) (a : A) (p : ℕ) → position_of (read_at (require t mismatch >> give a) p bytes) ≡ cond t (Ok p) (Err Mismatch)
  tested true a p = ap position_of (next_read (require true mismatch) p bytes (give a) {n = p} (unfold read_at require after in ap (read tt) (omega arith)) ∙ give_at a p bytes)
  tested false a p = ap position_of (next_refused (require false mismatch) p bytes (give a) {t = mismatch} (unfold read_at require after in refl))

  pub result_read : (k : Kind) (n : ℕ) {p : Placed} → Ok p ≡ part_from vs ts (due_for k) at bytes → cond (count_fits k n p.count) (Ok p.end) (Err Mismatch) ≡ position_of (read_at (expression_for vs ts k n) at bytes)
  unfolding part_from expression_for one
  result_read a_set n {p} q =
      let s = part_read set_count (read_at (X.set vs ts most_nesting) at bytes) q in
      sym (ap position_of (then_read (X.set vs ts most_nesting) at bytes (λ s. require (eqb (set_count s) n) mismatch >> give (of_set s)) s.1)
      ∙ (tested (eqb (set_count s.0) n) (of_set s.0) p.end ∙ ap (λ (m : ℕ). cond (eqb m n) (Ok p.end) (Err Mismatch)) s.2))
  result_read an_element n {p} q =
      let s = part_read element_count (read_at (element vs ts most_nesting) at bytes) q in
      sym (ap position_of (then_read (element vs ts most_nesting) at bytes (λ e. require (leb (element_count e) n) mismatch >> give (of_element e)) s.1)
      ∙ (tested (leb (element_count s.0) n) (of_element s.0) p.end ∙ ap (λ (m : ℕ). cond (leb m n) (Ok p.end) (Err Mismatch)) s.2))
  result_read a_number n {p} q =
      let s = part_read no_count (read_at (number vs ts most_nesting) at bytes) q in
      sym (ap position_of (then_read (number vs ts most_nesting) at bytes _ s.1 ∙ give_at _ p.end bytes))

module _ (vs : List Variable) (ts : List Table) where
  expression_for_fair : (k : Kind) (n : ℕ) → Fair (expression_for vs ts k n)
  unfolding expression_for
  expression_for_fair a_set n = then_fair (set_fair vs ts most_nesting) (λ s. require_give_fair _ mismatch _ (omega arith))
  expression_for_fair an_element n = then_fair (element_fair vs ts most_nesting) (λ e. require_give_fair _ mismatch _ (omega arith))
  expression_for_fair a_number n = one_fair _ (number_fair vs ts most_nesting)

-- ---- the kind of a declared variable

variable_declared : (kinds : List ℕ) (v : ℕ) → v < length kinds → get_elem? (variables_of kinds) v ≡ O.some (variable_of (get_or kinds v 0))
variable_declared [] v h = let z : ⊥ = omega arith in absurd z
variable_declared (k ∷ kinds) zero h = refl
variable_declared (k ∷ kinds) (suc v) h = variable_declared kinds v (omega arith)

variable_undeclared : (kinds : List ℕ) (v : ℕ) → length kinds ≤ v → get_elem? (variables_of kinds) v ≡ O.none
variable_undeclared [] v h = refl
variable_undeclared (k ∷ kinds) zero h = let z : ⊥ = omega arith in absurd z
variable_undeclared (k ∷ kinds) (suc v) h = variable_undeclared kinds v (omega arith)

-- ---- the target of an effect

module _ (vs : List Variable) (ts : List Table) (b : ℕ) (done : List Effect) (e : List ℕ) where
  pub target_cut : length e ≡ 0 → effect_target vs ts b done e ≡ refused ends_early
  unfolding effect_target ◌>>=◌ ◌>>◌ continue word byte
  target_cut h = go e h
    where
      go : (e : List ℕ) → length e ≡ 0 → effect_target vs ts b done e ≡ refused ends_early
      go [] h = refl
      go (v ∷ e) h = let z : ⊥ = omega arith in absurd z

  module _ (v : ℕ) (f : List ℕ) (starts : e ≡ v ∷ f) where
    pub target_again : any (λ g. eqb g.target v) done ≡ true → effect_target vs ts b done e ≡ refused off_limits
    unfolding effect_target ◌>>=◌ ◌>>◌ continue require after
    target_again h = rw (starts, word_one v f, h)

    pub target_undeclared : any (λ g. eqb g.target v) done ≡ false → get_elem? vs v ≡ O.none → effect_target vs ts b done e ≡ refused mismatch
    unfolding effect_target ◌>>=◌ ◌>>◌ continue require after declared refuse
    target_undeclared h n = rw (starts, word_one v f, h, n)

    pub target_good : any (λ g. eqb g.target v) done ≡ false → {x : Variable} → get_elem? vs v ≡ O.some x → effect_target vs ts b done e ≡ read (v, x) 1
    unfolding effect_target ◌>>=◌ ◌>>◌ continue require after declared give
    target_good h s = rw (starts, word_one v f, h, s)

-- ---- effects

module _ (names : Names) (bytes : List ℕ) (at n : ℕ) (marks : List Bool) (due : get_or bytes at 0 ≡ 0x0a) where
  abbrev kinds : List ℕ
  kinds = names.kinds.now

  abbrev vs : List Variable
  vs = variables_in names

  abbrev ts : List Table
  ts = tables_in names

  here : at < length bytes
  here = byte_inside bytes at 0x0a (omega arith) due

  is_due : eqb (get_or bytes at 0) 0x0a ≡ true
  is_due = eq-eqb (get_or bytes at 0) 0x0a due

  abbrev target : List Effect → Reader (ℕ × Variable)
  target items = effect_target vs ts (get_or bytes at 0) (reverse items)

  -- the room that is left tells by a head that is refused
  head_stops : (items : List Effect) {t : ℕ} → target items (drop (at + 1) bytes) ≡ refused t → read_at (effects_behind vs ts (most_variables - n) items) at bytes ≡ refused t
  head_stops items e = turn_head_refused (λ b. eqb b 0x0a) (effect_target vs ts) (effect_on vs ts) bytes most_variables n items at here is_due (refuses_at (target items) (at + 1) bytes e)

  pub effect_cut : length bytes ≤ at + 1 → (items : List Effect) → Marked vs ts marks items → read_at (effects_behind vs ts (most_variables - n) items) at bytes ≡ refused ends_early
  effect_cut h items m = head_stops items (target_cut vs ts _ (reverse items) (drop (at + 1) bytes) (omega (arith, length-drop (at + 1) bytes)))

  module _ (inside : at + 1 < length bytes) where
    starts : drop (at + 1) bytes ≡ get_or bytes (at + 1) 0 ∷ drop (at + 1 + 1) bytes
    starts = front bytes (at + 1) inside

    pub effect_again : true ≡ get_or marks (get_or bytes (at + 1) 0) false → (items : List Effect) → Marked vs ts marks items → read_at (effects_behind vs ts (most_variables - n) items) at bytes ≡ refused off_limits
    effect_again p items marked =
        head_stops items (target_again vs ts _ (reverse items) (drop (at + 1) bytes) (get_or bytes (at + 1) 0) _ starts (sym (marked (get_or bytes (at + 1) 0)) ∙ sym p))

    module _ (unmarked : false ≡ get_or marks (get_or bytes (at + 1) 0) false) where
      not_set : (items : List Effect) → Marked vs ts marks items → any (λ g. eqb g.target (get_or bytes (at + 1) 0)) (reverse items) ≡ false
      not_set items marked = sym (marked (get_or bytes (at + 1) 0)) ∙ sym unmarked

      pub effect_undeclared : length kinds ≤ get_or bytes (at + 1) 0 → (items : List Effect) → Marked vs ts marks items → read_at (effects_behind vs ts (most_variables - n) items) at bytes ≡ refused mismatch
      effect_undeclared h items marked =
          head_stops items (target_undeclared vs ts _ (reverse items) (drop (at + 1) bytes) (get_or bytes (at + 1) 0) _ starts (not_set items marked) (variable_undeclared kinds (get_or bytes (at + 1) 0) h))

      module _ (is_declared : get_or bytes (at + 1) 0 < length kinds) where
        abbrev x : Variable
        x = variable_of (get_or kinds (get_or bytes (at + 1) 0) 0)

        target_reads : (items : List Effect) → Marked vs ts marks items → read_at (target items) (at + 1) bytes ≡ read (get_or bytes (at + 1) 0, x) (at + 2)
        target_reads items marked =
            let p : at + 1 + 1 ≡ at + 2 = omega arith in
            reads_at (target items) (at + 1) bytes (target_good vs ts _ (reverse items) (drop (at + 1) bytes) (get_or bytes (at + 1) 0) _ starts (not_set items marked) (variable_declared kinds (get_or bytes (at + 1) 0) is_declared))
            ∙ ap (read (get_or bytes (at + 1) 0, x)) p

        pub effect_too_many : n ≡ 16 → (items : List Effect) → Marked vs ts marks items → read_at (effects_behind vs ts (most_variables - n) items) at bytes ≡ refused off_limits
        effect_too_many full items marked = turn_full (λ b. eqb b 0x0a) (effect_target vs ts) (effect_on vs ts) bytes most_variables n items at full here is_due (target_reads items marked)

        pub effect_refused : n < 16 → {t : Refusal} → Err t ≡ position_of (read_at (expression_for vs ts x.kind x.objects) (at + 2) bytes)
            → (items : List Effect) → Marked vs ts marks items → read_at (effects_behind vs ts (most_variables - n) items) at bytes ≡ refused (number_of t)
        unfolding effect_on one
        effect_refused less q items marked =
            turn_body_refused (λ b. eqb b 0x0a) (effect_target vs ts) (effect_on vs ts) bytes most_variables n items at less here is_due (target_reads items marked)
            (then_refused (expression_for vs ts x.kind x.objects) (at + 2) bytes _ (fair_refusal (expression_for vs ts x.kind x.objects) (at + 2) bytes (expression_for_fair vs ts x.kind x.objects) q))

        pub effect_more : n < 16 → length kinds ≤ 16 → {end : ℕ} → Ok end ≡ position_of (read_at (expression_for vs ts x.kind x.objects) (at + 2) bytes)
            → (items : List Effect) → Marked vs ts marks items → Changed vs ts bytes at n items (get_or bytes (at + 1) 0) end
        unfolding effect_on one
        effect_more less few {end} q items marked =
            let s = position_read (read_at (expression_for vs ts x.kind x.objects) (at + 2) bytes) q in
            let f : Effect = record { target = get_or bytes (at + 1) 0; result = s.0 } in
            record {
              effect = f;
              target = refl;
              declared = omega (arith, is_declared);
              room = less;
              going_on = turn (λ b. eqb b 0x0a) (effect_target vs ts) (effect_on vs ts) bytes most_variables n items at less here is_due (target_reads items marked)
                  (then_read (expression_for vs ts x.kind x.objects) (at + 2) bytes _ s.1 ∙ give_at f end bytes);
            }

-- ---- marks

module _ (vs : List Variable) (ts : List Table) where
  no_mark : (n v : ℕ) → get_or (replicate n false) v false ≡ false
  no_mark zero v = refl
  no_mark (suc n) zero = refl
  no_mark (suc n) (suc v) = no_mark n v

  pub none_marked : Marked vs ts (replicate 16 false) []
  unfolding any
  none_marked v = rw (no_mark 16 v)

  pub marked_more : (marks : List Bool) (items : List Effect) (f : Effect) (u : ℕ) → f.target ≡ u → u < length marks → Marked vs ts marks items → Marked vs ts (set marks u true) (items ++ (f ∷ []))
  unfolding any
  marked_more marks items f u t h m v = rw (reverse_more items f, t) (go (eqb u v) refl)
    where
      go : (b : Bool) → eqb u v ≡ b → get_or (set marks u true) v false ≡ (b || any (λ g. eqb g.target v) (reverse items))
      go true q = ap (λ (k : ℕ). get_or (set marks u true) k false) (sym (eqb-true u v q)) ∙ get_or-set_same marks u true false h
      go false q = get_or-set_other marks u v true false (λ r. eqb-false u v q (sym r)) ∙ m v

  -- so many effects are read, and the loop goes on at a position
  pub record EffectsSoFar (bytes : List ℕ) (start at n : ℕ) (marks : List Bool) : Type 0 where
    pub few : n ≤ 16
    pub marks_length : length marks ≡ 16
    pub items : List Effect
    pub marked : Marked vs ts marks items
    pub going_on : read_at (effects_behind vs ts (most_variables - n) items) at bytes ≡ read_at (effects_behind vs ts most_variables []) start bytes

pub no_effects : {vs : List Variable} {ts : List Table} {bytes : List ℕ} {start : ℕ} → EffectsSoFar vs ts bytes start start 0 (replicate 16 false)
no_effects {vs} {ts} = record { few = omega arith; marks_length = refl; items = []; marked = none_marked vs ts; going_on = refl }

module _ {vs : List Variable} {ts : List Table} {bytes : List ℕ} {start at n : ℕ} {marks : List Bool} (s : EffectsSoFar vs ts bytes start at n marks) where
  pub effects_more : {v end : ℕ} → ((items : List Effect) → Marked vs ts marks items → Changed vs ts bytes at n items v end) → EffectsSoFar vs ts bytes start end (n + 1) (set marks v true)
  effects_more {v} {end} h =
      let c = h s.items s.marked in
      record {
        few = omega (arith, c.room);
        marks_length = simp lib.ListN.length-set s.marks_length;
        items = s.items ++ (c.effect ∷ []);
        marked = marked_more vs ts marks s.items c.effect v c.target (omega (arith, c.declared, s.marks_length)) s.marked;
        going_on = sym c.going_on ∙ s.going_on;
      }

  pub effects_refused : {t : Refusal} → ((items : List Effect) → Marked vs ts marks items → read_at (effects_behind vs ts (most_variables - n) items) at bytes ≡ refused (number_of t))
      → Err t ≡ position_of (read_at (effects_behind vs ts most_variables []) start bytes)
  effects_refused {t} h = ap Err (sym (named_number t)) ∙ sym (ap position_of (sym s.going_on ∙ h s.items s.marked))

  pub effects_end : at < length bytes → (get_or bytes at 0 ≡ 0x0a → ⊥) → read_at (effects_behind vs ts most_variables []) start bytes ≡ read s.items at
  effects_end inside other =
      sym s.going_on ∙ turn_end (λ b. eqb b 0x0a) (effect_target vs ts) (effect_on vs ts) bytes most_variables n s.items at inside (ne_eqb (get_or bytes at 0) 0x0a other)

  pub effects_early : length bytes ≤ at → read_at (effects_behind vs ts most_variables []) start bytes ≡ refused ends_early
  effects_early h = sym s.going_on ∙ turn_early (λ b. eqb b 0x0a) (effect_target vs ts) (effect_on vs ts) bytes most_variables n s.items at h

-- ---- a command that may stand at a position, before any reader

module _ {A : Type 0} (c : ℕ) (r : Reader A) (at : ℕ) (bytes : List ℕ) where
  peek_at : at < length bytes → read_at peek at bytes ≡ read (get_or bytes at 0) at
  unfolding peek
  peek_at h = reads_at peek at bytes {k = 0} (rw (front bytes at h)) ∙ ap (read (get_or bytes at 0)) (add-zero at)

  byte_at : at < length bytes → read_at byte at bytes ≡ read (get_or bytes at 0) (at + 1)
  unfolding byte
  byte_at h = reads_at byte at bytes (rw (front bytes at h))

  -- by the test of the byte that stands there
  abbrev chosen : Bool → Reader (Option A)
  chosen b = cond b (byte >> one r some) (give none)

  by_test : at < length bytes → {b : Bool} → eqb (get_or bytes at 0) c ≡ b → read_at (optional c r) at bytes ≡ read_at (chosen b) at bytes
  unfolding optional
  by_test h e = then_read peek at bytes (λ b. chosen (eqb b c)) (peek_at h) ∙ ap (λ (b : Bool). read_at (chosen b) at bytes) e

  pub optional_there : get_or bytes at 0 ≡ c → at < length bytes → position_of (read_at r (at + 1) bytes) ≡ position_of (read_at (optional c r) at bytes)
  unfolding one
  optional_there e h = sym (ap position_of (by_test h (eq-eqb (get_or bytes at 0) c e) ∙ next_read byte at bytes (one r some) (byte_at h)) ∙ given_at r (at + 1) bytes some)

  pub optional_other : (get_or bytes at 0 ≡ c → ⊥) → at < length bytes → read_at (optional c r) at bytes ≡ read none at
  optional_other e h = by_test h (ne_eqb (get_or bytes at 0) c e) ∙ give_at none at bytes

  pub optional_early : length bytes ≤ at → read_at (optional c r) at bytes ≡ refused ends_early
  unfolding optional peek
  optional_early h = then_refused peek at bytes (λ b. chosen (eqb b c)) (refuses_at peek at bytes (rw (nothing bytes at h)))

-- ---- what a step costs, and the whole transition

module _ (vs : List Variable) (ts : List Table) where
  module _ (at : ℕ) (bytes : List ℕ) where
    abbrev behind_number : Number → Reader StepCosts
    behind_number c = optional 0x10 (number vs ts most_nesting) >>= λ h. give (record { cost = c; high = h })

    pub costs_refused : {t : Refusal} → Err t ≡ position_of (read_at (command 0x09) at bytes) → Err t ≡ position_of (read_at (costs vs ts) at bytes)
    unfolding costs
    costs_refused q =
        let h = position_refused (read_at (command 0x09) at bytes) q in
        ap Err h.2 ∙ sym (ap position_of (next_refused (command 0x09) at bytes (number vs ts most_nesting >>= behind_number) h.1))

    module _ {p : ℕ} (first : Ok p ≡ position_of (read_at (command 0x09) at bytes)) where
      after_command : read_at (costs vs ts) at bytes ≡ read_at (number vs ts most_nesting >>= behind_number) p bytes
      unfolding costs
      after_command = next_read (command 0x09) at bytes (number vs ts most_nesting >>= behind_number) (position_read (read_at (command 0x09) at bytes) first).1

      pub costs_number_refused : {t : Refusal} → Err t ≡ position_of (read_at (number vs ts most_nesting) p bytes) → Err t ≡ position_of (read_at (costs vs ts) at bytes)
      costs_number_refused q =
          let h = position_refused (read_at (number vs ts most_nesting) p bytes) q in
          ap Err h.2 ∙ sym (ap position_of (after_command ∙ then_refused (number vs ts most_nesting) p bytes behind_number h.1))

      pub costs_read : {q : ℕ} → Ok q ≡ position_of (read_at (number vs ts most_nesting) p bytes) → position_of (read_at (optional 0x10 (number vs ts most_nesting)) q bytes) ≡ position_of (read_at (costs vs ts) at bytes)
      costs_read {q} second =
          let n = position_read (read_at (number vs ts most_nesting) p bytes) second in
          sym (ap position_of (after_command ∙ then_read (number vs ts most_nesting) p bytes behind_number n.1) ∙ given_at (optional 0x10 (number vs ts most_nesting)) q bytes _)

    abbrev behind_costs : List Condition → StepCosts → Reader Transition
    behind_costs cs k = effects_behind vs ts most_variables [] >>= λ es. give (record { conditions = cs; costs = k; effects = es })

    abbrev behind_conditions : List Condition → Reader Transition
    behind_conditions cs = costs vs ts >>= λ k. behind_costs cs k

    pub transition_conditions_refused : {t : Refusal} → Err t ≡ position_of (read_at (conditions vs ts) at bytes) → Err t ≡ position_of (read_at (transition vs ts) at bytes)
    unfolding transition
    transition_conditions_refused q =
        let h = position_refused (read_at (conditions vs ts) at bytes) q in
        ap Err h.2 ∙ sym (ap position_of (then_refused (conditions vs ts) at bytes behind_conditions h.1))

    module _ {p : ℕ} (first : Ok p ≡ position_of (read_at (conditions vs ts) at bytes)) where
      after_conditions : (cs : List Condition) × (read_at (transition vs ts) at bytes ≡ read_at (behind_conditions cs) p bytes)
      unfolding transition
      after_conditions = let c = position_read (read_at (conditions vs ts) at bytes) first in (c.0, then_read (conditions vs ts) at bytes behind_conditions c.1)

      pub transition_costs_refused : {t : Refusal} → Err t ≡ position_of (read_at (costs vs ts) p bytes) → Err t ≡ position_of (read_at (transition vs ts) at bytes)
      transition_costs_refused q =
          let h = position_refused (read_at (costs vs ts) p bytes) q in
          ap Err h.2 ∙ sym (ap position_of (after_conditions.1 ∙ then_refused (costs vs ts) p bytes (behind_costs after_conditions.0) h.1))

      pub transition_effects : {q : ℕ} → Ok q ≡ position_of (read_at (costs vs ts) p bytes) → position_of (read_at (effects_behind vs ts most_variables []) q bytes) ≡ position_of (read_at (transition vs ts) at bytes)
      transition_effects {q} second =
          let n = position_read (read_at (costs vs ts) p bytes) second in
          sym (ap position_of (after_conditions.1 ∙ then_read (costs vs ts) p bytes (behind_costs after_conditions.0) n.1) ∙ given_at (effects_behind vs ts most_variables []) q bytes _)
