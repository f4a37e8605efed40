-- Base cases, conjuncts of the constraints and bounds by their number: what is left of them, and the answers at the end.
use Prim.Native.Nat.{ℕ, ◌+◌, ◌-◌, ◌*◌, ◌≤◌, ◌<◌}
use mathlib.Core.Path.{◌≡◌, refl, sym, ap, ◌∙◌}
use mathlib.Core.Bool.{Bool, true, false, cond}
use mathlib.Core.List.{List, [], ◌∷◌}
use native.Mathlib.Omega.{arith}
use lib.ListN.{length, get_or, drop, drop_of_length-le}
use lib.IntN.{ℤ}
use lib.Signed.{mag}
use Rattle.std.specs.Prelude.{Result, Ok, Err, Some}
use Rattle.eval_sets.specs.declared.answers.Told.{Told}
use Rattle.model.specs.Numbers.{range_end, most_nesting}
use Rattle.model.specs.Values.{Value, value, trouble, ◌>>=◌}
use Rattle.model.specs.Syntax.{Number, Condition}
use Rattle.model.specs.Expressions as reading
use Rattle.model.specs.Commands.{conditions}
use Rattle.model.specs.Meaning.{number_value, condition_value, all_hold, some_holds}
use Rattle.model.specs.Steps.{admits, status_of, status, raise, greatest, bound_hours, system_of}
use Rattle.outline.specs.Outline.{model_of, base_cases_from, bounds_from}
use Rattle.prepare.specs.Layout.{conjuncts_from, conjunct_count_at}
use Rattle.prepare.specs.Guards.{passes, guard_in}
use Rattle.prepare.specs.Prepared.{Conjuncts}
use Rattle.eval_sets.specs.declared.troubles.Trouble.{Trouble}
use Rattle.eval_sets.specs.declared.answers.ConditionValue.{ConditionValue}
use Rattle.eval_sets.specs.declared.answers.ConditionValue.TheVariants as C
use Rattle.eval_sets.specs.Answers.{NumberValue, told, number_answer}
use Rattle.eval_sets.specs.Bounds.{NumberWithin}
use Rattle.steps.specs.declared.answers.HeldAnswer.{HeldAnswer}
use Rattle.steps.specs.declared.answers.HeldAnswer.TheVariants as H
use Rattle.steps.specs.declared.answers.Status.TheVariants as S
use Rattle.steps.specs.InBytes.{Outlined, state_in, system_in, bound_in}
use Rattle.steps.specs.Answers.{result_of, IsTrouble, held_answer, status_answer}
use Rattle.quick.specs.Quick.{QuickSays}
use Rattle.quick.specs.Sums.{bound_place, BoundTold}
use Rattle.quick.proofs.Totals.{number_is}
use Rattle.steps.specs.Says.{ConditionSays, NumberSays, BoundSays, HeldSays, ConjunctSays, TestedSays}
use Rattle.prepare.proofs.Items.{Nth, nth_of, Item, item_at}
use Rattle.steps.proofs.Holding.{condition_holds, condition_troubles}

-- ---- answers taken apart

pub all_held : (v : Value Bool) (n : ℕ) {k : ℕ} → held_answer v n ≡ H.All k → (v ≡ value true) × (n ≡ k)
unfolding held_answer
all_held (value true) n e = (refl, cc)
all_held (value false) n e = let z : ◌≡◌ {A = ℕ} 0 1 = cc in absurd (omega arith)
all_held (trouble t) n e = let z : ◌≡◌ {A = ℕ} 0 1 = cc in absurd (omega arith)

pub one_fails : (v : Value Bool) (n : ℕ) → held_answer v n ≡ H.Fails → v ≡ value false
unfolding held_answer
one_fails (value true) n e = let z : ◌≡◌ {A = ℕ} 0 1 = cc in absurd (omega arith)
one_fails (value false) n e = refl
one_fails (trouble t) n e = let z : ◌≡◌ {A = ℕ} 0 1 = cc in absurd (omega arith)

pub one_troubles : (v : Value Bool) (n : ℕ) {t : Trouble} → held_answer v n ≡ H.Trouble t → IsTrouble v t
unfolding held_answer
one_troubles (value true) n e = let z : ◌≡◌ {A = ℕ} 0 1 = cc in absurd (omega arith)
one_troubles (value false) n e = let z : ◌≡◌ {A = ℕ} 0 1 = cc in absurd (omega arith)
one_troubles (trouble t) n e = (t, refl, cc)

pub number_troubles : (v : Value ℤ) (n : ℕ) {t : Trouble} → number_answer v n ≡ Err t → IsTrouble v t
unfolding number_answer
number_troubles (value a) n e = let z : ◌≡◌ {A = ℕ} 0 1 = cc in absurd (omega arith)
number_troubles (trouble t) n e = (t, refl, cc)

pub is_result : {A : Type 0} (v : Value A) {a : A} → result_of v ≡ Ok a → v ≡ value a
unfolding result_of
is_result (value a) e = cc
is_result (trouble t) e = let z : ◌≡◌ {A = ℕ} 0 1 = cc in absurd (omega arith)

pub result_troubles : {A : Type 0} (v : Value A) {t : Trouble} → result_of v ≡ Err t → IsTrouble v t
unfolding result_of
result_troubles (value a) e = let z : ◌≡◌ {A = ℕ} 0 1 = cc in absurd (omega arith)
result_troubles (trouble t) e = (t, refl, cc)

pub value_within : (l : ℕ) {r : NumberValue} {z : Told ℤ} → r ≡ Ok z → NumberWithin l r → (mag z.value < range_end) × (z.used ≤ l)
value_within l e w = rw e at w

-- ---- items tried in order, to the first that decides

-- an item's value; what it comes to, those behind it given; and the whole list
record Trial (A B R : Type 0) : Type 0 where
  value_of : A → Value B
  then_on : B → List A → Value R
  tried : List A → Value R
  one : (x : A) (xs : List A) → tried (x ∷ xs) ≡ (value_of x >>= λ b. then_on b xs)

module _ {A B R : Type 0} (t : Trial A B R) (l : List A) (k : ℕ) {whole : Value R} (left : whole ≡ t.tried (drop k l)) where
  none_left : length l ≤ k → whole ≡ t.tried []
  none_left h = left ∙ ap t.tried (drop_of_length-le l h)

  module _ {x : A} (rest : drop k l ≡ x ∷ drop (k + 1) l) where
    one_left : whole ≡ (t.value_of x >>= λ b. t.then_on b (drop (k + 1) l))
    one_left = left ∙ ap t.tried rest ∙ t.one x (drop (k + 1) l)

    with_value : {b : B} → t.value_of x ≡ value b → whole ≡ t.then_on b (drop (k + 1) l)
    unfolding ◌>>=◌
    with_value e = one_left ∙ rw e

    with_trouble : {n : ℕ} → t.value_of x ≡ trouble n → whole ≡ trouble n
    unfolding ◌>>=◌
    with_trouble e = one_left ∙ rw e

module _ (bytes state : List ℕ) where
  base_cases_placed : Trial (List Condition) Bool Bool
  base_cases_placed = record {
    value_of = λ c. all_hold range_end (model_of bytes).tables c (state_in bytes state);
    then_on = λ holds cs. cond holds (value true) (some_holds range_end (model_of bytes).tables cs (state_in bytes state));
    tried = λ cs. some_holds range_end (model_of bytes).tables cs (state_in bytes state);
    one = λ c cs. unfold some_holds in refl;
  }

  conjuncts : Trial Condition Bool Bool
  conjuncts = record {
    value_of = λ c. condition_value range_end (model_of bytes).tables c (state_in bytes state);
    then_on = λ holds cs. cond holds (all_hold range_end (model_of bytes).tables cs (state_in bytes state)) (value false);
    tried = λ cs. all_hold range_end (model_of bytes).tables cs (state_in bytes state);
    one = λ c cs. unfold all_hold in refl;
  }

  -- h: the greatest so far
  bounds_from_lem : (h : ℕ) → Trial Number ℤ ℕ
  bounds_from_lem h = record {
    value_of = λ b. number_value range_end (model_of bytes).tables b (state_in bytes state);
    then_on = λ z bs. greatest range_end (model_of bytes) bs (state_in bytes state) (raise h z);
    tried = λ bs. greatest range_end (model_of bytes) bs (state_in bytes state) h;
    one = λ b bs. unfold greatest in refl;
  }

-- ---- base cases

module _ (bytes : List ℕ) where
  -- base case and bound k stand at a place
  abbrev pub CaseAt : (k at : ℕ) → Type 0
  CaseAt k at = Item (conditions (model_of bytes).variables (model_of bytes).tables) bytes (model_of bytes).base_cases k at

  abbrev pub BoundAt : (k at : ℕ) → Type 0
  BoundAt k at = Item (reading.number (model_of bytes).variables (model_of bytes).tables most_nesting) bytes (model_of bytes).bounds k at

module _ {bytes words : List ℕ} (o : Outlined bytes words) {k at : ℕ} where
  pub case_at : k < length (model_of bytes).base_cases → at ≡ get_or words (base_cases_from + k) 0 → CaseAt bytes k at
  case_at = item_at o.outlines.base_cases_placed

  pub bound_at : k < length (model_of bytes).bounds → at ≡ get_or words (bounds_from + k) 0 → BoundAt bytes k at
  bound_at = item_at o.outlines.bounds

-- those before k do not hold
abbrev pub Seeking : (bytes state : List ℕ) (k : ℕ) → Type 0
Seeking bytes state k = some_holds range_end (model_of bytes).tables (model_of bytes).base_cases (state_in bytes state) ≡ some_holds range_end (model_of bytes).tables (drop k (model_of bytes).base_cases) (state_in bytes state)

module _ (bytes state : List ℕ) (k : ℕ) (passed : Seeking bytes state k) where
  pub seeking_last : length (model_of bytes).base_cases ≤ k → Ok S.Unfinished ≡ status_answer ((system_in bytes).status (state_in bytes state))
  unfolding system_of status status_of status_answer some_holds base_cases_placed
  seeking_last h = rw (none_left (base_cases_placed bytes state) (model_of bytes).base_cases k passed h)

  module _ {at : ℕ} (i : CaseAt bytes k at) (r : HeldAnswer) (says : HeldSays bytes at state r) where
    abbrev case : Value Bool
    case = all_hold range_end (model_of bytes).tables i.item (state_in bytes state)

    case_said : held_answer case (at + i.used) ≡ r
    case_said = sym (says i.item i.used i.reads)

    with_case : {b : Bool} → case ≡ value b → some_holds range_end (model_of bytes).tables (model_of bytes).base_cases (state_in bytes state) ≡ cond b (value true) (some_holds range_end (model_of bytes).tables (drop (k + 1) (model_of bytes).base_cases) (state_in bytes state))
    unfolding base_cases_placed
    with_case = with_value (base_cases_placed bytes state) (model_of bytes).base_cases k passed i.rest

    pub seeking_more : r ≡ H.Fails → Seeking bytes state (k + 1)
    seeking_more e = with_case (one_fails case (at + i.used) (case_said ∙ e))

    pub seeking_base : {n : ℕ} → r ≡ H.All n → Ok S.Base ≡ status_answer ((system_in bytes).status (state_in bytes state))
    unfolding system_of status status_of status_answer
    seeking_base e = rw (with_case (all_held case (at + i.used) (case_said ∙ e)).0)

    pub seeking_troubles : {t : Trouble} → r ≡ H.Trouble t → Err t ≡ status_answer ((system_in bytes).status (state_in bytes state))
    unfolding system_of status status_of status_answer base_cases_placed
    seeking_troubles e =
        let p = one_troubles case (at + i.used) (case_said ∙ e) in
        rw (with_trouble (base_cases_placed bytes state) (model_of bytes).base_cases k passed i.rest p.1) (ap Err p.2)

-- ---- a condition, in place or by the evaluators

module _ (bytes : List ℕ) (at : ℕ) (state : List ℕ) where
  module _ {words : List ℕ} (o : Outlined bytes words) {b : Bool} (says : QuickSays bytes at words state (Some b)) where
    pub quick_told : TestedSays bytes at state (Ok b)
    unfolding result_of
    quick_told x n reads = rw (says x n o.outlines reads)

  module _ (r : ConditionValue) (says : ConditionSays bytes at state r) where
    pub tested_told : {b : Bool} {n : ℕ} → r ≡ C.Holds b n → TestedSays bytes at state (Ok b)
    unfolding result_of
    tested_told f x n reads = rw (condition_holds _ n (sym (says x n reads) ∙ f)).0

    pub tested_troubles : {t : Trouble} → r ≡ C.Trouble t → TestedSays bytes at state (Err t)
    unfolding result_of
    tested_troubles f x n reads = let p = condition_troubles _ n (sym (says x n reads) ∙ f) in rw p.1 (ap Err p.2)

-- ---- a conjunct of the constraints

module _ (bytes words : List ℕ) (k : ℕ) (state : List ℕ) where
  abbrev guard_passes : Bool
  guard_passes = passes (guard_in words (conjuncts_from + 4 * k)) state

  pub conjunct_passed_over : false ≡ guard_passes → ConjunctSays bytes words k state (Ok true)
  unfolding result_of
  conjunct_passed_over e x c = rw (c.decides state, ← e)

  -- the condition behind the guard has the conjunct's value
  pub conjunct_tried : true ≡ guard_passes → {at : ℕ} → at ≡ get_or words (conjuncts_from + 4 * k + 3) 0 → (r : Result Bool Trouble) → TestedSays bytes at state r → ConjunctSays bytes words k state r
  unfolding guard_in
  conjunct_tried e stands r says x c =
      let same : condition_value range_end (model_of bytes).tables x (state_in bytes state) ≡ condition_value range_end (model_of bytes).tables c.part (state_in bytes state) = c.decides state ∙ rw (← e) in
      rw same (says c.part c.used (rw stands c.reads))

module _ {bytes words : List ℕ} (o : Outlined bytes words) {k : ℕ} (h : k < get_or words conjunct_count_at 0) where
  -- what is read behind the guard stands in the bytes
  pub conjunct_inside : {at : ℕ} → at ≡ get_or words (conjuncts_from + 4 * k + 3) 0 → at ≤ length bytes
  unfolding guard_in
  conjunct_inside stands =
      let parted = o.prepared.conjuncts in
      let n = nth_of parted.parts k (omega (arith, h, parted.count)) in
      rw stands (parted.placed k n.nth n.found).inside

-- ---- constraints, conjunct by conjunct

abbrev pub constraints_in : (bytes state : List ℕ) → Value Bool
constraints_in bytes state = (system_in bytes).admits (state_in bytes state)

-- those before k hold
pub record Meeting (bytes words state : List ℕ) (k : ℕ) : Type 0 where
  pub parted : Conjuncts bytes words (model_of bytes)
  pub left : constraints_in bytes state ≡ all_hold range_end (model_of bytes).tables (drop k parted.parts) (state_in bytes state)

pub meeting_first : {bytes words : List ℕ} → Outlined bytes words → (state : List ℕ) → Meeting bytes words state 0
unfolding system_of admits
meeting_first {bytes} o state = record { parted = o.prepared.conjuncts; left = o.prepared.conjuncts.same (state_in bytes state) }

module _ {bytes words state : List ℕ} {k : ℕ} (passed : Meeting bytes words state k) where
  abbrev parts : List Condition
  parts = passed.parted.parts

  pub meeting_last : get_or words conjunct_count_at 0 ≤ k → Ok true ≡ result_of (constraints_in bytes state)
  unfolding result_of all_hold conjuncts
  meeting_last h = rw (none_left (conjuncts bytes state) parts k passed.left (omega (arith, h, passed.parted.count)))

  module _ (h : k < get_or words conjunct_count_at 0) (r : Result Bool Trouble) (says : ConjunctSays bytes words k state r) where
    there : Nth parts k
    there = nth_of parts k (omega (arith, h, passed.parted.count))

    abbrev conjunct : Value Bool
    conjunct = condition_value range_end (model_of bytes).tables there.nth (state_in bytes state)

    conjunct_said : result_of conjunct ≡ r
    conjunct_said = sym (says there.nth (passed.parted.placed k there.nth there.found))

    with_conjunct : {b : Bool} → conjunct ≡ value b → constraints_in bytes state ≡ cond b (all_hold range_end (model_of bytes).tables (drop (k + 1) parts) (state_in bytes state)) (value false)
    unfolding conjuncts
    with_conjunct = with_value (conjuncts bytes state) parts k passed.left there.rest

    with_truth : {b : Bool} → r ≡ Ok b → constraints_in bytes state ≡ cond b (all_hold range_end (model_of bytes).tables (drop (k + 1) parts) (state_in bytes state)) (value false)
    with_truth e = with_conjunct (is_result conjunct (conjunct_said ∙ e))

    pub meeting_more : {b : Bool} → r ≡ Ok b → b ≡ true → Meeting bytes words state (k + 1)
    meeting_more e y = record { parted = passed.parted; left = rw y at (with_truth e) }

    pub meeting_fails : {b : Bool} → r ≡ Ok b → b ≡ false → Ok false ≡ result_of (constraints_in bytes state)
    unfolding result_of
    meeting_fails e y = rw (with_truth e, y)

    pub meeting_troubles : {t : Trouble} → r ≡ Err t → Err t ≡ result_of (constraints_in bytes state)
    unfolding result_of conjuncts
    meeting_troubles e =
        let p = result_troubles conjunct (conjunct_said ∙ e) in
        rw (with_trouble (conjuncts bytes state) parts k passed.left there.rest p.1) (ap Err p.2)

-- ---- bounds

-- a bound, in place or by the evaluators
module _ {bytes words : List ℕ} (o : Outlined bytes words) (state : List ℕ) (k : ℕ) where
  pub bound_in_place : (z : ℤ) → BoundTold bytes (bound_place words k) words state z → mag z < range_end → BoundSays bytes words state k (told z 0)
  unfolding number_answer
  bound_in_place z says l = record { told = λ x n reads. (0, rw (says x n o.outlines reads l)); within = (l, omega arith) }

  pub bound_evaluated : (r : NumberValue) → NumberSays bytes (bound_place words k) state r → NumberWithin (length bytes - bound_place words k) r → BoundSays bytes words state k r
  bound_evaluated r says within = record { told = λ x n reads. (n, says x n reads); within = within }

-- h is the greatest of those before k
abbrev pub Raising : (bytes state : List ℕ) (k h : ℕ) → Type 0
Raising bytes state k h = bound_in bytes (state_in bytes state) ≡ greatest range_end (model_of bytes) (drop k (model_of bytes).bounds) (state_in bytes state) h

pub raising_first : (bytes state : List ℕ) → Raising bytes state 0 0
unfolding bound_hours
raising_first bytes state = refl

module _ (bytes state : List ℕ) (k h : ℕ) (passed : Raising bytes state k h) where
  pub raising_last : length (model_of bytes).bounds ≤ k → Ok h ≡ result_of (bound_in bytes (state_in bytes state))
  unfolding result_of greatest bounds_from_lem
  raising_last l = rw (none_left (bounds_from_lem bytes state h) (model_of bytes).bounds k passed l)

  module _ {words : List ℕ} (o : Outlined bytes words) (more : k < length (model_of bytes).bounds) (r : NumberValue) (says : BoundSays bytes words state k r) where
    placed : BoundAt bytes k (bound_place words k)
    placed = bound_at o more refl

    abbrev number : Value ℤ
    number = number_value range_end (model_of bytes).tables placed.item (state_in bytes state)

    number_said : (used : ℕ) × (number_answer number used ≡ r)
    number_said = let s = says.told placed.item placed.used placed.reads in (s.0, sym s.1)

    pub raising_more : {z : Told ℤ} → r ≡ Ok z → Raising bytes state (k + 1) (raise h z.value)
    unfolding bounds_from_lem
    raising_more e = with_value (bounds_from_lem bytes state h) (model_of bytes).bounds k passed placed.rest (number_is number number_said.0 (number_said.1 ∙ e)).0

    pub raising_troubles : {t : Trouble} → r ≡ Err t → Err t ≡ result_of (bound_in bytes (state_in bytes state))
    unfolding result_of bounds_from_lem
    raising_troubles e =
        let p = number_troubles number number_said.0 (number_said.1 ∙ e) in
        rw (with_trouble (bounds_from_lem bytes state h) (model_of bytes).bounds k passed placed.rest p.1) (ap Err p.2)
