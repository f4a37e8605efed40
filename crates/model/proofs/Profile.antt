-- The loading profile: its forms as trees, and what they do. Every step takes one member out of set variable 0, and a state without members
-- there is a base state; so no unfinished state lies as many steps away as there are start members.
use Prim.Native.Nat.{ℕ, zero, suc, ◌+◌, ◌^◌, ◌≤◌, ◌<◌}
use mathlib.Core.Path.{◌≡◌, refl, sym, ◌∙◌, ap}
use mathlib.Core.Bool.{Bool, true, false, not, ◌&&◌, false≢true}
use mathlib.Core.List.{List, [], ◌∷◌, map}
use mathlib.Core.Option.{Option, none, some}
use native.Mathlib.Omega.{arith}
use lib.ListN.{length, get_elem?, set, length-set}
use lib.Seq.{get_or-set_same, get_or-set_other}
use lib.Dec.{eqb}
use lib.IntN.{ℤ, pos}
use lib.Signed.{mag}
use borrow.Author.Tests.{eqb-true, eqb-false}
use Rattle.laws.specs.Lists.{any, filter, All}
use Rattle.laws.proofs.Bools.{by_cond, and_both, not_true, not_false}
use Rattle.laws.proofs.Lists.{Some, here, there, any_some, any_none}
use Rattle.model.specs.Numbers.{most_objects}
use Rattle.model.specs.Values.{Value, value, ◌>>=◌}
use Rattle.model.specs.Sets.{is_member, difference}
use Rattle.model.specs.System.{unfinished}
use Rattle.model.specs.Plans.{InLayer, first, next, OpenAt}
use Rattle.model.specs.Syntax.{Element, object, element_variable, Set, some_of, set_variable, add, remove, union, intersection, difference as without, complement, Condition, equal, less, at_most, same, member, is_empty, subset, negation, both, either, Expression, of_set, of_element, of_number, Kind, a_set, an_element, a_number, Variable, Table, Effect, Transition, Model}
use Rattle.model.specs.Readers.{read}
use Rattle.model.specs.Expressions.{kind_number}
use Rattle.model.specs.Commands.{model}
use Rattle.model.specs.declared.Cost.{Cost}
use Rattle.model.specs.Meaning.{State, number_at, natural_at, element_value, set_value, condition_value, expression_value, all_hold, some_holds}
use Rattle.model.specs.Steps.{target, status_of, status, effects, system_of}
use Rattle.model.specs.Profile.{of_only, is_variable_zero, object_beside, required_object, removed_by, removed_object, same_object, loads, begins_with_set, asks_for_empty, ends_empty, in_profile, loading_length}
use Rattle.model.proofs.Taken.{bind_value, all_found, Takes, step_takes}
use Rattle.model.proofs.Starts.{Starts, model_starts}
use Rattle.model.proofs.Sizes.{size, size_within, size_zero, size_removed}
use Rattle.model.proofs.Declared.{reached_size}

-- ---- the forms, as trees

no_object : {X : Type 0} {k : ℕ} → ◌≡◌ {A = Option ℕ} none (some k) → X
no_object e = let z : ◌≡◌ {A = ℕ} 0 1 = cc in absurd (omega arith)

pub variable_zero_is : (x : Set) → is_variable_zero x ≡ true → (n : ℕ) × (x ≡ set_variable n 0)
unfolding is_variable_zero
variable_zero_is (some_of n w) e = absurd (false≢true e)
variable_zero_is (set_variable n v) e = (n, ap (set_variable n) (eqb-true v 0 e))
variable_zero_is (add i x) e = absurd (false≢true e)
variable_zero_is (remove i x) e = absurd (false≢true e)
variable_zero_is (union x y) e = absurd (false≢true e)
variable_zero_is (intersection x y) e = absurd (false≢true e)
variable_zero_is (without x y) e = absurd (false≢true e)
variable_zero_is (complement x) e = absurd (false≢true e)

object_beside_is : (i : Element) (x : Set) {k : ℕ} → object_beside i x ≡ some k → (n : ℕ) × (i ≡ object k) × (x ≡ set_variable n 0)
unfolding object_beside
object_beside_is (object j) x {k} e =
    by_cond (λ (o : Option ℕ). o ≡ some k → (n : ℕ) × (object j ≡ object k) × (x ≡ set_variable n 0)) (is_variable_zero x)
    (λ zero_set same. let (n, is) = variable_zero_is x zero_set in (n, cc, is)) (λ _. no_object) e
object_beside_is (element_variable n v) x e = no_object e

-- 54 30 k 41 00
pub required_is : (c : Condition) {k : ℕ} → required_object c ≡ some k → (n : ℕ) × (c ≡ member (object k) (set_variable n 0))
unfolding required_object
required_is (equal x y) e = no_object e
required_is (less x y) e = no_object e
required_is (at_most x y) e = no_object e
required_is (same i j) e = no_object e
required_is (member i x) e = let (n, at, of) = object_beside_is i x e in (n, cc)
required_is (is_empty x) e = no_object e
required_is (subset x y) e = no_object e
required_is (negation c) e = no_object e
required_is (both c d) e = no_object e
required_is (either c d) e = no_object e

-- 43 30 k 41 00
pub removed_is : (x : Expression) {k : ℕ} → removed_by x ≡ some k → (n : ℕ) × (x ≡ of_set (remove (object k) (set_variable n 0)))
unfolding removed_by
removed_is (of_set (some_of n w)) e = no_object e
removed_is (of_set (set_variable n v)) e = no_object e
removed_is (of_set (add i x)) e = no_object e
removed_is (of_set (remove i x)) e = let (n, at, of) = object_beside_is i x e in (n, cc)
removed_is (of_set (union x y)) e = no_object e
removed_is (of_set (intersection x y)) e = no_object e
removed_is (of_set (without x y)) e = no_object e
removed_is (of_set (complement x)) e = no_object e
removed_is (of_element i) e = no_object e
removed_is (of_number x) e = no_object e

-- 55 41 00
pub empty_is : (c : Condition) → asks_for_empty c ≡ true → (n : ℕ) × (c ≡ is_empty (set_variable n 0))
unfolding asks_for_empty
empty_is (equal x y) e = absurd (false≢true e)
empty_is (less x y) e = absurd (false≢true e)
empty_is (at_most x y) e = absurd (false≢true e)
empty_is (same i j) e = absurd (false≢true e)
empty_is (member i x) e = absurd (false≢true e)
empty_is (is_empty x) e = let (n, is) = variable_zero_is x e in (n, ap is_empty is)
empty_is (subset x y) e = absurd (false≢true e)
empty_is (negation c) e = absurd (false≢true e)
empty_is (both c d) e = absurd (false≢true e)
empty_is (either c d) e = absurd (false≢true e)

only_is : {A B : Type 0} (f : A → B) (b : B) (l : List A) {y : B} → of_only f b l ≡ y → (b ≡ y → ⊥) → (x : A) × (l ≡ x ∷ []) × (f x ≡ y)
unfolding of_only
only_is f b [] e other = absurd (other e)
only_is f b (x ∷ []) e other = (x, refl, e)
only_is f b (x ∷ y ∷ l) e other = absurd (other e)

-- one base case, with one condition: 55 41 00
pub ends_empty_is : (bs : List (List Condition)) → ends_empty bs ≡ true → (n : ℕ) × (bs ≡ (is_empty (set_variable n 0) ∷ []) ∷ [])
unfolding ends_empty
ends_empty_is bs e =
    let (b, one-case, in-case) = only_is (of_only asks_for_empty false) false bs e false≢true in
    let (c, one-condition, asks) = only_is asks_for_empty false b in-case false≢true in
    let (n, is) = empty_is c asks in
    (n, cc)

same_object_is : (x y : Option ℕ) → same_object x y ≡ true → (k : ℕ) × (x ≡ some k) × (y ≡ some k)
unfolding same_object
same_object_is none y e = absurd (false≢true e)
same_object_is (some j) none e = absurd (false≢true e)
same_object_is (some j) (some k) e = (k, ap some (eqb-true j k e), refl)

-- ---- what they do in a state

module _ (end : ℕ) (tables : List Table) (s : State) where
  both_hold : (c : Condition) (cs : List Condition) → all_hold end tables (c ∷ cs) s ≡ value true → (condition_value end tables c s ≡ value true) × (all_hold end tables cs s ≡ value true)
  unfolding all_hold
  both_hold c cs e =
      let (b, is, rest) = bind_value (condition_value end tables c s) _ e in
      by_cond (λ (x : Value Bool). x ≡ value true → (condition_value end tables c s ≡ value true) × (all_hold end tables cs s ≡ value true)) b
      (λ t held. (rw t at is, held)) (λ _ held. let z : ◌≡◌ {A = Bool} false true = cc in absurd (false≢true z)) rest

  -- where all hold, so does a certain one
  one_holds : (P : Condition → Type 0) (cs : List Condition) → Some P cs → all_hold end tables cs s ≡ value true → (c : Condition) × P c × (condition_value end tables c s ≡ value true)
  one_holds P [] x'' e = elim x'' [ ]
  one_holds P (c ∷ cs) (here p) e = (c, p, (both_hold c cs e).0)
  one_holds P (c ∷ cs) (there i) e = one_holds P cs i (both_hold c cs e).1

  required_member : (c : Condition) {k : ℕ} → required_object c ≡ some k → condition_value end tables c s ≡ value true → is_member k (natural_at s 0) ≡ true
  unfolding condition_value element_value set_value
  required_member c e h = let (n, is) = required_is c e in let held = rw is at h in cc

  removed_value : (x : Expression) {k : ℕ} → removed_by x ≡ some k → expression_value end tables x s ≡ value (pos (difference (natural_at s 0) (2 ^ k)))
  unfolding expression_value element_value set_value
  removed_value x e = let (n, is) = removed_is x e in rw is

  empty_holds : (bs : List (List Condition)) → ends_empty bs ≡ true → natural_at s 0 ≡ 0 → some_holds end tables bs s ≡ value true
  unfolding some_holds all_hold ◌>>=◌ condition_value set_value
  empty_holds bs e none_left = let (n, is) = ends_empty_is bs e in rw (is, none_left)

-- ---- the model

-- what being in the profile says
pub record InProfile (m : Model) : Type 0 where
  pub begins : begins_with_set m.variables ≡ true
  pub all_load : All (λ t. not (loads t) ≡ false) m.transitions
  pub ends : ends_empty m.base_cases ≡ true

pub in_profile_lem : (m : Model) → in_profile m ≡ true → InProfile m
unfolding in_profile
in_profile_lem m e =
    let b : Bool = begins_with_set m.variables in
    let l : Bool = not (any (λ t. not (loads t)) m.transitions) in
    let (first_two, ends) = and_both (b && l) (ends_empty m.base_cases) e in
    let (begins, load) = and_both b l first_two in
    record { begins = begins; all_load = any_none (λ t. not (loads t)) m.transitions (not_true _ load); ends = ends }

is_set : (k : Kind) → eqb (kind_number k) (kind_number a_set) ≡ true → k ≡ a_set
unfolding kind_number
is_set a_set e = refl
is_set an_element e = absurd (false≢true e)
is_set a_number e = absurd (false≢true e)

some_variable : (xs : List Variable) → begins_with_set xs ≡ true → 0 < length xs
unfolding begins_with_set
some_variable [] e = absurd (false≢true e)
some_variable (x ∷ xs) e = omega arith

found_loads : (ts : List Transition) (i : ℕ) {t : Transition} → All (λ t. not (loads t) ≡ false) ts → get_elem? ts i ≡ some t → loads t ≡ true
found_loads ts i {t} a e = not_false (loads t) (all_found (λ t. not (loads t) ≡ false) ts i a e)

start_size : (xs : List Variable) → begins_with_set xs ≡ true → All Starts xs → size (natural_at (map (λ x. x.start) xs) 0) ≤ most_objects
unfolding begins_with_set natural_at number_at
start_size [] e starts = absurd (false≢true e)
start_size (x ∷ xs) e starts =
    let start = starts.0.set_start (is_set x.kind e) in
    omega (arith, size_within x.objects (mag x.start) start.among_them, start.few_objects)

pub loading_length_some : (m : Model) → 1 ≤ loading_length m
unfolding loading_length
loading_length_some m = omega arith

-- a set that is read has no more members than a set may have objects
pub loading_length_within : (bytes : List ℕ) {m : Model} {n : ℕ} → model bytes ≡ read m n → in_profile m ≡ true → loading_length m ≤ most_objects
unfolding loading_length target
loading_length_within bytes {m} reads e = omega (arith, start_size m.variables (in_profile_lem m e).begins (model_starts bytes reads))

-- ---- steps

abbrev on_zero : Effect → Bool
on_zero f = eqb f.target 0

at_zero : (new : State) (v : ℕ) (z : ℤ) → v ≡ 0 → 0 < length new → number_at (set new v z) 0 ≡ z
unfolding number_at
at_zero new v z e long = rw e (get_or-set_same new 0 z (pos 0) long)

module _ (end : ℕ) (m : Model) where
  -- effects on other variables leave variable 0 as it is
  kept_zero : (fs : List Effect) (s new u : State) → filter on_zero fs ≡ [] → effects end m fs s new ≡ value u → number_at u 0 ≡ number_at new 0
  unfolding effects filter number_at
  kept_zero [] s new u none-there e = let same_state : new ≡ u = cc in rw same_state
  kept_zero (f ∷ fs) s new u none-there e =
      let (z, _, rest) = bind_value (expression_value end m.tables f.result s) _ e in
      by_cond (λ (l : List Effect). l ≡ [] → number_at u 0 ≡ number_at new 0) (on_zero f)
      (λ _ q. let c : ◌≡◌ {A = ℕ} 0 1 = cc in absurd (omega arith))
      (λ off q. kept_zero fs s (set new f.target z) u q rest ∙ get_or-set_other new f.target 0 z (pos 0) (λ on. eqb-false f.target 0 off (sym on))) none-there

  -- the only effect on variable 0 decides it
  set_zero : (fs : List Effect) (f : Effect) (s new u : State) (z : ℤ) → filter on_zero fs ≡ f ∷ [] → expression_value end m.tables f.result s ≡ value z → 0 < length new → effects end m fs s new ≡ value u
      → number_at u 0 ≡ z
  unfolding effects filter number_at
  set_zero [] f s new u z one-there v long e = let c : ◌≡◌ {A = ℕ} 0 1 = cc in absurd (omega arith)
  set_zero (g ∷ fs) f s new u z one-there v long e =
      let (y, is, rest) = bind_value (expression_value end m.tables g.result s) _ e in
      by_cond (λ (l : List Effect). l ≡ f ∷ [] → number_at u 0 ≡ z) (on_zero g)
      (λ on q.
      let same_effect : g ≡ f = cc in
      let others : filter on_zero fs ≡ [] = cc in
      kept_zero fs s (set new g.target y) u others rest ∙ at_zero new g.target y (eqb-true g.target 0 on) long ∙ cc)
      (λ _ q. set_zero fs f s (set new g.target y) u z q v (rw (length-set new g.target y) long) rest) one-there

  -- a transition that loads takes one member out of variable 0
  load_size : (t : Transition) (s u : State) {d : Cost} → loads t ≡ true → 0 < length s → Takes end m t s d u → suc (size (natural_at u 0)) ≡ size (natural_at s 0)
  unfolding loads removed_object natural_at
  load_size t s u ok long x =
      let (c, same-one, held) = one_holds end m.tables s _ t.conditions (any_some _ t.conditions ok) x.holds in
      let (k, required, removed) = same_object_is (required_object c) (removed_object t.effects) same-one in
      let (f, only_one, removes) = only_is (λ f. removed_by f.result) none (filter on_zero t.effects) removed no_object in
      let now : number_at u 0 ≡ pos (difference (natural_at s 0) (2 ^ k)) = set_zero t.effects f s s u _ only_one (removed_value end m.tables s f.result removes) long x.changes in
      rw (ap mag now) (size_removed k (natural_at s 0) (required_member end m.tables s c required held))

  module _ (profile : in_profile m ≡ true) where
    -- k steps take k members
    pub layer_size : {k : ℕ} {s : State} → InLayer (system_of end m) (target m) k s → size (natural_at s 0) + k ≡ size (natural_at (target m) 0)
    layer_size first = omega arith
    layer_size (next {t = i} {s = s} {u = u} {c = c} l x) =
        let (t, found, takes) = step_takes end m s u i c x.allowed in
        let long : 0 < length s = omega (arith, reached_size end m l, some_variable m.variables (in_profile_lem m profile).begins) in
        omega (arith, layer_size l, load_size t s u (found_loads m.transitions i (in_profile_lem m profile).all_load found) long takes)

    -- an unfinished state has a member left
    pub unfinished_size : (s : State) → (system_of end m).status s ≡ unfinished → 0 < size (natural_at s 0)
    unfolding system_of status status_of
    unfinished_size s e = by_size (size (natural_at s 0)) refl
      where
        by_size : (n : ℕ) → size (natural_at s 0) ≡ n → 0 < n
        by_size zero none_left = let c : ◌≡◌ {A = ℕ} 0 1 = cc (rw (empty_holds end m.tables s m.base_cases (in_profile_lem m profile).ends (size_zero (natural_at s 0) none_left)) at e) in absurd (omega arith)
        by_size (suc n) left = omega arith

    -- no unfinished state lies at the length that the profile chooses
    pub none_open_in_profile : OpenAt (system_of end m) (target m) (loading_length m) → ⊥
    unfolding loading_length
    none_open_in_profile (s, l, e) = omega (arith, layer_size l, unfinished_size s e)
