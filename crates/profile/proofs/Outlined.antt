-- What an outline says of variable 0, of the only base case, and of transitions that are tested one after the other.
use Prim.Native.Nat.{ℕ, ◌+◌, ◌≤◌, ◌<◌, max}
use mathlib.Core.Path.{◌≡◌, refl, sym, ap, ◌∙◌}
use mathlib.Core.Bool.{Bool, true, false, not, ◌&&◌, false≢true}
use mathlib.Core.List.{List, [], ◌∷◌, map}
use mathlib.Core.Option.{some}
use native.Mathlib.Omega.{arith}
use lib.ListN.{length, get_or, get_elem?, drop, drop_of_length-le}
use lib.Dec.{eqb, ltb}
use lib.IntN.{pos}
use lib.Signed.{mag}
use borrow.Author.Tests.{lt-ltb, le-ltb}
use Rattle.laws.specs.Lists.{any}
use Rattle.model.specs.Numbers.{most_objects}
use Rattle.model.specs.Sets.{members}
use Rattle.model.specs.Syntax.{Kind, a_set, an_element, a_number, Variable, Condition, Transition, Model}
use Rattle.model.specs.Expressions.{kind_number}
use Rattle.model.specs.Commands.{transition}
use Rattle.model.specs.Meaning.{number_at, natural_at}
use Rattle.model.specs.Steps.{target}
use Rattle.model.specs.Profile.{of_only, asks_for_empty, begins_with_set, ends_empty, in_profile, loads, loading_length}
use Rattle.model.proofs.Profile.{in_profile_lem}
use Rattle.words.specs.States.{value_of}
use Rattle.words.specs.Signature.{kind_byte_of, kind_byte, Objects}
use Rattle.outline.specs.Outline.{variable_count_at, base_case_count_at, kinds_from, starts_from, base_cases_from, transitions_from, VariableAt, model_of, Outlines}
use Rattle.prepare.proofs.Items.{Item, item_at}
use Rattle.profile.specs.Says.{OnlyEmptySays, LoadsSays}
use Rattle.profile.proofs.Removing.{first_is_set}

-- ---- variable 0

kind_told : (k : Kind) (n : ℕ) → Objects k n → ltb most_objects (kind_byte_of k n) ≡ eqb (kind_number k) (kind_number a_set)
unfolding kind_byte_of kind_number
kind_told a_set n o = lt-ltb most_objects (most_objects + n) (omega (arith, o.0))
kind_told an_element n o = le-ltb most_objects n o.1
kind_told a_number n o = refl

set_value_lem : (k : Kind) (w : ℕ) → k ≡ a_set → value_of k w ≡ pos w
unfolding value_of
set_value_lem k w e = rw e

none_first : (vs : List Variable) → length vs ≡ 0 → begins_with_set vs ≡ false
unfolding begins_with_set
none_first [] e = refl
none_first (x ∷ vs) e = absurd (omega arith)

module _ (words : List ℕ) where
  first_told : (vs : List Variable) → (length vs ≡ 0 → ⊥) → ((x : Variable) → get_elem? vs 0 ≡ some x → VariableAt words 0 x) → ltb most_objects (get_or words kinds_from 0) ≡ begins_with_set vs
  unfolding begins_with_set kind_byte
  first_told [] l h = absurd (l refl)
  first_told (x ∷ vs) l h =
      let at = h x refl in
      rw at.kind (kind_told x.kind x.objects at.well_formed)

  -- the start of a set is its word
  start_told : (vs : List Variable) → begins_with_set vs ≡ true → ((x : Variable) → get_elem? vs 0 ≡ some x → VariableAt words 0 x) → natural_at (map (λ x. x.start) vs) 0 ≡ get_or words starts_from 0
  unfolding begins_with_set natural_at number_at
  start_told [] b h = absurd (false≢true b)
  start_told (x ∷ vs) b h =
      let at = h x refl in
      ap mag (sym at.start ∙ set_value_lem x.kind (get_or words starts_from 0) (first_is_set (x ∷ vs) b refl))

module _ (bytes words : List ℕ) (o : Outlines bytes words (model_of bytes)) where
  pub begins_none : get_or words variable_count_at 0 ≡ 0 → begins_with_set (model_of bytes).variables ≡ false
  begins_none e = none_first (model_of bytes).variables (sym o.variable_count ∙ e)

  pub begins_as : (get_or words variable_count_at 0 ≡ 0 → ⊥) → ltb most_objects (get_or words kinds_from 0) ≡ begins_with_set (model_of bytes).variables
  begins_as e = first_told words (model_of bytes).variables (λ z. e (o.variable_count ∙ z)) (o.variables 0)

  pub length_told : in_profile (model_of bytes) ≡ true → loading_length (model_of bytes) ≡ max 1 (length (members (get_or words starts_from 0)))
  unfolding loading_length target
  length_told e = rw (start_told words (model_of bytes).variables (in_profile_lem (model_of bytes) e).begins (o.variables 0))

-- ---- base cases

abbrev only_empty : List Condition → Bool
only_empty = of_only asks_for_empty false

not_one : (bs : List (List Condition)) → (length bs ≡ 1 → ⊥) → ends_empty bs ≡ false
unfolding ends_empty of_only
not_one [] e = refl
not_one (b ∷ []) e = absurd (e refl)
not_one (b ∷ d ∷ bs) e = refl

only_one : (bs : List (List Condition)) (b : List Condition) → length bs ≡ 1 → bs ≡ b ∷ drop 1 bs → ends_empty bs ≡ only_empty b
unfolding ends_empty of_only
only_one [] b e q = absurd (omega arith)
only_one (d ∷ []) b e q = let same : d ≡ b = cc in rw same
only_one (d ∷ f ∷ bs) b e q = absurd (omega arith)

module _ (bytes words : List ℕ) (o : Outlines bytes words (model_of bytes)) where
  pub ends_none : (get_or words base_case_count_at 0 ≡ 1 → ⊥) → ends_empty (model_of bytes).base_cases ≡ false
  ends_none e = not_one (model_of bytes).base_cases (λ z. e (o.base_case_count ∙ z))

  pub ends_as : get_or words base_case_count_at 0 ≡ 1 → {r : Bool} → OnlyEmptySays bytes (get_or words base_cases_from 0) r → r ≡ ends_empty (model_of bytes).base_cases
  ends_as e says =
      let one-case : length (model_of bytes).base_cases ≡ 1 = sym o.base_case_count ∙ e in
      let i = item_at {l = (model_of bytes).base_cases} o.base_cases_placed {k = 0} (omega (arith, one-case)) refl in
      says i.item i.used i.reads ∙ sym (only_one (model_of bytes).base_cases i.item one-case i.rest)

-- ---- transitions

module _ (bytes : List ℕ) where
  abbrev transitions : List Transition
  transitions = (model_of bytes).transitions

  abbrev some_other : List Transition → Bool
  some_other = any (λ t. not (loads t))

  -- those before t load
  abbrev pub Loading : (t : ℕ) → Type 0
  Loading t = some_other transitions ≡ some_other (drop t transitions)

  abbrev pub StandsAt : (t at : ℕ) → Type 0
  StandsAt t at = Item (transition (model_of bytes).variables (model_of bytes).tables) bytes transitions t at

  pub stands_at : {words : List ℕ} {t at : ℕ} → Outlines bytes words (model_of bytes) → t < length transitions → at ≡ get_or words (transitions_from + t) 0 → StandsAt t at
  stands_at o = item_at o.transitions

  module _ (t at : ℕ) (before : Loading t) (i : StandsAt t at) {r : Bool} (says : LoadsSays bytes at r) where
    pub loading_more : r ≡ true → Loading (t + 1)
    unfolding any
    loading_more e = before ∙ ap some_other i.rest ∙ rw (← says i.item i.used i.reads, e)

    pub loading_fails : r ≡ false → not (some_other transitions) ≡ false
    unfolding any
    loading_fails e =
        let other : some_other transitions ≡ true = before ∙ ap some_other i.rest ∙ rw (← says i.item i.used i.reads, e) in
        ap not other

  pub loading_last : (t : ℕ) → Loading t → length transitions ≤ t → not (some_other transitions) ≡ true
  unfolding any
  loading_last t before l =
      let none_other : some_other transitions ≡ false = before ∙ ap some_other (drop_of_length-le transitions l) in
      ap not none_other

-- ---- all together

all_of : (a b c : Bool) → a ≡ true → c ≡ true → b ≡ (a && b && c)
all_of a true c p q = rw (p, q)
all_of a false c p q = rw p

one_fails : (a b c : Bool) → c ≡ false → (a && b && c) ≡ false
one_fails true true c q = q
one_fails true false c q = refl
one_fails false b c q = refl

module _ (m : Model) where
  pub in_as : begins_with_set m.variables ≡ true → ends_empty m.base_cases ≡ true → not (any (λ t. not (loads t)) m.transitions) ≡ in_profile m
  unfolding in_profile
  in_as b e = all_of (begins_with_set m.variables) _ (ends_empty m.base_cases) b e

  pub out_by_end : ends_empty m.base_cases ≡ false → in_profile m ≡ false
  unfolding in_profile
  out_by_end e = one_fails (begins_with_set m.variables) _ (ends_empty m.base_cases) e

  pub out_by_variable : begins_with_set m.variables ≡ false → in_profile m ≡ false
  unfolding in_profile
  out_by_variable b = rw b
