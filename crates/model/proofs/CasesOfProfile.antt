-- The loading profile from bytes, document 02, §2: models in it with the length that it chooses, and each way to be outside.
use Prim.Native.Nat.{ℕ}
use mathlib.Core.Path.{◌≡◌, refl}
use mathlib.Core.List.{List, [], ◌∷◌, ◌++◌, map}
use Rattle.laws.specs.Hex.{hex}
use Rattle.model.specs.Numbers.{outside_profile}
use Rattle.model.specs.Values.{value, trouble}
use Rattle.model.proofs.Opened.{length_of, chosen, opened, all_opened}

-- ---- the parts of a model

-- a set of objects 0 and 1: alone, in front of an element, in front of a set, behind an element
abbrev two_designs : List ℕ
two_designs = hex 12 0x01_00_02_02_03_00_00_00_00_00_00_00

abbrev with_element : List ℕ
with_element = two_designs ++ hex 4 0x03_02_00_00

abbrev with_set : List ℕ
with_set = two_designs ++ hex 10 0x02_02_03_00_00_00_00_00_00_00

abbrev behind_element : List ℕ
behind_element = hex 16 0x01_00_03_02_00_00_02_02_03_00_00_00_00_00_00_00

-- a transition of cost 1: n bytes of conditions, k bytes of effects
abbrev transition_of : (n conditions k effects : ℕ) → List ℕ
transition_of n conditions k effects = 0x07 ∷ [] ++ (hex n conditions ++ (hex 6 0x09_20_01_00_00_00 ++ hex k effects))

abbrev loads_first : List ℕ
loads_first = transition_of 6 0x08_54_30_00_41_00 7 0x0a_00_43_30_00_41_00

abbrev loads_second : List ℕ
loads_second = transition_of 6 0x08_54_30_01_41_00 7 0x0a_00_43_30_01_41_00

abbrev until_empty : List ℕ
until_empty = hex 6 0x0b_08_55_41_00_0e

-- declarations, transitions, what stands behind them
abbrev model_of : (declarations : List ℕ) (transitions : List (List ℕ)) (rest : List ℕ) → List ℕ
model_of declarations [] rest = declarations ++ rest
model_of declarations (t ∷ ts) rest = model_of (declarations ++ t) ts rest

-- ---- in the profile

abbrev pub pure_loading : List ℕ
pure_loading = model_of two_designs (loads_first ∷ loads_second ∷ []) until_empty

-- with a literal that the start does not hold, and one twice
abbrev pub repeatedly : List ℕ
repeatedly =
    model_of (hex 12 0x01_00_02_03_03_00_00_00_00_00_00_00) (transition_of 6 0x08_54_30_02_41_00 7 0x0a_00_43_30_02_41_00 ∷ loads_first ∷ loads_first ∷ loads_second ∷ []) until_empty

abbrev inside : List (List ℕ)
inside =
    pure_loading
    ∷ repeatedly
    -- the condition of the literal behind that of another
    ∷ model_of two_designs (transition_of 12 0x08_54_30_01_41_00_08_54_30_00_41_00 7 0x0a_00_43_30_00_41_00 ∷ loads_second ∷ []) until_empty
    -- the start empty
    ∷ model_of (hex 12 0x01_00_02_02_00_00_00_00_00_00_00_00) (loads_first ∷ loads_second ∷ []) until_empty
    -- the last of 64 objects
    ∷ model_of (hex 12 0x01_00_02_40_00_00_00_00_00_00_00_80) (transition_of 6 0x08_54_30_3f_41_00 7 0x0a_00_43_30_3f_41_00 ∷ []) until_empty
    -- all of them, and no transition
    ∷ model_of (hex 12 0x01_00_02_40_ff_ff_ff_ff_ff_ff_ff_ff) [] until_empty
    -- the largest rule, an effect on another variable, a constraint and a bound
    ∷ model_of (hex 16 0x01_01_02_02_03_00_00_00_00_00_00_00_03_02_00_00) (transition_of 6 0x08_54_30_00_41_00 11 0x0a_01_30_00_0a_00_43_30_00_41_00 ∷ loads_second ∷ [])
    (hex 15 0x0b_08_55_41_00_0c_53_31_01_30_00_0d_29_41_00 ++ (0x0e ∷ []))
    ∷ []

-- ---- outside

abbrev pub outside : List (List ℕ)
outside =
    -- the condition stands inside an "and"
    model_of two_designs (transition_of 12 0x08_58_54_30_00_41_00_54_30_00_41_00 7 0x0a_00_43_30_00_41_00 ∷ []) until_empty
    -- it is denied twice
    ∷ model_of two_designs (transition_of 8 0x08_57_57_54_30_00_41_00 7 0x0a_00_43_30_00_41_00 ∷ []) until_empty
    -- it asks for what an element variable holds
    ∷ model_of with_element (transition_of 6 0x08_54_31_01_41_00 7 0x0a_00_43_30_00_41_00 ∷ []) until_empty
    -- it is on another set
    ∷ model_of with_set (transition_of 6 0x08_54_30_00_41_01 7 0x0a_00_43_30_00_41_00 ∷ []) until_empty
    -- it is on variable 0 without another member
    ∷ model_of two_designs (transition_of 9 0x08_54_30_00_43_30_01_41_00 7 0x0a_00_43_30_00_41_00 ∷ []) until_empty
    -- there is no condition
    ∷ model_of two_designs (transition_of 0 0x00 7 0x0a_00_43_30_00_41_00 ∷ []) until_empty
    -- the effect takes a literal set away
    ∷ model_of two_designs (transition_of 6 0x08_54_30_00_41_00 15 0x0a_00_46_41_00_40_02_01_00_00_00_00_00_00_00 ∷ []) until_empty
    -- it removes from a removal
    ∷ model_of two_designs (transition_of 6 0x08_54_30_00_41_00 10 0x0a_00_43_30_00_43_30_00_41_00 ∷ []) until_empty
    -- it removes what an element variable holds
    ∷ model_of with_element (transition_of 6 0x08_54_30_00_41_00 7 0x0a_00_43_31_01_41_00 ∷ []) until_empty
    -- it removes from another set
    ∷ model_of with_set (transition_of 6 0x08_54_30_00_41_00 7 0x0a_00_43_30_00_41_01 ∷ []) until_empty
    -- it adds
    ∷ model_of two_designs (transition_of 6 0x08_54_30_00_41_00 7 0x0a_00_42_30_00_41_00 ∷ []) until_empty
    -- it removes another literal
    ∷ model_of two_designs (transition_of 6 0x08_54_30_00_41_00 7 0x0a_00_43_30_01_41_00 ∷ []) until_empty
    -- it is on another set
    ∷ model_of with_set (transition_of 6 0x08_54_30_00_41_00 7 0x0a_01_43_30_00_41_00 ∷ []) until_empty
    -- there is no effect
    ∷ model_of two_designs (transition_of 6 0x08_54_30_00_41_00 0 0x00 ∷ []) until_empty
    -- nor is there one in the last transition
    ∷ model_of two_designs (loads_first ∷ transition_of 6 0x08_54_30_01_41_00 0 0x00 ∷ []) until_empty
    -- two base cases
    ∷ model_of two_designs (loads_first ∷ loads_second ∷ []) (hex 11 0x0b_08_55_41_00_0b_08_55_41_00_0e)
    -- a second condition in the base case
    ∷ model_of two_designs (loads_first ∷ loads_second ∷ []) (hex 10 0x0b_08_55_41_00_08_55_41_00_0e)
    -- a base case without conditions
    ∷ model_of two_designs (loads_first ∷ loads_second ∷ []) (hex 2 0x0b_0e)
    -- no base case
    ∷ model_of two_designs (loads_first ∷ loads_second ∷ []) (hex 1 0x0e)
    -- the base case's condition is denied twice
    ∷ model_of two_designs (loads_first ∷ loads_second ∷ []) (hex 8 0x0b_08_57_57_55_41_00_0e)
    -- it is on another set
    ∷ model_of with_set (loads_first ∷ loads_second ∷ []) (hex 6 0x0b_08_55_41_01_0e)
    -- the set is variable 1
    ∷ model_of behind_element (transition_of 6 0x08_54_30_00_41_01 7 0x0a_01_43_30_00_41_01 ∷ []) (hex 6 0x0b_08_55_41_01_0e)
    -- no variable
    ∷ hex 16 0x01_00_0b_08_55_40_01_00_00_00_00_00_00_00_00_0e
    ∷ []

-- ---- the cases

pub inside_cases : all_opened (map length_of inside) ≡ chosen (value 2) ∷ chosen (value 2) ∷ chosen (value 2) ∷ chosen (value 1) ∷ chosen (value 1) ∷ chosen (value 64) ∷ chosen (value 2) ∷ []
unfolding all_opened opened hex
inside_cases = refl

pub outside_cases : all_opened (map length_of outside) ≡ map (λ _. chosen (trouble outside_profile)) outside
unfolding all_opened opened hex
outside_cases = refl
