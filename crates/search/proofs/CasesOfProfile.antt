-- Document 02, §2, from bytes: runs in the loading profile. The length that it chooses, what has to be lent for it, the order of the refusals,
-- and that each way to be outside is refused by 15.
use Prim.Native.Nat.{ℕ}
use mathlib.Core.Path.{◌≡◌, refl}
use mathlib.Core.Bool.{true}
use mathlib.Core.List.{List, [], ◌∷◌, ◌++◌, drop_last, map}
use Rattle.laws.specs.Hex.{hex}
use Rattle.model.proofs.CasesOfProfile.{pure_loading, repeatedly, outside}
use Rattle.search.proofs.Opened.{Asked, run_of, load_of, Told, answer, opened, all_opened}
use Rattle.search.proofs.Cases.{three_designs, empty_start, filled, line}

-- at W 16, with so many plan bytes and working words lent
abbrev loaded : (bytes : List ℕ) (plan_bytes words : ℕ) → Asked
loaded bytes plan_bytes words = load_of bytes 16 100_000 (filled plan_bytes) words

-- no other field, and the plan buffer as it was
abbrev refusal : (number plan_bytes : ℕ) → Told
refusal number plan_bytes = answer true (number ∷ 0 ∷ 0 ∷ 0 ∷ 0 ∷ 0 ∷ 0 ∷ 0 ∷ 0 ∷ []) (filled plan_bytes)

-- a byte behind the end command
abbrev damaged : List ℕ
damaged = pure_loading ++ (0 ∷ [])

-- the effect on variable 0 adds its object
abbrev adds_instead : List ℕ
adds_instead = hex 38 0x01_00_02_02_03_00_00_00_00_00_00_00_07_08_54_30_00_41_00_09_20_01_00_00_00_0a_00_42_30_00_41_00_0b_08_55_41_00_0e

-- with a constraint that the target breaks: variable 0 is empty
abbrev broken : List ℕ → List ℕ
broken model = drop_last model ++ hex 5 0x0c_55_41_00_0e

abbrev asked : List Asked
asked =
    -- P1: three start members
    loaded three_designs 3 1_088
    ∷ loaded three_designs 3 1_087
    ∷ loaded three_designs 2 1_088
    -- more is lent than is needed
    ∷ loaded three_designs 5 2_000
    -- the start empty: length 1
    ∷ loaded empty_start 1 1_056
    ∷ loaded empty_start 1 1_055
    ∷ loaded empty_start 0 1_056
    -- as P4 and P6 at that length
    ∷ load_of three_designs 1 100_000 (filled 3) 68
    ∷ load_of three_designs 16 0 (filled 3) 1_088
    -- W 3 before the reading, before 15 and before 3
    ∷ load_of damaged 3 100_000 [] 0
    ∷ load_of adds_instead 3 100_000 [] 0
    ∷ load_of three_designs 3 100_000 [] 0
    -- the reading before 3, which a length that is given has in front of it
    ∷ loaded damaged 0 0
    ∷ run_of damaged 16 3 100_000 [] 0
    -- 15 before 3, and where enough is lent
    ∷ loaded adds_instead 0 0
    ∷ loaded adds_instead 2 1_072
    -- two designs
    ∷ loaded pure_loading 2 1_072
    ∷ loaded repeatedly 2 1_072
    -- no transition
    ∷ loaded (hex 18 0x01_00_02_02_03_00_00_00_00_00_00_00_0b_08_55_41_00_0e) 2 1_072
    -- 15 before the target's constraints, and these before all else
    ∷ loaded (broken adds_instead) 2 1_072
    ∷ loaded (broken pure_loading) 2 1_072
    ∷ []

abbrev told : List Told
told =
    line 0 1 7 7 3 14 3 4 7 (0 ∷ 1 ∷ 2 ∷ []) 0
    ∷ refusal 3 3
    ∷ refusal 3 2
    ∷ line 0 1 7 7 3 14 3 4 7 (0 ∷ 1 ∷ 2 ∷ []) 2
    ∷ line 0 1 0 0 0 0 1 1 0 [] 1
    ∷ refusal 3 1
    ∷ refusal 3 0
    ∷ line 2 1 7 0 3 6 2 1 7 (0 ∷ 1 ∷ 2 ∷ []) 0
    ∷ line 4 0 0 0 0 0 1 1 0 [] 3
    ∷ refusal 2 0
    ∷ refusal 2 0
    ∷ refusal 2 0
    ∷ refusal 9 0
    ∷ refusal 3 0
    ∷ refusal 15 0
    ∷ refusal 15 2
    ∷ line 0 1 2 2 2 5 2 2 2 (0 ∷ 1 ∷ []) 0
    ∷ line 0 1 2 2 2 5 2 2 2 (1 ∷ 3 ∷ []) 0
    ∷ line 1 0 0 0 0 1 1 1 0 [] 2
    ∷ refusal 15 2
    ∷ line 1 0 0 0 0 0 1 1 0 [] 2
    ∷ []

pub profile_cases : all_opened asked ≡ told
unfolding all_opened opened hex filled
profile_cases = refl

-- each way to be outside, however little is lent
pub outside_cases : all_opened (map (λ bytes. loaded bytes 0 0) outside) ≡ map (λ _. refusal 15 0) outside
unfolding all_opened opened hex filled
outside_cases = refl
