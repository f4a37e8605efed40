-- Document 02, §4, from bytes: runs with a list of widths. Document 01's three designs by list, the words that a list needs, refusal 16 and its
-- place. One table, one theorem.
use Prim.Native.Nat.{ℕ}
use mathlib.Core.Path.{◌≡◌, refl}
use mathlib.Core.Bool.{true}
use mathlib.Core.List.{List, [], ◌∷◌, ◌++◌}
use Rattle.laws.specs.Hex.{hex}
use Rattle.search.proofs.Opened.{Asked, listed_of, load_listed_of, Told, answer, opened, all_opened}
use Rattle.search.proofs.Cases.{three_designs, filled, line}
use Rattle.search.proofs.CasesOfTargets.{with_more, never_at_zero}

-- with this list, this length and so many working words
abbrev with_list : (bytes widths : List ℕ) (limit words : ℕ) → Asked
with_list bytes widths limit words = listed_of bytes widths limit 100_000 (filled limit) words

-- no other field, and the plan buffer as it was
abbrev refusal : (number plan_bytes : ℕ) → Told
refusal number plan_bytes = answer true (number ∷ 0 ∷ 0 ∷ 0 ∷ 0 ∷ 0 ∷ 0 ∷ 0 ∷ 0 ∷ []) (filled plan_bytes)

abbrev plan : List ℕ
plan = 0 ∷ 1 ∷ 2 ∷ []

-- the most entries that a list may have
abbrev sixteen : List ℕ
sixteen = 1 ∷ 2 ∷ 3 ∷ 4 ∷ 5 ∷ 6 ∷ 7 ∷ 8 ∷ 9 ∷ 10 ∷ 11 ∷ 12 ∷ 13 ∷ 14 ∷ 15 ∷ 16 ∷ []

-- a byte behind the end command
abbrev damaged : List ℕ
damaged = three_designs ++ (0 ∷ [])

-- three designs with the bound 1 by 0
abbrev bound_by_zero : List ℕ
bound_by_zero = with_more three_designs 12 0x0d_25_20_01_00_00_00_20_00_00_00_00

abbrev asked : List Asked
asked =
    -- the words that the last entry needs, and one less
    with_list three_designs (1 ∷ 200 ∷ []) 64 25_800
    ∷ with_list three_designs (1 ∷ 200 ∷ []) 64 25_799
    -- two rounds at width 3: W again at W
    ∷ with_list three_designs (3 ∷ []) 64 387
    ∷ with_list three_designs (200 ∷ []) 64 25_800
    ∷ with_list three_designs (2 ∷ []) 64 258
    -- the next width is the next entry
    ∷ with_list three_designs (1 ∷ 2 ∷ 4 ∷ []) 2 268
    ∷ with_list three_designs (1 ∷ 200 ∷ []) 2 13_400
    -- the first entry is the width of round 1: trouble in the target's bound, and a constraint that it breaks
    ∷ with_list bound_by_zero (5 ∷ 6 ∷ []) 64 774
    ∷ with_list never_at_zero (200 ∷ 300 ∷ []) 64 38_700
    -- in the loading profile, with the words that three steps need
    ∷ load_listed_of three_designs (3 ∷ []) 100_000 (filled 3) 204
    ∷ load_listed_of three_designs (3 ∷ []) 100_000 (filled 3) 203
    -- sixteen entries, and the widest
    ∷ with_list three_designs sixteen 64 2_064
    ∷ with_list three_designs (1 ∷ 4096 ∷ []) 3 278_528
    -- empty, too long, from 0, two alike, falling, beyond 4,096
    ∷ with_list three_designs [] 3 278_528
    ∷ with_list three_designs (sixteen ++ (17 ∷ [])) 3 278_528
    ∷ with_list three_designs (0 ∷ 1 ∷ []) 3 278_528
    ∷ with_list three_designs (2 ∷ 2 ∷ []) 3 278_528
    ∷ with_list three_designs (1 ∷ 3 ∷ 2 ∷ []) 3 278_528
    ∷ with_list three_designs (1 ∷ 4097 ∷ []) 3 278_596
    -- 2 before 16, with a length of 0 and of 257
    ∷ with_list three_designs (2 ∷ 2 ∷ []) 0 0
    ∷ with_list three_designs [] 257 0
    -- 16 before 3, before the reading and before 15
    ∷ with_list three_designs (2 ∷ 2 ∷ []) 3 0
    ∷ with_list damaged (2 ∷ 2 ∷ []) 3 278_528
    ∷ load_listed_of damaged [] 9 [] 0
    -- 3 before the reading, and behind it in the profile
    ∷ with_list damaged (1 ∷ 200 ∷ []) 3 0
    ∷ load_listed_of damaged (1 ∷ 200 ∷ []) 9 [] 0
    ∷ []

abbrev told : List Told
told =
    line 0 1 7 7 3 9 2 200 7 plan 61
    ∷ refusal 3 64
    ∷ line 0 1 7 7 3 13 2 3 7 plan 61
    ∷ line 0 1 7 7 3 10 1 200 7 plan 61
    ∷ line 2 1 7 0 3 10 2 2 7 plan 61
    ∷ line 2 0 0 2 0 9 3 4 0 [] 2
    ∷ line 3 0 0 5 0 6 2 200 0 [] 2
    ∷ answer true (12 ∷ 0 ∷ 0 ∷ 0 ∷ 0 ∷ 0 ∷ 1 ∷ 5 ∷ 0 ∷ []) (filled 64)
    ∷ line 1 0 0 0 0 0 1 200 0 [] 64
    ∷ line 0 1 7 7 3 13 2 3 7 plan 0
    ∷ refusal 3 3
    ∷ line 0 1 7 7 3 14 3 3 7 plan 61
    ∷ line 0 1 7 7 3 9 2 4096 7 plan 0
    ∷ refusal 16 3
    ∷ refusal 16 3
    ∷ refusal 16 3
    ∷ refusal 16 3
    ∷ refusal 16 3
    ∷ refusal 16 3
    ∷ refusal 2 0
    ∷ refusal 2 257
    ∷ refusal 16 3
    ∷ refusal 16 3
    ∷ refusal 16 0
    ∷ refusal 3 3
    ∷ refusal 9 0
    ∷ []

-- the worked figures of lists of widths
pub width_cases : all_opened asked ≡ told
unfolding all_opened opened hex filled
width_cases = refl
