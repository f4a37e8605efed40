-- The table of the full sets: entry n is the set of the first n objects.
use Prim.Native.Nat.{ℕ, ◌-◌, ◌^◌, ◌≤◌, ◌<◌}
use mathlib.Core.Path.{◌≡◌, refl}
use mathlib.Core.List.{List, [], ◌∷◌}
use native.Mathlib.Omega.{arith}
use lib.ListN.{length, get_or}
use borrow.Author.Tests.{lt-ltb, le-ltb}
use Rattle.model.specs.Numbers.{most_objects}
use Rattle.words.specs.FullSets.{full_of}
use Rattle.words.proofs.Bytes.{tab, table_rule}

-- the code's FULL
abbrev pub full_sets : List ℕ
full_sets =
    0 ∷ 1 ∷ 3 ∷ 7 ∷ 15 ∷
    31 ∷ 63 ∷ 127 ∷ 255 ∷ 511 ∷
    1023 ∷ 2047 ∷ 4095 ∷ 8191 ∷ 16383 ∷
    32767 ∷ 65535 ∷ 131071 ∷ 262143 ∷ 524287 ∷
    1048575 ∷ 2097151 ∷ 4194303 ∷ 8388607 ∷ 16777215 ∷
    33554431 ∷ 67108863 ∷ 134217727 ∷ 268435455 ∷ 536870911 ∷
    1073741823 ∷ 2147483647 ∷ 4294967295 ∷ 8589934591 ∷ 17179869183 ∷
    34359738367 ∷ 68719476735 ∷ 137438953471 ∷ 274877906943 ∷ 549755813887 ∷
    1099511627775 ∷ 2199023255551 ∷ 4398046511103 ∷ 8796093022207 ∷ 17592186044415 ∷
    35184372088831 ∷ 70368744177663 ∷ 140737488355327 ∷ 281474976710655 ∷ 562949953421311 ∷
    1125899906842623 ∷ 2251799813685247 ∷ 4503599627370495 ∷ 9007199254740991 ∷ 18014398509481983 ∷
    36028797018963967 ∷ 72057594037927935 ∷ 144115188075855871 ∷ 288230376151711743 ∷ 576460752303423487 ∷
    1152921504606846975 ∷ 2305843009213693951 ∷ 4611686018427387903 ∷ 9223372036854775807 ∷ 18446744073709551615 ∷ []

-- the test, computed over the whole table: 65 entries, 2^0 − 1, 2^1 − 1 and so on
full_sets_computed : full_sets ≡ tab (λ n. 2 ^ n - 1) 0 (length full_sets)
full_sets_computed = refl

pub full_sets_lem : (n : ℕ) → n ≤ most_objects → get_or full_sets n 0 ≡ 2 ^ n - 1
full_sets_lem n h = table_rule (λ n. 2 ^ n - 1) 0 full_sets full_sets_computed n (omega arith)

pub full_of_lem : (n : ℕ) → n ≤ most_objects → full_of n ≡ 2 ^ n - 1
unfolding full_of
full_of_lem n h = rw (le-ltb most_objects n h)

pub full_beyond : (n : ℕ) → most_objects < n → full_of n ≡ 0
unfolding full_of
full_beyond n h = rw (lt-ltb most_objects n h)
