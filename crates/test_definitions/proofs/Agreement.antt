-- The definitions give the answers of the independent implementation in every case.
use Prim.Native.Nat.{ℕ, suc}
use mathlib.Core.Path.{◌≡◌, refl}
use mathlib.Core.Bool.{Bool, true, false, cond, ◌&&◌}
use mathlib.Core.List.{List, [], ◌∷◌}
use lib.Dec.{eqb}
use Rattle.laws.specs.Hex.{hex, zeros}
use Rattle.search.proofs.Opened.{Told, answer, checked, valued, run_of, load_of, listed_of, load_listed_of, check_of, opened}
use Rattle.test_definitions.specs.Case.{Case, searched, loaded, searched_listed, loaded_listed}
use Rattle.test_definitions.specs.Reading1 as Reading1
use Rattle.test_definitions.specs.Reading2 as Reading2
use Rattle.test_definitions.specs.Reading3 as Reading3
use Rattle.test_definitions.specs.Reading4 as Reading4
use Rattle.test_definitions.specs.Reading5 as Reading5
use Rattle.test_definitions.specs.Reading6 as Reading6
use Rattle.test_definitions.specs.Meaning1 as Meaning1
use Rattle.test_definitions.specs.Meaning2 as Meaning2
use Rattle.test_definitions.specs.Plans1 as Plans1
use Rattle.test_definitions.specs.Plans2 as Plans2
use Rattle.test_definitions.specs.Searches1 as Searches1
use Rattle.test_definitions.specs.Searches2 as Searches2
use Rattle.test_definitions.specs.Searches3 as Searches3
use Rattle.test_definitions.specs.Searches4 as Searches4
use Rattle.test_definitions.specs.Searches5 as Searches5
use Rattle.test_definitions.specs.Loads1 as Loads1
use Rattle.test_definitions.specs.Loads2 as Loads2
use Rattle.test_definitions.specs.Loads3 as Loads3
use Rattle.test_definitions.specs.Widths1 as Widths1
use Rattle.test_definitions.specs.Widths2 as Widths2
use Rattle.test_definitions.specs.Widths3 as Widths3
use Rattle.test_definitions.specs.Ranges1 as Ranges1
use Rattle.test_definitions.specs.Ranges2 as Ranges2
use Rattle.test_definitions.specs.Ranges3 as Ranges3
use Rattle.test_definitions.specs.Ranges4 as Ranges4
use Rattle.test_definitions.specs.Ranges5 as Ranges5

unfoldable pub same_list : List ℕ → List ℕ → Bool
same_list [] [] = true
same_list [] (y ∷ ys) = false
same_list (x ∷ xs) [] = false
same_list (x ∷ xs) (y ∷ ys) = eqb x y && same_list xs ys

-- what the definitions tell is these fields, and this buffer afterwards
unfoldable pub is_told : Told → (fields after : List ℕ) → Bool
is_told (answer refusal fields after) fields' after' = same_list (cond refusal 1 0 ∷ fields) fields' && same_list after after'
is_told (checked number cost low) fields' after' = same_list (number ∷ cost ∷ low ∷ []) fields'
is_told (valued v) fields' after' = false

unfoldable pub agrees : Case → Bool
agrees (searched model widest limit budget buffer words fields after) = is_told (opened (run_of model widest limit budget buffer words)) fields after
agrees (loaded model widest budget buffer words fields after) = is_told (opened (load_of model widest budget buffer words)) fields after
agrees (searched_listed model widths limit budget buffer words fields after) = is_told (opened (listed_of model widths limit budget buffer words)) fields after
agrees (loaded_listed model widths budget buffer words fields after) = is_told (opened (load_listed_of model widths budget buffer words)) fields after
agrees (Case.checked model plan number cost low) = is_told (opened (check_of model plan)) (number ∷ cost ∷ low ∷ []) []

-- the places, counted from k, of the cases that disagree
unfoldable pub disagreeing : (k : ℕ) → List Case → List ℕ
disagreeing k [] = []
disagreeing k (c ∷ cs) = let rest = disagreeing (suc k) cs in cond (agrees c) rest (k ∷ rest)

pub reading_1 : disagreeing 1 Reading1.cases ≡ []
unfolding disagreeing agrees is_told same_list opened hex zeros
reading_1 = refl

pub reading_2 : disagreeing 1 Reading2.cases ≡ []
unfolding disagreeing agrees is_told same_list opened hex zeros
reading_2 = refl

pub reading_3 : disagreeing 1 Reading3.cases ≡ []
unfolding disagreeing agrees is_told same_list opened hex zeros
reading_3 = refl

pub reading_4 : disagreeing 1 Reading4.cases ≡ []
unfolding disagreeing agrees is_told same_list opened hex zeros
reading_4 = refl

pub reading_5 : disagreeing 1 Reading5.cases ≡ []
unfolding disagreeing agrees is_told same_list opened hex zeros
reading_5 = refl

pub reading_6 : disagreeing 1 Reading6.cases ≡ []
unfolding disagreeing agrees is_told same_list opened hex zeros
reading_6 = refl

pub meaning_1 : disagreeing 1 Meaning1.cases ≡ []
unfolding disagreeing agrees is_told same_list opened hex zeros
meaning_1 = refl

pub meaning_2 : disagreeing 1 Meaning2.cases ≡ []
unfolding disagreeing agrees is_told same_list opened hex zeros
meaning_2 = refl

pub plans_1 : disagreeing 1 Plans1.cases ≡ []
unfolding disagreeing agrees is_told same_list opened hex zeros
plans_1 = refl

pub plans_2 : disagreeing 1 Plans2.cases ≡ []
unfolding disagreeing agrees is_told same_list opened hex zeros
plans_2 = refl

pub searches_1 : disagreeing 1 Searches1.cases ≡ []
unfolding disagreeing agrees is_told same_list opened hex zeros
searches_1 = refl

pub searches_2 : disagreeing 1 Searches2.cases ≡ []
unfolding disagreeing agrees is_told same_list opened hex zeros
searches_2 = refl

pub searches_3 : disagreeing 1 Searches3.cases ≡ []
unfolding disagreeing agrees is_told same_list opened hex zeros
searches_3 = refl

pub searches_4 : disagreeing 1 Searches4.cases ≡ []
unfolding disagreeing agrees is_told same_list opened hex zeros
searches_4 = refl

pub searches_5 : disagreeing 1 Searches5.cases ≡ []
unfolding disagreeing agrees is_told same_list opened hex zeros
searches_5 = refl

pub loads_1 : disagreeing 1 Loads1.cases ≡ []
unfolding disagreeing agrees is_told same_list opened hex zeros
loads_1 = refl

pub loads_2 : disagreeing 1 Loads2.cases ≡ []
unfolding disagreeing agrees is_told same_list opened hex zeros
loads_2 = refl

pub loads_3 : disagreeing 1 Loads3.cases ≡ []
unfolding disagreeing agrees is_told same_list opened hex zeros
loads_3 = refl

pub widths_1 : disagreeing 1 Widths1.cases ≡ []
unfolding disagreeing agrees is_told same_list opened hex zeros
widths_1 = refl

pub widths_2 : disagreeing 1 Widths2.cases ≡ []
unfolding disagreeing agrees is_told same_list opened hex zeros
widths_2 = refl

pub widths_3 : disagreeing 1 Widths3.cases ≡ []
unfolding disagreeing agrees is_told same_list opened hex zeros
widths_3 = refl

pub ranges_1 : disagreeing 1 Ranges1.cases ≡ []
unfolding disagreeing agrees is_told same_list opened hex zeros
ranges_1 = refl

pub ranges_2 : disagreeing 1 Ranges2.cases ≡ []
unfolding disagreeing agrees is_told same_list opened hex zeros
ranges_2 = refl

pub ranges_3 : disagreeing 1 Ranges3.cases ≡ []
unfolding disagreeing agrees is_told same_list opened hex zeros
ranges_3 = refl

pub ranges_4 : disagreeing 1 Ranges4.cases ≡ []
unfolding disagreeing agrees is_told same_list opened hex zeros
ranges_4 = refl

pub ranges_5 : disagreeing 1 Ranges5.cases ≡ []
unfolding disagreeing agrees is_told same_list opened hex zeros
ranges_5 = refl
