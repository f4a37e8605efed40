-- The hash of a state: a turn of its loop, and that a state that dominates another has the same hash.
use Prim.Native.Nat.{ℕ, zero, suc, ◌+◌, ◌-◌, ◌≤◌, ◌<◌}
use mathlib.Core.Path.{◌≡◌, refl, ap, ◌∙◌}
use mathlib.Core.Bool.{Bool, true, false, cond}
use mathlib.Core.List.{List}
use native.Mathlib.Omega.{arith}
use native.Mathlib.Numerals.{add-one}
use borrow.Author.Tests.{eqb-true}
use lib.Dec.{leb, eqb}
use lib.ListN.{length, get_or, drop}
use Rattle.laws.proofs.Bools.{and_both}
use Rattle.model.specs.Syntax.{Variable}
use Rattle.model.specs.Steps.{none_worse, system_of}
use Rattle.outline.specs.Outline.{model_of, variable_count_at, kinds_from, preferences_from}
use Rattle.steps.specs.InBytes.{Outlined, system_in, state_in}
use Rattle.steps.specs.Order.{compared_word, no_worse_by, no_worse_at}
use Rattle.steps.specs.Hashes.{mix_word, hashed_word, mix_at, mix_from, hash_of}
use Rattle.prepare.proofs.Items.{nth_of}
use Rattle.steps.proofs.Dominance.{compared_at}

-- ---- the loop

pub mix_more : (outline state : List ℕ) (n v m : ℕ) → v < n → mix_from outline state (n - (v + 1)) (v + 1) (mix_at outline state v m) ≡ mix_from outline state (n - v) v m
unfolding mix_from
mix_more outline state n v m h =
    let e : n - v ≡ suc (n - (v + 1)) = omega arith in
    rw (e, add-one)

pub mix_end : (outline state : List ℕ) (n v m : ℕ) → n ≤ v → mix_from outline state (n - v) v m ≡ m
unfolding mix_from
mix_end outline state n v m h =
    let e : n - v ≡ 0 = omega arith in
    rw e

-- ---- the same hash

same_mix : (outline t s : List ℕ) (v m : ℕ) → no_worse_at outline v t s ≡ true → mix_at outline t v m ≡ mix_at outline s v m
unfolding mix_at hashed_word no_worse_at no_worse_by
same_mix outline t s v m e = ap (mix_word m) (by_test (eqb (get_or outline (preferences_from + v) 0) 0) e)
  where
    a : ℕ
    a = compared_word (get_or outline (kinds_from + v) 0) (get_or t v 0)

    b : ℕ
    b = compared_word (get_or outline (kinds_from + v) 0) (get_or s v 0)

    by_test : (q : Bool) → cond q (eqb a b) (cond (eqb (get_or outline (preferences_from + v) 0) 1) (leb a b) (leb b a)) ≡ true → cond q a 0 ≡ cond q b 0
    by_test true e = eqb-true a b e
    by_test false e = refl

module _ (bytes outline : List ℕ) (o : Outlined bytes outline) (t s : List ℕ) where
  abbrev vs : List Variable
  vs = (model_of bytes).variables

  -- from variable v on: v itself, and those behind it
  one_further : (v : ℕ) → v < length vs → none_worse (drop v vs) v (state_in bytes t) (state_in bytes s) ≡ true
      → (no_worse_at outline v t s ≡ true) × (none_worse (drop (suc v) vs) (suc v) (state_in bytes t) (state_in bytes s) ≡ true)
  unfolding none_worse
  one_further v h d =
      let k = nth_of vs v h in
      let both = and_both _ _ (rw k.rest at d) in
      (compared_at bytes outline o t s v k.found ∙ both.0, rw add-one at both.1)

  same_mixes : (n v m : ℕ) → n + v ≡ length vs → none_worse (drop v vs) v (state_in bytes t) (state_in bytes s) ≡ true → mix_from outline t n v m ≡ mix_from outline s n v m
  unfolding mix_from
  same_mixes zero v m e d = refl
  same_mixes (suc n) v m e d =
      let both = one_further v (omega arith) d in
      rw (same_mix outline t s v m both.0) (same_mixes n (suc v) (mix_at outline s v m) (omega arith) both.1)

  pub same_hash : (system_in bytes).dominates (state_in bytes t) (state_in bytes s) ≡ true → hash_of outline t ≡ hash_of outline s
  unfolding hash_of system_of
  same_hash d =
      let e : get_or outline variable_count_at 0 + 0 ≡ length vs = omega (arith, o.outlines.variable_count) in
      same_mixes (get_or outline variable_count_at 0) 0 1 e d
