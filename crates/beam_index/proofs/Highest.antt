-- The highest member below a number: what it is, and how it changes where one member comes or goes.
use Prim.Native.Nat.{ℕ, zero, suc, ◌≤◌, ◌<◌}
use mathlib.Core.Path.{◌≡◌, refl, ◌∙◌}
use mathlib.Core.Logic.{◌≢◌}
use mathlib.Core.Bool.{Bool, true, false, cond}
use native.Mathlib.Omega.{arith}
use native.Mathlib.Decide.{dec_lt, ℕ_discrete}
use Rattle.laws.proofs.Bools.{not_both}
use Rattle.beam_index.specs.Links.{highest_below}

pub record Highest (m : ℕ → Bool) (i q : ℕ) : Type 0 where
  pub within : q ≤ i
  pub member : (s : ℕ) → q ≡ suc s → m s ≡ true
  pub none : (j : ℕ) → q ≤ j → j < i → m j ≡ false

pub highest : (m : ℕ → Bool) (i : ℕ) → Highest m i (highest_below m i)
unfolding highest_below
highest m zero = record { within = omega arith; member = λ s e. absurd (omega arith); none = λ j a b. absurd (omega arith) }
highest m (suc i) = by_test (m i) refl (highest m i)
  where
    by_test : (t : Bool) → m i ≡ t → Highest m i (highest_below m i) → Highest m (suc i) (cond t (suc i) (highest_below m i))
    by_test true e h = record { within = omega arith; member = λ s z. let y : s ≡ i = omega arith in rw y e; none = λ j a b. absurd (omega arith) }
    by_test false e h = record { within = omega (arith, h.within); member = h.member; none = λ j a b. at j a b (ℕ_discrete j i) }
      where
        at : (j : ℕ) → highest_below m i ≤ j → j < suc i → Dec (j ≡ i) → m j ≡ false
        at j a b (yes z) = rw z e
        at j a b (no z) = h.none j a (omega arith)

not_under : {m : ℕ → Bool} {i q : ℕ} (r : ℕ) → Highest m i q → Highest m i r → q < r → ⊥
not_under zero h k l = omega arith
not_under (suc s) h k l = not_both (k.member s refl) (h.none s (omega arith) (omega (arith, k.within)))

-- there is one such number
pub highest_is : {m : ℕ → Bool} {i q : ℕ} → Highest m i q → highest_below m i ≡ q
highest_is {m} {i} {q} h = by_order (dec_lt (highest_below m i) q) (dec_lt q (highest_below m i))
  where
    by_order : Dec (highest_below m i < q) → Dec (q < highest_below m i) → highest_below m i ≡ q
    by_order (yes l) g = absurd (not_under q (highest m i) h l)
    by_order (no l) (yes g) = absurd (not_under (highest_below m i) h (highest m i) g)
    by_order (no l) (no g) = omega arith

pub highest_above : (m : ℕ → Bool) (i j : ℕ) → m j ≡ true → j < i → j < highest_below m i
highest_above m i j e l = by_order (dec_lt j (highest_below m i))
  where
    by_order : Dec (j < highest_below m i) → j < highest_below m i
    by_order (yes h) = h
    by_order (no h) = absurd (not_both e ((highest m i).none j (omega arith) l))

-- two sets of members that differ at x at most
module _ (m m' : ℕ → Bool) (x : ℕ) (same : (s : ℕ) → s ≢ x → m' s ≡ m s) where
  -- below x, and where the highest is above x, nothing changes
  pub same_low : (i : ℕ) → i ≤ x → highest_below m' i ≡ highest_below m i
  same_low i h =
      let k = highest m i in
      highest_is (record { within = k.within; member = λ s e. same s (λ z. omega (arith, k.within)) ∙ k.member s e; none = λ j a b. same j (λ z. omega arith) ∙ k.none j a b })

  pub same_high : (i : ℕ) → suc x < highest_below m i → highest_below m' i ≡ highest_below m i
  same_high i h =
      let k = highest m i in
      highest_is (record { within = k.within; member = λ s e. same s (λ z. omega arith) ∙ k.member s e; none = λ j a b. same j (λ z. omega arith) ∙ k.none j a b })

  pub same_all : (i : ℕ) → m' x ≡ m x → highest_below m' i ≡ highest_below m i
  same_all i e =
      let k = highest m i in
      highest_is (record { within = k.within; member = λ s f. every s (ℕ_discrete s x) ∙ k.member s f; none = λ j a b. every j (ℕ_discrete j x) ∙ k.none j a b })
    where
      every : (s : ℕ) → Dec (s ≡ x) → m' s ≡ m s
      every s (yes z) = rw z e
      every s (no z) = same s z

  -- x came, and nothing stood above it: it is the highest, and from it on the link leads where the other did
  pub came_top : (i : ℕ) → m' x ≡ true → x < i → highest_below m i ≤ x → highest_below m' i ≡ suc x
  came_top i e h l =
      highest_is (record { within = omega arith; member = λ s f. let z : s ≡ x = omega arith in rw z e; none = λ j a b. same j (λ z. omega arith) ∙ (highest m i).none j (omega arith) b })

  pub came_rest : (i : ℕ) → x ≤ i → highest_below m i ≤ x → highest_below m' x ≡ highest_below m i
  came_rest i h l =
      let k = highest m i in
      highest_is (record { within = l; member = λ s e. same s (λ z. omega arith) ∙ k.member s e; none = λ j a b. same j (λ z. omega arith) ∙ k.none j a (omega arith) })

  -- x went, and nothing stood above it
  pub went : (i : ℕ) → m' x ≡ false → x < i → highest_below m i ≤ suc x → highest_below m' i ≡ highest_below m x
  went i e h l =
      let k = highest m x in
      highest_is (record { within = omega (arith, k.within); member = λ s f. same s (λ z. omega (arith, k.within)) ∙ k.member s f; none = λ j a b. gone j a b (ℕ_discrete j x) (dec_lt j x) })
    where
      gone : (j : ℕ) → highest_below m x ≤ j → j < i → Dec (j ≡ x) → Dec (j < x) → m' j ≡ false
      gone j a b (yes z) y = rw z e
      gone j a b (no z) (yes y) = same j z ∙ (highest m x).none j a y
      gone j a b (no z) (no y) = same j z ∙ (highest m i).none j (omega arith) b
