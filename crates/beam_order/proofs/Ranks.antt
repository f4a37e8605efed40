-- The order of nodes by the hours of f, its moves, then h: it is that of triples of numbers, so a sorted list stays sorted where a node is placed.
use Prim.Native.Nat.{ℕ, zero, suc, ◌≤◌, ◌<◌}
use mathlib.Core.Path.{◌≡◌, refl, sym, ap, ◌∙◌}
use mathlib.Core.Logic.{◌⊎◌, inl, inr}
use mathlib.Core.Bool.{Bool, true, false, cond, ◌||◌, true≢false, false≢true}
use mathlib.Core.List.{List, [], ◌∷◌, ◌++◌, map, drop_last}
use native.Mathlib.Omega.{arith}
use borrow.Author.Tests.{ltb-true, ltb-false, le-leb}
use lib.Dec.{ltb}
use lib.ListN.{length, take, drop, get_or, get_or-append}
use Rattle.laws.specs.Lists.{any, All}
use Rattle.laws.proofs.Bools.{by_cond}
use Rattle.laws.proofs.Lists.{all_map}
use Rattle.model.specs.Costs.{at_most}
use Rattle.model.proofs.Costs.{at_most_fewer, at_most_equal}
use Rattle.beam_order.specs.Slots.{f_at, f_moves_at, h_at, header_words, f_of, earlier, placed, Sorted, none, more}
use Rattle.beam_order.specs.Order.{Cutoff, Rising, without}

-- ---- the test

-- by a first number, and by R where those are equal
abbrev Then : (a b : ℕ) → Type 0 → Type 0
Then a b R = (a < b) ⊎ ((a ≡ b) × R)

-- what the tests of a first number say, passed or failed
passed : {R : Type 0} (a b : ℕ) (rest : Bool) → (rest ≡ true → R) → cond (ltb a b) true (cond (ltb b a) false rest) ≡ true → Then a b R
passed {R} a b rest f = by_tests (ltb a b) (ltb b a) refl refl
  where
    by_tests : (t u : Bool) → ltb a b ≡ t → ltb b a ≡ u → cond t true (cond u false rest) ≡ true → Then a b R
    by_tests true u p q g = inl (ltb-true a b p)
    by_tests false true p q g = absurd (false≢true g)
    by_tests false false p q g = inr (omega (arith, ltb-false a b p, ltb-false b a q), f g)

failed : {R : Type 0} (a b : ℕ) (rest : Bool) → (rest ≡ false → R) → cond (ltb a b) true (cond (ltb b a) false rest) ≡ false → Then b a R
failed {R} a b rest f = by_tests (ltb a b) (ltb b a) refl refl
  where
    by_tests : (t u : Bool) → ltb a b ≡ t → ltb b a ≡ u → cond t true (cond u false rest) ≡ false → Then b a R
    by_tests true u p q g = absurd (true≢false g)
    by_tests false true p q g = inl (ltb-true b a q)
    by_tests false false p q g = inr (omega (arith, ltb-false a b p, ltb-false b a q), f g)

-- (f, m, h) is less than (f', m', h')
abbrev Less : (f m h f' m' h' : ℕ) → Type 0
Less f m h f' m' h' = Then f f' (Then m m' (h < h'))

-- (f, m, h) is no greater than (f', m', h')
abbrev NoMore : (f m h f' m' h' : ℕ) → Type 0
NoMore f m h f' m' h' = Then f f' (Then m m' (h ≤ h'))

less_of : (n m : List ℕ) → earlier n m ≡ true → Less (get_or n f_at 0) (get_or n f_moves_at 0) (get_or n h_at 0) (get_or m f_at 0) (get_or m f_moves_at 0) (get_or m h_at 0)
unfolding earlier
less_of n m e = passed (get_or n f_at 0) (get_or m f_at 0) _ (λ p. passed (get_or n f_moves_at 0) (get_or m f_moves_at 0) _ (λ q. ltb-true _ _ q) p) e

no_more_of : (n m : List ℕ) → earlier m n ≡ false → NoMore (get_or n f_at 0) (get_or n f_moves_at 0) (get_or n h_at 0) (get_or m f_at 0) (get_or m f_moves_at 0) (get_or m h_at 0)
unfolding earlier
no_more_of n m e = failed (get_or m f_at 0) (get_or n f_at 0) _ (λ p. failed (get_or m f_moves_at 0) (get_or n f_moves_at 0) _ (λ q. ltb-false _ _ q) p) e

-- from one to the next, and never back
through : {a b c : ℕ} {R S T : Type 0} → (R → S → T) → Then a b R → Then b c S → Then a c T
through f (inl x) (inl y) = inl (omega arith)
through f (inl x) (inr y) = inl (omega arith)
through f (inr x) (inl y) = inl (omega arith)
through f (inr x) (inr y) = inr (omega arith, f x.1 y.1)

never_back : {a b : ℕ} {R S : Type 0} → (R → S → ⊥) → Then a b R → Then b a S → ⊥
never_back f (inl x) (inl y) = omega arith
never_back f (inl x) (inr y) = omega arith
never_back f (inr x) (inl y) = omega arith
never_back f (inr x) (inr y) = f x.1 y.1

less_through : {f m h f₁ m₁ h₁ f₂ m₂ h₂ : ℕ} → Less f m h f₁ m₁ h₁ → NoMore f₁ m₁ h₁ f₂ m₂ h₂ → Less f m h f₂ m₂ h₂
less_through {h = h} {h₁ = h₁} {h₂ = h₂} = through (through by_h)
  where
    by_h : h < h₁ → h₁ ≤ h₂ → h < h₂
    by_h x y = omega arith

not_back : {f m h f₁ m₁ h₁ : ℕ} → Less f m h f₁ m₁ h₁ → NoMore f₁ m₁ h₁ f m h → ⊥
not_back {h = h} {h₁ = h₁} = never_back (never_back by_h)
  where
    by_h : h < h₁ → h₁ ≤ h → ⊥
    by_h x y = omega arith

no_more : {f m h f₁ m₁ h₁ : ℕ} → Less f m h f₁ m₁ h₁ → NoMore f m h f₁ m₁ h₁
no_more (inl x) = inl x
no_more (inr (e, inl y)) = inr (e, inl y)
no_more (inr (e, inr (d, y))) = inr (e, inr (d, omega arith))

-- it goes before a, and b does not: then it goes before b
pub earlier_trans : (n a b : List ℕ) → earlier n a ≡ true → earlier b a ≡ false → earlier n b ≡ true
earlier_trans n a b p q = by_test (earlier n b) refl
  where
    by_test : (t : Bool) → earlier n b ≡ t → t ≡ true
    by_test true e = refl
    by_test false e = absurd (not_back (less_through (less_of n a p) (no_more_of a b q)) (no_more_of b n e))

earlier_one_way : (a b : List ℕ) → earlier a b ≡ true → earlier b a ≡ false
earlier_one_way a b p = by_test (earlier b a) refl
  where
    by_test : (t : Bool) → earlier b a ≡ t → t ≡ false
    by_test false e = refl
    by_test true e = absurd (not_back (less_of a b p) (no_more (less_of b a e)))

pub not_before_itself : (a : List ℕ) → earlier a a ≡ false
not_before_itself a = by_test (earlier a a) refl
  where
    by_test : (t : Bool) → earlier a a ≡ t → t ≡ false
    by_test false e = refl
    by_test true e = absurd (true≢false (sym e ∙ earlier_one_way a a e))

-- what is not before has no less f
pub f_order : (a b : List ℕ) → earlier b a ≡ false → at_most (f_of a) (f_of b) ≡ true
f_order a b e = by_case (no_more_of a b e)
  where
    by_case : NoMore (get_or a f_at 0) (get_or a f_moves_at 0) (get_or a h_at 0) (get_or b f_at 0) (get_or b f_moves_at 0) (get_or b h_at 0) → at_most (f_of a) (f_of b) ≡ true
    by_case (inl x) = at_most_fewer (f_of a) (f_of b) x
    by_case (inr (e, inl x)) = at_most_equal (f_of a) (f_of b) e ∙ le-leb (get_or a f_moves_at 0) (get_or b f_moves_at 0) (omega arith)
    by_case (inr (e, inr x)) = at_most_equal (f_of a) (f_of b) e ∙ le-leb (get_or a f_moves_at 0) (get_or b f_moves_at 0) (omega arith)

-- a header goes where the words that begin with it go
pub earlier_front : (header state m : List ℕ) → length header ≡ header_words → earlier (header ++ state) m ≡ earlier header m
unfolding earlier
earlier_front header state m l =
    rw (get_or-append header state 0 f_at (omega arith), get_or-append header state 0 f_moves_at (omega arith), get_or-append header state 0 h_at (omega arith))

-- ---- sorted lists

-- a member of the kept ones, by its place
all_at : (P : List ℕ → Type 0) (at : ℕ → List ℕ) (k : List ℕ) (j : ℕ) → All P (map at k) → j < length k → P (at (get_or k j 0))
all_at P at [] j a h = absurd (omega arith)
all_at P at (y ∷ k) zero a h = a.0
all_at P at (y ∷ k) (suc j) a h = all_at P at k j a.1 (omega arith)

pub sorted_rising : (n : List ℕ) (at : ℕ → List ℕ) (k : List ℕ) → Sorted (map at k) → Rising (λ i. earlier n (at (get_or k i 0))) (length k)
sorted_rising n at [] s i j l m e = absurd (omega arith)
sorted_rising n at (y ∷ k) (more a s) zero zero l m e = e
sorted_rising n at (y ∷ k) (more a s) zero (suc j) l m e = earlier_trans n (at y) (at (get_or k j 0)) e (all_at (λ (z : List ℕ). earlier z (at y) ≡ false) at k j a (omega arith))
sorted_rising n at (y ∷ k) (more a s) (suc i) zero l m e = absurd (omega arith)
sorted_rising n at (y ∷ k) (more a s) (suc i) (suc j) l m e = sorted_rising n at k s i j (omega arith) (omega arith) e

all_without : (P : List ℕ → Type 0) (p : ℕ) (l : List (List ℕ)) → All P l → All P (without p l)
unfolding without
all_without P p [] a = a
all_without P zero (x ∷ l) a = a.1
all_without P (suc p) (x ∷ l) a = (a.0, all_without P p l a.1)

pub sorted_without : (p : ℕ) (l : List (List ℕ)) → Sorted l → Sorted (without p l)
unfolding without
sorted_without p [] s = s
sorted_without zero (x ∷ l) (more a s) = s
sorted_without (suc p) (x ∷ l) (more a s) = more (all_without (λ (n : List ℕ). earlier n x ≡ false) p l a) (sorted_without p l s)

all_take : (P : List ℕ → Type 0) (p : ℕ) (l : List (List ℕ)) → All P l → All P (take p l)
all_take P zero l a = tt
all_take P (suc p) [] a = tt
all_take P (suc p) (x ∷ l) a = (a.0, all_take P p l a.1)

pub sorted_take : (p : ℕ) (l : List (List ℕ)) → Sorted l → Sorted (take p l)
sorted_take zero l s = none
sorted_take (suc p) [] s = none
sorted_take (suc p) (x ∷ l) (more a s) = more (all_take (λ (n : List ℕ). earlier n x ≡ false) p l a) (sorted_take p l s)

all_placed : (P : List ℕ → Type 0) (c : List ℕ) (l : List (List ℕ)) → P c → All P l → All P (placed c l)
unfolding placed
all_placed P c [] p a = (p, tt)
all_placed P c (x ∷ l) p a = by_cond (All P) (earlier c x) (λ e. (p, a)) (λ e. (a.0, all_placed P c l p a.1))

pub sorted_placed : (c : List ℕ) (l : List (List ℕ)) → Sorted l → Sorted (placed c l)
unfolding placed
sorted_placed c [] s = more tt none
sorted_placed c (x ∷ l) (more a s) =
    by_cond Sorted (earlier c x)
    (λ e. more (earlier_one_way c x e, all_map l (λ y q. earlier_one_way c y (earlier_trans c x y e q)) a) (more a s))
    (λ e. more (all_placed (λ (n : List ℕ). earlier n x ≡ false) c l e a) (sorted_placed c l s))

-- ---- placed, by the number of those that it does not go before

pub placed_at : (c : List ℕ) (at : ℕ → List ℕ) (k : List ℕ) (r : ℕ) → Cutoff (λ i. earlier c (at (get_or k i 0))) (length k) r → placed c (map at k) ≡ map at (take r k) ++ (c ∷ map at (drop r k))
unfolding placed
placed_at c at [] zero t = refl
placed_at c at [] (suc r) t = absurd (omega (arith, t.within))
placed_at c at (y ∷ k) zero t = rw (t.passes 0 (omega arith) (omega arith))
placed_at c at (y ∷ k) (suc r) t =
    rw (t.fails 0 (omega arith))
    (ap (λ (l : List (List ℕ)). at y ∷ l)
    (placed_at c at k r (record { within = omega (arith, t.within); fails = λ i h. t.fails (suc i) (omega arith); passes = λ i h g. t.passes (suc i) (omega arith) (omega arith) })))

pub placed_length : (c : List ℕ) (l : List (List ℕ)) → length (placed c l) ≡ suc (length l)
unfolding placed
placed_length c [] = refl
placed_length c (x ∷ l) = by_cond (λ (m : List (List ℕ)). length m ≡ suc (suc (length l))) (earlier c x) (λ e. refl) (λ e. ap suc (placed_length c l))

-- ---- the cut: the last after placing

pub cut_last : {A : Type 0} (l : List A) (c : A) → drop_last (l ++ (c ∷ [])) ≡ l
cut_last [] c = refl
cut_last (x ∷ []) c = refl
cut_last {A} (x ∷ y ∷ l) c = ap (λ (m : List A). x ∷ m) (cut_last (y ∷ l) c)

cut_rest : {A : Type 0} (x : A) (l : List A) → 0 < length l → drop_last (x ∷ l) ≡ x ∷ drop_last l
cut_rest x [] h = absurd (omega arith)
cut_rest x (y ∷ l) h = refl

placed_here : (c m : List ℕ) (l : List (List ℕ)) → earlier c m ≡ true → placed c (m ∷ l) ≡ c ∷ m ∷ l
unfolding placed
placed_here c m l e = rw e

placed_behind : (c m : List ℕ) (l : List (List ℕ)) → earlier c m ≡ false → placed c (m ∷ l) ≡ m ∷ placed c l
unfolding placed
placed_behind c m l e = rw e

-- where c goes before some kept one, cutting before placing is cutting after it
pub cut_before : (c m : List ℕ) (l : List (List ℕ)) → any (earlier c) (m ∷ l) ≡ true → drop_last (placed c (m ∷ l)) ≡ placed c (drop_last (m ∷ l))
unfolding any
cut_before c m [] e = by_test (earlier c m) refl e
  where
    by_test : (t : Bool) → earlier c m ≡ t → (t || false) ≡ true → drop_last (placed c (m ∷ [])) ≡ placed c (drop_last (m ∷ []))
    by_test true f g = rw (placed_here c m [] f) (unfold placed in refl)
    by_test false f g = absurd (false≢true g)
cut_before c m (y ∷ l) e = by_test (earlier c m) refl e (cut_before c y l)
  where
    rest : List (List ℕ)
    rest = y ∷ l

    by_test : (t : Bool) → earlier c m ≡ t → (t || any (earlier c) rest) ≡ true → (any (earlier c) rest ≡ true → drop_last (placed c rest) ≡ placed c (drop_last rest)) → drop_last (placed c (m ∷ rest)) ≡ placed c (drop_last (m ∷ rest))
    by_test true f g below = rw (placed_here c m rest f, placed_here c m (drop_last rest) f)
    by_test false f g below =
        rw (placed_behind c m rest f, placed_behind c m (drop_last rest) f)
        (cut_rest m (placed c rest) (omega (arith, placed_length c rest)) ∙ ap (λ (x : List (List ℕ)). m ∷ x) (below g))
