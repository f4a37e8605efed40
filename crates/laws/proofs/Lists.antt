-- Laws of lists: members, selection, the list without its last, no two alike, what stands inside.
use Prim.Native.Nat.{ℕ, zero, suc, ◌<◌, ◌≤◌}
use mathlib.Core.Path.{◌≡◌, refl, ap}
use mathlib.Core.Logic.{◌⊎◌, inl, inr}
use mathlib.Core.Bool.{Bool, true, false, true≢false, false≢true}
use mathlib.Core.List.{List, [], ◌∷◌, drop_last}
use mathlib.Core.Option.{some}
use native.Mathlib.Omega.{arith}
use lib.ListN.{length, get_elem?, get_or, get_or-eq_default}
use lib.Dec.{leb}
use borrow.Author.Tests.{leb-true, leb-false}
use Rattle.laws.specs.Lists.{any, filter, is_empty, All, Different}
use Rattle.laws.proofs.Bools.{by_cond, or_either, or_neither}

module _ {A : Type 0} where
  -- P holds of some member
  pub data Some (P : A → Type 0) : List A → Type 0 where
    here : {x : A} {xs : List A} → P x → Some P (x ∷ xs)
    there : {x : A} {xs : List A} → Some P xs → Some P (x ∷ xs)

  pub some_none : {P : A → Type 0} → Some P [] → ⊥
  some_none s = elim s [ ]

  pub some_all : {P Q : A → Type 0} {X : Type 0} (l : List A) → All P l → Some Q l → ((x : A) → P x → Q x → X) → X
  some_all {P = P} {Q = Q} {X = X} [] a x3 f = elim x3 [ ]
  some_all (x ∷ xs) a (here q) f = f x a.0 q
  some_all (x ∷ xs) a (there s) f = some_all xs a.1 s f

  pub some_map : {P Q R : A → Type 0} (l : List A) → All P l → Some Q l → ((x : A) → P x → Q x → R x) → Some R l
  some_map {P = P} {Q = Q} {R = R} [] a x3 f = elim x3 [ ]
  some_map (x ∷ xs) a (here q) f = here (f x a.0 q)
  some_map (x ∷ xs) a (there s) f = there (some_map xs a.1 s f)

  -- of a list that is not empty
  pub some_of_lem : (P Q : A → Type 0) (l : List A) → is_empty l ≡ false → All P l → ((x : A) → P x → Q x) → Some Q l
  unfolding is_empty
  some_of_lem P Q [] e a f = absurd (true≢false e)
  some_of_lem P Q (x ∷ l) e a f = here (f x a.0)

  pub all_map : {P Q : A → Type 0} (l : List A) → ((x : A) → P x → Q x) → All P l → All Q l
  all_map [] f a = tt
  all_map (x ∷ xs) f a = (f x a.0, all_map xs f a.1)

  pub all_both : (P Q R : A → Type 0) (l : List A) → ((x : A) → P x → Q x → R x) → All P l → All Q l → All R l
  all_both P Q R [] f a b = tt
  all_both P Q R (x ∷ l) f a b = (f x a.0 b.0, all_both P Q R l f a.1 b.1)

  pub any_some : (p : A → Bool) (l : List A) → any p l ≡ true → Some (λ x. p x ≡ true) l
  unfolding any
  any_some p [] e = absurd (false≢true e)
  any_some p (x ∷ xs) e = pick (or_either (p x) (any p xs) e) (any_some p xs)
    where
      pick : (p x ≡ true) ⊎ (any p xs ≡ true) → (any p xs ≡ true → Some (λ x. p x ≡ true) xs) → Some (λ x. p x ≡ true) (x ∷ xs)
      pick (inl q) f = here q
      pick (inr q) f = there (f q)

  pub any_none : (p : A → Bool) (l : List A) → any p l ≡ false → All (λ x. p x ≡ false) l
  unfolding any
  any_none p [] e = tt
  any_none p (x ∷ xs) e = let q = or_neither (p x) (any p xs) e in (q.0, any_none p xs q.1)

  pub all_filter : (P : A → Type 0) (p : A → Bool) (l : List A) → All P l → All P (filter p l)
  unfolding filter
  all_filter P p [] a = tt
  all_filter P p (x ∷ xs) a = by_cond (All P) (p x) (λ e. (a.0, all_filter P p xs a.1)) (λ e. all_filter P p xs a.1)

  -- what is selected passes the test
  pub all_passed : (p : A → Bool) (l : List A) → All (λ x. p x ≡ true) (filter p l)
  unfolding filter
  all_passed p [] = tt
  all_passed p (x ∷ xs) = by_cond (All (λ x. p x ≡ true)) (p x) (λ e. (e, all_passed p xs)) (λ e. all_passed p xs)

  -- a member with P is selected, or fails the test
  pub some_filter : {P : A → Type 0} (p : A → Bool) (l : List A) → Some P l → Some P (filter p l) ⊎ Some (λ x. P x × (p x ≡ false)) l
  unfolding filter
  some_filter {P = P} p [] x' = elim x' [ ]
  some_filter {P} p (x ∷ xs) (here h) = by_cond (λ l. Some P l ⊎ Some (λ y. P y × (p y ≡ false)) (x ∷ xs)) (p x) (λ e. inl (here h)) (λ e. inr (here (h, e)))
  some_filter {P} p (x ∷ xs) (there h) = by_cond (λ l. Some P l ⊎ Some (λ y. P y × (p y ≡ false)) (x ∷ xs)) (p x) (λ e. selected (some_filter p xs h)) (λ e. passed_over (some_filter p xs h))
    where
      selected : Some P (filter p xs) ⊎ Some (λ y. P y × (p y ≡ false)) xs → Some P (x ∷ filter p xs) ⊎ Some (λ y. P y × (p y ≡ false)) (x ∷ xs)
      selected (inl s) = inl (there s)
      selected (inr s) = inr (there s)

      passed_over : Some P (filter p xs) ⊎ Some (λ y. P y × (p y ≡ false)) xs → Some P (filter p xs) ⊎ Some (λ y. P y × (p y ≡ false)) (x ∷ xs)
      passed_over (inl s) = inl s
      passed_over (inr s) = inr (there s)

  pub all_drop_last : (P : A → Type 0) (l : List A) → All P l → All P (drop_last l)
  all_drop_last P [] a = tt
  all_drop_last P (x ∷ []) a = tt
  all_drop_last P (x ∷ y ∷ l) a = (a.0, all_drop_last P (y ∷ l) a.1)

  pub is_empty_lem : (l : List A) → is_empty l ≡ true → l ≡ []
  unfolding is_empty
  is_empty_lem [] e = refl
  is_empty_lem (x ∷ xs) e = absurd (false≢true e)

module _ {A B : Type 0} (v : A → B) where
  -- no two members have the same v
  abbrev pub Apart : List A → Type 0
  Apart [] = Unit {0}
  Apart (x ∷ xs) = All (λ y. v x ≡ v y → ⊥) xs × Apart xs

  pub apart_filter : (p : A → Bool) (l : List A) → Apart l → Apart (filter p l)
  unfolding filter
  apart_filter p [] a = tt
  apart_filter p (x ∷ xs) a = by_cond Apart (p x) (λ e. (all_filter (λ y. v x ≡ v y → ⊥) p xs a.0, apart_filter p xs a.1)) (λ e. apart_filter p xs a.1)

  pub apart_drop_last : (l : List A) → Apart l → Apart (drop_last l)
  apart_drop_last [] a = tt
  apart_drop_last (x ∷ []) a = tt
  apart_drop_last (x ∷ y ∷ l) a = (all_drop_last (λ y. v x ≡ v y → ⊥) (y ∷ l) a.0, apart_drop_last (y ∷ l) a.1)

  abbrev pub values : List A → List B
  values [] = []
  values (x ∷ xs) = v x ∷ values xs

  pub all_values : (P : B → Type 0) (l : List A) → All (λ x. P (v x)) l → All P (values l)
  all_values P [] a = tt
  all_values P (x ∷ xs) a = (a.0, all_values P xs a.1)

  pub different_values : (l : List A) → Apart l → Different (values l)
  different_values [] a = tt
  different_values (x ∷ xs) a = (all_values (λ y. v x ≡ y → ⊥) xs a.0, different_values xs a.1)

  pub length_values : (l : List A) → length (values l) ≡ length l
  length_values [] = refl
  length_values (x ∷ xs) = ap suc (length_values xs)

-- an item that is there has a place below the length
pub found_below : {A : Type 0} (l : List A) (k : ℕ) {x : A} → get_elem? l k ≡ some x → k < length l
found_below [] k e = let z : ◌≡◌ {A = ℕ} 0 1 = cc in absurd (omega arith)
found_below (x ∷ xs) zero e = omega arith
found_below (x ∷ xs) (suc k) e = omega (arith, found_below xs k e)

-- a byte that is not 0 stands inside
pub inside : (bytes : List ℕ) (at : ℕ) → (get_or bytes at 0 ≡ 0 → ⊥) → at < length bytes
inside bytes at f = go (leb (length bytes) at) (leb-true (length bytes) at) (leb-false (length bytes) at)
  where
    go : (t : Bool) → (t ≡ true → length bytes ≤ at) → (t ≡ false → at < length bytes) → at < length bytes
    go true p q = absurd (f (get_or-eq_default bytes 0 (p refl)))
    go false p q = q refl

pub byte_inside : (bytes : List ℕ) (at b : ℕ) → 0 < b → get_or bytes at 0 ≡ b → at < length bytes
byte_inside bytes at b h q = inside bytes at (λ z. omega arith)
