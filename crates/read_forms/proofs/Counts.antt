-- The readers that parts are joined by, told by bytes and counts alone: the answer from the answers of the parts.
use Prim.Native.Nat.{ℕ, ◌+◌}
use mathlib.Core.Path.{◌≡◌, refl, sym, ap, ◌∙◌}
use mathlib.Core.Bool.{Bool, true, false, cond, ◌&&◌}
use mathlib.Core.List.{List}
use native.Mathlib.Nat.{add-zero}
use lib.ListN.{drop}
use lib.Dec.{leb, eqb}
use Rattle.model.specs.Numbers.{mismatch}
use Rattle.model.specs.Syntax.{Element, Set, Number, element_count, set_count}
use Rattle.model.specs.Readers.{Read, read, refused, Reader, after, continue, ◌>>=◌, ◌>>◌, give, require, one, two, three}
use Rattle.model.specs.Expressions.{element_and_set, two_sets}
use Rattle.std.specs.Prelude.{Result, Ok, Err}
use Rattle.read_forms.specs.Parts.{Answer, good, no_count, part_of}
use Rattle.read_forms.specs.Forms.{and_then, behind, two_parts, fitted, within, plus_parts, choice_of, count_for, whole, TakesAtMost}
use Rattle.read_forms.specs.declared.Due.{Due}
use Rattle.read_forms.specs.declared.Due.TheVariants as D
use Rattle.read_forms.specs.declared.Parts.{Parts}
use Rattle.read_forms.specs.declared.refusals.Refusal.{Refusal}
use Rattle.read_forms.specs.declared.refusals.Refusal.TheVariants.{Mismatch}
use Rattle.read_forms.specs.declared.Fit.TheVariants.{AtMost, Equal}
use Rattle.read_forms.proofs.Operands.{part_one}
use Rattle.read_forms.proofs.Bounds.{Short}

-- ---- answers without the first byte

pub then_then : {A B C : Type 0} (r : Result A Refusal) (f : A → Result B Refusal) (g : B → Result C Refusal) → and_then (and_then r f) g ≡ and_then r (λ a. and_then (f a) g)
then_then (Ok a) f g = refl
then_then (Err t) f g = refl

-- the count that an expression of this kind has
abbrev pub counted : Due → Answer → Answer
counted x r = and_then r (λ p. good p.used (count_for x p.count))

abbrev pub one_more : Answer → Answer
one_more r = and_then r (λ p. good (1 + p.used) p.count)

pub part_after : {A : Type 0} (h : A → ℕ) (r : Read A) → part_of h (after 1 r) ≡ one_more (part_of h r)
unfolding after
part_after h (read a n) = refl
part_after h (refused t) = refl

pub whole_counted : (x : Due) (r : Answer) → one_more (counted x r) ≡ and_then r (λ p. Ok (whole x p))
whole_counted x (Ok p) = refl
whole_counted x (Err t) = refl

pub short_part : {A : Type 0} (h : A → ℕ) (l : ℕ) (r : Read A) → Short l r → TakesAtMost l (part_of h r)
short_part h l (read a n) s = s
short_part h l (refused t) s = tt

-- ---- the combinators, by sizes

module _ {A B : Type 0} (x : Due) (h : B → ℕ) (g : A → ℕ) (make : A → B) (q : (a : A) → h (make a) ≡ count_for x (g a)) where
  pub by_one : (r : Reader A) (e : List ℕ) → part_of h (one r make e) ≡ counted x (part_of g (r e))
  by_one r e = part_one h r make e ∙ go (r e)
    where
      go : (y : Read A) → part_of (λ a. h (make a)) y ≡ counted x (part_of g y)
      go (read a n) = ap (good n) (q a)
      go (refused t) = refl

module _ {A B C : Type 0} (f : A → ℕ) (g : B → ℕ) (h : C → ℕ) (F : Parts → Answer) (ra : Reader A) (rb : Reader B) (make : A → B → C) (e : List ℕ) where
  abbrev both : ℕ → A → B → Parts
  both n a b = record { used = n; first = f a; second = g b }

  abbrev behind_first : ℕ → A → Read B → Answer
  behind_first n a y = and_then (and_then (part_of g y) (λ q. Ok (behind (record { used = n; count = f a }) q))) F

  pub by_two : ((n : ℕ) (a : A) (b : B) → F (both n a b) ≡ good n (h (make a b)))
      → part_of h (two ra rb make e) ≡ and_then (two_parts (part_of f (ra e)) (λ n. part_of g (rb (drop n e)))) F
  unfolding two ◌>>=◌ continue give after
  by_two some = go (ra e)
    where
      second : (a : A) (n : ℕ) (y : Read B) → part_of h (after n (continue y (λ b. give (make a b)) (drop n e))) ≡ behind_first n a y
      second a n (read b m) = sym (some (n + m) a b ∙ rw (add-zero m))
      second a n (refused t) = refl

      go : (y : Read A) → part_of h (continue y (λ a. rb >>= λ b. give (make a b)) e) ≡ and_then (two_parts (part_of f y) (λ n. part_of g (rb (drop n e)))) F
      go (read a n) = second a n (rb (drop n e))
      go (refused t) = refl

  -- two parts and a test
  pub by_test : (test : A → B → Bool) → ((n : ℕ) (a : A) (b : B) → F (both n a b) ≡ cond (test a b) (good n (h (make a b))) (Err Mismatch))
      → part_of h ((ra >>= λ a. rb >>= λ b. require (test a b) mismatch >> give (make a b)) e) ≡ and_then (two_parts (part_of f (ra e)) (λ n. part_of g (rb (drop n e)))) F
  unfolding ◌>>=◌ ◌>>◌ continue require give after
  by_test test some = go (ra e)
    where
      last : (a : A) (b : B) (n m : ℕ) (t : Bool) → part_of h (after n (after m ((require t mismatch >> give (make a b)) (drop m (drop n e))))) ≡ cond t (good (n + m) (h (make a b))) (Err Mismatch)
      last a b n m true = rw (add-zero m)
      last a b n m false = refl

      second : (a : A) (n : ℕ) (y : Read B) → part_of h (after n (continue y (λ b. require (test a b) mismatch >> give (make a b)) (drop n e))) ≡ behind_first n a y
      second a n (read b m) = last a b n m (test a b) ∙ sym (some (n + m) a b)
      second a n (refused t) = refl

      go : (y : Read A) → part_of h (continue y (λ a. rb >>= λ b. require (test a b) mismatch >> give (make a b)) e) ≡ and_then (two_parts (part_of f y) (λ n. part_of g (rb (drop n e)))) F
      go (read a n) = second a n (rb (drop n e))
      go (refused t) = refl

counted_cond : (x : Due) (t : Bool) (n a c : ℕ) → c ≡ count_for x a → counted x (cond t (good n a) (Err Mismatch)) ≡ cond t (good n c) (Err Mismatch)
counted_cond x true n a c q = ap (good n) (sym q)
counted_cond x false n a c q = refl

module _ {A : Type 0} (x : Due) (h : A → ℕ) where
  pub by_element_and_set : (re : Reader Element) (rs : Reader Set) (make : Element → Set → A) → ((y : Element) (s : Set) → h (make y s) ≡ count_for x (set_count s)) → (e : List ℕ)
      → part_of h (element_and_set re rs make e) ≡ counted x (and_then (two_parts (part_of element_count (re e)) (λ n. part_of set_count (rs (drop n e)))) (fitted AtMost))
  unfolding element_and_set
  by_element_and_set re rs make q e =
      by_test element_count set_count h (λ p. counted x (fitted AtMost p)) re rs make e (λ y s. leb (element_count y) (set_count s))
      (λ n y s. counted_cond x (leb (element_count y) (set_count s)) n (set_count s) (h (make y s)) (q y s))
      ∙ sym (then_then (two_parts (part_of element_count (re e)) (λ n. part_of set_count (rs (drop n e)))) (fitted AtMost) _)

  pub by_two_sets : (rs : Reader Set) (make : Set → Set → A) → ((s t : Set) → h (make s t) ≡ count_for x (set_count s)) → (e : List ℕ)
      → part_of h (two_sets rs make e) ≡ counted x (and_then (two_parts (part_of set_count (rs e)) (λ n. part_of set_count (rs (drop n e)))) (fitted Equal))
  unfolding two_sets
  by_two_sets rs make q e =
      by_test set_count set_count h (λ p. counted x (fitted Equal p)) rs rs make e (λ s t. eqb (set_count s) (set_count t))
      (λ n s t. counted_cond x (eqb (set_count s) (set_count t)) n (set_count s) (h (make s t)) (q s t))
      ∙ sym (then_then (two_parts (part_of set_count (rs e)) (λ n. part_of set_count (rs (drop n e)))) (fitted Equal) _)

pub by_three : {A B C E : Type 0} (f : A → ℕ) (g : B → ℕ) (k : C → ℕ) (ra : Reader A) (rb : Reader B) (rc : Reader C) (make : A → B → C → E) (e : List ℕ)
    → part_of no_count (three ra rb rc make e) ≡ choice_of (part_of f (ra e)) (λ n. two_parts (part_of g (rb (drop n e))) (λ m. part_of k (rc (drop m (drop n e)))))
unfolding three ◌>>=◌ continue give after
by_three {A} {B} {C} {E} f g k ra rb rc make e = go (ra e)
  where
    plus : ℕ → Result Parts Refusal → Answer
    plus n r = and_then r (λ q. Ok (plus_parts n q))

    third : (a : A) (b : B) (n m : ℕ) (y : Read C) → part_of {A = E} no_count (after n (after m (continue y (λ c. give (make a b c)) (drop m (drop n e))))) ≡ plus n (and_then (part_of k y) (λ q. Ok (behind (record { used = m; count = g b }) q)))
    third a b n m (read c l) = rw (add-zero l)
    third a b n m (refused t) = refl

    second : (a : A) (n : ℕ) (y : Read B) → part_of {A = E} no_count (after n (continue y (λ b. rc >>= λ c. give (make a b c)) (drop n e))) ≡ plus n (two_parts (part_of g y) (λ m. part_of k (rc (drop m (drop n e)))))
    second a n (read b m) = third a b n m (rc (drop m (drop n e)))
    second a n (refused t) = refl

    go : (y : Read A) → part_of {A = E} no_count (continue y (λ a. rb >>= λ b. rc >>= λ c. give (make a b c)) e) ≡ choice_of (part_of f y) (λ n. two_parts (part_of g (rb (drop n e))) (λ m. part_of k (rc (drop m (drop n e)))))
    go (read a n) = second a n (rb (drop n e))
    go (refused t) = refl

-- ---- a table's sides

-- within a table's sides, without the table's byte
abbrev in_sides : (r c : ℕ) → Parts → Answer
in_sides r c p = cond (leb p.first r && leb p.second c) (good p.used 0) (Err Mismatch)

within_sides : (x : Due) → ((a : ℕ) → count_for x a ≡ 0) → (r c : ℕ) (p : Result Parts Refusal) → one_more (and_then p (in_sides r c)) ≡ counted x (and_then p (within r c))
within_sides x q r c (Ok p) = go (leb p.first r && leb p.second c)
  where
    go : (t : Bool) → one_more (cond t (good p.used 0) (Err Mismatch)) ≡ counted x (cond t (good (1 + p.used) 0) (Err Mismatch))
    go true = ap (good (1 + p.used)) (sym (q 0))
    go false = refl
within_sides x q r c (Err t) = refl

pub in_sides_lem : {A : Type 0} (f : A → ℕ) (ra : Reader A) (re : Reader Element) (make : A → Element → Number) (r c : ℕ) (e : List ℕ)
    → part_of no_count (after 1 ((ra >>= λ a. re >>= λ y. require (leb (f a) r && leb (element_count y) c) mismatch >> give (make a y)) e))
    ≡ counted D.Number (and_then (two_parts (part_of f (ra e)) (λ n. part_of element_count (re (drop n e)))) (within r c))
in_sides_lem f ra re make r c e =
    part_after no_count _
    ∙ ap one_more (by_test f element_count no_count (in_sides r c) ra re make e (λ a y. leb (f a) r && leb (element_count y) c) (λ n a y. refl))
    ∙ within_sides D.Number (λ a. refl) r c (two_parts (part_of f (ra e)) (λ n. part_of element_count (re (drop n e))))
