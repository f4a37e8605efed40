-- With more depth left a reader reads what it reads with less.
use Prim.Native.Nat.{ℕ, zero, suc, ◌+◌, ◌≤◌, ◌-◌}
use mathlib.Core.Path.{◌≡◌}
use mathlib.Core.Bool.{Bool, true, false, cond}
use mathlib.Core.List.{List, [], ◌∷◌}
use native.Mathlib.Omega.{arith}
use lib.ListN.{drop}
use lib.Dec.{eqb}
use Rattle.model.specs.Numbers.{most_nesting}
use Rattle.model.specs.Readers.{Read, read, refused, Reader, after, continue, ◌>>=◌, ◌>>◌, refuse, byte, one, two, three}
use Rattle.model.specs.Syntax.{Element, Set, Number, Condition, Variable, Table}
use Rattle.model.specs.Expressions.{Form, ◌⇒◌, form_of, no_depth, element_and_set, two_sets, in_table, element, set, number, condition}

-- the first is refused, or both are the same
pub data Below {A : Type 0} : Read A → Read A → Type 0 where
  no_read : {t : ℕ} {y : Read A} → Below (refused t) y
  alike : {x : Read A} → Below x x

abbrev pub Deepens : {A : Type 0} → Reader A → Reader A → Type 0
Deepens r s = (e : List ℕ) → Below (r e) (s e)

pub below_read : {A : Type 0} {x y : Read A} {a : A} {n : ℕ} → Below x y → x ≡ read a n → y ≡ read a n
below_read no_read h = let z : ◌≡◌ {A = ℕ} 0 1 = cc in absurd (omega arith)
below_read alike h = h

-- ---- combinators

module _ {A : Type 0} where
  after_below : (n : ℕ) {x y : Read A} → Below x y → Below (after n x) (after n y)
  unfolding after
  after_below n no_read = no_read
  after_below n alike = alike

  same : (r : Reader A) → Deepens r r
  same r e = alike

module _ {A B : Type 0} where
  continue_below : (e : List ℕ) {x y : Read A} {f g : A → Reader B} → Below x y → ((a : A) → Deepens (f a) (g a)) → Below (continue x f e) (continue y g e)
  unfolding continue
  continue_below e no_read h = no_read
  continue_below e (alike {x = read a n}) h = after_below n (h a (drop n e))
  continue_below e (alike {x = refused t}) h = no_read

  then_below : {r s : Reader A} {f g : A → Reader B} → Deepens r s → ((a : A) → Deepens (f a) (g a)) → Deepens (r >>= f) (s >>= g)
  unfolding ◌>>=◌
  then_below h k e = continue_below e (h e) k

  one_below : {r s : Reader A} (make : A → B) → Deepens r s → Deepens (one r make) (one s make)
  unfolding one
  one_below make h = then_below h (λ a. same _)

module _ {A B C : Type 0} where
  two_below : {r s : Reader A} {q p : Reader B} (make : A → B → C) → Deepens r s → Deepens q p → Deepens (two r q make) (two s p make)
  unfolding two
  two_below make h k = then_below h (λ a. then_below k (λ b. same _))

module _ {A B C D : Type 0} where
  three_below : {r s : Reader A} {q p : Reader B} {o u : Reader C} (make : A → B → C → D) → Deepens r s → Deepens q p → Deepens o u → Deepens (three r q o make) (three s p u make)
  unfolding three
  three_below make h k l = then_below h (λ a. then_below k (λ b. then_below l (λ c. same _)))

-- ---- forms by their first byte

-- rows of the same bytes, each reader no deeper than its own
data Rows {A : Type 0} : List (Form A) → List (Form A) → Type 0 where
  done : Rows [] []
  row : {b : ℕ} {r s : Reader A} {fs gs : List (Form A)} → Deepens r s → Rows fs gs → Rows ((b ⇒ r) ∷ fs) ((b ⇒ s) ∷ gs)

cond_below : {A : Type 0} (t : Bool) {r s q p : Reader A} → Deepens r s → Deepens q p → Deepens (cond t r q) (cond t s p)
cond_below true h k = h
cond_below false h k = k

form_below : {A : Type 0} {fs gs : List (Form A)} → Rows fs gs → (b : ℕ) → Deepens (form_of fs b) (form_of gs b)
unfolding form_of
form_below done b = same _
form_below (row {b = c} h hs) b = cond_below (eqb b c) h (form_below hs b)

-- without depth nothing is read
none_below : {A : Type 0} (s : Reader A) → Deepens no_depth s
unfolding no_depth ◌>>◌ continue after refuse byte
none_below s [] = no_read
none_below s (b ∷ e) = no_read

-- ---- expressions

element_and_set_below : {A : Type 0} {re se : Reader Element} {rs ss : Reader Set} (make : Element → Set → A) → Deepens re se → Deepens rs ss → Deepens (element_and_set re rs make) (element_and_set se ss make)
unfolding element_and_set
element_and_set_below make h k = then_below h (λ e. then_below k (λ s. same _))

two_sets_below : {A : Type 0} {r s : Reader Set} (make : Set → Set → A) → Deepens r s → Deepens (two_sets r make) (two_sets s make)
unfolding two_sets
two_sets_below make h = then_below h (λ x. then_below h (λ y. same _))

module _ (vs : List Variable) (ts : List Table) where
  in_table_below : {A B : Type 0} {r s : Reader A} (count : A → ℕ) {q p : Reader Element} (make : ℕ → A → Element → B) → Deepens r s → Deepens q p → Deepens (in_table vs ts r count q make) (in_table vs ts s count p make)
  unfolding in_table
  in_table_below count make h k = then_below (same _) (λ t. then_below h (λ a. then_below k (λ e. same _)))

  element_below : (d : ℕ) → Deepens (element vs ts d) (element vs ts (suc d))
  unfolding element
  element_below zero = none_below _
  element_below (suc d) = same _

  set_below : (d : ℕ) → Deepens (set vs ts d) (set vs ts (suc d))
  unfolding set
  set_below zero = none_below _
  set_below (suc d) = then_below (same byte) (form_below
      (row (same _) (row (same _)
      (row (element_and_set_below _ (element_below d) (set_below d)) (row (element_and_set_below _ (element_below d) (set_below d))
      (row (two_sets_below _ (set_below d)) (row (two_sets_below _ (set_below d)) (row (two_sets_below _ (set_below d))
      (row (one_below _ (set_below d)) done)))))))))

  mutual
    unfolding number condition

    number_below : (d : ℕ) → Deepens (number vs ts d) (number vs ts (suc d))
    number_below zero = none_below _
    number_below (suc d) = then_below (same byte) (form_below
        (row (same _) (row (same _)
        (row (two_below _ (number_below d) (number_below d)) (row (two_below _ (number_below d) (number_below d)) (row (two_below _ (number_below d) (number_below d))
        (row (two_below _ (number_below d) (number_below d)) (row (two_below _ (number_below d) (number_below d)) (row (two_below _ (number_below d) (number_below d))
        (row (in_table_below _ _ (element_below d) (element_below d)) (row (one_below _ (set_below d))
        (row (in_table_below _ _ (set_below d) (element_below d))
        (row (three_below _ (condition_below d) (number_below d) (number_below d)) done)))))))))))))

    condition_below : (d : ℕ) → Deepens (condition vs ts d) (condition vs ts (suc d))
    condition_below zero = none_below _
    condition_below (suc d) = then_below (same byte) (form_below
        (row (two_below _ (number_below d) (number_below d)) (row (two_below _ (number_below d) (number_below d)) (row (two_below _ (number_below d) (number_below d))
        (row (two_below _ (element_below d) (element_below d)) (row (element_and_set_below _ (element_below d) (set_below d))
        (row (one_below _ (set_below d)) (row (two_sets_below _ (set_below d))
        (row (one_below _ (condition_below d)) (row (two_below _ (condition_below d) (condition_below d)) (row (two_below _ (condition_below d) (condition_below d)) done)))))))))))

  -- ---- what is read with some depth left is read with more

  module _ {A : Type 0} (r : ℕ → Reader A) (below : (d : ℕ) → Deepens (r d) (r (suc d))) where
    deeper : (k d top : ℕ) → top ≡ k + d → (e : List ℕ) {x : A} {n : ℕ} → r d e ≡ read x n → r top e ≡ read x n
    deeper zero d top l e h = let same-depth : top ≡ d = omega arith in rw same-depth h
    deeper (suc k) d top l e h = deeper k (suc d) top (omega arith) e (below_read (below d e) h)

    with_depth : (d top : ℕ) → d ≤ top → (e : List ℕ) {x : A} {n : ℕ} → r d e ≡ read x n → r top e ≡ read x n
    with_depth d top l e h = deeper (top - d) d top (omega arith) e h

  pub set_with_depth : (d top : ℕ) → d ≤ top → (e : List ℕ) {x : Set} {n : ℕ} → set vs ts d e ≡ read x n → set vs ts top e ≡ read x n
  set_with_depth = with_depth (set vs ts) set_below

  pub number_with_depth : (d top : ℕ) → d ≤ top → (e : List ℕ) {x : Number} {n : ℕ} → number vs ts d e ≡ read x n → number vs ts top e ≡ read x n
  number_with_depth = with_depth (number vs ts) number_below

  pub condition_with_depth : (d top : ℕ) → d ≤ top → (e : List ℕ) {x : Condition} {n : ℕ} → condition vs ts d e ≡ read x n → condition vs ts top e ≡ read x n
  condition_with_depth = with_depth (condition vs ts) condition_below

  pub with_all_depth : (d : ℕ) → d ≤ most_nesting → (e : List ℕ) {x : Condition} {n : ℕ} → condition vs ts d e ≡ read x n → condition vs ts most_nesting e ≡ read x n
  with_all_depth d l e h = condition_with_depth d most_nesting l e h
