-- What holds of all that a reader may have read: one law for each way in which readers are put together.
use Prim.Native.Nat.{ℕ, zero, suc, ◌+◌, ◌*◌, ◌≤◌, ◌^◌, ◌<◌}
use mathlib.Core.Path.{◌≡◌, refl, sym, ap, ◌∙◌, subst}
use mathlib.Core.Bool.{Bool, true, false, cond, ◌&&◌, false≢true}
use mathlib.Core.List.{List, [], ◌∷◌}
use mathlib.Core.Option.{Option}
use mathlib.Core.Option as O
use native.Mathlib.Nat.{add-zero}
use native.Mathlib.Omega.{arith}
use lib.ListN.{length, drop, get_elem?}
use lib.Dec.{eqb, ltb, leb}
use borrow.Author.Tests.{eqb-true, ltb-true}
use Rattle.laws.proofs.Bools.{and_both}
use Rattle.model.specs.Numbers.{most_objects, not_due, mismatch, off_limits, too_deep}
use Rattle.model.specs.Readers.{Read, read, refused, Reader, after, continue, give, refuse, require, byte, word, signed, one, two, three, integer, ◌>>=◌ as ◌bind◌, ◌>>◌ as ◌then◌}
use Rattle.model.specs.Syntax.{Element, Set, element_count, set_count, Kind, a_set, an_element, a_number, Variable, Table, table_at}
use Rattle.model.specs.Expressions.{Form, ◌⇒◌, form_of, no_depth, among, begins_expression, is_count, objects_and_members, object_number, kind_number, declared, element_and_set, two_sets, variable, table_number, in_table}

-- P holds of what was read and the bytes used, if anything was read
pub data Of {A : Type 0} (P : A → ℕ → Type 0) : Read A → Type 0 where
  said : {a : A} {n : ℕ} → P a n → Of P (read a n)
  unsaid : {t : ℕ} → Of P (refused t)

pub of_read : {A : Type 0} {P : A → ℕ → Type 0} {a : A} {n : ℕ} {r : Read A} → r ≡ read a n → Of P r → P a n
of_read {A} {P} {a} {n} {r} q h = go (subst (λ (r : Read A). Of P r) q h)
  where
    go : Of P (read a n) → P a n
    go (said p) = p

module _ {A : Type 0} where
  pub of_map : {P Q : A → ℕ → Type 0} {r : Read A} → ((a : A) (n : ℕ) → P a n → Q a n) → Of P r → Of Q r
  of_map f (said p) = said (f _ _ p)
  of_map f unsaid = unsaid

  pub of_after : {P : A → ℕ → Type 0} {r : Read A} (k : ℕ) → Of (λ a n. P a (k + n)) r → Of P (after k r)
  unfolding after
  of_after k (said p) = said p
  of_after k unsaid = unsaid

  -- what was read, as it is
  pub of_self : (r : Read A) → Of (λ a n. r ≡ read a n) r
  of_self (read a n) = said refl
  of_self (refused t) = unsaid

pub of_require : {P : Unit {0} → ℕ → Type 0} (b : Bool) (t : ℕ) (e : List ℕ) → (b ≡ true → P tt 0) → Of P (require b t e)
unfolding require
of_require true t e h = said (h refl)
of_require false t e h = unsaid

module _ {A B : Type 0} where
  pub of_continue : {P : B → ℕ → Type 0} {r : Read A} (next : A → Reader B) (e : List ℕ)
      → Of (λ a n. Of (λ b m. P b (n + m)) (next a (drop n e))) r → Of P (continue r next e)
  unfolding continue
  of_continue next e (said {a = a} {n = n} p) = of_after n p
  of_continue next e unsaid = unsaid

  pub of_bind : {P : B → ℕ → Type 0} (first : Reader A) (next : A → Reader B) (e : List ℕ)
      → Of (λ a n. Of (λ b m. P b (n + m)) (next a (drop n e))) (first e) → Of P ((first bind next) e)
  unfolding ◌bind◌
  of_bind first next e h = of_continue next e h

  pub of_then : {P : B → ℕ → Type 0} (first : Reader A) (next : Reader B) (e : List ℕ)
      → Of (λ a n. Of (λ b m. P b (n + m)) (next (drop n e))) (first e) → Of P ((first then next) e)
  unfolding ◌then◌
  of_then first next e h = of_continue (λ _. next) e h

-- what a test lets pass, made into the answer
pub of_checked : {A : Type 0} {P : A → ℕ → Type 0} (b : Bool) (t : ℕ) (a : A) (e : List ℕ) → (b ≡ true → P a 0)
    → Of P ((require b t then give a) e)
unfolding give
of_checked b t a e h = of_then (require b t) (give a) e (of_require b t e (λ q. said (h q)))

-- ---- one, two, three parts

module _ {A B : Type 0} where
  pub of_one : {P : A → ℕ → Type 0} {Q : B → ℕ → Type 0} (ra : Reader A) (make : A → B) (e : List ℕ)
      → Of P (ra e) → ((a : A) (n : ℕ) → P a n → Q (make a) n) → Of Q (one ra make e)
  unfolding one give
  of_one ra make e h f = of_bind ra (λ a. give (make a)) e (of_map (λ a n p. said (rw (add-zero n) (f a n p))) h)

module _ {A B C : Type 0} where
  pub of_two : {P : A → ℕ → Type 0} {Q : List ℕ → B → ℕ → Type 0} {G : C → ℕ → Type 0}
      (ra : Reader A) (rb : Reader B) (make : A → B → C) (e : List ℕ) → Of P (ra e) → ((f : List ℕ) → Of (Q f) (rb f))
      → ((a : A) (n : ℕ) (b : B) (m : ℕ) → P a n → Q (drop n e) b m → G (make a b) (n + m)) → Of G (two ra rb make e)
  unfolding two give
  of_two ra rb make e h k f =
      of_bind ra (λ a. rb bind (λ b. give (make a b))) e
      (of_map (λ a n p. of_bind rb (λ b. give (make a b)) (drop n e)
      (of_map (λ b m q. said (rw (add-zero m) (f a n b m p q))) (k (drop n e)))) h)

  -- two parts and a test of them
  pub of_two_checked : {P : A → ℕ → Type 0} {Q : List ℕ → B → ℕ → Type 0} {G : C → ℕ → Type 0}
      (ra : Reader A) (rb : Reader B) (test : A → B → Bool) (t : ℕ) (make : A → B → C) (e : List ℕ)
      → Of P (ra e) → ((f : List ℕ) → Of (Q f) (rb f))
      → ((a : A) (n : ℕ) (b : B) (m : ℕ) → P a n → Q (drop n e) b m → test a b ≡ true → G (make a b) (n + m))
      → Of G ((ra bind (λ a. rb bind (λ b. require (test a b) t then give (make a b)))) e)
  of_two_checked ra rb test t make e h k f =
      of_bind ra (λ a. rb bind (λ b. require (test a b) t then give (make a b))) e
      (of_map (λ a n p. of_bind rb (λ b. require (test a b) t then give (make a b)) (drop n e)
      (of_map (λ b m q. of_checked (test a b) t (make a b) (drop m (drop n e)) (λ z. rw (add-zero m) (f a n b m p q z))) (k (drop n e)))) h)

module _ {A B C D : Type 0} where
  pub of_three : {P : A → ℕ → Type 0} {Q : List ℕ → B → ℕ → Type 0} {R : List ℕ → C → ℕ → Type 0} {G : D → ℕ → Type 0}
      (ra : Reader A) (rb : Reader B) (rc : Reader C) (make : A → B → C → D) (e : List ℕ)
      → Of P (ra e) → ((f : List ℕ) → Of (Q f) (rb f)) → ((f : List ℕ) → Of (R f) (rc f))
      → ((a : A) (n : ℕ) (b : B) (m : ℕ) (c : C) (l : ℕ) → P a n → Q (drop n e) b m → R (drop m (drop n e)) c l → G (make a b c) (n + (m + l)))
      → Of G (three ra rb rc make e)
  unfolding three two
  of_three ra rb rc make e h k j f =
      of_bind ra (λ a. two rb rc (make a)) e
      (of_map (λ a n p. of_two rb rc (make a) (drop n e) (k (drop n e)) j (λ b m c l q r. f a n b m c l p q r)) h)

-- ---- operands

-- k bytes of operands were there
pub record Long (k : ℕ) (e : List ℕ) (n : ℕ) : Type 0 where
  pub used : n ≡ k
  pub there : k ≤ length e

-- the one byte of an operand
pub record Byte (e : List ℕ) (v n : ℕ) : Type 0 where
  pub rest : List ℕ
  pub whole : e ≡ v ∷ rest
  pub used : n ≡ 1

pub byte_long : {e : List ℕ} {v n : ℕ} → Byte e v n → Long 1 e n
byte_long b = record { used = b.used; there = rw b.whole (omega arith) }

byte_counted : {e : List ℕ} {v n m : ℕ} → m ≡ n → Byte e v n → Byte e v m
byte_counted q b = record { rest = b.rest; whole = b.whole; used = q ∙ b.used }

pub of_word : (k : ℕ) (e : List ℕ) → Of (λ w n. Long k e n) (word k e)
unfolding word give byte
of_word zero e = said (record { used = refl; there = omega arith })
of_word (suc k) [] = of_bind byte (λ b. word k bind (λ w. give (b + 256 * w))) [] unsaid
of_word (suc k) (b ∷ e) =
    of_bind byte (λ b. word k bind (λ w. give (b + 256 * w))) (b ∷ e)
    (said (of_bind (word k) (λ w. give (b + 256 * w)) e
    (of_map (λ w n p. said (record { used = omega (arith, p.used); there = omega (arith, p.there) })) (of_word k e))))

pub of_byte : (e : List ℕ) → Of (λ v n. Byte e v n) (word 1 e)
unfolding word give byte
of_byte [] = of_bind byte (λ b. word 0 bind (λ w. give (b + 256 * w))) [] unsaid
of_byte (b ∷ e) =
    of_bind byte (λ b. word 0 bind (λ w. give (b + 256 * w))) (b ∷ e)
    (said (of_bind (word 0) (λ w. give (b + 256 * w)) e
    (said (said (record { rest = e; whole = ap (λ (k : ℕ). k ∷ e) (sym (add-zero b)); used = refl })))))

pub of_both : {A : Type 0} {P Q : A → ℕ → Type 0} {r : Read A} → Of P r → Of Q r → Of (λ a n. P a n × Q a n) r
of_both (said p) (said q) = said (p, q)
of_both unsaid h = unsaid

pub of_integer : (e : List ℕ) → Of (λ z n. (integer e ≡ read z n) × Long 4 e n) (integer e)
of_integer e = of_both (of_self (integer e)) (long e)
  where
    long : (e : List ℕ) → Of (λ z n. Long 4 e n) (integer e)
    long e = unfold integer in of_one (word 4) signed e (of_word 4 e) (λ a n p. p)

pub of_object_number : (e : List ℕ) → Of (λ k n. Byte e k n × (k < most_objects)) (object_number e)
unfolding object_number
of_object_number e =
    of_bind (word 1) _ e (of_map (λ k n p. of_checked (ltb k most_objects) off_limits k (drop n e)
    (λ q. rw (add-zero n) (p, ltb-true k most_objects q))) (of_byte e))

-- the operands of a set
pub record Members (e : List ℕ) (objects members n : ℕ) : Type 0 where
  pub rest : List ℕ
  pub whole : e ≡ objects ∷ rest
  pub long : 8 ≤ length rest
  pub there : word 8 rest ≡ read members 8
  pub few : objects ≤ most_objects
  pub used : n ≡ 9

-- 64 objects at most
count_most : (n : ℕ) → is_count n ≡ true → n ≤ most_objects
unfolding is_count among
count_most n h = omega (arith, ltb-true n 65 (and_both (leb 1 n) (ltb n 65) h).1)

pub of_objects_and_members : (e : List ℕ) → Of (λ p n. Members e p.0 p.1 n) (objects_and_members e)
unfolding objects_and_members
of_objects_and_members e =
    of_bind (word 1) _ e (of_map (λ k n p. of_bind (word 8) _ (drop n e)
    (of_map (λ s m q. of_checked (is_count k && ltb s (2 ^ k)) off_limits (k, s) (drop m (drop n e))
    (λ z. made e k n s m p q (and_both (is_count k) (ltb s (2 ^ k)) z).0))
    (of_both (of_self (word 8 (drop n e))) (of_word 8 (drop n e))))) (of_byte e))
  where
    made : (e : List ℕ) (k n s m : ℕ) → Byte e k n → (word 8 (drop n e) ≡ read s m) × Long 8 (drop n e) m → is_count k ≡ true → Members e k s (n + (m + 0))
    made e k n s m p q z =
        let behind : drop n e ≡ p.rest = rw (p.used, p.whole) in
        record {
          rest = p.rest;
          whole = p.whole;
          long = rw behind at q.1.there;
          there = (rw behind at q.0) ∙ ap (λ (j : ℕ). read s j) q.1.used;
          few = count_most k z;
          used = omega (arith, p.used, q.1.used);
        }

-- ---- names

-- v is a declared variable of this kind, with so many objects
pub record Declared (variables : List Variable) (kind : Kind) (v objects : ℕ) : Type 0 where
  pub named : Variable
  pub found : get_elem? variables v ≡ O.some named
  pub alike : named.kind ≡ kind
  pub counted : named.objects ≡ objects

same_kind : (k j : Kind) → eqb (kind_number k) (kind_number j) ≡ true → j ≡ k
unfolding kind_number
same_kind a_set a_set h = refl
same_kind a_set an_element h = absurd (false≢true h)
same_kind a_set a_number h = absurd (false≢true h)
same_kind an_element a_set h = absurd (false≢true h)
same_kind an_element an_element h = refl
same_kind an_element a_number h = absurd (false≢true h)
same_kind a_number a_set h = absurd (false≢true h)
same_kind a_number an_element h = absurd (false≢true h)
same_kind a_number a_number h = refl

of_declared : (o : Option Variable) (e : List ℕ) → Of (λ x n. (o ≡ O.some x) × (n ≡ 0)) (declared o e)
unfolding declared refuse give
of_declared O.none e = unsaid
of_declared (O.some x) e = said (refl, refl)

module _ (variables : List Variable) (tables : List Table) where
  pub of_variable_lem : (kind : Kind) (e : List ℕ) → Of (λ p n. Byte e p.0 n × Declared variables kind p.0 p.1) (variable variables tables kind e)
  unfolding variable
  of_variable_lem kind e =
      of_bind (word 1) _ e (of_map (λ v n p. of_bind (declared (get_elem? variables v)) _ (drop n e)
      (of_map (λ x m q. of_checked (eqb (kind_number kind) (kind_number x.kind)) mismatch (v, x.objects) (drop m (drop n e))
      (λ z. (byte_counted (omega (arith, q.1)) p, record { named = x; found = q.0; alike = same_kind kind x.kind z; counted = refl })))
      (of_declared (get_elem? variables v) (drop n e)))) (of_byte e))

  pub of_table_number : (e : List ℕ) → Of (λ t n. Byte e t n × (t < length tables)) (table_number variables tables e)
  unfolding table_number
  of_table_number e =
      of_bind (word 1) _ e (of_map (λ t n p. of_checked (ltb t (length tables)) mismatch t (drop n e)
      (λ q. rw (add-zero n) (p, ltb-true t (length tables) q))) (of_byte e))

-- ---- parts whose counts have to fit

module _ {A : Type 0} where
  pub of_element_and_set : {P : Element → ℕ → Type 0} {Q : List ℕ → Set → ℕ → Type 0} {G : A → ℕ → Type 0}
      (re : Reader Element) (rs : Reader Set) (make : Element → Set → A) (e : List ℕ) → Of P (re e) → ((f : List ℕ) → Of (Q f) (rs f))
      → ((a : Element) (n : ℕ) (b : Set) (m : ℕ) → P a n → Q (drop n e) b m → G (make a b) (n + m)) → Of G (element_and_set re rs make e)
  unfolding element_and_set
  of_element_and_set re rs make e h k f =
      of_two_checked re rs (λ a b. leb (element_count a) (set_count b)) mismatch make e h k (λ a n b m p q z. f a n b m p q)

  pub of_two_sets : {P : Set → ℕ → Type 0} {Q : List ℕ → Set → ℕ → Type 0} {G : A → ℕ → Type 0}
      (rs : Reader Set) (make : Set → Set → A) (e : List ℕ) → Of P (rs e) → ((f : List ℕ) → Of (Q f) (rs f))
      → ((a : Set) (n : ℕ) (b : Set) (m : ℕ) → P a n → Q (drop n e) b m → G (make a b) (n + m)) → Of G (two_sets rs make e)
  unfolding two_sets
  of_two_sets rs make e h k f =
      of_two_checked rs rs (λ a b. eqb (set_count a) (set_count b)) mismatch make e h k (λ a n b m p q z. f a n b m p q)

module _ {A B : Type 0} (variables : List Variable) (tables : List Table) where
  pub of_in_table : {P : List ℕ → A → ℕ → Type 0} {Q : List ℕ → Element → ℕ → Type 0} {G : B → ℕ → Type 0}
      (ra : Reader A) (count_of : A → ℕ) (re : Reader Element) (make : ℕ → A → Element → B) (e : List ℕ)
      → ((f : List ℕ) → Of (P f) (ra f)) → ((f : List ℕ) → Of (Q f) (re f))
      → ((t k : ℕ) (a : A) (n : ℕ) (b : Element) (m : ℕ) → Byte e t k → t < length tables → P (drop k e) a n → Q (drop n (drop k e)) b m → G (make t a b) (k + (n + m)))
      → Of G (in_table variables tables ra count_of re make e)
  unfolding in_table
  of_in_table ra count_of re make e h k f =
      of_bind (table_number variables tables) _ e
      (of_map (λ t j z. of_two_checked ra re
      (λ a b. leb (count_of a) (table_at tables t).rows && leb (element_count b) (table_at tables t).columns) mismatch (λ a b. make t a b) (drop j e)
      (h (drop j e)) k (λ a n b m p q w. f t j a n b m z.0 z.1 p q)) (of_table_number variables tables e))

-- ---- first bytes

-- a form by its byte: what is read, beside what else the byte tells
module _ {A F : Type 0} (P : ℕ → F → Read A → Type 0) (b : ℕ) (e : List ℕ) where
  pub pick : (k : ℕ) (r : Reader A) (forms : List (Form A)) (x y : F) → P k x (r e) → P b y (form_of forms b e)
      → P b (cond (eqb b k) x y) (form_of ((k ⇒ r) ∷ forms) b e)
  unfolding form_of
  pick k r forms x y h j = go (eqb b k) refl
    where
      go : (t : Bool) → eqb b k ≡ t → P b (cond t x y) (cond t r (form_of forms b) e)
      go true q = subst (λ (i : ℕ). P i x (r e)) (sym (eqb-true b k q)) h
      go false q = j

  pub pick_none : (y : F) → ((t : ℕ) → P b y (refused t)) → P b y (form_of [] b e)
  unfolding form_of refuse
  pick_none y h = h (cond (begins_expression b) mismatch not_due)

module _ {A : Type 0} {G : A → ℕ → Type 0} where
  -- an expression's first byte, then its form
  pub of_forms : (forms : List (Form A)) (e : List ℕ)
      → ((b : ℕ) (f : List ℕ) → e ≡ b ∷ f → Of (λ a n. G a (1 + n)) (form_of forms b f)) → Of G ((byte bind form_of forms) e)
  unfolding byte
  of_forms forms [] h = of_bind byte (form_of forms) [] unsaid
  of_forms forms (b ∷ f) h = of_bind byte (form_of forms) (b ∷ f) (said (h b f refl))

  pub of_no_depth : (e : List ℕ) → Of G (no_depth e)
  unfolding no_depth byte refuse
  of_no_depth [] = of_then byte (refuse too_deep) [] unsaid
  of_no_depth (b ∷ f) = of_then byte (refuse too_deep) (b ∷ f) (said unsaid)
