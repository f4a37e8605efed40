-- Fixed operands: what their readers answer, by the length of the bytes and the tests.
use Prim.Native.Nat.{ℕ, suc, ◌+◌, ◌-◌, ◌^◌, ◌≤◌, ◌<◌}
use mathlib.Core.Path.{◌≡◌, refl, sym, ap, ◌∙◌}
use mathlib.Core.Bool.{Bool, true, false, cond, ◌&&◌}
use mathlib.Core.List.{List, [], ◌∷◌}
use native.Mathlib.Omega.{arith}
use native.Mathlib.Nat.{add-zero}
use lib.ListN.{length, get_or, drop}
use lib.Dec.{leb, ltb, eqb}
use lib.Pow.{pow_pos}
use borrow.Author.Tests.{lt-ltb, le-ltb, le-leb, lt-leb, ltb-true, ltb-false}
use Rattle.model.specs.Readers.{Read, read, refused, Reader, after, continue, ◌>>=◌, ◌>>◌, give, require, word, integer, one}
use Rattle.model.specs.Expressions.{is_count, objects_and_members, object_number, kind_number}
use Rattle.words.specs.Signature.{variable_of}
use Rattle.words.specs.FullSets.{full_of}
use Rattle.words.proofs.FullSets.{full_of_lem}
use Rattle.words.proofs.Literal.{word_is, word_short, word_one}
use Rattle.read_forms.proofs.Rows.{among_bounds}
use Rattle.read_forms.specs.Parts.{good, no_count, part_of}
use Rattle.read_forms.specs.Forms.{due_for, due_number, variable_at}
use denote.Enum.Bare.{sameb}
use Rattle.read_forms.specs.contracts.Due.{the_type}
use Rattle.model.specs.Syntax.{Kind, a_set, an_element, a_number}
use Rattle.read_forms.specs.declared.Due.{Due}
use Rattle.read_forms.specs.declared.Due.TheVariants as D
use Rattle.std.specs.Prelude.{Err}
use Rattle.read_forms.specs.declared.refusals.Refusal.TheVariants.{EndsEarly, Mismatch, OffLimits}

pub part_one : {A B : Type 0} (count : B → ℕ) (r : Reader A) (make : A → B) (e : List ℕ) → part_of count (one r make e) ≡ part_of (λ a. count (make a)) (r e)
unfolding one ◌>>=◌
part_one {A} {B} count r make e = go (r e)
  where
    go : (x : Read A) → part_of count (continue x (λ a. give (make a)) e) ≡ part_of (λ a. count (make a)) x
    go (read a n) = unfold continue give after in rw add-zero
    go (refused t) = unfold continue in refl

-- ---- an integer, an object, members

pub integer_read : (e : List ℕ) → 4 ≤ length e → good 4 0 ≡ part_of no_count (integer e)
unfolding integer
integer_read e h = sym (part_one no_count (word 4) _ e ∙ rw (word_is 4 e h))

pub integer_short : (e : List ℕ) → length e < 4 → Err EndsEarly ≡ part_of no_count (integer e)
unfolding integer
integer_short e h = sym (part_one no_count (word 4) _ e ∙ rw (word_short 4 e h))

pub object_read : (e : List ℕ) → (length e ≡ 0 → ⊥) → (t : Bool) → ltb (get_or e 0 0) 64 ≡ t → cond t (good 1 (get_or e 0 0 + 1)) (Err OffLimits) ≡ part_of suc (object_number e)
unfolding object_number ◌>>=◌ ◌>>◌ continue require give after
object_read [] h t q = absurd (h refl)
object_read (k ∷ e) h true q = rw (word_one k e, q) (ap (good 1) (omega arith))
object_read (k ∷ e) h false q = rw (word_one k e, q)

pub object_short : (e : List ℕ) → length e ≡ 0 → Err EndsEarly ≡ part_of suc (object_number e)
unfolding object_number ◌>>=◌ continue
object_short e h = rw (word_short 1 e (omega arith))

pub members_read : (e : List ℕ) → 9 ≤ length e → (w : ℕ) → word 8 (drop 1 e) ≡ read w 8 → (t : Bool) → t ≡ (is_count (get_or e 0 0) && ltb w (2 ^ get_or e 0 0))
    → cond t (good 9 (get_or e 0 0)) (Err OffLimits) ≡ part_of (λ p. p.0) (objects_and_members e)
unfolding objects_and_members ◌>>=◌ ◌>>◌ continue require give after
members_read [] h w p t q = absurd (omega arith)
members_read (n ∷ e) h w p true q = rw (word_one n e, p, ← q)
members_read (n ∷ e) h w p false q = rw (word_one n e, p, ← q)

pub members_short : (e : List ℕ) → length e < 9 → Err EndsEarly ≡ part_of (λ p. p.0) (objects_and_members e)
unfolding objects_and_members ◌>>=◌ continue after
members_short [] h = rw (word_short 1 [] (omega arith))
members_short (n ∷ e) h = rw (word_one n e, word_short 8 e (omega arith))

-- ---- members below an object count

count_bounds : (n : ℕ) → is_count n ≡ true → (1 ≤ n) × (n < 65)
unfolding is_count
count_bounds n q = among_bounds 1 64 n q

pub full_fits : (n m : ℕ) → is_count n ≡ true → leb m (full_of n) ≡ ltb m (2 ^ n)
full_fits n m q =
    let p : 0 < 2 ^ n = pow_pos n in
    rw (full_of_lem n (omega (arith, (count_bounds n q).1))) (at_end (2 ^ n) p)
  where
    at_end : (k : ℕ) → 0 < k → leb m (k - 1) ≡ ltb m k
    at_end k p = go (ltb m k) refl
      where
        go : (t : Bool) → ltb m k ≡ t → leb m (k - 1) ≡ t
        go true q = le-leb m (k - 1) (omega (arith, ltb-true m k q))
        go false q = lt-leb m (k - 1) (omega (arith, ltb-false m k q))

-- ---- a variable

-- two kinds of expression are the same where their numbers are
same_due : (x y : Due) → sameb the_type x y ≡ eqb (due_number x) (due_number y)
same_due D.Number D.Number = refl
same_due D.Number D.Condition = refl
same_due D.Number D.Element = refl
same_due D.Number D.Set = refl
same_due D.Condition D.Number = refl
same_due D.Condition D.Condition = refl
same_due D.Condition D.Element = refl
same_due D.Condition D.Set = refl
same_due D.Element D.Number = refl
same_due D.Element D.Condition = refl
same_due D.Element D.Element = refl
same_due D.Element D.Set = refl
same_due D.Set D.Number = refl
same_due D.Set D.Condition = refl
same_due D.Set D.Element = refl
same_due D.Set D.Set = refl

number_of_kind : (k : Kind) → due_number (due_for k) ≡ kind_number k
unfolding kind_number
number_of_kind a_set = refl
number_of_kind an_element = refl
number_of_kind a_number = refl

module _ (due : Due) (kinds e : List ℕ) where
  pub variable_short : length e ≡ 0 → Err EndsEarly ≡ variable_at due kinds e
  unfolding variable_at
  variable_short h = rw h

  pub variable_undeclared : (length e ≡ 0 → ⊥) → length kinds ≤ get_or e 0 0 → Err Mismatch ≡ variable_at due kinds e
  unfolding variable_at
  variable_undeclared h u = rw (lt-ltb 0 (length e) (omega (arith, h)), le-ltb (get_or e 0 0) (length kinds) u)

  pub variable_read : {d : Due} {n : ℕ} → (length e ≡ 0 → ⊥) → get_or e 0 0 < length kinds → d ≡ due_for (variable_of (get_or kinds (get_or e 0 0) 0)).kind
      → n ≡ (variable_of (get_or kinds (get_or e 0 0) 0)).objects → (t : Bool) → t ≡ sameb the_type due d → cond t (good 1 n) (Err Mismatch) ≡ variable_at due kinds e
  unfolding variable_at
  variable_read h u p o t s =
      let k = (variable_of (get_or kinds (get_or e 0 0) 0)).kind in
      let same : t ≡ eqb (due_number due) (kind_number k) = s ∙ ap (sameb the_type due) p ∙ same_due due (due_for k) ∙ ap (eqb (due_number due)) (number_of_kind k) in
      rw (lt-ltb 0 (length e) (omega (arith, h)), lt-ltb (get_or e 0 0) (length kinds) u, ← same, ← o)
