-- Laws of fixed operands: the cost rule, a variable's operands, a table's sides and entries, each by the tests that its reader makes.
use Prim.Native.Nat.{ℕ, zero, suc, ◌+◌, ◌*◌, ◌^◌, ◌<◌, ◌≤◌}
use mathlib.Core.Path.{◌≡◌, refl, sym, ap, ◌∙◌}
use mathlib.Core.Bool.{Bool, true, false, ◌&&◌}
use mathlib.Core.List.{List, [], ◌∷◌}
use native.Mathlib.Omega.{arith}
use native.Mathlib.Nat.{mul-le-mul}
use lib.ListN.{length, drop, get_or}
use lib.Dec.{leb, ltb}
use lib.IntN.{ℤ, pos, ◌+ℤ◌}
use borrow.Author.Tests.{lt-ltb, le-ltb, ltb-true, le-leb, leb-true, leb-false, eq-eqb, ne_eqb}
use Rattle.laws.proofs.Bools.{and_both}
use Rattle.model.specs.Numbers.{ends_early, not_due, off_limits, range_end}
use Rattle.model.specs.Readers.{Read, read, refused, after, continue, ◌>>=◌, ◌>>◌, give, require, byte, word, one, integer, command}
use Rattle.model.specs.Syntax.{a_set, an_element, a_number, none, Variable}
use Rattle.model.specs.Expressions.{among, is_count, objects_and_members}
use Rattle.model.specs.Commands.{rule_of, cost_rule, preference_of, set_variable, element_variable, number_variable, variable_of, sides}
use Rattle.words.specs.States.{value_of}
use Rattle.words.specs.Signature.{kind_byte_of, kind_byte}
use Rattle.words.proofs.Literal.{word_is, word_short, word_one, integer_is, integer_short}
use Rattle.words.proofs.Integers.{word_back}
use Rattle.outline.specs.Outline.{preference_number, rule_number}
use Rattle.read_declarations.specs.Declarations.{Declares}
use Rattle.read_declarations.specs.declared.Declaration.{Declaration}

-- ---- 01

pub rule_good : (e : List ℕ) → 2 ≤ length e → get_or e 0 0 ≡ 1 → get_or e 1 0 < 2 → cost_rule e ≡ read (rule_of (get_or e 1 0)) 2
unfolding cost_rule command ◌>>=◌ ◌>>◌ continue byte require after give
rule_good [] l p q = let z : ⊥ = omega arith in absurd z
rule_good (b ∷ []) l p q = let z : ⊥ = omega arith in absurd z
rule_good (b ∷ r ∷ e) l p q = rw (eq-eqb b 1 p, word_one r e, lt-ltb r 2 q)

pub rule_beyond : (e : List ℕ) → 2 ≤ length e → get_or e 0 0 ≡ 1 → 2 ≤ get_or e 1 0 → cost_rule e ≡ refused off_limits
unfolding cost_rule command ◌>>=◌ ◌>>◌ continue byte require after give
rule_beyond [] l p q = let z : ⊥ = omega arith in absurd z
rule_beyond (b ∷ []) l p q = let z : ⊥ = omega arith in absurd z
rule_beyond (b ∷ r ∷ e) l p q = rw (eq-eqb b 1 p, word_one r e, le-ltb r 2 q)

pub rule_cut : (e : List ℕ) → length e ≡ 1 → get_or e 0 0 ≡ 1 → cost_rule e ≡ refused ends_early
unfolding cost_rule command ◌>>=◌ ◌>>◌ continue byte require after word
rule_cut [] l p = let z : ⊥ = omega arith in absurd z
rule_cut (b ∷ []) l p = rw (eq-eqb b 1 p)
rule_cut (b ∷ r ∷ e) l p = let z : ⊥ = omega arith in absurd z

pub rule_other : (e : List ℕ) → 0 < length e → (get_or e 0 0 ≡ 1 → ⊥) → cost_rule e ≡ refused not_due
unfolding cost_rule command ◌>>=◌ ◌>>◌ continue byte require after
rule_other [] l p = let z : ⊥ = omega arith in absurd z
rule_other (b ∷ e) l p = rw (ne_eqb b 1 p)

pub rule_none : (e : List ℕ) → length e ≡ 0 → cost_rule e ≡ refused ends_early
unfolding cost_rule command ◌>>=◌ ◌>>◌ continue byte
rule_none [] l = refl
rule_none (b ∷ e) l = let z : ⊥ = omega arith in absurd z

pub rule_number_lem : (r : ℕ) → r < 2 → r ≡ rule_number (rule_of r)
unfolding rule_of rule_number
rule_number_lem zero h = refl
rule_number_lem (suc zero) h = refl
rule_number_lem (suc (suc r)) h = let z : ⊥ = omega arith in absurd z

-- ---- counts

pub count_zero : is_count 0 ≡ false
unfolding is_count among
count_zero = refl

pub count_is : (n : ℕ) → 0 < n → leb n 64 ≡ is_count n
unfolding is_count among
count_is n h = rw (le-leb 1 n (omega arith)) (go (leb n 64) refl)
  where
    go : (t : Bool) → leb n 64 ≡ t → t ≡ ltb n (1 + 64)
    go true q = sym (lt-ltb n 65 (omega (arith, leb-true n 64 q)))
    go false q = sym (le-ltb n 65 (omega (arith, leb-false n 64 q)))

pub count_bounds : (n : ℕ) → is_count n ≡ true → (1 ≤ n) × (n ≤ 64)
unfolding is_count among
count_bounds n h = let p = and_both (leb 1 n) (ltb n 65) h in (leb-true 1 n p.0, omega (arith, ltb-true n 65 p.1))

-- ---- 02

abbrev set_of : (n s : ℕ) → Variable
set_of n s = record { kind = a_set; objects = n; preference = none; start = pos s }

module _ (e : List ℕ) where
  pub set_good : {s : ℕ} → 9 ≤ length e → word 8 (drop 1 e) ≡ read s 8 → (is_count (get_or e 0 0) && ltb s (2 ^ get_or e 0 0)) ≡ true → set_variable e ≡ read (set_of (get_or e 0 0) s) 9
  unfolding set_variable objects_and_members one ◌>>=◌ ◌>>◌ continue require after give
  set_good {s} l h t = go e l h t
    where
      go : (e : List ℕ) → 9 ≤ length e → word 8 (drop 1 e) ≡ read s 8 → (is_count (get_or e 0 0) && ltb s (2 ^ get_or e 0 0)) ≡ true → set_variable e ≡ read (set_of (get_or e 0 0) s) 9
      go [] l h t = let z : ⊥ = omega arith in absurd z
      go (n ∷ f) l h t = rw (word_one n f, h, t)

  pub set_beyond : {s : ℕ} → 9 ≤ length e → word 8 (drop 1 e) ≡ read s 8 → (is_count (get_or e 0 0) && ltb s (2 ^ get_or e 0 0)) ≡ false → set_variable e ≡ refused off_limits
  unfolding set_variable objects_and_members one ◌>>=◌ ◌>>◌ continue require after give
  set_beyond {s} l h t = go e l h t
    where
      go : (e : List ℕ) → 9 ≤ length e → word 8 (drop 1 e) ≡ read s 8 → (is_count (get_or e 0 0) && ltb s (2 ^ get_or e 0 0)) ≡ false → set_variable e ≡ refused off_limits
      go [] l h t = let z : ⊥ = omega arith in absurd z
      go (n ∷ f) l h t = rw (word_one n f, h, t)

  pub set_cut : length e < 9 → set_variable e ≡ refused ends_early
  unfolding set_variable objects_and_members one ◌>>=◌ continue after word byte
  set_cut l = go e l
    where
      go : (e : List ℕ) → length e < 9 → set_variable e ≡ refused ends_early
      go [] l = refl
      go (n ∷ f) l = rw (word_one n f, word_short 8 f (omega arith))

pub set_declares : (x : Read Variable) (n s : ℕ) (d : Declaration) → x ≡ read (set_of n s) 9 → is_count n ≡ true
    → d.used ≡ 9 → d.kind ≡ 64 + n → d.preference ≡ 0 → d.start ≡ s → Declares x d
unfolding kind_byte kind_byte_of preference_number value_of
set_declares x n s d h c u k p b = record {
  variable = set_of n s;
  reads = h ∙ ap (read (set_of n s)) (sym u);
  short = omega (arith, u);
  kind = k;
  preference = p;
  start = ap pos b;
  well_formed = count_bounds n c;
}

-- ---- 03

preference_number_lem : (p : ℕ) → p < 3 → p ≡ preference_number (preference_of p)
unfolding preference_number preference_of
preference_number_lem zero h = refl
preference_number_lem (suc zero) h = refl
preference_number_lem (suc (suc zero)) h = refl
preference_number_lem (suc (suc (suc p))) h = let z : ⊥ = omega arith in absurd z

abbrev element_of : (n p k : ℕ) → Variable
element_of n p k = record { kind = an_element; objects = n; preference = preference_of p; start = pos k }

pub element_good : (e : List ℕ) → 3 ≤ length e → (is_count (get_or e 0 0) && ltb (get_or e 1 0) 3 && ltb (get_or e 2 0) (get_or e 0 0)) ≡ true → element_variable e ≡ read (element_of (get_or e 0 0) (get_or e 1 0) (get_or e 2 0)) 3
unfolding element_variable ◌>>=◌ ◌>>◌ continue require after give
element_good [] l t = let z : ⊥ = omega arith in absurd z
element_good (n ∷ []) l t = let z : ⊥ = omega arith in absurd z
element_good (n ∷ p ∷ []) l t = let z : ⊥ = omega arith in absurd z
element_good (n ∷ p ∷ k ∷ e) l t = rw (word_one n (p ∷ k ∷ e), word_one p (k ∷ e), word_one k e, t)

pub element_beyond : (e : List ℕ) → 3 ≤ length e → (is_count (get_or e 0 0) && ltb (get_or e 1 0) 3 && ltb (get_or e 2 0) (get_or e 0 0)) ≡ false → element_variable e ≡ refused off_limits
unfolding element_variable ◌>>=◌ ◌>>◌ continue require after give
element_beyond [] l t = let z : ⊥ = omega arith in absurd z
element_beyond (n ∷ []) l t = let z : ⊥ = omega arith in absurd z
element_beyond (n ∷ p ∷ []) l t = let z : ⊥ = omega arith in absurd z
element_beyond (n ∷ p ∷ k ∷ e) l t = rw (word_one n (p ∷ k ∷ e), word_one p (k ∷ e), word_one k e, t)

pub element_cut : (e : List ℕ) → length e < 3 → element_variable e ≡ refused ends_early
unfolding element_variable ◌>>=◌ ◌>>◌ continue after word byte give
element_cut [] l = refl
element_cut (n ∷ []) l = refl
element_cut (n ∷ p ∷ []) l = refl
element_cut (n ∷ p ∷ k ∷ e) l = let z : ⊥ = omega arith in absurd z

pub element_declares : (x : Read Variable) (n p k : ℕ) (d : Declaration) → x ≡ read (element_of n p k) 3 → (is_count n && ltb p 3 && ltb k n) ≡ true
    → d.used ≡ 3 → d.kind ≡ n → d.preference ≡ p → d.start ≡ k → Declares x d
unfolding kind_byte kind_byte_of value_of
element_declares x n p k d h c u j q b =
    let i = and_both (is_count n && ltb p 3) (ltb k n) c in
    let o = and_both (is_count n) (ltb p 3) i.0 in
    let w = count_bounds n o.0 in
    let below : k < 64 = omega (arith, ltb-true k n i.1) in
    record {
      variable = element_of n p k;
      reads = h ∙ ap (read (element_of n p k)) (sym u);
      short = omega (arith, u);
      kind = j;
      preference = q ∙ preference_number_lem p (ltb-true p 3 o.1);
      start = ap pos (omega arith);
      well_formed = w;
    }

-- ---- 04

abbrev number_of : (p : ℕ) (z : ℤ) → Variable
number_of p z = record { kind = a_number; objects = 0; preference = preference_of p; start = z }

pub number_good : (e : List ℕ) {z : ℤ} → 5 ≤ length e → integer (drop 1 e) ≡ read z 4 → get_or e 0 0 < 3 → number_variable e ≡ read (number_of (get_or e 0 0) z) 5
unfolding number_variable ◌>>=◌ ◌>>◌ continue require after give
number_good [] l h t = let z : ⊥ = omega arith in absurd z
number_good (p ∷ e) l h t = rw (word_one p e, h, lt-ltb p 3 t)

pub number_cut : (e : List ℕ) → length e < 5 → number_variable e ≡ refused ends_early
unfolding number_variable ◌>>=◌ ◌>>◌ continue after word byte
number_cut [] l = refl
number_cut (p ∷ e) l = rw (word_one p e, integer_short e (omega arith))

pub number_declares : (x : Read Variable) (p : ℕ) (z : ℤ) (d : Declaration) → x ≡ read (number_of p z) 5 → p < 3
    → d.used ≡ 5 → d.kind ≡ 0 → d.preference ≡ p → pos d.start ≡ z +ℤ pos range_end → d.start < 2 ^ 32 → Declares x d
unfolding kind_byte kind_byte_of value_of
number_declares x p z d h c u j q b s = record {
  variable = number_of p z;
  reads = h ∙ ap (read (number_of p z)) (sym u);
  short = omega (arith, u);
  kind = j;
  preference = q ∙ preference_number_lem p c;
  start = word_back d.start z b s;
  well_formed = refl;
}

-- ---- the tests of the readers

pub variable_set : (b : ℕ) (e : List ℕ) → b ≡ 2 → variable_of b e ≡ set_variable e
unfolding variable_of
variable_set b e h = rw (eq-eqb b 2 h)

pub variable_element : (b : ℕ) (e : List ℕ) → b ≡ 3 → variable_of b e ≡ element_variable e
unfolding variable_of
variable_element b e h = rw (ne_eqb b 2 (λ q. omega arith), eq-eqb b 3 h)

pub variable_number : (b : ℕ) (e : List ℕ) → (b ≡ 2 → ⊥) → (b ≡ 3 → ⊥) → variable_of b e ≡ number_variable e
unfolding variable_of
variable_number b e h g = rw (ne_eqb b 2 h, ne_eqb b 3 g)

pub number_beyond : (e : List ℕ) → 5 ≤ length e → 3 ≤ get_or e 0 0 → number_variable e ≡ refused off_limits
unfolding number_variable ◌>>=◌ ◌>>◌ continue require after give
number_beyond [] l t = let z : ⊥ = omega arith in absurd z
number_beyond (p ∷ e) l t = rw (word_one p e, integer_is e (word_is 4 e (omega arith)), le-ltb p 3 t)

-- ---- 05

pub sides_good : (e : List ℕ) → 2 ≤ length e → is_count (get_or e 0 0) ≡ true → is_count (get_or e 1 0) ≡ true → sides e ≡ read (get_or e 0 0, get_or e 1 0) 2
unfolding sides ◌>>=◌ ◌>>◌ continue require after give
sides_good [] l p q = let z : ⊥ = omega arith in absurd z
sides_good (r ∷ []) l p q = let z : ⊥ = omega arith in absurd z
sides_good (r ∷ c ∷ e) l p q = rw (word_one r (c ∷ e), word_one c e, p, q)

pub sides_beyond : (e : List ℕ) → 2 ≤ length e → (is_count (get_or e 0 0) && is_count (get_or e 1 0)) ≡ false → sides e ≡ refused off_limits
unfolding sides ◌>>=◌ ◌>>◌ continue require after give
sides_beyond [] l p = let z : ⊥ = omega arith in absurd z
sides_beyond (r ∷ []) l p = let z : ⊥ = omega arith in absurd z
sides_beyond (r ∷ c ∷ e) l p = rw (word_one r (c ∷ e), word_one c e, p)

pub sides_cut : (e : List ℕ) → length e < 2 → sides e ≡ refused ends_early
unfolding sides ◌>>=◌ ◌>>◌ continue after word byte give
sides_cut [] l = refl
sides_cut (r ∷ []) l = refl
sides_cut (r ∷ c ∷ e) l = let z : ⊥ = omega arith in absurd z

pub cells_bound : (r c : ℕ) → r ≤ 64 → c ≤ 64 → r * c ≤ 4096
cells_bound r c h g = mul-le-mul h g
