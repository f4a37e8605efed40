-- Conditions 58 and 59 in bytes: their two parts, one behind the other.
use Prim.Native.Nat.{ℕ, ◌+◌, ◌<◌}
use mathlib.Core.Path.{◌≡◌, refl, sym, ap, ◌∙◌}
use mathlib.Core.List.{List, ◌∷◌}
use native.Mathlib.Omega.{arith}
use lib.ListN.{get_or, drop}
use lib.Seq.{drop-drop}
use Rattle.model.specs.Numbers.{most_nesting}
use Rattle.model.specs.Readers.{read, after, continue, ◌>>=◌, byte, one, two}
use Rattle.model.specs.Syntax.{Condition, negation, both, either, Variable, Table}
use Rattle.model.specs.Expressions.{form_of, condition}
use Rattle.model.proofs.Chains.{after_read, chain, given}
use Rattle.prepare.proofs.Deeper.{with_all_depth}
use Rattle.prepare.proofs.Starts.{starts_with}

module _ (vs : List Variable) (ts : List Table) (bytes : List ℕ) where
  abbrev pub ReadsAt : (at : ℕ) → Condition → (used : ℕ) → Type 0
  ReadsAt at x n = condition vs ts most_nesting (drop at bytes) ≡ read x n

  pub record TwoParts (make : Condition → Condition → Condition) (at : ℕ) (x : Condition) (n : ℕ) : Type 0 where
    pub first : Condition
    pub second : Condition
    pub first_used : ℕ
    pub second_used : ℕ
    pub reads_first : ReadsAt (at + 1) first first_used
    pub reads_second : ReadsAt (at + 1 + first_used) second second_used
    pub whole : x ≡ make first second
    pub uses : n ≡ 1 + first_used + second_used

  -- two parts behind a byte, each with one less of depth
  two_parts_lem : (make : Condition → Condition → Condition) (at : ℕ) (x : Condition) (n l : ℕ) → n ≡ 1 + l
      → two (condition vs ts 31) (condition vs ts 31) make (drop (at + 1) bytes) ≡ read x l → TwoParts make at x n
  unfolding two ◌>>=◌
  two_parts_lem make at x n l u h =
      let e = drop (at + 1) bytes in
      let c1 = chain (condition vs ts 31 e) _ e x l h in
      let c2 = chain (condition vs ts 31 (drop c1.used e)) _ (drop c1.used e) x c1.left c1.reads_next in
      let g = given _ _ x c2.left c2.reads_next in
      record {
        first = c1.first;
        second = c2.first;
        first_used = c1.used;
        second_used = c2.used;
        reads_first = with_all_depth vs ts 31 (omega arith) e c1.reads_first;
        reads_second = with_all_depth vs ts 31 (omega arith) _ (rw (← drop-drop c1.used (at + 1) bytes) c2.reads_first);
        whole = sym g.0;
        uses = omega (arith, u, c1.uses, c2.uses, g.1);
      }

  connective_parts : (b : ℕ) (make : Condition → Condition → Condition) → 0 < b
      → ((e : List ℕ) → condition vs ts most_nesting (b ∷ e) ≡ after 1 (two (condition vs ts 31) (condition vs ts 31) make e))
      → (at : ℕ) (x : Condition) (n : ℕ) → get_or bytes at 0 ≡ b → ReadsAt at x n → TwoParts make at x n
  connective_parts b make some opens at x n here h =
      let starts : drop at bytes ≡ b ∷ drop (at + 1) bytes = starts_with bytes at b some here in
      let r = after_read 1 (two (condition vs ts 31) (condition vs ts 31) make (drop (at + 1) bytes)) (sym (opens (drop (at + 1) bytes)) ∙ ap (condition vs ts most_nesting) (sym starts) ∙ h) in
      two_parts_lem make at x n r.0 r.2 r.1

  pub both_parts : (at : ℕ) (x : Condition) (n : ℕ) → get_or bytes at 0 ≡ 0x58 → ReadsAt at x n → TwoParts both at x n
  unfolding condition form_of byte ◌>>=◌ continue
  both_parts = connective_parts 0x58 both (omega arith) (λ e. refl)

  pub either_parts : (at : ℕ) (x : Condition) (n : ℕ) → get_or bytes at 0 ≡ 0x59 → ReadsAt at x n → TwoParts either at x n
  unfolding condition form_of byte ◌>>=◌ continue
  either_parts = connective_parts 0x59 either (omega arith) (λ e. refl)

  -- 57 and its part
  pub record OnePart (at : ℕ) (x : Condition) (n : ℕ) : Type 0 where
    pub part : Condition
    pub part_used : ℕ
    pub reads_part : ReadsAt (at + 1) part part_used
    pub whole : x ≡ negation part
    pub uses : n ≡ 1 + part_used

  pub negation_part : (at : ℕ) (x : Condition) (n : ℕ) → get_or bytes at 0 ≡ 0x57 → ReadsAt at x n → OnePart at x n
  unfolding condition form_of byte one ◌>>=◌ continue
  negation_part at x n here h =
      let starts : drop at bytes ≡ 0x57 ∷ drop (at + 1) bytes = starts_with bytes at 0x57 (omega arith) here in
      let e = drop (at + 1) bytes in
      let r = after_read 1 (one (condition vs ts 31) negation e) (ap (condition vs ts most_nesting) (sym starts) ∙ h) in
      let c = chain (condition vs ts 31 e) _ e x r.0 r.1 in
      let g = given _ _ x c.left c.reads_next in
      record { part = c.first; part_used = c.used; reads_part = with_all_depth vs ts 31 (omega arith) e c.reads_first; whole = sym g.0; uses = omega (arith, r.2, c.uses, g.1) }
