-- Where an expression ends, by first bytes alone: for all that reads well, `span` gives the bytes that reading used.
use Prim.Native.Nat.{ℕ, zero, suc, ◌+◌, ◌≤◌}
use mathlib.Core.Path.{◌≡◌, refl, sym, ap, ◌∙◌}
use mathlib.Core.List.{List, [], ◌∷◌}
use native.Mathlib.Nat.{zero-add}
use native.Mathlib.Numerals.{one-add}
use native.Mathlib.Omega.{arith}
use lib.ListN.{length, drop}
use lib.Seq.{drop-drop}
use Rattle.model.specs.Readers.{Read, Reader, one, two, three, integer}
use Rattle.model.specs.Syntax.{Element, object, Set, add, remove, union, intersection, difference, complement, literal, plus, minus, times, quotient, lesser, greater, entry, size, total, choice, equal, less, at_most, same, member, is_empty, subset, negation, both, either, element_count, set_count, Kind, a_set, an_element, a_number, Variable, Table}
use Rattle.model.specs.Expressions.{objects_and_members, object_number, element_and_set, two_sets, variable, in_table, element, set, number, condition}
use Rattle.eval_sets.specs.Forms.{shape_of, operands, parts, span}
use Rattle.eval_sets.proofs.Reading.{Of, unsaid, of_map, of_one, of_two, of_three, Long, Byte, byte_long, of_integer, of_object_number, Members, of_objects_and_members, of_variable_lem, of_element_and_set, of_two_sets, of_in_table, pick, pick_none, of_forms, of_no_depth}

-- the first n bytes are k expressions
abbrev pub Ends : (k : ℕ) (e : List ℕ) (n : ℕ) → Type 0
Ends k e n = (c : ℕ) → span e 0 (k + c) ≡ n + span (drop n e) 0 c

-- the first n bytes are what stands behind a first byte b
abbrev Behind : (b : ℕ) (e : List ℕ) (n : ℕ) → Type 0
Behind b e n = (c : ℕ) → span e (operands b) (parts b + c) ≡ n + span (drop n e) 0 c

pub span_operands : (j c : ℕ) (e : List ℕ) → j ≤ length e → span e j c ≡ j + span (drop j e) 0 c
unfolding span
span_operands zero c e h = sym (zero-add (span e 0 c))
span_operands (suc j) c [] h = absurd (omega arith)
span_operands (suc j) c (b ∷ e) h = let q = span_operands j c e (omega arith) in omega (arith, q)

pub span_none : (e : List ℕ) → span e 0 0 ≡ 0
unfolding span
span_none [] = refl
span_none (b ∷ e) = refl

-- what is due is within the bytes
pub span_within : (e : List ℕ) (j c : ℕ) → span e j c ≤ length e
unfolding span
span_within [] j c = omega arith
span_within (b ∷ e) zero zero = omega arith
span_within (b ∷ e) zero (suc c) = let q = span_within e (operands b) (parts b + c) in omega (arith, q)
span_within (b ∷ e) (suc j) c = let q = span_within e j c in omega (arith, q)

headed : {e : List ℕ} (b n : ℕ) (f : List ℕ) → e ≡ b ∷ f → Behind b f n → Ends 1 e (1 + n)
unfolding span
headed b n f q h c =
    let t : span (b ∷ f) 0 (suc c) ≡ suc (n + span (drop n f) 0 c) = ap suc (h c) in
    rw (q, one-add c, one-add n) (t ∙ omega arith)

ends_two : (j k : ℕ) (e : List ℕ) (n m : ℕ) → Ends j e n → Ends k (drop n e) m → Ends (j + k) e (n + m)
ends_two j k e n m h g c =
    let x : j + k + c ≡ j + (k + c) = omega arith in
    rw x (h (k + c) ∙ ap (λ (i : ℕ). n + i) (g c) ∙ rw (drop-drop m n e) (omega arith))

leaf : (k : ℕ) (e : List ℕ) (n : ℕ) → Long k e n → (c : ℕ) → span e k (0 + c) ≡ n + span (drop n e) 0 c
leaf k e n h c = rw (h.used, zero-add c) (span_operands k c e h.there)

-- a byte of operands, then two parts
named : (e : List ℕ) (v i n m : ℕ) → Byte e v i → Ends 1 (drop i e) n → Ends 1 (drop n (drop i e)) m
    → (c : ℕ) → span e 1 (2 + c) ≡ i + (n + m) + span (drop (i + (n + m)) e) 0 c
named e v i n m b h g c =
    let l = byte_long b in
    let t = ends_two 1 1 (drop i e) n m h g c in
    span_operands 1 (2 + c) e l.there
    ∙ rw (← l.used) (ap (λ (k : ℕ). i + k) t ∙ rw (drop-drop (n + m) i e) (omega arith))

members_long : {e : List ℕ} {k s n : ℕ} → Members e k s n → Long 9 e n
members_long m = record { used = m.used; there = rw m.whole (omega (arith, m.long)) }

-- all that a reader reads are whole expressions
abbrev Whole : {A : Type 0} → Reader A → Type 0
Whole r = (e : List ℕ) → Of (λ x n. Ends 1 e n) (r e)

-- what stands behind b
abbrev Rest : {A : Type 0} (e : List ℕ) → ℕ → Unit {0} → Read A → Type 0
Rest e b u r = Of (λ x n. Behind b e n) r

module _ (vs : List Variable) (ts : List Table) where
  -- the operand of a variable
  variable_ends : {A : Type 0} (kind : Kind) (make : ℕ × ℕ → A) (e : List ℕ) → Of (λ x n. (c : ℕ) → span e 1 (0 + c) ≡ n + span (drop n e) 0 c) (one (variable vs ts kind) make e)
  variable_ends kind make e = of_one (variable vs ts kind) make e (of_variable_lem vs ts kind e) (λ a n p. leaf 1 e n (byte_long p.0))

  pub element_ends : (d : ℕ) (e : List ℕ) → Of (λ x n. Ends 1 e n) (element vs ts d e)
  unfolding element operands parts shape_of
  element_ends zero e = of_no_depth e
  element_ends (suc d) e = of_forms _ e (λ b f q. of_map (λ x n h. headed b n f q h)
      (pick (Rest f) b f 0x30 _ _ tt tt (of_one object_number object f (of_object_number f) (λ a n p. leaf 1 f n (byte_long p.0)))
      (pick (Rest f) b f 0x31 _ _ tt tt (variable_ends an_element _ f)
      (pick_none (Rest f) b f tt (λ t. unsaid)))))

  element_and_set_ends : {A : Type 0} (re : Reader Element) (rs : Reader Set) (make : Element → Set → A) (e : List ℕ) → Whole re → Whole rs
      → Of (λ x n. Ends 2 e n) (element_and_set re rs make e)
  element_and_set_ends re rs make e h k = of_element_and_set re rs make e (h e) k (λ a n b m p q. ends_two 1 1 e n m p q)

  two_sets_ends : {A : Type 0} (rs : Reader Set) (make : Set → Set → A) (e : List ℕ) → Whole rs → Of (λ x n. Ends 2 e n) (two_sets rs make e)
  two_sets_ends rs make e k = of_two_sets rs make e (k e) k (λ a n b m p q. ends_two 1 1 e n m p q)

  pub set_ends : (d : ℕ) (e : List ℕ) → Of (λ x n. Ends 1 e n) (set vs ts d e)
  unfolding set operands parts shape_of
  set_ends zero e = of_no_depth e
  set_ends (suc d) e = of_forms _ e (λ b f q. of_map (λ x n h. headed b n f q h)
      (pick (Rest f) b f 0x40 _ _ tt tt (of_one objects_and_members _ f (of_objects_and_members f) (λ a n p. leaf 9 f n (members_long p)))
      (pick (Rest f) b f 0x41 _ _ tt tt (variable_ends a_set _ f)
      (pick (Rest f) b f 0x42 _ _ tt tt (element_and_set_ends (element vs ts d) (set vs ts d) add f (element_ends d) (set_ends d))
      (pick (Rest f) b f 0x43 _ _ tt tt (element_and_set_ends (element vs ts d) (set vs ts d) remove f (element_ends d) (set_ends d))
      (pick (Rest f) b f 0x44 _ _ tt tt (two_sets_ends (set vs ts d) union f (set_ends d))
      (pick (Rest f) b f 0x45 _ _ tt tt (two_sets_ends (set vs ts d) intersection f (set_ends d))
      (pick (Rest f) b f 0x46 _ _ tt tt (two_sets_ends (set vs ts d) difference f (set_ends d))
      (pick (Rest f) b f 0x47 _ _ tt tt (of_one (set vs ts d) complement f (set_ends d f) (λ a n p. p))
      (pick_none (Rest f) b f tt (λ t. unsaid)))))))))))

  two_ends : {A B C : Type 0} (ra : Reader A) (rb : Reader B) (make : A → B → C) (e : List ℕ) → Whole ra → Whole rb
      → Of (λ x n. Ends 2 e n) (two ra rb make e)
  two_ends ra rb make e h k = of_two ra rb make e (h e) k (λ a n b m p q. ends_two 1 1 e n m p q)

  three_ends : {A B C D : Type 0} (ra : Reader A) (rb : Reader B) (rc : Reader C) (make : A → B → C → D) (e : List ℕ) → Whole ra → Whole rb → Whole rc
      → Of (λ x n. Ends 3 e n) (three ra rb rc make e)
  three_ends ra rb rc make e h k j = of_three ra rb rc make e (h e) k j (λ a n b m c l p q r. ends_two 1 2 e n (m + l) p (ends_two 1 1 (drop n e) m l q r))

  in_table_ends : {A B : Type 0} (ra : Reader A) (count_of : A → ℕ) (re : Reader Element) (make : ℕ → A → Element → B) (e : List ℕ) → Whole ra → Whole re
      → Of (λ x n. (c : ℕ) → span e 1 (2 + c) ≡ n + span (drop n e) 0 c) (in_table vs ts ra count_of re make e)
  in_table_ends ra count_of re make e h k = of_in_table vs ts ra count_of re make e h k (λ t i a n b m z l p q. named e t i n m z p q)

  mutual
    unfolding number operands parts shape_of

    pub number_ends : (d : ℕ) (e : List ℕ) → Of (λ x n. Ends 1 e n) (number vs ts d e)
    number_ends zero e = of_no_depth e
    number_ends (suc d) e = of_forms _ e (λ b f q. of_map (λ x n h. headed b n f q h)
        (pick (Rest f) b f 0x20 _ _ tt tt (of_one integer literal f (of_integer f) (λ a n p. leaf 4 f n p.1))
        (pick (Rest f) b f 0x21 _ _ tt tt (variable_ends a_number _ f)
        (pick (Rest f) b f 0x22 _ _ tt tt (two_ends (number vs ts d) (number vs ts d) plus f (λ g. number_ends d g) (λ g. number_ends d g))
        (pick (Rest f) b f 0x23 _ _ tt tt (two_ends (number vs ts d) (number vs ts d) minus f (λ g. number_ends d g) (λ g. number_ends d g))
        (pick (Rest f) b f 0x24 _ _ tt tt (two_ends (number vs ts d) (number vs ts d) times f (λ g. number_ends d g) (λ g. number_ends d g))
        (pick (Rest f) b f 0x25 _ _ tt tt (two_ends (number vs ts d) (number vs ts d) quotient f (λ g. number_ends d g) (λ g. number_ends d g))
        (pick (Rest f) b f 0x26 _ _ tt tt (two_ends (number vs ts d) (number vs ts d) lesser f (λ g. number_ends d g) (λ g. number_ends d g))
        (pick (Rest f) b f 0x27 _ _ tt tt (two_ends (number vs ts d) (number vs ts d) greater f (λ g. number_ends d g) (λ g. number_ends d g))
        (pick (Rest f) b f 0x28 _ _ tt tt (in_table_ends (element vs ts d) element_count (element vs ts d) entry f (element_ends d) (element_ends d))
        (pick (Rest f) b f 0x29 _ _ tt tt (of_one (set vs ts d) size f (set_ends d f) (λ a n p. p))
        (pick (Rest f) b f 0x2a _ _ tt tt (in_table_ends (set vs ts d) set_count (element vs ts d) total f (set_ends d) (element_ends d))
        (pick (Rest f) b f 0x2b _ _ tt tt (three_ends (condition vs ts d) (number vs ts d) (number vs ts d) choice f (λ g. condition_ends d g) (λ g. number_ends d g) (λ g. number_ends d g))
        (pick_none (Rest f) b f tt (λ t. unsaid)))))))))))))))

    pub condition_ends : (d : ℕ) (e : List ℕ) → Of (λ x n. Ends 1 e n) (condition vs ts d e)
    condition_ends zero e = of_no_depth e
    condition_ends (suc d) e = of_forms _ e (λ b f q. of_map (λ x n h. headed b n f q h)
        (pick (Rest f) b f 0x50 _ _ tt tt (two_ends (number vs ts d) (number vs ts d) equal f (λ g. number_ends d g) (λ g. number_ends d g))
        (pick (Rest f) b f 0x51 _ _ tt tt (two_ends (number vs ts d) (number vs ts d) less f (λ g. number_ends d g) (λ g. number_ends d g))
        (pick (Rest f) b f 0x52 _ _ tt tt (two_ends (number vs ts d) (number vs ts d) at_most f (λ g. number_ends d g) (λ g. number_ends d g))
        (pick (Rest f) b f 0x53 _ _ tt tt (two_ends (element vs ts d) (element vs ts d) same f (element_ends d) (element_ends d))
        (pick (Rest f) b f 0x54 _ _ tt tt (element_and_set_ends (element vs ts d) (set vs ts d) member f (element_ends d) (set_ends d))
        (pick (Rest f) b f 0x55 _ _ tt tt (of_one (set vs ts d) is_empty f (set_ends d f) (λ a n p. p))
        (pick (Rest f) b f 0x56 _ _ tt tt (two_sets_ends (set vs ts d) subset f (set_ends d))
        (pick (Rest f) b f 0x57 _ _ tt tt (of_one (condition vs ts d) negation f (condition_ends d f) (λ a n p. p))
        (pick (Rest f) b f 0x58 _ _ tt tt (two_ends (condition vs ts d) (condition vs ts d) both f (λ g. condition_ends d g) (λ g. condition_ends d g))
        (pick (Rest f) b f 0x59 _ _ tt tt (two_ends (condition vs ts d) (condition vs ts d) either f (λ g. condition_ends d g) (λ g. condition_ends d g))
        (pick_none (Rest f) b f tt (λ t. unsaid)))))))))))))

-- what is passed over is what was read
pub ends_span : (e : List ℕ) (n : ℕ) → Ends 1 e n → span e 0 1 ≡ n
ends_span e n h = let q = h 0 in omega (arith, q, span_none (drop n e))
