-- Numbers from their parts, by place: sizes, choices, sums. Then terms that are due one behind the other.
use Prim.Native.Nat.{ℕ, zero, suc, ◌+◌, ◌-◌, ◌*◌, ◌≤◌, ◌<◌, ◌^◌}
use mathlib.Core.Path.{◌≡◌, refl, sym, ap, ◌∙◌}
use mathlib.Core.Bool.{Bool, true, false, cond, true≢false}
use mathlib.Core.List.{List, ◌∷◌}
use native.Mathlib.Numerals.{add-one}
use native.Mathlib.Omega.{arith}
use lib.ListN.{length, get_or, drop, length-drop}
use lib.Seq.{drop-cons, get_or-drop}
use lib.Dec.{leb, ltb}
use Rattle.std.specs.Prelude.{Option, Some, None}
use borrow.Author.Tests.{lt-ltb, ltb-true, leb-true, leb-false}
use lib.IntN.{ℤ, pos, negsuc, nat_abs, neg_ℤ, sub_ℕ, ◌+ℤ◌, +ℤ_idl, +ℤ_idr, +ℤ_assoc}
use lib.Signed.{mag, lt_z, le_z}
use mir.Syntax.{w64}
use mir.Val.{SFits}
use Rattle.model.specs.Numbers.{range_end, most_objects}
use Rattle.model.specs.Values.{Value, value, in_range, ◌>>=◌ as ◌and_then◌}
use Rattle.model.specs.Readers.{read, signed, integer}
use Rattle.model.specs.Sets as Sets
use Rattle.words.proofs.Integers.{sum_fits}
use Rattle.words.proofs.Literal.{word_four, integer_is, signed_low, signed_high}
use Rattle.eval_sets.proofs.Slices.{first_at}
use Rattle.eval_sets.specs.declared.first_bytes.Operation.TheVariants as Op
use Rattle.eval_sets.specs.declared.first_bytes.NumberForm.{NumberForm}
use Rattle.eval_sets.specs.Answers.{told, number_answer, condition_answer, past_number}
use Rattle.eval_sets.specs.Forms.{number_form, shape_of, operands, parts, span}
use Rattle.eval_sets.specs.Runs.{arithmetic, fits, run_number, run_condition, size_number, number_behind, number_at}
use Rattle.eval_sets.proofs.Opening.{number_opens}
use Rattle.eval_sets.proofs.Parts.{choice_is}
use Rattle.eval_sets.proofs.Spans.{span_operands, span_none}
use Rattle.eval_sets.proofs.Within.{number_known}
use Rattle.cursor.specs.Places.{Stands, Begins, BehindAll}
use Rattle.cursor.specs.Told.{here, NumberTo, ConditionTo, SetTo, NumberTold, Chosen, ChosenTold}
use Rattle.cursor.specs.Codes.{OperationTold}
use Rattle.cursor.proofs.NumberLaws.{literal_is, two_numbers, two_told}
use Rattle.cursor_conditions.proofs.ConditionLaws.{suc_sub_one, behind_part, next_number, number_there, set_there}

-- four bytes are a number
integer_of : (e : List ℕ) (w : ℕ) → integer e ≡ read (signed w) 4 → w < 2 ^ 32 → (z : ℤ) × (integer e ≡ read z 4) × (mag z < range_end)
integer_of e w reads below = go (leb 0x8000_0000 w) refl
  where
    go : (t : Bool) → leb 0x8000_0000 w ≡ t → (z : ℤ) × (integer e ≡ read z 4) × (mag z < range_end)
    go true t = let h = signed_high w (leb-true 0x8000_0000 w t) below in (signed w, reads, rw h.0 at h.1)
    go false t = let h = signed_low w (leb-false 0x8000_0000 w t) in (signed w, reads, rw (← h.0) h.1)

pub integer_there : (bytes : List ℕ) (q : ℕ) → q + 4 ≤ length bytes → ((i : ℕ) → get_or bytes i 0 < 256) → (z : ℤ) × (integer (drop q bytes) ≡ read z 4) × (mag z < range_end)
integer_there bytes q long small =
    let l = length-drop q bytes in
    integer_of (drop q bytes) (get_or bytes q 0 + 256 * get_or bytes (q + 1) 0 + 65536 * get_or bytes (q + 2) 0 + 16777216 * get_or bytes (q + 3) 0)
    (integer_is (drop q bytes) (word_four (drop q bytes) (omega arith) (first_at q bytes) (sym (get_or-drop q bytes 1 0)) (sym (get_or-drop q bytes 2 0)) (sym (get_or-drop q bytes 3 0))))
    (omega (arith, small q, small (q + 1), small (q + 2), small (q + 3)))

-- ---- numbers from their parts

is_in_range : (z : ℤ) → mag z < range_end → fits z ≡ value z
unfolding in_range
is_in_range z h = rw (lt-ltb (mag z) range_end h)

picked : (b : Bool) (x y z : ℤ) (k : ℕ) → z ≡ cond b x y → number_answer (value b and_then (λ holds. cond holds (value x) (value y))) k ≡ told z k
unfolding number_answer ◌and_then◌
picked true x y z k e = rw e
picked false x y z k e = rw e

module _ (bytes words state : List ℕ) where
  -- what stands behind the first byte gives the whole
  whole_number : {p b : ℕ} {form : NumberForm} {z : ℤ} (n q : ℕ) → Begins bytes p b → number_form b ≡ form → q ≡ p + 1 + n → Stands bytes q 0
      → ((d : ℕ) → n ≤ d → number_at d (here bytes words state) form (drop (p + 1) bytes) ≡ told z n) → NumberTo bytes words state p z q
  unfolding past_number
  whole_number {p} {b} {form} {z} n q begins f e there runs = record {
    used = 1 + n;
    ends = omega arith;
    is = record {
      there = record { inside = omega (arith, there.inside); near = omega (arith, there.near) };
      fits = (number_known (1 + n) (here bytes words state) (drop p bytes) (whole (1 + n) (omega arith))).0;
      runs = whole;
    };
  }
    where
      whole : (d : ℕ) → 1 + n ≤ d → run_number d (here bytes words state) (drop p bytes) ≡ told z (1 + n)
      whole d h = (number_opens (here bytes words state)).opened d p bytes (λ z. absurd (omega arith)) (omega (arith, begins.there.inside)) begins.byte
          ∙ ap (past_number 1) (ap (λ (g : NumberForm). number_at (d - 1) (here bytes words state) g (drop (p + 1) bytes)) f ∙ runs (d - 1) (omega arith))

  -- 29
  pub size_is : {p s q : ℕ} → Begins bytes p 0x29 → SetTo bytes words state (p + 1) s q → length (Sets.members s) ≤ most_objects → NumberTo bytes words state p (pos (length (Sets.members s))) q
  unfolding number_form number_at number_behind size_number number_answer
  size_is {p} {s} {q} begins t few = whole_number t.used q begins refl t.ends (set_there bytes words state t)
      (λ d h. ap size_number (t.is.runs d h) ∙ ap (λ (v : Value ℤ). number_answer v t.used) (is_in_range (pos (length (Sets.members s))) (omega arith)))

  pub size_told : {p s q r : ℕ} {z : ℤ} → Begins bytes p 0x29 → SetTo bytes words state (p + 1) s q → r ≡ length (Sets.members s) → r ≤ most_objects → z ≡ pos r
      → NumberTo bytes words state p z q
  size_told {p} {s} begins t e few size = rw (size, e) (size_is begins t (rw e at few))

  -- 2B
  pub chosen_is : {p q r : ℕ} {b : Bool} {z : ℤ} → Begins bytes p 0x2b → ConditionTo bytes words state (p + 1) b q → Chosen bytes words state q b z r → NumberTo bytes words state p z r
  unfolding number_form number_at number_behind number_answer condition_answer
  chosen_is {p} {q} {r} {b} {z} begins s t =
      whole_number (s.used + (t.first_is.used + t.second_is.used)) r begins refl (omega (arith, s.ends, t.first_is.ends, t.second_is.ends)) (number_there bytes words state t.second_is)
      (λ d h. choice_is (λ g. run_number d (here bytes words state) g) (λ g. run_condition d (here bytes words state) g) (drop (p + 1) bytes) (value b) (value t.first) (value t.second)
      s.used t.first_is.used t.second_is.used
      (s.is.runs d (omega arith))
      (next_number bytes words state (p + 1) s.used s.ends t.first_is d (omega arith))
      (ap (λ (l : List ℕ). span l 0 1) first_at ∙ omega (arith, t.first_skipped, t.first_is.ends))
      (ap (λ (l : List ℕ). run_number d (here bytes words state) l) second_at ∙ t.second_is.is.runs d (omega arith))
      (ap (λ (l : List ℕ). span l 0 1) second_at ∙ omega (arith, t.second_skipped, t.second_is.ends))
      ∙ picked b t.first t.second z _ t.chosen)
    where
      first_at : drop s.used (drop (p + 1) bytes) ≡ drop q bytes
      first_at = behind_part bytes words state (p + 1) s.used q s.ends

      second_at : drop t.first_is.used (drop s.used (drop (p + 1) bytes)) ≡ drop t.between bytes
      second_at = ap (drop t.first_is.used) first_at ∙ behind_part bytes words state q t.first_is.used t.between t.first_is.ends

  pub choice_told : {p q : ℕ} {b : Bool} (r : ℕ) → Begins bytes p 0x2b → ConditionTo bytes words state (p + 1) b q → (a : Option ℤ) → ChosenTold bytes words state q b a r → NumberTold bytes words state p a r
  choice_told r begins s None told = tt
  choice_told r begins s (Some z) told = chosen_is begins s told

  pub literal_span : {p : ℕ} → Stands bytes p 5 → get_or bytes p 0 ≡ 0x20 → p + 5 ≡ p + span (drop p bytes) 0 1
  unfolding span operands parts shape_of
  literal_span {p} there b =
      let e = drop (suc p) bytes in
      let long = length-drop (suc p) bytes in
      let opens : drop p bytes ≡ 0x20 ∷ e = drop-cons bytes p 0 (omega (arith, there.inside)) ∙ ap (λ (i : ℕ). i ∷ e) b in
      let four : span e 4 0 ≡ 4 = span_operands 4 0 e (omega (arith, there.inside)) ∙ ap (λ (i : ℕ). 4 + i) (span_none (drop 4 e)) in
      let all : span (drop p bytes) 0 1 ≡ 5 = ap (λ (l : List ℕ). span l 0 1) opens ∙ ap suc four in
      omega arith

  -- two literals, of which one is asked for
  pub literals_chosen : {p : ℕ} {c : Bool} {x y z : ℤ} → Stands bytes p 10 → get_or bytes p 0 ≡ 0x20 → get_or bytes (p + 5) 0 ≡ 0x20 → integer (drop (p + 1) bytes) ≡ read x 4 → mag x < range_end
      → integer (drop (p + 6) bytes) ≡ read y 4 → mag y < range_end → z ≡ cond c x y → Chosen bytes words state p c z (p + 10)
  literals_chosen {p} {c} {x} {y} {z} there a b ex hx ey hy chosen =
      let one : Stands bytes p 5 = record { inside = omega (arith, there.inside); near = omega (arith, there.near) } in
      let other : Stands bytes (p + 5) 5 = record { inside = omega (arith, there.inside); near = omega (arith, there.near) } in
      let six : p + 5 + 1 ≡ p + 6 = omega arith in
      let ten : p + 5 + 5 ≡ p + 10 = omega arith in
      let last = literal_is bytes words state (p + 5) y other b (ap (λ (i : ℕ). integer (drop i bytes)) six ∙ ey) hy in
      record {
        first = x;
        second = y;
        between = p + 5;
        first_is = literal_is bytes words state p x one a ex hx;
        second_is = rw ten at last;
        first_skipped = literal_span one a;
        second_skipped = sym ten ∙ literal_span other b;
        chosen = chosen;
      }

  -- two numbers, each passed over where it ends
  pub both_chosen : {p q r a b : ℕ} {c : Bool} {x y z : ℤ} → NumberTo bytes words state p x q → BehindAll bytes p 1 a → a ≡ q → NumberTo bytes words state q y r → BehindAll bytes q 1 b → b ≡ r → z ≡ cond c x y
      → Chosen bytes words state p c z r
  both_chosen {q = q} {x = x} {y = y} first passed e second passed-too f is = record {
    first = x;
    second = y;
    between = q;
    first_is = first;
    second_is = second;
    first_skipped = sym e ∙ passed.ends;
    second_skipped = sym f ∙ passed-too.ends;
    chosen = is;
  }

  -- 24
  pub weighed_told : {p q r : ℕ} {x y : ℤ} → Begins bytes p 0x24 → NumberTo bytes words state (p + 1) x q → NumberTo bytes words state q y r → (a : Option ℤ) → OperationTold 0x24 x y a
      → NumberTold bytes words state p a r
  unfolding number_form
  weighed_told begins s t = two_told bytes words state begins refl s t

-- ---- magnitudes

pub abs_below : (z : ℤ) → lt_z z (pos 0) ≡ true → neg_ℤ z ≡ pos (nat_abs z)
abs_below (pos n) h = absurd (omega (arith, ltb-true n 0 h))
abs_below (negsuc n) h = refl

pub abs_above : (z : ℤ) → lt_z z (pos 0) ≡ false → z ≡ pos (nat_abs z)
abs_above (pos n) h = refl
abs_above (negsuc n) h = absurd (true≢false h)

mag_abs : (z : ℤ) → mag z ≤ nat_abs z
mag_abs (pos n) = omega arith
mag_abs (negsuc n) = omega arith

abs_mag : (z : ℤ) → nat_abs z ≤ mag z + 1
abs_mag (pos n) = omega arith
abs_mag (negsuc n) = omega arith

sub_abs : (a b : ℕ) → nat_abs (sub_ℕ a b) ≤ a + b
sub_abs a b = go (ltb a b) refl
  where
    go : (t : Bool) → ltb a b ≡ t → nat_abs (cond t (negsuc (b - suc a)) (pos (a - b))) ≤ a + b
    go true e = let l = ltb-true a b e in omega arith
    go false e = omega arith

sum_abs : (x y : ℤ) → nat_abs (x +ℤ y) ≤ nat_abs x + nat_abs y
sum_abs (pos a) (pos b) = omega arith
sum_abs (pos a) (negsuc b) = sub_abs a (suc b)
sum_abs (negsuc a) (pos b) = let h = sub_abs b (suc a) in omega arith
sum_abs (negsuc a) (negsuc b) = omega arith

-- ---- 22: numbers that are due one behind the other, from a to q

module _ (bytes words state : List ℕ) where
  -- with the sum s, and t the sum of their magnitudes
  pub data Terms : (due a : ℕ) (s : ℤ) (t q : ℕ) → Type 0 where
    none : {a : ℕ} → Terms zero a (pos 0) 0 a
    more : {k a r t q : ℕ} {x s : ℤ} → NumberTo bytes words state a x r → Terms k r s t q → Terms (suc k) a (x +ℤ s) (nat_abs x + t) q

  -- the number at p, by those that are due from a on, where those before have the sum z
  pub record Sums (p due a : ℕ) (z most : ℤ) : Type 0 where
    pub counted : due + p ≤ a + 1
    pub bound : ℕ
    pub most_is : most ≡ pos bound
    pub low : bound < range_end
    pub near : nat_abs z ≤ bound
    pub is : (s : ℤ) (t q : ℕ) → Terms due a s t q → bound + t < range_end → NumberTo bytes words state p (z +ℤ s) q

  pub sums_start : (p : ℕ) → Sums p 1 p (pos 0) (pos 0)
  sums_start p = record { counted = omega arith; bound = 0; most_is = refl; low = omega arith; near = omega arith; is = first }
    where
      first : (s : ℤ) (t q : ℕ) → Terms 1 p s t q → 0 + t < range_end → NumberTo bytes words state p (pos 0 +ℤ s) q
      first s t q (more {x = x} number none) h = rw (+ℤ_idl (x +ℤ pos 0), +ℤ_idr x) number

  -- the first two make one
  sum_first : (z : ℤ) (m : ℕ) {k p a : ℕ} → ((s : ℤ) (t q : ℕ) → Terms (suc k) a s t q → m + t < range_end → NumberTo bytes words state p (z +ℤ s) q) → Begins bytes a 0x22
      → (s : ℤ) (t q : ℕ) → Terms (suc (suc k)) (a + 1) s t q → m + t < range_end → NumberTo bytes words state p (z +ℤ s) q
  unfolding number_form arithmetic
  sum_first z m is begins s t q (more {x = x} one (more {t = t₂} {x = y} {s = s₂} other rest)) h =
      let whole = sum_abs x y in
      let small = mag_abs (x +ℤ y) in
      let summed = two_numbers bytes words state {o = Op.Sum} begins refl one other (is_in_range (x +ℤ y) (omega arith)) in
      rw (← (+ℤ_assoc x y s₂)) (is (x +ℤ y +ℤ s₂) (nat_abs (x +ℤ y) + t₂) q (more summed rest) (omega arith))

  pub sums_and : (p due a : ℕ) (z most : ℤ) → Sums p due a z most → (due ≡ 0 → ⊥) → Begins bytes a 0x22 → Sums p (due + 1) (a + 1) z most
  sums_and p zero a z most j some begins = absurd (some refl)
  sums_and p (suc k) a z most j some begins = rw (add-one (suc k)) (record {
    counted = omega (arith, j.counted);
    bound = j.bound;
    most_is = j.most_is;
    low = j.low;
    near = j.near;
    is = sum_first z j.bound j.is begins;
  })

  -- the sum and the bound with one more term, in 64 bits
  pub sum_small : (p due a b : ℕ) (z most x : ℤ) → Sums p due a z most → NumberTo bytes words state a x b → SFits w64 (z +ℤ x)
  sum_small p due a b z most x j t = sum_fits z x (omega (arith, j.near, j.low, mag_abs z)) t.is.fits

  pub bound_small : (p due a b : ℕ) (z most x w : ℤ) → Sums p due a z most → NumberTo bytes words state a x b → w ≡ pos (nat_abs x) → SFits w64 (most +ℤ w)
  bound_small p due a b z most x w j t e = rw (j.most_is, e) (record { sfits = omega (arith, j.low, abs_mag x, t.is.fits) })

  pub sums_on : (p due a b : ℕ) (z most x w : ℤ) → Sums p due a z most → (due ≡ 0 → ⊥) → NumberTo bytes words state a x b → w ≡ pos (nat_abs x) → le_z (pos 2147483648) (most +ℤ w) ≡ false
      → Sums p (due - 1) b (z +ℤ x) (most +ℤ w)
  sums_on p zero a b z most x w j some t e low = absurd (some refl)
  sums_on p (suc k) a b z most x w j some t e low = rw (suc_sub_one k) (record {
    counted = omega (arith, j.counted, t.ends);
    bound = j.bound + nat_abs x;
    most_is = rw (j.most_is, e);
    low = leb-false 2147483648 (j.bound + nat_abs x) (rw (j.most_is, e) at low);
    near = omega (arith, sum_abs z x, j.near);
    is = λ s u q terms h. rw (+ℤ_assoc z x s) (j.is (x +ℤ s) (nat_abs x + u) q (more t terms) (omega arith));
  })

  pub sums_end : (p due a : ℕ) (z most : ℤ) → Sums p due a z most → due ≡ 0 → NumberTo bytes words state p z a
  sums_end p due a z most j none-due = rw (+ℤ_idr z) at (j.is (pos 0) 0 a (rw none-due none) (omega (arith, j.low)))
