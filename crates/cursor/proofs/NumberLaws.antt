-- Numbers by their place: the forms without numbers inside, two numbers one behind the other, and what is told of an operation.
use Prim.Native.Nat.{ℕ, zero, suc, ◌+◌, ◌-◌, ◌%◌, ◌≤◌, ◌<◌}
use mathlib.Core.Path.{◌≡◌, refl, sym, ap, ◌∙◌}
use mathlib.Core.Bool.{Bool, true, false, cond, false≢true}
use mathlib.Core.List.{List, [], ◌∷◌}
use native.Mathlib.Nat.{zero-add}
use native.Mathlib.Omega.{arith}
use lib.ListN.{length, get_or, drop}
use lib.Seq.{drop-drop}
use lib.Dec.{eqb, leb, ltb}
use lib.IntN.{ℤ, pos, ◌-ℤ◌}
use Rattle.std.specs.Prelude.{Option, Some, None, IfSome}
use lib.Signed.{mag, le_z}
use borrow.Author.Tests.{eqb-true, eqb-false, leb-true, ltb-true}
use Rattle.model.specs.Numbers.{range_end, range_size}
use Rattle.model.specs.Values.{Value, value, in_range, floor_quotient}
use Rattle.model.specs.Values.{◌>>=◌ as ◌and_then◌}
use Rattle.model.specs.Readers.{read, integer}
use Rattle.model.specs.Meaning.{two}
use Rattle.laws.proofs.Bools.{and_both}
use Rattle.words.proofs.Bytes.{NoneOf, unnamed}
use Rattle.eval_sets.specs.declared.first_bytes.Operation.{Operation}
use Rattle.eval_sets.specs.declared.first_bytes.Operation.TheVariants as Op
use Rattle.eval_sets.specs.declared.first_bytes.NumberForm.{NumberForm}
use Rattle.eval_sets.specs.declared.first_bytes.NumberForm.TheVariants as NF
use Rattle.eval_sets.specs.Answers.{told, number_answer, past_number}
use Rattle.eval_sets.specs.Forms.{number_form, operands, parts, span}
use Rattle.eval_sets.specs.Runs.{fits, arithmetic, run_number, run_condition, number_at, number_behind}
use Rattle.eval_sets.proofs.Opening.{number_opens}
use Rattle.eval_sets.proofs.Parts.{number_past, pair_is}
use Rattle.eval_sets.proofs.Within.{number_known}
use Rattle.quick.specs.Entries.{EntryForm, entry_at}
use Rattle.quick.proofs.Compared.{fits_value, variable_run, literal_run, entry_run}
use Rattle.cursor.specs.Places.{Stands, Begins}
use Rattle.cursor.specs.Told.{here, NumberTo, NumberTold}
use Rattle.cursor.specs.Codes.{ranged, OperationTold, is_operation}

-- ---- by first bytes alone

-- expressions behind others
pub span_parts : (e : List ℕ) (j a c : ℕ) → span e j (a + c) ≡ span e j a + span (drop (span e j a) e) 0 c
unfolding span
span_parts [] j a c = omega arith
span_parts (b ∷ e) zero zero c = rw (zero-add c) (omega arith)
span_parts (b ∷ e) zero (suc a) c =
    let more : suc a + c ≡ suc (a + c) = omega arith in
    let next : parts b + (a + c) ≡ parts b + a + c = omega arith in
    let q = span_parts e (operands b) (parts b + a) c in
    rw (more, next) (omega (arith, q))
span_parts (b ∷ e) (suc j) a c = let q = span_parts e j a c in omega (arith, q)

-- ---- numbers at places

module _ (bytes words state : List ℕ) where
  -- what the run gives with every depth
  runs_to : (p n : ℕ) (z : ℤ) → Stands bytes p n → mag z < range_end → ((d : ℕ) → n ≤ d → run_number d (here bytes words state) (drop p bytes) ≡ number_answer (fits z) n) → NumberTo bytes words state p z (p + n)
  unfolding number_answer
  runs_to p n z there l runs = record { used = n; ends = refl; is = record { there = there; fits = l; runs = λ d h. runs d h ∙ ap (λ (v : Value ℤ). number_answer v n) (fits_value z l) } }

  -- 21 v
  pub variable_is : (p : ℕ) (z : ℤ) → Stands bytes p 2 → get_or bytes p 0 ≡ 0x21 → z ≡ pos (get_or state (get_or bytes (p + 1) 0) 0 % range_size) -ℤ pos range_end → mag z < range_end → NumberTo bytes words state p z (p + 2)
  variable_is p z there b e l =
      runs_to p 2 z there l (λ d h. variable_run (here bytes words state) bytes d p (λ k. absurd (omega (arith, h, k))) there.inside b ∙ ap (λ (v : ℤ). number_answer (fits v) 2) (sym e))

  -- 20 and an i32
  pub literal_is : (p : ℕ) (z : ℤ) → Stands bytes p 5 → get_or bytes p 0 ≡ 0x20 → integer (drop (p + 1) bytes) ≡ read z 4 → mag z < range_end → NumberTo bytes words state p z (p + 5)
  literal_is p z there b e l = runs_to p 5 z there l (λ d h. literal_run (here bytes words state) bytes d p z (λ k. absurd (omega (arith, h, k))) there.inside b e)

  -- 28 t e e
  pub entry_is : (p : ℕ) (z : ℤ) → Stands bytes p 6 → EntryForm bytes p → z ≡ entry_at bytes p words state → mag z < range_end → NumberTo bytes words state p z (p + 6)
  entry_is p z there f e l = runs_to p 6 z there l (λ d h. entry_run (here bytes words state) bytes d p (λ k. absurd (omega (arith, h, k))) f ∙ ap (λ (v : ℤ). number_answer (fits v) 6) (sym e))

  -- 22 to 27 and two numbers, by their runs
  two_run : (d p b n m : ℕ) (x y z : ℤ) (o : Operation) → (d ≡ 0 → ⊥) → p < length bytes → get_or bytes p 0 ≡ b → number_form b ≡ NF.Arithmetic o
      → run_number (d - 1) (here bytes words state) (drop (p + 1) bytes) ≡ told x n → run_number (d - 1) (here bytes words state) (drop n (drop (p + 1) bytes)) ≡ told y m → arithmetic o x y ≡ value z
      → run_number d (here bytes words state) (drop p bytes) ≡ told z (1 + (n + m))
  unfolding number_answer number_at number_behind two ◌and_then◌
  two_run d p b n m x y z o some l byte form first second e =
      let rest = drop (p + 1) bytes in
      (number_opens (here bytes words state)).opened d p bytes some l byte
      ∙ ap (λ (f : NumberForm). past_number 1 (number_at (d - 1) (here bytes words state) f rest)) form
      ∙ ap (past_number 1) (pair_is (λ f. run_number (d - 1) (here bytes words state) f) (λ f. run_condition (d - 1) (here bytes words state) f) rest (arithmetic o) (value x) (value y) n m first second)
      ∙ ap (λ (v : Value ℤ). past_number 1 (number_answer v (n + m))) e
      ∙ number_past (value z) 1 (n + m)

  -- 22 to 27 and two numbers
  pub two_numbers : {p b q r : ℕ} {o : Operation} {x y z : ℤ} → Begins bytes p b → number_form b ≡ NF.Arithmetic o
      → NumberTo bytes words state (p + 1) x q → NumberTo bytes words state q y r → arithmetic o x y ≡ value z → NumberTo bytes words state p z r
  two_numbers {p} {b} {q} {r} {o} {x} {y} {z} begins form first second e =
      let n = first.used in
      let m = second.used in
      let behind : drop n (drop (p + 1) bytes) ≡ drop q bytes = drop-drop n (p + 1) bytes ∙ ap (λ (k : ℕ). drop k bytes) (sym first.ends) in
      let whole : (d : ℕ) → 1 + (n + m) ≤ d → run_number d (here bytes words state) (drop p bytes) ≡ told z (1 + (n + m)) =
      λ d h. two_run d p b n m x y z o (λ k. absurd (omega (arith, h, k))) (omega (arith, begins.there.inside)) begins.byte form (first.is.runs (d - 1) (omega (arith, h)))
      (ap (run_number (d - 1) (here bytes words state)) behind ∙ second.is.runs (d - 1) (omega (arith, h))) e in
      record {
        used = 1 + (n + m);
        ends = omega (arith, first.ends, second.ends);
        is = record {
          there = record { inside = omega (arith, first.ends, second.is.there.inside); near = omega (arith, first.ends, second.is.there.near) };
          fits = (number_known (1 + (n + m)) (here bytes words state) (drop p bytes) (whole (1 + (n + m)) (omega arith))).0;
          runs = whole;
        };
      }

  -- a number of two, by what is told of the operation
  pub two_told : {p b q r : ℕ} {o : Operation} {x y : ℤ} → Begins bytes p b → number_form b ≡ NF.Arithmetic o
      → NumberTo bytes words state (p + 1) x q → NumberTo bytes words state q y r → (a : Option ℤ) → OperationTold b x y a → NumberTold bytes words state p a r
  two_told begins form first second None told = tt
  two_told {o = o} begins form first second (Some z) told = two_numbers begins form first second (told o form)

-- bytes among those that stand
pub inner : {bytes : List ℕ} {p n : ℕ} (i k : ℕ) → i + k ≤ n → Stands bytes p n → Stands bytes (p + i) k
inner i k l there = record { inside = omega (arith, l, there.inside); near = omega (arith, l, there.near) }

-- 28 t e e among bytes that stand
pub entry_among : {bytes words state : List ℕ} {p n : ℕ} {z : ℤ} (i k : ℕ) → i + 6 ≡ k → k ≤ n → Stands bytes p n → EntryForm bytes (p + i) → (z ≡ entry_at bytes (p + i) words state) × (mag z < range_end) → NumberTo bytes words state (p + i) z (p + k)
entry_among {bytes} {words} {state} {p} {n} {z} i k e l there form is =
    let ends : p + i + 6 ≡ p + k = omega arith in
    rw ends at (entry_is bytes words state (p + i) z (inner i 6 (omega arith) there) form is.0 is.1)

-- ---- first bytes of operations

-- the operation of a byte
pub record Operates (b : ℕ) : Type 0 where
  pub operation : Operation
  pub form : number_form b ≡ NF.Arithmetic operation

by_equal : {A : Type 0} (b k : ℕ) → (b ≡ k → A) → ((b ≡ k → ⊥) → A) → A
by_equal {A} b k f g = go (eqb b k) refl
  where
    go : (t : Bool) → eqb b k ≡ t → A
    go true e = f (eqb-true b k e)
    go false e = g (eqb-false b k e)

module _ (b : ℕ) (h : is_operation b ≡ true) where
  bounds : (0x22 ≤ b) × (b < 0x28)
  unfolding is_operation
  bounds = let range = and_both (leb 0x22 b) (ltb b 0x28) h in (leb-true 0x22 b range.0, ltb-true b 0x28 range.1)

  pub operation_some : b ≡ 0 → ⊥
  operation_some e = omega (arith, bounds.0, e)

  operates_by : (k : ℕ) (o : Operation) → number_form k ≡ NF.Arithmetic o → b ≡ k → Operates b
  operates_by k o form e = record { operation = o; form = ap number_form e ∙ form }

  -- the next byte, or one behind it
  next : {A : Type 0} (k : ℕ) → k ≤ b → (b ≡ k → A) → (k + 1 ≤ b → A) → A
  next k l f g = by_equal b k f (λ n. g (omega (arith, l, n)))

  pub operates : Operates b
  unfolding number_form
  operates =
      next 0x22 bounds.0 (operates_by 0x22 Op.Sum refl) (λ l3.
      next 0x23 l3 (operates_by 0x23 Op.Difference refl) (λ l4.
      next 0x24 l4 (operates_by 0x24 Op.Product refl) (λ l5.
      next 0x25 l5 (operates_by 0x25 Op.Quotient refl) (λ l6.
      next 0x26 l6 (operates_by 0x26 Op.Lesser refl) (λ l7. operates_by 0x27 Op.Greater refl (omega (arith, l7, bounds.1)))))))

-- ---- what is told of operations

-- what is told is the number in range
pub ranged_value : (z : ℤ) (r : Option ℤ) → r ≡ ranged z → IfSome r (λ v. fits z ≡ value v)
unfolding ranged in_range
ranged_value z r e = go (ltb (mag z) range_end) refl
  where
    go : (t : Bool) → ltb (mag z) range_end ≡ t → IfSome r (λ v. fits z ≡ value v)
    go true t = rw (e, t)
    go false t = rw (e, t) tt

-- the operation's byte gives the operation
same_operation : (b : ℕ) (o u : Operation) → number_form b ≡ NF.Arithmetic o → number_form b ≡ NF.Arithmetic u → o ≡ u
same_operation b o u e f = let q : NF.Arithmetic o ≡ NF.Arithmetic u = sym e ∙ f in cc

-- of an operation that is as its byte says
by_form : (b : ℕ) (o : Operation) (x y : ℤ) (r : Option ℤ) → number_form b ≡ NF.Arithmetic o → IfSome r (λ v. arithmetic o x y ≡ value v) → OperationTold b x y r
by_form b o x y r form told u other = rw (← same_operation b o u form other) told

pub operation_told : (b : ℕ) (o : Operation) (x y z : ℤ) (r : Option ℤ) → number_form b ≡ NF.Arithmetic o → arithmetic o x y ≡ fits z → r ≡ ranged z → OperationTold b x y r
operation_told b o x y z r form is e = by_form b o x y r form (rw is (ranged_value z r e))

pub quotient_told : (x y z : ℤ) (r : Option ℤ) → floor_quotient x y ≡ value z → r ≡ ranged z → OperationTold 0x25 x y r
unfolding number_form arithmetic ◌and_then◌
quotient_told x y z r q e = operation_told 0x25 Op.Quotient x y z r refl (rw q) e

-- one of two numbers in range is in range
chosen_fits : (t : Bool) (x y : ℤ) → mag x < range_end → mag y < range_end → mag (cond t x y) < range_end
chosen_fits true x y l k = l
chosen_fits false x y l k = k

pub lesser_told : (x y z : ℤ) → mag x < range_end → mag y < range_end → z ≡ cond (le_z x y) x y → OperationTold 0x26 x y (Some z)
unfolding number_form arithmetic
lesser_told x y z l k e u form =
    ap (λ (v : Operation). arithmetic v x y) (sym (same_operation 0x26 Op.Lesser u refl form)) ∙ fits_value (cond (le_z x y) x y) (chosen_fits (le_z x y) x y l k) ∙ ap value (sym e)

unfoldable is_greater : Operation → Bool
is_greater Op.Sum = false
is_greater Op.Difference = false
is_greater Op.Product = false
is_greater Op.Quotient = false
is_greater Op.Lesser = false
is_greater Op.Greater = true

unfoldable none_or_greater : NumberForm → Bool
none_or_greater NF.Literal = true
none_or_greater NF.Variable = true
none_or_greater (NF.Arithmetic o) = is_greater o
none_or_greater NF.Entry = true
none_or_greater NF.Size = true
none_or_greater NF.Total = true
none_or_greater NF.Choice = true
none_or_greater NF.Other = true

greater_is : (o : Operation) (x y : ℤ) → is_greater o ≡ true → arithmetic o x y ≡ fits (cond (le_z x y) y x)
unfolding is_greater arithmetic
greater_is Op.Sum x y h = absurd (false≢true h)
greater_is Op.Difference x y h = absurd (false≢true h)
greater_is Op.Product x y h = absurd (false≢true h)
greater_is Op.Quotient x y h = absurd (false≢true h)
greater_is Op.Lesser x y h = absurd (false≢true h)
greater_is Op.Greater x y h = refl

-- of the bytes that name none of the operations before it, the last has 27 alone
pub greater_told : (b : ℕ) (x y z : ℤ) → b < 256 → NoneOf (Unit {0}) (0x22 ∷ 0x23 ∷ 0x24 ∷ 0x25 ∷ 0x26 ∷ []) b → mag x < range_end → mag y < range_end → z ≡ cond (le_z x y) y x → OperationTold b x y (Some z)
unfolding is_greater none_or_greater number_form
greater_told b x y z small none l k e u form =
    let only : none_or_greater (number_form b) ≡ true = unnamed (0x22 ∷ 0x23 ∷ 0x24 ∷ 0x25 ∷ 0x26 ∷ []) (λ b. none_or_greater (number_form b)) (λ b. true) refl b small none in
    let last : is_greater u ≡ true = sym (ap none_or_greater form) ∙ only in
    greater_is u x y last ∙ fits_value (cond (le_z x y) y x) (chosen_fits (le_z x y) y x k l) ∙ ap value (sym e)
