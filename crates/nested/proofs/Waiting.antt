-- Operations that wait for their numbers, between the first byte of the whole number and the part that comes next; and a table's sum by its place.
use Prim.Native.Nat.{ℕ, zero, suc, ◌+◌, ◌-◌, ◌≤◌, ◌<◌}
use mathlib.Core.Path.{◌≡◌, refl, sym, ap, ◌∙◌}
use mathlib.Core.Bool.{Bool, true, false, true≢false, false≢true}
use mathlib.Core.List.{List}
use native.Mathlib.Numerals.{add-one}
use native.Mathlib.Omega.{arith}
use lib.ListN.{length, get_or, set, drop, length-set}
use lib.Seq.{get_or-set_same, get_or-set_other}
use lib.Dec.{leb, ltb}
use lib.IntN.{ℤ, pos, ◌+ℤ◌}
use lib.Signed.{mag}
use Rattle.std.specs.Prelude.{Option, Some}
use borrow.Author.Tests.{leb-true, ltb-true}
use Rattle.laws.proofs.Bools.{and_both}
use Rattle.model.specs.Numbers.{range_end, range_size}
use Rattle.model.specs.Values.{Value}
use Rattle.words.proofs.Integers.{word_back}
use Rattle.eval_sets.specs.Answers.{told, number_answer, element_answer}
use Rattle.eval_sets.specs.Runs.{table_in, entry_of, run_element, run_number}
use Rattle.words.specs.Tables.{column_sum}
use Rattle.quick.specs.Sets.{begins_element, object_in}
use Rattle.quick.specs.Sums.{VariableTotal, total_in}
use Rattle.quick.proofs.Changes.{element_run}
use Rattle.quick.proofs.Compared.{fits_value}
use Rattle.quick.proofs.Totals.{total_of, variable_total}
use Rattle.cursor.specs.Places.{Stands, Begins}
use Rattle.cursor.specs.Told.{here, NumberIs, NumberTo, SetTo, NumberTold}
use Rattle.cursor.specs.Codes.{ranged, OperationTold, is_operation}
use Rattle.nested.specs.Waiting.{word_of, Waiting, none, first, second, Reads}
use Rattle.cursor_conditions.proofs.ConditionLaws.{suc_sub_one}
use Rattle.cursor.proofs.NumberLaws.{operates, two_numbers}

-- 22 to 27 lie below the bytes of operations that have their first number
pub operation_low : (b : ℕ) → is_operation b ≡ true → b < 0x28
unfolding is_operation
operation_low b h = ltb-true b 0x28 (and_both (leb 0x22 b) (ltb b 0x28) h).1

operation_high : (b : ℕ) → is_operation b ≡ true → 0x22 ≤ b
unfolding is_operation
operation_high b h = leb-true 0x22 b (and_both (leb 0x22 b) (ltb b 0x28) h).0

module _ (bytes words state : List ℕ) where
  -- a number takes a byte at least
  pub some_used : (p : ℕ) (z : ℤ) (n : ℕ) → NumberIs bytes words state p z n → (n ≡ 0 → ⊥)
  unfolding run_number
  some_used p z n is e =
      let runs : run_number 0 (here bytes words state) (drop p bytes) ≡ told z n = is.runs 0 (omega (arith, e)) in
      let clash : ◌≡◌ {A = ℕ} 0 1 = cc in
      absurd (omega arith)

  -- a number where it is in range
  pub ranged_told : (p q : ℕ) (z : ℤ) (r : Option ℤ) → r ≡ ranged z → (mag z < range_end → NumberTo bytes words state p z q) → NumberTold bytes words state p r q
  unfolding ranged
  ranged_told p q z r e number = go (ltb (mag z) range_end) refl
    where
      go : (t : Bool) → ltb (mag z) range_end ≡ t → NumberTold bytes words state p r q
      go true t = rw (e, t) (number (ltb-true (mag z) range_end t))
      go false t = rw (e, t) tt

  -- 2A t 41 v 30 j
  pub total_is : (p : ℕ) (z : ℤ) → Stands bytes p 6 → VariableTotal bytes p → z ≡ total_in bytes p words state → mag z < range_end → NumberTo bytes words state p z (p + 6)
  unfolding number_answer
  total_is p z there form e l = record { used = 6; ends = refl; is = record { there = there; fits = l; runs = runs } }
    where
      runs : (d : ℕ) → 6 ≤ d → run_number d (here bytes words state) (drop p bytes) ≡ told z 6
      runs d h =
          let deep : d - 2 + 2 ≡ d = omega (arith, h) in
          let run = rw deep at (variable_total bytes words state (d - 2) p form) in
          run ∙ ap (λ (v : Value ℤ). number_answer v 6) (fits_value (total_in bytes p words state) (rw e at l)) ∙ ap (λ (v : ℤ). told v 6) (sym e)

  -- 2A t, a set and an element
  pub near_total_is : {p s q : ℕ} (z : ℤ) → Begins bytes p 0x2a → SetTo bytes words state (p + 2) s q → Stands bytes q 2 → begins_element (get_or bytes q 0) ≡ true
      → z ≡ column_sum bytes (table_in words (get_or bytes (p + 1) 0)) s (object_in (get_or bytes q 0) (get_or bytes (q + 1) 0) state) → mag z < range_end → NumberTo bytes words state p z (q + 2)
  unfolding number_answer entry_of
  near_total_is {p} {s} {q} z begins set there element e l = record {
    used = 1 + (1 + (set.used + 2));
    ends = omega (arith, set.ends);
    is = record { there = record { inside = omega (arith, set.ends, there.inside); near = omega (arith, set.ends, there.near) }; fits = l; runs = runs };
  }
    where
      column : run_element state (drop (p + 2 + set.used) bytes) ≡ element_answer (object_in (get_or bytes q 0) (get_or bytes (q + 1) 0) state) 2
      column = ap (λ (i : ℕ). run_element state (drop i bytes)) (sym set.ends) ∙ element_run state bytes q there.inside element

      runs : (d : ℕ) → 1 + (1 + (set.used + 2)) ≤ d → run_number d (here bytes words state) (drop p bytes) ≡ told z (1 + (1 + (set.used + 2)))
      runs d h =
          let deep : d - 2 + 2 ≡ d = omega (arith, h) in
          let run = rw deep at (total_of bytes words state (d - 2) p s set.is.objects set.used _ (omega (arith, set.ends, set.is.there.inside)) begins.byte (set.is.runs (d - 2 + 1) (omega (arith, h))) column) in
          run ∙ ap (λ (v : Value ℤ). number_answer v (1 + (1 + (set.used + 2)))) (fits_value _ (rw e at l)) ∙ ap (λ (v : ℤ). told v (1 + (1 + (set.used + 2)))) (sym e)

  module _ (p : ℕ) where
    abbrev Waits : (waiting firsts : List ℕ) (a k : ℕ) → Type 0
    Waits = Waiting bytes words state p

    abbrev Reading : (waiting firsts : List ℕ) (n q : ℕ) (z : ℤ) (told : Bool) → Type 0
    Reading = Reads bytes words state p

    -- those that wait are told by the words in front
    kept : {ws fs vs gs : List ℕ} {a k : ℕ} → ((i : ℕ) → i < k → get_or vs i 0 ≡ get_or ws i 0) → ((i : ℕ) → i < k → get_or gs i 0 ≡ get_or fs i 0) → Waits ws fs a k → Waits vs gs a k
    kept f g (none e) = none e
    kept f g (first {k = k} w begins o e next) = first (kept (λ i h. f i (omega (arith, h))) (λ i h. g i (omega (arith, h))) w) begins o (f k (omega arith) ∙ e) next
    kept f g (second {k = k} {q = q} w begins o e number) =
        second {q = q} (kept (λ i h. f i (omega (arith, h))) (λ i h. g i (omega (arith, h))) w) begins o (f k (omega arith) ∙ e) (rw (g k (omega arith)) number)

    -- the last of them, behind its first number
    pub record Last (waiting firsts : List ℕ) (from k : ℕ) : Type 0 where
      pub place : ℕ
      pub byte : ℕ
      pub begins : Begins bytes place byte
      pub operation : is_operation byte ≡ true
      pub mark : get_or waiting k 0 ≡ byte + 0x60
      pub before : Waits waiting firsts place k
      pub number : NumberTo bytes words state (place + 1) (word_of (get_or firsts k 0)) from

    last_of : (ws fs : List ℕ) (a n : ℕ) → Waits ws fs a n → (n ≡ 0 → ⊥) → (get_or ws (n - 1) 0 < 0x80 → ⊥) → Last ws fs a (n - 1)
    last_of ws fs a zero w some high = absurd (some refl)
    last_of ws fs a (suc k) (first {b = b} w begins o e next) some high = absurd (high (rw (suc_sub_one k) (omega (arith, e, operation_low b o))))
    last_of ws fs a (suc k) (second {a = c} {b = b} w begins o e number) some high =
        rw (suc_sub_one k) (record { place = c; byte = b; begins = begins; operation = o; mark = e; before = w; number = number })

    -- the last of them gets its first number
    with_first : (ws fs : List ℕ) (a n q v : ℕ) (z : ℤ) → n ≤ length ws → n ≤ length fs → Waits ws fs a n → (n ≡ 0 → ⊥) → get_or ws (n - 1) 0 < 0x80 → NumberTo bytes words state a z q → word_of v ≡ z
        → Waits (set ws (n - 1) (get_or ws (n - 1) 0 + 0x60)) (set fs (n - 1) v) q n
    with_first ws fs a zero q v z l m w some low number e = absurd (some refl)
    with_first ws fs a (suc k) q v z l m (second {b = b} w begins o is before) some low number e =
        let mark : get_or ws k 0 < 0x80 = rw (suc_sub_one k) at low in
        absurd (omega (arith, mark, is, operation_high b o))
    with_first ws fs a (suc k) q v z l m (first {a = c} {b = b} w begins o is next) some low number e =
        let there : NumberTo bytes words state (c + 1) z q = rw next at number in
        rw (suc_sub_one k)
        (second {q = q}
        (kept (λ i h. get_or-set_other ws k i (get_or ws k 0 + 0x60) 0 (λ j. absurd (omega (arith, h, j)))) (λ i h. get_or-set_other fs k i v 0 (λ j. absurd (omega (arith, h, j)))) w)
        begins o
        (get_or-set_same ws k (get_or ws k 0 + 0x60) 0 (omega (arith, l)) ∙ ap (λ (i : ℕ). i + 0x60) is)
        (rw (get_or-set_same fs k v 0 (omega (arith, m)), e) there))

    pub reads_start : {ws fs : List ℕ} {z : ℤ} → length ws ≡ 8 → length fs ≡ 8 → Reading ws fs 0 p z false
    reads_start l m = record { waiting_room = l; firsts_room = m; few = omega arith; from = p; waits = none refl; due = λ e. refl; got = λ e. absurd (false≢true e) }

    -- none waits: the whole number is read
    all_read : (ws fs : List ℕ) (a k q : ℕ) (z : ℤ) → Waits ws fs a k → k ≡ 0 → NumberTo bytes words state a z q → NumberTo bytes words state p z q
    all_read ws fs a zero q z (none e) h number = rw e at number
    all_read ws fs a (suc k) q z w h number = absurd (omega (arith, h))

    module _ {ws fs : List ℕ} {n q : ℕ} {z : ℤ} {told : Bool} where
      pub reads_end : Reading ws fs n q z told → told ≡ true → n ≡ 0 → NumberTo bytes words state p z q
      reads_end r t e = all_read ws fs r.from n q z r.waits e (r.got t)

      -- the number is the first of the operation that waits last
      pub reads_first : (v : ℕ) (y : ℤ) → Reading ws fs n q z told → told ≡ true → (n ≡ 0 → ⊥) → get_or ws (n - 1) 0 < 0x80 → pos v ≡ z +ℤ pos range_end → v < range_size
          → Reading (set ws (n - 1) (get_or ws (n - 1) 0 + 0x60)) (set fs (n - 1) v) n q y false
      reads_first v y r t some low e h = record {
        waiting_room = length-set ws (n - 1) (get_or ws (n - 1) 0 + 0x60) ∙ r.waiting_room;
        firsts_room = length-set fs (n - 1) v ∙ r.firsts_room;
        few = r.few;
        from = q;
        waits = with_first ws fs r.from n q v z (omega (arith, r.few, r.waiting_room)) (omega (arith, r.few, r.firsts_room)) r.waits some low (r.got t) (word_back v z e h);
        due = λ u. refl;
        got = λ u. absurd (false≢true u);
      }

      -- it is the second: both make one
      pub reads_second : (x y : ℤ) → Reading ws fs n q z told → told ≡ true → (n ≡ 0 → ⊥) → (get_or ws (n - 1) 0 < 0x80 → ⊥) → x ≡ word_of (get_or fs (n - 1) 0) → OperationTold (get_or ws (n - 1) 0 - 0x60) x z (Some y)
          → Reading ws fs (n - 1) q y told
      reads_second x y r t some high e tells =
          let last = last_of ws fs r.from n r.waits some high in
          let o = operates last.byte last.operation in
          let byte : get_or ws (n - 1) 0 - 0x60 ≡ last.byte = omega (arith, last.mark) in
          let makes : OperationTold last.byte (word_of (get_or fs (n - 1) 0)) z (Some y) = rw (byte, e) at tells in
          record {
            waiting_room = r.waiting_room;
            firsts_room = r.firsts_room;
            few = omega (arith, r.few);
            from = last.place;
            waits = last.before;
            due = λ u. absurd (true≢false (sym t ∙ u));
            got = λ u. two_numbers bytes words state last.begins o.form last.number (r.got t) (makes o.operation o.form);
          }

      -- an operation waits for its numbers
      pub reads_operation : (b : ℕ) (y : ℤ) → Reading ws fs n q z told → told ≡ false → Begins bytes q b → is_operation b ≡ true → (n ≡ 8 → ⊥) → Reading (set ws n b) fs (n + 1) (q + 1) y told
      reads_operation b y r t begins o room = record {
        waiting_room = length-set ws n b ∙ r.waiting_room;
        firsts_room = r.firsts_room;
        few = omega (arith, r.few, room);
        from = q + 1;
        waits = rw (add-one n)
            (first
            (kept (λ i h. get_or-set_other ws n i b 0 (λ j. absurd (omega (arith, h, j)))) (λ i h. refl) (rw (← (r.due t)) at r.waits))
            begins o
            (get_or-set_same ws n b 0 (omega (arith, r.few, room, r.waiting_room)))
            refl);
        due = λ u. refl;
        got = λ u. absurd (false≢true (sym t ∙ u));
      }

      -- an operation waits for its second number, its first being read with it
      pub reads_led : (b v k : ℕ) (x y : ℤ) → Reading ws fs n q z told → told ≡ false → Begins bytes q b → is_operation b ≡ true → (n ≡ 8 → ⊥) → NumberTo bytes words state (q + 1) x k → pos v ≡ x +ℤ pos range_end → v < range_size
          → Reading (set ws n (b + 0x60)) (set fs n v) (n + 1) k y told
      reads_led b v k x y r t begins o room number e h = record {
        waiting_room = length-set ws n (b + 0x60) ∙ r.waiting_room;
        firsts_room = length-set fs n v ∙ r.firsts_room;
        few = omega (arith, r.few, room);
        from = k;
        waits = rw (add-one n)
            (second {q = k}
            (kept (λ i l. get_or-set_other ws n i (b + 0x60) 0 (λ j. absurd (omega (arith, l, j)))) (λ i l. get_or-set_other fs n i v 0 (λ j. absurd (omega (arith, l, j)))) (rw (← (r.due t)) at r.waits))
            begins o
            (get_or-set_same ws n (b + 0x60) 0 (omega (arith, r.few, room, r.waiting_room)))
            (rw (get_or-set_same fs n v 0 (omega (arith, r.few, room, r.firsts_room)), word_back v x e h) number));
        due = λ u. refl;
        got = λ u. absurd (false≢true (sym t ∙ u));
      }

      -- a part is read
      pub reads_part : (k : ℕ) (y : ℤ) → Reading ws fs n q z told → told ≡ false → NumberTo bytes words state q y k → Reading ws fs n k y true
      reads_part k y r t number = record {
        waiting_room = r.waiting_room;
        firsts_room = r.firsts_room;
        few = r.few;
        from = q;
        waits = rw (← (r.due t)) at r.waits;
        due = λ u. absurd (true≢false u);
        got = λ u. number;
      }
