-- Connectives that wait: one more is put behind them, the last is settled by the value of the part before the cursor, and none is left.
use Prim.Native.Nat.{ℕ, ◌+◌, ◌-◌, ◌*◌, ◌/◌, ◌%◌, ◌≤◌, ◌<◌}
use mathlib.Core.Path.{◌≡◌, refl, sym, ◌∙◌}
use mathlib.Core.Bool.{Bool, true, false, not}
use mathlib.Core.List.{List, [], ◌∷◌}
use native.Mathlib.Omega.{arith}
use lib.ListN.{drop}
use lib.Dec.{eqb, leb, ltb}
use borrow.Author.Tests.{eqb-true, eqb-false, leb-true, ltb-true}
use Rattle.std.specs.Prelude.{Some, None}
use Rattle.laws.proofs.Bools.{and_both}
use Rattle.eval_sets.specs.declared.answers.ConditionValue.TheVariants as C
use Rattle.eval_sets.specs.declared.first_bytes.ConditionForm.TheVariants as CF
use Rattle.eval_sets.specs.Forms.{condition_form}
use Rattle.eval_sets.specs.Runs.{run_condition}
use Rattle.cursor.specs.Places.{Stands, Begins, BehindAll}
use Rattle.cursor.specs.Told.{here, ConditionIs, ConditionTo}
use Rattle.cursor_conditions.specs.Waiting.{is_connective, Wait, turn, join, code_of, coded, goes_on, Comes, Due, Told, Settled}
use Rattle.cursor_conditions.proofs.ConditionLaws.{condition_there, negated_is, second_is, decided_is}

-- ---- what decides

-- what the second part decides behind, and what it does not
goes_joined : (o : ℕ) (c : Bool) → o ≡ 1 → goes_on o c ≡ c
unfolding goes_on
goes_joined o c e = rw e

goes_either : (o : ℕ) (c : Bool) → o ≡ 2 → goes_on o c ≡ not c
unfolding goes_on
goes_either o c e = rw e

turned_round : (c d : Bool) → not c ≡ d → c ≡ not d
turned_round true d e = rw (← e)
turned_round false d e = rw (← e)

-- ---- first bytes

pub connective_some : (b : ℕ) → is_connective b ≡ true → b ≡ 0 → ⊥
unfolding is_connective
connective_some b h z = let x = and_both (leb 0x57 b) (ltb b 0x5a) h in omega (arith, leb-true 0x57 b x.0, z)

pub connective_low : (b : ℕ) → is_connective b ≡ true → 0x57 ≤ b
unfolding is_connective
connective_low b h = leb-true 0x57 b (and_both (leb 0x57 b) (ltb b 0x5a) h).0

pub connective_high : (b : ℕ) → is_connective b ≡ true → b < 0x5a
unfolding is_connective
connective_high b h = ltb-true b 0x5a (and_both (leb 0x57 b) (ltb b 0x5a) h).1

module _ (bytes words state : List ℕ) where
  -- a condition takes a byte at least
  pub some_used : {p n : ℕ} {c : Bool} → ConditionIs bytes words state p c n → (n ≡ 0 → ⊥)
  unfolding run_condition
  some_used {p} {n} {c} is e =
      let runs : run_condition 0 (here bytes words state) (drop p bytes) ≡ C.Holds c n = is.runs 0 (omega (arith, e)) in
      let clash : ◌≡◌ {A = ℕ} 0 1 = cc in
      absurd (omega arith)

  -- a part from p to q that is told stands there
  pub record Read (p q : ℕ) : Type 0 where
    pub past : p < q
    pub there : Stands bytes q 0

  pub read_part : {p q : ℕ} {c : Bool} → ConditionTo bytes words state p c q → Read p q
  read_part t = record { past = omega (arith, t.ends, some_used t.is); there = condition_there bytes words state t }

  module _ {p : ℕ} where
    pub due_start : Due bytes words state p 1 p
    unfolding coded Comes
    due_start = record { waits = []; word = refl; due = λ c r t. t }

    -- ---- one more waits

    due_turn : {w q : ℕ} → Due bytes words state p w q → Begins bytes q 0x57 → Due bytes words state p (w * 4 + 0) (q + 1)
    unfolding coded code_of Comes
    due_turn d begins = record { waits = turn ∷ d.waits; word = rw d.word; due = λ c r t. d.due (not c) r (negated_is bytes words state begins t) }

    due_join : {w q b : ℕ} (a : Bool) → Due bytes words state p w q → Begins bytes q b → condition_form b ≡ CF.Connective a → Due bytes words state p (w * 4 + code_of (join a)) (q + 1)
    unfolding coded Comes
    due_join a d begins f = record {
      waits = join a ∷ d.waits;
      word = rw d.word;
      due = λ c r t.
          ((λ e q passed. d.due a q (decided_is bytes words state a begins f (rw e at t) passed)), (λ e v q u. d.due v q (second_is bytes words state a begins f (rw e at t) u)));
    }

    pub due_put : {w q b : ℕ} → Due bytes words state p w q → Begins bytes q b → is_connective b ≡ true → Due bytes words state p (w * 4 + (b - 0x57)) (q + 1)
    unfolding condition_form code_of
    due_put {w} {q} {b} d begins h = go (eqb b 0x57) refl (eqb b 0x58) refl
      where
        byte_is : (k : ℕ) → b ≡ k → Begins bytes q k
        byte_is k e = record { there = begins.there; byte = begins.byte ∙ e }

        go : (s : Bool) → eqb b 0x57 ≡ s → (t : Bool) → eqb b 0x58 ≡ t → Due bytes words state p (w * 4 + (b - 0x57)) (q + 1)
        go true s t u = let e : b ≡ 0x57 = eqb-true b 0x57 s in rw e (due_turn d (byte_is 0x57 e))
        go false s true u = let e : b ≡ 0x58 = eqb-true b 0x58 u in rw e (due_join false d (byte_is 0x58 e) refl)
        go false s false u =
            let e : b ≡ 0x59 = omega (arith, eqb-false b 0x57 s, eqb-false b 0x58 u, connective_low b h, connective_high b h) in
            rw e (due_join true d (byte_is 0x59 e) refl)

    -- ---- a part is read

    pub due_told : {w q r : ℕ} {c : Bool} → Due bytes words state p w q → ConditionTo bytes words state q c r → Told bytes words state p w c r
    due_told {r = r} {c = c} d t = record { waits = d.waits; word = d.word; comes = d.due c r t }

    -- ---- the last one is settled

    pub told_turn : {w q : ℕ} {c : Bool} → Told bytes words state p w c q → 1 < w → w % 4 ≡ 0 → Told bytes words state p (w / 4) (not c) q
    unfolding coded code_of Comes
    told_turn {w} {q} {c} t some last = go t.waits t.word t.comes
      where
        go : (x : List Wait) → w ≡ coded x → Comes bytes words state p x c q → Told bytes words state p (w / 4) (not c) q
        go [] e h = absurd (omega (arith, e, some))
        go (turn ∷ x) e h = record { waits = x; word = omega (arith, e); comes = h }
        go (join false ∷ x) e h = absurd (omega (arith, e, last))
        go (join true ∷ x) e h = absurd (omega (arith, e, last))

    pub told_goes : {w q : ℕ} {c : Bool} → Told bytes words state p w c q → 1 < w → (w % 4 ≡ 0 → ⊥) → goes_on (w % 4) c ≡ true → Due bytes words state p (w / 4) q
    unfolding coded code_of Comes
    told_goes {w} {q} {c} t some other on = go t.waits t.word t.comes
      where
        go : (x : List Wait) → w ≡ coded x → Comes bytes words state p x c q → Due bytes words state p (w / 4) q
        go [] e h = absurd (omega (arith, e, some))
        go (turn ∷ x) e h = absurd (other (omega (arith, e)))
        go (join false ∷ x) e h =
            let o : w % 4 ≡ 1 = omega (arith, e) in
            record { waits = x; word = omega (arith, e); due = λ v r u. h.1 (sym (goes_joined (w % 4) c o) ∙ on) v r u }
        go (join true ∷ x) e h =
            let o : w % 4 ≡ 2 = omega (arith, e) in
            record { waits = x; word = omega (arith, e); due = λ v r u. h.1 (turned_round c true (sym (goes_either (w % 4) c o) ∙ on)) v r u }

    pub told_decided : {w q r : ℕ} {c : Bool} → Told bytes words state p w c q → 1 < w → (w % 4 ≡ 0 → ⊥) → goes_on (w % 4) c ≡ false → BehindAll bytes q 1 r → Told bytes words state p (w / 4) c r
    unfolding coded code_of Comes
    told_decided {w} {q} {r} {c} t some other off passed = go t.waits t.word t.comes
      where
        go : (x : List Wait) → w ≡ coded x → Comes bytes words state p x c q → Told bytes words state p (w / 4) c r
        go [] e h = absurd (omega (arith, e, some))
        go (turn ∷ x) e h = absurd (other (omega (arith, e)))
        go (join false ∷ x) e h =
            let o : w % 4 ≡ 1 = omega (arith, e) in
            let fails : c ≡ false = sym (goes_joined (w % 4) c o) ∙ off in
            record { waits = x; word = omega (arith, e); comes = rw fails (h.0 fails r passed) }
        go (join true ∷ x) e h =
            let o : w % 4 ≡ 2 = omega (arith, e) in
            let holds : c ≡ true = turned_round c false (sym (goes_either (w % 4) c o) ∙ off) in
            record { waits = x; word = omega (arith, e); comes = rw holds (h.0 holds r passed) }

    pub told_end : {w q : ℕ} {c : Bool} → Told bytes words state p w c q → (1 < w → ⊥) → ConditionTo bytes words state p c q
    unfolding coded code_of Comes
    told_end {w} {q} {c} t none = go t.waits t.word t.comes
      where
        coded_some : (x : List Wait) → 0 < coded x
        coded_some [] = omega arith
        coded_some (y ∷ x) = let k = coded_some x in omega (arith, k)

        go : (x : List Wait) → w ≡ coded x → Comes bytes words state p x c q → ConditionTo bytes words state p c q
        go [] e h = h
        go (y ∷ x) e h = let k = coded_some x in absurd (none (omega (arith, e, k)))

-- ---- the loop that settles

pub record Settling (bytes : List ℕ) (w₀ : ℕ) (c₀ : Bool) (q₀ w : ℕ) (c : Bool) (q : ℕ) : Type 0 where
  pub further : q₀ ≤ q
  pub there : Stands bytes q 0
  pub tells : (words state : List ℕ) (p : ℕ) → Told bytes words state p w₀ c₀ q₀ → Told bytes words state p w c q

module _ {bytes : List ℕ} {w₀ q₀ : ℕ} {c₀ : Bool} where
  pub settling_start : Stands bytes q₀ 0 → Settling bytes w₀ c₀ q₀ w₀ c₀ q₀
  settling_start there = record { further = omega arith; there = there; tells = λ words state p t. t }

  module _ {w q : ℕ} {c : Bool} where
    pub settling_turn : Settling bytes w₀ c₀ q₀ w c q → 1 < w → w % 4 ≡ 0 → Settling bytes w₀ c₀ q₀ (w / 4) (not c) q
    settling_turn s some last = record {
      further = s.further;
      there = s.there;
      tells = λ words state p t. told_turn bytes words state (s.tells words state p t) some last;
    }

    pub settling_decided : {r : ℕ} → Settling bytes w₀ c₀ q₀ w c q → 1 < w → (w % 4 ≡ 0 → ⊥) → goes_on (w % 4) c ≡ false → BehindAll bytes q 1 r → Settling bytes w₀ c₀ q₀ (w / 4) c r
    settling_decided s some other off passed = record {
      further = omega (arith, s.further, passed.ends);
      there = passed.there;
      tells = λ words state p t. told_decided bytes words state (s.tells words state p t) some other off passed;
    }

    pub settled_goes : Settling bytes w₀ c₀ q₀ w c q → 1 < w → (w % 4 ≡ 0 → ⊥) → goes_on (w % 4) c ≡ true → Settled bytes w₀ c₀ q₀ (w / 4) None q
    settled_goes s some other on = record {
      further = s.further;
      tells = λ words state p t. told_goes bytes words state (s.tells words state p t) some other on;
    }

    pub settled_end : {w' : ℕ} → Settling bytes w₀ c₀ q₀ w c q → (1 < w → ⊥) → Settled bytes w₀ c₀ q₀ w' (Some c) q
    settled_end s none = record {
      further = s.further;
      tells = λ words state p t. told_end bytes words state (s.tells words state p t) none;
    }
