-- What readers read, by the positions of its parts: commands one behind the other, a command that may stand there, and the parts of a transition.
use Prim.Native.Nat.{ℕ, zero, suc, ◌+◌, ◌*◌, ◌<◌}
use mathlib.Core.Path.{◌≡◌, refl, sym, ap, ◌∙◌}
use mathlib.Core.Bool.{Bool, true, false, cond}
use mathlib.Core.List.{List, [], ◌∷◌, reverse, reverse_aux}
use mathlib.Core.Option.{Option, some}
use mathlib.Core.Option as O
use native.Mathlib.Omega.{arith}
use lib.ListN.{length, get_or, get_elem?, drop, length-drop}
use lib.Seq.{get_or-drop, drop-drop}
use lib.Dec.{eqb}
use borrow.Author.Tests.{eqb-true, eqb-false}
use Rattle.model.specs.Numbers.{off_limits, mismatch, most_conditions, most_nesting, most_variables}
use Rattle.model.specs.Readers.{read, Reader, after, continue, ◌>>=◌, ◌>>◌, give, refuse, require, peek, byte, word, one, command, optional, many, up_to}
use Rattle.model.specs.Syntax.{Element, Set, Condition, Number, Expression, of_set, of_element, of_number, a_set, an_element, a_number, Variable, Table, Effect, StepCosts, Transition}
use Rattle.model.specs.Expressions.{declared, element, set, number, condition}
use Rattle.model.specs.Commands.{conditions, costs, effect_target, expression_for, effect_on, transition}
use Rattle.model.proofs.Chains.{chain, given, required, byte_used, commanded}
use Rattle.steps.specs.Says.{effect_list}

-- ---- one reader behind the other

peeked : (e : List ℕ) (b n : ℕ) → peek e ≡ read b n → (n ≡ 0) × (get_or e 0 0 ≡ b)
unfolding peek
peeked [] b n h = let z : ◌≡◌ {A = ℕ} 0 1 = cc in absurd (omega arith)
peeked (x ∷ e) b n h = (cc, cc)

found : (o : Option Variable) (e : List ℕ) (x : Variable) (n : ℕ) → declared o e ≡ read x n → (o ≡ some x) × (n ≡ 0)
unfolding declared refuse give
found O.none e x n h = let z : ◌≡◌ {A = ℕ} 0 1 = cc in absurd (omega arith)
found (O.some y) e x n h = (cc, cc)

one_byte : (e : List ℕ) (v n : ℕ) → word 1 e ≡ read v n → (n ≡ 1) × ((get_or e 0 0 ≡ v) × (0 < length e))
unfolding word byte give ◌>>=◌ continue after
one_byte [] v n h = let z : ◌≡◌ {A = ℕ} 0 1 = cc in absurd (omega arith)
one_byte (b ∷ e) v n h =
    let p : b + 256 * 0 ≡ v = cc in
    let q : 1 + (0 + 0) ≡ n = cc in
    (omega arith, (omega arith, omega arith))

front_byte : (bytes : List ℕ) (at : ℕ) → get_or (drop at bytes) 0 0 ≡ get_or bytes at 0
front_byte bytes at = get_or-drop at bytes 0 0 ∙ ap (λ (i : ℕ). get_or bytes i 0) (omega arith)

-- ---- commands one behind the other

-- from `at` on, commands c up to `end`: P says what stands behind a command's byte and where that ends
module _ {A : Type 0} (c : ℕ) (P : (at : ℕ) → A → (next : ℕ) → Type 0) (bytes : List ℕ) where
  pub data Listed : (at : ℕ) → List A → (end : ℕ) → Type 0 where
    stop : {at : ℕ} → (get_or bytes at 0 ≡ c → ⊥) → Listed at [] at
    item : {at next end : ℕ} {x : A} {xs : List A} → get_or bytes at 0 ≡ c → P (at + 1) x next → Listed next xs end → Listed at (x ∷ xs) end

  -- the first of them, where there is one
  pub record First (at : ℕ) (l : List A) (end : ℕ) : Type 0 where
    pub first : A
    pub others : List A
    pub next : ℕ
    pub whole : l ≡ first ∷ others
    pub part : P (at + 1) first next
    pub behind : Listed next others end

  pub first_of : {at end : ℕ} {l : List A} → Listed at l end → get_or bytes at 0 ≡ c → First at l end
  first_of (stop h) e = absurd (h e)
  first_of (item {next} {x = x} {xs} f p r) e = record { first = x; others = xs; next = next; whole = refl; part = p; behind = r }

  pub none_of : {at end : ℕ} {l : List A} → Listed at l end → (get_or bytes at 0 ≡ c → ⊥) → (l ≡ []) × (at ≡ end)
  none_of (stop h) e = (refl, refl)
  none_of (item f p r) e = absurd (e f)

module _ {A B : Type 0} (c : ℕ) (head : ℕ → List B → Reader A) (body : A → Reader B) (P : (at : ℕ) → B → (next : ℕ) → Type 0) (bytes : List ℕ)
    (each : (b : ℕ) (done : List B) (at : ℕ) (a : A) (n : ℕ) (x : B) (k : ℕ) → head b done (drop at bytes) ≡ read a n → body a (drop n (drop at bytes)) ≡ read x k → P at x (at + (n + k))) where
  abbrev loop : ℕ → List B → Reader (List B)
  loop = many (λ b. eqb b c) head body

  pub record Rest (done : List B) (at : ℕ) (l : List B) (u : ℕ) : Type 0 where
    pub items : List B
    pub whole : l ≡ reverse_aux done items
    pub listed : Listed c P bytes at items (at + u)

  ended : (done : List B) (at : ℕ) (l : List B) (n u m : ℕ) → (get_or bytes at 0 ≡ c → ⊥) → give (reverse done) (drop n (drop at bytes)) ≡ read l m → u ≡ n + m → n ≡ 0 → Rest done at l u
  ended done at l n u m h r e z =
      let g = given (reverse done) (drop n (drop at bytes)) l m r in
      let p : at ≡ at + u = omega (arith, g.1) in
      record { items = []; whole = sym g.0; listed = rw (← p) (stop h) }

  two_drops : (at n k : ℕ) → drop k (drop n (drop at bytes)) ≡ drop (at + (n + k)) bytes
  two_drops at n k = drop-drop k n (drop at bytes) ∙ drop-drop (n + k) at bytes

  -- the item at `at`, n bytes of its head and k of its body behind its byte, then the rest
  first_item : (b : ℕ) (done : List B) (at : ℕ) (l : List B) (u : ℕ) (a : A) (n : ℕ) (x : B) (k left : ℕ) → get_or bytes at 0 ≡ c → head b done (drop (at + 1) bytes) ≡ read a n → body a (drop n (drop (at + 1) bytes)) ≡ read x k
      → at + 1 + (n + k) + left ≡ at + u → Rest (x ∷ done) (at + 1 + (n + k)) l left → Rest done at l u
  first_item b done at l u a n x k left here p q e rest = record { items = x ∷ rest.items; whole = rest.whole; listed = item here (each b done (at + 1) a n x k p q) (rw e at rest.listed) }

  -- one turn, by its test; `again` is what the turns behind it read
  turn : (room : ℕ) → ((done : List B) (at : ℕ) (l : List B) (u : ℕ) → loop room done (drop at bytes) ≡ read l u → Rest done at l u)
      → (done : List B) (at : ℕ) (l : List B) (b n m u : ℕ) (t : Bool) → eqb b c ≡ t → get_or bytes at 0 ≡ b → n ≡ 0 → u ≡ n + m
      → cond t (byte >> (head b done >>= λ a. body a >>= λ x. loop room (x ∷ done))) (give (reverse done)) (drop n (drop at bytes)) ≡ read l m → Rest done at l u
  unfolding ◌>>=◌ ◌>>◌
  turn room again done at l b n m u false e f z v r = ended done at l n u m (λ i. eqb-false b c e (sym f ∙ i)) r v z
  turn room again done at l b n m u true e f z v r =
      let r0 : (byte >> (head b done >>= λ a. body a >>= λ x. loop room (x ∷ done))) (drop at bytes) ≡ read l m = rw z at r in
      let c1 = chain (byte (drop at bytes)) (λ _. head b done >>= λ a. body a >>= λ x. loop room (x ∷ done)) (drop at bytes) l m r0 in
      let one_used = byte_used (drop at bytes) c1.first c1.used c1.reads_first in
      let e1 : drop c1.used (drop at bytes) ≡ drop (at + 1) bytes = rw one_used.0 (drop-drop 1 at bytes) in
      let r1 : (head b done >>= λ a. body a >>= λ x. loop room (x ∷ done)) (drop (at + 1) bytes) ≡ read l c1.left = rw e1 at c1.reads_next in
      let c2 = chain (head b done (drop (at + 1) bytes)) (λ a. body a >>= λ x. loop room (x ∷ done)) (drop (at + 1) bytes) l c1.left r1 in
      let c3 = chain (body c2.first (drop c2.used (drop (at + 1) bytes))) (λ x. loop room (x ∷ done)) (drop c2.used (drop (at + 1) bytes)) l c2.left c2.reads_next in
      let p : at + 1 + (c2.used + c3.used) + c3.left ≡ at + u = omega (arith, one_used.0, c1.uses, c2.uses, c3.uses) in
      first_item b done at l u c2.first c2.used c3.first c3.used c3.left (f ∙ eqb-true b c e) c2.reads_first c3.reads_first p
      (again (c3.first ∷ done) (at + 1 + (c2.used + c3.used)) l c3.left (ap (loop room (c3.first ∷ done)) (sym (two_drops (at + 1) c2.used c3.used)) ∙ c3.reads_next))

  full : (done : List B) (at : ℕ) (l : List B) (b n m u : ℕ) (t : Bool) → eqb b c ≡ t → get_or bytes at 0 ≡ b → n ≡ 0 → u ≡ n + m
      → cond t (byte >> head b done >> refuse off_limits) (give (reverse done)) (drop n (drop at bytes)) ≡ read l m → Rest done at l u
  unfolding ◌>>◌ refuse
  full done at l b n m u false e f z v r = ended done at l n u m (λ i. eqb-false b c e (sym f ∙ i)) r v z
  full done at l b n m u true e f z v r =
      let c1 = chain ((byte >> head b done) (drop n (drop at bytes))) (λ _. refuse off_limits) (drop n (drop at bytes)) l m r in
      let w : ◌≡◌ {A = ℕ} 0 1 = cc c1.reads_next in
      absurd (omega arith)

  pub many_rest : (room : ℕ) (done : List B) (at : ℕ) (l : List B) (u : ℕ) → loop room done (drop at bytes) ≡ read l u → Rest done at l u
  unfolding many ◌>>=◌
  many_rest zero done at l u h =
      let p = chain (peek (drop at bytes)) (λ b. cond (eqb b c) (byte >> head b done >> refuse off_limits) (give (reverse done))) (drop at bytes) l u h in
      let q = peeked (drop at bytes) p.first p.used p.reads_first in
      full done at l p.first p.used p.left u (eqb p.first c) refl (sym (front_byte bytes at) ∙ q.1) q.0 p.uses p.reads_next
  many_rest (suc room) done at l u h =
      let p = chain (peek (drop at bytes)) (λ b. cond (eqb b c) (byte >> (head b done >>= λ a. body a >>= λ x. loop room (x ∷ done))) (give (reverse done))) (drop at bytes) l u h in
      let q = peeked (drop at bytes) p.first p.used p.reads_first in
      turn room (λ d i k v r. many_rest room d i k v r) done at l p.first p.used p.left u (eqb p.first c) refl (sym (front_byte bytes at) ∙ q.1) q.0 p.uses p.reads_next

  -- from the first command on
  pub many_listed : (room at : ℕ) (l : List B) (u : ℕ) → loop room [] (drop at bytes) ≡ read l u → Listed c P bytes at l (at + u)
  many_listed room at l u h = let r = many_rest room [] at l u h in rw r.whole r.listed

-- ---- a command that may stand at a place

module _ {A : Type 0} (c : ℕ) (r : Reader A) (bytes : List ℕ) (at : ℕ) where
  -- what is read behind its byte
  pub record Written (o : Option A) (next : ℕ) : Type 0 where
    pub item : A
    pub used : ℕ
    pub whole : o ≡ some item
    pub reads : r (drop (at + 1) bytes) ≡ read item used
    pub ends : next ≡ at + 1 + used

  -- the byte that stands there decides
  pub record OptionalAt (o : Option A) (next : ℕ) : Type 0 where
    pub written : get_or bytes at 0 ≡ c → Written o next
    pub absent : (get_or bytes at 0 ≡ c → ⊥) → (o ≡ O.none) × (next ≡ at)

  is_written : {o : Option A} {next : ℕ} → get_or bytes at 0 ≡ c → Written o next → OptionalAt o next
  is_written e w = record { written = λ _. w; absent = λ h. absurd (h e) }

  is_absent : {o : Option A} {next : ℕ} → (get_or bytes at 0 ≡ c → ⊥) → (o ≡ O.none) × (next ≡ at) → OptionalAt o next
  is_absent e w = record { written = λ h. absurd (e h); absent = λ _. w }

  -- by the test of the byte; n bytes of the look at it, m of what is read
  by_test : (o : Option A) (b n m u : ℕ) (t : Bool) → eqb b c ≡ t → get_or bytes at 0 ≡ b → n ≡ 0 → u ≡ n + m → cond t (byte >> one r some) (give O.none) (drop n (drop at bytes)) ≡ read o m → OptionalAt o (at + u)
  unfolding ◌>>=◌ ◌>>◌ one
  by_test o b n m u false e f z v h =
      let g = given O.none (drop n (drop at bytes)) o m h in
      is_absent (λ i. eqb-false b c e (sym f ∙ i)) (sym g.0, omega (arith, g.1))
  by_test o b n m u true e f z v h =
      let c1 = chain (byte (drop n (drop at bytes))) (λ _. one r some) (drop n (drop at bytes)) o m h in
      let one_used = byte_used (drop n (drop at bytes)) c1.first c1.used c1.reads_first in
      let behind : drop c1.used (drop n (drop at bytes)) ≡ drop (at + 1) bytes = rw (one_used.0, z) (drop-drop 1 at bytes) in
      let c2 = chain (r (drop c1.used (drop n (drop at bytes)))) (λ x. give (some x)) (drop c1.used (drop n (drop at bytes))) o c1.left c1.reads_next in
      let g = given (some c2.first) _ o c2.left c2.reads_next in
      is_written (f ∙ eqb-true b c e)
      (record {
        item = c2.first;
        used = c2.used;
        whole = sym g.0;
        reads = ap r (sym behind) ∙ c2.reads_first;
        ends = omega (arith, one_used.0, c1.uses, c2.uses, g.1);
      })

  pub optional_at : (o : Option A) (n : ℕ) → optional c r (drop at bytes) ≡ read o n → OptionalAt o (at + n)
  unfolding optional ◌>>=◌
  optional_at o n h =
      let p = chain (peek (drop at bytes)) (λ b. cond (eqb b c) (byte >> one r some) (give O.none)) (drop at bytes) o n h in
      let q = peeked (drop at bytes) p.first p.used p.reads_first in
      by_test o p.first p.used p.left n (eqb p.first c) refl (sym (front_byte bytes at) ∙ q.1) q.0 p.uses p.reads_next

-- ---- conditions and effects

module _ (vs : List Variable) (ts : List Table) (bytes : List ℕ) where
  pub record ConditionAt (at : ℕ) (x : Condition) (next : ℕ) : Type 0 where
    pub used : ℕ
    pub reads : condition vs ts most_nesting (drop at bytes) ≡ read x used
    pub ends : next ≡ at + used

  pub conditions_listed : (at : ℕ) (l : List Condition) (u : ℕ) → conditions vs ts (drop at bytes) ≡ read l u → Listed 0x08 ConditionAt bytes at l (at + u)
  unfolding conditions up_to
  conditions_listed at l u h = many_listed 0x08 (λ b done. give (tt {0})) (λ _. condition vs ts most_nesting) ConditionAt bytes each most_conditions at l u h
    where
      each : (b : ℕ) (done : List Condition) (at : ℕ) (a : Unit {0}) (n : ℕ) (x : Condition) (k : ℕ)
          → give (tt {0}) (drop at bytes) ≡ read a n → condition vs ts most_nesting (drop n (drop at bytes)) ≡ read x k → ConditionAt at x (at + (n + k))
      each b done at a n x k p q =
          let z : n ≡ 0 = (given (tt {0}) (drop at bytes) a n p).1 in
          record { used = k; reads = rw z at q; ends = omega arith }

  -- a variable's number, then an expression of its kind
  pub record EffectAt (at : ℕ) (f : Effect) (next : ℕ) : Type 0 where
    pub variable : Variable
    pub used : ℕ
    pub there : at < length bytes
    pub named : get_or bytes at 0 ≡ f.target
    pub found_there : get_elem? vs f.target ≡ some variable
    pub reads : expression_for vs ts variable.kind variable.objects (drop (at + 1) bytes) ≡ read f.result used
    pub ends : next ≡ at + 1 + used

  record TargetAt (e : List ℕ) (p : ℕ × Variable) (n : ℕ) : Type 0 where
    some_left : 0 < length e
    named : get_or e 0 0 ≡ p.0
    there : get_elem? vs p.0 ≡ some p.1
    one_used : n ≡ 1

  target_at : (b : ℕ) (done : List Effect) (e : List ℕ) (p : ℕ × Variable) (n : ℕ) → effect_target vs ts b done e ≡ read p n → TargetAt e p n
  unfolding effect_target ◌>>=◌ ◌>>◌
  target_at b done e p n h =
      let c1 = chain (word 1 e) _ e p n h in
      let w = one_byte e c1.first c1.used c1.reads_first in
      let c2 = chain _ _ (drop c1.used e) p c1.left c1.reads_next in
      let q = required _ off_limits (drop c1.used e) c2.first c2.used c2.reads_first in
      let c3 = chain _ _ (drop c2.used (drop c1.used e)) p c2.left c2.reads_next in
      let d = found (get_elem? vs c1.first) _ c3.first c3.used c3.reads_first in
      let g = given (c1.first, c3.first) _ p c3.left c3.reads_next in
      let same : c1.first ≡ p.0 = ap (λ (i : ℕ × Variable). i.0) g.0 in
      record { some_left = w.1.1; named = w.1.0 ∙ same; there = ap (get_elem? vs) (sym same) ∙ d.0 ∙ ap (λ (i : ℕ × Variable). some i.1) g.0; one_used = omega (arith, w.0, q.1, d.1, g.1, c1.uses, c2.uses, c3.uses) }

  effect_at : (at : ℕ) (p : ℕ × Variable) (n : ℕ) (f : Effect) (k : ℕ) → TargetAt (drop at bytes) p n → effect_on vs ts p (drop (at + 1) bytes) ≡ read f k → EffectAt at f (at + (n + k))
  unfolding effect_on one ◌>>=◌
  effect_at at p n f k t h =
      let c1 = chain (expression_for vs ts p.1.kind p.1.objects (drop (at + 1) bytes)) _ (drop (at + 1) bytes) f k h in
      let g = given _ _ f c1.left c1.reads_next in
      let named : p.0 ≡ f.target = ap (λ (i : Effect). i.target) g.0 in
      let result : c1.first ≡ f.result = ap (λ (i : Effect). i.result) g.0 in
      record {
        variable = p.1;
        used = c1.used;
        there = omega (arith, t.some_left, length-drop at bytes);
        named = sym (front_byte bytes at) ∙ t.named ∙ named;
        found_there = ap (get_elem? vs) (sym named) ∙ t.there;
        reads = c1.reads_first ∙ ap (λ (i : Expression). read i c1.used) result;
        ends = omega (arith, t.one_used, c1.uses, g.1);
      }

  pub effects_listed : (at : ℕ) (l : List Effect) (u : ℕ) → effect_list vs ts (drop at bytes) ≡ read l u → Listed 0x0a EffectAt bytes at l (at + u)
  effects_listed at l u h = many_listed 0x0a (effect_target vs ts) (effect_on vs ts) EffectAt bytes each most_variables at l u h
    where
      each : (b : ℕ) (done : List Effect) (at : ℕ) (p : ℕ × Variable) (n : ℕ) (f : Effect) (k : ℕ)
          → effect_target vs ts b done (drop at bytes) ≡ read p n → effect_on vs ts p (drop n (drop at bytes)) ≡ read f k → EffectAt at f (at + (n + k))
      each b done at p n f k r q =
          let t = target_at b done (drop at bytes) p n r in
          let e : drop n (drop at bytes) ≡ drop (at + 1) bytes = rw t.one_used (drop-drop 1 at bytes) in
          effect_at at p n f k t (rw e at q)

  -- ---- a step's costs

  -- 09, then the number; 10 and its number, where they are written
  pub record CostsAt (at : ℕ) (k : StepCosts) (next : ℕ) : Type 0 where
    pub used : ℕ
    pub there : get_or bytes at 0 ≡ 0x09
    pub reads : number vs ts most_nesting (drop (at + 1) bytes) ≡ read k.cost used
    pub high : OptionalAt 0x10 (number vs ts most_nesting) bytes (at + 1 + used) k.high next

  pub costs_at : (at : ℕ) (k : StepCosts) (n : ℕ) → costs vs ts (drop at bytes) ≡ read k n → CostsAt at k (at + n)
  unfolding costs ◌>>=◌ ◌>>◌
  costs_at at k n h =
      let e = drop at bytes in
      let c1 = chain (command 0x09 e) _ e k n h in
      let w = commanded 0x09 e c1.first c1.used c1.reads_first in
      let c2 = chain (number vs ts most_nesting (drop c1.used e)) _ (drop c1.used e) k c1.left c1.reads_next in
      let c3 = chain (optional 0x10 (number vs ts most_nesting) (drop c2.used (drop c1.used e))) _ (drop c2.used (drop c1.used e)) k c2.left c2.reads_next in
      let g = given _ _ k c3.left c3.reads_next in
      let behind : drop c1.used e ≡ drop (at + 1) bytes = rw w.0 (drop-drop 1 at bytes) in
      let further : drop c2.used (drop c1.used e) ≡ drop (at + 1 + c2.used) bytes = ap (drop c2.used) behind ∙ drop-drop c2.used (at + 1) bytes in
      let ends : at + 1 + c2.used + c3.used ≡ at + n = omega (arith, w.0, c1.uses, c2.uses, c3.uses, g.1) in
      let reads-high : optional 0x10 (number vs ts most_nesting) (drop (at + 1 + c2.used) bytes) ≡ read k.high c3.used = ap (optional 0x10 (number vs ts most_nesting)) (sym further) ∙ c3.reads_first ∙ ap (λ (i : StepCosts). read i.high c3.used) g.0 in
      record {
        used = c2.used;
        there = sym (front_byte bytes at) ∙ w.1;
        reads = ap (number vs ts most_nesting) (sym behind) ∙ c2.reads_first ∙ ap (λ (i : StepCosts). read i.cost c2.used) g.0;
        high = rw ends at (optional_at 0x10 (number vs ts most_nesting) bytes (at + 1 + c2.used) k.high c3.used reads-high);
      }

  -- ---- a transition

  pub record PartsAt (at : ℕ) (x : Transition) : Type 0 where
    pub conditions_used : ℕ
    pub costs_used : ℕ
    pub effects_used : ℕ
    pub reads_conditions : conditions vs ts (drop at bytes) ≡ read x.conditions conditions_used
    pub reads_costs : costs vs ts (drop (at + conditions_used) bytes) ≡ read x.costs costs_used
    pub reads_effects : effect_list vs ts (drop (at + conditions_used + costs_used) bytes) ≡ read x.effects effects_used

  pub parts_at : (at : ℕ) (x : Transition) (u : ℕ) → transition vs ts (drop at bytes) ≡ read x u → PartsAt at x
  unfolding transition ◌>>=◌
  parts_at at x u h =
      let e = drop at bytes in
      let c1 = chain (conditions vs ts e) _ e x u h in
      let c2 = chain (costs vs ts (drop c1.used e)) _ (drop c1.used e) x c1.left c1.reads_next in
      let c3 = chain (effect_list vs ts (drop c2.used (drop c1.used e))) _ (drop c2.used (drop c1.used e)) x c2.left c2.reads_next in
      let g = given _ _ x c3.left c3.reads_next in
      let e1 : drop c1.used e ≡ drop (at + c1.used) bytes = drop-drop c1.used at bytes in
      let e2 : drop c2.used (drop c1.used e) ≡ drop (at + c1.used + c2.used) bytes = ap (drop c2.used) e1 ∙ drop-drop c2.used (at + c1.used) bytes in
      record {
        conditions_used = c1.used;
        costs_used = c2.used;
        effects_used = c3.used;
        reads_conditions = c1.reads_first ∙ ap (λ (i : Transition). read i.conditions c1.used) g.0;
        reads_costs = ap (costs vs ts) (sym e1) ∙ c2.reads_first ∙ ap (λ (i : Transition). read i.costs c2.used) g.0;
        reads_effects = ap (effect_list vs ts) (sym e2) ∙ c3.reads_first ∙ ap (λ (i : Transition). read i.effects c3.used) g.0;
      }

-- ---- an effect's expression, by the kind of its variable

checked : {A : Type 0} (b : Bool) (t : ℕ) (a : A) (e : List ℕ) (x : A) (n : ℕ) → (require b t >> give a) e ≡ read x n → (a ≡ x) × (n ≡ 0)
unfolding ◌>>◌
checked b t a e x n h =
    let c = chain (require b t e) (λ _. give a) e x n h in
    let q = required b t e c.first c.used c.reads_first in
    let g = given a (drop c.used e) x c.left c.reads_next in
    (g.0, omega (arith, q.1, g.1, c.uses))

module _ (vs : List Variable) (ts : List Table) (e : List ℕ) (objects : ℕ) (f : Expression) (n : ℕ) where
  pub set_for : expression_for vs ts a_set objects e ≡ read f n → (x : Set) × (set vs ts most_nesting e ≡ read x n) × (f ≡ of_set x)
  unfolding expression_for ◌>>=◌
  set_for h =
      let c = chain (set vs ts most_nesting e) _ e f n h in
      let q = checked _ mismatch (of_set c.first) (drop c.used e) f c.left c.reads_next in
      let u : c.used ≡ n = omega (arith, q.1, c.uses) in
      (c.first, c.reads_first ∙ ap (read c.first) u, sym q.0)

  pub element_for : expression_for vs ts an_element objects e ≡ read f n → (x : Element) × (element vs ts most_nesting e ≡ read x n) × (f ≡ of_element x)
  unfolding expression_for ◌>>=◌
  element_for h =
      let c = chain (element vs ts most_nesting e) _ e f n h in
      let q = checked _ mismatch (of_element c.first) (drop c.used e) f c.left c.reads_next in
      let u : c.used ≡ n = omega (arith, q.1, c.uses) in
      (c.first, c.reads_first ∙ ap (read c.first) u, sym q.0)

  pub number_for : expression_for vs ts a_number objects e ≡ read f n → (x : Number) × (number vs ts most_nesting e ≡ read x n) × (f ≡ of_number x)
  unfolding expression_for one ◌>>=◌
  number_for h =
      let c = chain (number vs ts most_nesting e) _ e f n h in
      let q = given (of_number c.first) (drop c.used e) f c.left c.reads_next in
      let u : c.used ≡ n = omega (arith, q.1, c.uses) in
      (c.first, c.reads_first ∙ ap (read c.first) u, sym q.0)
