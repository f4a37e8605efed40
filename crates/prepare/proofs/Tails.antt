-- Conditions and transitions from their second condition on.
use Prim.Native.Nat.{ℕ, zero, suc, ◌+◌}
use mathlib.Core.Path.{◌≡◌, refl, sym, ap, ◌∙◌}
use mathlib.Core.Bool.{Bool, true, false}
use mathlib.Core.List.{List, [], ◌∷◌, ◌++◌, reverse, reverse-append}
use native.Mathlib.Omega.{arith}
use lib.ListN.{get_or, drop}
use lib.Seq.{drop-drop}
use lib.Dec.{eqb}
use Rattle.model.specs.Numbers.{most_nesting, most_variables}
use Rattle.model.specs.Readers.{Read, read, refused, Reader, after, continue, ◌>>=◌, give, many, up_to}
use Rattle.model.specs.Syntax.{Condition, Variable, Table, Transition}
use Rattle.model.specs.Expressions.{condition}
use Rattle.model.specs.Commands.{conditions, costs, effect_target, effect_on, transition}
use Rattle.model.proofs.Chains.{after_read, chain, given}
use Rattle.model.proofs.Loops.{many_more, many_end, many_full, many_early, many_body_refused}
use Rattle.prepare.proofs.Starts.{starts_with, clash}

-- ---- commands without operands of their own: with those before taken away there is room for one more

module _ {A : Type 0} (c : ℕ) (r : Reader A) where
  abbrev loop : (room : ℕ) (done : List A) → Reader (List A)
  loop = many (λ b. eqb b c) (λ b done. give (tt {0})) (λ _. r)

  pub record Shorter (room : ℕ) (done base : List A) (e : List ℕ) (l : List A) (u : ℕ) : Type 0 where
    pub items : List A
    pub reads : loop (suc room) done e ≡ read items u
    pub whole : l ≡ reverse base ++ items

  abbrev Shortens : (room : ℕ) → Type 0
  Shortens room = (done base : List A) (e : List ℕ) (l : List A) (u : ℕ) → loop room (done ++ base) e ≡ read l u → Shorter room done base e l u

  ends : (room : ℕ) (done base : List A) (b : ℕ) (e : List ℕ) (l : List A) (u : ℕ) → eqb b c ≡ false → loop room (done ++ base) (b ∷ e) ≡ read l u → Shorter room done base (b ∷ e) l u
  ends room done base b e l u d h =
      let f : read (reverse (done ++ base)) 0 ≡ read l u = sym (many_end _ _ _ room (done ++ base) b e d) ∙ h in
      let none : 0 ≡ u = cc in
      let all : reverse (done ++ base) ≡ l = cc in
      record { items = reverse done; reads = many_end _ _ _ (suc room) done b e d ∙ ap (read (reverse done)) none; whole = sym all ∙ reverse-append done base }

  going_on : (room : ℕ) → Shortens room → (done base : List A) (b : ℕ) (e : List ℕ) (l : List A) (u : ℕ) → eqb b c ≡ true → loop (suc room) (done ++ base) (b ∷ e) ≡ read l u
      → (x : Read A) → r e ≡ x → Shorter (suc room) done base (b ∷ e) l u
  unfolding give after
  going_on room again done base b e l u d h (refused t) q = clash (many_body_refused _ _ _ room (done ++ base) b e (tt {0}) 0 t d refl q) h
  going_on room again done base b e l u d h (read x k) q =
      let left = after_read (1 + (0 + k)) (loop room (x ∷ done ++ base) (drop k e)) (sym (many_more _ _ _ room (done ++ base) b e (tt {0}) 0 x k d refl q) ∙ h) in
      let s = again (x ∷ done) base (drop k e) l left.0 left.1 in
      let reads : loop (suc (suc room)) done (b ∷ e) ≡ read s.items u = many_more _ _ _ (suc room) done b e (tt {0}) 0 x k d refl q ∙ ap (after (1 + (0 + k))) s.reads ∙ ap (read s.items) (sym left.2) in
      record { items = s.items; reads = reads; whole = s.whole }

  full : (done base : List A) (b : ℕ) (e : List ℕ) (l : List A) (u : ℕ) → eqb b c ≡ true → loop 0 (done ++ base) (b ∷ e) ≡ read l u → Shorter 0 done base (b ∷ e) l u
  unfolding give
  full done base b e l u d h = clash (many_full _ _ _ (done ++ base) b e (tt {0}) 0 d refl) h

  abbrev More : (room : ℕ) → Type 0
  More room = (done base : List A) (b : ℕ) (e : List ℕ) (l : List A) (u : ℕ) → eqb b c ≡ true → loop room (done ++ base) (b ∷ e) ≡ read l u → Shorter room done base (b ∷ e) l u

  by_byte : (room : ℕ) → More room → (done base : List A) (b : ℕ) (e : List ℕ) (l : List A) (u : ℕ) → loop room (done ++ base) (b ∷ e) ≡ read l u → (t : Bool) → eqb b c ≡ t → Shorter room done base (b ∷ e) l u
  by_byte room more done base b e l u h true d = more done base b e l u d h
  by_byte room more done base b e l u h false d = ends room done base b e l u d h

  by_bytes : (room : ℕ) → More room → Shortens room
  by_bytes room more done base [] l u h = clash (many_early _ _ _ room (done ++ base)) h
  by_bytes room more done base (b ∷ e) l u h = by_byte room more done base b e l u h (eqb b c) refl

  pub shorter : (room : ℕ) → Shortens room
  shorter zero = by_bytes zero full
  shorter (suc room) = by_bytes (suc room) (λ done base b e l u d h. going_on room (shorter room) done base b e l u d h (r e) refl)

-- ---- conditions and transitions

module _ (vs : List Variable) (ts : List Table) (bytes : List ℕ) where
  pub record ConditionsBehind (at : ℕ) (x : Condition) (l : List Condition) (u : ℕ) : Type 0 where
    pub rest : List Condition
    pub used : ℕ
    pub reads : conditions vs ts (drop at bytes) ≡ read rest used
    pub whole : l ≡ x ∷ rest

  -- 08 and a condition of n bytes, then the others
  pub conditions_behind : (at : ℕ) (x : Condition) (n : ℕ) (l : List Condition) (u : ℕ) → get_or bytes at 0 ≡ 0x08 → condition vs ts most_nesting (drop (at + 1) bytes) ≡ read x n
      → conditions vs ts (drop at bytes) ≡ read l u → (p : ConditionsBehind (at + 1 + n) x l u) × (u ≡ 1 + n + p.used)
  unfolding conditions up_to give
  conditions_behind at x n l u here first h =
      let starts : drop at bytes ≡ 0x08 ∷ drop (at + 1) bytes = starts_with bytes at 0x08 (omega arith) here in
      let r = condition vs ts most_nesting in
      let left = after_read (1 + (0 + n)) (loop 0x08 r 15 (x ∷ []) (drop n (drop (at + 1) bytes)))
      (sym (many_more _ _ _ 15 [] 0x08 (drop (at + 1) bytes) (tt {0}) 0 x n refl refl first) ∙ ap (conditions vs ts) (sym starts) ∙ h) in
      let s = shorter 0x08 r 15 [] (x ∷ []) (drop n (drop (at + 1) bytes)) l left.0 left.1 in
      (record { rest = s.items; used = left.0; reads = rw (← drop-drop n (at + 1) bytes) s.reads; whole = s.whole }, omega (arith, left.2))

  -- what stands behind a transition's conditions
  abbrev behind_conditions : List Condition → Reader Transition
  behind_conditions cs =
      costs vs ts >>= λ k. many (λ b. eqb b 0x0a) (effect_target vs ts) (effect_on vs ts) most_variables [] >>= λ es. give (record { conditions = cs; costs = k; effects = es })

  -- it is read alike behind any conditions
  any_conditions : (cs : List Condition) (e : List ℕ) (t : Transition) (l : ℕ) → behind_conditions cs e ≡ read t l
      → (t.conditions ≡ cs) × ((ds : List Condition) → behind_conditions ds e ≡ read (record { conditions = ds; costs = t.costs; effects = t.effects }) l)
  unfolding ◌>>=◌ give continue after
  any_conditions cs e t l h =
      let c1 = chain (costs vs ts e) _ e t l h in
      let e1 = drop c1.used e in
      let c2 = chain (many (λ b. eqb b 0x0a) (effect_target vs ts) (effect_on vs ts) most_variables [] e1) _ e1 t c1.left c1.reads_next in
      let g = given _ (drop c2.used e1) t c2.left c2.reads_next in
      let uses : c1.used + (c2.used + 0) ≡ l = omega (arith, c1.uses, c2.uses, g.1) in (
        ap (λ (i : Transition). i.conditions) (sym g.0),
        λ ds. rw (c1.reads_first, c2.reads_first, uses) (ap (λ (i : Transition). read (record { conditions = ds; costs = i.costs; effects = i.effects }) l) g.0),
      )

  -- the transition that is left
  pub record TransitionBehind (at : ℕ) (x : Condition) (t : Transition) : Type 0 where
    pub rest : List Condition
    pub used : ℕ
    pub reads : transition vs ts (drop at bytes) ≡ read (record { conditions = rest; costs = t.costs; effects = t.effects }) used
    pub whole : t.conditions ≡ x ∷ rest

  pub transition_behind : (at : ℕ) (x : Condition) (n : ℕ) (t : Transition) (u : ℕ) → get_or bytes at 0 ≡ 0x08 → condition vs ts most_nesting (drop (at + 1) bytes) ≡ read x n
      → transition vs ts (drop at bytes) ≡ read t u → TransitionBehind (at + 1 + n) x t
  unfolding transition ◌>>=◌ continue after
  transition_behind at x n t u here first h =
      let e = drop at bytes in
      let c1 = chain (conditions vs ts e) behind_conditions e t u h in
      let p = conditions_behind at x n c1.first c1.used here first c1.reads_first in
      let place : at + 1 + n + p.0.used ≡ at + c1.used = omega (arith, p.1) in
      let same : drop c1.used e ≡ drop p.0.used (drop (at + 1 + n) bytes) = drop-drop c1.used at bytes ∙ ap (λ (i : ℕ). drop i bytes) (sym place) ∙ sym (drop-drop p.0.used (at + 1 + n) bytes) in
      let q = any_conditions c1.first (drop c1.used e) t c1.left c1.reads_next in
      record {
        rest = p.0.rest;
        used = p.0.used + c1.left;
        reads = rw (p.0.reads, ← same, q.1 p.0.rest);
        whole = q.0 ∙ p.0.whole;
      }
