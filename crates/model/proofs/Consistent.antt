-- Bounds that are true by a test that computes: h of a base state is at most the cost of the empty plan, and h of any other is at most
-- the cost of each step combined with h behind it. The test goes through the layers, listed, until one has no states.
use Prim.Native.Nat.{ℕ, zero, suc, ◌+◌, ◌-◌, ◌≤◌, ◌<◌}
use mathlib.Core.Path.{◌≡◌, refl, sym, subst}
use mathlib.Core.Logic.{inl, inr}
use mathlib.Core.Bool.{Bool, true, false, ◌&&◌, false≢true}
use mathlib.Core.List.{List, [], ◌∷◌}
use native.Mathlib.Omega.{arith}
use native.Mathlib.Nat.{eq-or-lt_of_le}
use Rattle.laws.specs.Lists.{is_empty}
use Rattle.laws.proofs.Bools.{and_both}
use Rattle.laws.proofs.Lists.{here, there, some_none, is_empty_lem}
use Rattle.model.specs.Values.{Value, value, trouble}
use Rattle.model.specs.System.{Costs, CostLaws, System, Status, base, unfinished, no_status, Move, blocked, moved, trouble_before, trouble_after}
use Rattle.model.specs.Plans.{InLayer, next, Plan, finish, step}
use Rattle.model.proofs.Declared.{TrueBounds}
use Rattle.model.proofs.Enumerated.{Member, reached_from_all, listed, in_layer_listed}

module _ {S C : Type 0} (K : Costs C) (M : System S C) where
  -- h is at most c combined with a bound
  unfoldable pub below_bound : (h c : C) → Value C → Bool
  below_bound h c (value b) = K.at_most h (K.combine c b)
  below_bound h c (trouble t) = false

  unfoldable pub below_move : (h : C) → Move S C → Bool
  below_move h blocked = true
  below_move h (moved c u) = below_bound h c (M.bound u)
  below_move h (trouble_before t) = true
  below_move h (trouble_after c t) = true

  -- of the transitions from number t on, `left` of them
  unfoldable pub below_moves : (left t : ℕ) → S → (h : C) → Bool
  below_moves zero t s h = true
  below_moves (suc left) t s h = below_move h (M.move s t) && below_moves left (suc t) s h

  -- a state's bound, by its value and the state's status
  unfoldable pub consistent_at : Value C → Status → S → Bool
  consistent_at (trouble t) x s = true
  consistent_at (value h) base s = K.at_most h K.empty
  consistent_at (value h) unfinished s = below_moves M.transitions 0 s h
  consistent_at (value h) (no_status t) s = true

  unfoldable pub consistent_all : List S → Bool
  consistent_all [] = true
  consistent_all (s ∷ l) = consistent_at (M.bound s) (M.status s) s && consistent_all l

  -- in a layer and those behind it, of which at most `most` have states
  unfoldable pub consistent : (most : ℕ) → List S → Bool
  consistent zero l = is_empty l
  consistent (suc most) l = consistent_all l && consistent most (reached_from_all M l)

  at_member : {s : S} (l : List S) → consistent_all l ≡ true → Member s l → consistent_at (M.bound s) (M.status s) s ≡ true
  unfolding consistent_all
  at_member {s = s} [] e x'' = elim x'' [ ]
  at_member (v ∷ l) e (here q) = subst (λ x. consistent_at (M.bound x) (M.status x) x ≡ true) q (and_both _ (consistent_all l) e).0
  at_member (v ∷ l) e (there m) = at_member l (and_both (consistent_at (M.bound v) (M.status v) v) _ e).1 m

  module _ (start : S) where
    -- behind a layer without states there is none
    none_behind : (j d : ℕ) → listed M start j ≡ [] → listed M start (d + j) ≡ []
    unfolding listed reached_from_all
    none_behind j zero e = let same : 0 + j ≡ j = omega arith in rw same e
    none_behind j (suc d) e = let same : suc d + j ≡ suc (d + j) = omega arith in rw (same, none_behind j d e)

    consistent_from : (most j k : ℕ) {s : S} → consistent most (listed M start j) ≡ true → j ≤ k → InLayer M start k s → consistent_at (M.bound s) (M.status s) s ≡ true
    unfolding consistent listed
    consistent_from zero j k {s} e le i =
        let d : ℕ = k - j in
        let same : d + j ≡ k = omega arith in
        absurd (some_none (subst (Member s) (subst (λ n. listed M start n ≡ []) same (none_behind j d (is_empty_lem (listed M start j) e))) (in_layer_listed M start i)))
    consistent_from (suc most) j k {s} e le i =
        let (here-holds, behind) = and_both (consistent_all (listed M start j)) (consistent most (reached_from_all M (listed M start j))) e in
        elim (eq-or-lt_of_le le) [
          | inl q ↦ at_member (listed M start j) here-holds (subst (λ n. Member s (listed M start n)) (sym q) (in_layer_listed M start i))
          | inr lt ↦ consistent_from most (suc j) k behind lt i
        ]

    module _ (L : CostLaws K) (most : ℕ) (e : consistent most (start ∷ []) ≡ true) where
      at_state : {k : ℕ} {s : S} → InLayer M start k s → consistent_at (M.bound s) (M.status s) s ≡ true
      unfolding listed
      at_state {k} i = consistent_from most 0 k e (omega arith) i

      below_transition : (h : C) (left t n : ℕ) (s : S) → below_moves left t s h ≡ true → t ≤ n → n < t + left → below_move h (M.move s n) ≡ true
      unfolding below_moves
      below_transition h zero t n s b le lt = absurd (omega arith)
      below_transition h (suc left) t n s b le lt =
          let (first, rest) = and_both (below_move h (M.move s t)) (below_moves left (suc t) s h) b in
          elim (eq-or-lt_of_le le) [ inl q ↦ subst (λ x. below_move h (M.move s x) ≡ true) q first | inr x ↦ below_transition h left (suc t) n s rest x (omega arith) ]

      below_behind : {h c r : C} (b : Value C) → below_bound h c b ≡ true → ((x : C) → b ≡ value x → K.at_most x r ≡ true) → K.at_most h (K.combine c r) ≡ true
      unfolding below_bound
      below_behind {c = c} (value x) p f = L.transitive _ _ _ p (L.monotone c c x _ (L.reflexive c) (f x refl))
      below_behind (trouble t) p f = absurd (false≢true p)

      below_plan : {k : ℕ} {s : S} {h r : C} {p : List ℕ} → InLayer M start k s → M.bound s ≡ value h → Plan K M s p r → K.at_most h r ≡ true
      unfolding consistent_at below_move
      below_plan i b (finish x) = rw (b, x) at (at_state i)
      below_plan {k = k} {s = s} {h = h} i b (step {u = u} {t = t} {c = c} x plan) =
          let all : below_moves M.transitions 0 s h ≡ true = rw (b, x.open_state) at (at_state i) in
          let one : below_bound h c (M.bound u) ≡ true = rw x.allowed at (below_transition h M.transitions 0 t s all (omega arith) (omega (arith, x.declared))) in
          below_behind (M.bound u) one (λ y e. below_plan {k = suc k} (next i x) e plan)

      -- bounds that pass the test are true
      pub consistent_bounds_true : TrueBounds K M start
      consistent_bounds_true k s h r p i b plan = below_plan i b plan
