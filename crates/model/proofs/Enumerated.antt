-- Layers as lists, over any system: every state of a layer is listed, and every state that is listed is in the layer.
-- As many different states as a layer has, so many its list has at least.
use Prim.Native.Nat.{ℕ, zero, suc, ◌+◌, ◌≤◌, ◌<◌}
use mathlib.Core.Path.{◌≡◌, refl, sym, ◌∙◌}
use mathlib.Core.Logic.{inl, inr}
use mathlib.Core.List.{List, [], ◌∷◌, ◌++◌}
use native.Mathlib.Omega.{arith}
use native.Mathlib.Nat.{eq-or-lt_of_le}
use lib.ListN.{length}
use Rattle.laws.specs.Lists.{All, Different}
use Rattle.laws.proofs.Lists.{Some, here, there}
use Rattle.model.specs.System.{System, Status, base, unfinished, no_status, Move, blocked, moved, trouble_before, trouble_after}
use Rattle.model.specs.Plans.{Step, InLayer, first, next}

-- ---- lists

module _ {A : Type 0} where
  -- x is a member
  abbrev pub Member : A → List A → Type 0
  Member x l = Some (λ y. y ≡ x) l

  some_left : {P : A → Type 0} (a b : List A) → Some P a → Some P (a ++ b)
  some_left {P = P} [] b x' = elim x' [ ]
  some_left (x ∷ a) b (here p) = here p
  some_left (x ∷ a) b (there s) = there (some_left a b s)

  some_right : {P : A → Type 0} (a : List A) {b : List A} → Some P b → Some P (a ++ b)
  some_right [] s = s
  some_right (x ∷ a) s = there (some_right a s)

  all_append : (P : A → Type 0) (a b : List A) → All P a → All P b → All P (a ++ b)
  all_append P [] b p q = q
  all_append P (x ∷ a) b p q = (p.0, all_append P a b p.1 q)

  abbrev without : {x : A} {l : List A} → Member x l → List A
  without (here {xs = xs} e) = xs
  without (there {x = y} m) = y ∷ without m

  length_without : {x : A} {l : List A} (m : Member x l) → length l ≡ suc (length (without m))
  length_without (here e) = refl
  length_without (there m) = omega (arith, length_without m)

  still_member : {x z : A} {l : List A} (m : Member x l) → (x ≡ z → ⊥) → Member z l → Member z (without m)
  still_member (here e) f (here q) = absurd (f (sym e ∙ q))
  still_member (here e) f (there n) = n
  still_member (there m) f (here q) = here q
  still_member (there m) f (there n) = there (still_member m f n)

  still_members : {x : A} {l : List A} (m : Member x l) (k : List A) → All (λ y. x ≡ y → ⊥) k → All (λ y. Member y l) k → All (λ y. Member y (without m)) k
  still_members m [] d a = tt
  still_members m (y ∷ k) d a = (still_member m d.0 a.0, still_members m k d.1 a.1)

  -- different members of a list are no more than it has
  pub different_members : (k l : List A) → Different k → All (λ x. Member x l) k → length k ≤ length l
  different_members [] l d a = omega arith
  different_members (x ∷ k) l d a = omega (arith, length_without a.0, different_members k (without a.0) d.1 (still_members a.0 k d.0 a.1))

-- ---- layers

module _ {S C : Type 0} (M : System S C) where
  unfoldable pub moved_to : Move S C → List S
  moved_to blocked = []
  moved_to (moved c u) = u ∷ []
  moved_to (trouble_before t) = []
  moved_to (trouble_after c t) = []

  -- what the transitions from number t on reach from s, `left` of them
  unfoldable pub reached_by : (left t : ℕ) → S → List S
  reached_by zero t s = []
  reached_by (suc left) t s = moved_to (M.move s t) ++ reached_by left (suc t) s

  -- what one allowed step reaches from s, by its status
  unfoldable pub reached_from : Status → S → List S
  reached_from base s = []
  reached_from unfinished s = reached_by M.transitions 0 s
  reached_from (no_status t) s = []

  unfoldable pub reached_from_all : List S → List S
  reached_from_all [] = []
  reached_from_all (s ∷ l) = reached_from (M.status s) s ++ reached_from_all l

  module _ (start : S) where
    -- layer k, each state as often as it is reached
    unfoldable pub listed : ℕ → List S
    listed zero = start ∷ []
    listed (suc k) = reached_from_all (listed k)

    by_move : {c : C} {u : S} (x : Move S C) → x ≡ moved c u → Member u (moved_to x)
    unfolding moved_to
    by_move blocked e = let z : ◌≡◌ {A = ℕ} 0 1 = cc in absurd (omega arith)
    by_move {u = v} (moved c u) e = let same : u ≡ v = cc in here same
    by_move (trouble_before t) e = let z : ◌≡◌ {A = ℕ} 0 1 = cc in absurd (omega arith)
    by_move (trouble_after c t) e = let z : ◌≡◌ {A = ℕ} 0 1 = cc in absurd (omega arith)

    by_transition : {c : C} {u : S} (left t i : ℕ) (s : S) → t ≤ i → i < t + left → M.move s i ≡ moved c u → Member u (reached_by left t s)
    unfolding reached_by
    by_transition zero t i s a b e = absurd (omega arith)
    by_transition {c} (suc left) t i s a b e =
        elim (eq-or-lt_of_le a) [
          | inl q ↦ some_left (moved_to (M.move s t)) (reached_by left (suc t) s) (by_move {c = c} (M.move s t) (rw q e))
          | inr lt ↦ some_right (moved_to (M.move s t)) (by_transition left (suc t) i s lt (omega arith) e)
        ]

    by_step : {t : ℕ} {c : C} {s u : S} → Step M s t c u → Member u (reached_from (M.status s) s)
    unfolding reached_from
    by_step {t} {s = s} x = rw x.open_state (by_transition M.transitions 0 t s (omega arith) (omega (arith, x.declared)) x.allowed)

    by_some : {s u : S} (l : List S) → Member s l → Member u (reached_from (M.status s) s) → Member u (reached_from_all l)
    unfolding reached_from_all
    by_some {s = s} {u = u} [] x'' m = elim x'' [ ]
    by_some {s} {u} (v ∷ l) (here e) m = some_left (reached_from (M.status v) v) (reached_from_all l) (rw e m)
    by_some (v ∷ l) (there n) m = some_right (reached_from (M.status v) v) (by_some l n m)

    -- every state of a layer is listed
    pub in_layer_listed : {k : ℕ} {s : S} → InLayer M start k s → Member s (listed k)
    unfolding listed
    in_layer_listed first = here refl
    in_layer_listed (next {k} i x) = by_some (listed k) (in_layer_listed i) (by_step x)

    all_by_move : {k : ℕ} {s : S} (t : ℕ) (x : Move S C) → InLayer M start k s → M.status s ≡ unfinished → t < M.transitions → M.move s t ≡ x → All (InLayer M start (suc k)) (moved_to x)
    unfolding moved_to
    all_by_move t blocked i o lt e = tt
    all_by_move t (moved c u) i o lt e = (next i (record { open_state = o; declared = lt; allowed = e }), tt)
    all_by_move t (trouble_before n) i o lt e = tt
    all_by_move t (trouble_after c n) i o lt e = tt

    all_by_transitions : {k : ℕ} {s : S} (left t : ℕ) → InLayer M start k s → M.status s ≡ unfinished → t + left ≡ M.transitions → All (InLayer M start (suc k)) (reached_by left t s)
    unfolding reached_by
    all_by_transitions zero t i o e = tt
    all_by_transitions {k} {s} (suc left) t i o e =
        all_append (InLayer M start (suc k)) (moved_to (M.move s t)) (reached_by left (suc t) s) (all_by_move t (M.move s t) i o (omega arith) refl) (all_by_transitions left (suc t) i o (omega arith))

    all_from : {k : ℕ} {s : S} (x : Status) → InLayer M start k s → M.status s ≡ x → All (InLayer M start (suc k)) (reached_from x s)
    unfolding reached_from
    all_from base i e = tt
    all_from unfinished i e = all_by_transitions M.transitions 0 i e (omega arith)
    all_from (no_status t) i e = tt

    all_from_all : (k : ℕ) (l : List S) → All (InLayer M start k) l → All (InLayer M start (suc k)) (reached_from_all l)
    unfolding reached_from_all
    all_from_all k [] a = tt
    all_from_all k (s ∷ l) a = all_append (InLayer M start (suc k)) (reached_from (M.status s) s) (reached_from_all l) (all_from (M.status s) a.0 refl) (all_from_all k l a.1)

    -- every state that is listed is in the layer
    pub listed_in_layer : (k : ℕ) → All (InLayer M start k) (listed k)
    unfolding listed
    listed_in_layer zero = (first, tt)
    listed_in_layer (suc k) = all_from_all k (listed k) (listed_in_layer k)
