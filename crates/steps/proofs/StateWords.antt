-- A state's words: what a word written and the outline's start words come to.
use Prim.Native.Nat.{ℕ, zero, suc, ◌+◌, ◌<◌}
use mathlib.Core.Path.{◌≡◌, refl, ap, ◌∙◌}
use mathlib.Core.List.{List, [], ◌∷◌, map}
use mathlib.Core.Option.{some}
use native.Mathlib.Omega.{arith}
use lib.ListN.{length, get_or, get_elem?, set, drop}
use lib.Seq.{get_or-drop}
use lib.IntN.{pos}
use Rattle.model.specs.Syntax.{Variable}
use Rattle.model.specs.Meaning.{State}
use Rattle.words.specs.States.{value_of, state_of}

one_add : (v : ℕ) → 1 + v ≡ suc v
one_add v = omega arith

-- the value of a declared variable
pub state_at_lem : (vs : List Variable) (ws : List ℕ) (v : ℕ) {x : Variable} → get_elem? vs v ≡ some x → get_or (state_of vs ws) v (pos 0) ≡ value_of x.kind (get_or ws v 0)
unfolding state_of
state_at_lem [] ws v {x} e = let z : ◌≡◌ {A = ℕ} 0 1 = cc in absurd (omega arith)
state_at_lem (y ∷ ys) ws zero {x} e = let p : y ≡ x = cc in ap (λ (k : Variable). value_of k.kind (get_or ws 0 0)) p
state_at_lem (y ∷ ys) ws (suc v) {x} e = state_at_lem ys (drop 1 ws) v e ∙ rw (get_or-drop 1 ws v 0) (ap (λ (n : ℕ). value_of x.kind (get_or ws n 0)) (omega arith))

-- one word written
pub state_set : (vs : List Variable) (ws : List ℕ) (v w : ℕ) {x : Variable} → get_elem? vs v ≡ some x → v < length ws
    → state_of vs (set ws v w) ≡ set (state_of vs ws) v (value_of x.kind w)
unfolding state_of
state_set vs [] v w e h = let z : ⊥ = omega arith in absurd z
state_set [] (u ∷ ws) v w {x} e h = let z : ◌≡◌ {A = ℕ} 0 1 = cc in absurd (omega arith)
state_set (y ∷ ys) (u ∷ ws) zero w {x} e h = let p : y ≡ x = cc in ap (λ (k : Variable). value_of k.kind w ∷ state_of ys ws) p
state_set (y ∷ ys) (u ∷ ws) (suc v) w e h = ap (λ (s : State). value_of y.kind u ∷ s) (state_set ys ws v w e (omega arith))

-- words that begin alike stand for the same state
pub state_alike : (vs : List Variable) (ws us : List ℕ) → ((v : ℕ) → v < length vs → get_or ws v 0 ≡ get_or us v 0) → state_of vs ws ≡ state_of vs us
unfolding state_of
state_alike [] ws us h = refl
state_alike (x ∷ xs) ws us h =
    let p : get_or ws 0 0 ≡ get_or us 0 0 = h 0 (omega arith) in
    let q : state_of xs (drop 1 ws) ≡ state_of xs (drop 1 us) = state_alike xs (drop 1 ws) (drop 1 us) (λ v l. rw (get_or-drop 1 ws v 0, get_or-drop 1 us v 0) (h (1 + v) (omega arith))) in
    rw (p, q)

-- words that say each variable's start
pub state_started : (vs : List Variable) (ws : List ℕ) → ((v : ℕ) (x : Variable) → get_elem? vs v ≡ some x → value_of x.kind (get_or ws v 0) ≡ x.start)
    → state_of vs ws ≡ map (λ x. x.start) vs
unfolding state_of
state_started [] ws h = refl
state_started (x ∷ xs) ws h =
    let p : value_of x.kind (get_or ws 0 0) ≡ x.start = h 0 x refl in
    let q : state_of xs (drop 1 ws) ≡ map (λ x. x.start) xs = state_started xs (drop 1 ws) (λ v y e. rw (get_or-drop 1 ws v 0, one_add v) (h (suc v) y e)) in
    rw (p, q)
