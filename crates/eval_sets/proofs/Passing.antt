-- Passing over an expression in leaps: at `at` with so many expressions due, what is left gives the whole.
use Prim.Native.Nat.{ℕ, zero, suc, ◌+◌, ◌-◌, ◌≤◌, ◌<◌, min}
use mathlib.Core.Path.{◌≡◌, refl, ap, ◌∙◌}
use mathlib.Core.Bool.{Bool, true, false, ◌&&◌, false≢true}
use mathlib.Core.List.{List, [], ◌∷◌}
use native.Mathlib.Omega.{arith}
use lib.ListN.{length, drop, get_or, length-drop, drop_of_length-le}
use lib.Seq.{drop-drop, drop-cons}
use lib.Dec.{leb}
use borrow.Author.Tests.{leb-true}
use Rattle.words.proofs.Bytes.{agree}
use Rattle.eval_sets.specs.declared.bytes.Shape.{Shape}
use Rattle.eval_sets.specs.Forms.{shape_of, operands, parts, span}
use Rattle.eval_sets.proofs.Spans.{span_none}

abbrev pub Passed : List ℕ → (at due : ℕ) → Type 0
Passed e at due = span e 0 1 ≡ min at (length e) + span (drop at e) 0 due

-- no byte has more than nine bytes of operands or more than three parts, as computed at all bytes
pub shape_small : (b : ℕ) → b < 256 → ((shape_of b).operands ≤ 9) × ((shape_of b).parts ≤ 3)
unfolding shape_of
shape_small b h = both (leb (shape_of b).operands 9) refl (agree (λ b. true) (λ b. leb (shape_of b).operands 9 && leb (shape_of b).parts 3) (λ b. true) refl b h refl)
  where
    both : (t : Bool) → leb (shape_of b).operands 9 ≡ t → (t && leb (shape_of b).parts 3) ≡ true → ((shape_of b).operands ≤ 9) × ((shape_of b).parts ≤ 3)
    both true p q = (leb-true _ 9 p, leb-true _ 3 q)
    both false p q = absurd (false≢true q)

-- a leap over operands may pass the end
leap : (e : List ℕ) (j c : ℕ) → span e j c ≡ min j (length e) + span (drop j e) 0 c
unfolding span
leap e zero c = omega arith
leap [] (suc j) c = omega arith
leap (b ∷ e) (suc j) c = let q = leap e j c in omega (arith, q)

nothing_left_lem : (e : List ℕ) (at due : ℕ) → length e ≤ at → span (drop at e) 0 due ≡ 0
nothing_left_lem e at due h = rw (drop_of_length-le e h) (none due)
  where
    none : (c : ℕ) → span [] 0 c ≡ 0
    none c = unfold span in refl

pub passed_start : (e : List ℕ) → Passed e 0 1
passed_start e = omega arith

pub passed_end : (e : List ℕ) (at due : ℕ) → Passed e at due → at < length e → due ≡ 0 → at ≡ span e 0 1
passed_end e at due h l z = let q = span_none (drop at e) in omega (arith, rw z at h, q)

pub passed_all : (e : List ℕ) (at due : ℕ) → Passed e at due → length e ≤ at → length e ≡ span e 0 1
passed_all e at due h l = omega (arith, nothing_left_lem e at due l)

turn_is : (b : ℕ) (f : List ℕ) (c k p : ℕ) → k ≡ operands b → p ≡ parts b → span (b ∷ f) 0 (suc c) ≡ suc (min k (length f) + span (drop k f) 0 (p + c))
unfolding span
turn_is b f c k p hk hp = rw (hk, hp) (ap suc (leap f (operands b) (parts b + c)))

-- one turn: the byte at `at`, its operands, and its parts for one that was due
pub passed_step : (e : List ℕ) (at due : ℕ) (s : Shape) → Passed e at due → at < length e → 0 < due
    → s ≡ shape_of (get_or e at 0) → Passed e (at + 1 + s.operands) (due - 1 + s.parts)
unfolding operands parts
passed_step e at due s h l z q =
    let b = get_or e at 0 in
    let k = s.operands in
    let p = s.parts in
    let hk : k ≡ operands b = ap (λ (s : Shape). s.operands) q in
    let hp : p ≡ parts b = ap (λ (s : Shape). s.parts) q in
    let one_further : due ≡ suc (due - 1) = omega arith in
    let turn : span (b ∷ drop (suc at) e) 0 (suc (due - 1)) ≡ suc (min k (length (drop (suc at) e)) + span (drop k (drop (suc at) e)) 0 (p + (due - 1)))
    = turn_is b (drop (suc at) e) (due - 1) k p hk hp in
    let here : span (drop at e) 0 due ≡ suc (min k (length (drop (suc at) e)) + span (drop (suc at + k) e) 0 (p + (due - 1)))
    = rw (drop-cons e at 0 l) (ap (span (b ∷ drop (suc at) e) 0) one_further ∙ (rw (drop-drop k (suc at) e) at turn)) in
    let x : suc at + k ≡ at + 1 + k = omega arith in
    let y : p + (due - 1) ≡ due - 1 + p = omega arith in
    let there = rw (x, y) at here in
    omega (arith, h, there, length-drop (suc at) e)
