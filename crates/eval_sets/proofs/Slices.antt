-- What stands at a position of a list of bytes, and behind it.
use Prim.Native.Nat.{ℕ, ◌+◌, ◌≤◌, ◌<◌}
use mathlib.Core.Path.{◌≡◌, sym, ◌∙◌, ap}
use mathlib.Core.List.{List}
use native.Mathlib.Omega.{arith}
use lib.ListN.{length, get_or, drop, length-drop}
use lib.Seq.{drop-drop, get_or-drop}

-- n bytes behind a position
pub behind : (at n : ℕ) (e : List ℕ) → drop (at + n) e ≡ drop n (drop at e)
behind at n e = sym (drop-drop n at e)

-- the byte at a position
pub first_at : (at : ℕ) (e : List ℕ) → get_or e at 0 ≡ get_or (drop at e) 0 0
first_at at e = let z : at ≡ at + 0 = omega arith in ap (λ (k : ℕ). get_or e k 0) z ∙ sym (get_or-drop at e 0 0)

-- a position at the end, and one before it
pub none_behind : (at : ℕ) (e : List ℕ) → length e ≤ at → length (drop at e) ≡ 0
none_behind at e h = omega (arith, length-drop at e)

pub some_behind : (at : ℕ) (e : List ℕ) → at < length e → length (drop at e) ≡ 0 → ⊥
some_behind at e h q = omega (arith, length-drop at e)
