-- Which transitions are tried at all: those whose guards pass.
use Rattle.std.specs.Prelude.{ℕ, zero, suc, ◌+◌, ◌*◌, ◌<◌, ◌≡◌, Bool, true, cond, List}
use Rattle.prepare.specs.Layout.{guards_from}
use Rattle.prepare.specs.Guards.{passes, guard_in}
use Rattle.steps.specs.InBytes.{StateRoom, system_in}

module _ (words state : List ℕ) where
  -- the guard of transition t passes
  abbrev pub passes_at : (t : ℕ) → Bool
  passes_at t = passes (guard_in words (guards_from + 4 * t)) state

  -- of n transitions from t on, those whose guards pass: bit k for transition t + k
  unfoldable pub allowed_from : (n t : ℕ) → ℕ
  allowed_from zero t = 0
  allowed_from (suc n) t = cond (passes_at t) 1 0 + 2 * allowed_from n (t + 1)

-- a transition of the model whose guard passes in a state
pub record Allowed (bytes words state : List ℕ) (t : ℕ) : Type 0 where
  pub room : StateRoom state
  pub declared : t < (system_in bytes).transitions
  pub passes_there : passes_at words state t ≡ true
