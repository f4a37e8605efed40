-- The number of a refusal, or 0.
use Rattle.std.specs.Prelude.{ℕ, Result, Ok, Err}
use Rattle.read_forms.specs.Refusals.{number_of}
use Rattle.read_forms.specs.declared.refusals.Refusal.{Refusal}

-- 0 where nothing is refused
abbrev pub refusal_number : {A : Type 0} → Result A Refusal → ℕ
refusal_number (Ok a) = 0
refusal_number (Err r) = number_of r
