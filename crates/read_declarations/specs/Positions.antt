-- Reading at a position of the model's bytes: what a reader reads there, with the position behind it in place of the bytes used.
use Rattle.std.specs.Prelude.{Result, Ok, Err, ℕ, ◌≡◌, List, drop}
use Rattle.std.proofs.Math.Option.{some}
use Rattle.std.proofs.Math.ListN.{get_elem?}
use Rattle.model.specs.Readers.{Read, read, refused, Reader, after}
use Rattle.read_forms.specs.Refusals.{named}
use Rattle.read_forms.specs.declared.refusals.Refusal.{Refusal}

unfoldable pub read_at : {A : Type 0} → Reader A → (at : ℕ) (bytes : List ℕ) → Read A
read_at r at bytes = after at (r (drop at bytes))

-- the position behind what was read, or the refusal
abbrev pub position_of : {A : Type 0} → Read A → Result ℕ Refusal
position_of (read a n) = Ok n
position_of (refused t) = Err (named t)

-- P holds of every item and its number
abbrev pub Each : {A : Type 0} → (ℕ → A → Type 0) → List A → Type 0
Each {A} P l = (k : ℕ) (x : A) → get_elem? l k ≡ some x → P k x
