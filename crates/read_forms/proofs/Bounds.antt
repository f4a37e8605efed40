-- No more bytes are used than there are: what the model's fair readers say of the expression readers.
use Prim.Native.Nat.{ℕ, ◌≤◌}
use mathlib.Core.List.{List}
use lib.ListN.{length}
use Rattle.model.specs.Readers.{Read, read, refused, Reader}
use Rattle.model.specs.Syntax.{Variable, Table}
use Rattle.model.specs.Expressions.{element, set, number, condition}
use Rattle.model.proofs.Fair.{ReadBy, reads, refuses}
use Rattle.model.proofs.Reading.{element_fair, set_fair, number_fair, condition_fair}

-- at most L bytes, where something was read
abbrev pub Short : {A : Type 0} → ℕ → Read A → Type 0
Short L (read a n) = n ≤ L
Short L (refused t) = Unit {0}

abbrev pub Bounded : {A : Type 0} → Reader A → Type 0
Bounded r = (e : List ℕ) → Short (length e) (r e)

fair_short : {A : Type 0} {e : List ℕ} {x : Read A} → ReadBy ◌≤◌ e x → Short (length e) x
fair_short (reads h) = h
fair_short (refuses h) = tt

module _ (vs : List Variable) (ts : List Table) where
  pub bounded_element : (d : ℕ) → Bounded (element vs ts d)
  bounded_element d e = fair_short (element_fair vs ts d e)

  pub bounded_set : (d : ℕ) → Bounded (set vs ts d)
  bounded_set d e = fair_short (set_fair vs ts d e)

  pub bounded_number : (d : ℕ) → Bounded (number vs ts d)
  bounded_number d e = fair_short (number_fair vs ts d e)

  pub bounded_condition : (d : ℕ) → Bounded (condition vs ts d)
  bounded_condition d e = fair_short (condition_fair vs ts d e)
