-- The number of a refusal is not that of none.
use Prim.Native.Nat.{◌<◌}
use native.Mathlib.Omega.{arith}
use Rattle.read_forms.specs.Refusals.{number_of}
use Rattle.read_forms.specs.declared.refusals.Refusal.{Refusal}
use Rattle.read_forms.specs.declared.refusals.Refusal.TheVariants.{EndsEarly, NotDue, Mismatch, OffLimits, TooDeep, BytesAfterEnd}

pub number_positive : (r : Refusal) → 0 < number_of r
number_positive EndsEarly = omega arith
number_positive NotDue = omega arith
number_positive Mismatch = omega arith
number_positive OffLimits = omega arith
number_positive TooDeep = omega arith
number_positive BytesAfterEnd = omega arith
