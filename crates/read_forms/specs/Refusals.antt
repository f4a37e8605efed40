-- The refusals that a reader gives, and their numbers.
use Rattle.std.specs.Prelude.{ℕ, cond, eqb}
use Rattle.model.specs.Numbers.{ends_early, not_due, mismatch, off_limits, too_deep, bytes_after_end}
use Rattle.read_forms.specs.declared.refusals.Refusal.{Refusal}
use Rattle.read_forms.specs.declared.refusals.Refusal.TheVariants.{EndsEarly, NotDue, Mismatch, OffLimits, TooDeep, BytesAfterEnd}

abbrev pub number_of : Refusal → ℕ
number_of EndsEarly = ends_early
number_of NotDue = not_due
number_of Mismatch = mismatch
number_of OffLimits = off_limits
number_of TooDeep = too_deep
number_of BytesAfterEnd = bytes_after_end

-- the refusal that has this number; no reader gives a number that is none's
abbrev pub named : ℕ → Refusal
named t =
    cond (eqb t not_due) NotDue
    (cond (eqb t mismatch) Mismatch
    (cond (eqb t off_limits) OffLimits
    (cond (eqb t too_deep) TooDeep
    (cond (eqb t bytes_after_end) BytesAfterEnd EndsEarly))))
