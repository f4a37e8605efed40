-- `search_report::report::decided` meets its contract, with a best plan and without one.
use mathlib.Core.Path.{refl}
use native.Mathlib.Omega.{arith}
use Rattle.search_report.proofs.Reporting.{decides_found, decides_none}
use Rattle.search_report.proofs.report.decided.Goals as goal

pub copy_bytes-requires : goal.copy_bytes-requires
copy_bytes-requires c =
    let in_best = rw c.in-Some.is at c.requires.0 in
    let in_plan = rw c.in-Some.is at c.requires.1 in
    (omega (arith, in_best), omega (arith, in_plan))

pub returns-in-Some : goal.returns-in-Some
returns-in-Some c =
    decides_found _ _ _ _ _ _ c.bound_at-bound.ensures c.in-Some.is (rw c.in-Some.is at c.requires.0) c.copy_bytes.ensures

pub returns-in-None : goal.returns-in-None
returns-in-None c =
    rw c.hours.ensures (decides_none _ _ _ _ _ _ c.bound_at-bound.ensures c.in-None.is refl)
