-- `search_report::report::report` meets its contract, ending by ending.
use native.Mathlib.Omega.{arith}
use Rattle.search_report.proofs.Reporting.{inside_beyond, reports_decided, reports_at, reports_beyond}
use Rattle.search_report.proofs.report.report.Goals as goal

pub returns-in-Decided : goal.returns-in-Decided
returns-in-Decided c =
    reports_decided _ _ _ _ _ _ _ c.in-Decided.is c.decided.ensures

pub returns-in-At : goal.returns-in-At
returns-in-At c =
    reports_at _ _ _ _ _ _ _ _ _ c.in-At.is c.refused.ensures c.trace.ensures

pub returns-in-Beyond : goal.returns-in-Beyond
returns-in-Beyond c =
    let pre = c.requires in
    let ends = inside_beyond _ c.in-Beyond.is pre.inside in
    reports_beyond _ _ _ _ _ _ _ _ _ _ c.in-Beyond.is (omega arith) c.refused-in-Beyond.ensures
    c.trace-in-Beyond.ensures
