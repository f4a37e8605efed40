-- `search_report::report::refused` meets its contract.
use Rattle.search_report.proofs.Reporting.{refuses}
use Rattle.search_report.proofs.report.refused.Goals as goal

pub returns : goal.returns
returns c =
    refuses _ _ _ _
