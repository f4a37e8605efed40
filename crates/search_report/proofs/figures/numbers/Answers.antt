-- `search_report::figures::numbers` has the definition's fields, in their order.
use Rattle.search_report.proofs.Numbers.{numbers_told, line_told}
use Rattle.search_report.proofs.figures.numbers.Goals as goal

pub returns : goal.returns
returns c =
    let list = numbers_told c.args.answer c.outcome_number-verdict.ensures c.flag_number-flag.ensures in
    record { order = list; line = line_told c.args.answer list }
