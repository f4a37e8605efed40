-- `read_model::behind_rule` meets its contract. The variables, then what follows over the bytes that declare them.
use mathlib.Core.Path.{◌≡◌, ◌∙◌}
use lib.ListN.{length, set}
use Rattle.read_declarations.proofs.Lists.{with_part}
use Rattle.read_declarations.proofs.Positions.{passed_on}
use Rattle.read_model.proofs.Whole.{variables_length, varied_length, variables_stop, variables_go_on}
use Rattle.read_model.proofs.behind_rule.Goals as goal

pub returns : goal.returns
returns c =
    let same : length (set (with_part 0 80 c.args.outline.now c.variables.new.words) 1 c.in_ok-listed.listed.count) ≡ length c.args.outline.now = varied_length c.args.model.now c.args.start c.args.outline.now c.variables.new.kinds c.variables.new.words c.requires.1 c.variables.ensures.1 c.in_ok-listed.listed.count in
    record { same = c.behind_variables.ensures.same ∙ same; told = variables_go_on c.args.model.now c.args.start c.args.outline.now c.variables.new.kinds c.variables.new.words c.requires.1 c.variables.ensures.1 c.in_ok-listed.ensures.2 c.behind_variables.new.outline c.behind_variables.result c.behind_variables.ensures.told }

pub returns-in_err-listed : goal.returns-in_err-listed
returns-in_err-listed c =
    record { same = variables_length c.args.model.now c.args.start c.args.outline.now c.variables.new.kinds c.variables.new.words c.requires.1 c.variables.ensures.1; told = rw (passed_on c.from_residual.result c.from_residual.ensures.1) (variables_stop c.args.model.now c.args.start c.args.outline.now c.variables.new.kinds c.variables.new.words c.requires.1 c.variables.ensures.1 c.in_err-listed.was c.variables.ensures.2 c.args.outline.now) }
