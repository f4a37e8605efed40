-- `read_model::behind_variables` meets its contract. The tables, then the groups over the bytes that declare them.
use mathlib.Core.Path.{◌≡◌, ◌∙◌}
use lib.ListN.{length, set}
use Rattle.read_declarations.proofs.Lists.{with_part}
use Rattle.read_declarations.proofs.Positions.{passed_on}
use Rattle.read_model.proofs.Whole.{tables_length, tabled_length, tables_stop, tables_go_on}
use Rattle.read_model.proofs.behind_variables.Goals as goal

pub returns : goal.returns
returns c =
    let same : length (set (with_part 80 32 c.args.outline.now c.tables.new.words) 2 c.in_ok-listed.listed.count) ≡ length c.args.outline.now = tabled_length c.args.kinds.now c.args.model.now c.args.start c.args.outline.now c.tables.new.rows c.tables.new.columns c.tables.new.words c.requires.2 c.tables.ensures.2 c.in_ok-listed.listed.count in
    record { same = c.groups.ensures.same ∙ same; told = tables_go_on c.args.kinds.now c.args.model.now c.args.start c.args.outline.now c.tables.new.rows c.tables.new.columns c.tables.new.words c.requires.2 c.tables.ensures.2 c.in_ok-listed.ensures.3 c.groups.new.outline c.groups.result c.groups.ensures.told }

pub returns-in_err-listed : goal.returns-in_err-listed
returns-in_err-listed c =
    record { same = tables_length c.args.kinds.now c.args.model.now c.args.start c.args.outline.now c.tables.new.rows c.tables.new.columns c.tables.new.words c.requires.2 c.tables.ensures.2; told = rw (passed_on c.from_residual.result c.from_residual.ensures.1) (tables_stop c.args.kinds.now c.args.model.now c.args.start c.args.outline.now c.tables.new.rows c.tables.new.columns c.tables.new.words c.requires.2 c.tables.ensures.2 c.in_err-listed.was c.tables.ensures.3 c.args.outline.now) }
