-- `quick::sums::total_at` meets its contract.
use Prim.Native.Nat.{◌+◌}
use mathlib.Core.Path.{◌≡◌, ap, ◌∙◌}
use lib.ListN.{get_or}
use mir.Syntax.{w64}
use mir.Val.{SFits}
use Rattle.words.proofs.Integers.{back}
use Rattle.eval_sets.specs.Runs.{table_in}
use Rattle.quick.specs.Sums.{sum_of}
use Rattle.quick.proofs.Memory.{sum_is}
use Rattle.quick.proofs.sums.total_at.Goals as goal

pub returns : goal.returns
returns c =
    let a = c.args in
    let f : SFits w64 c.total.result = record { sfits = c.total.type_inv } in
    let table_is : c.word_at-table.result ≡ table_in a.outline.now (get_or a.model.now (a.at + 1) 0) = rw c.byte_at.ensures at c.word_at-table.ensures in
    rw (back f)
    (c.total.ensures
    ∙ sum_is a.model.now a.at a.outline.now c.summed_set-s.result table_is c.summed_column-j.ensures.0
    ∙ ap (sum_of a.model.now a.at a.outline.now) c.summed_set-s.ensures)
