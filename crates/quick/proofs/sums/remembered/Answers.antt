-- `quick::sums::remembered` meets its contract: the set and its sum are remembered together, or neither.
use Prim.Native.Nat.{◌+◌}
use mathlib.Core.Path.{◌≡◌, ap, ◌∙◌}
use native.Mathlib.Omega.{arith}
use lib.ListN.{get_or}
use lib.IntN.{pos, ◌+ℤ◌}
use mir.Syntax.{w64}
use mir.Val.{SFits}
use Rattle.model.specs.Numbers.{range_end}
use Rattle.words.proofs.Integers.{back}
use Rattle.eval_sets.specs.Runs.{table_in}
use Rattle.quick.specs.Sums.{sum_of}
use Rattle.quick.proofs.Memory.{sum_is, known_sum, remembers_total}
use Rattle.quick.proofs.sums.remembered.Goals as goal

pub total_from-z-requires : goal.total_from-z-requires
total_from-z-requires c =
    let table_is : c.word_at-table.result ≡ table_in c.args.outline.now (get_or c.args.model.now (c.args.at + 1) 0) = rw c.byte_at.ensures at c.word_at-table.ensures in
    let small = c.signed_word.ensures.1 in
    let f : SFits w64 c.signed_word.result = record { sfits = omega (arith, small) } in
    (c.summed_column-j.ensures.1, rw (back f) (known_sum c.requires c.signed_word.ensures.0 (table_is) c.summed_column-j.ensures.0), rw (back f) small)

pub returns-then-in_range : goal.returns-then-in_range
returns-then-in_range c =
    let table_is : c.word_at-table.result ≡ table_in c.args.outline.now (get_or c.args.model.now (c.args.at + 1) 0) = rw c.byte_at.ensures at c.word_at-table.ensures in
    let a = c.args in
    let f : SFits w64 c.total_from-z.result = record { sfits = c.total_from-z.type_inv } in
    let is : c.total_from-z.result ≡ sum_of a.model.now a.at a.outline.now c.summed_set-s.result =
    c.total_from-z.ensures ∙ sum_is a.model.now a.at a.outline.now c.summed_set-s.result (table_is) c.summed_column-j.ensures.0 in
    let word : pos c.biased.result ≡ c.total_from-z.result +ℤ pos range_end = rw (back f) at c.biased.ensures.0 in
    rw (back f) (is ∙ ap (sum_of a.model.now a.at a.outline.now) c.summed_set-s.ensures, remembers_total c.requires c.summed_set-s.result c.biased.result c.total_from-z.result word c.biased.ensures.1 is)

pub returns-else-in_range : goal.returns-else-in_range
returns-else-in_range c =
    let table_is : c.word_at-table.result ≡ table_in c.args.outline.now (get_or c.args.model.now (c.args.at + 1) 0) = rw c.byte_at.ensures at c.word_at-table.ensures in
    let a = c.args in
    let f : SFits w64 c.total_from-z.result = record { sfits = c.total_from-z.type_inv } in
    let is : c.total_from-z.result ≡ sum_of a.model.now a.at a.outline.now c.summed_set-s.result =
    c.total_from-z.ensures ∙ sum_is a.model.now a.at a.outline.now c.summed_set-s.result (table_is) c.summed_column-j.ensures.0 in
    rw (back f) (is ∙ ap (sum_of a.model.now a.at a.outline.now) c.summed_set-s.ensures, c.requires.memory)
