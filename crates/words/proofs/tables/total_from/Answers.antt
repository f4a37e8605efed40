-- `words::tables::total_from` meets its contract: the members that both sets have stay in the sum.
use mathlib.Core.Path.{◌≡◌}
use lib.IntN.{◌+ℤ◌, ◌-ℤ◌}
use mir.Syntax.{w64}
use mir.Val.{SFits, to_z, of_z}
use Rattle.words.proofs.Integers.{back}
use Rattle.words.proofs.Differences.{sum_from, few_fits, less_fits, from_fits}
use Rattle.words.proofs.tables.total_from.Goals as goal

pub returns : goal.returns
returns c =
    let gone-back : to_z w64 (of_z w64 c.few-gone.result) ≡ c.few-gone.result = back (few_fits c.few-gone.ensures.1) in
    let come-back : to_z w64 (of_z w64 c.few-come.result) ≡ c.few-come.result = back (few_fits c.few-come.ensures.1) in
    let less : SFits w64 (c.args.sum -ℤ c.few-gone.result) = less_fits c.args.sum c.few-gone.result c.requires.2 c.few-gone.ensures.1 in
    let whole : SFits w64 (c.args.sum -ℤ c.few-gone.result +ℤ c.few-come.result) = from_fits c.args.sum c.few-gone.result c.requires.2 c.few-gone.ensures.1 c.few-come.result c.few-come.ensures.1 in
    let gone-is = rw c.difference.ensures at c.few-gone.ensures.0 in
    let come-is = rw c.difference-2.ensures at c.few-come.ensures.0 in
    rw (back c.ranges.sum, gone-back, come-back, back (less), back (whole))
    (sum_from _ c.args.known c.args.s c.requires.1 gone-is come-is)
