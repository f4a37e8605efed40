-- `steps::moves::number_word` meets its contract.
use Rattle.std.proofs.lemmas.Result.{err_from_is_err_and}
use Rattle.steps.proofs.Writing.{number_word_says, number_word_troubles}
use Rattle.steps.proofs.Trials.{value_within}
use Rattle.steps.proofs.Signs.{range_fits}
use Rattle.words.proofs.Integers.{back}
use Rattle.steps.proofs.moves.number_word.Goals as goal

pub returns : goal.returns
returns c =
    let w = value_within _ c.in_ok-z.was c.number_short.ensures.1 in (
      number_word_says _ c.args.at _ _
          c.number_short.ensures.0 c.in_ok-z.was
          (rw (back (range_fits w.0)) at c.biased.ensures),
      w.1,
      c.number_short.ensures.2,
    )

pub returns-in_err-z : goal.returns-in_err-z
returns-in_err-z c =
    let p = err_from_is_err_and c.from_residual.result c.from_residual.ensures.1 in
    rw (p.1, p.2) (number_word_troubles _ c.args.at _ _ c.number_short.ensures.0 c.in_err-z.was, tt, c.number_short.ensures.2)
