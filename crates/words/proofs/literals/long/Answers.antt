-- `words::literals::long` meets its contract.
use Rattle.words.proofs.Literal.{suffix, word_eight}
use Rattle.words.proofs.literals.long.Goals as goal

pub returns : goal.returns
returns c =
    let e = c.args.e.now in
    word_eight e c.requires c.word.ensures.0 (rw (suffix 4 e) at c.word-2.ensures.0)
