-- `words::arithmetic::product` meets its contract.
use Rattle.words.proofs.Integers.{back, product_fits}
use Rattle.words.proofs.arithmetic.product.Goals as goal

pub returns : goal.returns
returns c =
    rw (back c.ranges.a, back c.ranges.b, back (product_fits c.args.a c.args.b c.requires.0 c.requires.1))
