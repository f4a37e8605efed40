-- What joining two costs asks for: each part of their sum fits a word.
use Rattle.std.specs.Prelude.{◌+◌, ◌<◌, ◌^◌}
use Rattle.model.specs.declared.Cost.{Cost}

pub record Joinable (a b : Cost) : Type 0 where
  pub high_fits : a.high + b.high < 2 ^ 64
  pub low_fits : a.low + b.low < 2 ^ 64
  pub moves_fit : a.moves + b.moves < 2 ^ 64
