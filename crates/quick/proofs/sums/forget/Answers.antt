-- `quick::sums::forget` meets its contract.
use Rattle.quick.proofs.Memory.{forgotten}
use Rattle.quick.proofs.sums.forget.Goals as goal

pub returns : goal.returns
returns c =
    forgotten
