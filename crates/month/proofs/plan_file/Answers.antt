-- `month::plan_file` plans what was read.
use Rattle.std.proofs.lemmas.Result.{IfOk-weaker}
use Rattle.month.specs.Taking.{planned}
use Rattle.month.proofs.plan_file.Goals as goal

pub returns-in-Ok : goal.returns-in-Ok
returns-in-Ok g c = IfOk-weaker c.plan_bytes.result _ _ (λ x is. planned _ is) c.plan_bytes.ensures
