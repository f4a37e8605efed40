-- `month::plan_bytes` hands on the numbers of the search at the programs' settings.
use Rattle.std.proofs.Common.{refl}
use Rattle.month.proofs.Taken.{planned_numbers}
use Rattle.month.proofs.plan_bytes.Goals as goal

pub returns : goal.returns
returns g c = planned_numbers _ _ _ _ c.plan_model-answer.ensures refl c.fields.ensures
