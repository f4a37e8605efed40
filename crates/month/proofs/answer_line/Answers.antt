-- `month::answer_line`: only a line that is a name is opened.
use Rattle.std.proofs.lemmas.Result.{IfOk-weaker}
use Rattle.month.proofs.Taken.{line_named, line_unusable}
use Rattle.month.proofs.answer_line.Goals as goal

pub returns-in-Some : goal.returns-in-Some
returns-in-Some g c = IfOk-weaker c.plan_named.result _ _ (λ x says. line_named _ x c.in-Some.ensures says) c.plan_named.ensures

pub returns-in-None : goal.returns-in-None
returns-in-None g c = IfOk-weaker c.refuse.result _ _ (λ x e. line_unusable _ x c.in-None.ensures e) c.refuse.ensures
