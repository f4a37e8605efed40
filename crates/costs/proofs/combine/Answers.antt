-- `costs::combine` meets its contract.
use native.Mathlib.Omega.{arith}
use borrow.Author.Rules.{rules}
use Rattle.costs.proofs.Rules.{by_sum, by_second, by_first}
use Rattle.costs.proofs.combine.Goals.{then-at_most, else-at_most}
use Rattle.costs.proofs.combine.Goals as goal

pub returns-then-rule-eq0 : goal.returns-then-rule-eq0
returns-then-rule-eq0 c =
    by_sum _ _ _ (omega arith)

pub returns : goal.returns
returns c =
    elim c.if-at_most.branch [
      | then-at_most w ↦ rw w.larger-is (by_second _ _ _ _ (omega arith) (search rules) cc)
      | else-at_most w ↦ rw w.larger-is (by_first _ _ _ _ (omega arith) (search rules) cc)
    ]
