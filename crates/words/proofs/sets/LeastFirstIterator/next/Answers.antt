-- The next member meets its contract: it is the least, and the others are left.
use mathlib.Core.Path.{ap}
use native.Mathlib.Omega.{arith}
use lib.ListN.{length}
use Rattle.words.proofs.Members.{members_none, members_lowest}
use Rattle.words.proofs.sets.LeastFirstIterator.next.Goals as goal

pub returns-then-self-eq0-clause-steps : goal.returns-then-self-eq0-clause-steps
returns-then-self-eq0-clause-steps c =
    rw c.if-self-eq0.true (members_none, members_none)

pub returns-clause-steps : goal.returns-clause-steps
returns-clause-steps c =
    members_lowest 64 c.args.self.now.left (omega arith) (omega (arith, c.if-self-eq0.false))

pub returns-clause-goes : goal.returns-clause-goes
returns-clause-goes c =
    let lowest = members_lowest 64 c.args.self.now.left (omega arith) (omega (arith, c.if-self-eq0.false)) in
    record { on = λ f. (tt, tt, omega (arith, ap length lowest)); keeps = tt; rests = λ f. tt }
