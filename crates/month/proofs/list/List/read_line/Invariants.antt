-- `month::list::List::read_line`: what came so far is in the line.
use Rattle.month.specs.Taking.{LineSays}
use Rattle.month.proofs.list.List.read_line.Given as goal

abbrev pub invariant-loop : goal.invariant-loop
invariant-loop g l = LineSays l.line
