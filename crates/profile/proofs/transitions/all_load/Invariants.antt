-- `profile::transitions::all_load` meets its contract. The invariant: the transitions passed load.
use Rattle.profile.proofs.Outlined.{Loading}
use Rattle.profile.proofs.transitions.all_load.Given as goal

abbrev pub invariant-loop-t : goal.invariant-loop-t
invariant-loop-t l = Loading l.model l.t
