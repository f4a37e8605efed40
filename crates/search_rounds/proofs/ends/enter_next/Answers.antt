-- `search_rounds::ends::enter_next` meets its contract.
use native.Mathlib.Omega.{arith}
use Rattle.search_rounds.proofs.Passing.{stops_at_limit, stops_at_none, stops_improved, moves}
use Rattle.search_rounds.proofs.ends.enter_next.Goals as goal
use Rattle.search_rounds.proofs.ends.enter_next.Goals.{then-k-limit-via-then-k-limit, then-k-limit-via-else-k-limit+then-round-eq0, then-k-limit-via-else-k-limit+else-round-eq0+then-round}

pub returns-then-k-limit : goal.returns-then-k-limit
returns-then-k-limit c =
    let layer = c.requires.layer in
    elim c.then-k-limit.branch [
      | then-k-limit-via-then-k-limit w ↦ stops_at_limit _ _ c.args.limit c.args.k _ layer (omega (arith, w.if-k-limit.true))
      | then-k-limit-via-else-k-limit+then-round-eq0 w ↦ stops_at_none _ _ _ _ _ layer w.if-round-eq0.true
      | then-k-limit-via-else-k-limit+else-round-eq0+then-round w ↦ stops_improved _ _ _ _ _ layer w.if-round.true
    ]

pub returns : goal.returns
returns c =
    moves _ _ _ _ _ _ c.requires.layer (omega (arith, c.requires.depth))
    (omega arith) c.if-round.false c.next_layer.ensures
