-- `search_rounds::ends::raised` meets its contract.
use Prim.Native.Nat.{◌*◌, ◌<◌}
use mathlib.Core.Path.{sym, ◌∙◌}
use native.Mathlib.Omega.{arith}
use lib.ListN.{get_or}
use Rattle.beam_order.specs.Slots.{order_at}
use Rattle.search_rounds.proofs.Ending.{raises_marked, raises_none, raises_first, raises_not, first_below}
use Rattle.search_rounds.proofs.ends.raised.Goals as goal
use Rattle.search_rounds.proofs.ends.raised.Goals.{then-marked-via-then-marked, then-marked-via-else-marked+then-count-eq0}

pub returns-then-marked : goal.returns-then-marked
returns-then-marked c =
    elim c.then-marked.branch [
      | then-marked-via-then-marked w ↦ raises_marked _ _ _ _ _ w.if-marked.true
      | then-marked-via-else-marked+then-count-eq0 w ↦ raises_none _ _ _ _ _ w.if-count-eq0.true
    ]

pub overflow_mul-slot-2 : goal.overflow_mul-slot-2
overflow_mul-slot-2 c =
    let slot : (let a = c.args in get_or a.layer.now (order_at * a.w) 0 < a.w) = first_below c.requires.0 (omega (arith, c.if-count-eq0.false)) in
    record { fits = omega (arith, slot, c.requires.1) }

pub f_in-f-requires : goal.f_in-f-requires
f_in-f-requires c =
    let slot : (let a = c.args in get_or a.layer.now (order_at * a.w) 0 < a.w) = first_below c.requires.0 (omega (arith, c.if-count-eq0.false)) in
    omega (arith, slot, c.requires.0.long)

pub returns-then-at_most : goal.returns-then-at_most
returns-then-at_most c =
    raises_not c.requires.0 _ _ c.if-marked.false (omega (arith, c.if-count-eq0.false)) c.f_in-f.ensures (sym c.if-at_most.true ∙ c.at_most.ensures)

pub returns-else-at_most : goal.returns-else-at_most
returns-else-at_most c =
    raises_first c.requires.0 _ _ c.if-marked.false (omega (arith, c.if-count-eq0.false)) c.f_in-f.ensures (sym c.if-at_most.false ∙ c.at_most.ensures)
