-- `search_rounds::round` meets its contract. The invariant: what is left of the round is what was left in its first layer.
use Prim.Native.Nat.{ℕ}
use mathlib.Core.Path.{◌≡◌, refl, ap, ◌∙◌}
use native.Mathlib.Omega.{arith}
use Rattle.std.specs.Prelude as P
use Rattle.std.specs.Prelude.{Some, None, Ok}
use Rattle.search_rounds.proofs.Rounding.{going_first, going_more, ready_first, round_done, round_over}
use Rattle.search_rounds.proofs.round.Goals as goal

pub loop-nodes-init : goal.loop-nodes-init
loop-nodes-init c =
    going_first (ready_first c.requires c.start_round.ensures) refl

pub pass_layer-x-requires : goal.pass_layer-x-requires
pass_layer-x-requires c =
    let going = c.loop-nodes.invariant in
    (going.ready, (going.none_yet, omega (arith, c.requires.room.words_room, c.start_round.auto.words, going.words_same)))

pub overflow_add-k : goal.overflow_add-k
overflow_add-k c =
    let some_nodes : c.in-Ok-Some.field-0 ≡ Some c.in-Ok-Some.nodes = rw c.in-Ok-Some.is at c.in-Ok-Some.field-0-is in
    let on = c.pass_layer-x.ensures.going_on _ (c.in-Ok-Some.is ∙ ap (λ (o : P.Option ℕ). Ok o) some_nodes) in
    record { fits = omega (arith, on.0, c.requires.room.few_steps) }

pub loop-nodes-preserved : goal.loop-nodes-preserved
loop-nodes-preserved c =
    let some_nodes : c.in-Ok-Some.field-0 ≡ Some c.in-Ok-Some.nodes = rw c.in-Ok-Some.is at c.in-Ok-Some.field-0-is in
    going_more c.loop-nodes.invariant c.pass_layer-x.ensures (c.in-Ok-Some.is ∙ ap (λ (o : P.Option ℕ). Ok o) some_nodes)
    c.pass_layer-x.auto.words c.pass_layer-x.auto.plan

pub loop-nodes-smaller : goal.loop-nodes-smaller
loop-nodes-smaller c =
    let some_nodes : c.in-Ok-Some.field-0 ≡ Some c.in-Ok-Some.nodes = rw c.in-Ok-Some.is at c.in-Ok-Some.field-0-is in
    let on = c.pass_layer-x.ensures.going_on _ (c.in-Ok-Some.is ∙ ap (λ (o : P.Option ℕ). Ok o) some_nodes) in
    omega (arith, on.0)

pub returns-in-Ok-None : goal.returns-in-Ok-None
returns-in-Ok-None c =
    let ends : c.in-Ok-None.field-0 ≡ None = rw c.in-Ok-None.is at c.in-Ok-None.field-0-is in
    round_done c.requires c.start_round.ensures c.loop-nodes.invariant c.pass_layer-x.ensures (c.in-Ok-None.is ∙ ap (λ (o : P.Option ℕ). Ok o) ends)

pub returns-in-Err : goal.returns-in-Err
returns-in-Err c =
    round_over c.requires c.start_round.ensures c.loop-nodes.invariant c.pass_layer-x.ensures c.in-Err.is
