-- `search_runs::rounds` meets its contract. The invariant: the rounds that are left give the run's answer.
use Prim.Native.Nat.{◌+◌, ◌-◌}
use mathlib.Core.Path.{◌≡◌}
use native.Mathlib.Omega.{arith}
use borrow.Author.Rules.{rules}
use Rattle.beam_widths.proofs.Places.{next_inside}
use Rattle.search_runs.proofs.Widening.{widening_first, room, judged_there, widening_more, widening_over, widening_spent}
use Rattle.search_runs.proofs.rounds.Goals as goal

pub loop-round-init : goal.loop-round-init
loop-round-init c =
    let z : c.args.budget + 1 - 0 ≡ c.args.budget + 1 = omega arith in
    rw z (widening_first c.requires.rises c.width_at.ensures (search rules) c.begin-progress.ensures)

pub judged_round-x-requires : goal.judged_round-x-requires
judged_round-x-requires c =
    record {
      outlined = c.requires.outlined;
      room = rw c.width_at-in-loop-round.ensures (room c.loop-round.invariant c.requires.rises c.requires.room);
      root_fits = c.requires.root_fits;
      best_fits = c.loop-round.invariant.best_fits;
    }

pub width_at-requires-in-Ok : goal.width_at-requires-in-Ok
width_at-requires-in-Ok c =
    let inv = c.loop-round.invariant in
    rw c.next_place-place.ensures (next_inside c.args.widths.now _ inv.inside)

pub loop-round-preserved : goal.loop-round-preserved
loop-round-preserved c =
    let inv = c.loop-round.invariant in
    let one_less : c.args.budget + 1 - (c.loop-round._round + 1) ≡ c.args.budget + 1 - c.loop-round._round - 1 = omega arith in
    rw one_less
    (widening_more inv (omega arith) (judged_there inv c.width_at-in-loop-round.ensures c.judged_round-x.ensures) c.in-Ok.is
    c.next_place-place.ensures c.width_at-in-Ok.ensures c.begin-progress-in-Ok.ensures (search rules) (search rules))

pub returns-in-Err : goal.returns-in-Err
returns-in-Err c =
    let inv = c.loop-round.invariant in
    widening_over inv c.requires.rises (omega arith) (judged_there inv c.width_at-in-loop-round.ensures c.judged_round-x.ensures) c.in-Err.is

pub returns : goal.returns
returns c =
    widening_spent c.loop-round.invariant c.requires.rises (omega arith)
