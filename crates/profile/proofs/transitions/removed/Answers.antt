-- `profile::transitions::removed` meets its contract. The invariant: what the effects before the place remove.
use Prim.Native.Nat.{ℕ, ◌+◌, ◌-◌, ◌≤◌, ◌<◌}
use mathlib.Core.Path.{◌≡◌, sym, ap, ◌∙◌}
use mathlib.Core.List.{List}
use native.Mathlib.Omega.{arith}
use lib.ListN.{length, get_or, drop}
use Rattle.laws.proofs.Lists.{byte_inside}
use Rattle.eval_sets.specs.Forms.{span}
use Rattle.profile.specs.Forms.{object_in}
use Rattle.profile.proofs.Walks.{span_left}
use Rattle.profile.proofs.Removing.{removing_first, removing_other, removing_one, removing_two, removing_last}
use Rattle.profile.proofs.transitions.removed.Goals.{then-target-eq0+else-seen, else-target-eq0}
use Rattle.profile.proofs.transitions.removed.Goals as goal

pub loop-e-init : goal.loop-e-init
loop-e-init c =
    removing_first _ _

pub returns-then-seen : goal.returns-then-seen
returns-then-seen c =
    let here : get_or c.args.model.now c.loop-e.next 0 ≡ 10 = sym c.byte_at.ensures ∙ c.loop-e-test.true in
    removing_two _ _ _ _ _ c.loop-e.invariant (here) (sym c.byte_at-target.ensures ∙ c.if-target-eq0.true) c.if-seen.true

pub overflow_add-next-in-loop-e-3 : goal.overflow_add-next-in-loop-e-3
overflow_add-next-in-loop-e-3 c =
    let here : get_or c.args.model.now c.loop-e.next 0 ≡ 10 = sym c.byte_at.ensures ∙ c.loop-e-test.true in
    let inside : c.loop-e.next < length c.args.model.now = byte_inside c.args.model.now c.loop-e.next 10 (omega arith) (here) in
    let passed : c.skip-used.result ≡ span (drop (c.loop-e.next + 2) c.args.model.now) 0 1 = c.skip-used.ensures ∙ ap (λ (e : List ℕ). span e 0 1) c.after-e.ensures in
    let within : c.skip-used.result ≤ length c.args.model.now - (c.loop-e.next + 2) = omega (arith, passed, span_left c.args.model.now (c.loop-e.next + 2)) in
    let more : c.loop-e.next + 2 + c.skip-used.result ≤ length c.args.model.now + 1 = omega (arith, inside, within) in
    record { fits = omega (arith, more) }

pub loop-e-preserved : goal.loop-e-preserved
loop-e-preserved c =
    let passed : c.skip-used.result ≡ span (drop (c.loop-e.next + 2) c.args.model.now) 0 1 = c.skip-used.ensures ∙ ap (λ (e : List ℕ). span e 0 1) c.after-e.ensures in
    let here : get_or c.args.model.now c.loop-e.next 0 ≡ 10 = sym c.byte_at.ensures ∙ c.loop-e-test.true in
    elim c.if-target-eq0.branch [
      | then-target-eq0+else-seen w ↦
          let object : w.object_in-object.result ≡ object_in 0x43 (drop (c.loop-e.next + 2) c.args.model.now) = w.object_in-object.ensures ∙ ap (object_in 0x43) c.after-e.ensures in
          rw (passed, w.seen-is, w.object-is, object)
          (removing_one _ _ _ _ _ c.loop-e.invariant (here) (sym c.byte_at-target.ensures ∙ w.if-target-eq0.true) c.requires w.if-seen.false)
      | else-target-eq0 w ↦
          rw (passed, w.seen-is, w.object-is)
          (removing_other _ _ _ _ _ c.loop-e.invariant (here) (λ e. w.if-target-eq0.false (c.byte_at-target.ensures ∙ e)))
    ]

pub returns : goal.returns
returns c =
    removing_last _ _ _ _ _ c.loop-e.invariant (λ e. c.loop-e-test.false (c.byte_at.ensures ∙ e))
