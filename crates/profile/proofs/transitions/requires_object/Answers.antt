-- `profile::transitions::requires_object` meets its contract. The invariant: the conditions before the place do not require the object.
use Prim.Native.Nat.{ℕ, ◌+◌, ◌-◌, ◌≤◌, ◌<◌}
use mathlib.Core.Path.{◌≡◌, sym, ap, ◌∙◌}
use mathlib.Core.List.{List}
use native.Mathlib.Omega.{arith}
use lib.ListN.{length, get_or, drop}
use Rattle.laws.proofs.Lists.{byte_inside}
use Rattle.eval_sets.specs.Forms.{span}
use Rattle.profile.specs.Forms.{object_in}
use Rattle.profile.proofs.Walks.{span_left, walking_first, requires_none, requires_here, requires_later}
use Rattle.profile.proofs.transitions.requires_object.Goals as goal

pub loop-e-init : goal.loop-e-init
loop-e-init c =
    walking_first _ _ _

pub returns-then-object_in-object : goal.returns-then-object_in-object
returns-then-object_in-object c =
    let here : get_or c.args.model.now c.loop-e.next 0 ≡ 8 = sym c.byte_at.ensures ∙ c.loop-e-test.true in
    let object : c.object_in.result ≡ object_in 0x54 (drop (c.loop-e.next + 1) c.args.model.now) = c.object_in.ensures ∙ ap (object_in 0x54) c.after-e.ensures in
    requires_here _ _ _ _ c.loop-e.invariant (here) (sym (object) ∙ c.if-object_in-object.true)

pub overflow_add-next-in-loop-e-2 : goal.overflow_add-next-in-loop-e-2
overflow_add-next-in-loop-e-2 c =
    let here : get_or c.args.model.now c.loop-e.next 0 ≡ 8 = sym c.byte_at.ensures ∙ c.loop-e-test.true in
    let inside : c.loop-e.next < length c.args.model.now = byte_inside c.args.model.now c.loop-e.next 8 (omega arith) (here) in
    let passed : c.skip.result ≡ span (drop (c.loop-e.next + 1) c.args.model.now) 0 1 = c.skip.ensures ∙ ap (λ (e : List ℕ). span e 0 1) c.after-e.ensures in
    let within : c.skip.result ≤ length c.args.model.now - (c.loop-e.next + 1) = omega (arith, passed, span_left c.args.model.now (c.loop-e.next + 1)) in
    record { fits = omega (arith, inside, within) }

pub loop-e-preserved : goal.loop-e-preserved
loop-e-preserved c =
    let passed : c.skip.result ≡ span (drop (c.loop-e.next + 1) c.args.model.now) 0 1 = c.skip.ensures ∙ ap (λ (e : List ℕ). span e 0 1) c.after-e.ensures in
    let here : get_or c.args.model.now c.loop-e.next 0 ≡ 8 = sym c.byte_at.ensures ∙ c.loop-e-test.true in
    let object : c.object_in.result ≡ object_in 0x54 (drop (c.loop-e.next + 1) c.args.model.now) = c.object_in.ensures ∙ ap (object_in 0x54) c.after-e.ensures in
    rw (passed) (requires_later _ _ _ _ c.loop-e.invariant (here) (λ e. c.if-object_in-object.false (object ∙ e)))

pub returns : goal.returns
returns c =
    requires_none _ _ _ _ c.loop-e.invariant (λ e. c.loop-e-test.false (c.byte_at.ensures ∙ e))
