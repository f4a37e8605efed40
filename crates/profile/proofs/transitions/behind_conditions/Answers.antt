-- `profile::transitions::behind_conditions` meets its contract. The invariant: the conditions before the place are passed.
use Prim.Native.Nat.{ℕ, ◌+◌, ◌-◌, ◌≤◌, ◌<◌}
use mathlib.Core.Path.{◌≡◌, refl, sym, ap, ◌∙◌}
use mathlib.Core.List.{List}
use native.Mathlib.Omega.{arith}
use lib.ListN.{length, get_or, drop}
use Rattle.laws.proofs.Lists.{byte_inside}
use Rattle.eval_sets.specs.Forms.{span}
use Rattle.profile.proofs.Walks.{span_left, walking_first, walking_more, passed_all}
use Rattle.profile.proofs.transitions.behind_conditions.Goals as goal

pub loop-behind-init : goal.loop-behind-init
loop-behind-init c =
    walking_first _ _ _

pub overflow_add-behind-in-loop-behind-2 : goal.overflow_add-behind-in-loop-behind-2
overflow_add-behind-in-loop-behind-2 c =
    let here : get_or c.args.model.now c.loop-behind.behind 0 ≡ 8 = sym c.byte_at.ensures ∙ c.loop-behind-test.true in
    let inside : c.loop-behind.behind < length c.args.model.now = byte_inside c.args.model.now c.loop-behind.behind 8 (omega arith) (here) in
    let passed : c.skip.result ≡ span (drop (c.loop-behind.behind + 1) c.args.model.now) 0 1 = c.skip.ensures ∙ ap (λ (e : List ℕ). span e 0 1) c.after.ensures in
    let within : c.skip.result ≤ length c.args.model.now - (c.loop-behind.behind + 1) = omega (arith, passed, span_left c.args.model.now (c.loop-behind.behind + 1)) in
    record { fits = omega (arith, inside, within) }

pub loop-behind-preserved : goal.loop-behind-preserved
loop-behind-preserved c =
    let passed : c.skip.result ≡ span (drop (c.loop-behind.behind + 1) c.args.model.now) 0 1 = c.skip.ensures ∙ ap (λ (e : List ℕ). span e 0 1) c.after.ensures in
    let here : get_or c.args.model.now c.loop-behind.behind 0 ≡ 8 = sym c.byte_at.ensures ∙ c.loop-behind-test.true in
    rw (passed) (walking_more _ _ _ _ c.loop-behind.invariant (here) (λ d ds f. refl))

pub returns : goal.returns
returns c =
    passed_all _ _ _ c.loop-behind.invariant (λ e. c.loop-behind-test.false (c.byte_at.ensures ∙ e))
