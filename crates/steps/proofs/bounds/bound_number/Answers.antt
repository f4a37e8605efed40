-- `steps::bounds::bound_number` meets its contract: in place, along a cursor with the sum that it has inside, or by the evaluators.
use Prim.Native.Nat.{◌+◌}
use mathlib.Core.Path.{sym, ◌∙◌}
use native.Mathlib.Omega.{arith}
use borrow.Author.Tests.{ltb-true}
use lib.Signed.{mag}
use mir.Syntax.{w64}
use mir.Val.{SFits}
use Rattle.model.specs.Numbers.{range_end}
use Rattle.words.proofs.Integers.{back}
use Rattle.nested.proofs.Waiting.{total_is}
use Rattle.quick.specs.Sums.{bound_place}
use Rattle.steps.specs.Says.{InnerPlace}
use Rattle.steps.proofs.Trials.{bound_at, bound_in_place, bound_evaluated}
use Rattle.steps.proofs.bounds.bound_number.Goals as goal

pub returns-then-in_range : goal.returns-then-in_range
returns-then-in_range c =
    let f : SFits w64 c.bound_sum-z.result = record { sfits = c.bound_sum-z.type_inv } in
    let small = ltb-true (mag c.bound_sum-z.result) range_end (rw (back f) at (sym c.in_range.ensures ∙ c.if-in_range.true)) in
    rw (back f) (bound_in_place c.requires.0 c.args.state.now c.args.k c.bound_sum-z.result c.bound_sum-z.ensures.0 small, c.bound_sum-z.ensures.1)

pub inner_place-place-requires : goal.inner_place-place-requires
inner_place-place-requires c =
    (bound_at c.requires.0 c.requires.2 c.word_at-at.ensures).inside

pub number_knowing-requires : goal.number_knowing-requires
number_knowing-requires c =
    let a = c.args in
    let z = c.inner_sum-inner.result in
    let f : SFits w64 z = record { sfits = c.inner_sum-inner.type_inv } in
    let told : InnerPlace a.model.now (bound_place a.outline.now a.k) z c.inner_place-place.result = rw (back f, c.word_at-at.ensures) at c.inner_place-place.ensures in
    rw (back f) (
      c.requires.0,
      (bound_at c.requires.0 c.requires.2 c.word_at-at.ensures).inside,
      λ l. let here = told l in
          let is = c.inner_sum-inner.ensures.0 here.1 in
          rw here.0
          (total_is a.model.now a.outline.now a.state.now (bound_place a.outline.now a.k + 14) z (record { inside = is.form.inside; near = omega (arith, is.form.inside, c.well_formed) }) is.form is.total here.1),
      c.inner_sum-inner.ensures.1,
    )

pub returns : goal.returns
returns c =
    let says = rw c.word_at-at.ensures at c.number_knowing.ensures in
    (bound_evaluated c.requires.0 c.args.state.now c.args.k c.number_knowing.result says.0 says.1, says.2)
