-- `search_paths::trace::trace` meets its contract. The invariant: the steps left to follow, and those written, are the path.
use Prim.Native.Nat.{◌+◌, ◌-◌, ◌%◌}
use mathlib.Core.Path.{◌≡◌, sym, ap, ◌∙◌}
use native.Mathlib.Omega.{arith}
use lib.ListN.{length-set}
use Rattle.search_paths.specs.Routes.{back_in}
use Rattle.search_paths.proofs.Tracing.{step_on, all_written}
use Rattle.search_paths.proofs.trace.trace.Goals as goal

pub loop-left-preserved : goal.loop-left-preserved
loop-left-preserved c =
    let same : c.loop-left.left - 1 + 1 ≡ c.loop-left.left = omega arith in (
      omega arith,
      (
        length-set c.loop-left.plan (c.loop-left.left - 1) (c.back_at-back.result % 256) ∙ c.loop-left.invariant.1.0,
        step_on c.args.words.now c.args.w c.loop-left.left c.loop-left.slot c.back_at-back.result c.loop-left.plan c.loop-left-test.true
            (omega (arith, c.loop-left.invariant.0, c.loop-left.invariant.1.0, c.requires.room))
            (c.back_at-back.ensures ∙ ap (λ n. back_in c.args.words.now c.args.w n c.loop-left.slot) same) c.loop-left.invariant.1.1,
      ),
    )

pub returns : goal.returns
returns c =
    sym (c.loop-left.invariant.1.1 ∙ all_written c.args.words.now c.args.w c.loop-left.left c.loop-left.slot c.loop-left.plan c.loop-left-test.false)
