-- `steps::hashes::hash` meets its contract. The invariant: mixing in the variables left comes to the same.
use Prim.Native.Nat.{ℕ, ◌+◌, ◌-◌}
use mathlib.Core.Path.{sym, ap, ◌∙◌}
use native.Mathlib.Omega.{arith}
use Rattle.steps.specs.Hashes.{mix_from, hash_of}
use Rattle.steps.proofs.Hashing.{mix_more, mix_end}
use Rattle.steps.proofs.hashes.hash.Goals as goal

pub loop-v-preserved : goal.loop-v-preserved
loop-v-preserved c =
    let args = c.args in (
      omega arith,
      ap (mix_from args.outline.now args.state.now (c.word_at-count.result - (c.loop-v.v + 1)) (c.loop-v.v + 1)) c.mix_at-m.ensures
          ∙ mix_more args.outline.now args.state.now c.word_at-count.result c.loop-v.v c.loop-v.m c.loop-v-test.true
          ∙ c.loop-v.invariant.1,
    )

pub returns : goal.returns
unfolding hash_of
returns c =
    let args = c.args in
    sym (mix_end args.outline.now args.state.now c.word_at-count.result c.loop-v.v c.loop-v.m c.loop-v-test.false) ∙ c.loop-v.invariant.1 ∙ ap (λ (k : ℕ). mix_from args.outline.now args.state.now k 0 1) c.word_at-count.ensures
