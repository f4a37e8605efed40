-- `profile::transitions::all_load` meets its contract. The invariant: the transitions passed load.
use Prim.Native.Nat.{◌<◌}
use mathlib.Core.Path.{◌≡◌, sym, ◌∙◌}
use native.Mathlib.Omega.{arith}
use lib.ListN.{length}
use Rattle.outline.specs.Outline.{model_of}
use Rattle.profile.proofs.Outlined.{StandsAt, stands_at, loading_more, loading_fails, loading_last}
use Rattle.profile.proofs.transitions.all_load.Goals as goal

pub loads-requires : goal.loads-requires
loads-requires c =
    let counted : c.word_at-all.result ≡ length (model_of c.args.model.now).transitions = c.word_at-all.ensures ∙ c.requires.outlines.transition_count in
    let more : c.loop-t.t < length (model_of c.args.model.now).transitions = omega (arith, c.loop-t-test.true, counted) in
    let item : StandsAt c.args.model.now c.loop-t.t c.word_at.result = stands_at _ c.requires.outlines (more) c.word_at.ensures in
    let i = item in
    record { stands = record { item = i.item; used = i.used; reads = i.reads }; begins = c.requires.begins }

pub loop-t-preserved : goal.loop-t-preserved
loop-t-preserved c =
    let counted : c.word_at-all.result ≡ length (model_of c.args.model.now).transitions = c.word_at-all.ensures ∙ c.requires.outlines.transition_count in
    let more : c.loop-t.t < length (model_of c.args.model.now).transitions = omega (arith, c.loop-t-test.true, counted) in
    let item : StandsAt c.args.model.now c.loop-t.t c.word_at.result = stands_at _ c.requires.outlines (more) c.word_at.ensures in
    loading_more _ _ _ c.loop-t.invariant (item) c.loads.ensures c.if-not-loads.false

pub returns-then-not-loads : goal.returns-then-not-loads
returns-then-not-loads c =
    let counted : c.word_at-all.result ≡ length (model_of c.args.model.now).transitions = c.word_at-all.ensures ∙ c.requires.outlines.transition_count in
    let more : c.loop-t.t < length (model_of c.args.model.now).transitions = omega (arith, c.loop-t-test.true, counted) in
    let item : StandsAt c.args.model.now c.loop-t.t c.word_at.result = stands_at _ c.requires.outlines (more) c.word_at.ensures in
    sym (loading_fails _ _ _ c.loop-t.invariant (item) c.loads.ensures c.if-not-loads.true)

pub returns : goal.returns
returns c =
    let counted : c.word_at-all.result ≡ length (model_of c.args.model.now).transitions = c.word_at-all.ensures ∙ c.requires.outlines.transition_count in
    sym (loading_last _ c.loop-t.t c.loop-t.invariant (omega (arith, c.loop-t-test.false, counted)))
