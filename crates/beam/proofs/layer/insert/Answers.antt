-- `beam::layer::insert` meets its contract. By the four ways of Cases.
use Prim.Native.Nat.{ℕ, ◌*◌}
use mathlib.Core.Path.{◌≡◌, sym, ◌∙◌}
use mathlib.Core.Bool.{false}
use mathlib.Core.List.{List, ◌++◌}
use native.Mathlib.Omega.{arith}
use Rattle.laws.specs.Lists.{any}
use Rattle.beam.specs.Nodes.{state_words, ChildWords, beats}
use Rattle.beam.specs.Buckets.{bucket_of}
use Rattle.beam.specs.Layers.{kept_of, Keeping, unbeaten}
use Rattle.beam.proofs.Written.{child_state_lem}
use Rattle.beam.proofs.Layers.{child_earlier}
use Rattle.beam.proofs.Removals.{beating_none, beating_one}
use Rattle.beam.proofs.Moves.{layer_of, width_positive}
use Rattle.beam.proofs.Cases.{full, dropped, roomed, last_cut, child_cut}
use Rattle.beam.proofs.layer.insert.Goals as goal

pub returns-then-find_in-gt0 : goal.returns-then-find_in-gt0
returns-then-find_in-gt0 c =
    let child : List ℕ = c.args.header.now ++ c.args.state.now in
    let both : ChildWords c.args.header.now c.args.state.now = record { header_long = c.requires.1.1; state_long = c.bucket-arg-1.given } in
    let own_key : bucket_of c.args.outline.now (state_words (child)) (4 * c.args.width) ≡ c.bucket-k.result = rw (child_state_lem c.args.header.now c.args.state.now (both)) (sym c.bucket-k.ensures.1) in
    dropped c.requires.0
    (beating_one c.args.model.now c.requires.0.parts c.bucket-k.result (child) c.requires.1.0 (own_key)
    c.find_in.result c.find_in.ensures c.if-find_in-gt0.true)

pub returns-then-m-width : goal.returns-then-m-width
returns-then-m-width c =
    let child : List ℕ = c.args.header.now ++ c.args.state.now in
    let both : ChildWords c.args.header.now c.args.state.now = record { header_long = c.requires.1.1; state_long = c.bucket-arg-1.given } in
    let own_key : bucket_of c.args.outline.now (state_words (child)) (4 * c.args.width) ≡ c.bucket-k.result = rw (child_state_lem c.args.header.now c.args.state.now (both)) (sym c.bucket-k.ensures.1) in
    let free : (any (λ m. beats c.args.model.now m (child)) (kept_of c.args.width c.args.layer.now c.args.n) ≡ false) = beating_none c.args.model.now c.requires.0.parts c.bucket-k.result (child) c.requires.1.0 (own_key)
    c.find_in.result c.find_in.ensures (omega (arith, c.if-find_in-gt0.false)) in
    let left : (Keeping c.args.outline.now c.args.width c.remove_beaten-m.result c.remove_beaten-m.new.layer (unbeaten c.args.model.now (child) (kept_of c.args.width c.args.layer.now c.args.n))) = c.remove_beaten-m.ensures in
    roomed c.args.model.now c.args.width c.args.n c.args.layer.now (child) (free) c.remove_beaten-m.new.layer c.add_child.new.layer (left)
    c.if-m-width.true c.add_child.ensures

pub before_last-requires : goal.before_last-requires
before_last-requires c =
    let child : List ℕ = c.args.header.now ++ c.args.state.now in
    let left : (Keeping c.args.outline.now c.args.width c.remove_beaten-m.result c.remove_beaten-m.new.layer (unbeaten c.args.model.now (child) (kept_of c.args.width c.args.layer.now c.args.n))) = c.remove_beaten-m.ensures in
    let left-full : (Keeping c.args.outline.now c.args.width c.args.width c.remove_beaten-m.new.layer (unbeaten c.args.model.now (child) (kept_of c.args.width c.args.layer.now c.args.n))) = full (left) c.if-m-width.false in
    let held = (left-full).held in
    (width_positive held, (layer_of held, c.requires.1.1))

pub returns-then-before_last : goal.returns-then-before_last
returns-then-before_last c =
    let child : List ℕ = c.args.header.now ++ c.args.state.now in
    let both : ChildWords c.args.header.now c.args.state.now = record { header_long = c.requires.1.1; state_long = c.bucket-arg-1.given } in
    let own_key : bucket_of c.args.outline.now (state_words (child)) (4 * c.args.width) ≡ c.bucket-k.result = rw (child_state_lem c.args.header.now c.args.state.now (both)) (sym c.bucket-k.ensures.1) in
    let free : (any (λ m. beats c.args.model.now m (child)) (kept_of c.args.width c.args.layer.now c.args.n) ≡ false) = beating_none c.args.model.now c.requires.0.parts c.bucket-k.result (child) c.requires.1.0 (own_key)
    c.find_in.result c.find_in.ensures (omega (arith, c.if-find_in-gt0.false)) in
    let left : (Keeping c.args.outline.now c.args.width c.remove_beaten-m.result c.remove_beaten-m.new.layer (unbeaten c.args.model.now (child) (kept_of c.args.width c.args.layer.now c.args.n))) = c.remove_beaten-m.ensures in
    let left-full : (Keeping c.args.outline.now c.args.width c.args.width c.remove_beaten-m.new.layer (unbeaten c.args.model.now (child) (kept_of c.args.width c.args.layer.now c.args.n))) = full (left) c.if-m-width.false in
    last_cut c.args.model.now c.args.width c.args.n c.args.layer.now (child) (free) c.remove_beaten-m.new.layer (left-full)
    c.replace_last.new.layer (child_earlier _ _ c.args.header.now c.args.state.now c.requires.1.1 _ ∙ sym c.before_last.ensures ∙ c.if-before_last.true) c.replace_last.ensures

pub returns : goal.returns
returns c =
    let child : List ℕ = c.args.header.now ++ c.args.state.now in
    let both : ChildWords c.args.header.now c.args.state.now = record { header_long = c.requires.1.1; state_long = c.bucket-arg-1.given } in
    let own_key : bucket_of c.args.outline.now (state_words (child)) (4 * c.args.width) ≡ c.bucket-k.result = rw (child_state_lem c.args.header.now c.args.state.now (both)) (sym c.bucket-k.ensures.1) in
    let free : (any (λ m. beats c.args.model.now m (child)) (kept_of c.args.width c.args.layer.now c.args.n) ≡ false) = beating_none c.args.model.now c.requires.0.parts c.bucket-k.result (child) c.requires.1.0 (own_key)
    c.find_in.result c.find_in.ensures (omega (arith, c.if-find_in-gt0.false)) in
    let left : (Keeping c.args.outline.now c.args.width c.remove_beaten-m.result c.remove_beaten-m.new.layer (unbeaten c.args.model.now (child) (kept_of c.args.width c.args.layer.now c.args.n))) = c.remove_beaten-m.ensures in
    let left-full : (Keeping c.args.outline.now c.args.width c.args.width c.remove_beaten-m.new.layer (unbeaten c.args.model.now (child) (kept_of c.args.width c.args.layer.now c.args.n))) = full (left) c.if-m-width.false in
    child_cut c.args.model.now c.args.width c.args.n c.args.layer.now (child) (free) c.remove_beaten-m.new.layer (left-full)
    (child_earlier _ _ c.args.header.now c.args.state.now c.requires.1.1 _ ∙ sym c.before_last.ensures ∙ c.if-before_last.false)
