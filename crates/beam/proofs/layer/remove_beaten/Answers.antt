-- `beam::layer::remove_beaten` meets its contract. The invariant: what is left, without those that the child beats, is the same; the measure is how many are left.
use Prim.Native.Nat.{ℕ, ◌*◌, ◌-◌, ◌≤◌, ◌<◌}
use mathlib.Core.Path.{◌≡◌, sym, ◌∙◌}
use mathlib.Core.Bool.{true}
use mathlib.Core.List.{List, ◌++◌}
use native.Mathlib.Omega.{arith}
use lib.ListN.{length}
use Rattle.beam_index.specs.Links.{Found}
use Rattle.beam.specs.Nodes.{state_words}
use Rattle.beam.specs.Buckets.{bucket_of}
use Rattle.beam.specs.Parts.{sought}
use Rattle.beam.specs.Layers.{slots_of, order_of, links_of, kept_of, Indexed, unbeaten}
use Rattle.beam.proofs.Written.{child_state_lem}
use Rattle.beam.proofs.Removals.{Beaten, beaten_one, beaten_none, some_used}
use Rattle.beam.proofs.layer.remove_beaten.Goals as goal

-- what is left, without those that the child beats, is the same
record Removing (bytes outline : List ℕ) (w n k : ℕ) (words₀ child words : List ℕ) (left link : ℕ) : Type 0 where
  fewer : left ≤ n
  long_same : length words ≡ length words₀
  held : Indexed outline w left words
  found : Found (links_of w words) w k (sought bytes (slots_of w words) child true) link
  same : unbeaten bytes child (kept_of w words left) ≡ unbeaten bytes child (kept_of w words₀ n)

pub remove_slot-requires : goal.remove_slot-requires
remove_slot-requires c =
    let child : List ℕ = c.args.header.now ++ c.args.state.now in
    let one : (let a = c.args in Beaten a.model.now a.outline.now a.w (4 * a.w) c.loop-link.left (slots_of a.w c.loop-link.layer) (order_of a.w c.loop-link.layer) a.k (child) (c.loop-link.link - 1)) = let args = c.args in
    beaten_one args.model.now c.loop-link.invariant.held.parts args.k (child) c.loop-link.link c.loop-link.invariant.found c.loop-link-test.true in
    record {
      held = c.loop-link.invariant.held;
      slot = omega (arith, c.loop-link-test.true, c.loop-link.invariant.found.within);
      in_use = (one).in_use;
      is_in_range = c.requires.0.is_in_range;
      own_bucket = (one).in_bucket_lem;
    }

pub overflow_sub-left : goal.overflow_sub-left
overflow_sub-left c =
    let child : List ℕ = c.args.header.now ++ c.args.state.now in
    let one : (let a = c.args in Beaten a.model.now a.outline.now a.w (4 * a.w) c.loop-link.left (slots_of a.w c.loop-link.layer) (order_of a.w c.loop-link.layer) a.k (child) (c.loop-link.link - 1)) = let args = c.args in
    beaten_one args.model.now c.loop-link.invariant.held.parts args.k (child) c.loop-link.link c.loop-link.invariant.found c.loop-link-test.true in
    let some : 0 < c.loop-link.left = some_used (order_of c.args.w c.loop-link.layer) c.loop-link.left (c.loop-link.link - 1) (one).in_use in
    some

pub loop-link-smaller : goal.loop-link-smaller
loop-link-smaller c =
    let child : List ℕ = c.args.header.now ++ c.args.state.now in
    let one : (let a = c.args in Beaten a.model.now a.outline.now a.w (4 * a.w) c.loop-link.left (slots_of a.w c.loop-link.layer) (order_of a.w c.loop-link.layer) a.k (child) (c.loop-link.link - 1)) = let args = c.args in
    beaten_one args.model.now c.loop-link.invariant.held.parts args.k (child) c.loop-link.link c.loop-link.invariant.found c.loop-link-test.true in
    let some : 0 < c.loop-link.left = some_used (order_of c.args.w c.loop-link.layer) c.loop-link.left (c.loop-link.link - 1) (one).in_use in
    omega (arith, some)

pub loop-link-preserved : goal.loop-link-preserved
loop-link-preserved c =
    let child : List ℕ = c.args.header.now ++ c.args.state.now in
    let one : (let a = c.args in Beaten a.model.now a.outline.now a.w (4 * a.w) c.loop-link.left (slots_of a.w c.loop-link.layer) (order_of a.w c.loop-link.layer) a.k (child) (c.loop-link.link - 1)) = let args = c.args in
    beaten_one args.model.now c.loop-link.invariant.held.parts args.k (child) c.loop-link.link c.loop-link.invariant.found c.loop-link-test.true in
    let v = c.loop-link.invariant in
    record {
      fewer = omega (arith, v.fewer);
      long_same = c.remove_slot.auto.layer ∙ v.long_same;
      held = c.remove_slot.ensures.held;
      found = c.find_in-link-in-loop-link.ensures;
      same = c.remove_slot.ensures.kept _ (one).beaten ∙ v.same;
    }

pub returns : goal.returns
returns c =
    let child : List ℕ = c.args.header.now ++ c.args.state.now in
    let own_key : bucket_of c.args.outline.now (state_words (child)) (4 * c.args.w) ≡ c.args.k = rw (child_state_lem c.args.header.now c.args.state.now c.requires.0.child) c.requires.0.own_bucket in
    record {
      held = c.loop-link.invariant.held;
      kept = sym (beaten_none c.args.model.now c.loop-link.invariant.held.parts c.args.k (child) c.requires.1 (own_key) c.loop-link.link c.loop-link.invariant.found (omega (arith, c.loop-link-test.false))) ∙ c.loop-link.invariant.same;
    }
