-- `search_paths::current::next_layer` meets its contract. The invariant: the first i nodes are gathered.
use Prim.Native.Nat.{◌+◌, ◌<◌}
use mathlib.Core.Path.{◌≡◌, subst}
use native.Mathlib.Omega.{arith}
use Rattle.beam.proofs.Moves.{few_in}
use Rattle.search_paths.proofs.Gathering.{Gathered, gathered_more, place_inside, still_inside, all_taken}
use Rattle.search_paths.proofs.current.next_layer.Goals as goal

pub take_node-requires : goal.take_node-requires
take_node-requires c =
    let h : c.loop-i.i < c.args.n = c.loop-i-test.true in
    record {
      place = omega (arith, few_in c.requires.layer);
      narrow = c.requires.narrow;
      depth = omega (arith, c.requires.depth);
      room = omega (arith, c.loop-i.invariant.1.long, c.requires.room);
      slot = still_inside c.args.words.now c.requires.layer c.loop-i.words (c.args.k + 1) c.loop-i.i c.loop-i.invariant.1 h;
    }

pub loop-i-preserved : goal.loop-i-preserved
loop-i-preserved c =
    let h : c.loop-i.i < c.args.n = c.loop-i-test.true in (
      omega arith,
      gathered_more c.args.words.now c.loop-i.words c.take_node.new.words c.args.w (c.args.k + 1) c.loop-i.i
          (omega (arith, few_in c.requires.layer)) (place_inside c.args.words.now c.requires.layer c.loop-i.i h) c.take_node.auto.words c.loop-i.invariant.1
          c.take_node.ensures,
    )

pub returns : goal.returns
returns c =
    let gathered : (let a = c.args in Gathered a.words.now c.loop-i.words a.w (a.k + 1) a.n) = let args = c.args in
    let z : c.loop-i.i ≡ args.n = omega (arith, c.loop-i.invariant.0, c.loop-i-test.false) in
    subst (Gathered args.words.now c.loop-i.words args.w (args.k + 1)) z c.loop-i.invariant.1 in
    all_taken c.args.words.now c.loop-i.words c.empty.new.layer c.args.w c.args.k c.args.n
    c.requires.some_width c.requires.layer c.requires.room (gathered) c.empty.auto.layer c.empty.ensures
