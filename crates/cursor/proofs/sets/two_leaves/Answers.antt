-- `cursor::sets::two_leaves` meets its contract.
use Prim.Native.Nat.{ℕ, ◌+◌}
use mathlib.Core.Path.{sym, subst}
use Rattle.cursor.specs.Told.{SetTo}
use Rattle.cursor.proofs.SetLaws.{two_sets_are}
use Rattle.cursor.proofs.sets.two_leaves.Goals as goal

pub returns : goal.returns
returns c moved =
    let first_is : (let a = c.args in SetTo a.m.now.now a.outline.now a.state.now (a.at.now + 1) c.leaf_set-s.result c.leaf_set-s.new.at) = c.leaf_set-s.ensures c.if-q-p.false in
    let second_is : (let a = c.args in SetTo a.m.now.now a.outline.now a.state.now c.leaf_set-s.new.at c.leaf_set-t.result c.leaf_set-t.new.at) = c.leaf_set-t.ensures c.if-at-q.false in
    let a = c.args in
    subst (λ (s : ℕ). SetTo a.m.now.now a.outline.now a.state.now a.at.now s c.leaf_set-t.new.at) (sym c.combined.ensures)
    (two_sets_are a.m.now.now a.outline.now a.state.now c.requires.0 c.requires.1 (first_is) (second_is))
