-- `quick::sets::joined` meets its contract.
use Prim.Native.Nat.{◌+◌}
use mathlib.Core.Path.{◌≡◌, ◌∙◌}
use native.Mathlib.Omega.{arith}
use Rattle.words.proofs.Literal.{suffix}
use Rattle.quick.specs.Sets.{members_at}
use Rattle.quick.proofs.Changes.{members_at_lem}
use Rattle.quick.proofs.sets.joined.Goals as goal

pub returns : goal.returns
returns c =
    let a = c.args in
    let members : c.long.result ≡ members_at a.model.now (a.at + 5) =
    cc (rw (suffix (a.at + 5) a.model.now) at c.long.ensures, members_at_lem a.model.now (a.at + 5) (omega (arith, c.requires.inside))) in
    c.union.ensures ∙ rw (c.word_at-s.ensures, c.byte_at.ensures, members)
