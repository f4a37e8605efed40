-- `quick::sums::last_total` meets its contract: key, set and sum are remembered together, or none of them.
use Prim.Native.Nat.{◌+◌, ◌<◌}
use mathlib.Core.Path.{◌≡◌, ◌∙◌}
use native.Mathlib.Omega.{arith}
use lib.ListN.{get_or}
use lib.IntN.{pos, ◌+ℤ◌}
use mir.Syntax.{w64}
use mir.Val.{SFits}
use Rattle.model.specs.Numbers.{range_end}
use Rattle.words.proofs.Integers.{back}
use Rattle.quick.proofs.Memory.{last_known, remembers_anew}
use Rattle.quick.proofs.sums.last_total.Goals as goal

pub returns-then-sums-s : goal.returns-then-sums-s
returns-then-sums-s c =
    let table_is : (let a = c.args in (c.wide.result ≡ get_or a.model.now (a.at + 1) 0) × (c.wide.result < 256)) = (c.wide.ensures.0 ∙ c.byte_at.ensures, c.wide.ensures.1) in
    let set_is : (let a = c.args in c.word_at-s.result ≡ get_or a.state.now (get_or a.model.now (a.at + 3) 0) 0) = rw c.byte_at-3.ensures at c.word_at-s.ensures in
    let a = c.args in
    let f : SFits w64 c.signed_word.result = record { sfits = omega (arith, c.signed_word.ensures.1) } in
    rw (back f) (last_known a.outline.now a.state.now c.requires.0 (table_is).0 (table_is).1 (c.wide-2.ensures.0 ∙ c.byte_at-2.ensures) (set_is) c.requires.1 c.if-sums-key.true c.if-sums-s.true c.signed_word.ensures.0, c.requires.1)

pub returns-then-in_range : goal.returns-then-in_range
returns-then-in_range c =
    let table_is : (let a = c.args in (c.wide.result ≡ get_or a.model.now (a.at + 1) 0) × (c.wide.result < 256)) = (c.wide.ensures.0 ∙ c.byte_at.ensures, c.wide.ensures.1) in
    let set_is : (let a = c.args in c.word_at-s.result ≡ get_or a.state.now (get_or a.model.now (a.at + 3) 0) 0) = rw c.byte_at-3.ensures at c.word_at-s.ensures in
    let a = c.args in
    let f : SFits w64 c.total_at-z.result = record { sfits = c.total_at-z.type_inv } in
    let word : pos c.biased.result ≡ c.total_at-z.result +ℤ pos range_end = rw (back f) at c.biased.ensures.0 in
    rw (back f) (
      c.total_at-z.ensures,
      remembers_anew a.outline.now a.state.now c.requires.0 (table_is).0 (table_is).1 (c.wide-2.ensures.0 ∙ c.byte_at-2.ensures) (set_is) c.biased.result c.total_at-z.result c.requires.1 word c.biased.ensures.1 c.total_at-z.ensures,
    )
