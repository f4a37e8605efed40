-- `cursor::numbers::variable_at` meets its contract.
use Prim.Native.Nat.{ℕ, ◌%◌}
use mathlib.Core.Path.{ap, ◌∙◌}
use native.Mathlib.Omega.{arith}
use lib.IntN.{pos, ◌-ℤ◌}
use mir.Val.{SFits}
use mir.Syntax.{w64}
use Rattle.model.specs.Numbers.{range_end, range_size}
use Rattle.words.proofs.Integers.{back}
use Rattle.cursor.proofs.NumberLaws.{variable_is}
use Rattle.cursor.proofs.numbers.variable_at.Goals as goal

pub returns : goal.returns
returns c =
    let f : SFits w64 c.signed_word.result = record { sfits = omega (arith, c.signed_word.ensures.1) } in
    rw (back f)
    (variable_is c.args.m.now.now c.args.outline.now c.args.state.now c.args.p c.signed_word.result c.requires.0 c.requires.1
    (c.signed_word.ensures.0 ∙ ap (λ (w : ℕ). pos (w % range_size) -ℤ pos range_end) c.word_at.ensures) c.signed_word.ensures.1)
