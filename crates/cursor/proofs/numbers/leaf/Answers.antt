-- `cursor::numbers::leaf` meets its contract.
use Prim.Native.Nat.{ℕ, ◌%◌}
use mathlib.Core.Path.{ap, ◌∙◌}
use native.Mathlib.Omega.{arith}
use lib.IntN.{pos, ◌-ℤ◌}
use mir.Val.{SFits}
use mir.Syntax.{w64}
use Rattle.model.specs.Numbers.{range_end, range_size}
use Rattle.words.proofs.Integers.{back}
use Rattle.cursor.specs.Places.{Stands}
use Rattle.cursor.proofs.NumberLaws.{variable_is}
use Rattle.cursor.proofs.numbers.leaf.Goals as goal

pub returns-then-e-p-eq33 : goal.returns-then-e-p-eq33
returns-then-e-p-eq33 c =
    let there : (Stands c.args.m.now.now c.args.at.now 2) = c.stands.ensures c.if-stands.true in
    let f : SFits w64 c.signed_word.result = record { sfits = omega (arith, c.signed_word.ensures.1) } in
    rw (back f)
    (variable_is c.args.m.now.now c.args.outline.now c.args.state.now c.args.at.now c.signed_word.result (there) c.if-e-p-eq33.true
    (c.signed_word.ensures.0 ∙ ap (λ (w : ℕ). pos (w % range_size) -ℤ pos range_end) c.word_at.ensures) c.signed_word.ensures.1)
