-- `eval_sets::bytes::shape_of` meets its contract.
use mathlib.Core.Path.{refl, sym, ap}
use mathlib.Core.List.{[], ◌∷◌}
use native.Mathlib.Omega.{arith}
use Rattle.words.proofs.Bytes.{unnamed}
use Rattle.eval_sets.specs.Forms.{shape_of}
use Rattle.eval_sets.proofs.bytes.shape_of.Goals as goal

pub returns-in-32 : goal.returns-in-32
unfolding shape_of
returns-in-32 c =
    sym (ap shape_of c.in-32.is)

pub returns-in-33 : goal.returns-in-33
unfolding shape_of
returns-in-33 c =
    sym (ap shape_of c.in-33.is)

pub returns-in-40 : goal.returns-in-40
unfolding shape_of
returns-in-40 c =
    sym (ap shape_of c.in-40.is)

pub returns-in-41 : goal.returns-in-41
unfolding shape_of
returns-in-41 c =
    sym (ap shape_of c.in-41.is)

pub returns-in-42 : goal.returns-in-42
unfolding shape_of
returns-in-42 c =
    sym (ap shape_of c.in-42.is)

pub returns-in-43 : goal.returns-in-43
unfolding shape_of
returns-in-43 c =
    sym (ap shape_of c.in-43.is)

pub returns-in-48 : goal.returns-in-48
unfolding shape_of
returns-in-48 c =
    sym (ap shape_of c.in-48.is)

pub returns-in-49 : goal.returns-in-49
unfolding shape_of
returns-in-49 c =
    sym (ap shape_of c.in-49.is)

pub returns-in-64 : goal.returns-in-64
unfolding shape_of
returns-in-64 c =
    sym (ap shape_of c.in-64.is)

pub returns-in-65 : goal.returns-in-65
unfolding shape_of
returns-in-65 c =
    sym (ap shape_of c.in-65.is)

pub returns-in-71 : goal.returns-in-71
unfolding shape_of
returns-in-71 c =
    sym (ap shape_of c.in-71.is)

pub returns-in-85 : goal.returns-in-85
unfolding shape_of
returns-in-85 c =
    sym (ap shape_of c.in-85.is)

pub returns-in-87 : goal.returns-in-87
unfolding shape_of
returns-in-87 c =
    sym (ap shape_of c.in-87.is)

pub returns-in_default : goal.returns-in_default
unfolding shape_of
returns-in_default c =
    unnamed (0x20 ∷ 0x21 ∷ 0x28 ∷ 0x29 ∷ 0x2a ∷ 0x2b ∷ 0x30 ∷ 0x31 ∷ 0x40 ∷ 0x41 ∷ 0x47 ∷ 0x55 ∷ 0x57 ∷ []) (λ b. record { operands = 0; parts = 2 }) shape_of refl
    c.args.b (omega (arith, c.ranges.b)) c.in_default.in_default-own.rest
