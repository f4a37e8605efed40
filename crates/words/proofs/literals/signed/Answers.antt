-- `words::literals::signed` meets its contract.
use Prim.Native.Nat.{◌<◌, ◌+◌, ◌%◌, ◌^◌}
use native.Mathlib.Omega.{arith}
use Rattle.words.proofs.Integers.{back, plain, lowered_fits}
use Rattle.words.proofs.Literal.{signed_back}
use Rattle.words.proofs.literals.signed.Goals as goal

pub returns : goal.returns
returns c =
    let n = (c.args.w + 2 ^ 31) % 2 ^ 32 in
    let h : n < 2 ^ 32 = omega arith in
    rw (plain n (omega arith), back (lowered_fits n h)) (signed_back c.args.w c.requires)
