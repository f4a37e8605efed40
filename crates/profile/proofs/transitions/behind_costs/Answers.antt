-- `profile::transitions::behind_costs` meets its contract. Behind the low cost, 10 and its number are passed over too.
use Prim.Native.Nat.{ℕ, ◌+◌, ◌<◌}
use mathlib.Core.Path.{◌≡◌, sym, ap, ◌∙◌}
use mathlib.Core.List.{List}
use native.Mathlib.Omega.{arith}
use lib.ListN.{length, get_or, drop}
use Rattle.laws.proofs.Lists.{byte_inside}
use Rattle.eval_sets.specs.Forms.{span}
use Rattle.profile.proofs.Walks.{span_left, behind_low, costs_end, costs_end_high}
use Rattle.profile.proofs.transitions.behind_costs.Goals as goal

pub overflow_add-behind-2 : goal.overflow_add-behind-2
overflow_add-behind-2 c =
    let passed : (c.skip.result ≡ span (drop (c.args.at + 1) c.args.model.now) 0 1) = c.skip.ensures ∙ ap (λ (e : List ℕ). span e 0 1) c.after.ensures in
    record { fits = omega (arith, passed, c.requires, c.well_formed, span_left c.args.model.now (c.args.at + 1)) }

pub overflow_add-result-then-byte_at-eq16 : goal.overflow_add-result-then-byte_at-eq16
overflow_add-result-then-byte_at-eq16 c =
    let passed-high : (c.skip-then-byte_at-eq16.result ≡ span (drop (c.args.at + 1 + c.skip.result + 1) c.args.model.now) 0 1) = c.skip-then-byte_at-eq16.ensures ∙ ap (λ (e : List ℕ). span e 0 1) c.after-then-byte_at-eq16.ensures in
    let passed : (c.skip.result ≡ span (drop (c.args.at + 1) c.args.model.now) 0 1) = c.skip.ensures ∙ ap (λ (e : List ℕ). span e 0 1) c.after.ensures in
    let byte_is : (c.byte_at.result ≡ get_or c.args.model.now (behind_low c.args.model.now c.args.at) 0) = rw (passed) at c.byte_at.ensures in
    let written : (get_or c.args.model.now (behind_low c.args.model.now c.args.at) 0 ≡ 0x10) = sym (byte_is) ∙ c.if-byte_at-eq16.true in
    let inside : (behind_low c.args.model.now c.args.at < length c.args.model.now) = byte_inside c.args.model.now (behind_low c.args.model.now c.args.at) 0x10 (omega arith) (written) in
    let low-inside : (c.args.at + 1 + c.skip.result < length c.args.model.now) = rw (passed) (inside) in
    record { fits = omega (arith, passed-high, low-inside, c.well_formed, span_left c.args.model.now (c.args.at + 1 + c.skip.result + 1)) }

pub returns-then-byte_at-eq16 : goal.returns-then-byte_at-eq16
returns-then-byte_at-eq16 c =
    let passed-high : (c.skip-then-byte_at-eq16.result ≡ span (drop (c.args.at + 1 + c.skip.result + 1) c.args.model.now) 0 1) = c.skip-then-byte_at-eq16.ensures ∙ ap (λ (e : List ℕ). span e 0 1) c.after-then-byte_at-eq16.ensures in
    let passed : (c.skip.result ≡ span (drop (c.args.at + 1) c.args.model.now) 0 1) = c.skip.ensures ∙ ap (λ (e : List ℕ). span e 0 1) c.after.ensures in
    let byte_is : (c.byte_at.result ≡ get_or c.args.model.now (behind_low c.args.model.now c.args.at) 0) = rw (passed) at c.byte_at.ensures in
    let written : (get_or c.args.model.now (behind_low c.args.model.now c.args.at) 0 ≡ 0x10) = sym (byte_is) ∙ c.if-byte_at-eq16.true in
    rw (passed-high, passed) (costs_end_high c.args.model.now c.args.at (written))

pub returns : goal.returns
returns c =
    let passed : (c.skip.result ≡ span (drop (c.args.at + 1) c.args.model.now) 0 1) = c.skip.ensures ∙ ap (λ (e : List ℕ). span e 0 1) c.after.ensures in
    let byte_is : (c.byte_at.result ≡ get_or c.args.model.now (behind_low c.args.model.now c.args.at) 0) = rw (passed) at c.byte_at.ensures in
    rw (passed) (costs_end c.args.model.now c.args.at (λ e. c.if-byte_at-eq16.false (byte_is ∙ e)))
