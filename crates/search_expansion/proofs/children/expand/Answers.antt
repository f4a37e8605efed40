-- `search_expansion::children::expand` meets its contract. The invariant: the transitions whose bits are left wait, those before them are tried or
use Prim.Native.Nat.{ℕ, zero, suc, ◌-◌, ◌<◌}
use native.Mathlib.Omega.{arith}
use mathlib.Core.Path.{◌≡◌, refl, sym, ◌∙◌}
use mathlib.Core.Bool.{◌||◌}
use lib.Bits.{bit_and}
use Rattle.model.specs.Sets.{members_from, members}
use Rattle.words.proofs.Members.{and_falls}
use Rattle.steps.proofs.Promises.{few_transitions}
use Rattle.search_expansion.proofs.TrialLoop.{none_waits, one_waits, expanding_first, expanding_block, expanding_more, expanded_all, expanded_over, first_allowed}
use Rattle.search_expansion.proofs.children.expand.Goals as goal
use Rattle.search_expansion.proofs.children.expand.Goals.{then-cut, else-cut}

some : (n : ℕ) → (n ≡ 0 → ⊥) → 0 < n
some zero h = absurd (h refl)
some (suc n) h = omega arith

pub loop-left-init : goal.loop-left-init
unfolding members members_from
loop-left-init c =
    (expanding_first _ _ _ _ _ _ c.requires.held, c.forget.ensures _ _, omega arith)

pub returns-then-end-all : goal.returns-then-end-all
returns-then-end-all c =
    expanded_all _ _ _ _ _ _ (none_waits _ _ _ _ _ _ _ _ c.loop-left.invariant.0 c.if-left-eq0.true) (omega (arith, c.if-end-all.true, c.transitions-all.ensures))

pub block_end-end-requires : goal.block_end-end-requires
block_end-end-requires c =
    (omega (arith, c.loop-left.invariant.0.within, c.transitions-all.ensures), omega (arith, c.transitions-all.ensures, few_transitions c.requires.outlined))

pub allowed-left-requires : goal.allowed-left-requires
allowed-left-requires c =
    (c.block_end-end.ensures.first_within, c.block_end-end.ensures.short, omega (arith, c.block_end-end.ensures.within, c.transitions-all.ensures, few_transitions c.requires.outlined))

pub loop-left-preserved-then-left-eq0 : goal.loop-left-preserved-then-left-eq0
loop-left-preserved-then-left-eq0 c =
    let none = none_waits _ _ _ _ _ _ _ _ c.loop-left.invariant.0 c.if-left-eq0.true in
    (rw c.allowed-left.ensures (expanding_block _ _ _ _ _ _ _ c.requires.outlined (omega arith) none c.block_end-end.ensures.first_within (omega (arith, c.block_end-end.ensures.within, c.transitions-all.ensures))), c.loop-left.invariant.1, c.allowed-left.type_inv)

pub overflow_add-t : goal.overflow_add-t
overflow_add-t c =
    let first-waits : 0 < c.loop-left.left = some c.loop-left.left c.if-left-eq0.false in
    let waits = one_waits _ _ _ _ _ _ _ _ c.loop-left.invariant.0 c.loop-left.invariant.2 (first-waits) in
    record { fits = omega (arith, (first_allowed _ _ _ _ _ _ waits).declared, few_transitions c.requires.outlined) }

pub try_transition-x-requires : goal.try_transition-x-requires
try_transition-x-requires c =
    let first-waits : 0 < c.loop-left.left = some c.loop-left.left c.if-left-eq0.false in
    let waits = one_waits _ _ _ _ _ _ _ _ c.loop-left.invariant.0 c.loop-left.invariant.2 (first-waits) in
    let pre = c.requires in (
      record { outlined = pre.outlined; held = waits.held; small = pre.small; slot = pre.slot },
      first_allowed _ _ _ _ _ _ waits,
      c.loop-left.invariant.1,
    )

pub loop-left-preserved : goal.loop-left-preserved
loop-left-preserved c =
    let first-waits : 0 < c.loop-left.left = some c.loop-left.left c.if-left-eq0.false in
    let falls : bit_and c.loop-left.left (c.loop-left.left - 1) < c.loop-left.left = and_falls c.loop-left.left (first-waits) in
    let waits = one_waits _ _ _ _ _ _ _ _ c.loop-left.invariant.0 c.loop-left.invariant.2 (first-waits) in
    let marked : c.if-cut.cut ≡ (c.loop-left.cut || c.try_transition-x.result.cut) = elim c.if-cut.branch [ then-cut w ↦ rw (w.cut-is, w.if-cut.true) refl | else-cut w ↦ rw (w.cut-is, w.if-cut.false) refl ] in (
      expanding_more _ _ _ _ _ _ waits c.try_transition-x.ensures.0 marked c.try_transition-x.auto.layer (sym c.is_err.ensures.value ∙ c.if-is_err.false),
      c.try_transition-x.ensures.1,
      omega (arith, falls, c.loop-left.invariant.2),
    )

pub returns-then-is_err : goal.returns-then-is_err
returns-then-is_err c =
    let first-waits : 0 < c.loop-left.left = some c.loop-left.left c.if-left-eq0.false in
    let waits = one_waits _ _ _ _ _ _ _ _ c.loop-left.invariant.0 c.loop-left.invariant.2 (first-waits) in
    let marked : c.if-cut.cut ≡ (c.loop-left.cut || c.try_transition-x.result.cut) = elim c.if-cut.branch [ then-cut w ↦ rw (w.cut-is, w.if-cut.true) refl | else-cut w ↦ rw (w.cut-is, w.if-cut.false) refl ] in
    expanded_over _ _ _ _ _ _ waits c.try_transition-x.ensures.0 marked (sym c.is_err.ensures.value ∙ c.if-is_err.true)
