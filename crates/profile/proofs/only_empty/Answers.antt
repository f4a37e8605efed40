-- `profile::only_empty` meets its contract.
use Prim.Native.Nat.{ℕ, ◌+◌}
use mathlib.Core.Path.{◌≡◌, sym, ◌∙◌}
use mathlib.Core.List.{List}
use lib.ListN.{get_or}
use lib.Seq.{get_or-drop}
use Rattle.profile.proofs.Walks.{no_condition, another_condition, empty_condition}
use Rattle.profile.proofs.only_empty.Goals as goal

pub returns-then-asks_for_empty : goal.returns-then-asks_for_empty
returns-then-asks_for_empty c =
    let here : get_or c.args.model.now c.args.at 0 ≡ 8 = sym c.byte_at.ensures ∙ c.if-byte_at-eq8.true in
    let model : List ℕ = c.args.model.now in
    let at : ℕ = c.args.at in
    let e = c.after-e.ensures in
    rw (c.byte_at-then-asks_for_empty.ensures, c.skip.ensures, e, get_or-drop (at + 1) model) (empty_condition model at (here) (rw (← e) (sym c.asks_for_empty.ensures ∙ c.if-asks_for_empty.true)))

pub returns-else-asks_for_empty : goal.returns-else-asks_for_empty
returns-else-asks_for_empty c =
    let here : get_or c.args.model.now c.args.at 0 ≡ 8 = sym c.byte_at.ensures ∙ c.if-byte_at-eq8.true in
    rw c.if-asks_for_empty.false (another_condition _ _ (here) (rw (← c.after-e.ensures) (sym c.asks_for_empty.ensures ∙ c.if-asks_for_empty.false)))

pub returns : goal.returns
returns c =
    no_condition _ _ (λ e. c.if-byte_at-eq8.false (c.byte_at.ensures ∙ e))
