-- Laws of a loop of commands that have no operands of their own: what is so far read, and what a turn makes of it.
use Prim.Native.Nat.{ℕ, ◌+◌, ◌-◌, ◌<◌, ◌≤◌}
use mathlib.Core.Path.{◌≡◌, refl, sym, ◌∙◌}
use mathlib.Core.Bool.{true}
use mathlib.Core.List.{List, [], ◌∷◌, ◌++◌}
use native.Mathlib.Omega.{arith}
use native.Mathlib.Nat.{sub-zero}
use lib.ListN.{length, get_or}
use lib.Dec.{eqb}
use borrow.Author.Tests.{eq-eqb, ne_eqb}
use Rattle.laws.proofs.Lists.{byte_inside}
use Rattle.model.specs.Numbers.{ends_early, off_limits}
use Rattle.model.specs.Readers.{Read, read, refused, Reader, give, up_to}
use Rattle.read_declarations.specs.Positions.{read_at}
use Rattle.read_declarations.proofs.Positions.{give_at, rest, turn, turn_full, turn_body_refused, turn_end, turn_early}
use Rattle.read_declarations.proofs.Lists.{length_more}

module _ {B : Type 0} (c : ℕ) (r : Reader B) (bytes : List ℕ) where
  abbrev pub items_rest : (room : ℕ) → List B → (at : ℕ) → Read (List B)
  items_rest = rest (λ b. eqb b c) (λ b done. give (tt {0})) (λ _. r) bytes

  -- so many of the items are read, and the loop goes on at a position
  pub record ItemsSoFar (room start at n : ℕ) : Type 0 where
    pub few : n ≤ room
    pub items : List B
    pub count : length items ≡ n
    pub going_on : items_rest (room - n) items at ≡ read_at (up_to room c r) start bytes

unfoldable pub no_items : {B : Type 0} {c : ℕ} {r : Reader B} {bytes : List ℕ} {room start : ℕ} → ItemsSoFar c r bytes room start start 0
unfolding up_to
no_items {room = room} = record { few = omega arith; items = []; count = refl; going_on = rw (sub-zero room) }

module _ {B : Type 0} {c : ℕ} {r : Reader B} {bytes : List ℕ} {room start at n : ℕ} (s : ItemsSoFar c r bytes room start at n) where
  module _ (positive : 0 < c) (due : get_or bytes at 0 ≡ c) where
    pub item_inside : at < length bytes
    item_inside = byte_inside bytes at c positive due

    pub due_item : eqb (get_or bytes at 0) c ≡ true
    due_item = eq-eqb (get_or bytes at 0) c due

    unfoldable pub item_more : n < room → {x : B} {end : ℕ} → read_at r (at + 1) bytes ≡ read x end → ItemsSoFar c r bytes room start end (n + 1)
    item_more less {x} e = record {
      few = omega arith;
      items = s.items ++ (x ∷ []);
      count = length_more s.items x s.count;
      going_on = sym (turn (λ b. eqb b c) (λ b done. give (tt {0})) (λ _. r) bytes room n s.items at less item_inside due_item (give_at tt (at + 1) bytes) e) ∙ s.going_on;
    }

    pub item_too_many : n ≡ room → read_at (up_to room c r) start bytes ≡ refused off_limits
    item_too_many full =
        sym s.going_on ∙ turn_full (λ b. eqb b c) (λ b done. give (tt {0})) (λ _. r) bytes room n s.items at full item_inside due_item (give_at tt (at + 1) bytes)

    pub item_refused : n < room → {t : ℕ} → read_at r (at + 1) bytes ≡ refused t → read_at (up_to room c r) start bytes ≡ refused t
    item_refused less e =
        sym s.going_on ∙ turn_body_refused (λ b. eqb b c) (λ b done. give (tt {0})) (λ _. r) bytes room n s.items at less item_inside due_item (give_at tt (at + 1) bytes) e

  pub items_end : at < length bytes → (get_or bytes at 0 ≡ c → ⊥) → read_at (up_to room c r) start bytes ≡ read s.items at
  items_end inside other =
      sym s.going_on ∙ turn_end (λ b. eqb b c) (λ b done. give (tt {0})) (λ _. r) bytes room n s.items at inside (ne_eqb (get_or bytes at 0) c other)

  pub items_early : length bytes ≤ at → read_at (up_to room c r) start bytes ≡ refused ends_early
  items_early h = sym s.going_on ∙ turn_early (λ b. eqb b c) (λ b done. give (tt {0})) (λ _. r) bytes room n s.items at h
