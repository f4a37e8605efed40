-- Laws of a loop of commands that stores the offset of each item.
use Prim.Native.Nat.{ℕ, ◌+◌, ◌<◌, ◌≤◌}
use mathlib.Core.Path.{◌≡◌, refl, ◌∙◌}
use mathlib.Core.List.{List}
use native.Mathlib.Omega.{arith}
use lib.ListN.{length, get_or, drop, set, length-set}
use lib.Seq.{get_or-set_same, get_or-set_other}
use Rattle.laws.proofs.Lists.{byte_inside}
use Rattle.model.specs.Readers.{read, Reader, up_to}
use Rattle.read_declarations.specs.Positions.{read_at, Each}
use Rattle.read_model.specs.Groups.{ItemIn, ItemsRead}
use Rattle.read_declarations.proofs.Positions.{at_reads}
use Rattle.read_declarations.proofs.Items.{ItemsSoFar, no_items, item_more, items_end}
use Rattle.read_declarations.proofs.Lists.{each_none, each_more}

module _ {B : Type 0} (c : ℕ) (r : Reader B) (bytes : List ℕ) where
  pub record OffsetsSoFar (room start at n : ℕ) (offsets : List ℕ) : Type 0 where
    pub so_far : ItemsSoFar c r bytes room start at n
    pub size : length offsets ≡ room
    pub placed : Each (ItemIn r bytes offsets) so_far.items

pub no_offsets : {B : Type 0} {c : ℕ} {r : Reader B} {bytes : List ℕ} {start : ℕ} {offsets : List ℕ} → OffsetsSoFar c r bytes (length offsets) start start 0 offsets
unfolding no_items
no_offsets {r = r} {bytes} {offsets = offsets} = record { so_far = no_items; size = refl; placed = each_none (ItemIn r bytes offsets) }

module _ {B : Type 0} (r : Reader B) (bytes offsets : List ℕ) (n v : ℕ) where
  placed_before : (k : ℕ) (x : B) → k < n → ItemIn r bytes offsets k x → ItemIn r bytes (set offsets n v) k x
  placed_before k x less h =
      let e : get_or (set offsets n v) k 0 ≡ get_or offsets k 0 = get_or-set_other offsets n k v 0 (λ q. omega arith) in
      record { inside = rw e h.inside; used = h.used; reads = rw e h.reads }

  placed_here : n < length offsets → (x : B) {u : ℕ} → v ≤ length bytes → r (drop v bytes) ≡ read x u → ItemIn r bytes (set offsets n v) n x
  placed_here less x {u} h q =
      let e : get_or (set offsets n v) n 0 ≡ v = get_or-set_same offsets n v 0 less in
      record { inside = rw e h; used = u; reads = rw e q }

module _ {B : Type 0} {c : ℕ} {r : Reader B} {bytes : List ℕ} {room start at n : ℕ} {offsets : List ℕ} (s : OffsetsSoFar c r bytes room start at n offsets) where
  pub offset_more : 0 < c → get_or bytes at 0 ≡ c → n < room → {x : B} {end : ℕ} → read_at r (at + 1) bytes ≡ read x end → OffsetsSoFar c r bytes room start end (n + 1) (set offsets n (at + 1))
  unfolding item_more
  offset_more positive due less {x} e =
      let i = at_reads r (at + 1) bytes e in
      let here : at + 1 ≤ length bytes = omega (arith, byte_inside bytes at c positive due) in
      let in_offsets : n < length offsets = omega (arith, s.size) in
      let items = s.so_far.items in
      record {
        so_far = item_more s.so_far positive due less e;
        size = length-set offsets n (at + 1) ∙ s.size;
        placed = each_more (ItemIn r bytes offsets) (ItemIn r bytes (set offsets n (at + 1))) items x s.placed
            (λ k y l h. placed_before r bytes offsets n (at + 1) k y (omega (arith, s.so_far.count)) h)
            (rw s.so_far.count (placed_here r bytes offsets n (at + 1) in_offsets x here i.1));
      }

  pub offsets_end : at < length bytes → (get_or bytes at 0 ≡ c → ⊥) → ItemsRead r bytes offsets (read_at (up_to room c r) start bytes) at n
  offsets_end inside other = record {
    items = s.so_far.items;
    reads = items_end s.so_far inside other;
    count = s.so_far.count;
    few = omega (arith, s.so_far.few, s.size);
    placed = s.placed;
  }
