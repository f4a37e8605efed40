-- Laws of a sum whose cells are all there: its integers stand at equal steps, and they are the entries.
use mathlib.Core.Path.{◌≡◌, ap, ◌∙◌}
use mathlib.Core.List.{List}
use Prim.Native.Nat.{ℕ, suc, ◌+◌, ◌*◌, ◌<◌, ◌≤◌}
use native.Mathlib.Nat.{add-mul, mul_assoc, mul_comm, mul-le-mul_left, mul-le-mul_right}
use native.Mathlib.Omega.{arith}
use lib.ListN.{length}
use Rattle.laws.specs.Lists.{All}
use Rattle.model.specs.Sets.{members}
use Rattle.model.specs.Meaning.{sum_over}
use Rattle.words.specs.Tables.{integer_at, cell_at, entry_in, columns_of, cells_of, at_of, Spaced, Covered}
use Rattle.words.proofs.Entries.{entry_there}
use Rattle.words.proofs.Members.{members_all}
use Rattle.words.proofs.Sums.{sum_agrees}

-- the integer of each member is there
pub spaced_all : {bytes : List ℕ} {s first stride : ℕ} → Spaced bytes s first stride → All (λ i. first + stride * i + 4 ≤ length bytes) (members s)
spaced_all {s = s} {stride = stride} p =
    members_all _ (suc p.last) s p.members_to (λ i h. let upto : i ≤ p.last = omega arith in omega (arith, mul-le-mul_left stride upto, p.bytes_to))

-- a column's integers stand at equal steps
step : (at columns from j i : ℕ) → at + 5 * (from * columns + j) + 1 + 5 * columns * i ≡ at + 5 * ((from + i) * columns + j) + 1
step at columns from j i = omega (arith, add-mul from i columns, mul_assoc 5 columns i, mul_comm columns i)

module _ {bytes : List ℕ} {w s from j : ℕ} (p : Covered bytes w s from j) where
  pub covered_spaced : Spaced bytes s (at_of w + 5 * (from * columns_of w + j) + 1) (5 * columns_of w)
  covered_spaced =
      record {
        last = p.last;
        members_to = p.members_to;
        bytes_to = omega (arith, step (at_of w) (columns_of w) from j p.last, p.cells_to, p.bytes_to);
      }

  there : (i : ℕ) → i < suc p.last → (from + i) * columns_of w + j < cells_of w
  there i h =
      let upto : from + i ≤ from + p.last = omega arith in
      omega (arith, mul-le-mul_right (columns_of w) upto, p.cells_to)

  is_entry : (i : ℕ) → i < suc p.last → integer_at bytes (at_of w + 5 * (from * columns_of w + j) + 1 + 5 * columns_of w * i) ≡ entry_in bytes (at_of w) (columns_of w) (cells_of w) (from + i) j
  unfolding cell_at
  is_entry i h = ap (integer_at bytes) (step (at_of w) (columns_of w) from j i) ∙ entry_there bytes (at_of w) (columns_of w) (cells_of w) (from + i) j (there i h)

  pub covered_sum : sum_over (λ i. integer_at bytes (at_of w + 5 * (from * columns_of w + j) + 1 + 5 * columns_of w * i)) (members s) ≡ sum_over (λ i. entry_in bytes (at_of w) (columns_of w) (cells_of w) (from + i) j) (members s)
  covered_sum = sum_agrees _ _ (suc p.last) s p.members_to is_entry
