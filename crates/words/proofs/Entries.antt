-- Laws of a table's entries: where each stands in the bytes, and the table's word unpacked.
use mathlib.Core.Path.{◌≡◌, sym, ap, ◌∙◌}
use mathlib.Core.List.{List, [], ◌∷◌}
use Prim.Native.Nat.{ℕ, zero, suc, ◌+◌, ◌*◌, ◌<◌, ◌≤◌}
use native.Mathlib.Nat.{mul-le-mul}
use native.Mathlib.Omega.{arith}
use lib.ListN.{length, drop, get_or, length-drop}
use lib.Seq.{drop-drop}
use Rattle.words.proofs.Literal.{integer_used, integer_short}
use lib.IntN.{ℤ, pos}
use borrow.Author.Tests.{lt-ltb, le-ltb}
use Rattle.model.specs.Readers.{Read, read, Reader, continue, ◌>>=◌, ◌>>◌, give, integer, command}
use Rattle.model.specs.Commands.{entries}
use Rattle.model.proofs.Chains.{chain, given, commanded}
use Rattle.words.specs.Tables.{or_zero, integer_at, cell_at, entry_in, columns_of}

-- ---- what two readers, one behind the other, read

-- the first uses `size` bytes whatever it reads: its value, and the bytes that the second uses
record Both {A B : Type 0} (size : ℕ) (r : Read A) (next : A → Reader B) (e : List ℕ) (b : B) (u : ℕ) : Type 0 where
  value : A
  left : ℕ
  reads_first : r ≡ read value size
  reads_second : next value (drop size e) ≡ read b left
  uses : u ≡ size + left

both : {A B : Type 0} (size : ℕ) (r : Read A) (next : A → Reader B) (e : List ℕ) (b : B) (u : ℕ) → ((a : A) (n : ℕ) → r ≡ read a n → n ≡ size) → continue r next e ≡ read b u → Both size r next e b u
both size r next e b u sized h =
    let p = chain r next e b u h in
    let s : p.used ≡ size = sized p.first p.used p.reads_first in
    record { value = p.first; left = p.left; reads_first = p.reads_first ∙ ap (read p.first) s; reads_second = rw (← s) p.reads_next; uses = rw (← s) p.uses }

made : {A B : Type 0} (r : Read A) (make : A → B) (e : List ℕ) (b : B) (u : ℕ) → continue r (λ a. give (make a)) e ≡ read b u → (a : A) × (r ≡ read a u) × (b ≡ make a)
made r make e b u h =
    let p = chain r (λ a. give (make a)) e b u h in
    let g = given (make p.first) (drop p.used e) b p.left p.reads_next in
    let n : p.used ≡ u = omega (arith, p.uses, g.1) in
    (p.first, p.reads_first ∙ ap (read p.first) n, sym g.0)

-- ---- the first entry, and those behind it

record Front (n : ℕ) (e : List ℕ) (l : List ℤ) (u : ℕ) : Type 0 where
  value : ℤ
  others : List ℤ
  left : ℕ
  reads_value : integer (drop 1 e) ≡ read value 4
  reads_others : entries n (drop 5 e) ≡ read others left
  list : l ≡ value ∷ others
  uses : u ≡ 5 + left

front : (n : ℕ) (e : List ℕ) (l : List ℤ) (u : ℕ) → entries (suc n) e ≡ read l u → Front n e l u
unfolding entries ◌>>◌ ◌>>=◌
front n e l u h =
    let p = both 1 (command 0x06 e) _ e l u (λ x n g. (commanded 0x06 e x n g).0) h in
    let q = both 4 (integer (drop 1 e)) _ (drop 1 e) l p.left (integer_used (drop 1 e)) p.reads_second in
    let r = made (entries n (drop 4 (drop 1 e))) (λ o. q.value ∷ o) (drop 4 (drop 1 e)) l q.left q.reads_second in
    record {
      value = q.value;
      others = r.0;
      left = q.left;
      reads_value = q.reads_first;
      reads_others = ap (entries n) (sym (drop-drop 4 1 e)) ∙ r.1;
      list = r.2;
      uses = omega (arith, p.uses, q.uses);
    }

pub entries_length : (n : ℕ) (e : List ℕ) (l : List ℤ) (u : ℕ) → entries n e ≡ read l u → length l ≡ n
unfolding entries give
entries_length zero e l u h = let p : l ≡ [] = cc in ap length p
entries_length (suc n) e l u h =
    let f = front n e l u h in
    ap length f.list ∙ ap suc (entries_length n (drop 5 e) f.others f.left f.reads_others)

pub entries_used : (n : ℕ) (e : List ℕ) (l : List ℤ) (u : ℕ) → entries n e ≡ read l u → u ≡ 5 * n
unfolding entries give
entries_used zero e l u h = cc
entries_used (suc n) e l u h =
    let f = front n e l u h in
    omega (arith, f.uses, entries_used n (drop 5 e) f.others f.left f.reads_others)

-- the entry of cell k is read where it stands
pub entries_cell : (n : ℕ) (bytes : List ℕ) (at : ℕ) (l : List ℤ) (u : ℕ) → entries n (drop at bytes) ≡ read l u → (k : ℕ) → k < n → get_or l k (pos 0) ≡ cell_at bytes at k
unfolding cell_at or_zero
entries_cell zero bytes at l u h k less = let z : ⊥ = omega arith in absurd z
entries_cell (suc n) bytes at l u h zero less =
    let f = front n (drop at bytes) l u h in
    let r : integer (drop (at + 1) bytes) ≡ read f.value 4 = rw drop-drop at f.reads_value in
    let p : at + 5 * 0 + 1 ≡ at + 1 = omega arith in
    rw f.list (sym (ap (λ (i : ℕ). or_zero (integer (drop i bytes))) p ∙ ap or_zero r))
entries_cell (suc n) bytes at l u h (suc k) less =
    let f = front n (drop at bytes) l u h in
    let r : entries n (drop (at + 5) bytes) ≡ read f.others f.left = rw drop-drop at f.reads_others in
    let p : at + 5 + 5 * k + 1 ≡ at + 5 * suc k + 1 = omega arith in
    rw f.list (entries_cell n bytes (at + 5) f.others f.left r k (omega arith) ∙ ap (λ (i : ℕ). or_zero (integer (drop i bytes))) p)

-- ---- the contracts' cases

pub integer_there : (bytes : List ℕ) (k : ℕ) {z : ℤ} → integer (drop k bytes) ≡ read z 4 → z ≡ integer_at bytes k
unfolding or_zero
integer_there bytes k h = rw h

pub cell_there : (bytes : List ℕ) (at k : ℕ) {z : ℤ} → integer (drop (at + 5 * k + 1) bytes) ≡ read z 4 → z ≡ cell_at bytes at k
unfolding cell_at
cell_there bytes at k h = integer_there bytes (at + 5 * k + 1) h

pub cell_ends : (bytes : List ℕ) (at k : ℕ) → length bytes < at + 5 * k + 1 + 4 → pos 0 ≡ cell_at bytes at k
unfolding cell_at or_zero
cell_ends bytes at k h = rw (integer_short (drop (at + 5 * k + 1) bytes) (rw length-drop (omega arith)))

pub entry_there : (bytes : List ℕ) (at columns cells i j : ℕ) → i * columns + j < cells → cell_at bytes at (i * columns + j) ≡ entry_in bytes at columns cells i j
unfolding entry_in
entry_there bytes at columns cells i j h = rw (lt-ltb (i * columns + j) cells h)

pub entry_beyond : (bytes : List ℕ) (at columns cells i j : ℕ) → cells ≤ i * columns + j → pos 0 ≡ entry_in bytes at columns cells i j
unfolding entry_in
entry_beyond bytes at columns cells i j h = rw (le-ltb (i * columns + j) cells h)

-- ---- a table's word

-- a row's first cell
pub cell_bound : (i w : ℕ) → i < 64 → i * columns_of w ≤ 64 * 128
cell_bound i w h =
    let a : i ≤ 64 = omega arith in
    let b : columns_of w ≤ 128 = omega arith in
    mul-le-mul a b
