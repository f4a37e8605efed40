-- Readers: from bytes to what they say and how many they are, or to the number of a refusal. No position appears in them.
-- docs/FORMAT.md, "Refusals by the input".
use Rattle.std.specs.Prelude.{ℕ, zero, suc, ◌+◌, ◌*◌, ◌^◌, Bool, true, false, cond, List, [], ◌∷◌, reverse, drop, ltb, eqb, ℤ, pos, ◌-ℤ◌}
use Rattle.std.proofs.Math.Option.{Option, none, some}
use Rattle.model.specs.Numbers.{ends_early, not_due, off_limits}

-- what was read and the bytes used; or a refusal
pub data Read (A : Type 0) : Type 0 where
  read : A → ℕ → Read A
  refused : ℕ → Read A

abbrev pub Reader : Type 0 → Type 0
Reader A = List ℕ → Read A

unfoldable pub after : {A : Type 0} → ℕ → Read A → Read A
after n (read a m) = read a (n + m)
after n (refused t) = refused t

unfoldable pub continue : {A B : Type 0} → Read A → (A → Reader B) → Reader B
continue (read a n) next bytes = after n (next a (drop n bytes))
continue (refused t) next bytes = refused t

-- one reader behind the other
infixl 1 ◌>>=◌ ◌>>◌
unfoldable pub ◌>>=◌ : {A B : Type 0} → Reader A → (A → Reader B) → Reader B
◌>>=◌ first next bytes = continue (first bytes) next bytes

unfoldable pub ◌>>◌ : {A B : Type 0} → Reader A → Reader B → Reader B
◌>>◌ first next bytes = continue (first bytes) (λ _. next) bytes

unfoldable pub give : {A : Type 0} → A → Reader A
give a bytes = read a 0

unfoldable pub refuse : {A : Type 0} → ℕ → Reader A
refuse t bytes = refused t

-- go on where the test holds, else refuse by t
unfoldable pub require : Bool → (t : ℕ) → Reader (Unit {0})
require true t bytes = read tt 0
require false t bytes = refused t

-- the next byte, left in place
unfoldable pub peek : Reader ℕ
peek [] = refused ends_early
peek (b ∷ bytes) = read b 0

unfoldable pub byte : Reader ℕ
byte [] = refused ends_early
byte (b ∷ bytes) = read b 1

-- k bytes, little-endian: all are asked for before any is judged
unfoldable pub word : ℕ → Reader ℕ
word zero = give 0
word (suc k) = do
  b ← byte
  w ← word k
  give (b + 256 * w)

-- the end of the numbers of 32 bits, and the first of them that stands for a negative one
abbrev pub word_end : ℕ
word_end = 2 ^ 32

abbrev pub negative_from : ℕ
negative_from = 2 ^ 31

-- 32 bits, two's complement
unfoldable pub signed : ℕ → ℤ
signed w = cond (ltb w negative_from) (pos w) (pos w -ℤ pos word_end)

-- one, two or three parts, one behind the other
unfoldable pub one : {A B : Type 0} → Reader A → (A → B) → Reader B
one ra make = do
  a ← ra
  give (make a)

unfoldable pub two : {A B C : Type 0} → Reader A → Reader B → (A → B → C) → Reader C
two ra rb make = do
  a ← ra
  b ← rb
  give (make a b)

unfoldable pub three : {A B C D : Type 0} → Reader A → Reader B → Reader C → (A → B → C → D) → Reader D
three ra rb rc make = do
  a ← ra
  b ← rb
  c ← rc
  give (make a b c)

-- i32
unfoldable pub integer : Reader ℤ
integer = one (word 4) signed

-- a command's byte, where no other may stand
unfoldable pub command : ℕ → Reader (Unit {0})
command c = do
  b ← byte
  require (eqb b c) not_due

-- a command that may stand here, once; its byte decides
unfoldable pub optional : {A : Type 0} → (c : ℕ) → Reader A → Reader (Option A)
optional c r = do
  b ← peek
  cond (eqb b c) (byte >> one r some) (give none)

-- commands whose byte passes `due`, up to `room` of them: each is its head, the fixed operands, then its body.
-- One more is refused once its head is read. `done` are those read before, the last one first
module _ {A B : Type 0} (due : ℕ → Bool) (head : ℕ → List B → Reader A) (body : A → Reader B) where
  unfoldable pub many : (room : ℕ) (done : List B) → Reader (List B)
  many zero done = do
    b ← peek
    cond (due b) (byte >> head b done >> refuse off_limits) (give (reverse done))
  many (suc room) done = do
    b ← peek
    cond (due b)
        (do
          byte
          a ← head b done
          x ← body a
          many room (x ∷ done))
        (give (reverse done))

-- up to n commands c that have no operands of their own
unfoldable pub up_to : {A : Type 0} → (n c : ℕ) → Reader A → Reader (List A)
up_to n c r = many (λ b. eqb b c) (λ b done. give (tt {0})) (λ _. r) n []
