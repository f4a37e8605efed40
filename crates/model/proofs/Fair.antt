-- Fair readers: they use no more bytes than there are, and refuse by the numbers 4 to 9 only. Full readers: fair, and they use all bytes.
-- Both by one predicate, what follows from it, and the combinators that keep it.
use Prim.Native.Nat.{ℕ, zero, suc, ◌+◌, ◌-◌, ◌≤◌}
use mathlib.Core.Path.{◌≡◌, subst}
use mathlib.Core.Bool.{Bool, true, false, cond}
use mathlib.Core.List.{List, [], ◌∷◌}
use native.Mathlib.Omega.{arith}
use lib.ListN.{length, drop, length-drop}
use lib.Dec.{eqb}
use Rattle.model.specs.Numbers.{ends_early, not_due, off_limits}
use Rattle.model.specs.Readers.{Read, read, refused, Reader, after, continue, ◌>>=◌, ◌>>◌, give, refuse, require, peek, byte, word, one, two, three, integer, command, optional, many, up_to}

-- the numbers of the refusals that reading gives
abbrev pub ReadingRefusal : ℕ → Type 0
ReadingRefusal t = (4 ≤ t) × (t ≤ 9)

module _ {A : Type 0} where
  -- bytes used that stand in the relation to those there are, or a refusal
  pub data ReadBy (rel : ℕ → ℕ → Type 0) (bytes : List ℕ) : Read A → Type 0 where
    reads : {a : A} {n : ℕ} → rel n (length bytes) → ReadBy rel bytes (read a n)
    refuses : {t : ℕ} → ReadingRefusal t → ReadBy rel bytes (refused t)

  abbrev pub Fair : Reader A → Type 0
  Fair r = (bytes : List ℕ) → ReadBy ◌≤◌ bytes (r bytes)

  abbrev pub Full : Reader A → Type 0
  Full r = (bytes : List ℕ) → ReadBy ◌≡◌ bytes (r bytes)

  pub cond_fair : (b : Bool) {r s : Reader A} → Fair r → Fair s → Fair (cond b r s)
  cond_fair true f g = f
  cond_fair false f g = g

  pub give_fair : (a : A) → Fair (give a)
  unfolding give
  give_fair a bytes = reads {n = 0} (omega arith)

  pub refuse_fair : (t : ℕ) → ReadingRefusal t → Fair (refuse {A = A} t)
  unfolding refuse
  refuse_fair t h bytes = refuses h

-- the relation holds again where n bytes were used before
abbrev Shifts : (rel : ℕ → ℕ → Type 0) → Type 0
Shifts rel = (n k l : ℕ) → n ≤ l → rel k (l - n) → rel (n + k) l

module _ {rel : ℕ → ℕ → Type 0} where
  pub used_by : {A : Type 0} {bytes : List ℕ} {a : A} {n : ℕ} → ReadBy rel bytes (read a n) → rel n (length bytes)
  used_by (reads h) = h

  pub refused_by : {A : Type 0} {bytes : List ℕ} {t : ℕ} → ReadBy {A = A} rel bytes (refused t) → ReadingRefusal t
  refused_by (refuses h) = h

  module _ (shifts : Shifts rel) where
    after_by : {A : Type 0} {bytes : List ℕ} (n : ℕ) {x : Read A} → n ≤ length bytes → ReadBy rel (drop n bytes) x → ReadBy rel bytes (after n x)
    unfolding after
    after_by {bytes = bytes} n h (reads {n = k} i) = reads {n = n + k} (shifts n k (length bytes) h (subst (rel k) (length-drop n bytes) i))
    after_by n h (refuses i) = refuses i

    module _ {A B : Type 0} where
      continue_by : {bytes : List ℕ} {x : Read A} {next : A → Reader B} → ReadBy ◌≤◌ bytes x → ((a : A) (rest : List ℕ) → ReadBy rel rest (next a rest)) → ReadBy rel bytes (continue x next bytes)
      unfolding continue
      continue_by {bytes} (reads {a} {n} h) f = after_by n h (f a (drop n bytes))
      continue_by (refuses h) f = refuses h

-- a fair reader, then one that is fair, or one that uses all that is left
module _ {A B : Type 0} {r : Reader A} {next : A → Reader B} where
  pub then_fair : Fair r → ((a : A) → Fair (next a)) → Fair (r >>= next)
  unfolding ◌>>=◌
  then_fair f g bytes = continue_by (λ n k l h i. omega arith) (f bytes) g

  pub then_full : Fair r → ((a : A) → Full (next a)) → Full (r >>= next)
  unfolding ◌>>=◌
  then_full f g bytes = continue_by (λ n k l h i. omega arith) (f bytes) g

module _ {A B : Type 0} {r : Reader A} {next : Reader B} where
  pub next_fair : Fair r → Fair next → Fair (r >> next)
  unfolding ◌>>=◌ ◌>>◌
  next_fair f g = then_fair f (λ _. g)

  pub next_full : Fair r → Full next → Full (r >> next)
  unfolding ◌>>=◌ ◌>>◌
  next_full f g = then_full f (λ _. g)

pub require_fair : (b : Bool) (t : ℕ) → ReadingRefusal t → Fair (require b t)
unfolding require
require_fair true t h bytes = reads {n = 0} (omega arith)
require_fair false t h bytes = refuses h

pub require_give_fair : {A : Type 0} (b : Bool) (t : ℕ) (a : A) → ReadingRefusal t → Fair (require b t >> give a)
require_give_fair b t a h = next_fair (require_fair b t h) (give_fair a)

pub peek_fair : Fair peek
unfolding peek
peek_fair [] = refuses {t = ends_early} (omega arith)
peek_fair (b ∷ bytes) = reads {n = 0} (omega arith)

pub byte_fair : Fair byte
unfolding byte
byte_fair [] = refuses {t = ends_early} (omega arith)
byte_fair (b ∷ bytes) = reads {n = 1} (omega arith)

pub word_fair : (k : ℕ) → Fair (word k)
unfolding word
word_fair zero = give_fair 0
word_fair (suc k) = then_fair byte_fair (λ b. then_fair (word_fair k) (λ w. give_fair _))

module _ {A B : Type 0} where
  pub one_fair : {r : Reader A} (make : A → B) → Fair r → Fair (one r make)
  unfolding one
  one_fair make f = then_fair f (λ a. give_fair _)

  module _ {C : Type 0} where
    pub two_fair : {ra : Reader A} {rb : Reader B} (make : A → B → C) → Fair ra → Fair rb → Fair (two ra rb make)
    unfolding two
    two_fair make f g = then_fair f (λ a. then_fair g (λ b. give_fair _))

    module _ {D : Type 0} where
      pub three_fair : {ra : Reader A} {rb : Reader B} {rc : Reader C} (make : A → B → C → D) → Fair ra → Fair rb → Fair rc → Fair (three ra rb rc make)
      unfolding three
      three_fair make f g h = then_fair f (λ a. then_fair g (λ b. then_fair h (λ c. give_fair _)))

pub integer_fair : Fair integer
unfolding integer
integer_fair = one_fair _ (word_fair 4)

pub command_fair : (c : ℕ) → Fair (command c)
unfolding command
command_fair c = then_fair byte_fair (λ b. require_fair _ not_due (omega arith))

pub optional_fair : {A : Type 0} (c : ℕ) {r : Reader A} → Fair r → Fair (optional c r)
unfolding optional
optional_fair c f = then_fair peek_fair (λ b. cond_fair (eqb b c) (next_fair byte_fair (one_fair _ f)) (give_fair _))

module _ {A B : Type 0} (due : ℕ → Bool) {head : ℕ → List B → Reader A} {body : A → Reader B} where
  pub many_fair : ((b : ℕ) (done : List B) → Fair (head b done)) → ((a : A) → Fair (body a)) → (room : ℕ) (done : List B) → Fair (many due head body room done)
  unfolding many
  many_fair f g zero done = then_fair peek_fair (λ b. cond_fair (due b) (next_fair (next_fair byte_fair (f b done)) (refuse_fair off_limits (omega arith))) (give_fair _))
  many_fair f g (suc room) done = then_fair peek_fair (λ b. cond_fair (due b) (next_fair byte_fair (then_fair (f b done) (λ a. then_fair (g a) (λ x. many_fair f g room (x ∷ done))))) (give_fair _))

pub up_to_fair : {A : Type 0} (n c : ℕ) {r : Reader A} → Fair r → Fair (up_to n c r)
unfolding up_to
up_to_fair n c f = many_fair (λ b. eqb b c) (λ b done. give_fair tt) (λ _. f) n []
