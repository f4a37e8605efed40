-- Loops of commands: `many` by its turns. One command more that is read well, the byte of another command, one command too many.
-- These are the laws by which code that reads in a loop is compared with the definition.
use Prim.Native.Nat.{ℕ, zero, suc, ◌+◌}
use mathlib.Core.Path.{◌≡◌, refl, ◌∙◌, ap}
use mathlib.Core.Bool.{Bool, true, false}
use mathlib.Core.List.{List, [], ◌∷◌, reverse}
use native.Mathlib.Omega.{arith}
use lib.ListN.{drop}
use Rattle.model.specs.Numbers.{ends_early, off_limits}
use Rattle.model.specs.Readers.{Read, read, refused, Reader, after, continue, ◌>>=◌, ◌>>◌, give, refuse, peek, byte, many}

pub after_after : {A : Type 0} (n m : ℕ) (x : Read A) → after n (after m x) ≡ after (n + m) x
unfolding after
after_after n m (read a k) = ap (read a) (omega arith)
after_after n m (refused t) = refl

pub after_zero : {A : Type 0} (x : Read A) → after 0 x ≡ x
unfolding after
after_zero (read a k) = ap (read a) (omega arith)
after_zero (refused t) = refl

module _ {A B : Type 0} (due : ℕ → Bool) (head : ℕ → List B → Reader A) (body : A → Reader B) where
  -- one command more, then the loop on what is left
  pub many_more : (room : ℕ) (done : List B) (b : ℕ) (bytes : List ℕ) (a : A) (n : ℕ) (x : B) (k : ℕ)
      → due b ≡ true → head b done bytes ≡ read a n → body a (drop n bytes) ≡ read x k
      → many due head body (suc room) done (b ∷ bytes) ≡ after (1 + (n + k)) (many due head body room (x ∷ done) (drop k (drop n bytes)))
  unfolding many ◌>>=◌ ◌>>◌ continue peek byte
  many_more room done b bytes a n x k d h q = rw (d, h, q) (after_zero _ ∙ (ap (after 1) (after_after n k _) ∙ after_after 1 (n + k) _))

  -- the byte of another command ends the loop and stays
  pub many_end : (room : ℕ) (done : List B) (b : ℕ) (bytes : List ℕ) → due b ≡ false → many due head body room done (b ∷ bytes) ≡ read (reverse done) 0
  unfolding many ◌>>=◌ continue peek after give
  many_end zero done b bytes d = rw d
  many_end (suc room) done b bytes d = rw d

  -- one command too many
  pub many_full : (done : List B) (b : ℕ) (bytes : List ℕ) (a : A) (n : ℕ) → due b ≡ true → head b done bytes ≡ read a n → many due head body 0 done (b ∷ bytes) ≡ refused off_limits
  unfolding many ◌>>=◌ ◌>>◌ continue peek byte after refuse
  many_full done b bytes a n d h = rw (d, h)

  -- no byte is left
  pub many_early : (room : ℕ) (done : List B) → many due head body room done [] ≡ refused ends_early
  unfolding many ◌>>=◌ continue peek
  many_early zero done = refl
  many_early (suc room) done = refl

  -- a command whose head or body is refused
  pub many_head_refused : (room : ℕ) (done : List B) (b : ℕ) (bytes : List ℕ) (t : ℕ) → due b ≡ true → head b done bytes ≡ refused t → many due head body room done (b ∷ bytes) ≡ refused t
  unfolding many ◌>>=◌ ◌>>◌ continue peek byte after
  many_head_refused zero done b bytes t d h = rw (d, h)
  many_head_refused (suc room) done b bytes t d h = rw (d, h)

  pub many_body_refused : (room : ℕ) (done : List B) (b : ℕ) (bytes : List ℕ) (a : A) (n t : ℕ)
      → due b ≡ true → head b done bytes ≡ read a n → body a (drop n bytes) ≡ refused t → many due head body (suc room) done (b ∷ bytes) ≡ refused t
  unfolding many ◌>>=◌ ◌>>◌ continue peek byte after
  many_body_refused room done b bytes a n t d h q = rw (d, h, q)
