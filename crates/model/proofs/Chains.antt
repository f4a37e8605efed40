-- What readers read, one behind the other: the first's value and bytes, then the second's on what is left.
use Prim.Native.Nat.{ℕ, ◌+◌}
use mathlib.Core.Path.{◌≡◌, refl, ◌∙◌}
use mathlib.Core.Bool.{Bool, true, false}
use mathlib.Core.List.{List, [], ◌∷◌}
use native.Mathlib.Omega.{arith}
use lib.ListN.{get_or, drop}
use lib.Dec.{eqb}
use borrow.Author.Tests.{eqb-true}
use Rattle.model.specs.Numbers.{not_due}
use Rattle.model.specs.Readers.{Read, read, refused, Reader, after, continue, ◌>>=◌, give, require, byte, command}

pub after_read : {A : Type 0} (n : ℕ) (r : Read A) {a : A} {u : ℕ} → after n r ≡ read a u → (m : ℕ) × (r ≡ read a m) × (u ≡ n + m)
unfolding after
after_read n (read x m) e = (m, cc, cc)
after_read n (refused t) e = let z : ◌≡◌ {A = ℕ} 0 1 = cc in absurd (omega arith)

pub record Chain {A B : Type 0} (r : Read A) (next : A → Reader B) (e : List ℕ) (b : B) (u : ℕ) : Type 0 where
  pub first : A
  pub used : ℕ
  pub left : ℕ
  pub reads_first : r ≡ read first used
  pub reads_next : next first (drop used e) ≡ read b left
  pub uses : u ≡ used + left

pub chain : {A B : Type 0} (r : Read A) (next : A → Reader B) (e : List ℕ) (b : B) (u : ℕ) → continue r next e ≡ read b u → Chain r next e b u
unfolding continue
chain (read a n) next e b u h =
    let p = after_read n (next a (drop n e)) h in
    record { first = a; used = n; left = p.0; reads_first = refl; reads_next = p.1; uses = p.2 }
chain (refused t) next e b u h = let z : ◌≡◌ {A = ℕ} 0 1 = cc in absurd (omega arith)

pub given : {A : Type 0} (a : A) (e : List ℕ) (b : A) (u : ℕ) → give a e ≡ read b u → (a ≡ b) × (u ≡ 0)
unfolding give
given a e b u h = (cc, cc)

pub required : (b : Bool) (t : ℕ) (e : List ℕ) (x : Unit {0}) (n : ℕ) → require b t e ≡ read x n → (b ≡ true) × (n ≡ 0)
unfolding require
required true t e x n h = (refl, cc)
required false t e x n h = let z : ◌≡◌ {A = ℕ} 0 1 = cc in absurd (omega arith)

pub byte_used : (e : List ℕ) (b n : ℕ) → byte e ≡ read b n → (n ≡ 1) × (get_or e 0 0 ≡ b)
unfolding byte
byte_used [] b n h = let z : ◌≡◌ {A = ℕ} 0 1 = cc in absurd (omega arith)
byte_used (x ∷ e) b n h = (cc, cc)

pub commanded : (c : ℕ) (e : List ℕ) (x : Unit {0}) (n : ℕ) → command c e ≡ read x n → (n ≡ 1) × (get_or e 0 0 ≡ c)
unfolding command ◌>>=◌
commanded c e x n h =
    let p = chain (byte e) _ e x n h in
    let q = byte_used e p.first p.used p.reads_first in
    let r = required (eqb p.first c) not_due (drop p.used e) x p.left p.reads_next in
    (omega (arith, p.uses, q.0, r.1), q.1 ∙ eqb-true p.first c r.0)
