-- Laws of reading at positions: one reader behind the other, and the turns of a loop of commands.
use Prim.Native.Nat.{ℕ, suc, ◌+◌, ◌-◌, ◌<◌, ◌≤◌}
use mathlib.Core.Path.{◌≡◌, refl, sym, ap, subst, ◌∙◌}
use mathlib.Core.Bool.{Bool, true, false}
use mathlib.Core.List.{List, [], ◌∷◌, ◌++◌, reverse, reverse-append, reverse-reverse}
use native.Mathlib.Omega.{arith}
use native.Mathlib.Nat.{add-zero}
use native.Mathlib.Numerals.{add-one}
use lib.ListN.{length, drop, get_or, length-drop}
use lib.Seq.{drop-cons, drop-drop}
use lib.Dec.{ltb, eqb}
use borrow.Author.Tests.{eq-eqb, ne_eqb, eqb-true, eqb_apart, ltb-true, ltb-false}
use Rattle.std.specs.Prelude.{Result, Ok, Err, IsErrAnd}
use Rattle.model.specs.Numbers.{ends_early, not_due, off_limits}
use Rattle.model.specs.Readers.{Read, read, refused, Reader, after, continue, ◌>>=◌, ◌>>◌, give, require, byte, command, many}
use Rattle.model.specs.Commands.{cost_rule}
use Rattle.model.proofs.Chains.{after_read}
use Rattle.model.proofs.Fair.{Fair, ReadBy, refused_by, command_fair}
use Rattle.model.proofs.Reading.{cost_rule_fair}
use Rattle.model.proofs.Loops.{after_after, many_more, many_end, many_full, many_early, many_head_refused, many_body_refused}
use Rattle.read_forms.specs.Refusals.{number_of, named}
use Rattle.read_forms.specs.declared.refusals.Refusal.{Refusal}
use Rattle.read_forms.proofs.Numbered.{number_named}
use Rattle.read_declarations.specs.Positions.{read_at, position_of}

-- ---- the bytes at a position

pub front : (bytes : List ℕ) (at : ℕ) → at < length bytes → drop at bytes ≡ get_or bytes at 0 ∷ drop (at + 1) bytes
front bytes at h = rw (add-one, drop-cons bytes at 0 h)

pub nothing : (bytes : List ℕ) (at : ℕ) → length bytes ≤ at → drop at bytes ≡ []
nothing bytes at h = go (drop at bytes) (omega (arith, length-drop at bytes))
  where
    go : (e : List ℕ) → length e ≡ 0 → e ≡ []
    go [] q = refl
    go (b ∷ e) q = let z : ⊥ = omega arith in absurd z

-- ---- a refusal that is passed on

pub passed_on : {A : Type 0} (x : Result A Refusal) {r : Refusal} → IsErrAnd x (λ q. q ≡ r) → x ≡ Err r
passed_on (Ok a) h = absurd h
passed_on (Err q) h = ap Err h

-- ---- what was read, by its position

module _ {A : Type 0} where
  pub position_read : (x : Read A) {n : ℕ} → Ok n ≡ position_of x → (a : A) × (x ≡ read a n)
  position_read (read a k) {n} q = let h : k ≡ n = cc in (a, ap (read a) h)
  position_read (refused t) q = let z : ◌≡◌ {A = ℕ} 0 1 = cc in absurd (omega arith)

  pub position_refused : (x : Read A) {r : Refusal} → Err r ≡ position_of x → (t : ℕ) × (x ≡ refused t) × (r ≡ named t)
  position_refused (read a k) q = let z : ◌≡◌ {A = ℕ} 0 1 = cc in absurd (omega arith)
  position_refused (refused t) {r} q = let h : r ≡ named t = cc in (t, refl, h)

  after_refused : (at : ℕ) (x : Read A) {t : ℕ} → after at x ≡ refused t → x ≡ refused t
  unfolding after
  after_refused at (read b k) e = let z : ◌≡◌ {A = ℕ} 0 1 = cc in absurd (omega arith)
  after_refused at (refused u) e = e

  module _ (r : Reader A) (at : ℕ) (bytes : List ℕ) where
    pub reads_at : {a : A} {k : ℕ} → r (drop at bytes) ≡ read a k → read_at r at bytes ≡ read a (at + k)
    unfolding read_at after
    reads_at e = rw e

    pub refuses_at : {t : ℕ} → r (drop at bytes) ≡ refused t → read_at r at bytes ≡ refused t
    unfolding read_at after
    refuses_at e = rw e

    pub at_reads : {a : A} {n : ℕ} → read_at r at bytes ≡ read a n → (k : ℕ) × (r (drop at bytes) ≡ read a k) × (n ≡ at + k)
    unfolding read_at
    at_reads e = after_read at (r (drop at bytes)) e

    pub at_refuses : {t : ℕ} → read_at r at bytes ≡ refused t → r (drop at bytes) ≡ refused t
    unfolding read_at
    at_refuses e = after_refused at (r (drop at bytes)) e

    -- a reader of the format refuses by the number of the refusal that is named
    pub fair_number : Fair r → {t : ℕ} → read_at r at bytes ≡ refused t → number_of (named t) ≡ t
    fair_number fair {t} e = let h = refused_by (subst (ReadBy ◌≤◌ (drop at bytes)) (at_refuses e) (fair (drop at bytes))) in number_named t h.0 h.1

    -- so a refusal that is told has the number that was read; the readers of a model are fair by number_fair, transition_fair and so on
    pub fair_refusal : Fair r → {x : Refusal} → Err x ≡ position_of (read_at r at bytes) → read_at r at bytes ≡ refused (number_of x)
    fair_refusal fair q = let h = position_refused (read_at r at bytes) q in h.1 ∙ ap refused (sym (ap number_of h.2 ∙ fair_number fair h.1))

  pub give_at : (a : A) (at : ℕ) (bytes : List ℕ) → read_at (give a) at bytes ≡ read a at
  unfolding read_at after give
  give_at a at bytes = ap (read a) (add-zero at)

-- ---- one reader behind the other

module _ {A B : Type 0} (r : Reader A) (at : ℕ) (bytes : List ℕ) where
  pub then_read : (next : A → Reader B) {a : A} {n : ℕ} → read_at r at bytes ≡ read a n → read_at (r >>= next) at bytes ≡ read_at (next a) n bytes
  unfolding read_at ◌>>=◌ continue
  then_read next {a} {n} e =
      let p = at_reads r at bytes e in
      rw p.1 (after_after at p.0 _ ∙ (rw (drop-drop p.0 at bytes, ← p.2)))

  pub then_refused : (next : A → Reader B) {t : ℕ} → read_at r at bytes ≡ refused t → read_at (r >>= next) at bytes ≡ refused t
  unfolding read_at ◌>>=◌ continue after
  then_refused next e = rw (at_refuses r at bytes e)

  pub next_read : (next : Reader B) {a : A} {n : ℕ} → read_at r at bytes ≡ read a n → read_at (r >> next) at bytes ≡ read_at next n bytes
  unfolding read_at ◌>>◌ continue
  next_read next {a} {n} e =
      let p = at_reads r at bytes e in
      rw p.1 (after_after at p.0 _ ∙ (rw (drop-drop p.0 at bytes, ← p.2)))

  pub next_refused : (next : Reader B) {t : ℕ} → read_at r at bytes ≡ refused t → read_at (r >> next) at bytes ≡ refused t
  unfolding read_at ◌>>◌ continue after
  next_refused next e = rw (at_refuses r at bytes e)

  -- what is made of the parts does not move the position
  pub given_at : (make : A → B) → position_of (read_at (r >>= λ a. give (make a)) at bytes) ≡ position_of (read_at r at bytes)
  unfolding read_at ◌>>=◌ after continue give
  given_at make = go (r (drop at bytes))
    where
      go : (x : Read A) → position_of (after at (continue x (λ a. give (make a)) (drop at bytes))) ≡ position_of (after at x)
      go (read a n) = ap Ok (ap (λ (k : ℕ). at + k) (add-zero n))
      go (refused t) = refl

-- what two readers, one behind the other, read
module _ {A B : Type 0} (r : Reader A) (next : Reader B) (at : ℕ) (bytes : List ℕ) where
  pub next_goes_on : {m : ℕ} → Ok m ≡ position_of (read_at r at bytes) → read_at (r >> next) at bytes ≡ read_at next m bytes
  next_goes_on q = next_read r at bytes next (position_read (read_at r at bytes) q).1

  pub next_stops : {x : Refusal} → Err x ≡ position_of (read_at r at bytes) → Err x ≡ position_of (read_at (r >> next) at bytes)
  next_stops q =
      let h = position_refused (read_at r at bytes) q in
      q ∙ (ap position_of h.1 ∙ sym (ap position_of (next_refused r at bytes next h.1)))

  pub next_split : {b : B} {n : ℕ} → read_at (r >> next) at bytes ≡ read b n → (a : A) × (m : ℕ) × (read_at r at bytes ≡ read a m) × (read_at next m bytes ≡ read b n)
  next_split {b} {n} e = go (read_at r at bytes) refl
    where
      go : (x : Read A) → read_at r at bytes ≡ x → (a : A) × (m : ℕ) × (read_at r at bytes ≡ read a m) × (read_at next m bytes ≡ read b n)
      go (read a m) q = (a, m, q, sym (next_read r at bytes next q) ∙ e)
      go (refused t) q = let h = next_refused r at bytes next q in let z : ◌≡◌ {A = ℕ} 0 1 = cc in absurd (omega arith)

-- ---- a command's byte

module _ (c at : ℕ) (bytes : List ℕ) where
  pub command_there : at < length bytes → get_or bytes at 0 ≡ c → read_at (command c) at bytes ≡ read tt (at + 1)
  unfolding command ◌>>=◌ continue byte require after
  command_there h q = reads_at (command c) at bytes (rw (front bytes at h, eq-eqb (get_or bytes at 0) c q))

  pub command_other : at < length bytes → (get_or bytes at 0 ≡ c → ⊥) → read_at (command c) at bytes ≡ refused not_due
  unfolding command ◌>>=◌ continue byte require after
  command_other h q = refuses_at (command c) at bytes (rw (front bytes at h, ne_eqb (get_or bytes at 0) c q))

  pub command_early : length bytes ≤ at → read_at (command c) at bytes ≡ refused ends_early
  unfolding command ◌>>=◌ continue byte
  command_early h = refuses_at (command c) at bytes (rw (nothing bytes at h))

  pub command_numbered : {x : Refusal} → Err x ≡ position_of (read_at (command c) at bytes) → read_at (command c) at bytes ≡ refused (number_of x)
  command_numbered q = fair_refusal (command c) at bytes (command_fair c) q

  -- the byte that is read stands at the position
  pub record There (m : ℕ) : Type 0 where
    pub inside : at < length bytes
    pub is : get_or bytes at 0 ≡ c
    pub behind : m ≡ at + 1

  pub command_read : {m : ℕ} → Ok m ≡ position_of (read_at (command c) at bytes) → There m
  command_read {m} q = go (ltb at (length bytes)) refl (eqb (get_or bytes at 0) c) refl
    where
      go : (t : Bool) → ltb at (length bytes) ≡ t → (u : Bool) → eqb (get_or bytes at 0) c ≡ u → There m
      go true h true e =
          let i : at < length bytes = ltb-true at (length bytes) h in
          let k : get_or bytes at 0 ≡ c = eqb-true (get_or bytes at 0) c e in
          let g : Ok m ≡ Ok (at + 1) = q ∙ ap position_of (command_there i k) in
          let l : m ≡ at + 1 = cc in
          record { inside = i; is = k; behind = l }
      go true h false e = let k = q ∙ ap position_of (command_other (ltb-true at (length bytes) h) (eqb_apart (get_or bytes at 0) c e)) in let z : ◌≡◌ {A = ℕ} 0 1 = cc in absurd (omega arith)
      go false h u e = let k = q ∙ ap position_of (command_early (ltb-false at (length bytes) h)) in let z : ◌≡◌ {A = ℕ} 0 1 = cc in absurd (omega arith)

pub cost_rule_numbered : (at : ℕ) (bytes : List ℕ) {x : Refusal} → Err x ≡ position_of (read_at cost_rule at bytes) → read_at cost_rule at bytes ≡ refused (number_of x)
cost_rule_numbered at bytes q = fair_refusal cost_rule at bytes cost_rule_fair q

-- ---- a loop of commands, at a position, with the items read before it in their order

pub reverse_more : {A : Type 0} (l : List A) (x : A) → reverse (l ++ (x ∷ [])) ≡ x ∷ reverse l
reverse_more l x = reverse-append l (x ∷ [])

module _ {A B : Type 0} (due : ℕ → Bool) (head : ℕ → List B → Reader A) (body : A → Reader B) (bytes : List ℕ) where
  -- what the loop reads from a position on, with room for so many more
  abbrev pub rest : (room : ℕ) → List B → (at : ℕ) → Read (List B)
  rest room items at = read_at (many due head body room (reverse items)) at bytes

  module _ (room n : ℕ) (items : List B) (at : ℕ) where
    -- one command more
    pub turn : n < room → at < length bytes → due (get_or bytes at 0) ≡ true → {a : A} {p : ℕ} → read_at (head (get_or bytes at 0) (reverse items)) (at + 1) bytes ≡ read a p
        → {x : B} {end : ℕ} → read_at (body a) p bytes ≡ read x end → rest (room - n) items at ≡ rest (room - (n + 1)) (items ++ (x ∷ [])) end
    unfolding read_at
    turn less h d {a} {p} e {x} {end} f =
        let i = at_reads (head (get_or bytes at 0) (reverse items)) (at + 1) bytes e in
        let j = at_reads (body a) p bytes f in
        let s : room - n ≡ suc (room - (n + 1)) = omega arith in
        let o : drop p bytes ≡ drop i.0 (drop (at + 1) bytes) = ap (λ (k : ℕ). drop k bytes) i.2 ∙ sym (drop-drop i.0 (at + 1) bytes) in
        let g : body a (drop i.0 (drop (at + 1) bytes)) ≡ read x j.0 = rw o at j.1 in
        let l : at + (1 + (i.0 + j.0)) ≡ end = omega (arith, i.2, j.2) in
        let q : drop j.0 (drop i.0 (drop (at + 1) bytes)) ≡ drop end bytes = rw (← o, drop-drop j.0 p bytes, ← j.2) in
        rw (s, front bytes at h, many_more due head body (room - (n + 1)) (reverse items) (get_or bytes at 0) (drop (at + 1) bytes) a i.0 x j.0 d i.1 g, q, reverse_more items x)
        (after_after at (1 + (i.0 + j.0)) _ ∙ ap (λ (k : ℕ). after k (many due head body (room - (n + 1)) (x ∷ reverse items) (drop end bytes))) l)

    -- one command too many
    pub turn_full : n ≡ room → at < length bytes → due (get_or bytes at 0) ≡ true → {a : A} {p : ℕ} → read_at (head (get_or bytes at 0) (reverse items)) (at + 1) bytes ≡ read a p
        → rest (room - n) items at ≡ refused off_limits
    unfolding read_at after
    turn_full full h d {a} {p} e =
        let i = at_reads (head (get_or bytes at 0) (reverse items)) (at + 1) bytes e in
        let s : room - n ≡ 0 = omega arith in
        rw (s, front bytes at h, many_full due head body (reverse items) (get_or bytes at 0) (drop (at + 1) bytes) a i.0 d i.1)

    pub turn_head_refused : at < length bytes → due (get_or bytes at 0) ≡ true → {t : ℕ} → read_at (head (get_or bytes at 0) (reverse items)) (at + 1) bytes ≡ refused t → rest (room - n) items at ≡ refused t
    unfolding read_at after
    turn_head_refused h d {t} e =
        rw (front bytes at h, many_head_refused due head body (room - n) (reverse items) (get_or bytes at 0) (drop (at + 1) bytes) t d (at_refuses (head (get_or bytes at 0) (reverse items)) (at + 1) bytes e))

    pub turn_body_refused : n < room → at < length bytes → due (get_or bytes at 0) ≡ true → {a : A} {p : ℕ} → read_at (head (get_or bytes at 0) (reverse items)) (at + 1) bytes ≡ read a p
        → {t : ℕ} → read_at (body a) p bytes ≡ refused t → rest (room - n) items at ≡ refused t
    unfolding read_at after
    turn_body_refused less h d {a} {p} e {t} f =
        let i = at_reads (head (get_or bytes at 0) (reverse items)) (at + 1) bytes e in
        let s : room - n ≡ suc (room - (n + 1)) = omega arith in
        let o : drop p bytes ≡ drop i.0 (drop (at + 1) bytes) = ap (λ (k : ℕ). drop k bytes) i.2 ∙ sym (drop-drop i.0 (at + 1) bytes) in
        let g : body a (drop i.0 (drop (at + 1) bytes)) ≡ refused t = rw o at (at_refuses (body a) p bytes f) in
        rw (s, front bytes at h, many_body_refused due head body (room - (n + 1)) (reverse items) (get_or bytes at 0) (drop (at + 1) bytes) a i.0 t d i.1 g)

    -- the byte of another command
    pub turn_end : at < length bytes → due (get_or bytes at 0) ≡ false → rest (room - n) items at ≡ read items at
    unfolding read_at after
    turn_end h d =
        rw (front bytes at h, many_end due head body (room - n) (reverse items) (get_or bytes at 0) (drop (at + 1) bytes) d, reverse-reverse) (ap (read items) (add-zero at))

    -- no byte
    pub turn_early : length bytes ≤ at → rest (room - n) items at ≡ refused ends_early
    unfolding read_at after
    turn_early h = rw (nothing bytes at h, many_early due head body (room - n) (reverse items))
