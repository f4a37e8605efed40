-- The refusals and their numbers tell each other: where a reader is told to refuse by name, it read the refusal of that name's number.
use Prim.Native.Nat.{ℕ, suc, ◌≤◌}
use mathlib.Core.Path.{◌≡◌, refl, sym, ap, subst, ◌∙◌}
use mathlib.Core.Bool.{Bool, ◌&&◌}
use mathlib.Core.List.{List}
use native.Mathlib.Omega.{arith}
use lib.Dec.{leb}
use borrow.Author.Tests.{le-leb}
use Rattle.std.specs.Prelude.{Err}
use Rattle.model.specs.Numbers.{ends_early, bytes_after_end}
use Rattle.model.specs.Syntax.{element_count, set_count, Variable, Table}
use Rattle.model.specs.Readers.{Read, read, refused, Reader, integer}
use Rattle.model.specs.Expressions.{objects_and_members, object_number, element, set, number, condition}
use Rattle.model.proofs.Fair.{ReadBy, Fair, refused_by, integer_fair}
use Rattle.model.proofs.Reading.{object_number_fair, objects_and_members_fair, element_fair, set_fair, number_fair, condition_fair}
use Rattle.words.proofs.Bytes.{agree}
use Rattle.read_forms.specs.Refusals.{number_of, named}
use Rattle.read_forms.specs.Parts.{no_count, part_of, part_at}
use Rattle.read_forms.specs.declared.Due.{Due}
use Rattle.read_forms.specs.declared.Due.TheVariants as D
use Rattle.read_forms.specs.declared.refusals.Refusal.{Refusal}
use Rattle.read_forms.specs.declared.refusals.Refusal.TheVariants.{EndsEarly, NotDue, Mismatch, OffLimits, TooDeep, BytesAfterEnd}

pub named_number : (r : Refusal) → named (number_of r) ≡ r
named_number EndsEarly = refl
named_number NotDue = refl
named_number Mismatch = refl
named_number OffLimits = refl
named_number TooDeep = refl
named_number BytesAfterEnd = refl

abbrev is_named : ℕ → Bool
is_named t = leb ends_early t && leb t bytes_after_end

pub number_named : (t : ℕ) → ends_early ≤ t → t ≤ bytes_after_end → number_of (named t) ≡ t
number_named t l h = agree is_named (λ t. number_of (named t)) (λ t. t) refl t (omega arith) (rw (le-leb ends_early t l, le-leb t bytes_after_end h))

-- a refusal that is named by a number of the readers has that number
pub named_kept : {x : Refusal} {t : ℕ} → ends_early ≤ t → t ≤ bytes_after_end → x ≡ named t → number_of x ≡ t
named_kept {t = t} l h q = ap number_of q ∙ number_named t l h

-- ---- what was read, by the refusal that is told of it

module _ {A : Type 0} (count : A → ℕ) where
  part_refused : (r : Read A) {x : Refusal} → Err x ≡ part_of count r → (t : ℕ) × (r ≡ refused t) × (x ≡ named t)
  part_refused (read a n) q = let z : ◌≡◌ {A = ℕ} 0 1 = cc in absurd (omega arith)
  part_refused (refused t) {x} q = let h : x ≡ named t = cc in (t, refl, h)

  -- a reader of the format refuses by the number of the refusal that is told
  pub part_numbered : {r : Reader A} → Fair r → (e : List ℕ) {x : Refusal} → Err x ≡ part_of count (r e) → r e ≡ refused (number_of x)
  part_numbered {r} fair e q =
      let h = part_refused (r e) q in
      let k = refused_by (subst (ReadBy ◌≤◌ e) h.1 (fair e)) in
      h.1 ∙ ap refused (sym (named_kept k.0 k.1 h.2))

pub integer_numbered : (e : List ℕ) {x : Refusal} → Err x ≡ part_of no_count (integer e) → integer e ≡ refused (number_of x)
integer_numbered e q = part_numbered no_count integer_fair e q

pub object_numbered : (e : List ℕ) {x : Refusal} → Err x ≡ part_of suc (object_number e) → object_number e ≡ refused (number_of x)
object_numbered e q = part_numbered suc object_number_fair e q

pub objects_and_members_numbered : (e : List ℕ) {x : Refusal} → Err x ≡ part_of (λ p. p.0) (objects_and_members e) → objects_and_members e ≡ refused (number_of x)
objects_and_members_numbered e q = part_numbered (λ p. p.0) objects_and_members_fair e q

module _ (vs : List Variable) (ts : List Table) (d : ℕ) (e : List ℕ) where
  -- the expression that is due is refused by this number
  abbrev pub RefusedBy : ℕ → Due → Type 0
  RefusedBy t D.Number = number vs ts d e ≡ refused t
  RefusedBy t D.Condition = condition vs ts d e ≡ refused t
  RefusedBy t D.Element = element vs ts d e ≡ refused t
  RefusedBy t D.Set = set vs ts d e ≡ refused t

  pub part_at_numbered : (due : Due) {x : Refusal} → Err x ≡ part_at due vs ts d e → RefusedBy (number_of x) due
  unfolding part_at
  part_at_numbered D.Number q = part_numbered no_count (number_fair vs ts d) e q
  part_at_numbered D.Condition q = part_numbered no_count (condition_fair vs ts d) e q
  part_at_numbered D.Element q = part_numbered element_count (element_fair vs ts d) e q
  part_at_numbered D.Set q = part_numbered set_count (set_fair vs ts d) e q
