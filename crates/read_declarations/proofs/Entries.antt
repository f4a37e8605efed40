-- Laws of the entries of a table, one behind the other, and of a table's sides.
use Prim.Native.Nat.{ℕ, suc, ◌+◌, ◌-◌, ◌<◌, ◌≤◌}
use mathlib.Core.Path.{◌≡◌, refl, sym, ap, ◌∙◌}
use mathlib.Core.Bool.{Bool, true, false, ◌&&◌}
use mathlib.Core.List.{List, [], ◌∷◌}
use native.Mathlib.Omega.{arith}
use lib.ListN.{length, drop, length-drop}
use Rattle.laws.proofs.Bools.{and_both}
use Rattle.std.specs.Prelude.{Ok, Err}
use Rattle.model.specs.Readers.{Read, read, refused, ◌>>=◌, give, command, integer}
use Rattle.model.specs.Expressions.{is_count}
use Rattle.model.specs.Commands.{entries, sides}
use Rattle.words.proofs.Literal.{word_is, integer_is, integer_short}
use Rattle.read_declarations.specs.Positions.{read_at, position_of}
use Rattle.read_declarations.specs.Declarations.{one_entry, sides_of}
use Rattle.read_forms.specs.Refusals.{named}
use Rattle.read_forms.specs.declared.refusals.Refusal.{Refusal}
use Rattle.read_forms.specs.declared.refusals.Refusal.TheVariants.{EndsEarly}
use Rattle.read_declarations.specs.declared.Sides.{Sides}
use Rattle.read_declarations.proofs.Operands.{sides_good, sides_beyond, sides_cut, count_bounds}
use Rattle.read_declarations.proofs.Positions.{reads_at, refuses_at, give_at, position_read, position_refused, then_read, then_refused, next_read, next_refused, next_split, next_goes_on, next_stops, given_at}

module _ (bytes : List ℕ) (at : ℕ) where
  -- ---- one entry

  pub entry_good : {m : ℕ} → Ok m ≡ position_of (read_at (command 0x06) at bytes) → 4 ≤ length bytes - m → Ok (m + 4) ≡ position_of (read_at one_entry at bytes)
  entry_good {m} q l =
      let e : integer (drop m bytes) ≡ read _ 4 = integer_is (drop m bytes) (word_is 4 (drop m bytes) (omega (arith, length-drop m bytes))) in
      sym (ap position_of (next_goes_on (command 0x06) integer at bytes q ∙ reads_at integer m bytes e))

  pub entry_cut : {m : ℕ} → Ok m ≡ position_of (read_at (command 0x06) at bytes) → length bytes - m < 4 → Err EndsEarly ≡ position_of (read_at one_entry at bytes)
  entry_cut {m} q l = sym (ap position_of (next_goes_on (command 0x06) integer at bytes q ∙ refuses_at integer m bytes (integer_short (drop m bytes) (omega (arith, length-drop m bytes)))))

  pub entry_refused : {r : Refusal} → Err r ≡ position_of (read_at (command 0x06) at bytes) → Err r ≡ position_of (read_at one_entry at bytes)
  entry_refused q = next_stops (command 0x06) integer at bytes q

  -- ---- so many

  pub no_entries : Ok at ≡ position_of (read_at (entries 0) at bytes)
  unfolding entries
  no_entries = sym (ap position_of (give_at [] at bytes))

  pub entries_more : (n : ℕ) {p : ℕ} → Ok p ≡ position_of (read_at one_entry at bytes) → position_of (read_at (entries n) p bytes) ≡ position_of (read_at (entries (suc n)) at bytes)
  unfolding entries
  entries_more n {p} q =
      let x = position_read (read_at one_entry at bytes) q in
      let s = next_split (command 0x06) integer at bytes x.1 in
      sym (ap position_of (next_read (command 0x06) at bytes _ s.2 ∙ then_read integer s.1 bytes (λ z. entries n >>= λ l. give (z ∷ l)) s.3)
      ∙ given_at (entries n) p bytes (λ l. x.0 ∷ l))

  pub entries_refused : (n : ℕ) {r : Refusal} → Err r ≡ position_of (read_at one_entry at bytes) → Err r ≡ position_of (read_at (entries (suc n)) at bytes)
  unfolding entries
  entries_refused n {r} q = go (read_at (command 0x06) at bytes) refl
    where
      go : (x : Read (Unit {0})) → read_at (command 0x06) at bytes ≡ x → Err r ≡ position_of (read_at (entries (suc n)) at bytes)
      go (read u m) e =
          let h = position_refused (read_at one_entry at bytes) q in
          let i : read_at integer m bytes ≡ refused h.0 = sym (next_read (command 0x06) at bytes integer e) ∙ h.1 in
          q ∙ (ap position_of h.1 ∙ sym (ap position_of (next_read (command 0x06) at bytes _ e ∙ then_refused integer m bytes (λ z. entries n >>= λ l. give (z ∷ l)) i)))
      go (refused u) e =
          q ∙ (ap position_of (next_refused (command 0x06) at bytes integer e) ∙ sym (ap position_of (next_refused (command 0x06) at bytes (integer >>= λ z. entries n >>= λ l. give (z ∷ l)) e)))

-- ---- sides

-- what the sides' answer tells
pub record Sided (e : List ℕ) (r c : ℕ) : Type 0 where
  pub reads : sides e ≡ read (r, c) 2
  pub low_rows : r ≤ 64
  pub low_columns : c ≤ 64

pub sides_told : (e : List ℕ) (s : Sides) → Ok s ≡ sides_of (sides e) → Sided e s.rows s.columns
sides_told [] s q = let h = sides_cut [] (omega arith) in let k = q ∙ ap sides_of h in let z : ◌≡◌ {A = ℕ} 0 1 = cc in absurd (omega arith)
sides_told (a ∷ []) s q = let h = sides_cut (a ∷ []) (omega arith) in let k = q ∙ ap sides_of h in let z : ◌≡◌ {A = ℕ} 0 1 = cc in absurd (omega arith)
sides_told (a ∷ b ∷ e) s q = go (is_count a && is_count b) refl
  where
    go : (t : Bool) → (is_count a && is_count b) ≡ t → Sided (a ∷ b ∷ e) s.rows s.columns
    go true h =
        let p = and_both (is_count a) (is_count b) h in
        let g = sides_good (a ∷ b ∷ e) (omega arith) p.0 p.1 in
        let k : Ok s ≡ sides_of (read (a, b) 2) = q ∙ ap sides_of g in
        let l : s ≡ record { rows = a; columns = b } = cc in
        let i : s.rows ≡ a = ap (λ (x : Sides). x.rows) l in
        let j : s.columns ≡ b = ap (λ (x : Sides). x.columns) l in
        record { reads = rw (i, j) g; low_rows = omega (arith, count_bounds a p.0); low_columns = omega (arith, count_bounds b p.1) }
    go false h = let g = sides_beyond (a ∷ b ∷ e) (omega arith) h in let k = q ∙ ap sides_of g in let z : ◌≡◌ {A = ℕ} 0 1 = cc in absurd (omega arith)

pub sides_refused : (e : List ℕ) {r : Refusal} → Err r ≡ sides_of (sides e) → (t : ℕ) × (sides e ≡ refused t) × (r ≡ named t)
sides_refused e {r} q = go (sides e) q
  where
    go : (x : Read (ℕ × ℕ)) → Err r ≡ sides_of x → (t : ℕ) × (x ≡ refused t) × (r ≡ named t)
    go (read p n) q = let z : ◌≡◌ {A = ℕ} 0 1 = cc in absurd (omega arith)
    go (refused t) q = let h : r ≡ named t = cc in (t, refl, h)
