-- Laws of the loops that read variables and tables: what is so far read and stored, and what a turn makes of it.
use Prim.Native.Nat.{ℕ, ◌+◌, ◌-◌, ◌*◌, ◌<◌, ◌≤◌}
use mathlib.Core.Path.{◌≡◌, refl, sym, ap, ◌∙◌}
use mathlib.Core.Bool.{Bool, true, false}
use mathlib.Core.List.{List, [], ◌∷◌, ◌++◌, map}
use native.Mathlib.Omega.{arith}
use native.Mathlib.Numerals.{add-one}
use lib.ListN.{length, get_or, drop, take, set, length-set}
use lib.Seq.{get_or-set_same, get_or-set_other, take-suc-set}
use lib.Dec.{eqb}
use borrow.Author.Tests.{eq-eqb, ne_eqb}
use Rattle.laws.proofs.Lists as lists
use Rattle.laws.proofs.Lists.{byte_inside}
use Rattle.std.specs.Prelude.{Result, Ok, Err}
use Rattle.model.specs.Numbers.{ends_early, off_limits}
use Rattle.model.specs.Readers.{Read, read, refused, give, one}
use Rattle.model.specs.Syntax.{Variable, Table}
use Rattle.model.specs.Expressions.{among}
use Rattle.model.specs.Commands.{variable_of, variables, sides, table_of, tables, entries}
use Rattle.words.specs.Signature.{kind_byte}
use Rattle.words.specs.Tables.{table_word, Tabled}
use Rattle.words.proofs.Entries.{entries_length, entries_cell}
use Rattle.outline.specs.Outline.{VariableAt}
use Rattle.read_declarations.specs.Positions.{read_at, position_of, Each}
use Rattle.read_declarations.specs.Declarations.{sides_of, Declares, DeclaredAs, VariablesRead, TablesRead}
use Rattle.words.proofs.Literal.{suffix}
use Rattle.model.proofs.Reading.{tables_fair}
use Rattle.read_forms.specs.Refusals.{number_of, named}
use Rattle.read_forms.specs.declared.refusals.Refusal.{Refusal}
use Rattle.read_declarations.specs.declared.Declaration.{Declaration}
use Rattle.read_declarations.specs.declared.Sides.{Sides}
use Rattle.read_declarations.proofs.Operands.{cells_bound}
use Rattle.read_declarations.proofs.Entries.{Sided, sides_told, sides_refused}
use Rattle.read_declarations.proofs.Positions.{fair_number, reads_at, refuses_at, at_reads, give_at, position_read, position_refused, then_read, then_refused, rest, turn, turn_full, turn_head_refused, turn_body_refused, turn_end, turn_early}
use Rattle.read_declarations.proofs.Lists.{each_none, each_more, length_more, map_more}

-- ---- variables

-- the words with a variable's kind; then its preference; then its start
abbrev with_kind : List ℕ → (v k : ℕ) → List ℕ
with_kind words v k = set words (16 + v) k

abbrev with_preference : List ℕ → (v k p : ℕ) → List ℕ
with_preference words v k p = set (with_kind words v k) (32 + v) p

abbrev with_start : List ℕ → (v k p s : ℕ) → List ℕ
with_start words v k p s = set (with_preference words v k p) (48 + v) s

module _ (words : List ℕ) (v k p s : ℕ) where
  stored_other : (i : ℕ) → (i ≡ 16 + v → ⊥) → (i ≡ 32 + v → ⊥) → (i ≡ 48 + v → ⊥) → get_or (with_start words v k p s) i 0 ≡ get_or words i 0
  stored_other i a b c =
      get_or-set_other (with_preference words v k p) (48 + v) i s 0 c ∙ (get_or-set_other (with_kind words v k) (32 + v) i p 0 b ∙ get_or-set_other words (16 + v) i k 0 a)

  module _ (whole : length words ≡ 80) (few : v < 16) where
    at_kind : get_or (with_start words v k p s) (16 + v) 0 ≡ k
    at_kind =
        get_or-set_other (with_preference words v k p) (48 + v) (16 + v) s 0 (λ q. omega arith)
        ∙ (get_or-set_other (with_kind words v k) (32 + v) (16 + v) p 0 (λ q. omega arith) ∙ get_or-set_same words (16 + v) k 0 (omega arith))

    at_preference : get_or (with_start words v k p s) (32 + v) 0 ≡ p
    at_preference =
        get_or-set_other (with_preference words v k p) (48 + v) (32 + v) s 0 (λ q. omega arith)
        ∙ get_or-set_same (with_kind words v k) (32 + v) p 0 (simp length-set (omega arith))

    at_start_lem : get_or (with_start words v k p s) (48 + v) 0 ≡ s
    at_start_lem = get_or-set_same (with_preference words v k p) (48 + v) s 0 (simp length-set (omega arith))

abbrev pub stored : List ℕ → (v : ℕ) → Declaration → List ℕ
stored words v d = with_start words v d.kind d.preference d.start

module _ (words : List ℕ) (v : ℕ) (d : Declaration) where
  kept : (i : ℕ) → (i ≡ 16 + v → ⊥) → (i ≡ 32 + v → ⊥) → (i ≡ 48 + v → ⊥) → get_or (stored words v d) i 0 ≡ get_or words i 0
  kept = stored_other words v d.kind d.preference d.start

  stored_before : (k : ℕ) (x : Variable) → k < v → v < 16 → VariableAt words k x → VariableAt (stored words v d) k x
  stored_before k x less few h = record {
    kind = kept (16 + k) (λ q. omega arith) (λ q. omega arith) (λ q. omega arith) ∙ h.kind;
    preference = kept (32 + k) (λ q. omega arith) (λ q. omega arith) (λ q. omega arith) ∙ h.preference;
    start = rw (kept (48 + k) (λ q. omega arith) (λ q. omega arith) (λ q. omega arith)) h.start;
    well_formed = h.well_formed;
  }

  stored_here : length words ≡ 80 → v < 16 → {x : Read Variable} (h : Declares x d) → VariableAt (stored words v d) v h.variable
  stored_here whole few h = record {
    kind = at_kind words v d.kind d.preference d.start whole few ∙ h.kind;
    preference = at_preference words v d.kind d.preference d.start whole few ∙ h.preference;
    start = rw (at_start_lem words v d.kind d.preference d.start whole few) h.start;
    well_formed = h.well_formed;
  }

pub variable_due : (bytes : List ℕ) (at : ℕ) {b : ℕ} {t u : Bool} → b ≡ get_or bytes at 0 → t ≡ among 0x02 3 b → t ≡ u → among 0x02 3 (get_or bytes at 0) ≡ u
variable_due bytes at p q r = ap (among 0x02 3) (sym p) ∙ (sym q ∙ r)

pub variable_inside : (bytes : List ℕ) (at : ℕ) → among 0x02 3 (get_or bytes at 0) ≡ true → at < length bytes
unfolding among
variable_inside bytes at h = lists.inside bytes at (λ z. let q : ◌≡◌ {A = ℕ} 0 1 = cc (ap (among 0x02 3) z) in omega arith)

pub declared_here : (bytes : List ℕ) (at : ℕ) {b : ℕ} {r s : Result Declaration Refusal} → b ≡ get_or bytes at 0 → r ≡ s → DeclaredAs (variable_of b (take (length bytes - (at + 1)) (drop (at + 1) bytes))) r
    → DeclaredAs (variable_of (get_or bytes at 0) (drop (at + 1) bytes)) s
declared_here bytes at {s = s} p q h = rw (← p, ← q, ← suffix (at + 1) bytes) h

abbrev variables_rest : (bytes : List ℕ) (room : ℕ) → List Variable → (at : ℕ) → Read (List Variable)
variables_rest bytes = rest (among 0x02 3) (λ b done. variable_of b) give bytes

-- so many variables are read and stored, and the loop goes on at a position
pub record VariablesSoFar (bytes : List ℕ) (start : ℕ) (kinds words : List ℕ) (at n : ℕ) : Type 0 where
  pub few : n ≤ 16
  pub kinds_length : length kinds ≡ 16
  pub words_length : length words ≡ 80
  pub items : List Variable
  pub count : length items ≡ n
  pub kind_bytes : take n kinds ≡ map kind_byte items
  pub outlined : Each (VariableAt words) items
  pub going_on : variables_rest bytes (16 - n) items at ≡ read_at variables start bytes

pub no_variables : {bytes : List ℕ} {start : ℕ} {kinds words : List ℕ} → length kinds ≡ 16 → length words ≡ 80 → VariablesSoFar bytes start kinds words start 0
unfolding variables
no_variables {words = words} h l = record {
  few = omega arith;
  kinds_length = h;
  words_length = l;
  items = [];
  count = refl;
  kind_bytes = refl;
  outlined = each_none (VariableAt words);
  going_on = refl;
}

module _ {bytes : List ℕ} {start : ℕ} {kinds words : List ℕ} {at n : ℕ} (s : VariablesSoFar bytes start kinds words at n) where
  pub variables_so_far : {T : Type 0} → T → (length kinds ≡ 16) × (length words ≡ 80) × T
  variables_so_far h = (s.kinds_length, s.words_length, h)

  module _ (due : among 0x02 3 (get_or bytes at 0) ≡ true) where
    inside : at < length bytes
    inside = variable_inside bytes at due

    pub variable_more : {d : Declaration} → Declares (variable_of (get_or bytes at 0) (drop (at + 1) bytes)) d → n < 16
        → VariablesSoFar bytes start (set kinds n d.kind) (stored words n d) (at + 1 + d.used) (n + 1)
    variable_more {d} h less =
        let x = h.variable in
        let e : read_at (variable_of (get_or bytes at 0)) (at + 1) bytes ≡ read x (at + 1 + d.used) = reads_at (variable_of (get_or bytes at 0)) (at + 1) bytes h.reads in
        let in_bytes : n < length kinds = omega (arith, s.kinds_length) in
        record {
          few = omega arith;
          kinds_length = length-set kinds n d.kind ∙ s.kinds_length;
          words_length = simp length-set s.words_length;
          items = s.items ++ (x ∷ []);
          count = length_more s.items x s.count;
          kind_bytes = rw (add-one n, take-suc-set kinds n d.kind in_bytes, s.kind_bytes, map_more kind_byte s.items x, h.kind);
          outlined = each_more (VariableAt words) (VariableAt (stored words n d)) s.items x s.outlined
              (λ k y l v. stored_before words n d k y (omega (arith, s.count)) less v) (rw s.count (stored_here words n d s.words_length less h));
          going_on = sym (turn (among 0x02 3) (λ b done. variable_of b) give bytes 16 n s.items at less inside due e (give_at x (at + 1 + d.used) bytes)) ∙ s.going_on;
        }

    pub variable_too_many : {d : Declaration} → Declares (variable_of (get_or bytes at 0) (drop (at + 1) bytes)) d → n ≡ 16 → read_at variables start bytes ≡ refused off_limits
    variable_too_many h full =
        sym s.going_on ∙ turn_full (among 0x02 3) (λ b done. variable_of b) give bytes 16 n s.items at full inside due (reads_at (variable_of (get_or bytes at 0)) (at + 1) bytes h.reads)

    pub variable_refused : {t : ℕ} → variable_of (get_or bytes at 0) (drop (at + 1) bytes) ≡ refused t → read_at variables start bytes ≡ refused t
    variable_refused h =
        sym s.going_on ∙ turn_head_refused (among 0x02 3) (λ b done. variable_of b) give bytes 16 n s.items at inside due (refuses_at (variable_of (get_or bytes at 0)) (at + 1) bytes h)

  pub variables_end : at < length bytes → among 0x02 3 (get_or bytes at 0) ≡ false → VariablesRead (read_at variables start bytes) kinds words at n
  variables_end inside other = record {
    variables = s.items;
    reads = sym s.going_on ∙ turn_end (among 0x02 3) (λ b done. variable_of b) give bytes 16 n s.items at inside other;
    count = s.count;
    few = s.few;
    kind_bytes = s.kind_bytes;
    outlined = s.outlined;
  }

  pub variables_early : length bytes ≤ at → read_at variables start bytes ≡ refused ends_early
  variables_early h = sym s.going_on ∙ turn_early (among 0x02 3) (λ b done. variable_of b) give bytes 16 n s.items at h

-- ---- tables

abbrev tables_rest : (bytes : List ℕ) (room : ℕ) → List Table → (at : ℕ) → Read (List Table)
tables_rest bytes = rest (λ b. eqb b 0x05) (λ b done. sides) table_of bytes

abbrev TabledIn : (bytes words : List ℕ) → ℕ → Table → Type 0
TabledIn bytes words k t = Tabled bytes (get_or words k 0) t

module _ (bytes : List ℕ) (at : ℕ) where
  pub sided_here : {s : Sides} → Ok s ≡ sides_of (sides (take (length bytes - (at + 1)) (drop (at + 1) bytes))) → Sided (drop (at + 1) bytes) s.rows s.columns
  sided_here {s} h = sides_told (drop (at + 1) bytes) s (rw (suffix (at + 1) bytes) at h)

  pub refused_here : {r : Refusal} → Err r ≡ sides_of (sides (take (length bytes - (at + 1)) (drop (at + 1) bytes))) → Err r ≡ sides_of (sides (drop (at + 1) bytes))
  refused_here h = rw (suffix (at + 1) bytes) at h

pub record TablesSoFar (bytes : List ℕ) (start : ℕ) (rows columns words : List ℕ) (at n : ℕ) : Type 0 where
  pub few : n ≤ 32
  pub rows_length : length rows ≡ 32
  pub columns_length : length columns ≡ 32
  pub words_length : length words ≡ 32
  pub items : List Table
  pub count : length items ≡ n
  pub row_bytes : take n rows ≡ map (λ t. t.rows) items
  pub column_bytes : take n columns ≡ map (λ t. t.columns) items
  pub outlined : Each (TabledIn bytes words) items
  pub going_on : tables_rest bytes (32 - n) items at ≡ read_at tables start bytes

pub no_tables : {bytes : List ℕ} {start : ℕ} {rows columns words : List ℕ} → length rows ≡ 32 → length columns ≡ 32 → length words ≡ 32 → TablesSoFar bytes start rows columns words start 0
unfolding tables
no_tables {bytes} {words = words} h l w = record {
  few = omega arith;
  rows_length = h;
  columns_length = l;
  words_length = w;
  items = [];
  count = refl;
  row_bytes = refl;
  column_bytes = refl;
  outlined = each_none (TabledIn bytes words);
  going_on = refl;
}

tabled_before : (bytes words : List ℕ) (n w k : ℕ) (t : Table) → k < n → TabledIn bytes words k t → TabledIn bytes (set words n w) k t
tabled_before bytes words n w k t less h = rw (get_or-set_other words n k w 0 (λ q. omega arith)) h

module _ {bytes : List ℕ} {start : ℕ} {rows columns words : List ℕ} {at n : ℕ} (s : TablesSoFar bytes start rows columns words at n) where
  pub tables_so_far : {T : Type 0} → T → (length rows ≡ 32) × (length columns ≡ 32) × (length words ≡ 32) × T
  tables_so_far h = (s.rows_length, s.columns_length, s.words_length, h)

  module _ (due : get_or bytes at 0 ≡ 5) where
    pub table_inside : at < length bytes
    table_inside = byte_inside bytes at 5 (omega arith) due

    due_table : eqb (get_or bytes at 0) 5 ≡ true
    due_table = eq-eqb (get_or bytes at 0) 5 due

    -- the refusal that is named is the tables' own
    its_own : {r : Refusal} {t : ℕ} → read_at tables start bytes ≡ refused t → r ≡ named t → read_at tables start bytes ≡ refused (number_of r)
    its_own h q = h ∙ ap refused (sym (ap number_of q ∙ fair_number tables start bytes tables_fair h))

    head_refused : {t : ℕ} → sides (drop (at + 1) bytes) ≡ refused t → read_at tables start bytes ≡ refused t
    head_refused h = sym s.going_on ∙ turn_head_refused (λ b. eqb b 0x05) (λ b done. sides) table_of bytes 32 n s.items at table_inside due_table (refuses_at sides (at + 1) bytes h)

    pub table_head_refused : {r : Refusal} → Err r ≡ sides_of (sides (drop (at + 1) bytes)) → read_at tables start bytes ≡ refused (number_of r)
    table_head_refused q =
        let h = sides_refused (drop (at + 1) bytes) q in
        its_own (head_refused h.1) h.2

    module _ {r c : ℕ} (g : Sided (drop (at + 1) bytes) r c) where
      head_reads : read_at sides (at + 1) bytes ≡ read (r, c) (at + 3)
      head_reads = let p : at + 1 + 2 ≡ at + 3 = omega arith in reads_at sides (at + 1) bytes g.reads ∙ ap (read (r, c)) p

      pub table_too_many : n ≡ 32 → read_at tables start bytes ≡ refused off_limits
      table_too_many full = sym s.going_on ∙ turn_full (λ b. eqb b 0x05) (λ b done. sides) table_of bytes 32 n s.items at full table_inside due_table head_reads

      pub table_body_refused : n < 32 → {x : Refusal} → Err x ≡ position_of (read_at (entries (r * c)) (at + 3) bytes) → read_at tables start bytes ≡ refused (number_of x)
      unfolding table_of one
      table_body_refused less q =
          let h = position_refused (read_at (entries (r * c)) (at + 3) bytes) q in
          its_own (sym s.going_on ∙ turn_body_refused (λ b. eqb b 0x05) (λ b done. sides) table_of bytes 32 n s.items at less table_inside due_table head_reads
          (then_refused (entries (r * c)) (at + 3) bytes _ h.1)) h.2

      pub table_more : n < 32 → length bytes ≤ 65536 → {end w : ℕ} → Ok end ≡ position_of (read_at (entries (r * c)) (at + 3) bytes) → w ≡ table_word (at + 3) c (r * c)
          → TablesSoFar bytes start (set rows n r) (set columns n c) (set words n w) end (n + 1)
      unfolding table_of one
      table_more less near {end} {w} q e =
          let f = position_read (read_at (entries (r * c)) (at + 3) bytes) q in
          let l = f.0 in
          let here = at_reads (entries (r * c)) (at + 3) bytes f.1 in
          let size : length l ≡ r * c = entries_length (r * c) (drop (at + 3) bytes) l here.0 here.1 in
          let x : Table = record { rows = r; columns = c; entries = l } in
          let body : read_at (table_of (r, c)) (at + 3) bytes ≡ read x end = then_read (entries (r * c)) (at + 3) bytes _ f.1 ∙ give_at x end bytes in
          let in_rows : n < length rows = omega (arith, s.rows_length) in
          let in_columns : n < length columns = omega (arith, s.columns_length) in
          let in_words : n < length words = omega (arith, s.words_length) in
          let cells : r * c ≤ 4096 = cells_bound r c g.low_rows g.low_columns in
          let tabled : Tabled bytes w x = record {
            at = at + 3;
            packed = e ∙ ap (table_word (at + 3) c) (sym size);
            near = omega (arith, table_inside);
            narrow = omega (arith, g.low_columns);
            few = omega (arith, size);
            cells = λ k h. entries_cell (r * c) bytes (at + 3) l here.0 here.1 k (omega (arith, size));
          } in
          record {
            few = omega arith;
            rows_length = length-set rows n r ∙ s.rows_length;
            columns_length = length-set columns n c ∙ s.columns_length;
            words_length = length-set words n w ∙ s.words_length;
            items = s.items ++ (x ∷ []);
            count = length_more s.items x s.count;
            row_bytes = rw (add-one n, take-suc-set rows n r in_rows, s.row_bytes, map_more (λ (t : Table). t.rows) s.items x);
            column_bytes = rw (add-one n, take-suc-set columns n c in_columns, s.column_bytes, map_more (λ (t : Table). t.columns) s.items x);
            outlined = each_more (TabledIn bytes words) (TabledIn bytes (set words n w)) s.items x s.outlined
                (λ k t h v. tabled_before bytes words n w k t (omega (arith, s.count)) v) (rw (s.count, get_or-set_same words n w 0 in_words) tabled);
            going_on = sym (turn (λ b. eqb b 0x05) (λ b done. sides) table_of bytes 32 n s.items at less table_inside due_table head_reads body) ∙ s.going_on;
          }

  pub tables_end : at < length bytes → (get_or bytes at 0 ≡ 5 → ⊥) → TablesRead bytes (read_at tables start bytes) rows columns words at n
  tables_end inside other = record {
    tables = s.items;
    reads = sym s.going_on ∙ turn_end (λ b. eqb b 0x05) (λ b done. sides) table_of bytes 32 n s.items at inside (ne_eqb (get_or bytes at 0) 5 other);
    count = s.count;
    few = s.few;
    row_bytes = s.row_bytes;
    column_bytes = s.column_bytes;
    outlined = s.outlined;
  }

  pub tables_early : length bytes ≤ at → read_at tables start bytes ≡ refused ends_early
  tables_early h = sym s.going_on ∙ turn_early (λ b. eqb b 0x05) (λ b done. sides) table_of bytes 32 n s.items at h
