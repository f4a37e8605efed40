-- Reading depends on each variable's kind and objects and on each table's sides alone: it may be done over their bytes.
use Prim.Native.Nat.{ℕ, zero, suc, ◌+◌}
use mathlib.Core.Path.{◌≡◌, refl, sym, ap, fun_ext}
use mathlib.Core.List.{List, [], ◌∷◌, map}
use mathlib.Core.Option.{Option}
use mathlib.Core.Option as O
use native.Mathlib.Omega.{arith}
use lib.ListN.{length, get_elem?}
use lib.Dec.{eqb}
use borrow.Author.Tests.{le-leb, lt-leb, ne_eqb}
use Rattle.laws.specs.Lists.{All}
use Rattle.model.specs.Numbers.{mismatch}
use Rattle.model.specs.Syntax.{Element, entry, total, element_count, set_count, Kind, a_set, an_element, a_number, Variable, Table, table_at}
use Rattle.model.specs.Readers.{Reader, after, continue, ◌>>=◌, ◌>>◌, give, require, byte, word}
use Rattle.model.specs.Expressions.{kind_number, declared, variable, table_number, in_table, element, set, number, condition}
use Rattle.words.specs.Signature.{variable_of, variables_of, table_of, tables_of, kind_byte_of, kind_byte, Objects, WellFormed}
use Rattle.words.proofs.Literal.{word_one}

-- ---- the byte of a variable tells its kind and objects

pub kind_of_byte : (k : Kind) (n : ℕ) → Objects k n → (variable_of (kind_byte_of k n)).kind ≡ k
unfolding variable_of kind_byte_of
kind_of_byte a_number n h = refl
kind_of_byte an_element n h = rw (ne_eqb n 0 (λ z. omega (arith, h.0)), le-leb n 64 h.1)
kind_of_byte a_set n h = rw (ne_eqb (64 + n) 0 (λ z. omega arith), lt-leb (64 + n) 64 (omega (arith, h.0)))

pub objects_of_byte : (k : Kind) (n : ℕ) → Objects k n → (variable_of (kind_byte_of k n)).objects ≡ n
unfolding variable_of kind_byte_of
objects_of_byte a_number n h = sym h
objects_of_byte an_element n h = rw (le-leb n 64 h.1)
objects_of_byte a_set n h = rw (lt-leb (64 + n) 64 (omega (arith, h.0))) (omega arith)

-- both undeclared, or of the same kind and objects
pub data SameVariable : Option Variable → Option Variable → Type 0 where
  neither : SameVariable O.none O.none
  both : {x y : Variable} → x.kind ≡ y.kind → x.objects ≡ y.objects → SameVariable (O.some x) (O.some y)

pub same_variable : (vs : List Variable) → All WellFormed vs → (v : ℕ) → SameVariable (get_elem? vs v) (get_elem? (variables_of (map kind_byte vs)) v)
unfolding kind_byte
same_variable [] w v = neither
same_variable (x ∷ vs) w zero = both (sym (kind_of_byte x.kind x.objects w.0)) (sym (objects_of_byte x.kind x.objects w.0))
same_variable (x ∷ vs) w (suc v) = same_variable vs w.1 v

-- ---- the sides of a table

abbrev pub rows_of : List Table → List ℕ
rows_of = map (λ t. t.rows)

abbrev pub columns_of : List Table → List ℕ
columns_of = map (λ t. t.columns)

same_length : (ts : List Table) → length ts ≡ length (tables_of (rows_of ts) (columns_of ts))
unfolding tables_of
same_length [] = refl
same_length (x ∷ ts) = ap suc (same_length ts)

same_rows : (ts : List Table) (t : ℕ) → (table_at ts t).rows ≡ (table_at (tables_of (rows_of ts) (columns_of ts)) t).rows
unfolding tables_of table_of table_at
same_rows [] t = refl
same_rows (x ∷ ts) zero = refl
same_rows (x ∷ ts) (suc t) = same_rows ts t

same_columns : (ts : List Table) (t : ℕ) → (table_at ts t).columns ≡ (table_at (tables_of (rows_of ts) (columns_of ts)) t).columns
unfolding tables_of table_of table_at
same_columns [] t = refl
same_columns (x ∷ ts) zero = refl
same_columns (x ∷ ts) (suc t) = same_columns ts t

-- ---- readers over alike declarations

abbrev of_kind : Kind → (v : ℕ) → Variable → Reader (ℕ × ℕ)
of_kind k v x = require (eqb (kind_number k) (kind_number x.kind)) mismatch >> give (v, x.objects)

module _ (vs : List Variable) (ts : List Table) (us : List Variable) (ss : List Table) where
  variable_alike : ((v : ℕ) → SameVariable (get_elem? vs v) (get_elem? us v)) → (k : Kind) → variable vs ts k ≡ variable us ss k
  unfolding variable ◌>>=◌ continue declared give ◌>>◌
  variable_alike same k = fun_ext go
    where
      by : (v : ℕ) (e : List ℕ) (o p : Option Variable) → SameVariable o p
          → (declared o >>= of_kind k v) e ≡ (declared p >>= of_kind k v) e
      by v e o p neither = refl
      by v e o p (both {x} {y} q r) = rw (q, r)

      go : (e : List ℕ) → variable vs ts k e ≡ variable us ss k e
      go [] = unfold word byte in refl
      go (v ∷ e) = rw (word_one v e) (ap (after 1) (by v e (get_elem? vs v) (get_elem? us v) (same v)))

  module _ (same_count : length ts ≡ length ss) (rows : (t : ℕ) → (table_at ts t).rows ≡ (table_at ss t).rows) (columns : (t : ℕ) → (table_at ts t).columns ≡ (table_at ss t).columns) where
    in_table_alike : {A B : Type 0} (ra : Reader A) (count : A → ℕ) (re : Reader Element) (make : ℕ → A → Element → B) → in_table vs ts ra count re make ≡ in_table us ss ra count re make
    unfolding in_table table_number
    in_table_alike ra count re make = simp (same_count, rows, columns)

    module _ (named : (k : Kind) → variable vs ts k ≡ variable us ss k) where
      element_alike : (d : ℕ) → element vs ts d ≡ element us ss d
      unfolding element
      element_alike zero = refl
      element_alike (suc d) = rw (named an_element)

      set_alike : (d : ℕ) → set vs ts d ≡ set us ss d
      unfolding set
      set_alike zero = refl
      set_alike (suc d) = rw (named a_set, element_alike d, set_alike d)

      mutual
        unfolding number

        number_alike : (d : ℕ) → number vs ts d ≡ number us ss d
        number_alike zero = refl
        number_alike (suc d) =
            rw (
              named a_number,
              element_alike d,
              set_alike d,
              number_alike d,
              condition_alike d,
              in_table_alike (element us ss d) element_count (element us ss d) entry,
              in_table_alike (set us ss d) set_count (element us ss d) total,
            )

        condition_alike : (d : ℕ) → condition vs ts d ≡ condition us ss d
        condition_alike zero = refl
        condition_alike (suc d) = rw (element_alike d, set_alike d, number_alike d, condition_alike d)

-- ---- over the bytes of the declared names

-- the four readers are the same over both declarations
pub record ReadsAlike (vs : List Variable) (ts : List Table) (us : List Variable) (ss : List Table) (d : ℕ) : Type 0 where
  pub elements : element vs ts d ≡ element us ss d
  pub sets : set vs ts d ≡ set us ss d
  pub numbers : number vs ts d ≡ number us ss d
  pub conditions : condition vs ts d ≡ condition us ss d

module _ (vs : List Variable) (ts : List Table) {kinds rows columns : List ℕ}
    (all_well_formed : All WellFormed vs) (of-kinds : map kind_byte vs ≡ kinds) (of-rows : rows_of ts ≡ rows) (of-columns : columns_of ts ≡ columns) where
  pub reads_alike : (d : ℕ) → ReadsAlike vs ts (variables_of kinds) (tables_of rows columns) d
  reads_alike d = rw (← of-kinds, ← of-rows, ← of-columns) (go (variables_of (map kind_byte vs)) (tables_of (rows_of ts) (columns_of ts))
      (same_length ts) (same_rows ts) (same_columns ts) (variable_alike vs ts _ _ (same_variable vs all_well_formed)))
    where
      go : (us : List Variable) (ss : List Table) → length ts ≡ length ss → ((t : ℕ) → (table_at ts t).rows ≡ (table_at ss t).rows) → ((t : ℕ) → (table_at ts t).columns ≡ (table_at ss t).columns)
          → ((k : Kind) → variable vs ts k ≡ variable us ss k) → ReadsAlike vs ts us ss d
      go us ss l r c n = record { elements = element_alike vs ts us ss l r c n d; sets = set_alike vs ts us ss l r c n d; numbers = number_alike vs ts us ss l r c n d; conditions = condition_alike vs ts us ss l r c n d }
