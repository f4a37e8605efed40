-- An expression's answer from the layout of its first byte, and what the readers' functions cite at their places.
use Prim.Native.Nat.{ℕ, zero, suc, ◌+◌, ◌-◌, ◌≤◌, ◌<◌, ◌^◌}
use mathlib.Core.Path.{◌≡◌, refl, sym, ap, subst⁻¹, ◌∙◌}
use mathlib.Core.Bool.{Bool, true, false, cond, ◌&&◌}
use mathlib.Core.List.{List, [], ◌∷◌, map}
use mathlib.Core.Option as O
use native.Mathlib.Omega.{arith}
use lib.ListN.{length, get_or, take, drop, length-drop, get_elem?}
use lib.Dec.{leb, ltb, eqb}
use borrow.Author.Tests.{lt-ltb, le-ltb, ltb-true, ltb-false}
use Rattle.model.specs.Numbers.{mismatch, not_due}
use Rattle.model.specs.Syntax.{Element, object, add, remove, union, intersection, difference, complement, Number, literal, plus, minus, times, quotient, lesser, greater, entry, size, total, choice, Condition, equal, less, at_most, same, member, is_empty, subset, negation, both, either, element_count, set_count, Kind, a_set, an_element, a_number, Variable, Table, table_at}
use Rattle.model.specs.Readers.{Reader, after, continue, ◌>>=◌, ◌>>◌, give, refuse, require, byte, word, one, two, three, integer}
use Rattle.model.specs.Expressions.{Form, ◌⇒◌, form_of, begins_expression, no_depth, objects_and_members, object_number, kind_number, declared, variable, table_number, in_table, element, set, number, condition}
use Rattle.words.specs.Signature.{variable_of, table_of, tables_of}
use Rattle.std.specs.Prelude.{Result, Ok, Err}
use Rattle.read_forms.specs.Parts.{Answer, good, no_count, variables_in, tables_in, part_of, part_at}
use Rattle.read_forms.specs.Layouts.{Row, ◌begins◌, refusal_of, layout_in, layouts, layout_of}
use Rattle.read_forms.specs.Forms.{and_then, behind, two_parts, fitted, within, plus_parts, choice_of, count_for, whole, TakesAtMost, TakeAtMost, due_number, variable_at, parts_at, in_table_at, choice_at, form_at}
use Rattle.read_forms.specs.declared.Due.{Due}
use Rattle.read_forms.specs.declared.Due.TheVariants as D
use Rattle.read_forms.specs.declared.Part.{Part}
use Rattle.read_forms.specs.declared.Names.{Names}
use Rattle.read_forms.specs.declared.Parts.{Parts}
use Rattle.read_forms.specs.declared.refusals.Refusal.{Refusal}
use Rattle.read_forms.specs.declared.refusals.Refusal.TheVariants.{EndsEarly, NotDue, Mismatch, TooDeep}
use Rattle.read_forms.specs.declared.Fit.TheVariants.{Any}
use Rattle.read_forms.specs.declared.Layout.{Layout}
use Rattle.words.proofs.Literal.{word_one, suffix}
use Rattle.read_forms.proofs.Counts.{then_then, counted, one_more, part_after, whole_counted, short_part, by_one, by_two, by_element_and_set, by_two_sets, by_three, in_sides_lem}
use Rattle.read_forms.proofs.Bounds.{bounded_element, bounded_set, bounded_number, bounded_condition}

-- ---- declared names

declared_variable : (ks : List ℕ) (v : ℕ) → v < length ks → get_elem? (map variable_of ks) v ≡ O.some (variable_of (get_or ks v 0))
declared_variable [] v h = absurd (omega arith)
declared_variable (k ∷ ks) zero h = refl
declared_variable (k ∷ ks) (suc v) h = declared_variable ks v (omega arith)

undeclared_variable : (ks : List ℕ) (v : ℕ) → length ks ≤ v → get_elem? (map variable_of ks) v ≡ O.none
undeclared_variable [] v h = refl
undeclared_variable (k ∷ ks) zero h = absurd (omega arith)
undeclared_variable (k ∷ ks) (suc v) h = undeclared_variable ks v (omega arith)

pub tables_length : (rs cs : List ℕ) → length (tables_of rs cs) ≡ length rs
unfolding tables_of
tables_length [] cs = refl
tables_length (r ∷ rs) [] = ap suc (tables_length rs [])
tables_length (r ∷ rs) (c ∷ cs) = ap suc (tables_length rs cs)

pub tables_rows : (rs cs : List ℕ) (t : ℕ) → (table_at (tables_of rs cs) t).rows ≡ get_or rs t 0
unfolding tables_of table_at table_of
tables_rows [] cs t = refl
tables_rows (r ∷ rs) [] zero = refl
tables_rows (r ∷ rs) (c ∷ cs) zero = refl
tables_rows (r ∷ rs) [] (suc t) = tables_rows rs [] t
tables_rows (r ∷ rs) (c ∷ cs) (suc t) = tables_rows rs cs t

pub tables_columns : (rs cs : List ℕ) (t : ℕ) → t < length rs → (table_at (tables_of rs cs) t).columns ≡ get_or cs t 0
unfolding tables_of table_at table_of
tables_columns [] cs t h = absurd (omega arith)
tables_columns (r ∷ rs) [] zero h = refl
tables_columns (r ∷ rs) (c ∷ cs) zero h = refl
tables_columns (r ∷ rs) [] (suc t) h = tables_columns rs [] t (omega arith)
tables_columns (r ∷ rs) (c ∷ cs) (suc t) h = tables_columns rs cs t (omega arith)

-- ---- variables and tables

module _ (names : Names) where
  abbrev kinds : List ℕ
  kinds = names.kinds.now

  abbrev rows : List ℕ
  rows = names.rows.now

  abbrev columns : List ℕ
  columns = names.columns.now

  abbrev vs : List Variable
  vs = variables_in names

  abbrev ts : List Table
  ts = tables_in names

  by_variable : (due : Due) (kind : Kind) → due_number due ≡ kind_number kind → (e : List ℕ) → part_of (λ p. p.1) (variable vs ts kind e) ≡ variable_at due kinds e
  unfolding variable variable_at ◌>>=◌ ◌>>◌ continue declared require give refuse after
  by_variable due kind q [] = unfold word byte in refl
  by_variable due kind q (v ∷ e) = rw (word_one v e, q, lt-ltb 0 (length (v ∷ e)) (omega arith)) (go (ltb v (length kinds)) refl)
    where
      tested : (x : Variable) (t : Bool) → part_of (λ (p : ℕ × ℕ). p.1) (after 1 (after 0 ((require t mismatch >> give (v, x.objects)) e))) ≡ cond t (good 1 x.objects) (Err Mismatch)
      tested x true = refl
      tested x false = refl

      go : (t : Bool) → ltb v (length kinds) ≡ t
          → part_of (λ (p : ℕ × ℕ). p.1) (after 1 ((declared (get_elem? vs v) >>= λ x. require (eqb (kind_number kind) (kind_number x.kind)) mismatch >> give (v, x.objects)) e))
          ≡ cond t (cond (eqb (kind_number kind) (kind_number (variable_of (get_or kinds v 0)).kind)) (good 1 (variable_of (get_or kinds v 0)).objects) (Err Mismatch)) (Err Mismatch)
      go true s = rw (declared_variable kinds v (ltb-true v (length kinds) s)) (tested (variable_of (get_or kinds v 0)) (eqb (kind_number kind) (kind_number (variable_of (get_or kinds v 0)).kind)))
      go false s = rw (undeclared_variable kinds v (ltb-false v (length kinds) s))

  by_in_table : {A : Type 0} (f : A → ℕ) (ra : Reader A) (re : Reader Element) (make : ℕ → A → Element → Number) (e : List ℕ)
      → part_of no_count (in_table vs ts ra f re make e)
      ≡ counted D.Number (cond (ltb 0 (length e)) (cond (ltb (get_or e 0 0) (length rows)) (and_then
      (two_parts (part_of f (ra (drop 1 e))) (λ n. part_of element_count (re (drop n (drop 1 e))))) (within (get_or rows (get_or e 0 0) 0) (get_or columns (get_or e 0 0) 0))) (Err Mismatch)) (Err EndsEarly))
  unfolding in_table table_number ◌>>=◌ ◌>>◌ continue require give after
  by_in_table f ra re make [] = unfold word byte in refl
  by_in_table {A} f ra re make (t ∷ e) = rw (word_one t e, tables_length rows columns, lt-ltb 0 (length (t ∷ e)) (omega arith)) (go (ltb t (length rows)) refl)
    where
      go : (b : Bool) → ltb t (length rows) ≡ b
          → part_of no_count (continue (after 1 (continue (require b mismatch e) (λ _. give t) e)) (λ t. ra >>= λ a. re >>= λ y. require (leb (f a) (table_at ts t).rows && leb (element_count y) (table_at ts t).columns) mismatch >> give (make t a y)) (t ∷ e))
          ≡ counted D.Number (cond b (and_then (two_parts (part_of f (ra e)) (λ n. part_of element_count (re (drop n e)))) (within (get_or rows t 0) (get_or columns t 0))) (Err Mismatch))
      go true s = rw (tables_rows rows columns t, tables_columns rows columns t (ltb-true t (length rows) s))
          (in_sides_lem f ra re (make t) (get_or rows t 0) (get_or columns t 0) e)
      go false s = refl

  -- ---- an expression from its layout

  module _ (d : ℕ) (e : List ℕ) where
    -- the readers of forms, told by their sizes, are those of the layouts, row by row
    infixr 60 ◌&◌
    data Told {A : Type 0} (x : Due) (h : A → ℕ) : List (Form A) → List Row → Type 0 where
      end : Told x h [] []
      ◌&◌ : {b : ℕ} {r : Reader A} {l : Layout} {fs : List (Form A)} {ls : List Row} → part_of h (r e) ≡ counted x (form_at names l d e) → Told x h fs ls
          → Told x h ((b ⇒ r) ∷ fs) ((b begins l) ∷ ls)

    -- the expression that is due, by its layout or its refusal
    abbrev by_layout : Result Layout Refusal → Answer
    by_layout r = and_then r (λ l. form_at names l d e)

    told : {A : Type 0} (x : Due) (h : A → ℕ) {fs : List (Form A)} {ls : List Row} → Told x h fs ls → (b : ℕ) → part_of h (form_of fs b e) ≡ counted x (by_layout (layout_in ls b))
    unfolding form_of layout_in refuse refusal_of
    told {A} x h end b = go (begins_expression b)
      where
        go : (t : Bool) → part_of {A = A} h (refuse (cond t mismatch not_due) e) ≡ counted x (by_layout (Err (cond t Mismatch NotDue)))
        go true = refl
        go false = refl
    told {A} x h (◌&◌ {b = a} {r = r} {l = l} {fs = fs} {ls = ls} p ps) b = go (eqb b a) (told x h ps b)
      where
        go : (t : Bool) → part_of h (form_of fs b e) ≡ counted x (by_layout (layout_in ls b)) → part_of h (cond t r (form_of fs b) e) ≡ counted x (by_layout (cond t (Ok l) (layout_in ls b)))
        go true q = p
        go false q = q

    opened : {A : Type 0} (x : Due) (h : A → ℕ) {fs : List (Form A)} {ls : List Row} → Told x h fs ls → (b : ℕ) → part_of h ((byte >>= form_of fs) (b ∷ e)) ≡ and_then (by_layout (layout_in ls b)) (λ p. Ok (whole x p))
    unfolding ◌>>=◌ continue byte
    opened x h {fs} {ls} ps b = part_after h (form_of fs b e) ∙ ap one_more (told x h ps b) ∙ whole_counted x (by_layout (layout_in ls b))

    by_name : {A : Type 0} (x : Due) (kind : Kind) (h : A → ℕ) (make : ℕ × ℕ → A) → due_number x ≡ kind_number kind → ((p : ℕ × ℕ) → h (make p) ≡ count_for x p.1)
        → part_of h (one (variable vs ts kind) make e) ≡ counted x (variable_at x kinds e)
    by_name x kind h make k q = by_one x h (λ p. p.1) make q (variable vs ts kind) e ∙ ap (counted x) (by_variable x kind k e)

    by_any : {A B C : Type 0} (x : Due) (f : A → ℕ) (g : B → ℕ) (ra : Reader A) (rb : Reader B) (make : A → B → C) → count_for x 0 ≡ 0
        → part_of no_count (two ra rb make e) ≡ counted x (and_then (two_parts (part_of f (ra e)) (λ n. part_of g (rb (drop n e)))) (fitted Any))
    by_any x f g ra rb make q =
        by_two f g no_count (λ p. counted x (fitted Any p)) ra rb make e (λ n a b. ap (good n) q)
        ∙ sym (then_then (two_parts (part_of f (ra e)) (λ n. part_of g (rb (drop n e)))) (fitted Any) _)

    opened_element : (b : ℕ) → part_of element_count (element vs ts (suc d) (b ∷ e)) ≡ and_then (by_layout (layout_of D.Element b)) (λ p. Ok (whole D.Element p))
    unfolding element layouts element_count kind_number
    opened_element = opened D.Element element_count
        (by_one D.Element element_count suc object (λ k. refl) object_number e
        & by_name D.Element an_element element_count _ refl (λ p. refl)
        & end)

    opened_set : (b : ℕ) → part_of set_count (set vs ts (suc d) (b ∷ e)) ≡ and_then (by_layout (layout_of D.Set b)) (λ p. Ok (whole D.Set p))
    unfolding set layouts parts_at part_at set_count kind_number
    opened_set = opened D.Set set_count
        (by_one D.Set set_count (λ p. p.0) _ (λ p. refl) objects_and_members e
        & by_name D.Set a_set set_count _ refl (λ p. refl)
        & by_element_and_set D.Set set_count (element vs ts d) (set vs ts d) add (λ y s. refl) e
        & by_element_and_set D.Set set_count (element vs ts d) (set vs ts d) remove (λ y s. refl) e
        & by_two_sets D.Set set_count (set vs ts d) union (λ s t. refl) e
        & by_two_sets D.Set set_count (set vs ts d) intersection (λ s t. refl) e
        & by_two_sets D.Set set_count (set vs ts d) difference (λ s t. refl) e
        & by_one D.Set set_count set_count complement (λ s. refl) (set vs ts d) e
        & end)

    arithmetic : (make : Number → Number → Number) → part_of no_count (two (number vs ts d) (number vs ts d) make e) ≡ counted D.Number (and_then (two_parts (part_of no_count (number vs ts d e)) (λ n. part_of no_count (number vs ts d (drop n e)))) (fitted Any))
    arithmetic make = by_any D.Number no_count no_count (number vs ts d) (number vs ts d) make refl

    opened_number : (b : ℕ) → part_of no_count (number vs ts (suc d) (b ∷ e)) ≡ and_then (by_layout (layout_of D.Number b)) (λ p. Ok (whole D.Number p))
    unfolding number layouts parts_at in_table_at choice_at part_at kind_number
    opened_number = opened D.Number no_count
        (by_one D.Number no_count no_count literal (λ z. refl) integer e
        & by_name D.Number a_number no_count _ refl (λ p. refl)
        & arithmetic plus
        & arithmetic minus
        & arithmetic times
        & arithmetic quotient
        & arithmetic lesser
        & arithmetic greater
        & by_in_table element_count (element vs ts d) (element vs ts d) entry e
        & by_one D.Number no_count set_count size (λ s. refl) (set vs ts d) e
        & by_in_table set_count (set vs ts d) (element vs ts d) total e
        & choices
        & end)
      where
        uncounted : (r : Answer) (q : ℕ → Result Parts Refusal) → choice_of r q ≡ counted D.Number (choice_of r q)
        uncounted (Err t) q = refl
        uncounted (Ok p) q = last (q p.used)
          where
            plus : Result Parts Refusal → Answer
            plus y = and_then y (λ q. Ok (plus_parts p.used q))

            last : (y : Result Parts Refusal) → plus y ≡ counted D.Number (plus y)
            last (Ok p) = refl
            last (Err t) = refl

        choices : part_of no_count (three (condition vs ts d) (number vs ts d) (number vs ts d) choice e) ≡ counted D.Number (choice_at names d e)
        choices = by_three no_count no_count no_count (condition vs ts d) (number vs ts d) (number vs ts d) choice e ∙ uncounted (part_of no_count (condition vs ts d e)) (λ n. parts_at names D.Number D.Number d (drop n e))

    comparison : {A : Type 0} (f : A → ℕ) (r : Reader A) (make : A → A → Condition) → part_of no_count (two r r make e) ≡ counted D.Condition (and_then (two_parts (part_of f (r e)) (λ n. part_of f (r (drop n e)))) (fitted Any))
    comparison f r make = by_any D.Condition f f r r make refl

    opened_condition : (b : ℕ) → part_of no_count (condition vs ts (suc d) (b ∷ e)) ≡ and_then (by_layout (layout_of D.Condition b)) (λ p. Ok (whole D.Condition p))
    unfolding number layouts parts_at part_at
    opened_condition = opened D.Condition no_count
        (comparison no_count (number vs ts d) equal
        & comparison no_count (number vs ts d) less
        & comparison no_count (number vs ts d) at_most
        & comparison element_count (element vs ts d) same
        & by_element_and_set D.Condition no_count (element vs ts d) (set vs ts d) member (λ y s. refl) e
        & by_one D.Condition no_count set_count is_empty (λ s. refl) (set vs ts d) e
        & by_two_sets D.Condition no_count (set vs ts d) subset (λ s t. refl) e
        & by_one D.Condition no_count no_count negation (λ c. refl) (condition vs ts d) e
        & comparison no_count (condition vs ts d) both
        & comparison no_count (condition vs ts d) either
        & end)

  -- ---- an expression by its depth and its first byte

  part_empty : (x : Due) (d : ℕ) (e : List ℕ) → length e ≡ 0 → Err EndsEarly ≡ part_at x vs ts d e
  unfolding part_at element set number no_depth ◌>>=◌ ◌>>◌ continue byte
  part_empty x d (b ∷ e) h = absurd (omega arith)
  part_empty D.Number zero [] h = refl
  part_empty D.Number (suc d) [] h = refl
  part_empty D.Condition zero [] h = refl
  part_empty D.Condition (suc d) [] h = refl
  part_empty D.Element zero [] h = refl
  part_empty D.Element (suc d) [] h = refl
  part_empty D.Set zero [] h = refl
  part_empty D.Set (suc d) [] h = refl

  part_too_deep : (x : Due) (d : ℕ) (e : List ℕ) → (length e ≡ 0 → ⊥) → d ≡ 0 → Err TooDeep ≡ part_at x vs ts d e
  unfolding part_at element set number no_depth ◌>>◌ continue byte refuse after
  part_too_deep x (suc d) e h q = absurd (omega arith)
  part_too_deep x zero [] h q = absurd (h refl)
  part_too_deep D.Number zero (b ∷ e) h q = refl
  part_too_deep D.Condition zero (b ∷ e) h q = refl
  part_too_deep D.Element zero (b ∷ e) h q = refl
  part_too_deep D.Set zero (b ∷ e) h q = refl

  part_opened : (x : Due) (d : ℕ) (e : List ℕ) → (length e ≡ 0 → ⊥) → (d ≡ 0 → ⊥) → part_at x vs ts d e ≡ and_then (and_then (layout_of x (get_or e 0 0)) (λ l. form_at names l (d - 1) (drop 1 e))) (λ p. Ok (whole x p))
  unfolding part_at
  part_opened x zero e h q = absurd (q refl)
  part_opened x (suc d) [] h q = absurd (h refl)
  part_opened D.Number (suc d) (b ∷ e) h q = let s : suc d - 1 ≡ d = omega arith in rw s (opened_number d e b)
  part_opened D.Condition (suc d) (b ∷ e) h q = let s : suc d - 1 ≡ d = omega arith in rw s (opened_condition d e b)
  part_opened D.Element (suc d) (b ∷ e) h q = let s : suc d - 1 ≡ d = omega arith in rw s (opened_element d e b)
  part_opened D.Set (suc d) (b ∷ e) h q = let s : suc d - 1 ≡ d = omega arith in rw s (opened_set d e b)

  part_bounded : (x : Due) (d : ℕ) (e : List ℕ) → TakesAtMost (length e) (part_at x vs ts d e)
  unfolding part_at
  part_bounded D.Number d e = short_part no_count (length e) (number vs ts d e) (bounded_number vs ts d e)
  part_bounded D.Condition d e = short_part no_count (length e) (condition vs ts d e) (bounded_condition vs ts d e)
  part_bounded D.Element d e = short_part element_count (length e) (element vs ts d e) (bounded_element vs ts d e)
  part_bounded D.Set d e = short_part set_count (length e) (set vs ts d e) (bounded_set vs ts d e)

  parts_bounded : (x y : Due) (d : ℕ) (e : List ℕ) → TakeAtMost (length e) (parts_at names x y d e)
  unfolding parts_at
  parts_bounded x y d e = go (part_at x vs ts d e) (part_bounded x d e)
    where
      second : (p : Part) → p.used ≤ length e → (r : Answer) → TakesAtMost (length (drop p.used e)) r → TakeAtMost (length e) (and_then r (λ q. Ok (behind p q)))
      second p h (Ok q) s = omega (arith, length-drop p.used e)
      second p h (Err t) s = tt

      go : (r : Answer) → TakesAtMost (length e) r → TakeAtMost (length e) (two_parts r (λ n. part_at y vs ts d (drop n e)))
      go (Ok p) s = second p s (part_at y vs ts d (drop p.used e)) (part_bounded y d (drop p.used e))
      go (Err t) s = tt

-- ---- what the functions cite

-- the declared names, the depth that is left, and the bytes
pub record Source : Type 0 where
  pub names : Names
  pub depth : ℕ
  pub bytes : List ℕ

-- what is read there where this kind is due, and where these two are
abbrev pub reads : Source → Due → Answer
reads s x = part_at x (variables_in s.names) (tables_in s.names) s.depth s.bytes

abbrev pub reads_two : Source → (x y : Due) → Result Parts Refusal
reads_two s x y = parts_at s.names x y s.depth s.bytes

-- behind n bytes, lent as a part of the slice
abbrev pub behind_bytes : Source → ℕ → Source
behind_bytes s n = record { names = s.names; depth = s.depth; bytes = take (length s.bytes - n) (drop n s.bytes) }

within_takes : {m l : ℕ} → m ≤ l → (r : Answer) → TakesAtMost m r → TakesAtMost l r
within_takes h (Ok p) w = omega arith
within_takes h (Err t) w = tt

within_take : {m l : ℕ} → m ≤ l → (r : Result Parts Refusal) → TakeAtMost m r → TakeAtMost l r
within_take h (Ok p) w = omega arith
within_take h (Err t) w = tt

pub part_takes : (s : Source) (x : Due) {l : ℕ} → length s.bytes ≤ l → TakesAtMost l (reads s x)
part_takes s x h = within_takes h (reads s x) (part_bounded s.names x s.depth s.bytes)

parts_take : (s : Source) (x y : Due) {l : ℕ} → length s.bytes ≤ l → TakeAtMost l (reads_two s x y)
parts_take s x y h = within_take h (reads_two s x y) (parts_bounded s.names x y s.depth s.bytes)

rest_length : (s : Source) (n : ℕ) → length (behind_bytes s n).bytes ≡ length s.bytes - n
rest_length s n = rw (suffix n s.bytes) (length-drop n s.bytes)

-- no more bytes than there are
pub used : (s : Source) (x : Due) {p : Part} → Ok p ≡ reads s x → p.used ≤ length s.bytes
used s x q = subst⁻¹ (TakesAtMost (length s.bytes)) q (part_takes s x (omega arith))

used_by_two : (s : Source) (x y : Due) {p : Parts} → Ok p ≡ reads_two s x y → p.used ≤ length s.bytes
used_by_two s x y q = subst⁻¹ (TakeAtMost (length s.bytes)) q (parts_take s x y (omega arith))

pub no_depth_lem : (names : Names) (x : Due) (d : ℕ) (e : List ℕ) → 0 < length e → d ≡ 0 → Err TooDeep ≡ part_at x (variables_in names) (tables_in names) d e
no_depth_lem names x d e h q = part_too_deep names x d e (λ z. omega (arith, h, z)) q

module _ (s : Source) where
  pub no_byte : (x : Due) → length s.bytes ≡ 0 → Err EndsEarly ≡ reads s x
  no_byte x h = part_empty s.names x s.depth s.bytes h

  -- some byte and some depth are left: the expression by the layout of its first byte
  module _ (x : Due) (some_byte : length s.bytes ≡ 0 → ⊥) (some_depth : 0 < s.depth) where
    pub layout_refused : {t : Refusal} → Err t ≡ layout_of x (get_or s.bytes 0 0) → Err t ≡ reads s x
    layout_refused q = sym (part_opened s.names x s.depth s.bytes some_byte (λ z. omega (arith, some_depth, z)) ∙ rw (← q))

    module _ {l : Layout} {r : Answer} (layout_is : Ok l ≡ layout_of x (get_or s.bytes 0 0)) (r_is : r ≡ form_at s.names l (s.depth - 1) (behind_bytes s 1).bytes) where
      pub whole_read : and_then r (λ p. Ok (whole x p)) ≡ reads s x
      whole_read = rw (r_is, suffix 1 s.bytes) (sym (part_opened s.names x s.depth s.bytes some_byte (λ z. omega (arith, some_depth, z)) ∙ rw (← layout_is)))

    pub whole_fits : {l : Layout} {p : Part} → length s.bytes ≤ 2 ^ 63 → Ok l ≡ layout_of x (get_or s.bytes 0 0) → Ok p ≡ form_at s.names l (s.depth - 1) (behind_bytes s 1).bytes
        → 1 + p.used < 2 ^ 64
    whole_fits h q w = omega (arith, used s x (whole_read q w))

  -- one part behind the other
  pub parts_refused : (x y : Due) {t : Refusal} → Err t ≡ reads s x → Err t ≡ reads_two s x y
  unfolding parts_at
  parts_refused x y q = rw (← q)

  pub parts_read : (x y : Due) {p : Part} {r : Answer} → Ok p ≡ reads s x → r ≡ reads (behind_bytes s p.used) y → and_then r (λ q. Ok (behind p q)) ≡ reads_two s x y
  unfolding parts_at
  parts_read x y {p} q w = rw (← q, w, suffix p.used s.bytes)

  pub parts_fit : (x y : Due) {p q : Part} → length s.bytes ≤ 2 ^ 63 → Ok p ≡ reads s x → Ok q ≡ reads (behind_bytes s p.used) y → p.used + q.used < 2 ^ 64
  parts_fit x y {p} h q w = omega (arith, used s x q, used (behind_bytes s p.used) y w, rest_length s p.used)

  -- a condition and two numbers
  abbrev reads_choice : Answer
  reads_choice = choice_at s.names s.depth s.bytes

  pub choice_refused : {t : Refusal} → Err t ≡ reads s D.Condition → Err t ≡ reads_choice
  unfolding choice_at
  choice_refused q = rw (← q)

  pub choice_read : {p : Part} {r : Result Parts Refusal} → Ok p ≡ reads s D.Condition → r ≡ reads_two (behind_bytes s p.used) D.Number D.Number
      → and_then r (λ q. Ok (plus_parts p.used q)) ≡ reads_choice
  unfolding choice_at
  choice_read {p} q w = rw (← q, w, suffix p.used s.bytes)

  pub choice_fits : {p : Part} {q : Parts} → length s.bytes ≤ 2 ^ 63 → Ok p ≡ reads s D.Condition → Ok q ≡ reads_two (behind_bytes s p.used) D.Number D.Number → p.used + q.used < 2 ^ 64
  choice_fits {p} h q w = omega (arith, used s D.Condition q, used_by_two (behind_bytes s p.used) D.Number D.Number w, rest_length s p.used)

  -- a table's number and two parts
  abbrev reads_in_table : Due → Answer
  reads_in_table x = in_table_at s.names x s.depth s.bytes

  pub table_short : (x : Due) → length s.bytes ≡ 0 → Err EndsEarly ≡ reads_in_table x
  unfolding in_table_at
  table_short x h = rw h

  module _ (x : Due) (some_byte : length s.bytes ≡ 0 → ⊥) where
    pub table_undeclared : length s.names.rows.now ≤ get_or s.bytes 0 0 → Err Mismatch ≡ reads_in_table x
    unfolding in_table_at
    table_undeclared u = rw (lt-ltb 0 (length s.bytes) (omega (arith, some_byte)), le-ltb (get_or s.bytes 0 0) (length s.names.rows.now) u)

    pub table_read : {c : ℕ} {r : Result Parts Refusal} → get_or s.bytes 0 0 < length s.names.rows.now → c ≡ get_or s.names.columns.now (get_or s.bytes 0 0) 0
        → r ≡ reads_two (behind_bytes s 1) x D.Element → and_then r (within (get_or s.names.rows.now (get_or s.bytes 0 0) 0) c) ≡ reads_in_table x
    unfolding in_table_at
    table_read u c_is r_is = rw (lt-ltb 0 (length s.bytes) (omega (arith, some_byte)), lt-ltb (get_or s.bytes 0 0) (length s.names.rows.now) u, c_is, r_is, suffix 1 s.bytes)

  pub table_fits : (x : Due) {p : Parts} → length s.bytes ≤ 2 ^ 63 → Ok p ≡ reads_two (behind_bytes s 1) x D.Element → 1 + p.used < 2 ^ 64
  table_fits x h w = omega (arith, used_by_two (behind_bytes s 1) x D.Element w, rest_length s 1)
