-- Words that stay: what is said of words before a place still holds when only words from there on are written.
use Prim.Native.Nat.{ℕ, ◌+◌, ◌-◌, ◌≤◌, ◌<◌}
use mathlib.Core.Path.{◌≡◌, refl, sym, ap, ◌∙◌}
use mathlib.Core.List.{List, [], ◌∷◌, ◌++◌}
use native.Mathlib.Omega.{arith}
use native.Mathlib.Nat.{add-zero}
use lib.ListN.{length, get_or, take, drop, length-append, length-drop, get_or-append}
use lib.Seq.{length-take-le, get_or-take, get_or-append-add}
use Rattle.model.specs.Numbers.{most_transitions, most_base_cases, most_constraints, most_bounds}
use Rattle.model.specs.Readers.{Reader}
use Rattle.model.specs.Syntax.{Model}
use Rattle.laws.proofs.Lists.{found_below}
use Rattle.outline.specs.Outline.{outline_words, rule_at, variable_count_at, table_count_at, transition_count_at, base_case_count_at, constraint_count_at, bound_count_at, kinds_from, preferences_from, starts_from, tables_from, transitions_from, base_cases_from, constraints_from, bounds_from, VariableAt, Items, Outlines}
use Rattle.prepare.specs.declared.guards.Guard.{Guard}
use Rattle.prepare.specs.Guards.{guard_in}
use Rattle.prepare.specs.Promised.{Kept, Room, Put}

pub kept_all : (end : ℕ) (words : List ℕ) → Kept end words words
kept_all end words = record { words = λ i h. refl; same = refl }

-- fewer words, and one writing after the other
pub kept_fewer : {few many : ℕ} {before after : List ℕ} → few ≤ many → Kept many before after → Kept few before after
kept_fewer l k = record { words = λ i h. k.words i (omega arith); same = k.same }

pub kept_both : {end : ℕ} {first second third : List ℕ} → Kept end first second → Kept end second third → Kept end first third
kept_both k l = record { words = λ i h. l.words i h ∙ k.words i h; same = l.same ∙ k.same }

module _ {end : ℕ} {before after : List ℕ} (k : Kept end before after) where
  pub guard_kept : (at : ℕ) → at + 4 ≤ end → guard_in after at ≡ guard_in before at
  unfolding guard_in
  guard_kept at l = rw (k.words at (omega arith), k.words (at + 1) (omega arith), k.words (at + 2) (omega arith), k.words (at + 3) (omega arith))

  items_kept : {A : Type 0} (r : Reader A) (bytes : List ℕ) (from most : ℕ) (l : List A) → length l ≤ most → from + most ≤ end → Items r bytes before from l → Items r bytes after from l
  items_kept r bytes from most l few high items i x e =
      let inside = found_below l i e in
      let same = k.words (from + i) (omega arith) in
      let it = items i x e in
      record { inside = rw same it.inside; used = it.used; reads = rw same it.reads }

pub outlines_kept : {bytes before after : List ℕ} {m : Model} → Kept outline_words before after → Outlines bytes before m → Outlines bytes after m
outlines_kept {bytes} {before} {after} {m} k o = record {
  rule = k.words rule_at (omega arith) ∙ o.rule;
  variable_count = k.words variable_count_at (omega arith) ∙ o.variable_count;
  table_count = k.words table_count_at (omega arith) ∙ o.table_count;
  transition_count = k.words transition_count_at (omega arith) ∙ o.transition_count;
  base_case_count = k.words base_case_count_at (omega arith) ∙ o.base_case_count;
  constraint_count = k.words constraint_count_at (omega arith) ∙ o.constraint_count;
  bound_count = k.words bound_count_at (omega arith) ∙ o.bound_count;
  few_variables = o.few_variables;
  few_tables = o.few_tables;
  few_transitions = o.few_transitions;
  few_base_cases = o.few_base_cases;
  few_constraints = o.few_constraints;
  few_bounds = o.few_bounds;
  variables = λ v x e. variable_kept v (found_below m.variables v e) (o.variables v x e);
  tables = λ t h. rw (k.words (tables_from + t) (omega (arith, o.few_tables))) (o.tables t h);
  transitions = items_kept k _ bytes transitions_from most_transitions m.transitions o.few_transitions (omega arith) o.transitions;
  base_cases_placed = items_kept k _ bytes base_cases_from most_base_cases m.base_cases o.few_base_cases (omega arith) o.base_cases_placed;
  constraints = items_kept k _ bytes constraints_from most_constraints m.constraints o.few_constraints (omega arith) o.constraints;
  bounds = items_kept k _ bytes bounds_from most_bounds m.bounds o.few_bounds (omega arith) o.bounds;
}
  where
    variable_kept : (v : ℕ) {x : _} → v < length m.variables → VariableAt before v x → VariableAt after v x
    variable_kept v l x = record {
      kind = k.words (kinds_from + v) (omega (arith, o.few_variables)) ∙ x.kind;
      preference = k.words (preferences_from + v) (omega (arith, o.few_variables)) ∙ x.preference;
      start = rw (k.words (starts_from + v) (omega (arith, o.few_variables))) x.start;
      well_formed = x.well_formed;
    }

pub room_kept : {bytes before after : List ℕ} {end : ℕ} → outline_words ≤ end → Kept end before after → Room bytes before → Room bytes after
room_kept l k r = record { outlines = outlines_kept (kept_fewer l k) r.outlines; long = rw k.same r.long }

-- ---- words put from a place on

module _ (before words : List ℕ) (at : ℕ) (room : at + length words ≤ length before) where
  abbrev put_by : (k : ℕ) → List ℕ
  put_by k = take at before ++ (words ++ drop k (drop at before))

  front_length : length (take at before) ≡ at
  front_length = length-take-le at before (omega (arith, room))

  put_length : length (put_by (at + length words - at)) ≡ length before
  put_length =
      let k = at + length words - at in
      let all = length-append (take at before) (words ++ drop k (drop at before)) in
      let rest = length-append words (drop k (drop at before)) in
      omega (arith, all, rest, front_length, length-drop k (drop at before), length-drop at before, room)

  -- the part that is lent is as long as the words
  pub lent_length : length words ≡ length (take (at + length words - at) (drop at before))
  lent_length = sym (length-take-le (at + length words - at) (drop at before) (omega (arith, length-drop at before, room)) ∙ omega arith)

  pub put_is : Put before (put_by (at + length words - at)) at words
  put_is = record {
    kept = record { words = λ i h. get_or-append (take at before) _ 0 i (omega (arith, front_length, h)) ∙ get_or-take at before i 0 h; same = put_length };
    there = λ j h. ap (λ (i : ℕ). get_or (put_by (at + length words - at)) (i + j) 0) (sym front_length) ∙ get_or-append-add (take at before) _ j 0 ∙ get_or-append words _ 0 j h;
  }

-- four words as a guard
pub guard_put : {before after : List ℕ} {at : ℕ} (g : Guard) → Put before after at (g.variable ∷ g.mask ∷ g.need ∷ g.behind ∷ []) → guard_in after at ≡ g
unfolding guard_in
guard_put {after = after} {at = at} g p = rw (first, p.there 1 (omega arith), p.there 2 (omega arith), p.there 3 (omega arith))
  where
    first : get_or after at 0 ≡ g.variable
    first = ap (λ (i : ℕ). get_or after i 0) (sym (add-zero at)) ∙ p.there 0 (omega arith)
