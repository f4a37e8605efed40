-- Laws of the whole model: what follows the variables, what follows the rule, and the outline at the end.
use Prim.Native.Nat.{ℕ, ◌+◌, ◌<◌, ◌≤◌}
use mathlib.Core.Path.{◌≡◌, refl, sym, ap, subst, ◌∙◌}
use mathlib.Core.Logic.{inl, inr, ⊎_elim}
use mathlib.Core.Bool.{Bool, true, false}
use mathlib.Core.List.{List, [], ◌∷◌}
use native.Mathlib.Omega.{arith}
use native.Mathlib.Nat.{zero-add}
use lib.ListN.{length, get_or, take, set, length-set}
use lib.Seq.{get_or-set_same, get_or-set_other}
use lib.Dec.{eqb, ltb}
use borrow.Author.Tests.{eqb-true, eqb-false, ltb-true, ltb-false}
use Rattle.std.specs.Prelude.{Result, Ok, Err}
use Rattle.model.specs.Readers.{read, refused, Reader}
use Rattle.model.specs.Syntax.{Rule, Variable, table_at}
use Rattle.model.specs.Commands.{rule_of, cost_rule, variables, tables, model}
use Rattle.model.proofs.Loops.{after_zero}
use Rattle.model.proofs.Reading.{model_refusal}
use Rattle.words.specs.Signature.{WellFormed}
use Rattle.words.specs.Tables.{Tabled}
use Rattle.outline.specs.Outline.{outline_words, VariableAt, Items, rule_number, read_model, model_of, refusal_of, Outlines}
use Rattle.read_declarations.specs.Positions.{read_at, position_of, Each}
use Rattle.read_declarations.specs.Declarations.{VariablesRead, VariablesTold, TablesRead, TablesTold}
use Rattle.read_model.specs.Groups.{behind_tables, behind_variables, behind_rule, VariablesDeclared, GroupsTold, GroupsAs, PartsTold, PartsAs, ModelRead, ModelTold, ModelAs}
use Rattle.read_declarations.specs.declared.Listed.{Listed}
use Rattle.read_forms.specs.Refusals.{number_of}
use Rattle.read_forms.specs.declared.refusals.Refusal.{Refusal}
use Rattle.read_forms.proofs.Numbered.{number_named}
use Rattle.read_declarations.proofs.Operands.{rule_good, rule_beyond, rule_cut, rule_other, rule_none, rule_number_lem}
use Rattle.read_declarations.proofs.Positions.{at_reads, position_read, position_refused, then_read, then_refused}
use Rattle.read_declarations.proofs.Lists.{each_map, each_all, inside_some, with_part, part_in, part_before, part_length}

-- ---- the tables, and what follows them

module _ (kinds bytes : List ℕ) (start : ℕ) (before rows columns part : List ℕ) (long : outline_words ≤ length before) (whole : length part ≡ 32) where
  abbrev tabled : ℕ → List ℕ
  tabled n = set (with_part 80 32 before part) 2 n

  pub tables_length : length (with_part 80 32 before part) ≡ length before
  tables_length = part_length 80 32 before part (omega arith) whole

  pub tabled_length : (n : ℕ) → length (tabled n) ≡ length before
  tabled_length n = length-set (with_part 80 32 before part) 2 n ∙ tables_length

  tabled_other : (n i : ℕ) → (i ≡ 2 → ⊥) → get_or (tabled n) i 0 ≡ get_or (with_part 80 32 before part) i 0
  tabled_other n i h = get_or-set_other (with_part 80 32 before part) 2 i n 0 h

  pub tables_stop : {x : Result Listed Refusal} {r : Refusal} → x ≡ Err r → TablesTold bytes (read_at tables start bytes) rows columns part x → (words : List ℕ) → PartsAs kinds bytes start before words (Err r)
  unfolding behind_variables
  tables_stop e h words rule vs dv = then_refused tables start bytes (behind_tables rule vs) (subst (TablesTold bytes (read_at tables start bytes) rows columns part) e h)

  module _ {end n : ℕ} (t : TablesRead bytes (read_at tables start bytes) rows columns part end n) where
    module _ (words : List ℕ) (rule : Rule) (vs : List Variable) (dv : VariablesDeclared kinds vs) where
      going_on : read_at (behind_variables rule vs) start bytes ≡ read_at (behind_tables rule vs t.tables) end bytes
      unfolding behind_variables
      going_on = then_read tables start bytes (behind_tables rule vs) t.reads

      parts : (y : Result ℕ Refusal) → GroupsTold (read_at (behind_tables rule vs t.tables) end bytes) rule vs t.tables bytes (tabled n) words y → PartsTold (read_at (behind_variables rule vs) start bytes) rule vs bytes before words y
      unfolding table_at
      parts (Err u) g = going_on ∙ g
      parts (Ok last) g =
          let inside : 2 < length (with_part 80 32 before part) = omega (arith, part_length 80 32 before part (omega arith) whole) in
          let count : get_or words 2 0 ≡ length t.tables = g.1 2 (inl (omega arith)) ∙ (get_or-set_same (with_part 80 32 before part) 2 n 0 inside ∙ sym t.count) in
          let of : g.0.model.tables ≡ t.tables = g.0.tables_are in
          let cell : (k : ℕ) → k < length t.tables → Tabled bytes (get_or words (80 + k) 0) (table_at t.tables k) = λ k less.
          let few : k < 32 = omega (arith, t.count, t.few) in
          let w : get_or words (80 + k) 0 ≡ get_or part k 0 =
          g.1 (80 + k) (inr (omega arith, omega arith)) ∙ (tabled_other n (80 + k) (λ q. omega arith) ∙ part_in 80 32 before part (omega arith) whole k few) in
          rw w (t.outlined k (table_at t.tables k) (inside_some t.tables k _ less)) in (
            record {
              model = g.0.model;
              reads = going_on ∙ g.0.reads;
              rule_is = g.0.rule_is;
              variables_are = g.0.variables_are;
              tables = record { count = rw of count; few = rw of (omega (arith, t.count, t.few)); tables = rw of cell };
              groups = g.0.groups;
            },
            λ i w. ⊎_elim
                (λ l. g.1 i (inl (omega arith)) ∙ (tabled_other n i (λ q. omega arith) ∙ part_before 80 32 before part (omega arith) whole i (omega arith)))
                (λ l. g.1 i (inr (omega arith, omega arith)) ∙ (tabled_other n i (λ q. omega arith) ∙ part_before 80 32 before part (omega arith) whole i (omega arith))) w,
          )

    pub tables_go_on : (words : List ℕ) (y : Result ℕ Refusal) → GroupsAs kinds (take n rows) (take n columns) bytes end (tabled n) words y → PartsAs kinds bytes start before words y
    tables_go_on words y g rule vs dv = parts words rule vs dv y (g rule vs t.tables dv (sym t.row_bytes, sym t.column_bytes))

-- ---- the variables, and what follows them

module _ (bytes : List ℕ) (start : ℕ) (before kinds part : List ℕ) (long : outline_words ≤ length before) (whole : length part ≡ 80) where
  abbrev varied : ℕ → List ℕ
  varied n = set (with_part 0 80 before part) 1 n

  pub variables_length : length (with_part 0 80 before part) ≡ length before
  variables_length = part_length 0 80 before part (omega arith) whole

  pub varied_length : (n : ℕ) → length (varied n) ≡ length before
  varied_length n = length-set (with_part 0 80 before part) 1 n ∙ variables_length

  varied_in : (n i : ℕ) → (i ≡ 1 → ⊥) → i < 80 → get_or (varied n) i 0 ≡ get_or part i 0
  varied_in n i h l =
      get_or-set_other (with_part 0 80 before part) 1 i n 0 h
      ∙ (ap (λ (k : ℕ). get_or (with_part 0 80 before part) k 0) (sym (zero-add i)) ∙ part_in 0 80 before part (omega arith) whole i l)

  pub variables_stop : {x : Result Listed Refusal} {r : Refusal} → x ≡ Err r → VariablesTold (read_at variables start bytes) kinds part x → (words : List ℕ) → ModelAs bytes start words (Err r)
  unfolding behind_rule
  variables_stop e h words rule = then_refused variables start bytes (behind_variables rule) (subst (VariablesTold (read_at variables start bytes) kinds part) e h)

  module _ {end n : ℕ} (v : VariablesRead (read_at variables start bytes) kinds part end n) where
    declared : VariablesDeclared (take n kinds) v.variables
    declared = (each_all WellFormed v.variables (λ k x e. (v.outlined k x e).well_formed), sym v.kind_bytes)

    module _ (words : List ℕ) (rule : Rule) where
      rule_goes_on : read_at (behind_rule rule) start bytes ≡ read_at (behind_variables rule v.variables) end bytes
      unfolding behind_rule
      rule_goes_on = then_read variables start bytes (behind_variables rule) v.reads

      all : (y : Result ℕ Refusal) → PartsTold (read_at (behind_variables rule v.variables) end bytes) rule v.variables bytes (varied n) words y → ModelTold (read_at (behind_rule rule) start bytes) rule bytes words y
      all (Err u) g = rule_goes_on ∙ g
      all (Ok last) g =
          let inside : 1 < length (with_part 0 80 before part) = omega (arith, part_length 0 80 before part (omega arith) whole) in
          let count : get_or words 1 0 ≡ length v.variables = g.1 1 (inl (omega arith)) ∙ (get_or-set_same (with_part 0 80 before part) 1 n 0 inside ∙ sym v.count) in
          let of : g.0.model.variables ≡ v.variables = g.0.variables_are in
          let word : (i : ℕ) → 16 ≤ i → i < 80 → get_or words i 0 ≡ get_or part i 0 = λ i l m. g.1 i (inr (l, m)) ∙ varied_in n i (λ q. omega arith) m in
          let each : Each (VariableAt words) v.variables = each_map (VariableAt part) (VariableAt words) v.variables v.outlined (λ k x less h.
          let few : k < 16 = omega (arith, v.count, v.few) in
          record {
            kind = word (16 + k) (omega arith) (omega arith) ∙ h.kind;
            preference = word (32 + k) (omega arith) (omega arith) ∙ h.preference;
            start = rw (word (48 + k) (omega arith) (omega arith)) h.start;
            well_formed = h.well_formed;
          }) in
          record {
            model = g.0.model;
            reads = rule_goes_on ∙ g.0.reads;
            rule_is = g.0.rule_is;
            variables = record { count = rw of count; few = rw of (omega (arith, v.count, v.few)); variables = rw of each };
            tables = g.0.tables;
            groups = g.0.groups;
          }

    pub variables_go_on : (words : List ℕ) (y : Result ℕ Refusal) → PartsAs (take n kinds) bytes end (varied n) words y → ModelAs bytes start words y
    variables_go_on words y g rule = all words rule y (g rule v.variables declared)

-- ---- the rule, and the outline at the end

rule_read : (e : List ℕ) {r : Rule} {n : ℕ} → cost_rule e ≡ read r n → get_or e 1 0 ≡ rule_number r
rule_read [] h = let k = rule_none [] refl in let z : ◌≡◌ {A = ℕ} 0 1 = cc in absurd (omega arith)
rule_read (b ∷ []) {r} h = go (eqb b 1) refl
  where
    go : (t : Bool) → eqb b 1 ≡ t → 0 ≡ rule_number r
    go true q = let k = rule_cut (b ∷ []) refl (eqb-true b 1 q) in let z : ◌≡◌ {A = ℕ} 0 1 = cc in absurd (omega arith)
    go false q = let k = rule_other (b ∷ []) (omega arith) (eqb-false b 1 q) in let z : ◌≡◌ {A = ℕ} 0 1 = cc in absurd (omega arith)
rule_read (b ∷ v ∷ e) {r} {n} h = go (eqb b 1) refl (ltb v 2) refl
  where
    go : (t : Bool) → eqb b 1 ≡ t → (u : Bool) → ltb v 2 ≡ u → v ≡ rule_number r
    go true q true p =
        let k = rule_good (b ∷ v ∷ e) (omega arith) (eqb-true b 1 q) (ltb-true v 2 p) in
        let same : rule_of v ≡ r = cc in
        rule_number_lem v (ltb-true v 2 p) ∙ ap rule_number same
    go true q false p = let k = rule_beyond (b ∷ v ∷ e) (omega arith) (eqb-true b 1 q) (ltb-false v 2 p) in let z : ◌≡◌ {A = ℕ} 0 1 = cc in absurd (omega arith)
    go false q u p = let k = rule_other (b ∷ v ∷ e) (omega arith) (eqb-false b 1 q) in let z : ◌≡◌ {A = ℕ} 0 1 = cc in absurd (omega arith)

module _ (bytes : List ℕ) where
  from_the_front : read_at model 0 bytes ≡ model bytes
  unfolding read_at
  from_the_front = after_zero (model bytes)

  behind_the_rule : {r : Rule} {p : ℕ} → read_at cost_rule 0 bytes ≡ read r p → model bytes ≡ read_at (behind_rule r) p bytes
  unfolding model behind_rule behind_variables behind_tables
  behind_the_rule h = sym from_the_front ∙ then_read cost_rule 0 bytes behind_rule h

  refusal : {t : ℕ} → model bytes ≡ refused t → t ≡ refusal_of (model bytes)
  unfolding refusal_of
  refusal h = rw h

  pub model_rule_refused : {r : Refusal} → Err r ≡ position_of (read_at cost_rule 0 bytes) → number_of r ≡ refusal_of (model bytes)
  unfolding model behind_rule behind_variables behind_tables
  model_rule_refused q =
      let h = position_refused (read_at cost_rule 0 bytes) q in
      let m : model bytes ≡ refused h.0 = sym from_the_front ∙ then_refused cost_rule 0 bytes behind_rule h.1 in
      let range = model_refusal bytes m in
      ap number_of h.2 ∙ (number_named h.0 range.0 range.1 ∙ refusal m)

  module _ {p : ℕ} (q : Ok p ≡ position_of (read_at cost_rule 0 bytes)) (words : List ℕ) where
    pub model_refused : {x : Result ℕ Refusal} {r : Refusal} → x ≡ Err r → ModelAs bytes p words x → number_of r ≡ refusal_of (model bytes)
    model_refused e h =
        let r = position_read (read_at cost_rule 0 bytes) q in
        refusal (behind_the_rule r.1 ∙ subst (ModelAs bytes p words) e h r.0)

    module _ {end : ℕ} (h : ModelAs bytes p words (Ok end)) where
      told : ModelRead (read_at (behind_rule (position_read (read_at cost_rule 0 bytes) q).0) p bytes) (position_read (read_at cost_rule 0 bytes) q).0 bytes words end
      told = h (position_read (read_at cost_rule 0 bytes) q).0

      reads_as : model bytes ≡ read told.model end
      reads_as = behind_the_rule (position_read (read_at cost_rule 0 bytes) q).1 ∙ told.reads

      pub model_number : 0 ≡ refusal_of (model bytes)
      unfolding refusal_of
      model_number = rw reads_as

      rule_word : get_or bytes 1 0 ≡ rule_number told.model.rule
      rule_word =
          let r = position_read (read_at cost_rule 0 bytes) q in
          let k = at_reads cost_rule 0 bytes r.1 in
          rule_read bytes k.1 ∙ ap rule_number (sym told.rule_is)

      module _ (v : ℕ) (is-rule : v ≡ get_or bytes 1 0) (long : outline_words ≤ length words) where
        other : (i : ℕ) → (i ≡ 0 → ⊥) → get_or (set words 0 v) i 0 ≡ get_or words i 0
        other i n = get_or-set_other words 0 i v 0 n

        items_kept : {A : Type 0} (r : Reader A) (from : ℕ) (items : List A) → 0 < from → Items r bytes words from items → Items r bytes (set words 0 v) from items
        items_kept r from items l i k x s =
            let w : get_or (set words 0 v) (from + k) 0 ≡ get_or words (from + k) 0 = other (from + k) (λ z. omega arith) in
            let j = i k x s in
            record { inside = rw w j.inside; used = j.used; reads = rw w j.reads }

        outlined : Outlines bytes (set words 0 v) told.model
        outlined =
            let g = told.groups in
            record {
              rule = get_or-set_same words 0 v 0 (omega arith) ∙ (is-rule ∙ rule_word);
              variable_count = other 1 (λ z. omega arith) ∙ told.variables.count;
              table_count = other 2 (λ z. omega arith) ∙ told.tables.count;
              transition_count = other 3 (λ z. omega arith) ∙ g.transitions.count;
              base_case_count = other 4 (λ z. omega arith) ∙ g.base_cases_placed.count;
              constraint_count = other 5 (λ z. omega arith) ∙ g.constraints.count;
              bound_count = other 6 (λ z. omega arith) ∙ g.bounds.count;
              few_variables = told.variables.few;
              few_tables = told.tables.few;
              few_transitions = g.transitions.few;
              few_base_cases = g.base_cases_placed.few;
              few_constraints = g.constraints.few;
              few_bounds = g.bounds.few;
              variables = λ k x s.
                  let j = told.variables.variables k x s in
                  record {
                    kind = other (16 + k) (λ z. omega arith) ∙ j.kind;
                    preference = other (32 + k) (λ z. omega arith) ∙ j.preference;
                    start = rw (other (48 + k) (λ z. omega arith)) j.start;
                    well_formed = j.well_formed;
                  };
              tables = λ k l. rw (other (80 + k) (λ z. omega arith)) (told.tables.tables k l);
              transitions = items_kept _ 112 told.model.transitions (omega arith) g.transitions.placed;
              base_cases_placed = items_kept _ 368 told.model.base_cases (omega arith) g.base_cases_placed.placed;
              constraints = items_kept _ 384 told.model.constraints (omega arith) g.constraints.placed;
              bounds = items_kept _ 416 told.model.bounds (omega arith) g.bounds.placed;
            }

        pub model_outlined : Outlines bytes (set words 0 v) (model_of bytes)
        unfolding model_of read_model
        model_outlined = rw reads_as outlined
