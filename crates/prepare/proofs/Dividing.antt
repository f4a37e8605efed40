-- The constraints taken apart, one condition after the other: those that are put, those that stand in a row, those behind them.
use Prim.Native.Nat.{ℕ, ◌+◌, ◌*◌, ◌-◌, ◌≤◌, ◌<◌}
use mathlib.Core.Path.{◌≡◌, refl, sym, ap, ◌∙◌}
use mathlib.Core.Bool.{Bool, true, false, cond}
use mathlib.Core.List.{List, [], ◌∷◌, ◌++◌, append_assoc, append-nil}
use native.Mathlib.Omega.{arith}
use native.Mathlib.Nat.{add-zero}
use lib.ListN.{length, get_or, drop, length-append, length-drop, drop_of_length-le}
use Rattle.laws.proofs.Lists.{found_below}
use Rattle.model.specs.Numbers.{range_end, most_nesting}
use Rattle.model.specs.Values.{Value, value, trouble, ◌>>=◌}
use Rattle.model.specs.Readers.{read}
use Rattle.model.specs.Syntax.{Condition, both, Table, Model}
use Rattle.model.specs.Expressions.{condition}
use Rattle.model.specs.Meaning.{State, condition_value, all_hold}
use Rattle.outline.specs.Outline.{outline_words, constraints_from, model_of, Outlines}
use Rattle.read_declarations.proofs.Lists.{each_none, each_more}
use Rattle.eval_sets.specs.Forms.{span}
use Rattle.eval_sets.proofs.Reading.{of_read}
use Rattle.eval_sets.proofs.Spans.{condition_ends, ends_span}
use Rattle.prepare.specs.Layout.{conjuncts_from, conjunct_count_at, most_conjuncts}
use Rattle.prepare.specs.Prepared.{ConjunctAt}
use Rattle.prepare.specs.Promised.{Kept, Room, Parted, Parting, PartedMore, ConjunctPut, ConjunctsPut, Put}
use Rattle.prepare.proofs.Connectives.{both_parts}
use Rattle.prepare.proofs.Items.{item_at}
use Rattle.prepare.proofs.Guarding.{condition_inside}
use Rattle.prepare.proofs.Kept.{kept_all, kept_fewer, kept_both, guard_kept, outlines_kept}

-- ---- a conjunction and its two parts decide alike

module _ (ts : List Table) where
  all_both : (c d : Condition) (l : List Condition) (s : State) → all_hold range_end ts (both c d ∷ l) s ≡ all_hold range_end ts (c ∷ d ∷ l) s
  unfolding all_hold condition_value ◌>>=◌
  all_both c d l s = go (condition_value range_end ts c s) refl
    where
      go : (v : Value Bool) → condition_value range_end ts c s ≡ v → all_hold range_end ts (both c d ∷ l) s ≡ all_hold range_end ts (c ∷ d ∷ l) s
      go (value true) e = rw e
      go (value false) e = rw e
      go (trouble t) e = rw e

  -- behind the same conditions
  all_behind : (first l k : List Condition) (s : State) → all_hold range_end ts l s ≡ all_hold range_end ts k s → all_hold range_end ts (first ++ l) s ≡ all_hold range_end ts (first ++ k) s
  unfolding all_hold
  all_behind [] l k s e = e
  all_behind (c ∷ first) l k s e = ap (λ (v : Value Bool). condition_value range_end ts c s >>= λ holds. cond holds v (value false)) (all_behind first l k s e)

-- ---- conditions in a row

module _ (bytes : List ℕ) where
  abbrev model : Model
  model = model_of bytes

  abbrev Reads : (at : ℕ) → Condition → (used : ℕ) → Type 0
  Reads at x n = condition model.variables model.tables most_nesting (drop at bytes) ≡ read x n

  -- one behind the other from `at` on
  pub data Row : (at : ℕ) → List Condition → Type 0 where
    none : {at : ℕ} → Row at []
    next : {at used : ℕ} {x : Condition} {l : List Condition} → Reads at x used → Row (at + used) l → Row at (x ∷ l)

  -- the first of a row
  pub record First (at : ℕ) (l : List Condition) : Type 0 where
    pub item : Condition
    pub used : ℕ
    pub others : List Condition
    pub whole : l ≡ item ∷ others
    pub reads : Reads at item used
    pub behind : Row (at + used) others

  pub first_of : {at : ℕ} {l : List Condition} → Row at l → 0 < length l → First at l
  first_of none h = absurd (omega arith)
  first_of (next {used = n} {x = x} {l = l} r rest) h = record { item = x; used = n; others = l; whole = refl; reads = r; behind = rest }

  -- a condition's bytes are passed over
  pub passed_over : (at : ℕ) (x : Condition) (n : ℕ) → Reads at x n → span (drop at bytes) 0 1 ≡ n
  passed_over at x n h = ends_span (drop at bytes) n (of_read h (condition_ends model.variables model.tables most_nesting (drop at bytes)))

  -- n conjuncts put, `due` conditions in a row at `at`, others behind them
  pub record Dividing (before words : List ℕ) (later : List Condition) (at due n : ℕ) : Type 0 where
    pub kept : Kept conjuncts_from before words
    pub row : List Condition
    pub stands : Row at row
    pub count : due ≡ length row
    pub parted : Parted bytes words n (row ++ later)
    pub fits : n + due + length later ≤ most_conjuncts

  module _ {before words : List ℕ} {later : List Condition} {at due n : ℕ} (d : Dividing before words later at due n) where
    pub due_first : 0 < due → First at d.row
    due_first h = first_of d.stands (omega (arith, d.count))

    pub due_inside : 0 < due → at ≤ length bytes
    due_inside h = condition_inside bytes model at (due_first h).reads

    -- 58 stands there, and there is room for one more
    pub divided : 0 < due → get_or bytes at 0 ≡ 0x58 → n + due + length later < most_conjuncts → Dividing before words later (at + 1) (due + 1) n
    divided h byte room =
        let f = due_first h in
        let p = both_parts model.variables model.tables bytes at f.item f.used byte f.reads in
        let place : at + f.used ≡ at + 1 + p.first_used + p.second_used = omega (arith, p.uses) in
        record {
          kept = d.kept;
          row = p.first ∷ p.second ∷ f.others;
          stands = next p.reads_first (next p.reads_second (rw place at f.behind));
          count = omega (arith, d.count, ap length f.whole);
          parted = record {
            parts = d.parted.parts;
            count = d.parted.count;
            placed = d.parted.placed;
            same = λ s. d.parted.same s ∙ all_behind model.tables d.parted.parts (d.row ++ later) (p.first ∷ p.second ∷ f.others ++ later) s
                (ap (λ (l : List Condition). all_hold range_end model.tables (l ++ later) s) (f.whole ∙ ap (λ (c : Condition). c ∷ f.others) p.whole) ∙ all_both model.tables p.first p.second (f.others ++ later) s);
          };
          fits = omega (arith, room);
        }

    -- it is put as conjunct n
    pub put_first : {after : List ℕ} → 0 < due → Outlines bytes words model → ConjunctPut bytes words after at n → Dividing before after later (at + span (drop at bytes) 0 1) (due - 1) (n + 1)
    put_first {after} h o p =
        let f = due_first h in
        let k = p.kept in
        let low = kept_fewer {few = conjuncts_from} {many = conjuncts_from + 4 * n} (omega arith) k in
        let here : ConjunctAt bytes after model n f.item = p.says after f.item f.used (outlines_kept (kept_fewer {few = outline_words} {many = conjuncts_from} (omega arith) low) o) f.reads in
        record {
          kept = kept_both d.kept low;
          row = f.others;
          stands = rw (passed_over at f.item f.used f.reads) f.behind;
          count = omega (arith, d.count, ap length f.whole);
          parted = record {
            parts = d.parted.parts ++ (f.item ∷ []);
            count = rw (length-append d.parted.parts (f.item ∷ [])) (omega (arith, d.parted.count));
            placed = each_more (ConjunctAt bytes words model) (ConjunctAt bytes after model) d.parted.parts f.item d.parted.placed (λ i x l g. stays i x l g) (rw (← d.parted.count) here);
            same = λ s. d.parted.same s ∙ ap (λ (l : List Condition). all_hold range_end model.tables l s)
                (ap (λ (l : List Condition). d.parted.parts ++ (l ++ later)) f.whole ∙ sym (append_assoc d.parted.parts (f.item ∷ []) (f.others ++ later)));
          };
          fits = omega (arith, d.fits, h);
        }
      where
        stays : (i : ℕ) (x : Condition) → i < length d.parted.parts → ConjunctAt bytes words model i x → ConjunctAt bytes after model i x
        stays i x l g = rw (guard_kept p.kept (conjuncts_from + 4 * i) (omega (arith, d.parted.count, l))) g

  -- ---- constraint k, from its start to its end

  pub begin : {words : List ℕ} (k : ℕ) {n at : ℕ} → Room bytes words → Parting bytes words k n → k < length model.constraints → at ≡ get_or words (constraints_from + k) 0
      → Dividing words words (drop (k + 1) model.constraints) at 1 n
  begin {words} k r p h stands =
      let i = item_at r.outlines.constraints h stands in
      record {
        kept = kept_all conjuncts_from words;
        row = i.item ∷ [];
        stands = next i.reads none;
        count = refl;
        parted = record { parts = p.parted.parts; count = p.parted.count; placed = p.parted.placed; same = λ s. p.parted.same s ∙ ap (λ (l : List Condition). all_hold range_end model.tables (p.parted.parts ++ l) s) i.rest };
        fits = rw (length-drop (k + 1) model.constraints) (omega (arith, p.fits, h));
      }

  no_more : (row : List Condition) → 0 ≡ length row → row ≡ []
  no_more [] e = refl
  no_more (c ∷ row) e = absurd (omega arith)

  pub finish : {before words : List ℕ} (k : ℕ) {due n at : ℕ} → due ≡ 0 → Dividing before words (drop (k + 1) model.constraints) at due n → PartedMore bytes before words (k + 1) n
  finish k z d =
      record {
        kept = d.kept;
        parting = record {
          parted = record { parts = d.parted.parts; count = d.parted.count; placed = d.parted.placed; same = λ s. d.parted.same s ∙ ap (λ (l : List Condition). all_hold range_end model.tables (d.parted.parts ++ (l ++ drop (k + 1) model.constraints)) s) (no_more d.row (sym z ∙ d.count)) };
          fits = omega (arith, d.fits, z, length-drop (k + 1) model.constraints);
        };
      }

  -- ---- all constraints

  pub nothing_parted : (words : List ℕ) → length model.constraints ≤ most_conjuncts → Parting bytes words 0 0
  nothing_parted words few = record { parted = record { parts = []; count = refl; placed = each_none (ConjunctAt bytes words model); same = λ s. refl }; fits = omega (arith, few) }

  -- no constraint is left, and the number of the conjuncts is put
  pub all_put : {before words after : List ℕ} {k n : ℕ} → PartedMore bytes before words k n → length model.constraints ≤ k → Put words after conjunct_count_at (n ∷ []) → ConjunctsPut bytes before after
  all_put {words = words} {after = after} {k = k} {n = n} m l p =
      let parted = m.parting.parted in
      let none = drop_of_length-le model.constraints l in
      record {
        kept = kept_both m.kept (kept_fewer {few = conjuncts_from} {many = conjunct_count_at} (omega arith) p.kept);
        conjuncts = record {
          parts = parted.parts;
          count = ap (λ (i : ℕ). get_or after i 0) (sym (add-zero conjunct_count_at)) ∙ p.there 0 (omega arith) ∙ parted.count;
          few = omega (arith, parted.count, m.parting.fits);
          placed = λ i x e. rw (guard_kept p.kept (conjuncts_from + 4 * i) (omega (arith, found_below parted.parts i e, parted.count, m.parting.fits))) (parted.placed i x e);
          same = λ s. parted.same s ∙ ap (λ (q : List Condition). all_hold range_end model.tables q s) (ap (λ (q : List Condition). parted.parts ++ q) none ∙ append-nil parted.parts);
        };
      }
