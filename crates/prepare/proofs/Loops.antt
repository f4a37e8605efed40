-- Loops that put the words of one item behind those of another.
use Prim.Native.Nat.{ℕ, ◌+◌, ◌*◌, ◌≤◌, ◌<◌}
use mathlib.Core.Path.{◌≡◌, refl, sym, ap, ◌∙◌}
use mathlib.Core.Bool.{Bool, true, false}
use mathlib.Core.List.{List, [], ◌∷◌}
use mathlib.Core.Option.{some}
use native.Mathlib.Omega.{arith}
use native.Mathlib.Nat.{add-zero}
use lib.ListN.{length, get_or, get_elem?}
use lib.Dec.{ltb}
use borrow.Author.Tests.{ltb-true, ltb-false}
use Rattle.laws.proofs.Lists.{found_below}
use Rattle.model.specs.Numbers.{most_variables}
use Rattle.model.specs.Syntax.{Table, Transition, table_at}
use Rattle.words.specs.Tables.{Tabled, columns_of, cells_of, at_of}
use Rattle.outline.specs.Outline.{kinds_from, preferences_from, tables_from, transitions_from, model_of}
use Rattle.eval_sets.proofs.Parts.{unpacked}
use Rattle.prepare.specs.declared.guards.Guard.{Guard}
use Rattle.prepare.specs.Guards.{guard_in}
use Rattle.prepare.specs.Layout.{masks_from, places_from, guards_from, conjuncts_from}
use Rattle.prepare.specs.Prepared.{compared_mask, hashed_mask, MasksAt, PlaceAt, TransitionAt, Prepared}
use Rattle.prepare.specs.Promised.{Kept, Put, Room, GuardSays, MaskPut, MasksPut, PlacePut, PlacesPut, GuardsPut, ConjunctsPut}
use Rattle.prepare.proofs.Kept.{kept_all, kept_fewer, kept_both, guard_kept, room_kept}

-- what holds of each number before v, and of v
pub one_further : (P : ℕ → Type 0) (v : ℕ) → ((u : ℕ) → u < v → P u) → P v → (u : ℕ) → u < v + 1 → P u
one_further P v h here u l = go (ltb u v) refl
  where
    go : (t : Bool) → ltb u v ≡ t → P u
    go true e = h u (ltb-true u v e)
    go false e = let last : u ≡ v = omega (arith, ltb-false u v e, l) in rw last here

-- ---- masks

pub masks_kept : {before after : List ℕ} {end v : ℕ} → v < most_variables → masks_from + 2 * v + 2 ≤ end → Kept end before after → MasksAt before v → MasksAt after v
masks_kept {v = v} few l k m = record {
  compared = rw (k.words (kinds_from + v) (omega (arith, few, l))) (k.words (masks_from + 2 * v) (omega (arith, l)) ∙ m.compared);
  hashed = rw (k.words (kinds_from + v) (omega (arith, few, l)), k.words (preferences_from + v) (omega (arith, few, l))) (k.words (masks_from + 2 * v + 1) (omega (arith, l)) ∙ m.hashed);
}

-- two words that are put
pub mask_put : {before after : List ℕ} {v compared hashed : ℕ} → v < most_variables → Put before after (masks_from + 2 * v) (compared ∷ hashed ∷ [])
    → compared ≡ compared_mask (get_or before (kinds_from + v) 0) → hashed ≡ hashed_mask (get_or before (kinds_from + v) 0) (get_or before (preferences_from + v) 0) → MaskPut before after v
mask_put {before} {after} {v} few p c h =
    let k = p.kept in
    let first : get_or after (masks_from + 2 * v) 0 ≡ _ = ap (λ (i : ℕ). get_or after i 0) (sym (add-zero (masks_from + 2 * v))) ∙ p.there 0 (omega arith) in
    record {
      kept = k;
      masks = record {
        compared = rw (k.words (kinds_from + v) (omega (arith, few))) (first ∙ c);
        hashed = rw (k.words (kinds_from + v) (omega (arith, few)), k.words (preferences_from + v) (omega (arith, few))) (p.there 1 (omega arith) ∙ h);
      };
    }

-- the masks of the variables before number v
pub record MasksTo (before words : List ℕ) (v : ℕ) : Type 0 where
  pub kept : Kept masks_from before words
  pub masks : (u : ℕ) → u < v → u < most_variables → MasksAt words u

pub masks_none : (words : List ℕ) → MasksTo words words 0
masks_none words = record { kept = kept_all masks_from words; masks = λ u l. absurd (omega arith) }

pub masks_more : {before words after : List ℕ} {v : ℕ} → MasksTo before words v → MaskPut words after v → MasksTo before after (v + 1)
masks_more {words = words} {after = after} {v = v} m p = record {
  kept = kept_both m.kept (kept_fewer {few = masks_from} {many = masks_from + 2 * v} (omega arith) p.kept);
  masks = one_further (λ (u : ℕ). u < most_variables → MasksAt after u) v (λ u l few. masks_kept few (omega (arith, l)) p.kept (m.masks u l few)) (λ few. p.masks);
}

-- ---- places

-- three words that are put: the parts of the table's word
pub place_put : {before after : List ℕ} {t first stride size : ℕ} → Put before after (places_from + 3 * t) (first ∷ stride ∷ size ∷ [])
    → first ≡ at_of (get_or before (tables_from + t) 0) + 1 → stride ≡ 5 * columns_of (get_or before (tables_from + t) 0) → size ≡ 5 * cells_of (get_or before (tables_from + t) 0) → PlacePut before after t
place_put {before} {after} {t} p a b c = record {
  kept = p.kept;
  first = ap (λ (i : ℕ). get_or after i 0) (sym (add-zero (places_from + 3 * t))) ∙ p.there 0 (omega arith) ∙ a;
  stride = p.there 1 (omega arith) ∙ b;
  size = p.there 2 (omega arith) ∙ c;
}

-- of a table that is outlined
place_of : {bytes before after : List ℕ} {t : ℕ} {x : Table} → Tabled bytes (get_or before (tables_from + t) 0) x → PlacePut before after t → PlaceAt bytes after t x
place_of {x = x} d p =
    let u = unpacked d.at x.columns (length x.entries) d.near d.narrow d.few in
    record {
      at = d.at;
      first = p.first ∙ ap (λ (i : ℕ). i + 1) (ap at_of d.packed ∙ u.2);
      stride = p.stride ∙ ap (λ (i : ℕ). 5 * i) (ap columns_of d.packed ∙ u.0);
      size = p.size ∙ ap (λ (i : ℕ). 5 * i) (ap cells_of d.packed ∙ u.1);
      cells = d.cells;
    }

place_kept : {bytes before after : List ℕ} {end t : ℕ} {x : Table} → places_from + 3 * t + 3 ≤ end → Kept end before after → PlaceAt bytes before t x → PlaceAt bytes after t x
place_kept {t = t} l k p = record {
  at = p.at;
  first = k.words (places_from + 3 * t) (omega (arith, l)) ∙ p.first;
  stride = k.words (places_from + 3 * t + 1) (omega (arith, l)) ∙ p.stride;
  size = k.words (places_from + 3 * t + 2) (omega (arith, l)) ∙ p.size;
  cells = p.cells;
}

module _ (bytes : List ℕ) where
  abbrev tables : List Table
  tables = (model_of bytes).tables

  -- the places of the tables before number t
  pub record PlacesTo (before words : List ℕ) (t : ℕ) : Type 0 where
    pub kept : Kept places_from before words
    pub room : Room bytes words
    pub places : (u : ℕ) → u < t → u < length tables → PlaceAt bytes words u (table_at tables u)

  pub places_none : {words : List ℕ} → Room bytes words → PlacesTo words words 0
  places_none {words} r = record { kept = kept_all places_from words; room = r; places = λ u l. absurd (omega arith) }

  pub places_more : {before words after : List ℕ} {t : ℕ} → PlacesTo before words t → PlacePut words after t → PlacesTo before after (t + 1)
  places_more {words = words} {after = after} {t = t} m p =
      let low = kept_fewer {few = places_from} {many = places_from + 3 * t} (omega arith) p.kept in
      record {
        kept = kept_both m.kept low;
        room = room_kept {end = places_from} (omega arith) low m.room;
        places = one_further (λ (u : ℕ). u < length tables → PlaceAt bytes after u (table_at tables u)) t
            (λ u l few. place_kept (omega (arith, l)) p.kept (m.places u l few)) (λ few. place_of (m.room.outlines.tables t few) p);
      }

  -- ---- guards

  -- the guards of the transitions before number t
  pub record GuardsTo (before words : List ℕ) (t : ℕ) : Type 0 where
    pub kept : Kept guards_from before words
    pub room : Room bytes words
    pub guards : (u : ℕ) → u < t → (x : Transition) → get_elem? (model_of bytes).transitions u ≡ some x → TransitionAt bytes words (model_of bytes) u x

  pub guards_none : {words : List ℕ} → Room bytes words → GuardsTo words words 0
  guards_none {words} r = record { kept = kept_all guards_from words; room = r; guards = λ u l. absurd (omega arith) }

  -- the guard g of what stands at `at` is put
  pub guards_more : {before words after : List ℕ} {t at : ℕ} {g : Guard} → GuardsTo before words t → at ≡ get_or words (transitions_from + t) 0 → GuardSays bytes at g
      → guard_in after (guards_from + 4 * t) ≡ g → Kept (guards_from + 4 * t) words after → GuardsTo before after (t + 1)
  guards_more {words = words} {after = after} {t = t} m stands says put k =
      let low = kept_fewer {few = guards_from} {many = guards_from + 4 * t} (omega arith) k in
      record {
        kept = kept_both m.kept low;
        room = room_kept {end = guards_from} (omega arith) low m.room;
        guards = one_further (λ (u : ℕ). (x : Transition) → get_elem? (model_of bytes).transitions u ≡ some x → TransitionAt bytes after (model_of bytes) u x) t
            (λ u l x e. rw (guard_kept k (guards_from + 4 * u) (omega (arith, l))) (m.guards u l x e))
            (λ x e. let i = m.room.outlines.transitions t x e in rw put (says words x i.used m.room.outlines (rw stands i.reads)));
      }

  -- ---- one part after the other

  pub all_prepared : {first masked placed guarded words : List ℕ} → Room bytes first → MasksPut first masked → PlacesPut bytes masked placed → GuardsPut bytes placed guarded → ConjunctsPut bytes guarded words → Prepared bytes words (model_of bytes)
  all_prepared r m p g c =
      let last = kept_fewer {few = guards_from} {many = conjuncts_from} (omega arith) c.kept in
      let behind_places = kept_both g.kept last in
      let behind-masks = kept_both p.kept (kept_fewer {few = places_from} {many = guards_from} (omega arith) behind_places) in
      record {
        masks = λ v few. masks_kept few (omega (arith, few)) behind-masks (m.masks v few);
        places = λ t few. place_kept (omega (arith, few, r.outlines.few_tables)) behind_places (p.places t few);
        guards = λ t x e. rw (guard_kept c.kept (guards_from + 4 * t) (omega (arith, found_below (model_of bytes).transitions t e, r.outlines.few_transitions))) (g.guards t x e);
        conjuncts = c.conjuncts;
      }
