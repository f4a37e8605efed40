-- Laws of the groups: the words that one group writes, its code, and the end of the model.
use Prim.Native.Nat.{ℕ, ◌+◌, ◌<◌, ◌≤◌}
use mathlib.Core.Path.{◌≡◌, sym, ap, ◌∙◌}
use mathlib.Core.Logic.{⊎_elim}
use mathlib.Core.List.{List, [], ◌∷◌}
use native.Mathlib.Omega.{arith}
use lib.ListN.{length, get_or, take, drop, set, length-take, length-drop, length-set}
use lib.Seq.{get_or-set_same, get_or-set_other}
use Rattle.std.specs.Prelude.{Ok, Err}
use Rattle.model.specs.Numbers.{most_nesting, bytes_after_end}
use Rattle.model.specs.Readers.{read, refused, command, up_to}
use Rattle.model.specs.Syntax.{Variable, Table}
use Rattle.model.specs.Commands.{nothing_more}
use Rattle.model.proofs.Fair.{Fair, reads, refuses, next_fair, command_fair}
use Rattle.model.proofs.Reading.{number_fair, condition_fair, conditions_fair, transition_fair}
use Rattle.outline.specs.Outline.{outline_words}
use Rattle.read_declarations.specs.Positions.{read_at, position_of}
use Rattle.read_model.specs.Groups.{code_of, most_of, count_at, offsets_from, item_of, ItemsRead, GroupRead, the_end}
use Rattle.read_model.specs.declared.Group.{Group}
use Rattle.read_model.specs.declared.Group.TheVariants as G
use Rattle.read_forms.specs.declared.refusals.Refusal.{Refusal}
use Rattle.read_forms.specs.declared.refusals.Refusal.TheVariants.{BytesAfterEnd}
use Rattle.read_declarations.proofs.Positions.{nothing, front, reads_at, refuses_at, command_read, next_goes_on, next_stops}
use Rattle.laws.proofs.Lists.{found_below}
use Rattle.read_declarations.proofs.Lists.{with_part, part_in, part_before, part_behind, part_length}

pub code_positive : (g : Group) → 0 < code_of g
code_positive G.Transitions = omega arith
code_positive G.BaseCases = omega arith
code_positive G.Constraints = omega arith
code_positive G.Bounds = omega arith

-- where a group's words are
pub record Room (g : Group) : Type 0 where
  pub behind_counts : 3 ≤ count_at g
  pub low : count_at g < 16
  pub behind_tables_lem : 112 ≤ offsets_from g
  pub high : offsets_from g + most_of g ≤ outline_words

pub room : (g : Group) → Room g
room G.Transitions = record { behind_counts = omega arith; low = omega arith; behind_tables_lem = omega arith; high = omega arith }
room G.BaseCases = record { behind_counts = omega arith; low = omega arith; behind_tables_lem = omega arith; high = omega arith }
room G.Constraints = record { behind_counts = omega arith; low = omega arith; behind_tables_lem = omega arith; high = omega arith }
room G.Bounds = record { behind_counts = omega arith; low = omega arith; behind_tables_lem = omega arith; high = omega arith }

module _ (vs : List Variable) (ts : List Table) (g : Group) (bytes : List ℕ) (start : ℕ) (before part : List ℕ) (long : outline_words ≤ length before) (whole : length part ≡ most_of g) where
  abbrev filled : List ℕ
  filled = with_part (offsets_from g) (most_of g) before part

  fits : offsets_from g + most_of g ≤ length before
  fits = omega (arith, (room g).high)

  filled_length : length filled ≡ length before
  filled_length = part_length (offsets_from g) (most_of g) before part fits whole

  pub group_read : {end n : ℕ} → ItemsRead (item_of vs ts g) bytes part (read_at (up_to (most_of g) (code_of g) (item_of vs ts g)) start bytes) end n
      → GroupRead vs ts g bytes start before (set filled (count_at g) n) end
  group_read {end} {n} h =
      let inside : count_at g < length filled = omega (arith, filled_length, (room g).low, (room g).behind_tables_lem, (room g).high) in
      record {
        items = h.items;
        reads = h.reads;
        outlined = record {
          count = get_or-set_same filled (count_at g) n 0 inside ∙ sym h.count;
          few = omega (arith, h.count, h.few);
          placed = λ k x e.
              let less : k < most_of g = omega (arith, found_below h.items k e, h.count, h.few) in
              let w : get_or (set filled (count_at g) n) (offsets_from g + k) 0 ≡ get_or part k 0 =
              get_or-set_other filled (count_at g) (offsets_from g + k) n 0 (λ q. omega (arith, (room g).low, (room g).behind_tables_lem)) ∙ part_in (offsets_from g) (most_of g) before part fits whole k less in
              let i = h.placed k x e in
              record { inside = rw w i.inside; used = i.used; reads = rw w i.reads };
        };
        kept = λ i o. get_or-set_other filled (count_at g) i n 0 o.0
            ∙ ⊎_elim (λ l. part_before (offsets_from g) (most_of g) before part fits whole i l) (λ l. part_behind (offsets_from g) (most_of g) before part fits whole i l) o.1;
      }

-- ---- readers that are fair

pub item_fair : (vs : List Variable) (ts : List Table) (g : Group) → Fair (item_of vs ts g)
unfolding item_of
item_fair vs ts G.Transitions = transition_fair vs ts
item_fair vs ts G.BaseCases = conditions_fair vs ts
item_fair vs ts G.Constraints = condition_fair vs ts most_nesting
item_fair vs ts G.Bounds = number_fair vs ts most_nesting

nothing_more_fair : Fair nothing_more
unfolding nothing_more
nothing_more_fair [] = reads {n = 0} (omega arith)
nothing_more_fair (b ∷ bytes) = refuses {t = bytes_after_end} (omega arith)

pub the_end_fair : Fair the_end
the_end_fair = next_fair (command_fair 0x0e) nothing_more_fair

-- ---- the end

module _ (bytes : List ℕ) (at : ℕ) where
  nothing_behind : (m : ℕ) → length bytes ≤ m → nothing_more (drop m bytes) ≡ read tt 0
  unfolding nothing_more
  nothing_behind m h = rw (nothing bytes m h)

  something_behind : (m : ℕ) → m < length bytes → nothing_more (drop m bytes) ≡ refused bytes_after_end
  unfolding nothing_more
  something_behind m h = rw (front bytes m h)

  pub end_good : {m : ℕ} → Ok m ≡ position_of (read_at (command 0x0e) at bytes) → m ≡ length bytes → Ok m ≡ position_of (read_at the_end at bytes)
  end_good {m} q l =
      let p : m ≡ m + 0 = omega arith in
      ap Ok p ∙ sym (ap position_of (next_goes_on (command 0x0e) nothing_more at bytes q ∙ reads_at nothing_more m bytes (nothing_behind m (omega (arith, l)))))

  pub end_more : {m : ℕ} → Ok m ≡ position_of (read_at (command 0x0e) at bytes) → (m ≡ length bytes → ⊥) → Err BytesAfterEnd ≡ position_of (read_at the_end at bytes)
  end_more {m} q l =
      let there = command_read 14 at bytes q in
      sym (ap position_of (next_goes_on (command 0x0e) nothing_more at bytes q ∙ refuses_at nothing_more m bytes (something_behind m (omega (arith, there.inside, there.behind)))))

  pub end_refused : {r : Refusal} → Err r ≡ position_of (read_at (command 0x0e) at bytes) → Err r ≡ position_of (read_at the_end at bytes)
  end_refused q = next_stops (command 0x0e) nothing_more at bytes q

-- the words as the loan of the offsets and the store of the count leave them
module _ (vs : List Variable) (ts : List Table) (g : Group) (bytes : List ℕ) (start : ℕ) (before part : List ℕ) (a k : ℕ)
    (from : a ≡ offsets_from g) (most : k ≡ most_of g) (long : outline_words ≤ length before) (whole : length part ≡ length (take k (drop a before))) where
  lent : length (take k (drop a before)) ≡ most_of g
  lent = simp (length-take, length-drop) (omega (arith, (room g).high))

  pub group_length : length (with_part a k before part) ≡ length before
  group_length =
      let fits : a + k ≤ length before = omega (arith, (room g).high) in
      part_length a k before part fits (whole ∙ (lent ∙ sym most))

  pub group_told : {at : ℕ} → at ≡ count_at g → {end n : ℕ} → ItemsRead (item_of vs ts g) bytes part (read_at (up_to (length (take k (drop a before))) (code_of g) (item_of vs ts g)) start bytes) end n
      → (length (set (with_part a k before part) at n) ≡ length before) × GroupRead vs ts g bytes start before (set (with_part a k before part) at n) end
  group_told {at} count {end} {n} h =
      let size : length part ≡ most_of g = whole ∙ lent in
      let same : length (set (with_part a k before part) at n) ≡ length before = length-set (with_part a k before part) at n ∙ group_length in
      let told : GroupRead vs ts g bytes start before (set (with_part (offsets_from g) (most_of g) before part) (count_at g) n) end =
      group_read vs ts g bytes start before part long size (rw lent at h) in
      (same, rw (from, most, count) told)

  pub group_not_told : {t : ℕ} → read_at (up_to (length (take k (drop a before))) (code_of g) (item_of vs ts g)) start bytes ≡ refused t
      → (length (with_part a k before part) ≡ length before) × (read_at (up_to (most_of g) (code_of g) (item_of vs ts g)) start bytes ≡ refused t)
  group_not_told h = (group_length, rw lent at h)
