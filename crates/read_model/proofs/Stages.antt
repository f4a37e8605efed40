-- Laws of the model's reading from its groups on: what each group leaves to the next, where a refusal stops it, and what the words say at the end.
use Prim.Native.Nat.{ℕ, ◌+◌, ◌<◌, ◌≤◌}
use mathlib.Core.Path.{◌≡◌, refl, sym, ap, subst, ◌∙◌}
use mathlib.Core.Logic.{◌⊎◌, inl, inr, ⊎_elim}
use mathlib.Core.List.{List}
use native.Mathlib.Omega.{arith}
use lib.ListN.{get_or}
use Rattle.std.specs.Prelude.{Result, Err}
use Rattle.model.specs.Numbers.{most_nesting}
use Rattle.model.specs.Readers.{Read, read, refused, Reader, ◌>>=◌, ◌>>◌, give, command, up_to}
use Rattle.model.specs.Syntax.{Rule, Variable, Table, Model}
use Rattle.model.specs.Expressions.{condition}
use Rattle.model.specs.Commands.{conditions, transition, nothing_more}
use Rattle.words.specs.Signature.{variables_of, tables_of}
use Rattle.read_declarations.specs.Positions.{read_at, position_of}
use Rattle.read_model.specs.Groups.{Item, code_of, most_of, count_at, offsets_from, item_of, Outside, GroupAt, GroupRead, GroupTold, the_end, behind_bounds, behind_constraints, behind_base_cases, behind_transitions, behind_tables, VariablesDeclared, TablesDeclared, GroupsAt, GroupsRead, GroupsKeep, GroupsTold, GroupsAs}
use Rattle.read_model.specs.declared.Group.{Group}
use Rattle.read_model.specs.declared.Group.TheVariants as G
use Rattle.read_forms.specs.declared.refusals.Refusal.{Refusal}
use Rattle.read_declarations.proofs.Positions.{fair_number, give_at, then_read, then_refused, next_read, next_refused, next_split}
use Rattle.laws.proofs.Lists.{found_below}
use Rattle.read_model.proofs.Outlining.{room, the_end_fair}
use Rattle.read_model.proofs.Alike.{items_alike}

-- ---- a group's words, after another group has written its own

abbrev Within : Group → (i : ℕ) → Type 0
Within g i = (i ≡ count_at g) ⊎ ((offsets_from g ≤ i) × (i < offsets_from g + most_of g))

group_later : {A : Type 0} (r : Reader A) (g : Group) (bytes words later : List ℕ) (items : List A) → ((i : ℕ) → Within g i → get_or later i 0 ≡ get_or words i 0) → GroupAt r g bytes words items → GroupAt r g bytes later items
group_later r g bytes words later items kept h = record {
  count = kept (count_at g) (inl refl) ∙ h.count;
  few = h.few;
  placed = λ k x e.
      let less : k < most_of g = omega (arith, found_below items k e, h.few) in
      let w : get_or later (offsets_from g + k) 0 ≡ get_or words (offsets_from g + k) 0 = kept (offsets_from g + k) (inr (omega arith, omega arith)) in
      let i = h.placed k x e in
      record { inside = rw w i.inside; used = i.used; reads = rw w i.reads };
}

-- the words of a group are outside a group behind it
outside : (g h : Group) → count_at g < count_at h → offsets_from g + most_of g ≤ offsets_from h → (i : ℕ) → Within g i → Outside h i
outside g h c o i w =
    let a = room g in
    let b = room h in (λ q. ⊎_elim (λ e. omega arith) (λ e. omega arith) w, inl (⊎_elim (λ e. omega arith) (λ e. omega arith) w))

abbrev Declarations : (i : ℕ) → Type 0
Declarations i = (i < 3) ⊎ ((16 ≤ i) × (i < 112))

declarations_outside : (g : Group) (i : ℕ) → Declarations i → Outside g i
declarations_outside g i w = let a = room g in (λ q. ⊎_elim (λ e. omega arith) (λ e. omega arith) w, inl (⊎_elim (λ e. omega arith) (λ e. omega arith) w))

-- ---- one group behind the other

module _ (kinds rows columns : List ℕ) where
  abbrev vs₀ : List Variable
  vs₀ = variables_of kinds

  abbrev ts₀ : List Table
  ts₀ = tables_of rows columns

  module _ (vs : List Variable) (ts : List Table) (dv : VariablesDeclared kinds vs) (dt : TablesDeclared rows columns ts) (g : Group) where
    -- a group is read alike over the declared variables and tables
    group_reads : {bytes : List ℕ} {start end : ℕ} {before words : List ℕ} (h : GroupRead vs₀ ts₀ g bytes start before words end)
        → read_at (up_to (most_of g) (code_of g) (item_of vs ts g)) start bytes ≡ read h.items end
    group_reads h = rw (items_alike vs ts kinds rows columns dv dt g) h.reads

    group_refuses : (bytes : List ℕ) (start : ℕ) {t : ℕ} → read_at (up_to (most_of g) (code_of g) (item_of vs₀ ts₀ g)) start bytes ≡ refused t
        → read_at (up_to (most_of g) (code_of g) (item_of vs ts g)) start bytes ≡ refused t
    group_refuses bytes start h = rw (items_alike vs ts kinds rows columns dv dt g) h

    group_outlined : {bytes : List ℕ} {start end : ℕ} {before words : List ℕ} (h : GroupRead vs₀ ts₀ g bytes start before words end) → GroupAt (item_of vs ts g) g bytes words h.items
    group_outlined h = rw (items_alike vs ts kinds rows columns dv dt g) h.outlined

  module _ (bytes : List ℕ) (start : ℕ) where
    -- the reading comes to a position, with this left to read
    abbrev Reaches : (left : Rule → List Variable → List Table → Reader Model) → (at : ℕ) → Type 0
    Reaches left at =
        (rule : Rule) (vs : List Variable) (ts : List Table) → VariablesDeclared kinds vs → TablesDeclared rows columns ts → read_at (behind_tables rule vs ts) start bytes ≡ read_at (left rule vs ts) at bytes

    module _ (g : Group) (next : Rule → List Variable → List Table → List (Item g) → Reader Model) (at : ℕ) (r : Reaches (λ rule vs ts. up_to (most_of g) (code_of g) (item_of vs ts g) >>= next rule vs ts) at)
        (words later : List ℕ) where
      further : {p : ℕ} (h : GroupRead vs₀ ts₀ g bytes at words later p) → Reaches (λ rule vs ts. next rule vs ts h.items) p
      further h rule vs ts dv dt = r rule vs ts dv dt ∙ then_read (up_to (most_of g) (code_of g) (item_of vs ts g)) at bytes (next rule vs ts) (group_reads vs ts dv dt g h)

      -- a refusal stops it
      stops : (w0 : List ℕ) {x : Result ℕ Refusal} {y : Refusal} → x ≡ Err y → GroupTold vs₀ ts₀ g bytes at words later x → GroupsAs kinds rows columns bytes start w0 later (Err y)
      stops w0 e h rule vs ts dv dt =
          r rule vs ts dv dt ∙ then_refused (up_to (most_of g) (code_of g) (item_of vs ts g)) at bytes (next rule vs ts)
          (group_refuses vs ts dv dt g bytes at (subst (GroupTold vs₀ ts₀ g bytes at words later) e h))

    pub stop_first : (w0 w1 : List ℕ) {x : Result ℕ Refusal} {y : Refusal} → x ≡ Err y → GroupTold vs₀ ts₀ G.Transitions bytes start w0 w1 x → GroupsAs kinds rows columns bytes start w0 w1 (Err y)
    unfolding behind_tables item_of
    stop_first w0 w1 = stops G.Transitions behind_transitions start (λ rule vs ts dv dt. refl) w0 w1 w0

  module _ {bytes : List ℕ} {start p : ℕ} {w0 w1 : List ℕ} (h₁ : GroupRead vs₀ ts₀ G.Transitions bytes start w0 w1 p) where
    to_base_cases : Reaches bytes start (λ rule vs ts. behind_transitions rule vs ts h₁.items) p
    unfolding behind_tables item_of
    to_base_cases = further bytes start G.Transitions behind_transitions start (λ rule vs ts dv dt. refl) w0 w1 h₁

    pub stop_second : (w2 : List ℕ) {x : Result ℕ Refusal} {y : Refusal} → x ≡ Err y → GroupTold vs₀ ts₀ G.BaseCases bytes p w1 w2 x → GroupsAs kinds rows columns bytes start w0 w2 (Err y)
    unfolding item_of
    stop_second w2 = stops bytes start G.BaseCases (λ rule vs ts. behind_base_cases rule vs ts h₁.items) p to_base_cases w1 w2 w0

    module _ {q : ℕ} {w2 : List ℕ} (h₂ : GroupRead vs₀ ts₀ G.BaseCases bytes p w1 w2 q) where
      to_constraints : Reaches bytes start (λ rule vs ts. behind_base_cases rule vs ts h₁.items h₂.items) q
      unfolding item_of
      to_constraints = further bytes start G.BaseCases (λ rule vs ts. behind_base_cases rule vs ts h₁.items) p to_base_cases w1 w2 h₂

      pub stop_third : (w3 : List ℕ) {x : Result ℕ Refusal} {y : Refusal} → x ≡ Err y → GroupTold vs₀ ts₀ G.Constraints bytes q w2 w3 x → GroupsAs kinds rows columns bytes start w0 w3 (Err y)
      unfolding item_of
      stop_third w3 = stops bytes start G.Constraints (λ rule vs ts. behind_constraints rule vs ts h₁.items h₂.items) q to_constraints w2 w3 w0

      module _ {r : ℕ} {w3 : List ℕ} (h₃ : GroupRead vs₀ ts₀ G.Constraints bytes q w2 w3 r) where
        to_bounds : Reaches bytes start (λ rule vs ts. behind_constraints rule vs ts h₁.items h₂.items h₃.items) r
        unfolding item_of
        to_bounds = further bytes start G.Constraints (λ rule vs ts. behind_constraints rule vs ts h₁.items h₂.items) q to_constraints w2 w3 h₃

        pub stop_fourth : (w4 : List ℕ) {x : Result ℕ Refusal} {y : Refusal} → x ≡ Err y → GroupTold vs₀ ts₀ G.Bounds bytes r w3 w4 x → GroupsAs kinds rows columns bytes start w0 w4 (Err y)
        unfolding item_of
        stop_fourth w4 = stops bytes start G.Bounds (λ rule vs ts. behind_bounds rule vs ts h₁.items h₂.items h₃.items) r to_bounds w3 w4 w0

        module _ {s : ℕ} {w4 : List ℕ} (h₄ : GroupRead vs₀ ts₀ G.Bounds bytes r w3 w4 s) where
          to_end : Reaches bytes start (λ rule vs ts. behind_bounds rule vs ts h₁.items h₂.items h₃.items h₄.items) s
          unfolding item_of
          to_end = further bytes start G.Bounds (λ rule vs ts. behind_bounds rule vs ts h₁.items h₂.items h₃.items) r to_bounds w3 w4 h₄

          keeps : GroupsKeep w0 w4
          keeps i d =
              h₄.kept i (declarations_outside G.Bounds i d) ∙ (h₃.kept i (declarations_outside G.Constraints i d)
              ∙ (h₂.kept i (declarations_outside G.BaseCases i d) ∙ h₁.kept i (declarations_outside G.Transitions i d)))

          module _ (rule : Rule) (vs : List Variable) (ts : List Table) (dv : VariablesDeclared kinds vs) (dt : TablesDeclared rows columns ts) where
            abbrev whole : Model
            whole = record { rule = rule; variables = vs; tables = ts; transitions = h₁.items; base_cases = h₂.items; constraints = h₃.items; bounds = h₄.items }

            all_outlined : GroupsAt bytes w4 whole
            unfolding item_of
            all_outlined = record {
              transitions = group_later (transition vs ts) G.Transitions bytes w1 w4 h₁.items
                  (λ i w. h₄.kept i (outside G.Transitions G.Bounds (omega arith) (omega arith) i w) ∙ (h₃.kept i (outside G.Transitions G.Constraints (omega arith) (omega arith) i w)
                  ∙ h₂.kept i (outside G.Transitions G.BaseCases (omega arith) (omega arith) i w))) (group_outlined vs ts dv dt G.Transitions h₁);
              base_cases_placed = group_later (conditions vs ts) G.BaseCases bytes w2 w4 h₂.items
                  (λ i w. h₄.kept i (outside G.BaseCases G.Bounds (omega arith) (omega arith) i w) ∙ h₃.kept i (outside G.BaseCases G.Constraints (omega arith) (omega arith) i w))
                  (group_outlined vs ts dv dt G.BaseCases h₂);
              constraints = group_later (condition vs ts most_nesting) G.Constraints bytes w3 w4 h₃.items
                  (λ i w. h₄.kept i (outside G.Constraints G.Bounds (omega arith) (omega arith) i w)) (group_outlined vs ts dv dt G.Constraints h₃);
              bounds = group_outlined vs ts dv dt G.Bounds h₄;
            }

            end_reads : {u : Unit {0}} {end : ℕ} → read_at the_end s bytes ≡ read u end → read_at (behind_tables rule vs ts) start bytes ≡ read whole end
            end_reads {u} {end} e =
                let i = next_split (command 0x0e) nothing_more s bytes e in
                to_end rule vs ts dv dt ∙ (next_read (command 0x0e) s bytes (nothing_more >> give whole) i.2 ∙ (next_read nothing_more i.1 bytes (give whole) i.3 ∙ give_at whole end bytes))

            end_refuses : {t : ℕ} → read_at the_end s bytes ≡ refused t → read_at (behind_tables rule vs ts) start bytes ≡ refused t
            end_refuses {t} e = to_end rule vs ts dv dt ∙ go (read_at (command 0x0e) s bytes) refl
              where
                go : (x : Read (Unit {0})) → read_at (command 0x0e) s bytes ≡ x → read_at (behind_bounds rule vs ts h₁.items h₂.items h₃.items h₄.items) s bytes ≡ refused t
                go (read u k) q = next_read (command 0x0e) s bytes (nothing_more >> give whole) q ∙ next_refused nothing_more k bytes (give whole) (sym (next_read (command 0x0e) s bytes nothing_more q) ∙ e)
                go (refused u) q =
                    let f : ◌≡◌ {A = Read (Unit {0})} (refused u) (refused t) = sym (next_refused (command 0x0e) s bytes nothing_more q) ∙ e in
                    let same : u ≡ t = cc in
                    next_refused (command 0x0e) s bytes (nothing_more >> give whole) q ∙ ap refused same

            finished : {u : Unit {0}} {end : ℕ} → read_at the_end s bytes ≡ read u end → GroupsRead (read_at (behind_tables rule vs ts) start bytes) rule vs ts bytes w4 end
            finished e = record { model = whole; reads = end_reads e; rule_is = refl; variables_are = refl; tables_are = refl; groups = all_outlined }

          pub stop_last : {x : Result ℕ Refusal} → x ≡ position_of (read_at the_end s bytes) → GroupsAs kinds rows columns bytes start w0 w4 x
          stop_last {x} e rule vs ts dv dt = go (read_at the_end s bytes) refl
            where
              go : (y : Read (Unit {0})) → read_at the_end s bytes ≡ y → GroupsTold (read_at (behind_tables rule vs ts) start bytes) rule vs ts bytes w0 w4 x
              go (read u end) q = subst (GroupsTold (read_at (behind_tables rule vs ts) start bytes) rule vs ts bytes w0 w4) (sym (e ∙ ap position_of q)) (finished rule vs ts dv dt q, keeps)
              go (refused t) q = subst (GroupsTold (read_at (behind_tables rule vs ts) start bytes) rule vs ts bytes w0 w4) (sym (e ∙ ap position_of q)) (end_refuses rule vs ts dv dt q ∙ ap refused (sym (fair_number the_end s bytes the_end_fair q)))
