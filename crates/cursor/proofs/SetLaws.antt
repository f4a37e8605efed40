-- Sets by their place: variables and literals, and the forms of other sets.
use Prim.Native.Nat.{ℕ, ◌+◌, ◌-◌, ◌≤◌, ◌<◌}
use mathlib.Core.Path.{◌≡◌, refl, sym, ap, subst, ◌∙◌}
use mathlib.Core.Bool.{Bool, true, false, cond}
use mathlib.Core.List.{List}
use native.Mathlib.Omega.{arith}
use lib.ListN.{get_or, drop}
use lib.Seq.{drop-drop}
use lib.Dec.{eqb, leb, ltb}
use borrow.Author.Tests.{eqb-true, eqb-false, leb-true, ltb-true}
use Rattle.model.specs.Readers.{read, word}
use Rattle.model.specs.Sets as Sets
use Rattle.words.specs.FullSets.{full_of}
use Rattle.laws.proofs.Bools.{and_both}
use Rattle.eval_sets.specs.declared.answers.SetValue.{SetValue}
use Rattle.eval_sets.specs.Answers.{set_answer, element_answer, past_set}
use Rattle.eval_sets.specs.Forms.{set_form}
use Rattle.eval_sets.specs.Runs.{objects_in, two_sets, combined, complemented, set_behind, run_element, run_set}
use Rattle.eval_sets.proofs.Opening.{set_opens}
use Rattle.eval_sets.proofs.Parts.{parts, element_set_is, sets_are}
use Rattle.prepare.proofs.Tested.{variable_run, literal_run}
use Rattle.quick.specs.Sets.{begins_element, object_in, changes_set, changed_by}
use Rattle.quick.proofs.Changes.{element_run, changed_of}
use Rattle.cursor.specs.Places.{Stands, Begins}
use Rattle.cursor.specs.Told.{SetTo}
use Rattle.cursor.specs.Codes.{combined_by, is_change, is_combination}

-- ---- first bytes

changes : (b : ℕ) → is_change b ≡ true → changes_set b ≡ true
unfolding is_change changes_set
changes b h =
    let range = and_both (leb 0x42 b) (ltb b 0x44) h in
    go (leb-true 0x42 b range.0) (ltb-true b 0x44 range.1) (eqb b 0x42) refl (eqb b 0x43) refl
  where
    go : 0x42 ≤ b → b < 0x44 → (t : Bool) → eqb b 0x42 ≡ t → (u : Bool) → eqb b 0x43 ≡ u → cond (eqb b 0x42) true (eqb b 0x43) ≡ true
    go l k true e u f = rw e
    go l k false e true f = rw (e, f)
    go l k false e false f = let first = eqb-false b 0x42 e in absurd (eqb-false b 0x43 f (omega (arith, l, k, first)))

combined_of : (state words : List ℕ) (runs : List ℕ → SetValue) (b : ℕ) (e : List ℕ) → is_combination b ≡ true → (s t objects n : ℕ) → two_sets runs e ≡ parts s t objects n
    → set_behind state words runs (set_form b) e ≡ set_answer (combined_by b s t) objects n
unfolding is_combination combined_by set_form set_behind combined
combined_of state words runs b e h s t objects n q =
    let range = and_both (leb 0x44 b) (ltb b 0x47) h in
    go (leb-true 0x44 b range.0) (ltb-true b 0x47 range.1) (eqb b 0x44) refl (eqb b 0x45) refl
  where
    go : 0x44 ≤ b → b < 0x47 → (u : Bool) → eqb b 0x44 ≡ u → (v : Bool) → eqb b 0x45 ≡ v → set_behind state words runs (set_form b) e ≡ set_answer (combined_by b s t) objects n
    go l k true u v w = rw (eqb-true b 0x44 u, q)
    go l k false u true w = rw (eqb-true b 0x45 w, q)
    go l k false u false w =
        let first = eqb-false b 0x44 u in
        let second = eqb-false b 0x45 w in
        let third : b ≡ 0x46 = omega (arith, l, k, first, second) in rw (third, q)

pub change_some : (b : ℕ) → is_change b ≡ true → b ≡ 0 → ⊥
unfolding is_change
change_some b h e = omega (arith, leb-true 0x42 b (and_both (leb 0x42 b) (ltb b 0x44) h).0, e)

pub combination_some : (b : ℕ) → is_combination b ≡ true → b ≡ 0 → ⊥
unfolding is_combination
combination_some b h e = omega (arith, leb-true 0x44 b (and_both (leb 0x44 b) (ltb b 0x47) h).0, e)

-- ---- sets at places

module _ (bytes words state : List ℕ) where
  -- what the run gives with every depth
  runs_to : (p n s objects : ℕ) → Stands bytes p n → ((d : ℕ) → n ≤ d → run_set d state words (drop p bytes) ≡ set_answer s objects n) → SetTo bytes words state p s (p + n)
  runs_to p n s objects there runs = record { used = n; ends = refl; is = record { there = there; objects = objects; runs = runs } }

  -- 41 v
  pub variable_is : (p s : ℕ) → Stands bytes p 2 → get_or bytes p 0 ≡ 0x41 → s ≡ get_or state (get_or bytes (p + 1) 0) 0 → SetTo bytes words state p s (p + 2)
  variable_is p s there b e =
      runs_to p 2 s _ there (λ d h. variable_run state words bytes d p _ (λ k. absurd (omega (arith, h, k))) there.inside b refl ∙ ap (λ (m : ℕ). set_answer m (objects_in words (get_or bytes (p + 1) 0)) 2) (sym e))

  -- 40 n and the members
  pub literal_is : (p s : ℕ) → Stands bytes p 10 → get_or bytes p 0 ≡ 0x40 → word 8 (drop (p + 2) bytes) ≡ read s 8 → SetTo bytes words state p s (p + 10)
  literal_is p s there b e = runs_to p 10 s _ there (λ d h. literal_run state words bytes d p s (λ k. absurd (omega (arith, h, k))) there.inside b e)

  -- 42 or 43, an element and a set
  pub changed_is : {p b s r : ℕ} → Begins bytes p b → is_change b ≡ true → begins_element (get_or bytes (p + 1) 0) ≡ true → SetTo bytes words state (p + 3) s r
      → SetTo bytes words state p (changed_by b (object_in (get_or bytes (p + 1) 0) (get_or bytes (p + 2) 0) state) s) r
  changed_is {p} {b} {s} {r} begins change starts set =
      let n = set.used in
      let k = object_in (get_or bytes (p + 1) 0) (get_or bytes (p + 2) 0) state in
      let objects = set.is.objects in
      let element : run_element state (drop (p + 1) bytes) ≡ element_answer k 2 =
      element_run state bytes (p + 1) (omega (arith, set.is.there.inside)) starts ∙ ap (λ (i : ℕ). element_answer (object_in (get_or bytes (p + 1) 0) (get_or bytes i 0) state) 2) (on 1) in
      let behind : drop 2 (drop (p + 1) bytes) ≡ drop (p + 3) bytes = drop-drop 2 (p + 1) bytes ∙ ap (λ (i : ℕ). drop i bytes) (on 2) in
      record {
        used = 3 + n;
        ends = omega (arith, set.ends);
        is = record {
          there = record { inside = omega (arith, set.is.there.inside); near = omega (arith, set.is.there.near) };
          objects = objects;
          runs = λ d h.
              (set_opens state words).opened d p bytes (λ z. absurd (omega (arith, h, z))) (omega (arith, begins.there.inside)) begins.byte
              ∙ ap (past_set 1) (changed_of state words (λ g. run_set (d - 1) state words g) b (drop (p + 1) bytes) (changes b change) k s objects (2 + n)
              (element_set_is state (λ g. run_set (d - 1) state words g) (drop (p + 1) bytes) k 2 s objects n element (ap (run_set (d - 1) state words) behind ∙ set.is.runs (d - 1) (omega (arith, h)))))
              ∙ ap (set_answer (changed_by b k s) objects) (sum n);
        };
      }
    where
      on : (i : ℕ) → p + 1 + i ≡ p + (1 + i)
      on i = omega arith

      sum : (n : ℕ) → 1 + (2 + n) ≡ 3 + n
      sum n = omega arith

  -- 42 or 43, an element and 41 v
  pub changed_variable_is : (p b s : ℕ) → Stands bytes p 5 → get_or bytes p 0 ≡ b → is_change b ≡ true → begins_element (get_or bytes (p + 1) 0) ≡ true → get_or bytes (p + 3) 0 ≡ 0x41
      → s ≡ changed_by b (object_in (get_or bytes (p + 1) 0) (get_or bytes (p + 2) 0) state) (get_or state (get_or bytes (p + 4) 0) 0) → SetTo bytes words state p s (p + 5)
  changed_variable_is p b s there byte change starts variable e =
      let three : p + 3 + 2 ≡ p + 5 = omega arith in
      let four : p + 3 + 1 ≡ p + 4 = omega arith in
      let set : SetTo bytes words state (p + 3) (get_or state (get_or bytes (p + 4) 0) 0) (p + 3 + 2) =
      variable_is (p + 3) _ (record { inside = omega (arith, there.inside); near = omega (arith, there.near) }) variable (ap (λ (i : ℕ). get_or state (get_or bytes i 0) 0) (sym four)) in
      let begins : Begins bytes p b = record { there = record { inside = omega (arith, there.inside); near = omega (arith, there.near) }; byte = byte } in
      subst (λ (k : ℕ). SetTo bytes words state p k (p + 5)) (sym e) (changed_is begins change starts (subst (λ (q : ℕ). SetTo bytes words state (p + 3) (get_or state (get_or bytes (p + 4) 0) 0) q) three set))

  -- 44 to 46 and two sets
  pub two_sets_are : {p b q r s t : ℕ} → Begins bytes p b → is_combination b ≡ true → SetTo bytes words state (p + 1) s q → SetTo bytes words state q t r → SetTo bytes words state p (combined_by b s t) r
  two_sets_are {p} {b} {q} {r} {s} {t} begins combines first second =
      let n = first.used in
      let m = second.used in
      let objects = first.is.objects in
      let behind : drop n (drop (p + 1) bytes) ≡ drop q bytes = drop-drop n (p + 1) bytes ∙ ap (λ (k : ℕ). drop k bytes) (sym first.ends) in
      record {
        used = 1 + (n + m);
        ends = omega (arith, first.ends, second.ends);
        is = record {
          there = record { inside = omega (arith, first.ends, second.is.there.inside); near = omega (arith, first.ends, second.is.there.near) };
          objects = objects;
          runs = λ d h.
              (set_opens state words).opened d p bytes (λ z. absurd (omega (arith, h, z))) (omega (arith, begins.there.inside)) begins.byte
              ∙ ap (past_set 1) (combined_of state words (λ g. run_set (d - 1) state words g) b (drop (p + 1) bytes) combines s t objects (n + m)
              (sets_are state (λ g. run_set (d - 1) state words g) (drop (p + 1) bytes) s objects n t second.is.objects m (first.is.runs (d - 1) (omega (arith, h))) (ap (run_set (d - 1) state words) behind ∙ second.is.runs (d - 1) (omega (arith, h)))));
        };
      }

  -- 47 41 v
  pub complement_is : (p s : ℕ) → Stands bytes p 3 → get_or bytes p 0 ≡ 0x47 → get_or bytes (p + 1) 0 ≡ 0x41
      → s ≡ Sets.difference (full_of (objects_in words (get_or bytes (p + 2) 0))) (get_or state (get_or bytes (p + 2) 0) 0) → SetTo bytes words state p s (p + 3)
  unfolding set_form set_behind complemented
  complement_is p s there b v e =
      let name = get_or bytes (p + 2) 0 in
      runs_to p 3 s (objects_in words name) there (λ d h.
      (set_opens state words).opened d p bytes (λ z. absurd (omega (arith, h, z))) (omega (arith, there.inside)) b
      ∙ ap (λ (x : SetValue). past_set 1 (complemented x)) (variable_run state words bytes (d - 1) (p + 1) name (λ z. absurd (omega (arith, h, z))) (omega (arith, there.inside)) v (ap (λ (i : ℕ). get_or bytes i 0) on))
      ∙ ap (λ (m : ℕ). set_answer m (objects_in words name) 3) (sym e))
    where
      on : p + 1 + 1 ≡ p + 2
      on = omega arith
