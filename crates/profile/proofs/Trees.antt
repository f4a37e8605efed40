-- The forms of the loading profile in bytes are those of what is read there.
use Prim.Native.Nat.{ℕ, zero, suc, ◌+◌}
use mathlib.Core.Path.{◌≡◌, refl, sym, subst}
use mathlib.Core.Bool.{Bool, true, false, cond}
use mathlib.Core.List.{List, ◌∷◌}
use mathlib.Core.Option.{none, some}
use native.Mathlib.Omega.{arith}
use lib.ListN.{drop}
use Rattle.model.specs.Readers.{Read, read, refused}
use Rattle.model.specs.Syntax.{Element, object, element_variable, Set, add, remove, union, intersection, difference, complement, Condition, equal, less, at_most, same, member, is_empty, subset, negation, both, either, of_set, an_element, a_set, Variable, Table}
use Rattle.model.specs.Expressions.{objects_and_members, object_number, variable, element, set, number, condition}
use Rattle.model.specs.Profile.{is_variable_zero, object_beside, required_object, removed_by, asks_for_empty}
use Rattle.eval_sets.proofs.Reading.{Of, said, unsaid, of_map, of_one, of_two, of_object_number, of_variable_lem, of_element_and_set, of_two_sets, pick, pick_none, of_forms, of_no_depth}
use Rattle.profile.specs.Forms.{told, variable_zero_in, beside_in, object_in, empty_in}

-- whatever was read
any_read : {A : Type 0} (r : Read A) → Of (λ a n. Unit {0}) r
any_read (read a n) = said tt
any_read (refused t) = unsaid

-- ---- elements and sets

-- 30 k, or another form
abbrev ElementIn : (e : List ℕ) → Element → Type 0
ElementIn e (object k) = (rest : List ℕ) × (e ≡ 0x30 ∷ k ∷ rest)
ElementIn e (element_variable n v) = (rest : List ℕ) × (e ≡ 0x31 ∷ rest)

told_if : (b : Bool) (k : ℕ) → cond b (k + 1) 0 ≡ told (cond b (some k) none)
unfolding told
told_if true k = refl
told_if false k = refl

-- 30 k 41 00
beside : (i : Element) (x : Set) (e : List ℕ) → ElementIn e i → variable_zero_in (drop 2 e) ≡ is_variable_zero x → beside_in e ≡ told (object_beside i x)
unfolding beside_in object_beside told
beside (object k) x e (rest, q) h =
    let there : variable_zero_in rest ≡ is_variable_zero x = rw q at h in
    rw (q, there) (told_if (is_variable_zero x) k)
beside (element_variable n v) x e (rest, q) h = rw q refl

-- what is read behind a first byte k
abbrev ElementBehind : (f : List ℕ) (k : ℕ) → Unit {0} → Read Element → Type 0
ElementBehind f k u r = Of (λ i n. ElementIn (k ∷ f) i × (n ≡ 1)) r

module _ (vs : List Variable) (ts : List Table) where
  element_in : (d : ℕ) (e : List ℕ) → Of (λ i n. ElementIn e i × (n ≡ 2)) (element vs ts d e)
  unfolding element
  element_in zero e = of_no_depth e
  element_in (suc d) e = of_forms _ e (λ b f q. of_map (λ i n h. (subst (λ (g : List ℕ). ElementIn g i) (sym q) h.0, omega (arith, h.1)))
      (pick (ElementBehind f) b f 0x30 _ _ tt tt (of_one object_number object f (of_object_number f) (λ k n p. ((p.0.rest, rw p.0.whole), p.0.used)))
      (pick (ElementBehind f) b f 0x31 _ _ tt tt (of_one (variable vs ts an_element) _ f (of_variable_lem vs ts an_element f) (λ a n p. ((f, refl), p.0.used)))
      (pick_none (ElementBehind f) b f tt (λ t. unsaid)))))

  -- a set: whether it is variable 0, and what it removes
  pub record SetIn (e : List ℕ) (x : Set) : Type 0 where
    pub zero_set : variable_zero_in e ≡ is_variable_zero x
    pub removes : object_in 0x43 e ≡ told (removed_by (of_set x))

  abbrev SetBehind : (f : List ℕ) (k : ℕ) → Unit {0} → Read Set → Type 0
  SetBehind f k u r = Of (λ x n. SetIn (k ∷ f) x) r

  pub set_in : (d : ℕ) (e : List ℕ) → Of (λ x n. SetIn e x) (set vs ts d e)
  unfolding set variable_zero_in is_variable_zero object_in removed_by told
  set_in zero e = of_no_depth e
  set_in (suc d) e = of_forms _ e (λ b f q. of_map (λ x n h. subst (λ (g : List ℕ). SetIn g x) (sym q) h)
      (pick (SetBehind f) b f 0x40 _ _ tt tt (of_one objects_and_members _ f (any_read _) (λ a n p. record { zero_set = refl; removes = refl }))
      (pick (SetBehind f) b f 0x41 _ _ tt tt (of_one (variable vs ts a_set) _ f (of_variable_lem vs ts a_set f) (λ a n p. record { zero_set = rw p.0.whole; removes = refl }))
      (pick (SetBehind f) b f 0x42 _ _ tt tt (of_element_and_set (element vs ts d) (set vs ts d) add f (any_read _) (λ g. any_read _) (λ a n c m p q. record { zero_set = refl; removes = refl }))
      (pick (SetBehind f) b f 0x43 _ _ tt tt (of_element_and_set (element vs ts d) (set vs ts d) remove f (element_in d f) (set_in d)
      (λ a n c m p q. record { zero_set = refl; removes = beside a c f p.0 (rw p.1 at q.zero_set) }))
      (pick (SetBehind f) b f 0x44 _ _ tt tt (of_two_sets (set vs ts d) union f (any_read _) (λ g. any_read _) (λ a n c m p q. record { zero_set = refl; removes = refl }))
      (pick (SetBehind f) b f 0x45 _ _ tt tt (of_two_sets (set vs ts d) intersection f (any_read _) (λ g. any_read _) (λ a n c m p q. record { zero_set = refl; removes = refl }))
      (pick (SetBehind f) b f 0x46 _ _ tt tt (of_two_sets (set vs ts d) difference f (any_read _) (λ g. any_read _) (λ a n c m p q. record { zero_set = refl; removes = refl }))
      (pick (SetBehind f) b f 0x47 _ _ tt tt (of_one (set vs ts d) complement f (any_read _) (λ a n p. record { zero_set = refl; removes = refl }))
      (pick_none (SetBehind f) b f tt (λ t. unsaid)))))))))))

  -- a condition: what it requires, and whether it asks for variable 0 to be empty
  pub record ConditionIn (e : List ℕ) (x : Condition) : Type 0 where
    pub required : object_in 0x54 e ≡ told (required_object x)
    pub empty : empty_in e ≡ asks_for_empty x

  abbrev ConditionBehind : (f : List ℕ) (k : ℕ) → Unit {0} → Read Condition → Type 0
  ConditionBehind f k u r = Of (λ x n. ConditionIn (k ∷ f) x) r

  pub condition_in : (d : ℕ) (e : List ℕ) → Of (λ x n. ConditionIn e x) (condition vs ts d e)
  unfolding condition object_in empty_in required_object asks_for_empty told
  condition_in zero e = of_no_depth e
  condition_in (suc d) e = of_forms _ e (λ b f q. of_map (λ x n h. subst (λ (g : List ℕ). ConditionIn g x) (sym q) h)
      (pick (ConditionBehind f) b f 0x50 _ _ tt tt (of_two (number vs ts d) (number vs ts d) equal f (any_read _) (λ g. any_read _) (λ a n c m p q. record { required = refl; empty = refl }))
      (pick (ConditionBehind f) b f 0x51 _ _ tt tt (of_two (number vs ts d) (number vs ts d) less f (any_read _) (λ g. any_read _) (λ a n c m p q. record { required = refl; empty = refl }))
      (pick (ConditionBehind f) b f 0x52 _ _ tt tt (of_two (number vs ts d) (number vs ts d) at_most f (any_read _) (λ g. any_read _) (λ a n c m p q. record { required = refl; empty = refl }))
      (pick (ConditionBehind f) b f 0x53 _ _ tt tt (of_two (element vs ts d) (element vs ts d) same f (any_read _) (λ g. any_read _) (λ a n c m p q. record { required = refl; empty = refl }))
      (pick (ConditionBehind f) b f 0x54 _ _ tt tt (of_element_and_set (element vs ts d) (set vs ts d) member f (element_in d f) (set_in d)
      (λ a n c m p q. record { required = beside a c f p.0 (rw p.1 at q.zero_set); empty = refl }))
      (pick (ConditionBehind f) b f 0x55 _ _ tt tt (of_one (set vs ts d) is_empty f (set_in d f) (λ a n p. record { required = refl; empty = p.zero_set }))
      (pick (ConditionBehind f) b f 0x56 _ _ tt tt (of_two_sets (set vs ts d) subset f (any_read _) (λ g. any_read _) (λ a n c m p q. record { required = refl; empty = refl }))
      (pick (ConditionBehind f) b f 0x57 _ _ tt tt (of_one (condition vs ts d) negation f (any_read _) (λ a n p. record { required = refl; empty = refl }))
      (pick (ConditionBehind f) b f 0x58 _ _ tt tt (of_two (condition vs ts d) (condition vs ts d) both f (any_read _) (λ g. any_read _) (λ a n c m p q. record { required = refl; empty = refl }))
      (pick (ConditionBehind f) b f 0x59 _ _ tt tt (of_two (condition vs ts d) (condition vs ts d) either f (any_read _) (λ g. any_read _) (λ a n c m p q. record { required = refl; empty = refl }))
      (pick_none (ConditionBehind f) b f tt (λ t. unsaid)))))))))))))
