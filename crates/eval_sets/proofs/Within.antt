-- The bounds that runs keep: numbers in range, and no more bytes used than there are.
use Prim.Native.Nat.{ℕ, zero, suc, ◌+◌, ◌-◌, ◌^◌, ◌≤◌, ◌<◌}
use mathlib.Core.Path.{◌≡◌, refl, subst}
use mathlib.Core.Bool.{Bool, true, false, cond}
use mathlib.Core.List.{List, [], ◌∷◌}
use native.Mathlib.Omega.{arith}
use lib.ListN.{length, drop, get_or, length-drop}
use lib.Dec.{eqb, ltb}
use lib.IntN.{ℤ}
use lib.Signed.{mag}
use borrow.Author.Tests.{ltb-true, ltb-false}
use Rattle.laws.proofs.Bools.{by_cond}
use Rattle.model.specs.Numbers.{range_end}
use Rattle.model.specs.Values.{Value, value, trouble, in_range, floor_quotient, ◌>>=◌ as ◌and_then◌}
use Rattle.model.specs.Readers.{Read, read, refused, word, integer}
use Rattle.std.specs.Prelude.{Ok, Err}
use Rattle.eval_sets.specs.declared.answers.Told.{Told}
use Rattle.eval_sets.specs.declared.answers.ConditionValue.{ConditionValue}
use Rattle.eval_sets.specs.declared.answers.ConditionValue.TheVariants as C
use Rattle.eval_sets.specs.declared.answers.ElementValue.{ElementValue}
use Rattle.eval_sets.specs.declared.answers.SetValue.{SetValue}
use Rattle.eval_sets.specs.declared.answers.Parts.{Parts}
use Rattle.eval_sets.specs.declared.first_bytes.Operation.{Operation}
use Rattle.eval_sets.specs.declared.first_bytes.Operation.TheVariants as Op
use Rattle.eval_sets.specs.declared.first_bytes.NumberForm.{NumberForm}
use Rattle.eval_sets.specs.declared.first_bytes.NumberForm.TheVariants as NF
use Rattle.eval_sets.specs.declared.first_bytes.Change.{Change}
use Rattle.eval_sets.specs.declared.first_bytes.Change.TheVariants as Ch
use Rattle.eval_sets.specs.declared.first_bytes.Combination.{Combination}
use Rattle.eval_sets.specs.declared.first_bytes.Combination.TheVariants as Co
use Rattle.eval_sets.specs.declared.first_bytes.SetForm.{SetForm}
use Rattle.eval_sets.specs.declared.first_bytes.SetForm.TheVariants as SF
use Rattle.eval_sets.specs.declared.first_bytes.ConditionForm.{ConditionForm}
use Rattle.eval_sets.specs.declared.first_bytes.ConditionForm.TheVariants as CF
use Rattle.eval_sets.specs.Forms.{number_form, set_form, condition_form}
use Rattle.eval_sets.specs.Answers.{NumberValue, PairValue, number_answer, past_number, past_condition, number_of_two, condition_of_two, negated}
use Rattle.eval_sets.specs.Bounds.{NumberWithin, PairWithin, ConditionWithin, NumberRoom, ConditionRoom, PairInRange}
use Rattle.eval_sets.specs.Runs as R
use Rattle.eval_sets.specs.Runs.{Environment, run_element, run_set, run_number, run_condition, set_behind, number_behind, condition_behind, run_pair, run_choice, run_connective}
use Rattle.eval_sets.proofs.Spans.{span_within}

-- ---- elements and sets

element_of_lem : (ws : List ℕ) (b k L : ℕ) → 2 ≤ L → (R.element_of ws b k).used ≤ L
unfolding R.element_of
element_of_lem ws b k L h =
    by_cond (λ (x : ElementValue). x.used ≤ L) (eqb b 0x30) (λ q. h)
    (λ q. by_cond (λ (x : ElementValue). x.used ≤ L) (eqb b 0x31) (λ z. h) (λ z. omega arith))

pub element_within : (ws e : List ℕ) → (run_element ws e).used ≤ length e
unfolding run_element
element_within ws e =
    by_cond (λ (x : ElementValue). x.used ≤ length e) (ltb (length e) 2) (λ q. omega arith)
    (λ q. element_of_lem ws (get_or e 0 0) (get_or e 1 0) (length e) (ltb-false (length e) 2 q))

-- of two parts
pub sum_within : (e : List ℕ) (n m : ℕ) → n ≤ length e → m ≤ length (drop n e) → n + m ≤ length e
sum_within e n m h k = omega (arith, length-drop n e)

pub elements_within : (ws e : List ℕ) → (R.two_elements ws e).used ≤ length e
unfolding R.two_elements
elements_within ws e = sum_within e (run_element ws e).used _ (element_within ws e) (element_within ws (drop (run_element ws e).used e))

module _ (ws : List ℕ) (rs : List ℕ → SetValue) (hs : (e : List ℕ) → (rs e).used ≤ length e) where
  pub element_set_within : (e : List ℕ) → (R.element_then_set ws rs e).used ≤ length e
  unfolding R.element_then_set
  element_set_within e = sum_within e (run_element ws e).used _ (element_within ws e) (hs (drop (run_element ws e).used e))

  pub set_element_within : (e : List ℕ) → (R.set_then_element ws rs e).used ≤ length e
  unfolding R.set_then_element
  set_element_within e = sum_within e (rs e).used _ (hs e) (element_within ws (drop (rs e).used e))

  pub sets_within : (e : List ℕ) → (R.two_sets rs e).used ≤ length e
  unfolding R.two_sets
  sets_within e = sum_within e (rs e).used _ (hs e) (hs (drop (rs e).used e))

  literal_members_lem : (n L : ℕ) (r : Read ℕ) → 9 ≤ L → (R.literal_members n r).used ≤ L
  unfolding R.literal_members
  literal_members_lem n L (read s k) h = h
  literal_members_lem n L (refused t) h = omega arith

  literal_within : (e : List ℕ) → (R.literal_set e).used ≤ length e
  unfolding R.literal_set
  literal_within e =
      by_cond (λ (x : SetValue). x.used ≤ length e) (ltb (length e) 9) (λ q. omega arith)
      (λ q. literal_members_lem (get_or e 0 0) (length e) (word 8 (drop 1 e)) (ltb-false (length e) 9 q))

  variable_within : (os e : List ℕ) → (R.set_variable_at ws os e).used ≤ length e
  unfolding R.set_variable_at
  variable_within os [] = omega arith
  variable_within os (v ∷ e) = omega arith

  changed_used : (h : Change) (p : Parts) → (R.changed h p).used ≡ p.used
  unfolding R.changed
  changed_used Ch.Add p = refl
  changed_used Ch.Remove p = refl

  combined_used : (c : Combination) (p : Parts) → (R.combined c p).used ≡ p.used
  unfolding R.combined
  combined_used Co.Union p = refl
  combined_used Co.Intersection p = refl
  combined_used Co.Difference p = refl

  pub set_behind_within : (os : List ℕ) (form : SetForm) (e : List ℕ) → (set_behind ws os rs form e).used ≤ length e
  unfolding set_behind R.complemented
  set_behind_within os SF.Literal e = literal_within e
  set_behind_within os SF.Variable e = variable_within os e
  set_behind_within os (SF.Changed h) e = rw (changed_used h (R.element_then_set ws rs e)) (element_set_within e)
  set_behind_within os (SF.Combined c) e = rw (combined_used c (R.two_sets rs e)) (sets_within e)
  set_behind_within os SF.Complement e = hs e
  set_behind_within os SF.Other e = omega arith

pub set_within : (d : ℕ) (ws os e : List ℕ) → (run_set d ws os e).used ≤ length e
unfolding run_set
set_within zero ws os e = omega arith
set_within (suc d) ws os [] = omega arith
set_within (suc d) ws os (b ∷ e) =
    let h = set_behind_within ws (λ f. run_set d ws os f) (λ f. set_within d ws os f) os (set_form b) e in omega (arith, h)

-- ---- numbers and conditions

pub fits_within : (z : ℤ) (n L : ℕ) → n ≤ L → NumberWithin L (number_answer (R.fits z) n)
unfolding number_answer in_range
fits_within z n L h = go (ltb (mag z) range_end) refl
  where
    go : (b : Bool) → ltb (mag z) range_end ≡ b → NumberWithin L (number_answer (cond b (value z) (trouble 11)) n)
    go true q = (ltb-true (mag z) range_end q, h)
    go false q = tt

quotient_within : (v : Value ℤ) (n L : ℕ) → n ≤ L → NumberWithin L (number_answer (v and_then (λ z. R.fits z)) n)
unfolding number_answer ◌and_then◌
quotient_within (value z) n L h = fits_within z n L h
quotient_within (trouble t) n L h = tt

pub arithmetic_within : (o : Operation) (a b : ℤ) (n L : ℕ) → n ≤ L → NumberWithin L (number_answer (R.arithmetic o a b) n)
unfolding R.arithmetic
arithmetic_within Op.Sum a b n L h = fits_within _ n L h
arithmetic_within Op.Difference a b n L h = fits_within _ n L h
arithmetic_within Op.Product a b n L h = fits_within _ n L h
arithmetic_within Op.Quotient a b n L h = quotient_within (floor_quotient a b) n L h
arithmetic_within Op.Lesser a b n L h = fits_within _ n L h
arithmetic_within Op.Greater a b n L h = fits_within _ n L h

two_within : (o : Operation) (L : ℕ) (v : PairValue) → PairWithin L v → NumberWithin L (number_of_two (R.arithmetic o) v)
unfolding number_of_two
two_within o L (Ok v) h = arithmetic_within o v.value.0 v.value.1 v.used L h.1.1
two_within o L (Err t) h = tt

test_within : (g : ℤ → ℤ → Bool) (L : ℕ) (v : PairValue) → PairWithin L v → ConditionWithin L (condition_of_two g v)
unfolding condition_of_two
test_within g L (Ok v) h = h.1.1
test_within g L (Err t) h = tt

negated_within : (L : ℕ) (v : ConditionValue) → ConditionWithin L v → ConditionWithin L (negated v)
unfolding negated
negated_within L (C.Holds b n) h = h
negated_within L (C.Trouble t) h = tt

-- behind the first n bytes
pub number_past_within : (e : List ℕ) (n : ℕ) (v : NumberValue) → n ≤ length e → NumberWithin (length (drop n e)) v → NumberWithin (length e) (past_number n v)
unfolding past_number
number_past_within e n (Ok z) h k = (k.0, sum_within e n z.used h k.1)
number_past_within e n (Err t) h k = tt

pub condition_past_within : (e : List ℕ) (n : ℕ) (v : ConditionValue) → n ≤ length e → ConditionWithin (length (drop n e)) v → ConditionWithin (length e) (past_condition n v)
unfolding past_condition
condition_past_within e n (C.Holds b m) h k = sum_within e n m h k
condition_past_within e n (C.Trouble t) h k = tt

module _ (rn : List ℕ → NumberValue) (rc : List ℕ → ConditionValue)
    (hn : (e : List ℕ) → NumberWithin (length e) (rn e)) (hc : (e : List ℕ) → ConditionWithin (length e) (rc e)) where
  pub pair_within : (e : List ℕ) → PairWithin (length e) (run_pair rn e)
  unfolding run_pair R.pair_first R.pair_second
  pair_within e = first (rn e) (hn e)
    where
      second : (x : ℤ) (n : ℕ) (v : NumberValue) → mag x < range_end → n ≤ length e → NumberWithin (length (drop n e)) v → PairWithin (length e) (R.pair_second x n v)
      second x n (Ok y) f h k = (f, (k.0, sum_within e n y.used h k.1))
      second x n (Err t) f h k = tt

      first : (v : NumberValue) → NumberWithin (length e) v → PairWithin (length e) (R.pair_first v (λ n. rn (drop n e)))
      first (Ok x) h = second x.value x.used (rn (drop x.used e)) h.0 h.1 (hn (drop x.used e))
      first (Err t) h = tt

  pub skip_within : (e : List ℕ) (n : ℕ) → n ≤ length e → n + R.skip_at e n ≤ length e
  skip_within e n h = sum_within e n (R.skip_at e n) h (span_within (drop n e) 0 1)

  pub choice_within : (e : List ℕ) → NumberWithin (length e) (run_choice rn rc e)
  unfolding run_choice R.choice_first R.chosen R.number_before
  choice_within e = first (rc e) (hc e)
    where
      before : (n : ℕ) (v : NumberValue) → n ≤ length e → NumberWithin (length (drop n e)) v → NumberWithin (length e) (R.number_before n v (R.skip_at e))
      before n (Ok z) h k = (k.0, skip_within e (n + z.used) (sum_within e n z.used h k.1))
      before n (Err t) h k = tt

      first : (v : ConditionValue) → ConditionWithin (length e) v → NumberWithin (length e) (R.choice_first v (λ n. rn (drop n e)) (R.skip_at e))
      first (C.Holds true n) h = before n (rn (drop n e)) h (hn (drop n e))
      first (C.Holds false n) h = number_past_within e (n + R.skip_at e n) (rn (drop (n + R.skip_at e n) e)) (skip_within e n h) (hn (drop (n + R.skip_at e n) e))
      first (C.Trouble t) h = tt

  pub connective_within : (a : Bool) (e : List ℕ) → ConditionWithin (length e) (run_connective a rc e)
  unfolding run_connective R.connective_first R.decided
  connective_within a e = first (rc e) (hc e)
    where
      next : (t b : Bool) (n : ℕ) → n ≤ length e → ConditionWithin (length e) (R.decided t b n (λ n. rc (drop n e)) (R.skip_at e))
      next true b n h = skip_within e n h
      next false b n h = condition_past_within e n (rc (drop n e)) h (hc (drop n e))

      first : (v : ConditionValue) → ConditionWithin (length e) v → ConditionWithin (length e) (R.connective_first a v (λ n. rc (drop n e)) (R.skip_at e))
      first (C.Holds b n) h = next (R.agree a b) b n h
      first (C.Trouble t) h = tt

  module _ (p : Environment) (rs : List ℕ → SetValue) (hs : (e : List ℕ) → (rs e).used ≤ length e) where
    literal_number_lem : (e : List ℕ) → NumberWithin (length e) (R.literal_number e)
    unfolding R.literal_number R.literal_value
    literal_number_lem e =
        by_cond (NumberWithin (length e)) (ltb (length e) 4) (λ q. tt) (λ q. valued (integer e) (ltb-false (length e) 4 q))
      where
        valued : (r : Read ℤ) → 4 ≤ length e → NumberWithin (length e) (R.literal_value r)
        valued (read z n) h = fits_within z 4 (length e) h
        valued (refused t) h = tt

    variable_number : (e : List ℕ) → NumberWithin (length e) (R.number_variable_at p.state e)
    unfolding R.number_variable_at
    variable_number [] = tt
    variable_number (v ∷ e) = fits_within _ 1 (length (v ∷ e)) (omega arith)

    entry_number_lem : (e : List ℕ) → NumberWithin (length e) (R.entry_number p.model p.state p.outline e)
    unfolding R.entry_number
    entry_number_lem [] = tt
    entry_number_lem (t ∷ e) = fits_within _ _ (length (t ∷ e)) (omega (arith, elements_within p.state e))

    total_number_lem : (e : List ℕ) → NumberWithin (length e) (R.total_number p.model p.state p.outline rs e)
    unfolding R.total_number
    total_number_lem [] = tt
    total_number_lem (t ∷ e) = fits_within _ _ (length (t ∷ e)) (omega (arith, set_element_within p.state rs hs e))

    pub number_behind_within : (form : NumberForm) (e : List ℕ) → NumberWithin (length e) (number_behind p rs rn rc form e)
    unfolding number_behind R.size_number
    number_behind_within NF.Literal e = literal_number_lem e
    number_behind_within NF.Variable e = variable_number e
    number_behind_within (NF.Arithmetic o) e = two_within o (length e) (run_pair rn e) (pair_within e)
    number_behind_within NF.Entry e = entry_number_lem e
    number_behind_within NF.Size e = fits_within _ (rs e).used (length e) (hs e)
    number_behind_within NF.Total e = total_number_lem e
    number_behind_within NF.Choice e = choice_within e
    number_behind_within NF.Other e = tt

    pub condition_behind_within : (form : ConditionForm) (e : List ℕ) → ConditionWithin (length e) (condition_behind p rs rn rc form e)
    unfolding condition_behind R.same_elements R.member_of R.empty_set R.subset_of
    condition_behind_within (CF.Comparison r) e = test_within (R.compared r) (length e) (run_pair rn e) (pair_within e)
    condition_behind_within CF.Same e = elements_within p.state e
    condition_behind_within CF.Member e = element_set_within p.state rs hs e
    condition_behind_within CF.Empty e = hs e
    condition_behind_within CF.Subset e = sets_within p.state rs hs e
    condition_behind_within CF.Negation e = negated_within (length e) (rc e) (hc e)
    condition_behind_within (CF.Connective a) e = connective_within a e
    condition_behind_within CF.Other e = tt

mutual
  unfolding run_number

  pub number_within : (d : ℕ) (p : Environment) (e : List ℕ) → NumberWithin (length e) (run_number d p e)
  number_within zero p e = tt
  number_within (suc d) p [] = tt
  number_within (suc d) p (b ∷ e) =
      number_past_within (b ∷ e) 1 _ (omega arith)
      (number_behind_within (λ f. run_number d p f) (λ f. run_condition d p f) (λ f. number_within d p f) (λ f. condition_within d p f) p
      (λ f. run_set d p.state p.outline f) (λ f. set_within d p.state p.outline f) (number_form b) e)

  pub condition_within : (d : ℕ) (p : Environment) (e : List ℕ) → ConditionWithin (length e) (run_condition d p e)
  condition_within zero p e = tt
  condition_within (suc d) p [] = tt
  condition_within (suc d) p (b ∷ e) =
      condition_past_within (b ∷ e) 1 _ (omega arith)
      (condition_behind_within (λ f. run_number d p f) (λ f. run_condition d p f) (λ f. number_within d p f) (λ f. condition_within d p f) p
      (λ f. run_set d p.state p.outline f) (λ f. set_within d p.state p.outline f) (condition_form b) e)

-- an element takes two bytes or none, and is below 64
element_kept : (ws : List ℕ) (b k : ℕ) → ((R.element_of ws b k).used ≤ 2) × ((R.element_of ws b k).object < 64)
unfolding R.element_of
element_kept ws b k =
    by_cond (λ (x : ElementValue). (x.used ≤ 2) × (x.object < 64)) (eqb b 0x30) (λ q. (omega arith, omega arith))
    (λ q. by_cond (λ (x : ElementValue). (x.used ≤ 2) × (x.object < 64)) (eqb b 0x31) (λ z. (omega arith, omega arith)) (λ z. (omega arith, omega arith)))

pub element_used : (ws e : List ℕ) → (run_element ws e).used ≤ 2
unfolding run_element
element_used ws e =
    by_cond (λ (x : ElementValue). x.used ≤ 2) (ltb (length e) 2) (λ q. omega arith) (λ q. (element_kept ws (get_or e 0 0) (get_or e 1 0)).0)

pub element_small : (ws e : List ℕ) → (run_element ws e).object < 64
unfolding run_element
element_small ws e =
    by_cond (λ (x : ElementValue). x.object < 64) (ltb (length e) 2) (λ q. omega arith) (λ q. (element_kept ws (get_or e 0 0) (get_or e 1 0)).1)

pub elements_small : (ws e : List ℕ) → ((R.two_elements ws e).first < 64) × ((R.two_elements ws e).second < 64)
unfolding R.two_elements
elements_small ws e = (element_small ws e, element_small ws (drop (run_element ws e).used e))

pub element_set_small : (ws : List ℕ) (rs : List ℕ → SetValue) (e : List ℕ) → (R.element_then_set ws rs e).first < 64
unfolding R.element_then_set
element_set_small ws rs e = element_small ws e

pub set_element_small : (ws : List ℕ) (rs : List ℕ → SetValue) (e : List ℕ) → (R.set_then_element ws rs e).second < 64
unfolding R.set_then_element
set_element_small ws rs e = element_small ws (drop (rs e).used e)

-- the bytes used from a position on
pub element_past : (ws : List ℕ) (at : ℕ) (e f : List ℕ) (v : ElementValue) → f ≡ drop at e → v ≡ run_element ws f → v.used ≤ length e - at
element_past ws at e f v q r = omega (arith, rw (← r, q) at (element_within ws f), length-drop at e)

pub set_past : (d : ℕ) (ws os : List ℕ) (at : ℕ) (e : List ℕ) (v : SetValue) → v ≡ run_set d ws os (drop at e) → v.used ≤ length e - at
set_past d ws os at e v r = omega (arith, rw (← r) at (set_within d ws os (drop at e)), length-drop at e)

pub set_variable_used : (ws os e : List ℕ) → (R.set_variable_at ws os e).used ≤ 1
unfolding R.set_variable_at
set_variable_used ws os [] = omega arith
set_variable_used ws os (v ∷ e) = omega arith

pub elements_used : (ws e : List ℕ) → (R.two_elements ws e).used ≤ 4
unfolding R.two_elements
elements_used ws e = omega (arith, element_used ws e, element_used ws (drop (run_element ws e).used e))

-- ---- what an answer that is met tells

pub number_known : (d : ℕ) (p : Environment) (e : List ℕ) {v : Told ℤ} → run_number d p e ≡ Ok v → (mag v.value < range_end) × (v.used ≤ length e)
number_known d p e h = subst (NumberWithin (length e)) h (number_within d p e)

pub condition_known : (d : ℕ) (p : Environment) (e : List ℕ) (b : Bool) (n : ℕ) → run_condition d p e ≡ C.Holds b n → n ≤ length e
condition_known d p e b n h = subst (λ (v : ConditionValue). ConditionWithin (length e) v) h (condition_within d p e)

pub number_past : (d : ℕ) (p : Environment) (at : ℕ) (e : List ℕ) {v : Told ℤ} → run_number d p (drop at e) ≡ Ok v → v.used ≤ length e - at
number_past d p at e h = omega (arith, (number_known d p (drop at e) h).1, length-drop at e)

pub condition_past : (d : ℕ) (p : Environment) (at : ℕ) (e : List ℕ) (b : Bool) (n : ℕ) → run_condition d p (drop at e) ≡ C.Holds b n → n ≤ length e - at
condition_past d p at e b n h = omega (arith, condition_known d p (drop at e) b n h, length-drop at e)

-- k bytes more can be counted
pub number_room : (k l : ℕ) (v : NumberValue) → NumberWithin l v → k + l < 2 ^ 64 → NumberRoom k v
number_room k l (Ok v) h r = omega (arith, h.1)
number_room k l (Err t) h r = tt

pub condition_room : (k l : ℕ) (v : ConditionValue) → ConditionWithin l v → k + l < 2 ^ 64 → ConditionRoom k v
condition_room k l (C.Holds b n) h r = omega (arith, h)
condition_room k l (C.Trouble t) h r = tt

pub pair_in_range : (l : ℕ) (v : PairValue) → PairWithin l v → PairInRange v
pair_in_range l (Ok v) h = (h.0, h.1.0)
pair_in_range l (Err t) h = tt

module _ (d : ℕ) (p : Environment) where
  pub pair_run_within : (e : List ℕ) → PairWithin (length e) (run_pair (λ f. run_number d p f) e)
  pair_run_within e = pair_within (λ f. run_number d p f) (λ f. run_condition d p f) (λ f. number_within d p f) (λ f. condition_within d p f) e

  pub number_at_within : (form : NumberForm) (e : List ℕ) → NumberWithin (length e) (R.number_at d p form e)
  unfolding R.number_at
  number_at_within form e =
      number_behind_within (λ f. run_number d p f) (λ f. run_condition d p f) (λ f. number_within d p f) (λ f. condition_within d p f) p
      (λ f. run_set d p.state p.outline f) (λ f. set_within d p.state p.outline f) form e

  pub condition_at_within : (form : ConditionForm) (e : List ℕ) → ConditionWithin (length e) (R.condition_at d p form e)
  unfolding R.condition_at
  condition_at_within form e =
      condition_behind_within (λ f. run_number d p f) (λ f. run_condition d p f) (λ f. number_within d p f) (λ f. condition_within d p f) p
      (λ f. run_set d p.state p.outline f) (λ f. set_within d p.state p.outline f) form e

  -- leaves of one byte more
  pub variable_room : (e : List ℕ) → 1 + length e < 2 ^ 64 → NumberRoom 1 (R.number_variable_at p.state e)
  unfolding R.number_at number_behind
  variable_room e h = number_room 1 (length e) (R.number_variable_at p.state e) (number_at_within NF.Variable e) h

  pub literal_room : (e : List ℕ) → 1 + length e < 2 ^ 64 → NumberRoom 1 (R.literal_number e)
  unfolding R.number_at number_behind
  literal_room e h = number_room 1 (length e) (R.literal_number e) (number_at_within NF.Literal e) h

  pub member_room : (e : List ℕ) → 1 + length e < 2 ^ 64
      → ConditionRoom 1 (R.member_of (R.element_then_set p.state (λ f. run_set d p.state p.outline f) e))
  unfolding R.condition_at condition_behind
  member_room e h =
      condition_room 1 (length e) (R.member_of (R.element_then_set p.state (λ f. run_set d p.state p.outline f) e)) (condition_at_within CF.Member e) h
