-- The bound on the rounds is never met: every bound above the budget gives the same answer, of any system and from bytes.
-- And a run ends with "budget spent" only where all of the budget is used. A round that is followed by another has expanded a state.
use Prim.Native.Nat.{ℕ, zero, suc, ◌+◌, ◌≤◌, ◌<◌}
use mathlib.Core.Path.{◌≡◌, refl, sym, ◌∙◌, ap, subst}
use mathlib.Core.Logic.{◌⊎◌, inl, inr}
use mathlib.Core.Bool.{Bool, true, false, cond}
use mathlib.Core.List.{List, [], ◌∷◌}
use mathlib.Core.Option.{Option, none, some}
use native.Mathlib.Omega.{arith}
use lib.ListN.{length}
use Rattle.laws.specs.Lists.{is_empty}
use Rattle.laws.proofs.Bools.{not_both}
use Rattle.model.specs.declared.Cost.{Cost}
use Rattle.model.specs.Numbers.{range_end}
use Rattle.model.specs.Values.{Value, value, trouble}
use Rattle.model.specs.System.{Costs, CostLaws, System, Origin, base, unfinished}
use Rattle.model.specs.Syntax.{Model}
use Rattle.model.specs.Costs.{costs_of}
use Rattle.model.specs.Steps.{system_of, origin_of}
use Rattle.model.proofs.Costs.{cost_laws}
use Rattle.search.specs.Answer.{cheapest, no_plan, contradicted, budget_spent, verdict, Answer}
use Rattle.search.specs.Search.{Node, Route, Progress, Round, Ending, decided, refused, Stop, below_best, counted, at_limit, improved_by, layer_end, next_layer, root, fresh_round, round, After, again, ended, exhausted, after_round, tally_of, answer_of, answer, next_width, later_widths, unless_over, rounds, refused_at_start, begin, enter, search_within, search}
use Rattle.search.specs.Run.{Settings, Lent, first_width, wider_than, limit_of, refused_by_input, search_model, run}
use Rattle.search.proofs.Settings.{form_fits_lem, some_limit}
use Rattle.search.proofs.Source.{Accepted, Source, input_refused, searched, run_source, run_accepted}
use Rattle.search.proofs.Induction.{Point, taking, expanding, Changes, RoundEnd, round_holds}
use Rattle.search.proofs.Rounds.{AfterHolds, after_round_holds, at_start}
use Rattle.search.proofs.Counts.{offer_progress}

module _ {C : Type 0} (budget : ℕ) where
  -- of a run that is over, by its ending and its expansions
  abbrev UsedAt : Ending C → (count : ℕ) → Type 0
  UsedAt e count = e ≡ decided budget_spent → count ≡ budget

  abbrev Used : Stop C → Type 0
  Used s = UsedAt s.ending s.progress.expansions

  -- of an answer: if it is "budget spent", the whole budget is used
  abbrev pub UsedIfSpent : Answer C → Type 0
  UsedIfSpent a = a.outcome ≡ verdict budget_spent → a.tally.expansions ≡ budget

  refused_used : {t : ℕ} {route : Route C} {count : ℕ} → UsedAt (refused t route) count
  refused_used e = let z : ◌≡◌ {A = ℕ} 0 1 = cc in absurd (omega arith)

  no_plan_used : {count : ℕ} → UsedAt (decided no_plan) count
  no_plan_used e = let z : ◌≡◌ {A = ℕ} 0 1 = cc in absurd (omega arith)

  at_low_used : (b : Bool) {count : ℕ} → UsedAt (decided (cond b cheapest contradicted)) count
  at_low_used true e = let z : ◌≡◌ {A = ℕ} 0 1 = cc in absurd (omega arith)
  at_low_used false e = let z : ◌≡◌ {A = ℕ} 0 1 = cc in absurd (omega arith)

module _ {S C : Type 0} (K : Costs C) (M : System S C) (budget : ℕ) where
  exhausted_used : (best : Option (Route C)) {count : ℕ} → UsedAt {C = C} budget (decided (exhausted K M best)) count
  unfolding exhausted
  exhausted_used none e = let z : ◌≡◌ {A = ℕ} 0 1 = cc in absurd (omega arith)
  exhausted_used (some b) e = let z : ◌≡◌ {A = ℕ} 0 1 = cc in absurd (omega arith)

  answer_used : (k width : ℕ) (e : Ending C) (p : Progress C) → UsedAt budget e p.expansions → UsedIfSpent budget (answer_of K M e k width p)
  unfolding answer_of tally_of
  answer_used k width (decided v) p u e = u (let same : v ≡ budget_spent = cc in ap decided same)
  answer_used k width (refused t route) p u e = let z : ◌≡◌ {A = ℕ} 0 1 = cc in absurd (omega arith)

module _ {S C : Type 0} (K : Costs C) (L : CostLaws K) (M : System S C) (o : Origin S C) (budget l : ℕ) (h : C) where
  -- what stands when a round begins: a start that is not unfinished is met only in round 1, with nothing found
  record Begun (p : Progress C) : Type 0 where
    first_or_unfinished : (M.status o.start ≡ unfinished) ⊎ (p ≡ at_start K o h)
    within : p.expansions ≤ budget

  -- of a count of expansions: since a round began with p, a state has been expanded
  record Grown (p : Progress C) (count : ℕ) : Type 0 where
    grows : p.expansions < count
    within : count ≤ budget
    open_state : M.status o.start ≡ unfinished

  grown_begun : {p : Progress C} (q : Progress C) → Grown p q.expansions → Begun q
  grown_begun q g = record { first_or_unfinished = inl g.open_state; within = g.within }

  -- the start, at the round's begin, is still to be taken
  record AtRoot (p : Progress C) (left : ℕ) (ns : List (Node S C)) (r : Round S C) : Type 0 where
    alone : ns ≡ root K M o h ∷ []
    layers_left : left ≡ suc l
    same : r.progress ≡ p

  abbrev Growing : Progress C → (k left : ℕ) → Point S C → Round S C → Type 0
  Growing p k left (taking ns) r = AtRoot p left ns r ⊎ Grown p r.progress.expansions
  Growing p k left (expanding n t ns) r = Grown p r.progress.expansions

  -- the first node is the start
  root_state : {p : Progress C} {left : ℕ} {n : Node S C} {ns : List (Node S C)} {r : Round S C} → AtRoot p left (n ∷ ns) r → n.state ≡ o.start
  unfolding root
  root_state a = let e = a.alone in cc

  root_g : {p : Progress C} {left : ℕ} {n : Node S C} {ns : List (Node S C)} {r : Round S C} → AtRoot p left (n ∷ ns) r → n.g ≡ o.spent
  unfolding root
  root_g a = let e = a.alone in cc

  spent_at_most : K.at_most o.spent (K.combine o.spent h) ≡ true
  spent_at_most = subst (λ x. K.at_most x (K.combine o.spent h) ≡ true) (L.right_unit o.spent) (L.monotone _ _ _ _ (L.reflexive o.spent) (L.least h))

  -- a start that is a base state is the best at once, and at most low
  module _ (p : Progress C) (f : Begun p) {left : ℕ} {n : Node S C} {ns : List (Node S C)} {r : Round S C} (a : AtRoot p left (n ∷ ns) r) (e : M.status n.state ≡ base) where
    first_round : p ≡ at_start K o h
    first_round = pick f.first_or_unfinished
      where
        pick : (M.status o.start ≡ unfinished) ⊎ (p ≡ at_start K o h) → p ≡ at_start K o h
        pick (inl u) = let s = root_state a in let z : ◌≡◌ {A = ℕ} 0 1 = cc in absurd (omega arith)
        pick (inr q) = q

    is_below : below_best K M n.g r.progress.best ≡ true
    unfolding below_best
    is_below = rw (a.same ∙ first_round) refl

    is_at_low : K.at_most n.g r.progress.low ≡ true
    is_at_low = rw (root_g a, a.same ∙ first_round) spent_at_most

  at_root_no_node : {p : Progress C} {left : ℕ} {r : Round S C} → AtRoot p left [] r → ⊥
  at_root_no_node a = let e = a.alone in let z : ◌≡◌ {A = ℕ} 0 1 = cc in omega arith

  -- before a node is taken no more than the budget is used
  growing_within : {p : Progress C} {left : ℕ} {ns : List (Node S C)} {r : Round S C} → Begun p → AtRoot p left ns r ⊎ Grown p r.progress.expansions → r.progress.expansions ≤ budget
  growing_within f i = elim i [ inl a ↦ omega (arith, ap (λ (q : Progress C). q.expansions) a.same, f.within) | inr g ↦ g.within ]

  round_grows : (width : ℕ) (p : Progress C) → Begun p → Changes K M budget width (Growing p) (Used budget)
  unfolding counted at_limit improved_by layer_end next_layer
  round_grows width p f =
      record {
        no_status_lem = λ i e. refused_used budget;
        no_better = λ i e b. elim i [ inl a ↦ absurd (not_both (is_below p f a e) b) | inr g ↦ inr g ];
        better = λ i e b c. elim i [ inl a ↦ absurd (not_both (is_at_low p f a e) c) | inr g ↦ inr g ];
        at_low = λ {n = n} {r = r} i e b c. at_low_used budget (K.at_most r.progress.low n.g);
        at_limit_lem = λ i e. elim i [ inl a ↦ absurd (omega (arith, a.layers_left)) | inr g ↦ inr g ];
        budget_spent_lem = λ i e b x. omega (arith, growing_within f i);
        expansion_begins =
            λ i e lt.
            elim i [
              | inl a ↦ record { grows = omega (arith, ap (λ (q : Progress C). q.expansions) a.same); within = lt; open_state = rw (root_state a) at e }
              | inr g ↦ record { grows = omega (arith, g.grows); within = lt; open_state = g.open_state }
            ];
        is_blocked = λ g lt e. g;
        has_moved = λ g lt e b. rw offer_progress g;
        no_bound = λ g lt e b. refused_used budget;
        trouble_before_lem = λ g lt e. refused_used budget;
        trouble_after_lem = λ g lt e. refused_used budget;
        expansion_ends = λ g. inr g;
        layer_ends = λ i. elim i [ inl a ↦ absurd (at_root_no_node a) | inr g ↦ inr g ];
        next_layer_lem = λ i e. elim i [ inl a ↦ absurd (at_root_no_node a) | inr g ↦ inr g ];
      }

  -- a round that is followed by another has expanded a state
  again_grown : (width : ℕ) (the_widest : Bool) (p : Progress C) → Begun p → AfterHolds K M (λ q. Grown p q.expansions) (Used budget) (after_round K M the_widest (round K M budget (suc l) width (root K M o h) p))
  unfolding fresh_round
  again_grown width the_widest p f =
      after_round_holds K M (λ q. Grown p q.expansions) (Used budget) (RoundEnd (Growing p)) the_widest (round K M budget (suc l) width (root K M o h) p)
      (round_holds K M budget width (Growing p) (Used budget) (round_grows width p f) p (inl (record { alone = refl; layers_left = refl; same = refl })))
      (λ r E.
      record {
        no_mark = λ _ _ _. exhausted_used K M budget r.progress.best;
        next_round = elim E.holds [ inl a ↦ absurd (at_root_no_node a) | inr g ↦ g ];
        at_widest = λ _ _ e. let z : ◌≡◌ {A = ℕ} 0 1 = cc in absurd (omega arith);
        no_width_mark = λ _ _ _ e. let z : ◌≡◌ {A = ℕ} 0 1 = cc in absurd (omega arith);
      })

  unless_over_same : (k width : ℕ) (R : Progress C → Type 0) (a : After K M) (f g : Progress C → Answer C) → AfterHolds K M R (Used budget) a → ((p : Progress C) → R p → f p ≡ g p) → unless_over K M k width a f ≡ unless_over K M k width a g
  unfolding unless_over
  unless_over_same k width R (ended s) f g i e = refl
  unless_over_same k width R (again p) f g i e = e p i

  unless_over_used : (k width : ℕ) (R : Progress C → Type 0) (a : After K M) (f : Progress C → Answer C) → AfterHolds K M R (Used budget) a → ((p : Progress C) → R p → UsedIfSpent budget (f p)) → UsedIfSpent budget (unless_over K M k width a f)
  unfolding unless_over answer
  unless_over_used k width R (ended s) f i e = answer_used K M budget k width s.ending s.progress i
  unless_over_used k width R (again p) f i e = e p i

  -- any two bounds above what is left of the budget give the same answer
  same_answer : (most most' width : ℕ) (wider : List ℕ) (k : ℕ) (p : Progress C) → Begun p → budget < most + p.expansions → budget < most' + p.expansions
      → rounds K M most budget (suc l) width wider k (root K M o h) p ≡ rounds K M most' budget (suc l) width wider k (root K M o h) p
  unfolding rounds
  same_answer zero most' width wider k p f a b = absurd (omega (arith, f.within))
  same_answer (suc most) zero width wider k p f a b = absurd (omega (arith, f.within))
  same_answer (suc most) (suc most') width wider k p f a b =
      unless_over_same k width (λ q. Grown p q.expansions) (after_round K M (is_empty wider) (round K M budget (suc l) width (root K M o h) p)) _ _ (again_grown width (is_empty wider) p f)
      (λ q g. same_answer most most' (next_width K M width wider) (later_widths K M wider) (suc k) q (grown_begun q g) (omega (arith, g.grows)) (omega (arith, g.grows)))

  rounds_used : (most width : ℕ) (wider : List ℕ) (k : ℕ) (p : Progress C) → Begun p → budget < most + p.expansions → UsedIfSpent budget (rounds K M most budget (suc l) width wider k (root K M o h) p)
  unfolding rounds
  rounds_used zero width wider k p f a = absurd (omega (arith, f.within))
  rounds_used (suc most) width wider k p f a =
      unless_over_used k width (λ q. Grown p q.expansions) (after_round K M (is_empty wider) (round K M budget (suc l) width (root K M o h) p)) _ (again_grown width (is_empty wider) p f)
      (λ q g. rounds_used most (next_width K M width wider) (later_widths K M wider) (suc k) q (grown_begun q g) (omega (arith, g.grows)))

  start_begun : Begun (at_start K o h)
  start_begun = record { first_or_unfinished = inr refl; within = omega arith }

module _ {S C : Type 0} (K : Costs C) (L : CostLaws K) (M : System S C) (o : Origin S C) (budget width : ℕ) (wider : List ℕ) where
  begin_same : (most l : ℕ) (b : Value C) → budget < most → begin K M most budget (suc l) width wider o b ≡ begin K M (suc budget) budget (suc l) width wider o b
  unfolding begin
  begin_same most l (value h) lt = same_answer K L M o budget l h most (suc budget) width wider 1 (at_start K o h) (start_begun K L M o budget l h) (omega arith) (omega arith)
  begin_same most l (trouble t) lt = refl

  begin_used : (l : ℕ) (b : Value C) → UsedIfSpent budget (begin K M (suc budget) budget (suc l) width wider o b)
  unfolding begin answer refused_at_start
  begin_used l (value h) = rounds_used K L M o budget l h (suc budget) width wider 1 (at_start K o h) (start_begun K L M o budget l h) (omega arith)
  begin_used l (trouble t) = answer_used K M budget 1 width _ _ (refused_used budget)

  enter_same : (most l : ℕ) (a : Value Bool) → budget < most → enter K M most budget (suc l) width wider o a ≡ enter K M (suc budget) budget (suc l) width wider o a
  unfolding enter
  enter_same most l (value true) lt = begin_same most l (M.bound o.start) lt
  enter_same most l (value false) lt = refl
  enter_same most l (trouble t) lt = refl

  enter_used : (l : ℕ) (a : Value Bool) → UsedIfSpent budget (enter K M (suc budget) budget (suc l) width wider o a)
  unfolding enter answer refused_at_start
  enter_used l (value true) = begin_used l (M.bound o.start)
  enter_used l (value false) = answer_used K M budget 1 width _ _ (no_plan_used budget)
  enter_used l (trouble t) = answer_used K M budget 1 width _ _ (refused_used budget)

  -- the bound on the rounds is never met: every one above the budget gives the same answer
  pub any_bound_of_search : (most limit : ℕ) → 1 ≤ limit → budget < most → search_within K M most budget limit width wider o ≡ search K M budget limit width wider o
  unfolding search search_within
  any_bound_of_search most zero one lt = absurd (omega arith)
  any_bound_of_search most (suc l) one lt = enter_same most l (M.admits o.start) lt

  -- "budget spent" says that all of the budget is used
  pub budget_spent_means_used : (limit : ℕ) → 1 ≤ limit → (search K M budget limit width wider o).outcome ≡ verdict budget_spent → (search K M budget limit width wider o).tally.expansions ≡ budget
  unfolding search search_within
  budget_spent_means_used zero one = absurd (omega arith)
  budget_spent_means_used (suc l) one = enter_used l (M.admits o.start)

-- ---- from bytes

-- a run whose bytes and settings are accepted is the search within any number of rounds above the budget
pub any_bound_of_run : (most : ℕ) (bytes : List ℕ) (q : Settings) (l : Lent) {m : Model} → length bytes ≤ most → Accepted bytes q l m → (most-rounds : ℕ) → q.budget < most-rounds
    → run most bytes q l ≡ search_within (costs_of m.rule) (system_of range_end m) most-rounds q.budget (limit_of q.form m) (first_width q.beam) (wider_than q.beam) (origin_of m)
unfolding search_model
any_bound_of_run most bytes q l {m} few x most-rounds lt =
    run_accepted most bytes q l few x
    ∙ sym (any_bound_of_search (costs_of m.rule) (cost_laws m.rule) (system_of range_end m) (origin_of m) q.budget (first_width q.beam) (wider_than q.beam) most-rounds (limit_of q.form m) (some_limit q.form m (form_fits_lem q x.fit)) lt)

source_used : {bytes : List ℕ} {q : Settings} {l : Lent} {a : Answer Cost} → Source bytes q l a → UsedIfSpent q.budget a
unfolding refused_by_input search_model
source_used (input_refused t r) = λ e. let z : ◌≡◌ {A = ℕ} 0 1 = cc in absurd (omega arith)
source_used {q = q} (searched m x) =
    budget_spent_means_used (costs_of m.rule) (cost_laws m.rule) (system_of range_end m) (origin_of m) q.budget (first_width q.beam) (wider_than q.beam) (limit_of q.form m) (some_limit q.form m (form_fits_lem q x.fit))

-- a run that ends with "budget spent" has made as many expansions as the budget allows
pub run_budget_spent_means_used : (most : ℕ) (bytes : List ℕ) (q : Settings) (l : Lent) → (run most bytes q l).outcome ≡ verdict budget_spent → (run most bytes q l).tally.expansions ≡ q.budget
run_budget_spent_means_used most bytes q l = source_used (run_source bytes q l most)
