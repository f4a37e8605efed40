-- Low lies strictly below the best, in every round and behind a stop; and from any point of a run the best only becomes cheaper
-- and low only rises. Both are kept by every single change, whatever the budget; so a stopped run's bound is below its plan's cost.
use Prim.Native.Nat.{ℕ}
use mathlib.Core.Path.{◌≡◌, refl}
use mathlib.Core.Bool.{Bool, true, false, cond, false≢true}
use mathlib.Core.List.{List, [], ◌∷◌}
use mathlib.Core.Option.{Option, none, some}
use Rattle.laws.specs.Lists.{All, filter, is_empty}
use Rattle.laws.proofs.Bools.{by_cond, not_true}
use Rattle.laws.proofs.Lists.{all_map, all_passed}
use Rattle.model.specs.declared.Cost.{Cost}
use Rattle.model.specs.System.{Costs, CostLaws, System, Origin}
use Rattle.model.specs.Numbers.{range_end}
use Rattle.model.specs.Costs.{at_most, costs_of}
use Rattle.model.specs.Steps.{system_of, origin_of}
use Rattle.model.proofs.Costs.{cost_laws}
use Rattle.search.specs.Answer.{Verdict, cheapest, no_plan, width_stop, length_stop, budget_spent, contradicted, verdict, Answer}
use Rattle.search.specs.Search.{Node, Route, Progress, Round, Ending, decided, refused, Stop, Result, on, over, less, below_best, route_to, counted, at_limit, improved_by, least_f, raised_low, layer_end, next_layer, root, fresh_round, round, exhausted, after_round, has_plan, best_cost, bound_at, answer_of, answer, untouched, refused_at_start, search}
use Rattle.search.specs.Guarantee.{Stopped, by_width, by_length, by_budget, widest}
use Rattle.search.proofs.Induction.{Holds, stop_at, Changes, RoundEnd, round_holds}
use Rattle.search.proofs.Rounds.{AfterHolds, after_round_holds, RunChanges, search_holds}
use Rattle.search.specs.Run.{Settings, Lent, first_width, wider_than, limit_of, refused_by_input, search_model, run}
use Rattle.search.proofs.Source.{Source, input_refused, searched, run_source}
use Rattle.search.proofs.Counts.{offer_progress}

module _ {C : Type 0} (K : Costs C) where
  -- the second best costs no more than the first
  abbrev pub NoDearer : Option (Route C) → Option (Route C) → Type 0
  NoDearer none y = Unit {0}
  NoDearer (some a) none = ⊥
  NoDearer (some a) (some b) = K.at_most b.cost a.cost ≡ true

  -- low lies strictly below the best
  abbrev pub LowBelow : (low : C) → Option (Route C) → Type 0
  LowBelow low none = Unit {0}
  LowBelow low (some b) = K.at_most b.cost low ≡ false

  -- there is a best, and low is at most its cost
  abbrev pub LowAtMost : (low : C) → Option (Route C) → Type 0
  LowAtMost low none = ⊥
  LowAtMost low (some b) = K.at_most low b.cost ≡ true

  -- q is further on than p, and low lies below the best
  pub record Further (p q : Progress C) : Type 0 where
    pub best : NoDearer p.best q.best
    pub low : K.at_most p.low q.low ≡ true
    pub gap : LowBelow q.low q.best

  -- where low lies when the run is over
  abbrev pub LowAt : Ending C → Progress C → Type 0
  LowAt (decided cheapest) q = LowAtMost q.low q.best
  LowAt (decided no_plan) q = Unit {0}
  LowAt (decided width_stop) q = LowBelow q.low q.best
  LowAt (decided length_stop) q = LowBelow q.low q.best
  LowAt (decided budget_spent) q = LowBelow q.low q.best
  LowAt (decided contradicted) q = Unit {0}
  LowAt (refused t route) q = Unit {0}

  -- the run is over, further on than p
  pub record FurtherAtEnd (p : Progress C) (s : Stop C) : Type 0 where
    pub best : NoDearer p.best s.progress.best
    pub low : K.at_most p.low s.progress.low ≡ true
    pub low_at_lem : LowAt s.ending s.progress

  pub ends_with : {p q : Progress C} (e : Ending C) → Further p q → LowAt e q → FurtherAtEnd p (record { ending = e; progress = q })
  ends_with e i a = record { best = i.best; low = i.low; low_at_lem = a }

module _ {S C : Type 0} (K : Costs C) (L : CostLaws K) (M : System S C) where
  no_dearer_self : (b : Option (Route C)) → NoDearer K b b
  no_dearer_self none = tt
  no_dearer_self (some b) = L.reflexive _

  pub further_self : {p : Progress C} → LowBelow K p.low p.best → Further K p p
  further_self {p} g = record { best = no_dearer_self p.best; low = L.reflexive _; gap = g }

  -- a plan below the best is no dearer than any earlier one
  below_no_dearer : (a b : Option (Route C)) (x : Route C) → NoDearer K a b → below_best K M x.cost b ≡ true → NoDearer K a (some x)
  unfolding below_best less
  below_no_dearer none b x h e = tt
  below_no_dearer (some a) none x h e = absurd h
  below_no_dearer (some a) (some b) x h e = L.transitive _ _ _ (L.total _ _ (not_true _ e)) h

  low_at_most : (low : C) (b : Route C) → LowBelow K low (some b) → LowAtMost K low (some b)
  low_at_most low b g = L.total _ _ g

  exhausted_low : (q : Progress C) (b : Option (Route C)) → q.best ≡ b → LowBelow K q.low b → LowAt K (decided (exhausted K M b)) q
  unfolding exhausted
  exhausted_low q none e g = tt
  exhausted_low q (some b) e g = rw e (low_at_most q.low b g)

  -- rule 6: low rises
  raised_no_lower : (width_mark : Bool) (l : List (Node S C)) (low : C) → K.at_most low (raised_low K M width_mark l low) ≡ true
  unfolding raised_low
  raised_no_lower true l low = L.reflexive low
  raised_no_lower false [] low = L.reflexive low
  raised_no_lower false (n ∷ ns) low = by_cond (λ x. K.at_most low x ≡ true) (K.at_most (least_f K M n.f ns) low) (λ _. L.reflexive low) (λ e. L.total _ _ e)

  -- what holds of low and of each f holds of the risen low
  least_has : (P : C → Type 0) (a : C) (ns : List (Node S C)) → P a → All (λ (n : Node S C). P n.f) ns → P (least_f K M a ns)
  unfolding least_f
  least_has P a [] h hs = h
  least_has P a (n ∷ ns) h hs = least_has P (cond (K.at_most a n.f) a n.f) ns (by_cond P (K.at_most a n.f) (λ _. h) (λ _. hs.0)) hs.1

  raised_has : (P : C → Type 0) (width_mark : Bool) (l : List (Node S C)) (low : C) → P low → All (λ (n : Node S C). P n.f) l → P (raised_low K M width_mark l low)
  unfolding raised_low
  raised_has P true l low h hs = h
  raised_has P false [] low h hs = h
  raised_has P false (n ∷ ns) low h hs = by_cond P (K.at_most (least_f K M n.f ns) low) (λ _. h) (λ _. least_has P n.f ns hs.0 hs.1)

  -- those that remain have f below the best, so the risen low lies below it
  raised_below_best : (best : Option (Route C)) (width_mark : Bool) (kept : List (Node S C)) (low : C) → LowBelow K low best → LowBelow K (raised_low K M width_mark (filter (λ n. below_best K M n.f best) kept) low) best
  unfolding below_best less
  raised_below_best none width_mark kept low g = tt
  raised_below_best (some b) width_mark kept low g =
      let remains : Node S C → Bool = λ n. below_best K M n.f (some b) in
      raised_has (λ x. K.at_most b.cost x ≡ false) width_mark (filter remains kept) low g (all_map (filter remains kept) (λ n e. not_true _ e) (all_passed remains kept))

  -- every change goes further on
  pub round_further : (budget width : ℕ) (p : Progress C) → Changes K M budget width (λ k left point r. Further K p r.progress) (FurtherAtEnd K p)
  unfolding counted at_limit improved_by route_to layer_end next_layer
  round_further budget width p =
      record {
        no_status_lem = λ i e. ends_with K _ i tt;
        no_better = λ i e b. i;
        better = λ {n = n} {r = r} i e b l. record { best = below_no_dearer p.best r.progress.best (route_to K M n) i.best b; low = i.low; gap = l };
        at_low =
            λ {n = n} {r = r} i e b l.
            let cheaper = below_no_dearer p.best r.progress.best (route_to K M n) i.best b in
            by_cond (λ v. FurtherAtEnd K p (stop_at (decided v) (improved_by K M n r))) (K.at_most r.progress.low n.g)
            (λ x. record { best = cheaper; low = i.low; low_at_lem = x }) (λ x. record { best = cheaper; low = i.low; low_at_lem = tt });
        at_limit_lem = λ i e. i;
        budget_spent_lem = λ i e b. ends_with K _ i i.gap;
        expansion_begins = λ i e lt. record { best = i.best; low = i.low; gap = i.gap };
        is_blocked = λ i lt e. i;
        has_moved = λ i lt e b. rw offer_progress i;
        no_bound = λ i lt e b. ends_with K _ i tt;
        trouble_before_lem = λ i lt e. ends_with K _ i tt;
        trouble_after_lem = λ i lt e. ends_with K _ i tt;
        expansion_ends = λ i. i;
        layer_ends =
            λ {r = r} i.
            record {
              best = i.best;
              low = L.transitive _ _ _ i.low (raised_no_lower r.width_mark _ r.progress.low);
              gap = raised_below_best r.progress.best r.width_mark r.kept r.progress.low i.gap;
            };
        next_layer_lem = λ i e. i;
      }

  abbrev pub GoesFurther : (p : Progress C) → Result (Round S C) C → Type 0
  GoesFurther p = Holds (λ r. Further K p r.progress) (FurtherAtEnd K p)

  at_round_end : (p : Progress C) (x : Result (Round S C) C) → Holds (RoundEnd (λ k left point r. Further K p r.progress)) (FurtherAtEnd K p) x → GoesFurther p x
  at_round_end p (on r) h = h.holds
  at_round_end p (over s) h = h

  pub whole_round_further : (budget limit width : ℕ) (n : Node S C) (p q : Progress C) → Further K p q → GoesFurther p (round K M budget limit width n q)
  unfolding fresh_round
  whole_round_further budget limit width n p q i =
      at_round_end p (round K M budget limit width n q) (round_holds K M budget width (λ k left point r. Further K p r.progress) (FurtherAtEnd K p) (round_further budget width p) q i)

  -- rule 7
  pub after_further : (p : Progress C) (the_widest : Bool) (x : Result (Round S C) C) → GoesFurther p x → AfterHolds K M (Further K p) (FurtherAtEnd K p) (after_round K M the_widest x)
  after_further p the_widest x h =
      after_round_holds K M (Further K p) (FurtherAtEnd K p) (λ r. Further K p r.progress) the_widest x h
      (λ r i.
      record {
        no_mark = λ _ _ _. ends_with K _ i (exhausted_low r.progress r.progress.best refl i.gap);
        next_round = i;
        at_widest = λ _ _. ends_with K _ i i.gap;
        no_width_mark = λ _ _ _. ends_with K _ i i.gap;
      })

module _ {S C : Type 0} (K : Costs C) (L : CostLaws K) (M : System S C) (o : Origin S C) (budget limit width : ℕ) (wider : List ℕ) where
  -- no plan, no bound: every progress with low below the best is further on
  run_further : (W : ℕ) → RunChanges K M (Further K (untouched K M)) (FurtherAtEnd K (untouched K M)) o budget limit W
  unfolding untouched refused_at_start
  run_further W =
      record {
        broken = λ a. record { best = tt; low = L.least _; low_at_lem = tt };
        no_admission = λ t a. record { best = tt; low = L.least _; low_at_lem = tt };
        starts = λ h b. record { best = tt; low = L.least _; gap = tt };
        no_start = λ t b. record { best = tt; low = L.least _; low_at_lem = tt };
        round_keeps =
            λ h v ws p a b w i.
            after_further K L M (untouched K M) (is_empty ws) (round K M budget limit v (root K M o h) p) (whole_round_further K L M budget limit v (root K M o h) (untouched K M) p i);
        no_round_left = λ p i. ends_with K _ i i.gap;
      }

  abbrev Gap : Answer C → Type 0
  Gap a = Stopped a.outcome → a.flag ≡ true → K.at_most a.cost a.bound ≡ false

  low_below_cost : (q : Progress C) (b : Option (Route C)) → LowBelow K q.low b → has_plan K M b ≡ true → K.at_most (best_cost K M b) q.low ≡ false
  unfolding has_plan best_cost
  low_below_cost q none g e = absurd (false≢true e)
  low_below_cost q (some b) g e = g

  stopped_low : {v : Verdict} → Stopped (verdict v) → (q : Progress C) → LowAt K (decided v) q → has_plan K M q.best ≡ true → K.at_most (best_cost K M q.best) (bound_at K M v q) ≡ false
  unfolding bound_at
  stopped_low by_width q a e = low_below_cost q q.best a e
  stopped_low by_length q a e = low_below_cost q q.best a e
  stopped_low by_budget q a e = low_below_cost q q.best a e

  answer_gap : (k w : ℕ) (e : Ending C) (q : Progress C) → LowAt K e q → Gap (answer_of K M e k w q)
  unfolding answer_of
  answer_gap k w (decided v) q a s e = stopped_low s q a e
  answer_gap k w (refused t route) q a s e = absurd (false≢true e)

  -- the bound of a stopped run lies strictly below the cost of its plan
  pub stopped_bound_below_cost : Stopped (search K M budget limit width wider o).outcome → (search K M budget limit width wider o).flag ≡ true → K.at_most (search K M budget limit width wider o).cost (search K M budget limit width wider o).bound ≡ false
  unfolding answer
  stopped_bound_below_cost =
      search_holds K M (Further K (untouched K M)) (FurtherAtEnd K (untouched K M)) o budget limit (widest width wider) (run_further (widest width wider)) Gap
      (λ k w s one i. answer_gap k w s.ending s.progress i.low_at_lem) width wider refl

-- ---- from bytes

source_gap : {bytes : List ℕ} {q : Settings} {l : Lent} {a : Answer Cost} → Source bytes q l a → Stopped a.outcome → a.flag ≡ true → at_most a.cost a.bound ≡ false
unfolding refused_by_input search_model costs_of
source_gap (input_refused t r) s e = absurd (false≢true e)
source_gap {q = q} (searched m x) s e =
    stopped_bound_below_cost (costs_of m.rule) (cost_laws m.rule) (system_of range_end m) (origin_of m) q.budget (limit_of q.form m) (first_width q.beam) (wider_than q.beam) s e

-- document 02, §7: "gap between cost and bound": in a stopped run the bound lies strictly below the cost of its plan
pub stopped_bound_below_plan : (most : ℕ) (bytes : List ℕ) (q : Settings) (l : Lent) → Stopped (run most bytes q l).outcome → (run most bytes q l).flag ≡ true → at_most (run most bytes q l).cost (run most bytes q l).bound ≡ false
stopped_bound_below_plan most bytes q l = source_gap (run_source bytes q l most)
