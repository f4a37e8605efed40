-- Facts of every answer that need no cost laws: the counts, where a refusal's number comes from, the plan flag.
use Prim.Native.Nat.{ℕ, ◌≤◌, ◌<◌}
use mathlib.Core.Path.{◌≡◌, refl, subst}
use mathlib.Core.Bool.{false}
use mathlib.Core.List.{List}
use mathlib.Core.Option.{Option, none, some}
use native.Mathlib.Omega.{arith}
use Rattle.laws.specs.Lists.{any, is_empty}
use Rattle.laws.proofs.Bools.{by_cond}
use Rattle.model.specs.Values.{trouble}
use Rattle.model.specs.System.{Costs, System, Origin, no_status, trouble_before, trouble_after}
use Rattle.search.specs.Answer.{cheapest, no_plan, width_stop, length_stop, budget_spent, contradicted, verdict, by_state, by_input, Answer}
use Rattle.search.specs.Search.{Node, Route, Progress, Round, Ending, decided, refused, Stop, below_best, beats, cut, insert, offer, counted, at_limit, improved_by, layer_end, next_layer, root, fresh_round, round, exhausted, has_plan, tally_of, answer_of, answer, untouched, refused_at_start, search}
use Rattle.search.specs.Guarantee.{widest}
use Rattle.search.proofs.Induction.{Changes, RoundEnd, round_holds}
use Rattle.search.proofs.Rounds.{after_round_holds, RunChanges, search_holds}

-- P holds of every number of a trouble that the system can give
pub record Troubles {S C : Type 0} (M : System S C) (P : ℕ → Type 0) : Type 0 where
  pub of_admits : (s : S) (e : ℕ) → M.admits s ≡ trouble e → P e
  pub of_status : (s : S) (e : ℕ) → M.status s ≡ no_status e → P e
  pub of_move_before : (s : S) (t e : ℕ) → t < M.transitions → M.move s t ≡ trouble_before e → P e
  pub of_move_after : (s : S) (t e : ℕ) (c : C) → t < M.transitions → M.move s t ≡ trouble_after c e → P e
  pub of_bound : (s : S) (e : ℕ) → M.bound s ≡ trouble e → P e

module _ {S C : Type 0} (K : Costs C) (M : System S C) where
  -- rules 4 and 5 change nothing that lasts over rounds
  pub offer_progress : (width : ℕ) (n : Node S C) (r : Round S C) → (offer K M width n r).progress ≡ r.progress
  unfolding offer insert cut
  offer_progress width n r =
      by_cond (λ (x : Round S C). x.progress ≡ r.progress) (below_best K M n.f r.progress.best)
      (λ _. by_cond (λ (x : Round S C). x.progress ≡ r.progress) (any (λ m. beats K M m n) r.kept) (λ _. refl) (λ _. refl)) (λ _. refl)

  module _ (P : ℕ → Type 0) (budget : ℕ) where
    -- no plan: there is no best. Refused: P holds of the number
    abbrev Ends : Ending C → (best : Option (Route C)) → Type 0
    Ends (decided cheapest) best = Unit {0}
    Ends (decided no_plan) best = best ≡ none
    Ends (decided width_stop) best = Unit {0}
    Ends (decided length_stop) best = Unit {0}
    Ends (decided budget_spent) best = Unit {0}
    Ends (decided contradicted) best = Unit {0}
    Ends (refused t route) best = P t

    abbrev Within : Progress C → Type 0
    Within p = p.expansions ≤ budget

    -- of a run that is over
    record Recorded (s : Stop C) : Type 0 where
      within : Within s.progress
      ends : Ends s.ending s.progress.best

    exhausted_ends : (best : Option (Route C)) → Ends (decided (exhausted K M best)) best
    unfolding exhausted
    exhausted_ends none = refl
    exhausted_ends (some b) = tt

    module _ (T : Troubles M P) where
      round_recorded : (width : ℕ) → Changes K M budget width (λ k left point r. Within r.progress) Recorded
      unfolding counted at_limit improved_by layer_end next_layer
      round_recorded width =
          record {
            no_status_lem = λ p e. record { within = p; ends = T.of_status _ _ e };
            no_better = λ p e b. p;
            better = λ p e b l. p;
            at_low = λ {n = n} {r = r} p e b l. record { within = p; ends = by_cond (λ v. Ends (decided v) (improved_by K M n r).progress.best) (K.at_most r.progress.low n.g) (λ _. tt) (λ _. tt) };
            at_limit_lem = λ p e. p;
            budget_spent_lem = λ p e b. record { within = p; ends = tt };
            expansion_begins = λ p e lt. lt;
            is_blocked = λ p lt e. p;
            has_moved = λ p lt e b. rw offer_progress p;
            no_bound = λ p lt e b. record { within = p; ends = T.of_bound _ _ b };
            trouble_before_lem = λ p lt e. record { within = p; ends = T.of_move_before _ _ _ lt e };
            trouble_after_lem = λ p lt e. record { within = p; ends = T.of_move_after _ _ _ _ lt e };
            expansion_ends = λ p. p;
            layer_ends = λ p. p;
            next_layer_lem = λ p e. p;
          }

      run_recorded : (o : Origin S C) (limit W : ℕ) → RunChanges K M Within Recorded o budget limit W
      unfolding fresh_round untouched refused_at_start
      run_recorded o limit W =
          record {
            broken = λ a. record { within = omega arith; ends = refl };
            no_admission = λ t a. record { within = omega arith; ends = T.of_admits _ _ a };
            starts = λ h b. omega arith;
            no_start = λ t b. record { within = omega arith; ends = T.of_bound _ _ b };
            round_keeps =
                λ h width wider p a b w i.
                after_round_holds K M Within Recorded (RoundEnd (λ k left point r. Within r.progress)) (is_empty wider) (round K M budget limit width (root K M o h) p)
                (round_holds K M budget width (λ k left point r. Within r.progress) Recorded (round_recorded width) p i)
                (λ r E.
                record {
                  no_mark = λ _ _ _. record { within = E.holds; ends = exhausted_ends r.progress.best };
                  next_round = E.holds;
                  at_widest = λ _ _. record { within = E.holds; ends = tt };
                  no_width_mark = λ _ _ _. record { within = E.holds; ends = tt };
                });
            no_round_left = λ p i. record { within = i; ends = tt };
          }

    -- what is told by every answer
    pub record Reported (a : Answer C) : Type 0 where
      pub expansions_within : a.tally.expansions ≤ budget
      pub at_least_one_round : 1 ≤ a.tally.rounds
      pub refused_by_system : (t : ℕ) → a.outcome ≡ by_state t → P t
      pub not_by_input : (t : ℕ) → a.outcome ≡ by_input t → ⊥
      pub no_plan_no_flag : a.outcome ≡ verdict no_plan → a.flag ≡ false
      pub refused_no_flag : (t : ℕ) → a.outcome ≡ by_state t → a.flag ≡ false

    answer_reported : (k width : ℕ) (e : Ending C) (p : Progress C) → 1 ≤ k → Within p → Ends e p.best → Reported (answer_of K M e k width p)
    unfolding answer_of tally_of has_plan
    answer_reported k width (decided v) p one w i =
        record {
          expansions_within = w;
          at_least_one_round = one;
          refused_by_system = λ t e. let z : ◌≡◌ {A = ℕ} 0 1 = cc in absurd (omega arith);
          not_by_input = λ t e. let z : ◌≡◌ {A = ℕ} 0 1 = cc in omega arith;
          no_plan_no_flag = λ e. let same : v ≡ no_plan = cc in rw (subst (λ x. Ends (decided x) p.best) same i);
          refused_no_flag = λ t e. let z : ◌≡◌ {A = ℕ} 0 1 = cc in absurd (omega arith);
        }
    answer_reported k width (refused t route) p one w i =
        record {
          expansions_within = w;
          at_least_one_round = one;
          refused_by_system = λ u e. let same : t ≡ u = cc in rw same at i;
          not_by_input = λ t e. let z : ◌≡◌ {A = ℕ} 0 1 = cc in omega arith;
          no_plan_no_flag = λ e. refl;
          refused_no_flag = λ t e. refl;
        }

module _ {S C : Type 0} (K : Costs C) (M : System S C) (o : Origin S C) (budget limit width : ℕ) (wider : List ℕ) where
  search_reported : (P : ℕ → Type 0) → Troubles M P → Reported K M P budget (search K M budget limit width wider o)
  unfolding answer
  search_reported P T =
      search_holds K M (Within K M P budget) (Recorded K M P budget) o budget limit (widest width wider) (run_recorded K M P budget T o limit (widest width wider)) (Reported K M P budget)
      (λ k w s one i. answer_reported K M P budget k w s.ending s.progress one i.within i.ends) width wider refl

  -- the number of a refusal by the state is that of a trouble of the system
  pub refusals_from_system : (P : ℕ → Type 0) → Troubles M P → (t : ℕ) → (search K M budget limit width wider o).outcome ≡ by_state t → P t
  refusals_from_system P T = (search_reported P T).refused_by_system

  any_trouble : Troubles M (λ e. Unit {0})
  any_trouble = record { of_admits = λ s e x. tt; of_status = λ s e x. tt; of_move_before = λ s t e lt x. tt; of_move_after = λ s t e c lt x. tt; of_bound = λ s e x. tt }

  pub expansions_within_budget : (search K M budget limit width wider o).tally.expansions ≤ budget
  expansions_within_budget = (search_reported (λ e. Unit {0}) any_trouble).expansions_within

  pub rounds_at_least_one : 1 ≤ (search K M budget limit width wider o).tally.rounds
  rounds_at_least_one = (search_reported (λ e. Unit {0}) any_trouble).at_least_one_round

  pub never_by_input : (t : ℕ) → (search K M budget limit width wider o).outcome ≡ by_input t → ⊥
  never_by_input = (search_reported (λ e. Unit {0}) any_trouble).not_by_input

  pub plan_of_no_plan : (search K M budget limit width wider o).outcome ≡ verdict no_plan → (search K M budget limit width wider o).flag ≡ false
  plan_of_no_plan = (search_reported (λ e. Unit {0}) any_trouble).no_plan_no_flag

  pub refusal_has_no_plan : (t : ℕ) → (search K M budget limit width wider o).outcome ≡ by_state t → (search K M budget limit width wider o).flag ≡ false
  refusal_has_no_plan = (search_reported (λ e. Unit {0}) any_trouble).refused_no_flag
