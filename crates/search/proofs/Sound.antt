-- Demand 3 of the mission, proved of the search: what its answers guarantee, and that their steps are within the limit.
-- The invariant holds in every round, rule 7's verdicts are justified, and the answer tells what is justified.
use Prim.Native.Nat.{ℕ, zero, suc, ◌≤◌}
use mathlib.Core.Path.{◌≡◌, refl, subst}
use mathlib.Core.Logic.{◌⊎◌, inl, inr}
use mathlib.Core.Bool.{Bool, true, false, ◌||◌, false≢true}
use mathlib.Core.List.{List, [], ◌∷◌}
use mathlib.Core.Option.{Option, none, some}
use native.Mathlib.Omega.{arith}
use lib.ListN.{length, length-reverse}
use Rattle.laws.specs.Lists.{is_empty}
use Rattle.laws.proofs.Bools.{not_both, or_either}
use Rattle.laws.proofs.Lists.{Some, here, some_none, is_empty_lem}
use Rattle.model.specs.Values.{value}
use Rattle.model.specs.System.{Costs, CostLaws, System, Origin}
use Rattle.model.specs.Syntax.{Rule}
use Rattle.model.specs.Costs.{hours_of}
use Rattle.model.specs.Plans.{first, PlanFrom, arrived}
use Rattle.model.proofs.Costs.{hours_laws}
use Rattle.model.proofs.Reach.{here as Reach-here}
use Rattle.model.proofs.PlanCheck.{broken_has_no_plan}
use Rattle.search.specs.Answer.{Verdict, cheapest, no_plan, width_stop, length_stop, contradicted, verdict, by_state, Answer}
use Rattle.search.specs.Search.{Node, Route, Progress, Round, Ending, decided, refused, root, fresh_round, round, exhausted, has_plan, best_cost, best_steps, bound_at, answer_of, answer, untouched, refused_at_start, search}
use Rattle.search.specs.Guarantee.{Stopped, by_width, by_length, by_budget, widest, OfEveryPlan, in_start, in_bound, Guarantee, Fits}
use Rattle.search.proofs.Induction.{taking, Changes, RoundEnd, round_holds}
use Rattle.search.proofs.Rounds.{Judged, after_round_holds, RunChanges, search_holds}
use Rattle.search.proofs.Invariant.{Completion, Covered, Accounted, covered, pending, held, Pending, Limited, BestIsPlan, Supported, InvariantAt, IsCheapest, Claim, Justified}
use Rattle.search.proofs.Expansion.{at_limit_holds, budget_spent_holds, expansion_begins_holds, blocked_holds, moved_holds, trouble_before_holds, trouble_after_holds, no_bound_holds, expansion_ends_holds}
use Rattle.search.proofs.Layer.{no_status_holds, no_better_holds, better_holds, at_low_holds, layer_ends_holds, next_layer_holds}

module _ {S C : Type 0} (K : Costs C) (L : CostLaws K) (M : System S C) (self : (s : S) → M.dominates s s ≡ true) (o : Origin S C) (budget limit W : ℕ) where
  -- every change of a round keeps the invariant
  invariant_kept : (width : ℕ) → Changes K M budget width (InvariantAt K M o limit width) (Justified K M o limit W)
  invariant_kept width =
      record {
        no_status_lem = λ s e. no_status_holds K L M o limit W width s e;
        no_better = λ s e b. no_better_holds K L M o limit W width s e b;
        better = λ s e b l. better_holds K L M o limit W width s e b;
        at_low = λ s e b l. at_low_holds K L M o limit W width s e b l;
        at_limit_lem = λ s e. at_limit_holds K L M o limit W width s e;
        budget_spent_lem = λ s e b. budget_spent_holds K L M o limit W width s;
        expansion_begins = λ s e b. expansion_begins_holds K L M o limit W width s e;
        is_blocked = λ s lt e. blocked_holds K L M o limit W width s e;
        has_moved = λ s lt e b. moved_holds K L M o limit W width self s lt e b;
        no_bound = λ s lt e b. no_bound_holds K L M o limit W width s lt e b;
        trouble_before_lem = λ s lt e. trouble_before_holds K L M o limit W width s lt e;
        trouble_after_lem = λ s lt e. trouble_after_holds K L M o limit W width s lt e;
        expansion_ends = λ s. expansion_ends_holds K L M o limit W width s;
        layer_ends = λ s. layer_ends_holds K L M o limit W width s;
        next_layer_lem = λ s e. next_layer_holds K L M o limit W width s;
      }

  -- rule 1: the start alone, and every plan is still to come
  start_holds : (width : ℕ) (h : C) (p : Progress C) → M.admits o.start ≡ value true → M.bound o.start ≡ value h → Supported K M o limit p → InvariantAt K M o limit width 0 limit (taking (root K M o h ∷ [])) (fresh_round K M p)
  unfolding fresh_round root
  start_holds width h p a b s =
      record {
        depth = omega arith;
        ahead = (record { admitted = a; in_layer = first; reached = Reach-here; path_length = refl; bounded = b; summed = refl }, tt);
        invariant =
            record {
              supported = s;
              valid = tt;
              apart = tt;
              overfull = λ e. absurd (false≢true e);
              open_at = λ e. absurd (false≢true e);
              limited = none_yet limit;
              accounted = λ w l T q c plan. pending (here (record { steps = q; cost = c; plan = plan.plan; within = L.reflexive _ }));
            };
      }
    where
      none_yet : (left : ℕ) → Limited {A = Node S C} left [] false
      none_yet zero = refl
      none_yet (suc left) = refl

  abbrev AtEnd : (width : ℕ) → Round S C → Type 0
  AtEnd width = RoundEnd (InvariantAt K M o limit width)

  -- behind a round without marks and without nodes, the best costs no more than any plan
  all_covered : {width : ℕ} {r : Round S C} → AtEnd width r → r.width_mark ≡ false → r.length_mark ≡ false → is_empty r.kept ≡ true → OfEveryPlan K M o (λ c. Covered K M c r.progress.best)
  all_covered {r} E w l e T p c plan = pick (E.holds.invariant.accounted w l T p c plan)
    where
      pick : {c : C} → Accounted K M (Pending K M (taking [])) c r.progress.best r.kept → Covered K M c r.progress.best
      pick (covered x) = x
      pick (pending x) = absurd (some_none x)
      pick {c} (held x) = absurd (some_none (subst (Some (Completion K M c)) (is_empty_lem r.kept e) x))

  exhausted_claim : (best : Option (Route C)) → OfEveryPlan K M o (λ c. Covered K M c best) → Claim K M o limit W (decided (exhausted K M best)) best
  unfolding exhausted
  exhausted_claim none f = f
  exhausted_claim (some b) f = f

  -- a round that has found no better plan has ended because nothing is kept
  none_kept : {width : ℕ} {r : Round S C} → AtEnd width r → r.improved ≡ false → is_empty r.kept ≡ true
  unfolding is_empty
  none_kept {r} E i = pick E.ended
    where
      pick : (E.left ≡ 0) ⊎ ((is_empty r.kept || r.improved) ≡ true) → is_empty r.kept ≡ true
      pick (inl z) = rw (subst (λ x. Limited x r.kept r.length_mark) z E.holds.invariant.limited)
      pick (inr e) = elim (or_either (is_empty r.kept) r.improved e) [ inl x ↦ x | inr x ↦ absurd (not_both x i) ]

  -- rule 7
  judged : {width : ℕ} (the_widest : Bool) (r : Round S C) → (the_widest ≡ true → width ≡ W) → AtEnd width r → Judged K M (Supported K M o limit) (Justified K M o limit W) the_widest r
  judged the_widest r is-widest E =
      let I = E.holds.invariant in
      record {
        no_mark = λ w l e. record { supported = I.supported; claim = exhausted_claim r.progress.best (all_covered E w l e) };
        next_round = I.supported;
        at_widest = λ w a. record { supported = I.supported; claim = rw (is-widest a) at (I.overfull w) };
        no_width_mark = λ w i f. record { supported = I.supported; claim = I.open_at (f (none_kept E i)) };
      }

  last_is_widest : (width : ℕ) (wider : List ℕ) → widest width wider ≡ W → is_empty wider ≡ true → width ≡ W
  unfolding is_empty
  last_is_widest width [] w e = w
  last_is_widest width (v ∷ vs) w e = absurd (false≢true e)

  nothing_supported : Supported K M o limit (untouched K M)
  unfolding untouched
  nothing_supported = record { best = tt; low = λ T p c plan. L.least _ }

  pub run_kept : RunChanges K M (Supported K M o limit) (Justified K M o limit W) o budget limit W
  unfolding refused_at_start
  run_kept =
      record {
        broken = λ a. record { supported = nothing_supported; claim = λ T p c plan. broken_has_no_plan K M a plan };
        no_admission = λ t a. record { supported = nothing_supported; claim = record { fits = omega arith; trouble_there = in_start a } };
        starts = λ h b. record { best = tt; low = λ T p c plan. L.monotone _ _ _ _ (L.reflexive _) (T.bounds first b plan.plan) };
        no_start = λ t b. record { supported = nothing_supported; claim = record { fits = omega arith; trouble_there = in_bound arrived b } };
        round_keeps =
            λ h width wider p a b w s.
            after_round_holds K M (Supported K M o limit) (Justified K M o limit W) (AtEnd width) (is_empty wider) (round K M budget limit width (root K M o h) p)
            (round_holds K M budget width (InvariantAt K M o limit width) (Justified K M o limit W) (invariant_kept width) p (start_holds width h p a b s))
            (λ r. judged (is_empty wider) r (last_is_widest width wider w));
        no_round_left = λ p s. record { supported = s; claim = tt };
      }

-- the answer tells what is justified
module _ {S C : Type 0} (K : Costs C) (M : System S C) (o : Origin S C) (limit W : ℕ) where
  plan_given_of : (best : Option (Route C)) → BestIsPlan K M o limit best → has_plan K M best ≡ true → (c : C) × PlanFrom K M o.start (best_steps K M best) c × (best_cost K M best ≡ K.combine o.spent c)
  unfolding has_plan best_steps best_cost
  plan_given_of none b e = absurd (false≢true e)
  plan_given_of (some x) b e = (b.cost, b.plan, b.total)

  cheapest_has_plan : (best : Option (Route C)) → IsCheapest K M o limit best → has_plan K M best ≡ true
  unfolding has_plan
  cheapest_has_plan none x = absurd x
  cheapest_has_plan (some b) x = refl

  cheapest_cost : (best : Option (Route C)) → IsCheapest K M o limit best → OfEveryPlan K M o (λ c. K.at_most (best_cost K M best) c ≡ true)
  unfolding best_cost
  cheapest_cost none x = absurd x
  cheapest_cost (some b) x = x

  best_within : (best : Option (Route C)) → BestIsPlan K M o limit best → length (best_steps K M best) ≤ limit
  unfolding best_steps
  best_within none b = omega arith
  best_within (some x) b = rw (length-reverse x.path) b.fits

  stopped_bound : {v : Verdict} → Stopped (verdict v) → (p : Progress C) → bound_at K M v p ≡ p.low
  unfolding bound_at
  stopped_bound by_width p = refl
  stopped_bound by_length p = refl
  stopped_bound by_budget p = refl

  refused_not_stopped : {t : ℕ} → Stopped (by_state t) → ⊥
  refused_not_stopped s = elim s [ ]

  refused_no_verdict : {t : ℕ} {v : Verdict} {X : Type 0} → by_state t ≡ verdict v → X
  refused_no_verdict e = let z : ◌≡◌ {A = ℕ} 0 1 = cc in absurd (omega arith)

  answer_guarantee : (k width : ℕ) (e : Ending C) (p : Progress C) → Supported K M o limit p → Claim K M o limit W e p.best → Guarantee K M o W limit (answer_of K M e k width p)
  unfolding answer_of
  answer_guarantee k width (decided v) p s c =
      record {
        plan_given = plan_given_of p.best s.best;
        cheapest_given = λ e. cheapest_has_plan p.best (claimed cheapest e);
        cheapest_least = λ e. cheapest_cost p.best (claimed cheapest e);
        no_plan_exists = λ e. claimed no_plan e;
        bound_below = λ x. rw (stopped_bound x p) s.low;
        declaration_false = λ e. claimed contradicted e;
        width_witness = λ e. claimed width_stop e;
        length_witness = λ e. claimed length_stop e;
      }
    where
      claimed : (x : Verdict) → verdict v ≡ verdict x → Claim K M o limit W (decided x) p.best
      claimed x e = let same : v ≡ x = cc in subst (λ y. Claim K M o limit W (decided y) p.best) same c
  answer_guarantee k width (refused t route) p s c =
      record {
        plan_given = λ e. absurd (false≢true e);
        cheapest_given = refused_no_verdict;
        cheapest_least = refused_no_verdict;
        no_plan_exists = refused_no_verdict;
        bound_below = λ x. absurd (refused_not_stopped x);
        declaration_false = refused_no_verdict;
        width_witness = refused_no_verdict;
        length_witness = refused_no_verdict;
      }

  answer_within : (k width : ℕ) (e : Ending C) (p : Progress C) → Supported K M o limit p → Claim K M o limit W e p.best → length (answer_of K M e k width p).steps ≤ limit
  unfolding answer_of
  answer_within k width (decided v) p s c = best_within p.best s.best
  answer_within k width (refused t route) p s c = rw (length-reverse route.path) c.fits

module _ {S C : Type 0} (K : Costs C) (L : CostLaws K) (M : System S C) (self : (s : S) → M.dominates s s ≡ true) (o : Origin S C) (budget limit width : ℕ) (wider : List ℕ) where
  -- demand 3
  pub search_guarantee : Guarantee K M o (widest width wider) limit (search K M budget limit width wider o)
  unfolding answer
  search_guarantee =
      let W : ℕ = widest width wider in
      search_holds K M (Supported K M o limit) (Justified K M o limit W) o budget limit W (run_kept K L M self o budget limit W) (Guarantee K M o W limit)
      (λ k w s one j. answer_guarantee K M o limit W k w s.ending s.progress j.supported j.claim) width wider refl

  -- the plan, or the path at a refusal by the state, has no more steps than the limit
  pub steps_within : length (search K M budget limit width wider o).steps ≤ limit
  unfolding answer
  steps_within =
      let W : ℕ = widest width wider in
      search_holds K M (Supported K M o limit) (Justified K M o limit W) o budget limit W (run_kept K L M self o budget limit W) (λ a. length a.steps ≤ limit)
      (λ k w s one j. answer_within K M o limit W k w s.ending s.progress j.supported j.claim) width wider refl

-- hours alone are an instance
pub hours_guarantee : {S : Type 0} (rule : Rule) (M : System S ℕ) → ((s : S) → M.dominates s s ≡ true) → (o : Origin S ℕ) (budget limit width : ℕ) (wider : List ℕ)
    → Guarantee (hours_of rule) M o (widest width wider) limit (search (hours_of rule) M budget limit width wider o)
hours_guarantee rule M self o budget limit width wider = search_guarantee (hours_of rule) (hours_laws rule) M self o budget limit width wider

-- neither stop where every layer fits and nothing unfinished lies at the limit
pub no_stop_where_fits : {S C : Type 0} (K : Costs C) (M : System S C) (o : Origin S C) (W limit : ℕ) (a : Answer C) → Guarantee K M o W limit a → Fits K M o W limit → (a.outcome ≡ verdict width_stop → ⊥) × (a.outcome ≡ verdict length_stop → ⊥)
no_stop_where_fits K M o W limit a G F =
    (λ e. let (k, l, kl, d, al, lt) = G.width_witness e in omega (arith, F.layers_fit k l kl d al), λ e. let (s, i, u) = G.length_witness e in F.none_open s i u)
