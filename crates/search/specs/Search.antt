-- Complete anytime beam search, document 01's rules 1 to 7 behind document 02's test of the target, over the promises of the lower layer.
-- docs/FORMAT.md, "Search".
use Rattle.std.specs.Prelude.{ℕ, zero, suc, Bool, true, false, cond, not, ◌&&◌, ◌||◌, length, ltb}
use mathlib.Core.List.{List, [], ◌∷◌, reverse, drop_last}
use Rattle.std.proofs.Math.Option.{Option, none, some}
use Rattle.laws.specs.Lists.{any, filter, is_empty}
use Rattle.model.specs.Values.{Value, value, trouble}
use Rattle.model.specs.System.{Costs, System, Origin, Status, base, unfinished, no_status, Move, blocked, moved, trouble_before, trouble_after}
use Rattle.search.specs.Answer.{Verdict, cheapest, no_plan, width_stop, length_stop, budget_spent, contradicted, verdict, by_state, Tally, Answer}

-- g: the path's cost. h: the bound. f: g combined with h. path: transition numbers, the last step first
pub record Node (S C : Type 0) : Type 0 where
  pub state : S
  pub g : C
  pub h : C
  pub f : C
  pub path : List ℕ

-- a path, the last step first, and its cost
pub record Route (C : Type 0) : Type 0 where
  pub cost : C
  pub path : List ℕ

-- what lasts over rounds; without a plan "the best is above every number"
pub record Progress (C : Type 0) : Type 0 where
  pub best : Option (Route C)
  pub low : C
  pub expansions : ℕ

-- kept: the next layer's nodes, in the order in which they will be taken. width_mark, length_mark: document 01's marks.
-- improved: this round has found a better plan
pub record Round (S C : Type 0) : Type 0 where
  pub kept : List (Node S C)
  pub width_mark : Bool
  pub length_mark : Bool
  pub improved : Bool
  pub progress : Progress C

-- a verdict, or a trouble's number with the path to the state evaluated
pub data Ending (C : Type 0) : Type 0 where
  decided : Verdict → Ending C
  refused : ℕ → Route C → Ending C

pub record Stop (C : Type 0) : Type 0 where
  pub ending : Ending C
  pub progress : Progress C

-- goes on, or the run is over
pub data Result (A C : Type 0) : Type 0 where
  on : A → Result A C
  over : Stop C → Result A C

unfoldable pub and_then : {A B C : Type 0} → Result A C → (A → Result B C) → Result B C
and_then (on a) next = next a
and_then (over s) next = over s

module _ {S C : Type 0} (K : Costs C) (M : System S C) where
  unfoldable pub less : C → C → Bool
  less a b = not (K.at_most b a)

  unfoldable pub below_best : C → Option (Route C) → Bool
  below_best c none = true
  below_best c (some b) = less c b.cost

  -- "by f, then h, then arrival, least first": arrival is the place in the list
  unfoldable pub before : Node S C → Node S C → Bool
  before n m = less n.f m.f || (K.at_most n.f m.f && less n.h m.h)

  -- behind those of equal f and h
  unfoldable pub place : Node S C → List (Node S C) → List (Node S C)
  place n [] = n ∷ []
  place n (m ∷ ms) = cond (before n m) (n ∷ m ∷ ms) (m ∷ place n ms)

  -- n dominates m with g no greater
  unfoldable pub beats : Node S C → Node S C → Bool
  beats n m = M.dominates n.state m.state && K.at_most n.g m.g

  -- "If that makes more kept than the width, the last by f, h, arrival goes and the width mark is set"
  unfoldable pub cut : (width : ℕ) → List (Node S C) → Round S C → Round S C
  cut width l r = record { kept = cond (ltb width (length l)) (drop_last l) l; width_mark = r.width_mark || ltb width (length l); length_mark = r.length_mark; improved = r.improved; progress = r.progress }

  -- rule 5: "A child is dropped if a kept one dominates it with g no greater; else it removes each kept one that it dominates with g no less"
  unfoldable pub insert : (width : ℕ) → Node S C → Round S C → Round S C
  insert width n r = cond (any (λ k. beats k n) r.kept) r (cut width (place n (filter (λ k. not (beats n k)) r.kept)) r)

  -- rule 4: "A child with f not below the best cost is dropped"
  unfoldable pub offer : (width : ℕ) → Node S C → Round S C → Round S C
  offer width n r = cond (below_best n.f r.progress.best) (insert width n r) r

  unfoldable pub refuse : ℕ → Route C → Round S C → Result (Round S C) C
  refuse t route r = over (record { ending = refused t route; progress = r.progress })

  unfoldable pub route_to : Node S C → Route C
  route_to n = record { cost = n.g; path = n.path }

  -- the route to n, and a step by t at cost c
  unfoldable pub route_over : Node S C → ℕ → C → Route C
  route_over n t c = record { cost = K.combine n.g c; path = t ∷ n.path }

  unfoldable pub child : Node S C → ℕ → C → S → C → Node S C
  child n t c u h = let g = K.combine n.g c in record { state = u; g = g; h = h; f = K.combine g h; path = t ∷ n.path }

  -- h of the child comes last
  unfoldable pub bounded : (width : ℕ) → Node S C → ℕ → C → S → Value C → Round S C → Result (Round S C) C
  bounded width n t c u (value h) r = on (offer width (child n t c u h) r)
  bounded width n t c u (trouble e) r = refuse e (route_over n t c) r

  unfoldable pub tried : (width : ℕ) → Node S C → ℕ → Move S C → Round S C → Result (Round S C) C
  tried width n t blocked r = on r
  tried width n t (moved c u) r = bounded width n t c u (M.bound u) r
  tried width n t (trouble_before e) r = refuse e (route_to n) r
  tried width n t (trouble_after c e) r = refuse e (route_over n t c) r

  -- rule 4: "Expansion tries transitions in number order": the next one is t, `left` of them are left
  unfoldable pub expand : (width left t : ℕ) → Node S C → Round S C → Result (Round S C) C
  expand width zero t n r = on r
  expand width (suc left) t n r = and_then (tried width n t (M.move n.state t) r) (λ r'. expand width left (suc t) n r')

  -- "An expansion counts from its start"
  unfoldable pub counted : Round S C → Round S C
  counted r = record { kept = r.kept; width_mark = r.width_mark; length_mark = r.length_mark; improved = r.improved; progress = record { best = r.progress.best; low = r.progress.low; expansions = suc r.progress.expansions } }

  -- rule 3: "it sets the length mark if its f is below the best cost"
  unfoldable pub at_limit : Node S C → Round S C → Round S C
  at_limit n r = record { kept = r.kept; width_mark = r.width_mark; length_mark = r.length_mark || below_best n.f r.progress.best; improved = r.improved; progress = r.progress }

  -- rule 3, `left` being the steps left to the limit: "A non-base state at L steps is never expanded";
  -- "One with fewer steps is expanded, unless the budget is used up: verdict 4"
  unfoldable pub advance : (budget width left : ℕ) → Node S C → Round S C → Result (Round S C) C
  advance budget width zero n r = on (at_limit n r)
  advance budget width (suc left) n r = cond (ltb r.progress.expansions budget) (expand width M.transitions 0 n (counted r)) (over (record { ending = decided budget_spent; progress = r.progress }))

  unfoldable pub improved_by : Node S C → Round S C → Round S C
  improved_by n r = record { kept = r.kept; width_mark = r.width_mark; length_mark = r.length_mark; improved = true; progress = record { best = some (route_to n); low = r.progress.low; expansions = r.progress.expansions } }

  -- rule 2: "if g equals low the run is over, verdict 0; if g is less, verdict 5"
  unfoldable pub new_best : Node S C → Round S C → Result (Round S C) C
  new_best n r =
      cond (K.at_most n.g r.progress.low)
      (over (record { ending = decided (cond (K.at_most r.progress.low n.g) cheapest contradicted); progress = (improved_by n r).progress }))
      (on (improved_by n r))

  -- rule 2: "With g below the best it becomes best"
  unfoldable pub reached : Node S C → Round S C → Result (Round S C) C
  reached n r = cond (below_best n.g r.progress.best) (new_best n r) (on r)

  -- rule 2: "Base cases are tried first. A base state is not expanded"
  unfoldable pub visit : (budget width left : ℕ) → Status → Node S C → Round S C → Result (Round S C) C
  visit budget width left base n r = reached n r
  visit budget width left unfinished n r = advance budget width left n r
  visit budget width left (no_status e) n r = refuse e (route_to n) r

  -- a layer: its nodes in order
  unfoldable pub layer : (budget width left : ℕ) → List (Node S C) → Round S C → Result (Round S C) C
  layer budget width left [] r = on r
  layer budget width left (n ∷ ns) r = and_then (visit budget width left (M.status n.state) n r) (λ r'. layer budget width left ns r')

  unfoldable pub least_f : C → List (Node S C) → C
  least_f a [] = a
  least_f a (n ∷ ns) = least_f (cond (K.at_most a n.f) a n.f) ns

  -- rule 6: "If some remain and no width mark stands in this round, low rises to their least f if that is greater"
  unfoldable pub raised_low : (width_mark : Bool) → List (Node S C) → C → C
  raised_low true l low = low
  raised_low false [] low = low
  raised_low false (n ∷ ns) low = let least = least_f n.f ns in cond (K.at_most least low) low least

  -- rule 6: "After the layer, states with f not below the best go"
  unfoldable pub layer_end : Round S C → Round S C
  layer_end r =
      let remaining = filter (λ n. below_best n.f r.progress.best) r.kept in
      record {
        kept = remaining;
        width_mark = r.width_mark;
        length_mark = r.length_mark;
        improved = r.improved;
        progress = record { best = r.progress.best; low = raised_low r.width_mark remaining r.progress.low; expansions = r.progress.expansions };
      }

  unfoldable pub next_layer : Round S C → Round S C
  next_layer r = record { kept = []; width_mark = r.width_mark; length_mark = r.length_mark; improved = r.improved; progress = r.progress }

  -- rule 6: "The round ends when none remain, when it has found a plan"
  unfoldable pub unless_ended : Round S C → (Round S C → Result (Round S C) C) → Result (Round S C) C
  unless_ended r next = elim (is_empty r.kept || r.improved) [ true ↦ on r | false ↦ next r ]

  -- rule 6: "or after layer L"
  unfoldable pub layers : (budget width left : ℕ) → List (Node S C) → Round S C → Result (Round S C) C
  layers budget width zero ns r = and_then (layer budget width zero ns r) (λ r'. on (layer_end r'))
  layers budget width (suc left) ns r = and_then (layer budget width (suc left) ns r) (λ r'. unless_ended (layer_end r') (λ x. layers budget width left x.kept (next_layer x)))

  unfoldable pub root : Origin S C → (h : C) → Node S C
  root o h = record { state = o.start; g = o.spent; h = h; f = K.combine o.spent h; path = [] }

  -- rule 1: "A round starts with the target alone"
  unfoldable pub fresh_round : Progress C → Round S C
  fresh_round p = record { kept = []; width_mark = false; length_mark = false; improved = false; progress = p }

  unfoldable pub round : (budget limit width : ℕ) → Node S C → Progress C → Result (Round S C) C
  round budget limit width n p = layers budget width limit (n ∷ []) (fresh_round p)

  -- after a round: another one, or the run is over
  pub data After : Type 0 where
    again : Progress C → After
    ended : Stop C → After

  unfoldable pub exhausted : Option (Route C) → Verdict
  exhausted none = no_plan
  exhausted (some b) = cheapest

  unfoldable pub end_with : Verdict → Round S C → After
  end_with v r = ended (record { ending = decided v; progress = r.progress })

  -- rule 7: "No mark and none remaining: verdict 0, or 1 without a plan. Else, if the round found a better plan, the next width, W again at W.
  -- Else, with the width mark: the next width, or verdict 2 at W. Else verdict 3"; the_widest: the width is W
  unfoldable pub judge : (the_widest : Bool) → Round S C → After
  judge the_widest r =
      cond (not r.width_mark && not r.length_mark && is_empty r.kept)
      (end_with (exhausted r.progress.best) r)
      (cond r.improved (again r.progress)
      (cond r.width_mark (cond the_widest (end_with width_stop r) (again r.progress)) (end_with length_stop r)))

  unfoldable pub after_round : (the_widest : Bool) → Result (Round S C) C → After
  after_round the_widest (on r) = judge the_widest r
  after_round the_widest (over s) = ended s

  -- ---- the answer of a run that is over

  unfoldable pub has_plan : Option (Route C) → Bool
  has_plan none = false
  has_plan (some b) = true

  -- "Cost and length are 0 without a plan"
  unfoldable pub best_cost : Option (Route C) → C
  best_cost none = K.empty
  best_cost (some b) = b.cost

  unfoldable pub best_steps : Option (Route C) → List ℕ
  best_steps none = []
  best_steps (some b) = reverse b.path

  -- "bound (low; the cost at 0; zero at 1)"
  unfoldable pub bound_at : Verdict → Progress C → C
  bound_at cheapest p = best_cost p.best
  bound_at no_plan p = K.empty
  bound_at width_stop p = p.low
  bound_at length_stop p = p.low
  bound_at budget_spent p = p.low
  bound_at contradicted p = p.low

  unfoldable pub tally_of : (rounds width : ℕ) → Progress C → Tally
  tally_of rounds width p = record { expansions = p.expansions; rounds = rounds; width = width }

  -- at a refusal "plan flag 0, the plan buffer, length and cost give the path to the state evaluated"; "tallies and bound stand"
  unfoldable pub answer_of : Ending C → (rounds width : ℕ) → Progress C → Answer C
  answer_of (decided v) rounds width p = record { outcome = verdict v; flag = has_plan p.best; cost = best_cost p.best; bound = bound_at v p; steps = best_steps p.best; tally = tally_of rounds width p }
  answer_of (refused t route) rounds width p = record { outcome = by_state t; flag = false; cost = route.cost; bound = p.low; steps = reverse route.path; tally = tally_of rounds width p }

  unfoldable pub answer : (rounds width : ℕ) → Stop C → Answer C
  answer rounds width s = answer_of s.ending rounds width s.progress

  -- ---- the rounds

  -- "the next width, W again at W"
  unfoldable pub next_width : ℕ → List ℕ → ℕ
  next_width w [] = w
  next_width w (v ∷ vs) = v

  unfoldable pub later_widths : List ℕ → List ℕ
  later_widths [] = []
  later_widths (v ∷ vs) = vs

  unfoldable pub unless_over : (k width : ℕ) → After → (Progress C → Answer C) → Answer C
  unless_over k width (ended s) next = answer k width s
  unless_over k width (again p) next = next p

  -- round k, at this width; those behind it are `wider`. most: a bound on the rounds
  unfoldable pub rounds : (most budget limit width : ℕ) (wider : List ℕ) (k : ℕ) → Node S C → Progress C → Answer C
  -- never met with a bound above the budget (`any_bound_of_search`): a round that is followed by another has expanded a state
  rounds zero budget limit width wider k n p = answer k width (record { ending = decided budget_spent; progress = p })
  rounds (suc most) budget limit width wider k n p = unless_over k width (after_round (is_empty wider) (round budget limit width n p)) (λ p'. rounds most budget limit (next_width width wider) (later_widths wider) (suc k) n p')

  -- before h of the start is found: no plan, low 0, no expansion
  unfoldable pub untouched : Progress C
  untouched = record { best = none; low = K.empty; expansions = 0 }

  -- trouble in the start's constraints or its bounds
  unfoldable pub refused_at_start : ℕ → Origin S C → Stop C
  refused_at_start t o = record { ending = refused t (record { cost = o.spent; path = [] }); progress = untouched }

  -- rule 1: "low is 0 until h of the target is found, just after round 1 has begun; it is then that h"
  unfoldable pub begin : (most budget limit width : ℕ) (wider : List ℕ) → Origin S C → Value C → Answer C
  begin most budget limit width wider o (value h) = rounds most budget limit width wider 1 (root o h) (record { best = none; low = K.combine o.spent h; expansions = 0 })
  begin most budget limit width wider o (trouble t) = answer 1 width (refused_at_start t o)

  -- document 02, §1: "The target's constraints are evaluated before its bounds … If one fails, the verdict is 1 with no expansion, one round
  -- begun, width 1 and bound 0", width 1 being the first
  unfoldable pub enter : (most budget limit width : ℕ) (wider : List ℕ) → Origin S C → Value Bool → Answer C
  enter most budget limit width wider o (value true) = begin most budget limit width wider o (M.bound o.start)
  enter most budget limit width wider o (value false) = answer 1 width (record { ending = decided no_plan; progress = untouched })
  enter most budget limit width wider o (trouble t) = answer 1 width (refused_at_start t o)

  -- the run within so many rounds
  unfoldable pub search_within : (most budget limit width : ℕ) (wider : List ℕ) → Origin S C → Answer C
  search_within most budget limit width wider o = enter most budget limit width wider o (M.admits o.start)

  -- the run with this budget, length limit, first width and wider widths, from this origin
  unfoldable pub search : (budget limit width : ℕ) (wider : List ℕ) → Origin S C → Answer C
  search budget limit width wider o = search_within (suc budget) budget limit width wider o
