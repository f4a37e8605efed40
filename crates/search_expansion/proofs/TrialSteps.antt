-- A transition tried in a node: the child's words, the offer of it by rule 4, and what each answer of the step comes to.
use Prim.Native.Nat.{ℕ, ◌+◌, ◌-◌, ◌*◌, ◌%◌, ◌/◌, ◌^◌, ◌<◌}
use mathlib.Core.Path.{◌≡◌, refl, sym, ap, ◌∙◌}
use mathlib.Core.Bool.{true, false}
use mathlib.Core.List.{List, ◌∷◌, ◌++◌}
use mathlib.Core.Option.{Option, none, some}
use Rattle.std.specs.Prelude as P
use Rattle.std.specs.Prelude.{Some, None, Ok, Err}
use native.Mathlib.Omega.{arith}
use Rattle.model.specs.Numbers.{range_end}
use Rattle.model.specs.System.{blocked, moved}
use Rattle.model.specs.Meaning.{State}
use Rattle.model.specs.declared.Cost.{Cost}
use Rattle.model.specs.Costs.{hours, CostUpTo, CostBelow}
use Rattle.model.proofs.Ranges.{below_up_to}
use Rattle.costs.specs.Costs.{Joinable}
use Rattle.search.specs.Search as definition
use Rattle.search.specs.Search.{Node, Route, Round, Result, less, below_best}
use Rattle.std.specs.Prelude.{Ok, Err}
use Rattle.eval_sets.specs.declared.troubles.Trouble.{Trouble}
use Rattle.steps.specs.declared.answers.MoveAnswer.{MoveAnswer}
use Rattle.steps.specs.declared.answers.MoveAnswer.TheVariants as M
use Rattle.steps.specs.Answers.{result_of}
use Rattle.steps.specs.InBytes.{state_in, system_in, bound_in}
use Rattle.steps.specs.Follow.{costs_in}
use Rattle.steps.specs.Says.{MoveSays}
use Rattle.steps.proofs.Promises.{cost_order, combined_up_to, f_low, step_cost_below, trouble_cost_below, bound_below, bound_hours_lem, bound_troubles}
use Rattle.steps.proofs.Trials.{is_result}
use Rattle.steps.proofs.Numbered.{Numbers, bound_numbered, before_numbered, after_numbered}
use Rattle.steps.proofs.Following.{is_blocked, is_moved, is_after}
use Rattle.beam_order.specs.Slots.{f_of}
use Rattle.beam.specs.Nodes.{node_of, header_of}
use Rattle.beam.specs.Layers.{nodes_of, Indexed, round_with, InsertedInto}
use Rattle.beam.specs.declared.layer.Inserted.{Inserted}
use Rattle.beam.proofs.Mapped.{round_same}
use Rattle.search_expansion.specs.declared.trials.Found.{Found}
use Rattle.search_expansion.specs.declared.trials.Parent.{Parent}
use Rattle.search_expansion.specs.declared.trials.Halt.TheVariants as H
use Rattle.search_expansion.specs.declared.trials.Expanded.{Expanded}
use Rattle.search_expansion.specs.Expansion.{BestIs, below_cost, halted, trial_result, Offered, Grows}

-- ---- the offer

-- the test of f is the definition's
best_test : (bytes : List ℕ) (x : P.Option Found) (f : Cost) (b : Option (Route Cost)) → BestIs x b → below_best (costs_in bytes) (system_in bytes) f b ≡ below_cost x f
unfolding below_best less below_cost
best_test bytes None f none e = refl
best_test bytes (Some x) f (some b) e = rw (← e, cost_order bytes b.cost f)
best_test bytes None f (some b) e = absurd e
best_test bytes (Some x) f none e = absurd e

module _ {bytes outline : List ℕ} {n : ℕ} {p : Parent} {child layer : List ℕ} where
  pub offered_below : {layer' : List ℕ} (x : Inserted) → below_cost p.best (f_of child) ≡ true → InsertedInto bytes outline p.width n x.count x.cut layer layer' child → Offered bytes outline n p child layer layer' x
  unfolding definition.offer node_of
  offered_below x e i = record {
    held = i.held;
    same = λ path r k b. rw (best_test bytes p.best (f_of child) r.progress.best b, e) (i.inserts path r k);
  }

  pub offered_not : below_cost p.best (f_of child) ≡ false → Indexed outline p.width n layer → Offered bytes outline n p child layer layer (record { count = n; cut = false })
  unfolding definition.offer node_of
  offered_not e h = record {
    held = h;
    same = λ path r k b. rw (best_test bytes p.best (f_of child) r.progress.best b, e) (round_same r (nodes_of p.width layer bytes path n) k);
  }

-- ---- the child's words

-- the node that a header and a state stand for: reached from slot i by transition t; f has the low figure of g
child_node : (bytes : List ℕ) (path : ℕ → List ℕ) (state : List ℕ) (g : Cost) (h : ℕ) (f : Cost) (i t : ℕ) → t < 256 → f.low ≡ g.low
    → node_of bytes path (header_of g h f (i * 256 + t) ++ state) ≡ record { state = state_in bytes state; g = g; h = hours h; f = f; path = t ∷ path i }
unfolding node_of
child_node bytes path state g h f i t small low =
    let step : (i * 256 + t) % 256 ≡ t = omega arith in
    let parent : (i * 256 + t) / 256 ≡ i = omega arith in
    rw (step, parent, ← low)

-- ---- h, then the offer

-- g of a child and its h have room together
pub f_fits : (bytes : List ℕ) (u : State) (a c g : Cost) (h : ℕ) → CostBelow (2 ^ 63) a → CostBelow range_end c → g ≡ (costs_in bytes).combine a c → result_of (bound_in bytes u) ≡ Ok h → Joinable g (hours h)
f_fits bytes u a c g h small step e b =
    let sum : CostUpTo (2 ^ 63 - 1 + (range_end - 1)) g = rw e (combined_up_to bytes (below_up_to small) (below_up_to step)) in
    let least = bound_below bytes u (is_result (bound_in bytes u) b) in
    record { high_fits = omega (arith, sum.high_within, least); low_fits = omega (arith, sum.low_within); moves_fit = omega (arith, sum.moves_within) }

-- f by the cost that h stands for
pub joined : (bytes : List ℕ) (g : Cost) {f k : Cost} {h : ℕ} → k ≡ hours h → f ≡ (costs_in bytes).combine g k → f ≡ (costs_in bytes).combine g (hours h)
joined bytes g e f = f ∙ ap ((costs_in bytes).combine g) e

module _ {bytes state child : List ℕ} {t : ℕ} {q : MoveAnswer} (says : MoveSays bytes state t child q) where
  -- each part of a step's cost is below the range's end
  pub moved_small : {c : Cost} → q ≡ M.Moved c → CostBelow range_end c
  moved_small e = step_cost_below bytes (state_in bytes state) t (is_moved _ (sym says.answer ∙ e)).1

  pub after_small : {c : Cost} {n : Trouble} → q ≡ M.After c n → CostBelow range_end c
  after_small e = trouble_cost_below bytes (state_in bytes state) t (is_after _ (sym says.answer ∙ e)).1

-- the definition's rules: at the child's state, and for a step
module _ (bytes : List ℕ) (w t : ℕ) where
  abbrev pub bounded_by : (c : Cost) (child : List ℕ) → Node State Cost → Round State Cost → Result (Round State Cost) Cost
  bounded_by c child m q = definition.bounded (costs_in bytes) (system_in bytes) w m t c (state_in bytes child) ((system_in bytes).bound (state_in bytes child)) q

  abbrev pub tried_by : Node State Cost → Round State Cost → Result (Round State Cost) Cost
  tried_by m q = definition.tried (costs_in bytes) (system_in bytes) w m t ((system_in bytes).move m.state t) q

module _ (bytes outline : List ℕ) (n : ℕ) (p : Parent) (state layer : List ℕ) (t : ℕ) where
  pub bounded_value : (c : Cost) (child : List ℕ) {g f : Cost} {h : ℕ} {layer' : List ℕ} (x : Inserted) → t < 256 → result_of (bound_in bytes (state_in bytes child)) ≡ Ok h
      → g ≡ (costs_in bytes).combine p.g c → f ≡ (costs_in bytes).combine g (hours h) → Offered bytes outline n p (header_of g h f (p.slot * 256 + t) ++ child) layer layer' x
      → Grows bytes outline n p state layer layer' (record { count = x.count; cut = x.cut; trial = Ok tt }) (bounded_by bytes p.width t c child)
  unfolding definition.bounded definition.child trial_result
  bounded_value c child {g} {f} {h} x small b eg ef offered = record {
    held = offered.held;
    numbered = tt;
    same = λ path h₀ f₀ r k best_is.
        rw (bound_hours_lem bytes (state_in bytes child) (is_result (bound_in bytes (state_in bytes child)) b), ← eg, ← ef, ← child_node bytes path child g h f p.slot t small (ap (λ (x : Cost). x.low) ef ∙ f_low bytes g h)) (ap (λ (q : Round State Cost). definition.on q) (offered.same path r k best_is));
  }

  pub bounded_trouble : (c : Cost) (child : List ℕ) {g : Cost} {u : Trouble} {e : ℕ} → t < 256 → result_of (bound_in bytes (state_in bytes child)) ≡ Err u → Numbers u e
      → g ≡ (costs_in bytes).combine p.g c → Indexed outline p.width n layer
      → Grows bytes outline n p state layer layer (record { count = n; cut = false; trial = Err (H.At e g t) }) (bounded_by bytes p.width t c child)
  unfolding definition.bounded definition.refuse definition.route_over trial_result halted round_with
  bounded_trouble c child small b numbers eg held = record {
    held = held;
    numbered = small;
    same = λ path h₀ f₀ r k best_is. rw (bound_troubles bytes (state_in bytes child) (bound_numbered bytes (state_in bytes child) b numbers), ← eg);
  }

  -- ---- a step

  -- a blocked transition leaves everything as it is
  pub left_alone : (system_in bytes).move (state_in bytes state) t ≡ blocked → Indexed outline p.width n layer → Grows bytes outline n p state layer layer (record { count = n; cut = false; trial = Ok tt }) (tried_by bytes p.width t)
  unfolding definition.tried trial_result
  left_alone e held = record {
    held = held;
    numbered = tt;
    same = λ path h₀ f₀ r k best_is. rw e (ap (λ (q : Round State Cost). definition.on q) (round_same r (nodes_of p.width layer bytes path n) k));
  }

  module _ {child : List ℕ} {q : MoveAnswer} (says : MoveSays bytes state t child q) where
    pub tried_blocked : q ≡ M.Blocked → Indexed outline p.width n layer → Grows bytes outline n p state layer layer (record { count = n; cut = false; trial = Ok tt }) (tried_by bytes p.width t)
    tried_blocked e held = left_alone (is_blocked _ (sym says.answer ∙ e)) held

    pub tried_before : {u : Trouble} {e : ℕ} → q ≡ M.Before u → Numbers u e → Indexed outline p.width n layer → Grows bytes outline n p state layer layer (record { count = n; cut = false; trial = Err (H.Before e) }) (tried_by bytes p.width t)
    unfolding definition.tried definition.refuse definition.route_to trial_result halted round_with
    tried_before e numbers held = record {
      held = held;
      numbered = tt;
      same = λ path h₀ f₀ r k best_is. rw (before_numbered bytes (state_in bytes state) t (sym says.answer ∙ e) numbers);
    }

    pub tried_after : {c g : Cost} {u : Trouble} {e : ℕ} → q ≡ M.After c u → Numbers u e → t < 256 → g ≡ (costs_in bytes).combine p.g c → Indexed outline p.width n layer
        → Grows bytes outline n p state layer layer (record { count = n; cut = false; trial = Err (H.At e g t) }) (tried_by bytes p.width t)
    unfolding definition.tried definition.refuse definition.route_over trial_result halted round_with
    tried_after e numbers small eg held = record {
      held = held;
      numbered = small;
      same = λ path h₀ f₀ r k best_is. rw (after_numbered bytes (state_in bytes state) t (sym says.answer ∙ e) numbers, ← eg);
    }

    arrived : {c : Cost} → q ≡ M.Moved c → (system_in bytes).move (state_in bytes state) t ≡ moved c (state_in bytes child)
    arrived {c} e =
        let m = is_moved _ (sym says.answer ∙ e) in
        let u : m.0 ≡ state_in bytes child = sym (says.arrives c m.0 m.1) in
        rw (m.1, u)

    pub tried_moved : (c : Cost) {layer' : List ℕ} {x : Expanded} → q ≡ M.Moved c → Grows bytes outline n p state layer layer' x (bounded_by bytes p.width t c child) → Grows bytes outline n p state layer layer' x (tried_by bytes p.width t)
    unfolding definition.tried
    tried_moved c e grown = record { held = grown.held; numbered = grown.numbered; same = λ path h₀ f₀ r k best_is. rw (arrived e) (grown.same path h₀ f₀ r k best_is) }
