-- The two figures of a plan: the low one is at most the high one, whatever the plan really takes lies between them, and both ends are reached;
-- without ranges they are the same.
-- No step has moves, so costs are compared by hours at high figures; and declarations that are true of the ranges are true of the costs.
use Prim.Native.Nat.{ℕ, ◌≤◌, ◌<◌}
use mathlib.Core.Path.{◌≡◌, refl, subst}
use mathlib.Core.Logic.{◌↔◌}
use mathlib.Core.Bool.{Bool, true, false, cond}
use mathlib.Core.List.{List}
use native.Mathlib.Decide.{dec_lt}
use native.Mathlib.Omega.{arith}
use Rattle.laws.proofs.Bools.{not_both}
use Rattle.model.specs.Numbers.{range_end}
use Rattle.model.specs.Values.{value}
use Rattle.model.specs.System.{moved}
use Rattle.model.specs.Plans.{Plan, finish, step, Leads, arrived, further, TrueDeclarations}
use Rattle.model.specs.Syntax.{Rule, sum, largest, Model}
use Rattle.model.specs.declared.Cost.{Cost}
use Rattle.model.specs.Costs.{at_most, join, join_moves, combine, costs_of}
use Rattle.model.specs.Meaning.{State}
use Rattle.model.specs.Steps.{target, bound_hours, bound, system_of}
use Rattle.model.specs.Real.{RealHours, over, taking, TrueOfRanges, NoRanges}
use Rattle.model.proofs.Costs.{at_most_hours, hours_at_most}
use Rattle.model.proofs.Taken.{bind_value, step_one_figure}
use Rattle.model.proofs.Ranges.{step_priced}

-- ---- moves

-- without moves on both sides there are none in what a rule makes of them
pub joined_no_moves : (rule : Rule) (a b : Cost) → a.moves ≡ 0 → b.moves ≡ 0 → join_moves rule a b ≡ 0
unfolding join_moves
joined_no_moves sum a b p q = omega arith
joined_no_moves largest a b p q = pick (at_most a b)
  where
    pick : (t : Bool) → cond t b.moves a.moves ≡ 0
    pick true = q
    pick false = p

-- a cost without moves that is not at most another takes more hours
pub more_hours : (a b : Cost) → a.moves ≡ 0 → at_most a b ≡ false → b.high < a.high
more_hours a b none-moved e = by (dec_lt b.high a.high)
  where
    by : Dec (b.high < a.high) → b.high < a.high
    by (yes h) = h
    by (no h) = absurd (not_both (hours_at_most a b (omega arith) none-moved) e)

-- both rules join the greater to the greater
join_monotone : (rule : Rule) (a b c d : ℕ) → a ≤ b → c ≤ d → join rule a c ≤ join rule b d
unfolding join
join_monotone sum a b c d p q = omega arith
join_monotone largest a b c d p q = omega arith

module _ (end : ℕ) (m : Model) where
  pub plan_no_moves : {s : State} {p : List ℕ} {c : Cost} → Plan (costs_of m.rule) (system_of end m) s p c → c.moves ≡ 0
  unfolding costs_of combine
  plan_no_moves (finish e) = refl
  plan_no_moves (step {s = s} {t = t} {c = c} {r = r} x rest) = joined_no_moves m.rule c r (step_priced end m s t x.allowed).no_moves (plan_no_moves rest)

  pub path_no_moves : {s u : State} {p : List ℕ} {g d : Cost} → Leads (costs_of m.rule) (system_of end m) s g p u d → g.moves ≡ 0 → d.moves ≡ 0
  unfolding costs_of combine
  path_no_moves arrived e = e
  path_no_moves (further {s = s} {t = t} {c = c} {g = g} x rest) e = path_no_moves rest (joined_no_moves m.rule g c e (step_priced end m s t x.allowed).no_moves)

  -- h is hours alone
  bound_no_moves : (s : State) {h : Cost} → (system_of end m).bound s ≡ value h → h.moves ≡ 0
  unfolding system_of bound
  bound_no_moves s e =
      let (n, _, same) = bind_value (bound_hours end m s) _ e in
      cc

-- ---- the two figures

module _ (m : Model) where
  abbrev Plans : State → List ℕ → Cost → Type 0
  Plans s p c = Plan (costs_of m.rule) (system_of range_end m) s p c

  pub low_at_most_high : {s : State} {p : List ℕ} {c : Cost} → Plans s p c → c.low ≤ c.high
  unfolding costs_of combine
  low_at_most_high (finish e) = omega arith
  low_at_most_high (step {s = s} {t = t} {c = c} {r = r} x rest) =
      join_monotone m.rule c.low c.high r.low r.high (step_priced range_end m s t x.allowed).low_first (low_at_most_high rest)

  -- host/repgypsum.h: "where no step has a range they are the same"
  pub no_ranges_one_figure : NoRanges m → {s : State} {p : List ℕ} {c : Cost} → Plans s p c → c.low ≡ c.high
  unfolding costs_of combine
  no_ranges_one_figure fixed-costs (finish e) = refl
  no_ranges_one_figure fixed-costs (step {s = s} {t = t} {c = c} {r = r} x rest) = rw (step_one_figure range_end m fixed-costs s t x.allowed, no_ranges_one_figure fixed-costs rest)

  -- "the plan's real cost lies between the two figures"
  pub real_cost_between : {s : State} {p : List ℕ} {c : Cost} {r : ℕ} → Plans s p c → RealHours m s p r → (c.low ≤ r) × (r ≤ c.high)
  unfolding costs_of combine
  real_cost_between (finish e) (over f) = omega arith
  real_cost_between (step {u = u} {ts = ts} {c = c} {r = k} x rest) (taking {u = v} {c = d} {x = a} {r = r} y lo hi real) =
      let same : moved d v ≡ moved c u = cc in
      let state : v ≡ u = cc in
      let cost : d ≡ c = cc in
      let low : c.low ≤ a = rw cost at lo in
      let high : a ≤ c.high = rw cost at hi in
      let behind = real_cost_between rest (subst (λ w. RealHours m w ts r) state real) in
      (join_monotone m.rule c.low a k.low r low behind.0, join_monotone m.rule a c.high r k.high high behind.1)

  -- both ends are reached: every step at its low cost, every step at its high cost
  pub low_is_real : {s : State} {p : List ℕ} {c : Cost} → Plans s p c → RealHours m s p c.low
  unfolding costs_of combine
  low_is_real (finish e) = over e
  low_is_real (step {s = s} {t = t} {c = c} x rest) = taking {x = c.low} x (omega arith) (step_priced range_end m s t x.allowed).low_first (low_is_real rest)

  pub high_is_real : {s : State} {p : List ℕ} {c : Cost} → Plans s p c → RealHours m s p c.high
  unfolding costs_of combine
  high_is_real (finish e) = over e
  high_is_real (step {s = s} {t = t} {c = c} x rest) = taking {x = c.high} x (step_priced range_end m s t x.allowed).low_first (omega arith) (high_is_real rest)

  -- ---- declarations

  -- preferences that are true of the costs are true of the high figures, and the other way round
  pub compared_by_high : {s u : State} {p q : List ℕ} {c r : Cost} → Plans s q c → Plans u p r → (at_most c r ≡ true) ↔ (c.high ≤ r.high)
  compared_by_high {c = c} {r = r} plan other = (at_most_hours c r, λ le. hours_at_most c r le (plan_no_moves range_end m plan))

  -- bounds that are true of the low costs are true of the high ones
  pub declared_true : TrueOfRanges m → TrueDeclarations (costs_of m.rule) (system_of range_end m) (target m)
  unfolding costs_of
  declared_true T =
      record {
        bounds = λ {s = s} {h = h} {r = r} i b p. hours_at_most h r (omega (arith, T.bounds i b p, low_at_most_high p)) (bound_no_moves range_end m s b);
        preferences = λ {r = r} i j d p. let (q, c, plan, le) = T.preferences i j d p in (q, c, plan, hours_at_most c r le (plan_no_moves range_end m plan));
      }
