-- Hours known only within a range: what a plan may really cost, declarations that are true of the ranges, and models without ranges.
-- docs/FORMAT.md, "Hours within a range".
use Rattle.std.specs.Prelude.{ℕ, ◌≤◌, ◌≡◌, true, List, [], ◌∷◌}
use Rattle.std.proofs.Math.Option.{none}
use Rattle.laws.specs.Lists.{All}
use Rattle.model.specs.Numbers.{range_end}
use Rattle.model.specs.Values.{value}
use Rattle.model.specs.System.{System, base}
use Rattle.model.specs.Plans.{Step, InLayer, Plan}
use Rattle.model.specs.Syntax.{Model}
use Rattle.model.specs.declared.Cost.{Cost}
use Rattle.model.specs.Costs.{join, costs_of}
use Rattle.model.specs.Meaning.{State}
use Rattle.model.specs.Steps.{target, system_of}

module _ (m : Model) where
  abbrev system : System State Cost
  system = system_of range_end m

  -- "For every choice of step costs inside the ranges": each step really takes some x hours, between its low and its high cost in the state
  -- where it is taken, and these are joined by the cost rule. The steps lead from s to a base state, in r hours
  pub data RealHours : State → List ℕ → ℕ → Type 0 where
    over : {s : State} → system.status s ≡ base → RealHours s [] 0
    taking : {s u : State} {t : ℕ} {ts : List ℕ} {c : Cost} {x r : ℕ} → Step system s t c u → c.low ≤ x → x ≤ c.high → RealHours u ts r → RealHours s (t ∷ ts) (join m.rule x r)

  -- "bounds are true of the low costs and preferences of the high ones"
  pub record TrueOfRanges : Type 0 where
    pub bounds : {k : ℕ} {s : State} {h c : Cost} {p : List ℕ} → InLayer system (target m) k s → system.bound s ≡ value h → Plan (costs_of m.rule) system s p c → h.high ≤ c.low
    pub preferences : {j k : ℕ} {s u : State} {p : List ℕ} {r : Cost} → InLayer system (target m) j s → InLayer system (target m) k u → system.dominates s u ≡ true
        → Plan (costs_of m.rule) system u p r → (q : List ℕ) × (c : Cost) × Plan (costs_of m.rule) system s q c × (c.high ≤ r.high)

  -- host/repgypsum.h: "where no step has a range". No transition has a 10, a high cost
  abbrev pub NoRanges : Type 0
  NoRanges = All (λ t. t.costs.high ≡ none) m.transitions
