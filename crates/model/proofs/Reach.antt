-- Paths from an origin: the transitions taken, the last one first, the state reached and the path's cost.
-- In their order they are steps that lead there.
use Prim.Native.Nat.{ℕ}
use mathlib.Core.List.{List, [], ◌∷◌, reverse_aux, reverse}
use Rattle.model.specs.System.{Costs, System, Origin}
use Rattle.model.specs.Plans.{Step, Leads, arrived, further}

module _ {S C : Type 0} (K : Costs C) (M : System S C) (o : Origin S C) where
  pub data Reach : List ℕ → S → C → Type 0 where
    here : Reach [] o.start o.spent
    onward : {p : List ℕ} {s u : S} {t : ℕ} {g c : C} → Reach p s g → Step M s t c u → Reach (t ∷ p) u (K.combine g c)

  leads_along : {p q : List ℕ} {s u : S} {g d : C} → Reach p s g → Leads K M s g q u d → Leads K M o.start o.spent (reverse_aux p q) u d
  leads_along here l = l
  leads_along (onward r x) l = leads_along r (further x l)

  pub reach_leads : {p : List ℕ} {s : S} {g : C} → Reach p s g → Leads K M o.start o.spent (reverse p) s g
  reach_leads r = leads_along r arrived
