-- The invariant of a round: its nodes, its marks and what lasts over rounds agree with the model,
-- and while no mark stands every plan is accounted for. Of a run that is over: its ending is justified.
use Prim.Native.Nat.{ℕ, zero, suc, ◌+◌, ◌≤◌, ◌<◌}
use mathlib.Core.Path.{◌≡◌}
use mathlib.Core.Logic.{◌⊎◌}
use mathlib.Core.Bool.{Bool, true, false, true≢false}
use mathlib.Core.List.{List, [], reverse}
use mathlib.Core.Option.{Option, none, some}
use lib.ListN.{length}
use Rattle.laws.specs.Lists.{All}
use Rattle.laws.proofs.Bools.{not_false, not_true}
use Rattle.laws.proofs.Lists.{Some, Apart}
use Rattle.model.specs.Values.{value}
use Rattle.model.specs.System.{Costs, CostLaws, System, Origin, unfinished, moved}
use Rattle.model.specs.Plans.{InLayer, Overfull, OpenAt, Plan, PlanFrom, TrueDeclarations}
use Rattle.model.proofs.Reach.{Reach}
use Rattle.search.specs.Answer.{cheapest, no_plan, width_stop, length_stop, budget_spent, contradicted}
use Rattle.search.specs.Search.{Node, Route, Progress, Round, Ending, decided, refused, Stop, less, below_best}
use Rattle.search.specs.Guarantee.{OfEveryPlan, TroubleAt}
use Rattle.search.proofs.Induction.{stop_at, Point, taking, expanding}

module _ {S C : Type 0} (K : Costs C) (M : System S C) where
  -- a plan from n's state that costs, with the path to n, at most c
  pub record Completion (c : C) (n : Node S C) : Type 0 where
    pub steps : List ℕ
    pub cost : C
    pub plan : Plan K M n.state steps cost
    pub within : K.at_most (K.combine n.g cost) c ≡ true

  -- a completion of n whose first transition has number t or a later one
  pub record Untried (t : ℕ) (n : Node S C) (c : C) : Type 0 where
    pub number : ℕ
    pub target : S
    pub cost : C
    pub steps : List ℕ
    pub rest : C
    pub from : t ≤ number
    pub declared : number < M.transitions
    pub allowed : M.move n.state number ≡ moved cost target
    pub plan : Plan K M target steps rest
    pub within : K.at_most (K.combine (K.combine n.g cost) rest) c ≡ true

  -- the best costs at most c
  abbrev pub Covered : C → Option (Route C) → Type 0
  Covered c none = ⊥
  Covered c (some b) = K.at_most b.cost c ≡ true

  -- where a plan of cost c stands: A says what is still to come
  pub data Accounted (A : C → Type 0) (c : C) (best : Option (Route C)) (kept : List (Node S C)) : Type 0 where
    covered : Covered c best → Accounted A c best kept
    pending : A c → Accounted A c best kept
    held : Some (Completion c) kept → Accounted A c best kept

  -- what is still to come at a point of a layer
  abbrev pub Pending : Point S C → C → Type 0
  Pending (taking ns) c = Some (Completion c) ns
  Pending (expanding n t ns) c = Untried t n c ⊎ Some (Completion c) ns

  pub accounted_map : {A A' : C → Type 0} {c : C} {best : Option (Route C)} {kept : List (Node S C)} → (A c → Accounted A' c best kept) → Accounted A c best kept → Accounted A' c best kept
  accounted_map f (covered x) = covered x
  accounted_map f (pending a) = f a
  accounted_map f (held s) = held s

-- at the limit nothing is kept, before it no length mark stands
abbrev pub Limited : {A : Type 0} → (left : ℕ) (kept : List A) (length_mark : Bool) → Type 0
Limited zero kept length_mark = kept ≡ []
Limited (suc left) kept length_mark = length_mark ≡ false

module _ {S C : Type 0} (K : Costs C) (M : System S C) (o : Origin S C) where
  -- a node of layer k; the start meets the constraints
  pub record Valid (k : ℕ) (n : Node S C) : Type 0 where
    pub admitted : M.admits o.start ≡ value true
    pub in_layer : InLayer M o.start k n.state
    pub reached : Reach K M o n.path n.state n.g
    pub path_length : length n.path ≡ k
    pub bounded : M.bound n.state ≡ value n.h
    pub summed : n.f ≡ K.combine n.g n.h

  -- the nodes still to be taken at a point of layer k are valid; one that is being expanded is unfinished
  abbrev pub AheadValid : ℕ → Point S C → Type 0
  AheadValid k (taking ns) = All (Valid k) ns
  AheadValid k (expanding n t ns) = Valid k n × (M.status n.state ≡ unfinished) × All (Valid k) ns

  module _ (limit : ℕ) where
    -- a route that is a plan within the limit, at its cost
    pub record IsPlan (b : Route C) : Type 0 where
      pub cost : C
      pub plan : PlanFrom K M o.start (reverse b.path) cost
      pub total : b.cost ≡ K.combine o.spent cost
      pub fits : length b.path ≤ limit

    abbrev pub BestIsPlan : Option (Route C) → Type 0
    BestIsPlan none = Unit {0}
    BestIsPlan (some b) = IsPlan b

    -- the best is a plan, and where the declarations are true low is at most the cost of every plan
    pub record Supported (p : Progress C) : Type 0 where
      pub best : BestIsPlan p.best
      pub low : OfEveryPlan K M o (λ c. K.at_most p.low c ≡ true)

    -- of a round in layer k, `left` layers before the limit; A says what is still to come
    pub record Invariant (width k left : ℕ) (A : C → Type 0) (r : Round S C) : Type 0 where
      pub supported : Supported r.progress
      pub valid : All (Valid (suc k)) r.kept
      pub apart : Apart (λ n. n.state) r.kept
      pub overfull : r.width_mark ≡ true → Overfull M o.start width limit
      pub open_at : r.length_mark ≡ true → OpenAt M o.start limit
      pub limited : Limited left r.kept r.length_mark
      pub accounted : r.width_mark ≡ false → r.length_mark ≡ false → OfEveryPlan K M o (λ c. Accounted K M A c r.progress.best r.kept)

    -- the invariant at a point
    pub record InvariantAt (width k left : ℕ) (point : Point S C) (r : Round S C) : Type 0 where
      pub depth : k + left ≡ limit
      pub ahead : AheadValid k point
      pub invariant : Invariant width k left (Pending K M point) r

    -- what is still to come may change, if each plan among it stays accounted for
    pub invariant_map : {width k left : ℕ} {r : Round S C} (A A' : C → Type 0) → Invariant width k left A r → (TrueDeclarations K M o.start → (c : C) → A c → Accounted K M A' c r.progress.best r.kept) → Invariant width k left A' r
    invariant_map A A' I f =
        record {
          supported = I.supported;
          valid = I.valid;
          apart = I.apart;
          overfull = I.overfull;
          open_at = I.open_at;
          limited = I.limited;
          accounted = λ w l T p c x. accounted_map K M (f T (K.combine o.spent c)) (I.accounted w l T p c x);
        }

    -- a route within the limit to a state that has trouble t
    pub record IsRefusal (t : ℕ) (route : Route C) : Type 0 where
      pub fits : length route.path ≤ limit
      pub trouble_there : TroubleAt K M o t (reverse route.path) route.cost

    abbrev pub IsCheapest : Option (Route C) → Type 0
    IsCheapest none = ⊥
    IsCheapest (some b) = OfEveryPlan K M o (λ c. K.at_most b.cost c ≡ true)

    -- W: the widest beam
    module _ (W : ℕ) where
      -- what an ending says
      abbrev pub Claim : Ending C → (best : Option (Route C)) → Type 0
      Claim (decided cheapest) best = IsCheapest best
      Claim (decided no_plan) best = OfEveryPlan K M o (λ c. ⊥)
      Claim (decided width_stop) best = Overfull M o.start W limit
      Claim (decided length_stop) best = OpenAt M o.start limit
      Claim (decided budget_spent) best = Unit {0}
      Claim (decided contradicted) best = TrueDeclarations K M o.start → ⊥
      Claim (refused t route) best = IsRefusal t route

      pub record Justified (s : Stop C) : Type 0 where
        pub supported : Supported s.progress
        pub claim : Claim s.ending s.progress.best

      pub refused_holds : {width k left e : ℕ} {point : Point S C} {r : Round S C} (route : Route C) → InvariantAt width k left point r → length route.path ≤ limit → TroubleAt K M o e (reverse route.path) route.cost → Justified (stop_at (refused e route) r)
      refused_holds route s fits x = record { supported = s.invariant.supported; claim = record { fits = fits; trouble_there = x } }

module _ {S C : Type 0} (K : Costs C) (L : CostLaws K) (M : System S C) where
  pub not_below_covered : {x c : C} (best : Option (Route C)) → below_best K M x best ≡ false → K.at_most x c ≡ true → Covered K M c best
  unfolding below_best less
  not_below_covered none e h = absurd (true≢false e)
  not_below_covered (some b) e h = L.transitive _ _ _ (not_false _ e) h

  pub below_covered : {x c : C} (best : Option (Route C)) → below_best K M x best ≡ true → Covered K M c best → K.at_most x c ≡ true
  unfolding below_best less
  below_covered none e h = absurd h
  below_covered (some b) e h = L.transitive _ _ _ (L.total _ _ (not_true _ e)) h

  -- where the declarations are true, f is at most the cost of every completion
  pub f_below : {o : Origin S C} {k : ℕ} {n : Node S C} {c : C} → TrueDeclarations K M o.start → Valid K M o k n → Completion K M c n → K.at_most n.f c ≡ true
  f_below {n} T v x = L.transitive _ _ _ (rw v.summed (L.monotone _ _ _ _ (L.reflexive n.g) (T.bounds v.in_layer v.bounded x.plan))) x.within
