-- Rules 3 and 4 keep the invariant: a state at the limit, the start of an expansion, a transition tried, the end of an expansion.
-- A plan through the expanded state is among the transitions still untried, or it goes on from a child.
use Prim.Native.Nat.{ℕ, suc, ◌<◌, zero-le}
use mathlib.Core.Path.{◌≡◌, refl, sym, subst}
use mathlib.Core.Logic.{◌⊎◌, inl, inr}
use mathlib.Core.Bool.{true}
use mathlib.Core.List.{List, ◌∷◌, reverse-cons}
use native.Mathlib.Omega.{arith}
use native.Mathlib.Nat.{eq-or-lt_of_le}
use Rattle.laws.proofs.Bools.{or_neither}
use Rattle.laws.proofs.Lists.{here, there}
use Rattle.model.specs.Values.{value, trouble}
use Rattle.model.specs.System.{Costs, CostLaws, System, Origin, unfinished, blocked, moved, trouble_before, trouble_after}
use Rattle.model.specs.Plans.{Step, InLayer, next, Plan, finish, step, TrueDeclarations}
use Rattle.model.proofs.Reach.{onward, reach_leads}
use Rattle.search.specs.Answer.{budget_spent}
use Rattle.search.specs.Search.{Node, Round, decided, refused, below_best, offer, route_to, route_over, child, counted, at_limit}
use Rattle.search.specs.Guarantee.{TroubleAt, in_transition, in_constraints, in_bound}
use Rattle.search.proofs.Induction.{stop_at, Point, taking, expanding}
use Rattle.search.proofs.Invariant.{Completion, Untried, Accounted, covered, pending, Pending, Valid, InvariantAt, Justified, refused_holds, accounted_map, invariant_map, not_below_covered, f_below}
use Rattle.search.proofs.Insertion.{offer_holds}

module _ {S C : Type 0} (K : Costs C) (M : System S C) where
  untried_later : {t : ℕ} {n : Node S C} {c : C} (x : Untried K M t n c) → t < x.number → Untried K M (suc t) n c
  untried_later x lt = record { number = x.number; target = x.target; cost = x.cost; steps = x.steps; rest = x.rest; from = lt; declared = x.declared; allowed = x.allowed; plan = x.plan; within = x.within }

  untried_blocked : {t : ℕ} {n : Node S C} {c : C} → M.move n.state t ≡ blocked → Untried K M t n c → Untried K M (suc t) n c
  untried_blocked {t} {n} {c} e x = pick (eq-or-lt_of_le x.from)
    where
      pick : (t ≡ x.number) ⊎ (t < x.number) → Untried K M (suc t) n c
      pick (inl q) = let m : M.move n.state t ≡ moved x.cost x.target = rw q x.allowed in let z : ◌≡◌ {A = ℕ} 0 1 = cc in absurd (omega arith)
      pick (inr lt) = untried_later x lt

  untried_moved : {t : ℕ} {n : Node S C} {c d : C} {u : S} (h : C) → M.move n.state t ≡ moved d u → Untried K M t n c → Completion K M c (child K M n t d u h) ⊎ Untried K M (suc t) n c
  unfolding child
  untried_moved {t} {n} {c} {d} {u} h e x = pick (eq-or-lt_of_le x.from)
    where
      pick : (t ≡ x.number) ⊎ (t < x.number) → Completion K M c (child K M n t d u h) ⊎ Untried K M (suc t) n c
      pick (inl q) =
          let m : M.move n.state t ≡ moved x.cost x.target = rw q x.allowed in
          let same_cost : x.cost ≡ d = cc in
          let same_target : x.target ≡ u = cc in
          inl
          (record {
            steps = x.steps;
            cost = x.rest;
            plan = subst (λ s. Plan K M s x.steps x.rest) same_target x.plan;
            within = subst (λ a. K.at_most (K.combine (K.combine n.g a) x.rest) c ≡ true) same_cost x.within;
          })
      pick (inr lt) = inr (untried_later x lt)

module _ {S C : Type 0} (K : Costs C) (L : CostLaws K) (M : System S C) (o : Origin S C) where
  -- every plan from an unfinished state has a first step
  untried_first : {n : Node S C} {c : C} → M.status n.state ≡ unfinished → Completion K M c n → Untried K M 0 n c
  untried_first {n} {c} e x = split x.plan x.within
    where
      split : {p : List ℕ} {r : C} → Plan K M n.state p r → K.at_most (K.combine n.g r) c ≡ true → Untried K M 0 n c
      split (finish b) le = let z : ◌≡◌ {A = ℕ} 0 1 = cc in absurd (omega arith)
      split (step {u} {t} {ts} {c = d} {r} s plan) le =
          record { number = t; target = u; cost = d; steps = ts; rest = r; from = zero-le; declared = s.declared; allowed = s.allowed; plan = plan; within = rw (L.associative n.g d r) le }

  module _ (limit W width : ℕ) where
    abbrev At : (k left : ℕ) → Point S C → Round S C → Type 0
    At = InvariantAt K M o limit width

    pub at_limit_holds : {k : ℕ} {n : Node S C} {ns : List (Node S C)} {r : Round S C} → At k 0 (taking (n ∷ ns)) r → M.status n.state ≡ unfinished → At k 0 (taking ns) (at_limit K M n r)
    unfolding at_limit
    at_limit_holds {k} {n} {ns} {r} s e =
        let I = s.invariant in
        let deepest : k ≡ limit = omega (arith, s.depth) in
        record {
          depth = s.depth;
          ahead = s.ahead.1;
          invariant =
              record {
                supported = I.supported;
                valid = I.valid;
                apart = I.apart;
                overfull = I.overfull;
                open_at = λ _. (n.state, subst (λ j. InLayer M o.start j n.state) deepest s.ahead.0.in_layer, e);
                limited = I.limited;
                accounted =
                    λ w l T p c x.
                    let (l₁, l₂) = or_neither r.length_mark (below_best K M n.f r.progress.best) l in
                    accounted_map K M (elim [ here y ↦ covered (not_below_covered K L M r.progress.best l₂ (f_below K L M T s.ahead.0 y)) | there y ↦ pending y ]) (I.accounted w l₁ T p c x);
              };
        }

    pub budget_spent_holds : {k left : ℕ} {n : Node S C} {ns : List (Node S C)} {r : Round S C} → At k left (taking (n ∷ ns)) r → Justified K M o limit W (stop_at (decided budget_spent) r)
    budget_spent_holds s = record { supported = s.invariant.supported; claim = tt }

    pub expansion_begins_holds : {k left : ℕ} {n : Node S C} {ns : List (Node S C)} {r : Round S C} → At k (suc left) (taking (n ∷ ns)) r → M.status n.state ≡ unfinished → At k (suc left) (expanding n 0 ns) (counted K M r)
    unfolding counted
    expansion_begins_holds s e =
        let I = s.invariant in
        record {
          depth = s.depth;
          ahead = (s.ahead.0, e, s.ahead.1);
          invariant =
              record {
                supported = record { best = I.supported.best; low = I.supported.low };
                valid = I.valid;
                apart = I.apart;
                overfull = I.overfull;
                open_at = I.open_at;
                limited = I.limited;
                accounted = λ w l T p c x. accounted_map K M (elim [ here y ↦ pending (inl (untried_first e y)) | there y ↦ pending (inr y) ]) (I.accounted w l T p c x);
              };
        }

    pub blocked_holds : {k left t : ℕ} {n : Node S C} {ns : List (Node S C)} {r : Round S C} → At k left (expanding n t ns) r → M.move n.state t ≡ blocked → At k left (expanding n (suc t) ns) r
    blocked_holds {t} {n} {ns} s e =
        record {
          depth = s.depth;
          ahead = s.ahead;
          invariant = invariant_map K M o limit (Pending K M (expanding n t ns)) (Pending K M (expanding n (suc t) ns)) s.invariant (λ T c. elim [ inl x ↦ pending (inl (untried_blocked K M e x)) | inr x ↦ pending (inr x) ]);
        }

    pub moved_holds : {k left t : ℕ} {n : Node S C} {ns : List (Node S C)} {r : Round S C} {c h : C} {u : S} → ((s : S) → M.dominates s s ≡ true) → At k (suc left) (expanding n t ns) r → t < M.transitions → M.move n.state t ≡ moved c u → M.bound u ≡ value h
        → At k (suc left) (expanding n (suc t) ns) (offer K M width (child K M n t c u h) r)
    moved_holds {k} {left} {t} {n} {ns} {r} {c} {h} {u} self s lt e b =
        record {
          depth = s.depth;
          ahead = s.ahead;
          invariant =
              offer_holds K L M o self limit width k left (omega (arith, s.depth)) (Pending K M (expanding n (suc t) ns)) (child K M n t c u h) r valid_child
              (invariant_map K M o limit (Pending K M (expanding n t ns)) (λ x. Completion K M x (child K M n t c u h) ⊎ Pending K M (expanding n (suc t) ns) x) s.invariant tried);
        }
      where
        taken : Step M n.state t c u
        taken = record { open_state = s.ahead.1; declared = lt; allowed = e }

        valid_child : Valid K M o (suc k) (child K M n t c u h)
        valid_child = let v = s.ahead.0 in unfold child in record { admitted = v.admitted; in_layer = next v.in_layer taken; reached = onward v.reached taken; path_length = omega (arith, v.path_length); bounded = b; summed = refl }

        tried : TrueDeclarations K M o.start → (x : C) → Pending K M (expanding n t ns) x → Accounted K M (λ x. Completion K M x (child K M n t c u h) ⊎ Pending K M (expanding n (suc t) ns) x) x r.progress.best r.kept
        tried T x (inl y) = elim (untried_moved K M h e y) [ inl z ↦ pending (inl z) | inr z ↦ pending (inr (inl z)) ]
        tried T x (inr y) = pending (inr (inr y))

    -- trouble before there is a child: the path is the one to n; in a child's constraints or h: it is one step longer
    pub trouble_before_holds : {k left t e : ℕ} {n : Node S C} {ns : List (Node S C)} {r : Round S C} → At k (suc left) (expanding n t ns) r → t < M.transitions → M.move n.state t ≡ trouble_before e
        → Justified K M o limit W (stop_at (refused e (route_to K M n)) r)
    unfolding route_to
    trouble_before_holds {n} s lt e =
        refused_holds K M o limit W (route_to K M n) s (omega (arith, s.depth, s.ahead.0.path_length)) (in_transition (reach_leads K M o s.ahead.0.reached) s.ahead.1 lt e)

    pub trouble_after_holds : {k left t e : ℕ} {n : Node S C} {ns : List (Node S C)} {r : Round S C} {c : C} → At k (suc left) (expanding n t ns) r → t < M.transitions → M.move n.state t ≡ trouble_after c e
        → Justified K M o limit W (stop_at (refused e (route_over K M n t c)) r)
    unfolding route_over
    trouble_after_holds {t} {e = number} {n} {c} s lt e =
        refused_holds K M o limit W (route_over K M n t c) s (omega (arith, s.depth, s.ahead.0.path_length))
        (subst (λ p. TroubleAt K M o number p (K.combine n.g c)) (sym (reverse-cons t n.path)) (in_constraints (reach_leads K M o s.ahead.0.reached) s.ahead.1 lt e))

    pub no_bound_holds : {k left t e : ℕ} {n : Node S C} {ns : List (Node S C)} {r : Round S C} {c : C} {u : S} → At k (suc left) (expanding n t ns) r → t < M.transitions → M.move n.state t ≡ moved c u → M.bound u ≡ trouble e
        → Justified K M o limit W (stop_at (refused e (route_over K M n t c)) r)
    unfolding route_over
    no_bound_holds {t} {n} {c} s lt e b =
        refused_holds K M o limit W (route_over K M n t c) s (omega (arith, s.depth, s.ahead.0.path_length))
        (in_bound (reach_leads K M o (onward s.ahead.0.reached (record { open_state = s.ahead.1; declared = lt; allowed = e }))) b)

    pub expansion_ends_holds : {k left : ℕ} {n : Node S C} {ns : List (Node S C)} {r : Round S C} → At k left (expanding n M.transitions ns) r → At k left (taking ns) r
    expansion_ends_holds {n} {ns} s =
        record {
          depth = s.depth;
          ahead = s.ahead.2;
          invariant = invariant_map K M o limit (Pending K M (expanding n M.transitions ns)) (Pending K M (taking ns)) s.invariant (λ T c. elim [ inl x ↦ absurd (omega (arith, x.from, x.declared)) | inr x ↦ pending x ]);
        }
