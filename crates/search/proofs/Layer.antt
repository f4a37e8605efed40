-- Rules 2 and 6 keep the invariant: a base state, and a layer's end, where low rises to the least f of those that remain.
-- A best is a plan of the model; verdict 0 and verdict 5 at low are justified.
use Prim.Native.Nat.{ℕ, zero, suc}
use mathlib.Core.Path.{◌≡◌, refl, sym, ◌∙◌, subst}
use mathlib.Core.Logic.{inl, inr}
use mathlib.Core.Bool.{Bool, true, false, cond}
use mathlib.Core.List.{List, [], ◌∷◌, reverse_aux}
use mathlib.Core.Option.{some}
use native.Mathlib.Omega.{arith}
use Rattle.laws.specs.Lists.{filter, is_empty}
use Rattle.laws.proofs.Bools.{by_cond, not_both}
use Rattle.laws.proofs.Lists.{Some, here, there, some_none, some_all, some_map, some_of_lem, all_filter, all_passed, some_filter, apart_filter}
use Rattle.model.specs.System.{Costs, CostLaws, System, Origin, base, no_status}
use Rattle.model.specs.Plans.{Plan, finish, step, TrueDeclarations}
use Rattle.model.proofs.Reach.{Reach, here as Reach-here, onward, reach_leads}
use Rattle.search.specs.Answer.{cheapest, contradicted}
use Rattle.search.specs.Search.{Node, Round, decided, refused, below_best, route_to, improved_by, least_f, raised_low, layer_end, next_layer}
use Rattle.search.specs.Guarantee.{in_base_cases}
use Rattle.search.proofs.Induction.{stop_at, Point, taking}
use Rattle.search.proofs.Invariant.{Completion, Covered, Accounted, covered, pending, held, Pending, Valid, IsPlan, Limited, InvariantAt, Justified, refused_holds, invariant_map, not_below_covered, below_covered, f_below}

module _ {S C : Type 0} (K : Costs C) (L : CostLaws K) (M : System S C) where
  least_first : {a c : C} (ns : List (Node S C)) → K.at_most a c ≡ true → K.at_most (least_f K M a ns) c ≡ true
  unfolding least_f
  least_first [] h = h
  least_first {a} {c} (n ∷ ns) h = least_first {a = cond (K.at_most a n.f) a n.f} ns (by_cond (λ x. K.at_most x c ≡ true) (K.at_most a n.f) (λ e. h) (λ e. L.transitive _ _ _ (L.total _ _ e) h))

  least_some : {c : C} (a : C) (ns : List (Node S C)) → Some (λ n. K.at_most n.f c ≡ true) ns → K.at_most (least_f K M a ns) c ≡ true
  unfolding least_f
  least_some {c = c} a [] x' = elim x' [ ]
  least_some {c} a (n ∷ ns) (here h) = least_first {a = cond (K.at_most a n.f) a n.f} ns (by_cond (λ x. K.at_most x c ≡ true) (K.at_most a n.f) (λ e. L.transitive _ _ _ e h) (λ e. h))
  least_some a (n ∷ ns) (there s) = least_some (cond (K.at_most a n.f) a n.f) ns s

  -- low stays at most c if, where it rises, the f of one of those that remain is at most c
  raised_below : {low c : C} (width_mark : Bool) (l : List (Node S C)) → K.at_most low c ≡ true → (width_mark ≡ false → is_empty l ≡ false → Some (λ n. K.at_most n.f c ≡ true) l) → K.at_most (raised_low K M width_mark l low) c ≡ true
  unfolding raised_low is_empty
  raised_below true l h s = h
  raised_below false [] h s = h
  raised_below {low} {c} false (n ∷ ns) h s = by_cond (λ x. K.at_most x c ≡ true) (K.at_most (least_f K M n.f ns) low) (λ e. h) (λ e. pick (s refl refl))
    where
      pick : Some (λ n. K.at_most n.f c ≡ true) (n ∷ ns) → K.at_most (least_f K M n.f ns) c ≡ true
      pick (here q) = least_first ns q
      pick (there q) = least_some _ ns q

module _ {S C : Type 0} (K : Costs C) (L : CostLaws K) (M : System S C) (o : Origin S C) where
  -- a path to a state and a plan from there are one plan
  plan_along : {p q : List ℕ} {s : S} {g r : C} → Reach K M o p s g → Plan K M s q r → (c : C) × Plan K M o.start (reverse_aux p q) c × (K.combine g r ≡ K.combine o.spent c)
  plan_along {r} Reach-here plan = (r, plan, refl)
  plan_along {r} (onward {g} {c} way s) plan = let (d, whole, e) = plan_along way (step s plan) in (d, whole, L.associative g c r ∙ e)

  -- from a base state there is only the empty plan
  base_completion : {n : Node S C} {c : C} → M.status n.state ≡ base → Completion K M c n → K.at_most n.g c ≡ true
  base_completion {n} {c} e x = split x.plan x.within
    where
      split : {p : List ℕ} {r : C} → Plan K M n.state p r → K.at_most (K.combine n.g r) c ≡ true → K.at_most n.g c ≡ true
      split (finish b) le = rw (L.right_unit n.g) at le
      split (step s plan) le = let u = s.open_state in let z : ◌≡◌ {A = ℕ} 0 1 = cc in absurd (omega arith)

  module _ (limit W width : ℕ) where
    abbrev At : (k left : ℕ) → Point S C → Round S C → Type 0
    At = InvariantAt K M o limit width

    pub no_status_holds : {k left e : ℕ} {n : Node S C} {ns : List (Node S C)} {r : Round S C} → At k left (taking (n ∷ ns)) r → M.status n.state ≡ no_status e → Justified K M o limit W (stop_at (refused e (route_to K M n)) r)
    unfolding route_to
    no_status_holds {n} s e = refused_holds K M o limit W (route_to K M n) s (omega (arith, s.depth, s.ahead.0.path_length)) (in_base_cases (reach_leads K M o s.ahead.0.reached) e)

    pub no_better_holds : {k left : ℕ} {n : Node S C} {ns : List (Node S C)} {r : Round S C} → At k left (taking (n ∷ ns)) r → M.status n.state ≡ base → below_best K M n.g r.progress.best ≡ false → At k left (taking ns) r
    no_better_holds {n} {ns} {r} s e b =
        record {
          depth = s.depth;
          ahead = s.ahead.1;
          invariant =
              invariant_map K M o limit (Pending K M (taking (n ∷ ns))) (Pending K M (taking ns)) s.invariant
              (λ T c. elim [ here x ↦ covered (not_below_covered K L M r.progress.best b (base_completion e x)) | there x ↦ pending x ]);
        }

    base_is_plan : {k left : ℕ} {n : Node S C} {ns : List (Node S C)} {r : Round S C} → At k left (taking (n ∷ ns)) r → M.status n.state ≡ base → IsPlan K M o limit (route_to K M n)
    unfolding route_to
    base_is_plan {n} s e =
        let (c, plan, q) = plan_along s.ahead.0.reached (finish e) in
        record { cost = c; plan = record { admitted = s.ahead.0.admitted; plan = plan }; total = rw (L.right_unit n.g) at q; fits = omega (arith, s.depth, s.ahead.0.path_length) }

    pub better_holds : {k left : ℕ} {n : Node S C} {ns : List (Node S C)} {r : Round S C} → At k left (taking (n ∷ ns)) r → M.status n.state ≡ base → below_best K M n.g r.progress.best ≡ true → At k left (taking ns) (improved_by K M n r)
    unfolding improved_by route_to
    better_holds {n} {ns} {r} s e b =
        let I = s.invariant in
        record {
          depth = s.depth;
          ahead = s.ahead.1;
          invariant =
              record {
                supported = record { best = base_is_plan s e; low = I.supported.low };
                valid = I.valid;
                apart = I.apart;
                overfull = I.overfull;
                open_at = I.open_at;
                limited = I.limited;
                accounted = λ w l T p c x. accounted_after (K.combine o.spent c) (I.accounted w l T p c x);
              };
        }
      where
        accounted_after : (c : C) → Accounted K M (Pending K M (taking (n ∷ ns))) c r.progress.best r.kept → Accounted K M (Pending K M (taking ns)) c (some (route_to K M n)) r.kept
        accounted_after c (covered x) = covered (below_covered K L M r.progress.best b x)
        accounted_after c (pending (here x)) = covered (base_completion e x)
        accounted_after c (pending (there x)) = pending x
        accounted_after c (held x) = held x

    -- rule 2's two ends: equal to low, the best costs no more than any plan; less than low, it is a plan that low must not exceed
    pub at_low_holds : {k left : ℕ} {n : Node S C} {ns : List (Node S C)} {r : Round S C} → At k left (taking (n ∷ ns)) r → M.status n.state ≡ base → below_best K M n.g r.progress.best ≡ true → K.at_most n.g r.progress.low ≡ true
        → Justified K M o limit W (stop_at (decided (cond (K.at_most r.progress.low n.g) cheapest contradicted)) (improved_by K M n r))
    unfolding improved_by route_to
    at_low_holds {n} {r} s e b x =
        by_cond (λ v. Justified K M o limit W (stop_at (decided v) (improved_by K M n r))) (K.at_most r.progress.low n.g)
        (λ y. record { supported = (better_holds s e b).invariant.supported; claim = λ T p c plan. L.transitive _ _ _ x (s.invariant.supported.low T p c plan) })
        (λ y. record { supported = (better_holds s e b).invariant.supported; claim = λ T. let own = base_is_plan s e in not_both (rw own.total (s.invariant.supported.low T _ _ own.plan)) y })

    -- the nodes that remain at a layer's end
    module _ {k left : ℕ} {r : Round S C} (s : At k left (taking []) r) where
      abbrev remains : Node S C → Bool
      remains n = below_best K M n.f r.progress.best

      abbrev remaining : List (Node S C)
      remaining = filter remains r.kept

      gone_covered : {c : C} → TrueDeclarations K M o.start → Some (λ n. Completion K M c n × (remains n ≡ false)) r.kept → Covered K M c r.progress.best
      gone_covered T x = some_all r.kept s.invariant.valid x (λ n v h. not_below_covered K L M r.progress.best h.1 (f_below K L M T v h.0))

      covered_above : {c : C} → is_empty remaining ≡ false → Covered K M c r.progress.best → Some (λ n. K.at_most n.f c ≡ true) remaining
      covered_above {c} e x = some_of_lem (λ n. remains n ≡ true) (λ n. K.at_most n.f c ≡ true) remaining e (all_passed remains r.kept) (λ n h. below_covered K L M r.progress.best h x)

      -- while some remain and no width mark stands, every plan costs at least the f of one of them
      least_above : {c : C} → TrueDeclarations K M o.start → is_empty remaining ≡ false → Accounted K M (Pending K M (taking [])) c r.progress.best r.kept → Some (λ n. K.at_most n.f c ≡ true) remaining
      least_above T e (covered x) = covered_above e x
      least_above T e (pending x) = absurd (some_none x)
      least_above T e (held x) =
          elim (some_filter remains r.kept x) [
            | inl y ↦ some_map remaining (all_filter (Valid K M o (suc k)) remains r.kept s.invariant.valid) y (λ n v h. f_below K L M T v h)
            | inr y ↦ covered_above e (gone_covered T y)
          ]

      limited_still : (left : ℕ) → Limited left r.kept r.length_mark → Limited left remaining r.length_mark
      unfolding filter
      limited_still zero e = rw e refl
      limited_still (suc left) e = e

      no_length_mark : (left : ℕ) → Limited left remaining r.length_mark → is_empty remaining ≡ false → r.length_mark ≡ false
      unfolding is_empty
      no_length_mark zero e q = absurd (not_both (subst (λ l. is_empty l ≡ true) (sym e) refl) q)
      no_length_mark (suc left) e q = e

      pub layer_ends_holds : At k left (taking []) (layer_end K M r)
      unfolding layer_end
      layer_ends_holds =
          let I = s.invariant in
          record {
            depth = s.depth;
            ahead = tt;
            invariant =
                record {
                  supported = record { best = I.supported.best; low = λ T p c x. raised_below K L M r.width_mark remaining (I.supported.low T p c x) (λ w e. least_above T e (I.accounted w (no_length_mark left (limited_still left I.limited) e) T p c x)) };
                  valid = all_filter (Valid K M o (suc k)) remains r.kept I.valid;
                  apart = apart_filter (λ n. n.state) remains r.kept I.apart;
                  overfull = I.overfull;
                  open_at = I.open_at;
                  limited = limited_still left I.limited;
                  accounted = λ w l T p c x. accounted_after T (K.combine o.spent c) (I.accounted w l T p c x);
                };
          }
        where
          accounted_after : TrueDeclarations K M o.start → (c : C) → Accounted K M (Pending K M (taking [])) c r.progress.best r.kept → Accounted K M (Pending K M (taking [])) c r.progress.best remaining
          accounted_after T c (covered x) = covered x
          accounted_after T c (pending x) = pending x
          accounted_after T c (held x) = elim (some_filter remains r.kept x) [ inl y ↦ held y | inr y ↦ covered (gone_covered T y) ]

    pub next_layer_holds : {k left : ℕ} {r : Round S C} → At k (suc left) (taking []) r → At (suc k) left (taking r.kept) (next_layer K M r)
    unfolding next_layer
    next_layer_holds {left} {r} s =
        let I = s.invariant in
        record {
          depth = omega (arith, s.depth);
          ahead = I.valid;
          invariant =
              record {
                supported = I.supported;
                valid = tt;
                apart = tt;
                overfull = I.overfull;
                open_at = I.open_at;
                limited = limited_next left I.limited;
                accounted = λ w l T p c x. accounted_after (K.combine o.spent c) (I.accounted w l T p c x);
              };
        }
      where
        limited_next : (left : ℕ) → r.length_mark ≡ false → Limited {A = Node S C} left [] r.length_mark
        limited_next zero e = refl
        limited_next (suc left) e = e

        accounted_after : (c : C) → Accounted K M (Pending K M (taking [])) c r.progress.best r.kept → Accounted K M (Pending K M (taking r.kept)) c r.progress.best []
        accounted_after c (covered x) = covered x
        accounted_after c (pending x) = absurd (some_none x)
        accounted_after c (held x) = pending x
