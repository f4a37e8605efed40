-- Rule 5 keeps the invariant: a child is dropped, or it takes its place among those kept and removes those that it beats.
-- Whatever goes has a node that stands for it, or a mark is set.
use Prim.Native.Nat.{ℕ, suc, ◌≤◌}
use mathlib.Core.Path.{◌≡◌, sym}
use mathlib.Core.Logic.{◌⊎◌, inl, inr}
use mathlib.Core.Bool.{Bool, true, false, not}
use mathlib.Core.List.{List, [], ◌∷◌}
use lib.ListN.{length}
use lib.Dec.{ltb}
use borrow.Author.Tests.{ltb-true}
use Rattle.laws.specs.Lists.{any, filter, All}
use Rattle.laws.proofs.Bools.{by_cond, not_both, not_false, not_true, and_both, and_second, or_either, or_neither}
use Rattle.laws.proofs.Lists.{Some, here, there, some_all, some_map, all_map, all_both, any_some, any_none, all_filter, all_passed, some_filter, all_drop_last, Apart, apart_filter, apart_drop_last, values, all_values, different_values, length_values}
use Rattle.model.specs.System.{Costs, CostLaws, System, Origin}
use Rattle.model.specs.Plans.{InLayer, Overfull, TrueDeclarations}
use Rattle.search.specs.Search.{Node, Round, below_best, before, place, beats, cut, insert, offer}
use Rattle.search.proofs.Invariant.{Completion, Accounted, covered, pending, held, Valid, Invariant, invariant_map, not_below_covered, f_below}

module _ {S C : Type 0} (K : Costs C) (M : System S C) where
  all_place : (P : Node S C → Type 0) (n : Node S C) (l : List (Node S C)) → P n → All P l → All P (place K M n l)
  unfolding place
  all_place P n [] h a = (h, tt)
  all_place P n (m ∷ l) h a = by_cond (All P) (before K M n m) (λ e. (h, a)) (λ e. (a.0, all_place P n l h a.1))

  some_placed : {P : Node S C → Type 0} (n : Node S C) (l : List (Node S C)) → P n → Some P (place K M n l)
  unfolding place
  some_placed n [] h = here h
  some_placed {P} n (m ∷ l) h = by_cond (Some P) (before K M n m) (λ e. here h) (λ e. there (some_placed n l h))

  some_other_lem : {P : Node S C → Type 0} (n : Node S C) (l : List (Node S C)) → Some P l → Some P (place K M n l)
  unfolding place
  some_other_lem {P = P} n [] x' = elim x' [ ]
  some_other_lem {P} n (m ∷ l) (here h) = by_cond (Some P) (before K M n m) (λ e. there (here h)) (λ e. here h)
  some_other_lem {P} n (m ∷ l) (there s) = by_cond (Some P) (before K M n m) (λ e. there (there s)) (λ e. there (some_other_lem n l s))

  apart_place : (n : Node S C) (l : List (Node S C)) → All (λ (m : Node S C). n.state ≡ m.state → ⊥) l → Apart (λ m. m.state) l → Apart (λ m. m.state) (place K M n l)
  unfolding place
  apart_place n [] h a = (tt, tt)
  apart_place n (m ∷ l) h a =
      by_cond (Apart (λ x. x.state)) (before K M n m) (λ e. (h, a))
      (λ e. (all_place (λ (x : Node S C). m.state ≡ x.state → ⊥) n l (λ q. h.0 (sym q)) a.0, apart_place n l h.1 a.1))

module _ {S C : Type 0} (K : Costs C) (L : CostLaws K) (M : System S C) (o : Origin S C) where
  -- what a node beats, it stands for
  beats_completion : {k : ℕ} {n m : Node S C} {c : C} → TrueDeclarations K M o.start → Valid K M o k n → Valid K M o k m → beats K M n m ≡ true → Completion K M c m → Completion K M c n
  unfolding beats
  beats_completion {n} {m} T v w e x =
      let b = and_both (M.dominates n.state m.state) (K.at_most n.g m.g) e in
      let (p, d, plan, le) = T.preferences v.in_layer w.in_layer b.0 x.plan in
      record { steps = p; cost = d; plan = plan; within = L.transitive _ _ _ (L.monotone _ _ _ _ b.1 le) x.within }

  module _ (self : (s : S) → M.dominates s s ≡ true) where
    -- of two nodes with one state one beats the other
    states_differ : (n m : Node S C) → beats K M m n ≡ false → not (beats K M n m) ≡ true → n.state ≡ m.state → ⊥
    unfolding beats
    states_differ n m e d q =
        let forth : M.dominates m.state n.state ≡ true = rw q (self m.state) in
        let back : M.dominates n.state m.state ≡ true = rw q (self m.state) in
        not_both (L.total _ _ (and_second _ _ e forth)) (and_second _ _ (not_true _ d) back)

    module _ (limit width k left : ℕ) (room : suc k ≤ limit) where
      abbrev Inv : (C → Type 0) → Round S C → Type 0
      Inv = Invariant K M o limit width k (suc left)

      -- the layer of these nodes has too many states for the width
      too_many_overfull : (l : List (Node S C)) → All (Valid K M o (suc k)) l → Apart (λ n. n.state) l → ltb width (length l) ≡ true → Overfull M o.start width limit
      too_many_overfull l v a e =
          let state : Node S C → S = λ n. n.state in
          (suc k, values state l, room, different_values state l a, all_values state (InLayer M o.start (suc k)) l (all_map l (λ n x. x.in_layer) v), rw (length_values state l) (ltb-true _ _ e))

      -- the list l in place of those kept
      cut_holds : (A A' : C → Type 0) (l : List (Node S C)) (r : Round S C) → All (Valid K M o (suc k)) l → Apart (λ n. n.state) l → Inv A r
          → (TrueDeclarations K M o.start → (c : C) → A c → Accounted K M A' c r.progress.best l)
          → (TrueDeclarations K M o.start → (c : C) → Some (Completion K M c) r.kept → Some (Completion K M c) l)
          → Inv A' (cut K M width l r)
      unfolding cut
      cut_holds A A' l r v a I f g =
          record {
            supported = I.supported;
            valid = by_cond (All (Valid K M o (suc k))) (ltb width (length l)) (λ _. all_drop_last (Valid K M o (suc k)) l v) (λ _. v);
            apart = by_cond (Apart (λ n. n.state)) (ltb width (length l)) (λ _. apart_drop_last (λ n. n.state) l a) (λ _. a);
            overfull = λ e. elim (or_either r.width_mark (ltb width (length l)) e) [ inl x ↦ I.overfull x | inr x ↦ too_many_overfull l v a x ];
            open_at = I.open_at;
            limited = I.limited;
            accounted = λ w m T p c x. let (w₁, w₂) = or_neither r.width_mark (ltb width (length l)) w in rw w₂ (accounted_after T (K.combine o.spent c) (I.accounted w₁ m T p c x));
          }
        where
          accounted_after : TrueDeclarations K M o.start → (c : C) → Accounted K M A c r.progress.best r.kept → Accounted K M A' c r.progress.best l
          accounted_after T c (covered x) = covered x
          accounted_after T c (pending x) = f T c x
          accounted_after T c (held s) = held (g T c s)

      insert_holds : (A : C → Type 0) (n : Node S C) (r : Round S C) → Valid K M o (suc k) n → Inv (λ c. Completion K M c n ⊎ A c) r → Inv A (insert K M width n r)
      unfolding insert
      insert_holds A n r v I = by_cond (Inv A) (any (λ m. beats K M m n) r.kept) dropped placed
        where
          dropped : any (λ m. beats K M m n) r.kept ≡ true → Inv A r
          dropped e =
              invariant_map K M o limit (λ c. Completion K M c n ⊎ A c) A I
              (λ T c. elim [ inl x ↦ held (some_map r.kept I.valid (any_some _ r.kept e) (λ m w b. beats_completion T w v b x)) | inr x ↦ pending x ])

          stays : Node S C → Bool
          stays m = not (beats K M n m)

          others : List (Node S C)
          others = filter stays r.kept

          apart_others : any (λ m. beats K M m n) r.kept ≡ false → All (λ (m : Node S C). n.state ≡ m.state → ⊥) others
          apart_others e =
              all_both (λ m. beats K M m n ≡ false) (λ m. stays m ≡ true) (λ (m : Node S C). n.state ≡ m.state → ⊥) others (λ m. states_differ n m)
              (all_filter (λ m. beats K M m n ≡ false) stays r.kept (any_none (λ m. beats K M m n) r.kept e)) (all_passed stays r.kept)

          kept_stands : TrueDeclarations K M o.start → (c : C) → Some (Completion K M c) r.kept → Some (Completion K M c) (place K M n others)
          kept_stands T c s =
              elim (some_filter stays r.kept s) [
                | inl x ↦ some_other_lem K M n others x
                | inr x ↦ some_placed K M n others (some_all r.kept I.valid x (λ m w h. beats_completion T v w (not_false _ h.1) h.0))
              ]

          placed : any (λ m. beats K M m n) r.kept ≡ false → Inv A (cut K M width (place K M n others) r)
          placed e =
              cut_holds (λ c. Completion K M c n ⊎ A c) A (place K M n others) r
              (all_place K M (Valid K M o (suc k)) n others v (all_filter (Valid K M o (suc k)) stays r.kept I.valid))
              (apart_place K M n others (apart_others e) (apart_filter (λ m. m.state) stays r.kept I.apart))
              I (λ T c. elim [ inl x ↦ held (some_placed K M n others x) | inr x ↦ pending x ]) kept_stands

      -- rule 4: a child whose f is not below the best is dropped
      pub offer_holds : (A : C → Type 0) (n : Node S C) (r : Round S C) → Valid K M o (suc k) n → Inv (λ c. Completion K M c n ⊎ A c) r → Inv A (offer K M width n r)
      unfolding offer
      offer_holds A n r v I =
          by_cond (Inv A) (below_best K M n.f r.progress.best) (λ e. insert_holds A n r v I)
          (λ e. invariant_map K M o limit (λ c. Completion K M c n ⊎ A c) A I (λ T c. elim [ inl x ↦ covered (not_below_covered K L M r.progress.best e (f_below K L M T v x)) | inr x ↦ pending x ]))
