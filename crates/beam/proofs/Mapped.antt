-- Lists of words as lists of nodes: the definition's tests, placing, filtering and cutting on nodes are those on their words.
use Prim.Native.Nat.{ℕ, zero, suc, ◌+◌, ◌*◌, ◌<◌}
use mathlib.Core.Path.{◌≡◌, refl, sym, ap, ◌∙◌}
use mathlib.Core.Bool.{Bool, true, false, cond, not, ◌&&◌, ◌||◌}
use mathlib.Core.List.{List, [], ◌∷◌, ◌++◌, map, drop_last}
use native.Mathlib.Omega.{arith}
use lib.Dec.{ltb}
use lib.ListN.{length, get_or, take, drop, length-map}
use Rattle.laws.specs.Lists.{any, filter}
use Rattle.laws.proofs.Bools.{or_neither}
use Rattle.model.specs.Numbers.{most_variables}
use Rattle.model.specs.Meaning.{State}
use Rattle.model.specs.declared.Cost.{Cost}
use Rattle.model.specs.Costs.{at_most}
use Rattle.steps.specs.InBytes.{system_in, state_in}
use Rattle.steps.specs.Follow.{costs_in}
use Rattle.steps.proofs.Promises.{cost_order}
use Rattle.search.specs.Search.{Node, Round, less, before as before·node, place, beats as beats·node, cut, insert}
use Rattle.beam_order.specs.Slots.{h_at, state_at, slot_words, g_of, h_of, f_of, words_in, earlier, placed}
use Rattle.beam_order.specs.Order.{without}
use Rattle.beam_order.proofs.Words.{g_in_slot, g_front}
use Rattle.beam_order.proofs.Tests.{before_by_tests}
use Rattle.beam.specs.Nodes.{node_of, ChildWords, dominates_at, beats}
use Rattle.beam.specs.Layers.{round_with}
use Rattle.beam.proofs.Written.{state_in_lem, child_state_lem}

-- ---- any list

module _ {A B : Type 0} (f : A → B) where
  pub any_map : (p : B → Bool) (l : List A) → any p (map f l) ≡ any (λ x. p (f x)) l
  unfolding any
  any_map p [] = refl
  any_map p (x ∷ l) = ap (λ (t : Bool). p (f x) || t) (any_map p l)

  pub filter_map : (p : B → Bool) (l : List A) → filter p (map f l) ≡ map f (filter (λ x. p (f x)) l)
  unfolding filter
  filter_map p [] = refl
  filter_map p (x ∷ l) = rw (filter_map p l) (by_test (p (f x)))
    where
      by_test : (t : Bool) → cond t (f x ∷ map f (filter (λ y. p (f y)) l)) (map f (filter (λ y. p (f y)) l)) ≡ map f (cond t (x ∷ filter (λ y. p (f y)) l) (filter (λ y. p (f y)) l))
      by_test true = refl
      by_test false = refl

  pub map_append : (a b : List A) → map f (a ++ b) ≡ map f a ++ map f b
  map_append [] b = refl
  map_append (x ∷ a) b = ap (λ (l : List B). f x ∷ l) (map_append a b)

  pub cut_map : (l : List A) → drop_last (map f l) ≡ map f (drop_last l)
  cut_map [] = refl
  cut_map (x ∷ []) = refl
  cut_map (x ∷ y ∷ l) = ap (λ (m : List B). f x ∷ m) (cut_map (y ∷ l))

  pub take_map : (n : ℕ) (l : List A) → take n (map f l) ≡ map f (take n l)
  take_map zero l = refl
  take_map (suc n) [] = refl
  take_map (suc n) (x ∷ l) = ap (λ (m : List B). f x ∷ m) (take_map n l)

module _ {A : Type 0} where
  pub filter_same : (p q : A → Bool) (l : List A) → ((x : A) → p x ≡ q x) → filter p l ≡ filter q l
  unfolding filter
  filter_same p q [] e = refl
  filter_same p q (x ∷ l) e = rw (e x, filter_same p q l e)

  pub any_same : (p q : A → Bool) (l : List A) → ((x : A) → p x ≡ q x) → any p l ≡ any q l
  unfolding any
  any_same p q [] e = refl
  any_same p q (x ∷ l) e = rw (e x, any_same p q l e)

  -- none fails: all stay
  pub filter_all : (p : A → Bool) (l : List A) → any p l ≡ false → filter (λ m. not (p m)) l ≡ l
  unfolding filter any
  filter_all p [] e = refl
  filter_all p (x ∷ l) e =
      let r = or_neither (p x) (any p l) e in
      rw r.0 (ap (λ (m : List A). x ∷ m) (filter_all p l r.1))

-- one that fails is missing
pub filter_without : {A : Type 0} (q : A → Bool) (at : ℕ → A) (p : ℕ) (k : List ℕ) → p < length k → q (at (get_or k p 0)) ≡ false → filter q (without p (map at k)) ≡ filter q (map at k)
unfolding filter without
filter_without q at p [] h e = absurd (omega arith)
filter_without q at zero (x ∷ k) h e = rw e
filter_without {A} q at (suc p) (x ∷ k) h e = by_test (q (at x)) (filter_without q at p k (omega arith) e)
  where
    by_test : (t : Bool) → filter q (without p (map at k)) ≡ filter q (map at k) → cond t (at x ∷ filter q (without p (map at k))) (filter q (without p (map at k))) ≡ cond t (at x ∷ filter q (map at k)) (filter q (map at k))
    by_test true r = ap (λ (l : List A). at x ∷ l) r
    by_test false r = r

-- ---- tests

-- a round that keeps its nodes, unmarked
pub round_same : (r : Round State Cost) (l : List (Node State Cost)) → r.kept ≡ l → r ≡ round_with l false r
unfolding round_with
round_same r l e = rw (← e) (ap (λ (t : Bool). record { kept = r.kept; width_mark = t; length_mark = r.length_mark; improved = r.improved; progress = r.progress }) (unmarked r.width_mark))
  where
    unmarked : (t : Bool) → t ≡ (t || false)
    unmarked true = refl
    unmarked false = refl

module _ (bytes : List ℕ) (parent_path : ℕ → List ℕ) where
  abbrev node : List ℕ → Node State Cost
  node = node_of bytes parent_path

  pub same_before : (a b : List ℕ) → before·node (costs_in bytes) (system_in bytes) (node a) (node b) ≡ earlier a b
  unfolding before·node less node_of earlier
  same_before a b =
      rw (cost_order bytes (f_of b) (f_of a), cost_order bytes (f_of a) (f_of b), cost_order bytes (h_of b) (h_of a))
      (before_by_tests (f_of a) (f_of b) (get_or a h_at 0) (get_or b h_at 0))

  pub same_place : (c : List ℕ) (l : List (List ℕ)) → place (costs_in bytes) (system_in bytes) (node c) (map node l) ≡ map node (placed c l)
  unfolding place placed
  same_place c [] = refl
  same_place c (m ∷ l) = rw (same_before c m, same_place c l) (by_test (earlier c m))
    where
      by_test : (t : Bool) → cond t (node c ∷ node m ∷ map node l) (node m ∷ map node (placed c l)) ≡ map node (cond t (c ∷ m ∷ l) (m ∷ placed c l))
      by_test true = refl
      by_test false = refl

  pub same_beats : (a b : List ℕ) → beats·node (costs_in bytes) (system_in bytes) (node a) (node b) ≡ beats bytes a b
  unfolding beats·node node_of beats
  same_beats a b = rw (cost_order bytes (g_of a) (g_of b))

  -- ---- rule 5 on words

  abbrev left : (c : List ℕ) (l : List (List ℕ)) → List (List ℕ)
  left c l = placed c (filter (λ m. not (beats bytes c m)) l)

  module _ (w : ℕ) (c : List ℕ) (l : List (List ℕ)) (r : Round State Cost) (is : r.kept ≡ map node l) where
    tested : any (λ k. beats·node (costs_in bytes) (system_in bytes) k (node c)) r.kept ≡ any (λ m. beats bytes m c) l
    tested = ap (any (λ k. beats·node (costs_in bytes) (system_in bytes) k (node c))) is ∙ any_map node (λ k. beats·node (costs_in bytes) (system_in bytes) k (node c)) l ∙ any_same _ _ l (λ m. same_beats m c)

    placed_left : place (costs_in bytes) (system_in bytes) (node c) (filter (λ k. not (beats·node (costs_in bytes) (system_in bytes) (node c) k)) r.kept) ≡ map node (left c l)
    placed_left =
        ap (λ (k : List (Node State Cost)). place (costs_in bytes) (system_in bytes) (node c) (filter (λ x. not (beats·node (costs_in bytes) (system_in bytes) (node c) x)) k)) is
        ∙ ap (place (costs_in bytes) (system_in bytes) (node c)) (filter_map node (λ x. not (beats·node (costs_in bytes) (system_in bytes) (node c) x)) l ∙ ap (map node) (filter_same _ _ l (λ m. ap not (same_beats c m))))
        ∙ same_place c (filter (λ m. not (beats bytes c m)) l)

    -- a kept node beats·node the child
    pub insert_dropped : any (λ m. beats bytes m c) l ≡ true → insert (costs_in bytes) (system_in bytes) w (node c) r ≡ round_with (map node l) false r
    unfolding insert
    insert_dropped e = rw (tested, e) (round_same r (map node l) is)

    -- none does: the child is placed among those that it does not beat, and the last is cut or none
    pub insert_placed : (marked : Bool) (after : List (List ℕ)) → any (λ m. beats bytes m c) l ≡ false → ltb w (length (left c l)) ≡ marked → after ≡ cond marked (drop_last (left c l)) (left c l)
        → insert (costs_in bytes) (system_in bytes) w (node c) r ≡ round_with (map node after) marked r
    unfolding insert cut round_with
    insert_placed marked after e m k =
        let long : ltb w (length (map node (left c l))) ≡ marked = rw (length-map (left c l) node) m in
        rw (tested, e, placed_left, long, k) (by_mark marked)
      where
        by_mark : (t : Bool) → ◌≡◌ {A = Round State Cost} (record { kept = cond t (drop_last (map node (left c l))) (map node (left c l)); width_mark = r.width_mark || t; length_mark = r.length_mark; improved = r.improved; progress = r.progress })
            (record { kept = map node (cond t (drop_last (left c l)) (left c l)); width_mark = r.width_mark || t; length_mark = r.length_mark; improved = r.improved; progress = r.progress })
        by_mark true = rw (cut_map node (left c l))
        by_mark false = refl

-- ---- the code's test

pub dominates_by : (bytes : List ℕ) (g : Cost) (a : List ℕ) (other : Cost) (b : List ℕ) (r : Bool) → at_most g other ≡ true → r ≡ (system_in bytes).dominates (state_in bytes a) (state_in bytes b) → r ≡ dominates_at bytes g a other b
dominates_by bytes g a other b r h e = e ∙ rw h (sym (both _))
  where
    both : (t : Bool) → (t && true) ≡ t
    both true = refl
    both false = refl

pub dominates_not : (bytes : List ℕ) (g : Cost) (a : List ℕ) (other : Cost) (b : List ℕ) → at_most g other ≡ false → false ≡ dominates_at bytes g a other b
dominates_not bytes g a other b h = rw h (sym (neither ((system_in bytes).dominates (state_in bytes a) (state_in bytes b))))
  where
    neither : (t : Bool) → (t && false) ≡ false
    neither true = refl
    neither false = refl

-- the child, in two parts, and the node in a slot
module _ (bytes slots : List ℕ) (s : ℕ) (header state : List ℕ) (both : ChildWords header state) where
  abbrev at : ℕ
  at = s * slot_words

  abbrev slot_state : List ℕ
  slot_state = take most_variables (drop (at + state_at) slots)

  pub child_beats : dominates_at bytes (g_of header) state (g_of (drop at slots)) slot_state ≡ beats bytes (header ++ state) (words_in slots s)
  unfolding beats
  child_beats = rw (g_front header state both.header_long, child_state_lem header state both, g_in_slot slots s, state_in_lem slots s)

  pub beats_child : dominates_at bytes (g_of (drop at slots)) slot_state (g_of header) state ≡ beats bytes (words_in slots s) (header ++ state)
  unfolding beats
  beats_child = rw (g_front header state both.header_long, child_state_lem header state both, g_in_slot slots s, state_in_lem slots s)
