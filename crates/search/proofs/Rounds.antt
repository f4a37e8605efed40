-- The induction over a run: what rule 7 and the round before it keep, the run keeps, from the start to the answer.
-- R is a property of what lasts over rounds, Q one of a run that is over.
use Prim.Native.Nat.{ℕ, zero, suc, ◌≤◌}
use mathlib.Core.Path.{◌≡◌, refl, ◌∙◌}
use mathlib.Core.Bool.{Bool, true, false, not, ◌&&◌, true≢false}
use mathlib.Core.List.{List, [], ◌∷◌}
use mathlib.Core.Option.{none}
use native.Mathlib.Omega.{arith}
use Rattle.laws.specs.Lists.{is_empty}
use Rattle.laws.proofs.Bools.{by_cond, not_both, not_true, and_both}
use Rattle.model.specs.Values.{Value, value, trouble}
use Rattle.model.specs.System.{Costs, System, Origin}
use Rattle.search.specs.Answer.{Answer, no_plan, width_stop, length_stop, budget_spent}
use Rattle.search.specs.Search.{Progress, Round, decided, Stop, Result, on, over, round, After, again, ended, exhausted, end_with, judge, after_round, answer, next_width, later_widths, unless_over, rounds, root, untouched, refused_at_start, begin, enter, search_within, search}
use Rattle.search.specs.Guarantee.{widest}
use Rattle.search.proofs.Induction.{Holds, stop_at}

mark_stands : (w l e : Bool) → (not w && not l && e) ≡ false → w ≡ false → e ≡ true → l ≡ true
mark_stands w true e a b c = refl
mark_stands true false e a b c = absurd (true≢false b)
mark_stands false false e a b c = absurd (not_both c a)

-- what stands when round 1 begins with a bound h of the start
abbrev pub at_start : {S C : Type 0} → Costs C → Origin S C → (h : C) → Progress C
at_start K o h = record { best = none; low = K.combine o.spent h; expansions = 0 }

module _ {S C : Type 0} (K : Costs C) (M : System S C) (R : Progress C → Type 0) (Q : Stop C → Type 0) where
  abbrev pub AfterHolds : After K M → Type 0
  AfterHolds (again p) = R p
  AfterHolds (ended s) = Q s

  -- the four ways of rule 7
  pub record Judged (the_widest : Bool) (r : Round S C) : Type 0 where
    pub no_mark : r.width_mark ≡ false → r.length_mark ≡ false → is_empty r.kept ≡ true → Q (stop_at (decided (exhausted K M r.progress.best)) r)
    pub next_round : R r.progress
    pub at_widest : r.width_mark ≡ true → the_widest ≡ true → Q (stop_at (decided width_stop) r)
    pub no_width_mark : r.width_mark ≡ false → r.improved ≡ false → (is_empty r.kept ≡ true → r.length_mark ≡ true) → Q (stop_at (decided length_stop) r)

  judge_holds : (the_widest : Bool) (r : Round S C) → Judged the_widest r → AfterHolds (judge K M the_widest r)
  unfolding judge end_with
  judge_holds the_widest r j =
      by_cond AfterHolds (not r.width_mark && not r.length_mark && is_empty r.kept)
      (λ e. let x = and_both _ _ e in let y = and_both _ _ x.0 in j.no_mark (not_true _ y.0) (not_true _ y.1) x.1)
      (λ e. by_cond AfterHolds r.improved (λ _. j.next_round)
      (λ i. by_cond AfterHolds r.width_mark
      (λ w. by_cond AfterHolds the_widest (λ a. j.at_widest w a) (λ _. j.next_round))
      (λ w. j.no_width_mark w i (mark_stands r.width_mark r.length_mark (is_empty r.kept) e w))))

  pub after_round_holds : (D : Round S C → Type 0) (the_widest : Bool) (x : Result (Round S C) C) → Holds D Q x → ((r : Round S C) → D r → Judged the_widest r) → AfterHolds (after_round K M the_widest x)
  unfolding after_round
  after_round_holds D the_widest (on r) h f = judge_holds the_widest r (f r h)
  after_round_holds D the_widest (over s) h f = h

  module _ (o : Origin S C) (budget limit W : ℕ) where
    pub record RunChanges : Type 0 where
      -- document 02, §1: the start breaks a constraint, or has trouble in one
      pub broken : M.admits o.start ≡ value false → Q (record { ending = decided no_plan; progress = untouched K M })
      pub no_admission : (t : ℕ) → M.admits o.start ≡ trouble t → Q (refused_at_start K M t o)
      -- rule 1
      pub starts : (h : C) → M.bound o.start ≡ value h → R (at_start K o h)
      pub no_start : (t : ℕ) → M.bound o.start ≡ trouble t → Q (refused_at_start K M t o)
      pub round_keeps : (h : C) (width : ℕ) (wider : List ℕ) (p : Progress C) → M.admits o.start ≡ value true → M.bound o.start ≡ value h → widest width wider ≡ W → R p → AfterHolds (after_round K M (is_empty wider) (round K M budget limit width (root K M o h) p))
      pub no_round_left : (p : Progress C) → R p → Q (record { ending = decided budget_spent; progress = p })

    -- X: of an answer
    module _ (changes : RunChanges) (X : Answer C → Type 0) (told : (k width : ℕ) (s : Stop C) → 1 ≤ k → Q s → X (answer K M k width s)) where
      unless_over_holds : (k width : ℕ) (a : After K M) (next : Progress C → Answer C) → 1 ≤ k → AfterHolds a → ((p : Progress C) → R p → X (next p)) → X (unless_over K M k width a next)
      unfolding unless_over
      unless_over_holds k width (ended s) next one h f = told k width s one h
      unless_over_holds k width (again p) next one h f = f p h

      same_widest : (w : ℕ) (ws : List ℕ) → widest (next_width K M w ws) (later_widths K M ws) ≡ widest w ws
      unfolding next_width later_widths
      same_widest w [] = refl
      same_widest w (v ∷ vs) = refl

      rounds_hold : (most width : ℕ) (wider : List ℕ) (k : ℕ) (h : C) (p : Progress C) → M.admits o.start ≡ value true → M.bound o.start ≡ value h → widest width wider ≡ W → 1 ≤ k → R p → X (rounds K M most budget limit width wider k (root K M o h) p)
      unfolding rounds
      rounds_hold zero width wider k h p a b w one i = told k width _ one (changes.no_round_left p i)
      rounds_hold (suc most) width wider k h p a b w one i =
          unless_over_holds k width (after_round K M (is_empty wider) (round K M budget limit width (root K M o h) p)) (λ p'. rounds K M most budget limit (next_width K M width wider) (later_widths K M wider) (suc k) (root K M o h) p') one
          (changes.round_keeps h width wider p a b w i)
          (λ p' i'. rounds_hold most (next_width K M width wider) (later_widths K M wider) (suc k) h p' a b (same_widest width wider ∙ w) (omega arith) i')

      begin_holds : (most width : ℕ) (wider : List ℕ) (b : Value C) → M.admits o.start ≡ value true → M.bound o.start ≡ b → widest width wider ≡ W → X (begin K M most budget limit width wider o b)
      unfolding begin
      begin_holds most width wider (value h) a b w = rounds_hold most width wider 1 h _ a b w (omega arith) (changes.starts h b)
      begin_holds most width wider (trouble t) a b w = told 1 width _ (omega arith) (changes.no_start t b)

      enter_holds : (most width : ℕ) (wider : List ℕ) (a : Value Bool) → M.admits o.start ≡ a → widest width wider ≡ W → X (enter K M most budget limit width wider o a)
      unfolding enter
      enter_holds most width wider (value true) a w = begin_holds most width wider (M.bound o.start) a refl w
      enter_holds most width wider (value false) a w = told 1 width _ (omega arith) (changes.broken a)
      enter_holds most width wider (trouble t) a w = told 1 width _ (omega arith) (changes.no_admission t a)

      pub search_holds : (width : ℕ) (wider : List ℕ) → widest width wider ≡ W → X (search K M budget limit width wider o)
      unfolding search search_within
      search_holds width wider w = enter_holds _ width wider (M.admits o.start) refl w
