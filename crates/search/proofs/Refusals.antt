-- The path at a refusal by the state: the answer's steps lead from the start to a state, or over a last step to a child, that has the
-- trouble, at the answer's cost. Of any system, then of a run from bytes.
use Prim.Native.Nat.{ℕ}
use mathlib.Core.Path.{◌≡◌, refl}
use mathlib.Core.Bool.{true}
use mathlib.Core.List.{List}
use native.Mathlib.Omega.{arith}
use Rattle.model.specs.declared.Cost.{Cost}
use Rattle.model.specs.Numbers.{range_end}
use Rattle.model.specs.System.{Costs, CostLaws, System, Origin}
use Rattle.model.specs.Readers.{read}
use Rattle.model.specs.Syntax.{Model}
use Rattle.model.specs.Commands.{model}
use Rattle.model.specs.Costs.{costs_of}
use Rattle.model.specs.Steps.{system_of, origin_of}
use Rattle.model.proofs.Costs.{cost_laws}
use Rattle.model.proofs.Dominance.{dominates_self}
use Rattle.search.specs.Answer.{by_state, Answer}
use Rattle.search.specs.Search.{Progress, Ending, decided, refused, answer_of, answer, search}
use Rattle.search.specs.Guarantee.{widest, TroubleAt}
use Rattle.search.specs.Run.{Settings, Lent, first_width, wider_than, limit_of, refused_by_input, search_model, run}
use Rattle.search.proofs.Rounds.{search_holds}
use Rattle.search.proofs.Invariant.{Supported, Claim, Justified}
use Rattle.search.proofs.Sound.{run_kept}
use Rattle.search.proofs.Source.{run_holds}

-- of an answer that is a refusal by the state
abbrev pub PathToTrouble : {S C : Type 0} → Costs C → System S C → Origin S C → Answer C → Type 0
PathToTrouble K M o a = (t : ℕ) → a.outcome ≡ by_state t → TroubleAt K M o t a.steps a.cost

module _ {S C : Type 0} (K : Costs C) (M : System S C) (o : Origin S C) (limit W : ℕ) where
  answer_path : (k width : ℕ) (e : Ending C) (p : Progress C) → Claim K M o limit W e p.best → PathToTrouble K M o (answer_of K M e k width p)
  unfolding answer_of
  answer_path k width (decided v) p c t e = let z : ◌≡◌ {A = ℕ} 0 1 = cc in absurd (omega arith)
  answer_path k width (refused u route) p c t e = let same : u ≡ t = cc in rw same at c.trouble_there

-- the steps of a refusal by the state lead to where the trouble is, at the cost stated
pub refusal_path : {S C : Type 0} (K : Costs C) (L : CostLaws K) (M : System S C) (self : (s : S) → M.dominates s s ≡ true) (o : Origin S C) (budget limit width : ℕ) (wider : List ℕ) {t : ℕ}
    → (search K M budget limit width wider o).outcome ≡ by_state t → TroubleAt K M o t (search K M budget limit width wider o).steps (search K M budget limit width wider o).cost
unfolding answer
refusal_path K L M self o budget limit width wider {t} =
    let W : ℕ = widest width wider in
    search_holds K M (Supported K M o limit) (Justified K M o limit W) o budget limit W (run_kept K L M self o budget limit W) (PathToTrouble K M o)
    (λ k w s one j. answer_path K M o limit W k w s.ending s.progress j.claim) width wider refl t

-- ---- from bytes

input_path : {S : Type 0} (K : Costs Cost) (M : System S Cost) (o : Origin S Cost) (t : ℕ) → PathToTrouble K M o (refused_by_input t)
unfolding refused_by_input
input_path K M o t u e = let z : ◌≡◌ {A = ℕ} 0 1 = cc in absurd (omega arith)

module _ (most : ℕ) (bytes : List ℕ) (q : Settings) (l : Lent) (m : Model) (n : ℕ) (reads : model bytes ≡ read m n) where
  search_path : PathToTrouble (costs_of m.rule) (system_of range_end m) (origin_of m) (search_model m q)
  unfolding search_model
  search_path t e = refusal_path (costs_of m.rule) (cost_laws m.rule) (system_of range_end m) (dominates_self range_end m) (origin_of m) q.budget (limit_of q.form m) (first_width q.beam) (wider_than q.beam) e

  pub run_refusal_path : {t : ℕ} → (run most bytes q l).outcome ≡ by_state t → TroubleAt (costs_of m.rule) (system_of range_end m) (origin_of m) t (run most bytes q l).steps (run most bytes q l).cost
  run_refusal_path {t} =
      run_holds bytes q l m n reads (PathToTrouble (costs_of m.rule) (system_of range_end m) (origin_of m)) (input_path (costs_of m.rule) (system_of range_end m) (origin_of m)) (λ _. search_path) most t
