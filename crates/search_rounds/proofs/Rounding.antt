-- A round: the root alone, then turn after turn; what is left of it is the same whole round.
use Prim.Native.Nat.{ℕ, suc, ◌+◌, ◌-◌}
use mathlib.Core.Path.{◌≡◌, refl, sym, subst, ◌∙◌}
use mathlib.Core.Bool.{false}
use Rattle.std.specs.Prelude.{Some, None, Ok, Err}
use mathlib.Core.List.{List}
use native.Mathlib.Omega.{arith}
use native.Mathlib.Numerals.{add-one}
use lib.ListN.{length}
use Rattle.laws.specs.Lists.{All}
use Rattle.model.specs.System.{Origin}
use Rattle.model.specs.Meaning.{State}
use Rattle.model.specs.declared.Cost.{Cost}
use Rattle.model.proofs.Ranges.{up_to_less}
use Rattle.search.specs.Search.{Result, fresh_round}
use Rattle.search.specs.Search as S
use Rattle.steps.specs.InBytes.{system_in}
use Rattle.steps.specs.Follow.{costs_in}
use Rattle.beam.specs.Nodes.{node_at}
use Rattle.beam.proofs.Nodes.{nodes_none}
use Rattle.search_paths.specs.Routes.{path_by, next_of, root_of, RootIs, RootFits, Startable, Started}
use Rattle.search_visits.specs.Work.{Within, Ready, progress_of, round_of, round_begun, result_of}
use Rattle.search_rounds.specs.Rounds.{Roundable, layers_from, PassesLayer, RoundEnds}
use Rattle.search_visits.specs.declared.work.Progress.{Progress}
use Rattle.search_visits.specs.declared.work.Round.{Round}
use Rattle.search_visits.specs.declared.work.Ending.{Ending}
use Rattle.search_rounds.specs.declared.ends.Passed.{Passed}

-- in layer k, of n nodes: what is left of the round is what was left in its first layer
pub record Going (bytes outline words₀ plan₀ words plan : List ℕ) (w budget limit k n : ℕ) (x₀ x : Round) : Type 0 where
  pub ready : Ready bytes outline words plan w limit k n x
  pub none_yet : x.count ≡ 0
  pub words_same : length words ≡ length words₀
  pub plan_same : length plan ≡ length plan₀
  pub round_same : round_begun x.progress ≡ round_begun x₀.progress
  pub same : layers_from bytes words₀ plan₀ w budget limit 0 1 x₀ ≡ layers_from bytes words plan w budget limit k n x

pub going_first : {bytes outline words plan : List ℕ} {w budget limit : ℕ} {x : Round} → Ready bytes outline words plan w limit 0 1 x → x.count ≡ 0 → Going bytes outline words plan words plan w budget limit 0 1 x x
going_first r none_yet = record { ready = r; none_yet = none_yet; words_same = refl; plan_same = refl; round_same = refl; same = refl }

pub going_more : {bytes outline words₀ plan₀ words plan words' plan' : List ℕ} {w budget limit k n nodes : ℕ} {x₀ x : Round} {y : Passed} → Going bytes outline words₀ plan₀ words plan w budget limit k n x₀ x
    → PassesLayer bytes outline words words' plan plan' w budget limit k n x y → y.next ≡ Ok (Some nodes) → length words' ≡ length words → length plan' ≡ length plan
    → Going bytes outline words₀ plan₀ words' plan' w budget limit (k + 1) nodes x₀ y.round
going_more {k = k} g t e a b =
    let z : k + 1 ≡ suc k = add-one k in
    let on = t.going_on _ e in
    rw z
    (record {
      ready = on.2;
      none_yet = on.1;
      words_same = a ∙ g.words_same;
      plan_same = b ∙ g.plan_same;
      round_same = t.round_same ∙ g.round_same;
      same = g.same ∙ on.3;
    })

-- ---- the first layer

abbrev fresh : Progress → Round
fresh p = record { count = 0; marks = record { width = false; length = false }; improved = false; progress = p }

-- the root's g is what the steps before it may have cost
root_within : (bytes : List ℕ) {root : List ℕ} {limit : ℕ} (fits : RootFits root limit) → Within (fits.before + 0) (root_of bytes root)
unfolding node_at
root_within bytes fits = up_to_less fits.cost (omega arith)

module _ {bytes outline root words₀ words plan : List ℕ} {w limit : ℕ} {p : Progress} (able : Roundable bytes outline root words₀ plan w limit p) (started : Started root words w) where
  pub ready_first : Ready bytes outline words plan w limit 0 1 (fresh p)
  ready_first =
      record {
        outlined = able.outlined;
        held = started.held outline;
        narrow = able.room.narrow;
        depth = omega arith;
        before = able.root_fits.before;
        few_steps = able.root_fits.few_steps;
        plan_room = able.room.plan_room;
        best_fits = able.best_fits;
        few_nodes = omega (arith, able.room.some_width);
        costs = subst (All (Within (able.root_fits.before + 0))) (sym (started.root_alone bytes)) (root_within bytes able.root_fits, tt);
      }

  round_same : (budget : ℕ) (o : Origin State Cost) (h : Cost) → RootIs bytes root o h
      → S.round (costs_in bytes) (system_in bytes) budget limit w (S.root (costs_in bytes) (system_in bytes) o h) (progress_of plan p) ≡ layers_from bytes words plan w budget limit 0 1 (fresh p)
  unfolding S.round fresh_round round_of
  round_same budget o h is =
      let z : limit - 0 ≡ limit = omega arith in
      sym (rw (z, started.root_alone bytes, is.node, nodes_none w (next_of w words) bytes (path_by words w 0)))

  module _ {budget : ℕ} {words₁ plan₁ words₂ plan₂ : List ℕ} {k n : ℕ} {x : Round} {y : Passed} (g : Going bytes outline words plan words₁ plan₁ w budget limit k n (fresh p) x)
      (t : PassesLayer bytes outline words₁ words₂ plan₁ plan₂ w budget limit k n x y)
    where
      pub round_done : y.next ≡ Ok None → RoundEnds bytes root words₂ plan plan₂ w budget limit p (record { round = y.round; next = Ok tt; layer = k })
      unfolding result_of
      round_done e =
          record {
            best_fits = t.best_fits;
            round_same = t.round_same ∙ g.round_same;
            inside = tt;
            counted = t.counted;
            same = λ o h is. round_same budget o h is ∙ g.same ∙ t.ends e;
          }

      pub round_over : {e : Ending} → y.next ≡ Err e → RoundEnds bytes root words₂ plan plan₂ w budget limit p (record { round = y.round; next = Err e; layer = k })
      round_over {e} over =
          record {
            best_fits = t.best_fits;
            round_same = t.round_same ∙ g.round_same;
            inside = rw over at t.inside;
            counted = t.counted;
            same = λ o h is. round_same budget o h is ∙ g.same ∙ t.over e over;
          }

pub startable : {bytes outline root words plan : List ℕ} {w limit : ℕ} {p : Progress} → Roundable bytes outline root words plan w limit p → Startable root words w
startable able =
    record {
      long = able.root_fits.long;
      some_width = able.room.some_width;
      narrow = able.room.narrow;
      room = omega (arith, able.room.words_room);
    }
