-- The layer's end by rule 6: what remains, and how low rises.
use Prim.Native.Nat.{ℕ, ◌+◌, ◌-◌, ◌*◌, ◌≤◌, ◌<◌}
use mathlib.Core.Path.{◌≡◌, refl, sym, ap, subst, ◌∙◌}
use mathlib.Core.Bool.{Bool, true, false, cond}
use mathlib.Core.List.{List, []}
use mathlib.Core.Option.{Option, some, none}
use Rattle.std.specs.Prelude as P
use Rattle.std.specs.Prelude.{Some, None}
use native.Mathlib.Omega.{arith}
use lib.ListN.{length, get_or, drop, length-take, length-drop}
use Rattle.laws.specs.Lists.{filter}
use Rattle.model.specs.Meaning.{State}
use Rattle.model.specs.declared.Cost.{Cost}
use Rattle.model.specs.Costs.{at_most}
use Rattle.search.specs.Search.{Node, Route, below_best, raised_low, layer_end}
use Rattle.beam_order.specs.Slots.{slot_words, f_of, layer_words, next_at, next_end}
use Rattle.steps.specs.InBytes.{system_in}
use Rattle.steps.specs.Follow.{costs_in}
use Rattle.beam.specs.Layers.{nodes_of, Layer, Below}
use Rattle.beam.proofs.Ends.{filter_no_best}
use Rattle.beam.proofs.Moves.{place_below}
use Rattle.beam.proofs.Nodes.{nodes_none, raised_low_lem}
use Rattle.search_expansion.specs.Expansion.{BestIs}
use Rattle.search_expansion.specs.declared.trials.Found.{Found}
use Rattle.search_paths.specs.Routes.{path_by, next_of}
use Rattle.search_visits.specs.Work.{best_of, progress_of, round_of, round_in}
use Rattle.search_visits.proofs.Visiting.{best_is}
use Rattle.search_rounds.specs.Rounds.{LayerEnds}
use Rattle.search_rounds.specs.Ends.{Remains, Raises}
use Rattle.search_visits.specs.declared.work.Round.{Round}

-- ---- what remains

module _ {layer : List ℕ} {w n : ℕ} where
  pub remains_below : {best : P.Option Found} {found : Found} (count : ℕ) → best ≡ Some found → Below w n count found.cost layer → Remains layer w best n count
  remains_below {found = found} count is_found b = rw is_found (record { fewer = b.fewer; still = b.layer; left = by_best })
    where
      by_best : (bytes : List ℕ) (path : ℕ → List ℕ) (o : Option (Route Cost)) → BestIs (Some found) o → nodes_of w layer bytes path count ≡ filter (λ m. below_best (costs_in bytes) (system_in bytes) m.f o) (nodes_of w layer bytes path n)
      by_best bytes path none is = absurd is
      by_best bytes path (some r) is = b.left bytes path r is

  pub remains_all : {best : P.Option Found} → best ≡ None → Layer w n layer → Remains layer w best n n
  remains_all missing la = rw missing (record { fewer = omega arith; still = la; left = by_best })
    where
      by_best : (bytes : List ℕ) (path : ℕ → List ℕ) (o : Option (Route Cost)) → BestIs None o → nodes_of w layer bytes path n ≡ filter (λ m. below_best (costs_in bytes) (system_in bytes) m.f o) (nodes_of w layer bytes path n)
      by_best bytes path none is = sym (filter_no_best bytes (nodes_of w layer bytes path n))
      by_best bytes path (some r) is = absurd is

-- ---- low

pub raises_marked : (layer : List ℕ) (w n : ℕ) (low : Cost) (marked : Bool) → marked ≡ true → Raises layer w marked n low low
unfolding raised_low
raises_marked layer w n low marked stands = record { same = λ bytes path. rw stands }

pub raises_none : (layer : List ℕ) (w n : ℕ) (low : Cost) (marked : Bool) → n ≡ 0 → Raises layer w marked n low low
unfolding raised_low
raises_none layer w n low marked none_left = record { same = λ bytes path. rw none_left (rw (nodes_none w layer bytes path) (by_mark bytes marked)) }
  where
    by_mark : (bytes : List ℕ) (m : Bool) → raised_low (costs_in bytes) (system_in bytes) m [] low ≡ low
    by_mark bytes true = refl
    by_mark bytes false = refl

-- f: that of the first
module _ {layer : List ℕ} {w n : ℕ} (la : Layer w n layer) (low : Cost) (marked : Bool) (unmarked : marked ≡ false) (pos : 0 < n) {f : Cost} (first : f ≡ f_of (drop (get_or layer (next_at * w) 0 * slot_words) layer)) where
  raised : (bytes : List ℕ) (path : ℕ → List ℕ) → raised_low (costs_in bytes) (system_in bytes) marked (nodes_of w layer bytes path n) low ≡ cond (at_most f low) low f
  raised bytes path = rw (unmarked, first) (raised_low_lem bytes path la low pos)

  pub raises_first : false ≡ at_most f low → Raises layer w marked n low f
  raises_first h = record { same = λ bytes path. raised bytes path ∙ rw (← h) }

  pub raises_not : true ≡ at_most f low → Raises layer w marked n low low
  raises_not h = record { same = λ bytes path. raised bytes path ∙ rw (← h) }

-- ---- the layer's end

pub layer_ends : (words : List ℕ) (w : ℕ) (x : Round) (count : ℕ) (low : Cost) → Remains (next_of w words) w x.progress.best x.count count
    → Raises (next_of w words) w x.marks.width count x.progress.low low
    → LayerEnds words w x (record { count = count; marks = x.marks; improved = x.improved; progress = record { best = x.progress.best; low = low; tally = x.progress.tally } })
layer_ends words w x count low remains raises = record { fewer = remains.fewer; layer = remains.still; best_same = refl; round_same = refl; same = ends }
  where
    ends : (bytes plan : List ℕ) (k : ℕ) → layer_end (costs_in bytes) (system_in bytes) (round_in bytes words plan w k x) ≡ round_in bytes words plan w k (record { count = count; marks = x.marks; improved = x.improved; progress = record { best = x.progress.best; low = low; tally = x.progress.tally } })
    ends bytes plan k =
        unfold layer_end round_of progress_of in
        ap (λ (l : List (Node State Cost)). record { kept = l; width_mark = x.marks.width; length_mark = x.marks.length; improved = x.improved; progress = record { best = best_of plan x.progress.best; low = raised_low (costs_in bytes) (system_in bytes) x.marks.width l x.progress.low; expansions = x.progress.tally.expansions } })
        (sym (remains.left bytes (path_by words w k) (best_of plan x.progress.best) (best_is plan x.progress.best)))
        ∙ ap (λ (v : Cost). record { kept = nodes_of w (next_of w words) bytes (path_by words w k) count; width_mark = x.marks.width; length_mark = x.marks.length; improved = x.improved; progress = record { best = best_of plan x.progress.best; low = v; expansions = x.progress.tally.expansions } })
        (raises.same bytes (path_by words w k))

-- the slot of the first
pub first_below : {layer : List ℕ} {w n : ℕ} → Layer w n layer → 0 < n → get_or layer (next_at * w) 0 < w
first_below {layer} {w} la pos =
    let z : next_at * w + 0 ≡ next_at * w = omega arith in
    subst (λ (i : ℕ). get_or layer i 0 < w) z (place_below la 0 pos)

-- the words hold the layer in the making
pub words_long : (w : ℕ) (words : List ℕ) → layer_words * w ≤ length (next_of w words) → 0 < w → next_end * w ≤ length words
words_long w words h pos = omega (arith, length-take (next_end * w - next_at * w) (drop (next_at * w) words), length-drop (next_at * w) words)
