-- The figures with an answer more are those of the list with it behind; the closing line's figures are those of the list.
use Prim.Native.Nat.{ℕ, ◌+◌, max}
use mathlib.Core.Path.{◌≡◌, refl}
use mathlib.Core.List.{List, [], ◌∷◌, ◌++◌}
use native.Mathlib.Omega.{arith}
use lib.ListN.{length, length-append}
use Rattle.search_report.specs.declared.answers.Fields.{Fields}
use Rattle.month_figures.specs.Closing.{Taken, count_in, refused_in, cheapest_in, gap_in, gather, whole_of, remainder_of, closing}
use Rattle.month_figures.specs.Kept.{Shares, figures_of, NoneYet, Added, Closes}
use Rattle.month_figures.specs.declared.Figures.{Figures}
use Rattle.month_figures.specs.declared.Share.{Share}
use Rattle.month_figures.proofs.Gathering.{gather_behind, sum_gathers, greatest_gathers}

pub begins_with_none : NoneYet (record { names = 0; cheapest = 0; planless = 0; width = 0; length = 0; budget = 0; contradicted = 0; refused = 0; sum = 0; gap = 0 })
unfolding figures_of gather
begins_with_none = record { none_yet = refl }

one_longer : (l : List Taken) (d : Taken) → length l + 1 ≡ length (l ++ (d ∷ []))
one_longer l d = omega (arith, length-append l (d ∷ []))

-- figure by figure
pub added_figures : (figures : Figures) (x : Fields) (one : Share) (gap : ℕ) → Shares x one → gap ≡ max figures.gap one.gap
    → Added figures x
    (record {
      names = figures.names + 1;
      cheapest = figures.cheapest + one.cheapest;
      planless = figures.planless + one.planless;
      width = figures.width + one.width;
      length = figures.length + one.length;
      budget = figures.budget + one.budget;
      contradicted = figures.contradicted + one.contradicted;
      refused = figures.refused + one.refused;
      sum = figures.sum + one.cost;
      gap = gap;
    })
unfolding figures_of
added_figures figures x one gap S eg =
    record {
      one_further =
          λ l d e is.
          rw (
            eg,
            e,
            S.cheapest.tells.same d is,
            S.planless.tells.same d is,
            S.width.tells.same d is,
            S.length.tells.same d is,
            S.budget.tells.same d is,
            S.contradicted.tells.same d is,
            S.refused.tells.same d is,
            S.cost.tells.same d is,
            S.gap.same d is,
            one_longer l d,
            gather_behind ◌+◌ sum_gathers (count_in 0) l d,
            gather_behind ◌+◌ sum_gathers (count_in 1) l d,
            gather_behind ◌+◌ sum_gathers (count_in 2) l d,
            gather_behind ◌+◌ sum_gathers (count_in 3) l d,
            gather_behind ◌+◌ sum_gathers (count_in 4) l d,
            gather_behind ◌+◌ sum_gathers (count_in 5) l d,
            gather_behind ◌+◌ sum_gathers refused_in l d,
            gather_behind ◌+◌ sum_gathers cheapest_in l d,
            gather_behind max greatest_gathers gap_in l d,
          );
    }

pub closes : (x : Figures) (w m : ℕ) → w ≡ whole_of x.sum x.cheapest → m ≡ remainder_of x.sum x.cheapest
    → Closes x (x.names ∷ x.cheapest ∷ x.planless ∷ x.width ∷ x.length ∷ x.budget ∷ x.contradicted ∷ x.refused ∷ x.sum ∷ w ∷ m ∷ x.gap ∷ [])
unfolding closing figures_of
closes x w m ew em = record { same = λ l e. rw (ew, em, e) }
