-- `quick::sums::inner_sum` meets its contract.
use mathlib.Core.Path.{sym, ap, ◌∙◌}
use Rattle.quick.specs.Sums.{sum_place, of_variable}
use Rattle.quick.proofs.Memory.{place_inside}
use Rattle.quick.proofs.sums.inner_sum.Goals as goal

pub remembered-requires : goal.remembered-requires
remembered-requires c =
    let bytes = c.args.model.now in
    record {
      bound = c.if-k-lt-MOST_BOUNDS.true;
      place = ap (sum_place bytes) (sym c.word_at-at.ensures) ∙ place_inside bytes c.word_at-at.result c.if-model-at-eq35.true;
      form = of_variable (c.is_variable_total.ensures c.if-is_variable_total.true);
      memory = c.requires;
    }
