-- `read_model::groups::item` meets its contract. The item by its group.
use mathlib.Core.Path.{◌≡◌, sym, subst}
use Rattle.read_forms.specs.Parts.{variables_in, tables_in}
use Rattle.read_model.specs.declared.Group.{Group}
use Rattle.read_model.specs.Groups.{item_of}
use Rattle.read_declarations.specs.Positions.{read_at, position_of}
use Rattle.read_model.proofs.groups.item.Goals as goal

pub returns-in-Transitions : goal.returns-in-Transitions
unfolding item_of
returns-in-Transitions c =
    subst
    (λ (g : Group). c.transition.result ≡ position_of (read_at (item_of (variables_in c.args.names) (tables_in c.args.names) g) c.args.at c.args.model.now))
    (sym c.in-Transitions.is) c.transition.ensures

pub returns-in-BaseCases : goal.returns-in-BaseCases
unfolding item_of
returns-in-BaseCases c =
    subst
    (λ (g : Group). c.conditions.result ≡ position_of (read_at (item_of (variables_in c.args.names) (tables_in c.args.names) g) c.args.at c.args.model.now))
    (sym c.in-BaseCases.is) c.conditions.ensures

pub returns-in-Constraints : goal.returns-in-Constraints
unfolding item_of
returns-in-Constraints c =
    subst
    (λ (g : Group). c.condition_at.result ≡ position_of (read_at (item_of (variables_in c.args.names) (tables_in c.args.names) g) c.args.at c.args.model.now))
    (sym c.in-Constraints.is) c.condition_at.ensures

pub returns-in-Bounds : goal.returns-in-Bounds
unfolding item_of
returns-in-Bounds c =
    subst
    (λ (g : Group). c.number_at.result ≡ position_of (read_at (item_of (variables_in c.args.names) (tables_in c.args.names) g) c.args.at c.args.model.now))
    (sym c.in-Bounds.is) c.number_at.ensures
