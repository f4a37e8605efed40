-- `read_declarations::variables::set_variable` meets its contract. 02: nine bytes of operands, and their test.
use Prim.Native.Nat.{◌^◌}
use mathlib.Core.Path.{refl, sym, ◌∙◌}
use native.Mathlib.Omega.{arith}
use lib.Dec.{ltb}
use lib.ListN.{get_or}
use Rattle.words.proofs.Literal.{suffix}
use Rattle.model.specs.Expressions.{is_count}
use Rattle.laws.proofs.Bools.{and_both}
use Rattle.read_declarations.proofs.Operands.{set_good, set_beyond, set_cut, set_declares, count_bounds}
use Rattle.read_declarations.proofs.variables.set_variable.Goals as goal

pub overflow_add-result : goal.overflow_add-result
overflow_add-result c =
    let h = and_both (is_count (get_or c.args.e.now 0 0)) (ltb c.long-members.result (2 ^ get_or c.args.e.now 0 0)) (sym c.members_fit.ensures ∙ c.if-members_fit.true) in omega (arith, count_bounds (get_or c.args.e.now 0 0) h.0)

pub returns-then-members_fit : goal.returns-then-members_fit
returns-then-members_fit c =
    let e = c.args.e.now in
    let t = sym c.members_fit.ensures ∙ c.if-members_fit.true in
    let h = and_both (is_count (get_or e 0 0)) (ltb c.long-members.result (2 ^ get_or e 0 0)) t in
    set_declares _ (get_or e 0 0) c.long-members.result _
    (set_good e c.if-e-lt9.false (rw (suffix 1 e) at c.long-members.ensures) t) h.0 refl refl refl refl

pub returns-else-members_fit : goal.returns-else-members_fit
returns-else-members_fit c =
    let e = c.args.e.now in
    set_beyond e c.if-e-lt9.false (rw (suffix 1 e) at c.long-members.ensures)
    (sym c.members_fit.ensures ∙ c.if-members_fit.false)

pub returns-then-e-lt9 : goal.returns-then-e-lt9
returns-then-e-lt9 c =
    set_cut c.args.e.now c.if-e-lt9.true
