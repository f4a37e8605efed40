-- `eval_sets::sets::element` meets its contract.
use lib.ListN.{length, get_or}
use borrow.Author.Tests.{ne_eqb, lt-ltb, le-ltb}
use Rattle.eval_sets.specs.Runs.{run_element, element_of}
use Rattle.eval_sets.proofs.Promises.{element_kept}
use Rattle.eval_sets.proofs.sets.element.Goals as goal

pub returns-then-e-lt2 : goal.returns-then-e-lt2
unfolding run_element
returns-then-e-lt2 c =
    let whole = element_kept c.args.state.now c.args.e.now (rw (lt-ltb (length c.args.e.now) 2 c.if-e-lt2.true)) in record { run = whole.0; promise = whole.1 }

pub returns-in-48 : goal.returns-in-48
unfolding run_element element_of
returns-in-48 c =
    let whole = element_kept c.args.state.now c.args.e.now (rw (le-ltb (length c.args.e.now) 2 c.if-e-lt2.false, c.in-48.is)) in record { run = whole.0; promise = whole.1 }

pub returns-in-49 : goal.returns-in-49
unfolding run_element element_of
returns-in-49 c =
    let whole = element_kept c.args.state.now c.args.e.now
    (rw (le-ltb (length c.args.e.now) 2 c.if-e-lt2.false, c.in-49.is, c.word_at.ensures)) in record { run = whole.0; promise = whole.1 }

pub returns-in_default : goal.returns-in_default
unfolding run_element element_of
returns-in_default c =
    let whole = element_kept c.args.state.now c.args.e.now
    (
    simp (
      le-ltb (length c.args.e.now) 2 c.if-e-lt2.false,
      ne_eqb (get_or c.args.e.now 0 0) 0x30 c.in_default.in_default-own.rest.0.1,
      ne_eqb (get_or c.args.e.now 0 0) 0x31 c.in_default.in_default-own.rest.1,
    )
    ) in record { run = whole.0; promise = whole.1 }
