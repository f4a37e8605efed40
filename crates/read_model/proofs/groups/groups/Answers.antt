-- `read_model::groups::groups` meets its contract. The four groups one behind the other, each at the position behind the one before it.
use mathlib.Core.Path.{◌∙◌}
use Rattle.read_declarations.proofs.Positions.{passed_on}
use Rattle.read_model.proofs.Stages.{stop_first, stop_second, stop_third, stop_fourth, stop_last}
use Rattle.read_model.proofs.groups.groups.Goals as goal

pub returns-in_err-p : goal.returns-in_err-p
returns-in_err-p c = record {
  same = c.group.ensures.0;
  told = rw (passed_on c.from_residual.result c.from_residual.ensures.1) (stop_first _ _ _ _ _ _ _ c.in_err-p.was c.group.ensures.1);
}

pub returns-in_err-q : goal.returns-in_err-q
returns-in_err-q c = record {
  same = c.group-2.ensures.0 ∙ c.group.ensures.0;
  told = rw (passed_on c.from_residual-in_err-q.result c.from_residual-in_err-q.ensures.1) (stop_second _ _ _ c.in_ok-p.ensures.1 _ c.in_err-q.was c.group-2.ensures.1);
}

pub returns-in_err-r : goal.returns-in_err-r
returns-in_err-r c = record {
  same = c.group-3.ensures.0 ∙ (c.group-2.ensures.0 ∙ c.group.ensures.0);
  told = rw (passed_on c.from_residual-in_err-r.result c.from_residual-in_err-r.ensures.1) (stop_third _ _ _ c.in_ok-p.ensures.1 c.in_ok-q.ensures.1 _ c.in_err-r.was c.group-3.ensures.1);
}

pub returns-in_err-s : goal.returns-in_err-s
returns-in_err-s c = record {
  same = c.group-4.ensures.0 ∙ (c.group-3.ensures.0 ∙ (c.group-2.ensures.0 ∙ c.group.ensures.0));
  told = rw (passed_on c.from_residual-in_err-s.result c.from_residual-in_err-s.ensures.1) (stop_fourth _ _ _ c.in_ok-p.ensures.1 c.in_ok-q.ensures.1 c.in_ok-r.ensures.1 _ c.in_err-s.was c.group-4.ensures.1);
}

pub returns : goal.returns
returns c = record {
  same = c.group-4.ensures.0 ∙ (c.group-3.ensures.0 ∙ (c.group-2.ensures.0 ∙ c.group.ensures.0));
  told = stop_last _ _ _ c.in_ok-p.ensures.1 c.in_ok-q.ensures.1 c.in_ok-r.ensures.1 c.in_ok-s.ensures.1 c.finish.ensures;
}
