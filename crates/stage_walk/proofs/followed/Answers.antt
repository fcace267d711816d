-- `stage_walk::followed` meets its contract: the operands of a pin that is a gate and not done, else none. Assumes nothing.
use mathlib.Core.Path.{sym, ◌∙◌}
use Rattle.columns.proofs.Lists.Marks.{marks_test}
use Rattle.stage_walk.proofs.Gates.{follow_done, follow_leaf, follow_operands}
use Rattle.stage_walk.proofs.followed.Goals as goal

pub returns-then-is_in : goal.returns-then-is_in
returns-then-is_in c = record { all = λ C R. follow_done C R _ c.requires.p_lt_m (sym (marks_test R.done _ c.requires.p_lt_m) ∙ sym c.is_in.ensures ∙ c.if-is_in.true) }

pub returns-then-gates-at : goal.returns-then-gates-at
returns-then-gates-at c = record {
  all = λ C R.
      let o = sym (marks_test R.done _ c.requires.p_lt_m) ∙ sym c.is_in.ensures ∙ c.if-is_in.false in
      follow_leaf C R _ c.requires.p_lt_m o (rw c.index-at.ensures at c.if-gates-at.true);
}

pub returns : goal.returns
returns c = record {
  all = λ C R.
      let o = sym (marks_test R.done _ c.requires.p_lt_m) ∙ sym c.is_in.ensures ∙ c.if-is_in.false in
      follow_operands C R _ c.requires.p_lt_m o (λ e. c.if-gates-at.false (rw (← c.index-at.ensures) at e))
      _ _ (rw c.index-at.ensures at c.operand.ensures) (rw c.index-at.ensures at c.operand-2.ensures);
}
