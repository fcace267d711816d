-- `stage_runs::classes::class` meets its contract: the count and the level decide. Assumes nothing.
use mathlib.Core.Path.{sym, ◌∙◌}
use native.Mathlib.Omega.{arith}
use Rattle.stage_runs.proofs.Laws.Classes.{class_tree, class_untouched, class_needed}
use Rattle.stage_runs.proofs.classes.class.Goals as goal

pub returns-then-get-ne0 : goal.returns-then-get-ne0
returns-then-get-ne0 c = class_tree c.requires _ (λ e. c.if-get-ne0.true (c.get.ensures ∙ e))

pub returns-then-get-gt1 : goal.returns-then-get-gt1
returns-then-get-gt1 c = class_untouched c.requires _ (sym c.get.ensures ∙ c.if-get-ne0.false) (omega (arith, c.get-2.ensures))

pub returns : goal.returns
returns c = class_needed c.requires _ (sym c.get.ensures ∙ c.if-get-ne0.false) (omega (arith, c.get-2.ensures, c.if-get-gt1.false)) c.enlist.ensures
