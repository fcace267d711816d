-- `replay_checks::driven_refusal` meets its contract. Assumes nothing.
use mathlib.Core.Path.{refl, sym, ◌∙◌}
use Rattle.replay_checks.proofs.Laws.Answers.{marks_at, each_is, numbered_19, numbered_rest}
use Rattle.replay_checks.proofs.driven_refusal.Goals as goal

pub mark_leaves-requires : goal.mark_leaves-requires
mark_leaves-requires c = marks_at _ _ c.requires.few refl

pub returns-then-not-mark_leaves : goal.returns-then-not-mark_leaves
returns-then-not-mark_leaves c = record { number = numbered_19 _ _ _ _ _ _ _ _ _ (sym c.mark_leaves.ensures.right ∙ c.if-not-mark_leaves.true); pin = refl }

pub returns : goal.returns
returns c =
    let t = c.if-not-mark_leaves.false in
    let M = c.mark_leaves.ensures in
    record {
      number = numbered_rest _ _ _ _ _ _ _ _ _ (sym M.right ∙ t) _ _ (each_is _ _ _ _ _ _ _ (marks_at _ _ c.requires.few refl) (M.marked t) c.requires.few c.put_leaves-each.ensures) c.measure.ensures.number;
      pin = c.measure.ensures.pin;
    }
