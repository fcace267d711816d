-- `stage::finish::finish_rest` meets its contract: no cell or none left empty refuses the stage, with the counts where rule 9 starts. Assumes nothing.
use Rattle.stage.proofs.Laws.Finish.{rest_at, ones_within, ends_eight, lasting_at, ends_rest}
use Rattle.stage.proofs.finish.finish_rest.Goals as goal

pub fill_rest-requires : goal.fill_rest-requires
fill_rest-requires c = record { it = _; at = rest_at c.requires.at c.level_one_size.ensures }

pub finish_last-requires : goal.finish_last-requires
finish_last-requires c = let A = c.requires.at in record { it = _; at = lasting_at A (c.fill_rest.ensures.all _ (rest_at A c.level_one_size.ensures)) c.if-not-fill_rest.false }

pub returns : goal.returns
returns c = record { all = λ x A. let F = c.fill_rest.ensures.all x.C (rest_at A c.level_one_size.ensures) in ends_rest A F (c.finish_last.ensures.all x (lasting_at A F c.if-not-fill_rest.false)) }

pub overflow_sub-result : goal.overflow_sub-result
overflow_sub-result c = ones_within c.requires.at c.tail_get-ones.ensures

pub returns-then-not-fill_rest : goal.returns-then-not-fill_rest
returns-then-not-fill_rest c = record { all = λ x A. ends_eight A (c.fill_rest.ensures.all x.C (rest_at A c.level_one_size.ensures)) c.tail_get-ones.ensures c.if-not-fill_rest.true }
