-- `job::walk::is_job` meets its contract. Assumes nothing.
use mathlib.Core.Path.{sym, ◌∙◌}
use Rattle.job.proofs.Laws.Walk.{accepts_more, accepts_is}
use Rattle.job.proofs.walk.is_job.Goals as goal

pub returns-else-is_padding : goal.returns-else-is_padding
returns-else-is_padding c =
    let m = c.args.met in
    rw c.if-is_padding.false (accepts_more c.args.bytes.now m.at m.height m.gates m.records c.requires.inside (sym c.is_padding.ensures ∙ c.if-is_padding.false))

pub returns-then-is_padding : goal.returns-then-is_padding
returns-then-is_padding c = let m = c.args.met in accepts_is c.args.bytes.now m.at m.height m.gates m.records c.requires.inside (sym c.is_padding.ensures ∙ c.if-is_padding.true) c.is_sized.ensures
