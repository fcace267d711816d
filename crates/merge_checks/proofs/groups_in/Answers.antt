use mathlib.Core.Path.{◌∙◌}
use Rattle.merge_checks.proofs.Laws.Sums.{starts_counted}
use Rattle.merge_checks.proofs.groups_in.Goals as goal

pub returns : goal.returns
returns c =
    let s = c.starts.ensures in
    let r = c.count.ensures.ran in
    r.2 ∙ starts_counted r.0 _ _ _ _ s.records (rw s.at c.requires.readable) r.1.1.1 r.1.1.2
