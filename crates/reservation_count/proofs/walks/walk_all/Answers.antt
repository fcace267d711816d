use mathlib.Core.Path.{refl}
use Rattle.reservation_count.proofs.Laws.Walks.{residues_none, residue_at, residues_more, residues_done}
use Rattle.reservation_count.proofs.walks.walk_all.Goals as goal

pub loop-r-init : goal.loop-r-init
loop-r-init c = λ cs A. residues_none _ _ _ _ _ cs A

pub loop-r-preserved : goal.loop-r-preserved
loop-r-preserved c = λ cs A.
    let R = c.loop-r.invariant cs A in
    residues_more _ _ _ _ _ cs A _ _ _ R c.loop-r-test.true _ refl _ _ (c.walk-n.ensures.all cs (residue_at _ _ _ _ _ cs A _ _ _ R c.loop-r-test.true _ refl))

pub returns : goal.returns
returns c = record { all = λ cs A. residues_done _ _ _ _ _ cs A _ _ _ (c.loop-r.invariant cs A) c.loop-r-test.false }
