-- `job::walk::walk` meets its contract: height, pins, given pins, records. Assumes nothing.
use Rattle.rules.specs.Cells.{empty}
use Rattle.job.proofs.Laws.Walk.{walked_none, pins_cut, given_cut, records_cut, walked}
use Rattle.job.proofs.walk.walk.Goals as goal

pub returns-then-bytes-lt4 : goal.returns-then-bytes-lt4
returns-then-bytes-lt4 c = walked_none c.if-bytes-lt4.true

pub returns-in_err-a : goal.returns-in_err-a
unfolding empty
returns-in_err-a c = rw c.from_residual.ensures (pins_cut c.field-height.ensures c.if-bytes-lt4.false _ _ _ c.store.ensures c.store-2.ensures c.in_err-a.ensures)

pub returns-in_err-b : goal.returns-in_err-b
unfolding empty
returns-in_err-b c =
    let a = c.in_ok-a.ensures in
    rw c.from_residual-in_err-b.ensures (given_cut c.field-height.ensures c.if-bytes-lt4.false _ _ _ c.store.ensures c.store-2.ensures a.0 a.1 c.in_err-b.ensures)

pub returns-in_err-c : goal.returns-in_err-c
unfolding empty
returns-in_err-c c =
    let a = c.in_ok-a.ensures in
    let b = c.in_ok-b.ensures in
    rw c.from_residual-in_err-c.ensures (records_cut c.field-height.ensures c.if-bytes-lt4.false _ _ _ c.store.ensures c.store-2.ensures a.0 a.1 b.0 b.1 c.in_err-c.ensures)

pub returns : goal.returns
unfolding empty
returns c =
    let a = c.in_ok-a.ensures in
    let b = c.in_ok-b.ensures in
    let r = c.in_ok-c.ensures in
    (walked c.field-height.ensures c.if-bytes-lt4.false _ _ _ c.store.ensures c.store-2.ensures a.0 a.1 b.0 b.1 r.0 r.1, r.1)
