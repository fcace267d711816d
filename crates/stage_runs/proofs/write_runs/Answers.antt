-- `stage_runs::write_runs` meets its contract: classes, records, and what the runs leave. Assumes nothing.
use Rattle.stage_runs.proofs.Laws.Ran.{runs_at, write_at, ran}
use Rattle.stage_runs.proofs.Laws.Half.{end_half}
use Rattle.stage_runs.proofs.write_runs.Goals as goal
use native.Mathlib.Omega.{arith}
use lib.ListN.{length-take}

pub sparse_runs-len-requires : goal.sparse_runs-len-requires
sparse_runs-len-requires c = record { it = _; at = runs_at (end_half c.requires.at c.level_one_size-half.ensures) c.split_waiting-split.ensures }

pub slice_bounds-runs-end : goal.slice_bounds-runs-end
slice_bounds-runs-end c =
    let S = runs_at (end_half c.requires.at c.level_one_size-half.ensures) c.split_waiting-split.ensures in
    let Q = c.sparse_runs-len.ensures.all _ S in
    omega (arith, Q.few, Q.size, length-take c.sparse_runs-len.result.len c.sparse_runs-len.result.records)

pub slice_bounds-records-end : goal.slice_bounds-records-end
slice_bounds-records-end c =
    let S = runs_at (end_half c.requires.at c.level_one_size-half.ensures) c.split_waiting-split.ensures in
    let Q = c.sparse_runs-len.ensures.all _ S in
    omega (arith, Q.few, Q.size)

pub put_runs-put-requires : goal.put_runs-put-requires
put_runs-put-requires c =
    let A = end_half c.requires.at c.level_one_size-half.ensures in
    let S = c.split_waiting-split.ensures in
    record { it = _; at = write_at A S (c.sparse_runs-len.ensures.all _ (runs_at A S)) }

pub returns : goal.returns
returns c = record {
  all = λ C A₀.
      let A = end_half A₀ c.level_one_size-half.ensures in
      let S = c.split_waiting-split.ensures in
      let Q = c.sparse_runs-len.ensures.all _ (runs_at A S) in
      ran A S Q (c.put_runs-put.ensures.all C (write_at A S Q));
}
