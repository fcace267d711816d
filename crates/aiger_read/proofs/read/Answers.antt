-- `aiger_read::read` meets its contract. Assumes nothing.
use mathlib.Core.Path.{ap}
use Prim.Native.Nat.{ℕ, ◌+◌, ◌*◌}
use mathlib.Core.List.{List, ◌++◌}
use lib.ListN.{drop}
use Rattle.refusals.proofs.Numbers.{handed_on}
use Rattle.aiger_read.proofs.Laws.Answers.{import_refused, import_read}
use Rattle.aiger_read.proofs.read.Goals as goal

pub returns-in_err-body : goal.returns-in_err-body
returns-in_err-body c = rw (handed_on _ _ c.from_residual.ensures.1) (import_refused c.args.gates.now c.args.records.now c.args.latches.now c.args.bytes.now _ c.in_err-body.ensures.is)

pub returns : goal.returns
returns c =
    let n = 2 * (c.in_ok-body.body.head.variables + 1) in
    import_read c.args.gates.now c.args.records.now c.args.latches.now c.in_ok-body.ensures.is (ap (λ (f : List ℕ). f ++ drop n c.args.gates.now) c.copy_from_slice.ensures.after) c.fill_ends.ensures.records_hold c.fill_ends.ensures.latches_hold
