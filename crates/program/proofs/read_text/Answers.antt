-- `program::read_text` meets its contract: a job that was read fits the areas. Assumes nothing.
use Prim.Native.Nat.{◌≤◌}
use native.Mathlib.Omega.{arith}
use lib.ListN.{length}
use lib.Seq.{length-take-le}
use mathlib.Core.Path.{◌∙◌}
use Rattle.program.proofs.Laws.Read.{printed_none, printed_job}
use Rattle.program.proofs.Laws.Job.{Got, read_none, read_got}
use Rattle.program.proofs.read_text.Goals as goal
use Rattle.program.proofs.read_text.Goals.{In-Ok}

-- the job stands in the areas
stands : (c : In-Ok) → Got c.args.bytes.now c.in-Ok.job c.read.new.gates c.read.new.given c.read.new.records
stands c = let a = c.args in read_got a.bytes.now a.gates.now a.given.now a.records.now (record { at = λ i. omega (arith, c.type_inv.bytes i) }) c.requires _ _ _ _ c.in-Ok.ensures

pub slice_bounds-text_of-end : goal.slice_bounds-text_of-end
slice_bounds-text_of-end c = omega (arith, (stands c).gates_in, c.requires.gates, c.read.auto.gates)

pub slice_bounds-text_of-end-in-Ok : goal.slice_bounds-text_of-end-in-Ok
slice_bounds-text_of-end-in-Ok c =
    let h : c.in-Ok.job.gates ≤ length c.read.new.gates = omega (arith, (stands (goal.at.slice_bounds-text_of-end-in-Ok c).In-Ok).gates_in, c.requires.gates, c.read.auto.gates) in
    omega (arith, length-take-le c.in-Ok.job.gates c.read.new.gates h)

pub slice_bounds-text_of-end-in-Ok-2 : goal.slice_bounds-text_of-end-in-Ok-2
slice_bounds-text_of-end-in-Ok-2 c = omega (arith, (stands (goal.at.slice_bounds-text_of-end-in-Ok-2 c).In-Ok).given_in, c.requires.given, c.read.auto.given)

pub slice_bounds-text_of-end-in-Ok-3 : goal.slice_bounds-text_of-end-in-Ok-3
slice_bounds-text_of-end-in-Ok-3 c =
    let h : c.in-Ok.job.given ≤ length c.read.new.given = omega (arith, (stands (goal.at.slice_bounds-text_of-end-in-Ok-3 c).In-Ok).given_in, c.requires.given, c.read.auto.given) in
    omega (arith, length-take-le c.in-Ok.job.given c.read.new.given h)

pub slice_bounds-text_of-end-in-Ok-4 : goal.slice_bounds-text_of-end-in-Ok-4
slice_bounds-text_of-end-in-Ok-4 c = omega (arith, (stands (goal.at.slice_bounds-text_of-end-in-Ok-4 c).In-Ok).records_in, c.requires.records, c.read.auto.records)

pub slice_bounds-text_of-end-in-Ok-5 : goal.slice_bounds-text_of-end-in-Ok-5
slice_bounds-text_of-end-in-Ok-5 c =
    let h : c.in-Ok.job.records ≤ length c.read.new.records = omega (arith, (stands (goal.at.slice_bounds-text_of-end-in-Ok-5 c).In-Ok).records_in, c.requires.records, c.read.auto.records) in
    omega (arith, length-take-le c.in-Ok.job.records c.read.new.records h)

pub text_of-requires : goal.text_of-requires
text_of-requires c = let G = stands (goal.at.text_of-requires c).In-Ok in rw (G.height, G.gates, G.records) G.fits

pub returns-in-Ok : goal.returns-in-Ok
returns-in-Ok c = let a = c.args in let G = stands (goal.at.returns-in-Ok c).In-Ok in (rw (G.height, G.gates, G.given, G.records) at c.text_of.ensures) ∙ printed_job a.bytes.now a.out.now G.J G.is

pub returns-in-Err : goal.returns-in-Err
returns-in-Err c = let a = c.args in (rw c.number.ensures at c.refused.ensures) ∙ printed_none a.bytes.now a.out.now (read_none a.bytes.now a.gates.now a.given.now a.records.now (record { at = λ i. omega (arith, c.shared_slice_known-1.given i) }) c.requires _ _ _ _ c.in-Err.ensures)
