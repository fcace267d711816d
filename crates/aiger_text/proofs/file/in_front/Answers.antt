-- `aiger_text::file::in_front` meets its contract. Assumes nothing.
use native.Mathlib.Omega.{arith}
use Rattle.aiger_rows.specs.Rows.{head_of}
use Rattle.aiger_text.proofs.Laws.Resets.{front_inside, front_behind}
use Rattle.aiger_text.proofs.file.in_front.Goals as goal

pub returns-in-Inputs : goal.returns-in-Inputs
returns-in-Inputs c = front_inside (head_of c.args.h) _ (omega (arith, c.in-Inputs.ensures))

pub returns-in-Latches : goal.returns-in-Latches
returns-in-Latches c = front_inside (head_of c.args.h) _ (omega (arith, c.in-Latches.ensures))

pub returns-in_default : goal.returns-in_default
returns-in_default c = front_behind (head_of c.args.h) _ _ c.section_of.ensures c.in_default.not-Inputs c.in_default.not-Latches
