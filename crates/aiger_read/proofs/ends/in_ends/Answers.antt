-- `aiger_read::ends::in_ends` meets its contract. Assumes nothing.
use native.Mathlib.Omega.{arith}
use Rattle.aiger_rows.specs.Rows.{head_of}
use Rattle.aiger_read.proofs.Laws.Ends.{ends_inside, ends_behind}
use Rattle.aiger_read.proofs.ends.in_ends.Goals as goal

pub returns-in-Gates : goal.returns-in-Gates
returns-in-Gates c = ends_behind (head_of c.args.h) _ (omega (arith, c.in-Gates.ensures))

pub returns-in-Symbols : goal.returns-in-Symbols
returns-in-Symbols c = ends_behind (head_of c.args.h) _ (omega (arith, c.in-Symbols.ensures))

pub returns-in_default : goal.returns-in_default
returns-in_default c = ends_inside (head_of c.args.h) _ _ c.section_of.ensures c.in_default.not-Gates c.in_default.not-Symbols
