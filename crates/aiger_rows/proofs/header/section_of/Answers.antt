-- `aiger_rows::header::section_of` meets its contract. Assumes nothing.
use Rattle.aiger_rows.proofs.header.section_of.Goals as goal

pub returns : goal.returns
returns c = c.section_among.ensures c.args.h.variables
