-- `merge_unions::table::start_of` meets its contract. Assumes nothing.
use Rattle.merge_unions.proofs.table.start_of.Goals as goal

pub returns : goal.returns
returns c = rw (← c.wide.ensures) c.wide-2.ensures
