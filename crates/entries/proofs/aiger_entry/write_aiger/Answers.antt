-- `entries::aiger_entry::write_aiger` meets its contract. Assumes nothing.
use native.Mathlib.Omega.{arith}
use Rattle.entries.specs.Aiger.{aiger_written}
use Rattle.entries.proofs.Laws.Entry.{entry_short}
use Rattle.entries.proofs.Laws.Aiger.{entry_aiger_written}
use Rattle.entries.proofs.aiger_entry.write_aiger.Goals as goal

pub returns-then-answer-lt2 : goal.returns-then-answer-lt2
unfolding aiger_written
returns-then-answer-lt2 c = entry_short _ _ _ _ _ (omega (arith, c.if-answer-lt2.true))

pub returns : goal.returns
returns c = entry_aiger_written _ _ _ _ (omega (arith, c.if-answer-lt2.false)) _ _ _ _ c.write.ensures c.tell_length.ensures.number c.tell_length.ensures.told
