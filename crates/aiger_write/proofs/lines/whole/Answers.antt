-- `aiger_write::lines::whole` meets its contract: section after section. Assumes nothing.
use Rattle.aiger_write.specs.Lines.{output_count, file_text}
use Rattle.listing_lines.proofs.Laws.Laid.{laid_more}
use Rattle.aiger_write.proofs.lines.whole.Goals as goal

pub returns : goal.returns
unfolding output_count file_text
returns c = laid_more (laid_more (laid_more (laid_more (rw (c.pin_count.ensures, c.count_inputs-inputs.ensures, c.count_gates-ands.ensures) at c.head-a.ensures) c.input_lines-b.ensures) c.latch_lines-d.ensures) c.output_lines-e.ensures) c.gate_lines.ensures
