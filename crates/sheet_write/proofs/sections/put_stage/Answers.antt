-- `sheet_write::sections::put_stage` meets its contract. Assumes nothing.
use native.Mathlib.Omega.{arith}
use lib.ListN.{length}
use Rattle.rules.proofs.Job.Bits.{width, gather_width}
use Rattle.sheet_write.proofs.Laws.Sections.{stage_put}
use Rattle.sheet_write.proofs.sections.put_stage.Goals as goal

pub put_words-q-requires : goal.put_words-q-requires
put_words-q-requires c = record { near = omega (arith, c.requires.near, c.requires.short, c.put-p.ensures.behind, width 16 (length c.args.words.now)) }

pub put_cells-requires : goal.put_cells-requires
put_cells-requires c = record { near = omega (arith, c.requires.near, c.requires.short, c.requires.few, c.put-p.ensures.behind, width 16 (length c.args.words.now), c.put_words-q.ensures.behind, gather_width 8 c.args.words.now) }

pub returns : goal.returns
returns c = stage_put c.requires c.put-p.ensures c.put_words-q.ensures c.put_cells.ensures
