-- `aiger_write::lines::head` meets its contract: a word and five numbers. Assumes nothing.
use Rattle.rules.specs.Listing.{text}
use Rattle.listing_lines.proofs.Laws.Laid.{laid_as, laid_more}
use Rattle.aiger_write.proofs.Laws.Lines.{head_is}
use Rattle.aiger_write.proofs.lines.head.Goals as goal

pub returns : goal.returns
unfolding text
returns c = laid_as (laid_more (laid_more (laid_more (laid_more (laid_more (laid_more c.put_text-p.ensures c.spaced_one-q.ensures) c.spaced_one-r.ensures) c.spaced_one-s.ensures) c.spaced_one-t.ensures) c.spaced_one-u.ensures) c.put_text.ensures) (head_is c.args.m c.args.i c.args.l c.args.o c.args.a)
