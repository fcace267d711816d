-- `entries::list_entry::list_answer` meets its contract. Assumes nothing.
use native.Mathlib.Omega.{arith}
use Rattle.entries.specs.Listing.{answer_listed}
use Rattle.entries.proofs.Laws.Entry.{entry_short}
use Rattle.entries.proofs.Laws.Files.{entry_listed}
use Rattle.entries.proofs.list_entry.list_answer.Goals as goal

pub returns-then-answer-lt2 : goal.returns-then-answer-lt2
unfolding answer_listed
returns-then-answer-lt2 c = entry_short _ _ _ _ _ (omega (arith, c.if-answer-lt2.true))

pub returns : goal.returns
returns c = entry_listed _ _ _ _ _ _ _ _ _ _ (omega (arith, c.if-answer-lt2.false)) _ _ _ _ c.answer_text-size.ensures c.tell_length.ensures.number c.tell_length.ensures.told
