-- `stage_loop::filling::grow` meets its contract: the lean loop starts from the needed pins of the empty plan, and leaves the noted ones. Assumes nothing.
use Rattle.stage_loop.proofs.Laws.Filling.{grow_note, grow_lean, grown}
use Rattle.stage_loop.proofs.filling.grow.Goals as goal

pub note-c-requires : goal.note-c-requires
note-c-requires c = let A = c.requires in record { it = record { C = A.it; pl = _ }; at = grow_note A.at }

pub lean-requires : goal.lean-requires
lean-requires c = let A = c.requires in record { it = _; at = grow_lean A.at (c.note-c.ensures.all (record { C = A.it; pl = _ }) (grow_note A.at)) c.row_at-w.ensures c.level_one_size.ensures }

pub returns : goal.returns
returns c = record {
  all = λ C A.
      let N = c.note-c.ensures.all (record { C = C; pl = _ }) (grow_note A) in
      grown A N c.row_at-w.ensures c.level_one_size.ensures (c.lean.ensures.all C (grow_lean A N c.row_at-w.ensures c.level_one_size.ensures));
}
