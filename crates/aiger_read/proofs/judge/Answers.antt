-- `aiger_read::judge` meets its contract. Assumes nothing.
use mathlib.Core.Path.{◌∙◌}
use Rattle.refusals.proofs.Numbers.{handed_on}
use Rattle.aiger_read.proofs.Laws.Answers.{own_size, refused_as, text_refused, room_refused, many_refused, graph_refused, records_refused, taken}
use Rattle.aiger_read.proofs.judge.Goals as goal

pub file-requires : goal.file-requires
file-requires c = own_size c.requires

pub returns-in_err-body : goal.returns-in_err-body
returns-in_err-body c = rw (handed_on _ _ c.from_residual.ensures.1) (refused_as (c.file.ensures.size ∙ own_size c.requires) _ (text_refused c.in_err-body.ensures _ _ _))

pub returns-then-not-has_room : goal.returns-then-not-has_room
returns-then-not-has_room c = rw c.from.ensures (refused_as (c.file.ensures.size ∙ own_size c.requires) _ (room_refused c.in_ok-body.ensures c.requires _ _ _ _ c.has_room.ensures c.if-not-has_room.true))

pub returns-then-h-gt65535 : goal.returns-then-h-gt65535
returns-then-h-gt65535 c = rw c.from-then-h-gt65535.ensures (refused_as (c.file.ensures.size ∙ own_size c.requires) _ (many_refused c.in_ok-body.ensures c.requires _ _ _ _ c.has_room.ensures c.if-not-has_room.false c.if-h-gt65535.true))

pub returns-in_err-refusal : goal.returns-in_err-refusal
returns-in_err-refusal c = rw (handed_on _ _ c.from_residual-in_err-refusal.ensures.1) (refused_as (c.file.ensures.size ∙ own_size c.requires) _ (graph_refused c.in_ok-body.ensures c.requires _ _ _ _ c.has_room.ensures c.if-not-has_room.false c.if-h-gt65535.false _ c.in_err-refusal.ensures))

pub returns-then-h-gt65536 : goal.returns-then-h-gt65536
returns-then-h-gt65536 c = rw c.from-then-h-gt65536.ensures (refused_as (c.file.ensures.size ∙ own_size c.requires) _ (records_refused c.in_ok-body.ensures c.requires _ _ _ _ c.has_room.ensures c.if-not-has_room.false c.if-h-gt65535.false _ c.in_ok-refusal.ensures c.if-h-gt65536.true))

pub returns : goal.returns
returns c = record { size = c.file.ensures.size ∙ own_size c.requires; is = taken c.in_ok-body.ensures c.requires _ _ _ _ c.has_room.ensures c.if-not-has_room.false c.if-h-gt65535.false _ c.in_ok-refusal.ensures c.if-h-gt65536.false }
