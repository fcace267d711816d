-- `sheet_read::areas::has_room` meets its contract. Assumes nothing.
use Rattle.sheet_read.proofs.Laws.Areas.{room_stages, room_counts, room_words, room_total}
use Rattle.sheet_read.proofs.areas.has_room.Goals as goal

pub returns-then-rooms-sheet : goal.returns-then-rooms-sheet
returns-then-rooms-sheet c = room_stages _ _ _ _ _ _ c.requires c.rooms-rooms.ensures c.if-rooms-sheet.true

pub returns-then-counts-rooms : goal.returns-then-counts-rooms
returns-then-counts-rooms c = room_counts _ _ _ _ _ _ c.requires c.rooms-rooms.ensures c.if-counts-rooms.true

pub returns-then-words-word_limit : goal.returns-then-words-word_limit
returns-then-words-word_limit c = room_words _ _ _ _ _ _ c.requires c.rooms-rooms.ensures c.word_limit.ensures c.if-words-word_limit.true

pub returns : goal.returns
returns c = room_total _ _ _ _ _ _ c.requires c.rooms-rooms.ensures c.word_limit.ensures c.if-rooms-sheet.false c.if-counts-rooms.false c.if-words-word_limit.false
