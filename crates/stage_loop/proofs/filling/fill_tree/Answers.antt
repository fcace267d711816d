-- `stage_loop::filling::fill_tree` meets its contract: the lean loop's plan is that of rules 2 to 7, and its needed pins are counted once more. Assumes nothing.
use Rattle.stage_loop.proofs.Laws.Filling.{fill_grow, fill_none, filled_none, fill_count, filled_tree}
use Rattle.stage_loop.proofs.filling.fill_tree.Goals as goal

pub needed-requires : goal.needed-requires
needed-requires c = record { it = record { C = _; pl = _ }; at = fill_none c.requires.at }

pub returns-then-h-lt2 : goal.returns-then-h-lt2
returns-then-h-lt2 c = record { all = λ C A. filled_none A c.start_level-h.ensures c.if-h-lt2.true (c.needed.ensures.all (record { C = C; pl = _ }) (fill_none A)) }

pub grow-s-requires : goal.grow-s-requires
grow-s-requires c = record { it = _; at = fill_grow c.requires.at c.start_level-h.ensures c.if-h-lt2.false }

pub counted-requires : goal.counted-requires
counted-requires c = let A = c.requires in record { it = record { C = A.it; pl = _ }; at = fill_count A.at (c.grow-s.ensures.all A.it (fill_grow A.at c.start_level-h.ensures c.if-h-lt2.false)) }

pub returns : goal.returns
returns c = record {
  all = λ C A.
      let G = c.grow-s.ensures.all C (fill_grow A c.start_level-h.ensures c.if-h-lt2.false) in
      filled_tree A G (c.counted.ensures.all (record { C = C; pl = _ }) (fill_count A G));
}
