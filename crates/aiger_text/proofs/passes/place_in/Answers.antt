-- `aiger_text::passes::place_in` meets its contract. Assumes nothing.
use mathlib.Core.Path.{ap, ◌∙◌}
use lib.ListN.{length}
use Rattle.aiger_text.proofs.Laws.Windows.{blank_marks}
use Rattle.aiger_text.proofs.Laws.Whole.{all_length, place_cut, place_whole}
use Rattle.aiger_text.proofs.passes.place_in.Goals as goal

pub mark_lines-s-requires : goal.mark_lines-s-requires
mark_lines-s-requires c = record {
  some = c.requires.behind.some;
  inside = c.requires.behind.inside;
  blank = blank_marks _ _ (c.fill.ensures.after (λ y e. e)) c.requires.wide;
  wide = c.requires.room;
}

pub shape_of-gates-then-s : goal.shape_of-gates-then-s
shape_of-gates-then-s c = ap length c.mark_lines-s.ensures.stored ∙ all_length _ _

pub returns-then-s : goal.returns-then-s
returns-then-s c = place_cut c.fill.ensures.len c.mark_lines-s.ensures c.if-s.true

pub shape_of-gates : goal.shape_of-gates
shape_of-gates c = ap length c.mark_lines-s.ensures.stored ∙ all_length _ _

pub returns : goal.returns
returns c = place_whole c.fill.ensures.len c.mark_lines-s.ensures c.if-s.false c.use_lines-b.ensures c.min.ensures
