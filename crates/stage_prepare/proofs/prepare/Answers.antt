-- `stage_prepare::prepare` meets its contract: each walk leaves what the next asks. Assumes nothing.
use Rattle.stage_prepare.proofs.Steps.{step_traverse, step_levels, step_reverse, step_lists, step_all}
use Rattle.stage_prepare.proofs.prepare.Goals as goal

pub traverse-k-requires : goal.traverse-k-requires
traverse-k-requires c = let s = c.requires in record { it = s.it; at = step_traverse s.at }

pub levels-top-requires : goal.levels-top-requires
levels-top-requires c = let s = c.requires in record { it = s.it; at = step_levels s.at (c.traverse-k.ensures.all s.it (step_traverse s.at)) }

pub reverse_levels-requires : goal.reverse_levels-requires
reverse_levels-requires c =
    let s = c.requires in
    let T = c.traverse-k.ensures.all s.it (step_traverse s.at) in
    record { it = s.it; at = step_reverse s.at T (c.levels-top.ensures.all s.it (step_levels s.at T)) }

pub level_lists-levels-requires : goal.level_lists-levels-requires
level_lists-levels-requires c =
    let s = c.requires in
    let T = c.traverse-k.ensures.all s.it (step_traverse s.at) in
    let L = c.levels-top.ensures.all s.it (step_levels s.at T) in
    record { it = s.it; at = step_lists s.at T L (c.reverse_levels.ensures.all s.it (step_reverse s.at T L)) c.wide.ensures }

pub returns : goal.returns
returns c = record {
  all = λ C B.
      let T = c.traverse-k.ensures.all C (step_traverse B) in
      let L = c.levels-top.ensures.all C (step_levels B T) in
      let R = c.reverse_levels.ensures.all C (step_reverse B T L) in
      step_all B T L R (c.level_lists-levels.ensures.all C (step_lists B T L R c.wide.ensures));
}
