-- `stage::build_one_stage` meets its contract: rules 1 to 11 in order. Assumes nothing.
use Rattle.stage.proofs.Laws.Stage.{stage_prepare_lem, stage_fill, stage_finish, stage_forget, staged}
use Rattle.stage.proofs.build_one_stage.Goals as goal

pub prepare-walk-requires : goal.prepare-walk-requires
prepare-walk-requires c = record { it = _; at = stage_prepare_lem c.requires.1.at }

pub fill_tree-q-requires : goal.fill_tree-q-requires
fill_tree-q-requires c = let s = c.requires.1 in record { it = _; at = stage_fill s.at (c.prepare-walk.ensures.all s.it (stage_prepare_lem s.at)) }

pub finish-r-requires : goal.finish-r-requires
finish-r-requires c =
    let s = c.requires.1 in
    let P = c.prepare-walk.ensures.all s.it (stage_prepare_lem s.at) in
    (c.requires.0, record { it = _; at = stage_finish s.at P (c.fill_tree-q.ensures.all s.it (stage_fill s.at P)) })

pub forget-requires : goal.forget-requires
forget-requires c =
    let s = c.requires.1 in
    let P = c.prepare-walk.ensures.all s.it (stage_prepare_lem s.at) in
    let F = c.fill_tree-q.ensures.all s.it (stage_fill s.at P) in
    stage_forget s.at P F (c.finish-r.ensures.all s.it (stage_finish s.at P F))

pub returns : goal.returns
returns c = record {
  all = λ C A.
      let P = c.prepare-walk.ensures.all C (stage_prepare_lem A) in
      let F = c.fill_tree-q.ensures.all C (stage_fill A P) in
      staged A P F (c.finish-r.ensures.all C (stage_finish A P F)) c.forget.ensures;
}
