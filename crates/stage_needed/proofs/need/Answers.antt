-- `stage_needed::need` meets its contract: each way through it is a case of the definition. Assumes nothing.
use Rattle.stage_needed.proofs.Laws.Asking.{need_some, need_placed, itself_at, need_itself, ask_first, ask_second, need_both}
use Rattle.stage_needed.proofs.need.Goals as goal

pub returns-then-is_in : goal.returns-then-is_in
returns-then-is_in c = record { all = λ x A. need_placed A _ c.is_in.ensures c.if-is_in.true }

pub itself-requires : goal.itself-requires
itself-requires c = let s = c.requires in record { it = s.it; at = itself_at s.at _ c.is_in.ensures c.if-is_in.false _ c.get-h.ensures c.if-h-lt2.true }

pub returns-then-h-lt2 : goal.returns-then-h-lt2
returns-then-h-lt2 c = record {
  all = λ x A. need_itself A _ c.is_in.ensures c.if-is_in.false _ c.get-h.ensures
      (c.itself.ensures.all x (itself_at A _ c.is_in.ensures c.if-is_in.false _ c.get-h.ensures c.if-h-lt2.true));
}

pub ask-k-requires : goal.ask-k-requires
ask-k-requires c =
    let s = c.requires in
    record { it = s.it; at = ask_first s.at _ c.is_in.ensures c.if-is_in.false _ c.get-h.ensures c.if-h-lt2.false _ _ (c.in-Some.ensures.all s.it.C s.at.reads) }

pub ask-requires : goal.ask-requires
ask-requires c =
    let s = c.requires in
    let F = c.in-Some.ensures.all s.it.C s.at.reads in
    record {
      it = s.it;
      at = ask_second s.at _ c.is_in.ensures c.if-is_in.false _ c.get-h.ensures c.if-h-lt2.false _ _ F
          (c.ask-k.ensures.all s.it (ask_first s.at _ c.is_in.ensures c.if-is_in.false _ c.get-h.ensures c.if-h-lt2.false _ _ F));
    }

pub returns-in-None : goal.returns-in-None
returns-in-None c = record { all = λ x A. absurd (need_some A _ c.is_in.ensures c.if-is_in.false _ c.get-h.ensures c.if-h-lt2.false (c.in-None.ensures.all x.C A.reads)) }

pub returns-in-Some : goal.returns-in-Some
returns-in-Some c = record {
  all = λ x A.
      let F = c.in-Some.ensures.all x.C A.reads in
      let s = c.ask-k.ensures.all x (ask_first A _ c.is_in.ensures c.if-is_in.false _ c.get-h.ensures c.if-h-lt2.false _ _ F) in
      need_both A _ c.is_in.ensures c.if-is_in.false _ c.get-h.ensures c.if-h-lt2.false _ _ F s
      (c.ask.ensures.all x (ask_second A _ c.is_in.ensures c.if-is_in.false _ c.get-h.ensures c.if-h-lt2.false _ _ F s));
}
