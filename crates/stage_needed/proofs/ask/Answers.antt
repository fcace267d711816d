-- `stage_needed::ask` meets its contract: its tests are the definition's. Assumes nothing.
use Rattle.stage_needed.proofs.Laws.Asking.{ask_high, ask_placed, ask_missing}
use Rattle.stage_needed.proofs.ask.Goals as goal
use Rattle.stage_needed.proofs.ask.Goals.{then-get-ne0-via-then-get-ne0, then-get-ne0-via-else-get-ne0+then-is_in}

pub returns-then-get-ne0 : goal.returns-then-get-ne0
returns-then-get-ne0 c = record {
  all = λ x A. elim c.then-get-ne0.branch [
    | then-get-ne0-via-then-get-ne0 w ↦ ask_high A _ c.get.ensures w.if-get-ne0.true
    | then-get-ne0-via-else-get-ne0+then-is_in w ↦ ask_placed A _ c.get.ensures w.if-get-ne0.false _ w.is_in.ensures w.if-is_in.true
  ];
}

pub returns : goal.returns
returns c = record { all = λ x A. ask_missing A _ c.get.ensures c.if-get-ne0.false _ c.is_in.ensures c.if-is_in.false c.enlist.ensures }
