use mathlib.Core.Bool.{◌&&◌}
use mathlib.Core.Path.{◌≡◌, refl, sym, ◌∙◌}
use lib.ListN.{drop, length-drop}
use lib.Seq.{take-length}
use Rattle.aiger_write.specs.Jobs.{output_at, outputs_only}
use Rattle.aiger_write.proofs.Laws.Shape.{outputs_cut, outputs_end}
use Rattle.aiger_write.proofs.jobs.outputs_only.Goals as goal
use Rattle.aiger_write.proofs.jobs.outputs_only.Goals.{In-Some}

pub loop-pair-init : goal.loop-pair-init
loop-pair-init c =
    let i = c.into_iter-pair-iterator.ensures.into_iter_gives in
    let s = c.chunks-pair-items.ensures in
    rw i (s.size, rw (s.rest, ← length-drop c.args.from c.args.records.now, take-length (drop c.args.from c.args.records.now)) refl)

cut : (c : In-Some) → outputs_only c.loop-pair.pair-iterator.rest.now ≡ output_at c.in-Some.pair.now && outputs_only c.next.new.self.rest.now
cut c =
    let s = c.in-Some.ensures.steps in
    let e = c.loop-pair.invariant.0 in
    rw s.1.0 (outputs_cut _ _ (rw (e, s.1.0) at s.1.1) (rw s.1.0 at s.1.2))

pub returns-then-not-is_output : goal.returns-then-not-is_output
returns-then-not-is_output c =
    let d = (goal.at.returns-then-not-is_output c).In-Some in
    sym (c.loop-pair.invariant.1 ∙ cut d ∙ rw (← c.is_output.ensures, c.if-not-is_output.true))

pub loop-pair-preserved : goal.loop-pair-preserved
loop-pair-preserved c =
    let d = (goal.at.loop-pair-preserved c).In-Some in
    (c.in-Some.ensures.steps.0 ∙ c.loop-pair.invariant.0, c.loop-pair.invariant.1 ∙ cut d ∙ rw (← c.is_output.ensures, c.if-not-is_output.false))

pub returns : goal.returns
returns c = outputs_end _ c.in-None.ensures.steps.1.0 ∙ sym c.loop-pair.invariant.1
