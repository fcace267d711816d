-- `replay_tape::sources::source_above` meets its contract. Assumes nothing.
use mathlib.Core.Path.{sym, ◌∙◌}
use native.Mathlib.Omega.{arith}
use Rattle.fold_stage.proofs.Laws.Cells.{none, some}
use Rattle.replay_tape.specs.Sources.{source_for}
use Rattle.replay_tape.proofs.Laws.Sources.{source_empty, source_copies, source_first_lacks, source_second_lacks, source_and}
use Rattle.replay_tape.proofs.sources.source_above.Goals.{then-is_empty-2-via-then-is_empty-2, then-is_empty-2-via-else-is_empty-2+then-is_empty-3}
use Rattle.replay_tape.proofs.sources.source_above.Goals as goal

pub returns-then-is_empty : goal.returns-then-is_empty
unfolding source_for
returns-then-is_empty c = source_empty _ _ _ c.requires (none c.is_empty.ensures c.if-is_empty.true)

pub returns-then-not-ands : goal.returns-then-not-ands
unfolding source_for
returns-then-not-ands c = source_copies _ _ _ c.requires (some c.is_empty.ensures c.if-is_empty.false) _ c.first_lower-a.ensures (sym c.ands.ensures ∙ c.if-not-ands.true)

pub returns-then-is_empty-2 : goal.returns-then-is_empty-2
unfolding source_for
returns-then-is_empty-2 c =
    let held = some c.is_empty.ensures c.if-is_empty.false in
    let joins = sym c.ands.ensures ∙ c.if-not-ands.false in
    elim c.then-is_empty-2.branch [
      | then-is_empty-2-via-then-is_empty-2 w ↦ source_first_lacks _ _ _ c.requires held _ c.first_lower-a.ensures joins (none c.is_empty-2.ensures w.if-is_empty-2.true)
      | then-is_empty-2-via-else-is_empty-2+then-is_empty-3 w ↦
          source_second_lacks _ _ _ c.requires held _ c.first_lower-a.ensures joins (some c.is_empty-2.ensures w.if-is_empty-2.false) _ c.second_lower-b.ensures
          (none w.is_empty-else-is_empty-2.ensures w.if-is_empty-3.true)
    ]

pub and_source-requires : goal.and_source-requires
and_source-requires c =
    let p = c.requires in
    record {
      first_bound = p.small _ (omega (arith, c.first_lower-a.ensures, p.above)) (omega (arith, c.first_lower-a.ensures, p.first));
      second_bound = p.small _ (omega (arith, c.second_lower-b.ensures, p.beyond)) (omega (arith, c.second_lower-b.ensures, p.second));
    }

pub returns : goal.returns
unfolding source_for
returns c =
    source_and _ _ _ c.requires (some c.is_empty.ensures c.if-is_empty.false) _ c.first_lower-a.ensures (sym c.ands.ensures ∙ c.if-not-ands.false)
    (some c.is_empty-2.ensures c.if-is_empty-2.false) _ c.second_lower-b.ensures (some c.is_empty-else-is_empty-2.ensures c.if-is_empty-3.false) _ c.and_source.ensures
