use native.Mathlib.Omega.{arith}
use mathlib.Core.Path.{refl}
use Rattle.stage_tree.proofs.Counts.Pins.{above_zero}
use Rattle.stage_tree.proofs.Bits.Cells.{spot_small}
use Rattle.stage_tree.proofs.Bits.Purges.{purged_few, purge_in, purge_low, purged_none, purge_empty, purged_zero, purge_first, purge_second, purged_both}
use Rattle.stage_tree.proofs.+purge_bit.Goals as goal

pub offset_bounds-stage-c : goal.offset_bounds-stage-c
offset_bounds-stage-c t c = let A = c.requires.at in omega (arith, purge_in A, spot_small A.spot)

pub bounds-stage-c : goal.bounds-stage-c
bounds-stage-c t c = purge_in c.requires.at

pub returns-then-v : goal.returns-then-v
returns-then-v t c = record { all = λ C A. purged_none A c.if-v.true }

pub empty_cell-requires : goal.empty_cell-requires
empty_cell-requires t c =
    let s = c.requires in
    record { it = s.it; at = purge_empty s.at refl c.if-v.false }

pub returns-then-h-eq0 : goal.returns-then-h-eq0
returns-then-h-eq0 t c =
    record {
      all = λ C A.
          let E = purge_empty A refl c.if-v.false in
          purged_zero A E (c.empty_cell.ensures.all C E) c.if-h-eq0.true;
    }

pub overflow_mul-low : goal.overflow_mul-low
overflow_mul-low t c = omega (arith, purge_low c.requires.at (above_zero _ c.if-h-eq0.false))

pub overflow_add-c : goal.overflow_add-c
overflow_add-c t c = omega (arith, purge_low c.requires.at (above_zero _ c.if-h-eq0.false))

pub purge_bit-first-requires : goal.purge_bit-first-requires
purge_bit-first-requires t c =
    let s = c.requires in
    let pos = above_zero _ c.if-h-eq0.false in
    let E = purge_empty s.at refl c.if-v.false in
    (omega (arith, pos), record { it = s.it; at = purge_first s.at E (c.empty_cell.ensures.all s.it E) pos })

pub overflow_add-c-2 : goal.overflow_add-c-2
overflow_add-c-2 t c = omega (arith, purge_low c.requires.at (above_zero _ c.if-h-eq0.false))

pub purge_bit-second-requires : goal.purge_bit-second-requires
purge_bit-second-requires t c =
    let s = c.requires in
    let pos = above_zero _ c.if-h-eq0.false in
    let E = purge_empty s.at refl c.if-v.false in
    let M = c.empty_cell.ensures.all s.it E in
    (omega (arith, pos), record { it = s.it; at = purge_second s.at E M pos (c.purge_bit-first.ensures.all s.it (purge_first s.at E M pos)) })

pub overflow_add-result : goal.overflow_add-result
overflow_add-result t c =
    let s = c.requires in
    let pos = above_zero _ c.if-h-eq0.false in
    let E = purge_empty s.at refl c.if-v.false in
    let M = c.empty_cell.ensures.all s.it E in
    let P = c.purge_bit-first.ensures.all s.it (purge_first s.at E M pos) in
    omega (arith, purged_few (omega (arith, s.at.spot.high)) P)

pub overflow_add-result-2 : goal.overflow_add-result-2
overflow_add-result-2 t c =
    let s = c.requires in
    let pos = above_zero _ c.if-h-eq0.false in
    let E = purge_empty s.at refl c.if-v.false in
    let M = c.empty_cell.ensures.all s.it E in
    let P = c.purge_bit-first.ensures.all s.it (purge_first s.at E M pos) in
    omega (arith, purged_few (omega (arith, s.at.spot.high)) P, purged_few (omega (arith, s.at.spot.high)) (c.purge_bit-second.ensures.all s.it (purge_second s.at E M pos P)))

pub returns : goal.returns
returns t c =
    record {
      all = λ C A.
          let pos = above_zero _ c.if-h-eq0.false in
          let E = purge_empty A refl c.if-v.false in
          let M = c.empty_cell.ensures.all C E in
          let P = c.purge_bit-first.ensures.all C (purge_first A E M pos) in
          purged_both A E M pos P (c.purge_bit-second.ensures.all C (purge_second A E M pos P));
    }
