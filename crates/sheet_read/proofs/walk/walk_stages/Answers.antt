-- `sheet_read::walk::walk_stages` meets its contract. Assumes nothing.
use Prim.Native.Nat.{ℕ}
use native.Mathlib.Omega.{arith}
use lib.ListN.{length-replicate}
use Rattle.sheet_form.specs.Kinds.{number_for}
use Rattle.sheet_read.proofs.Laws.Walk.{size_most, area_asks, area_took, area_kept}
use Rattle.sheet_read.proofs.walk.walk_stages.Goals as goal

pub slice_bounds-cells-end : goal.slice_bounds-cells-end
slice_bounds-cells-end c = omega (arith, size_most c.requires c.stage_size-size.ensures)

pub read_stages-requires : goal.read_stages-requires
read_stages-requires c = area_asks c.requires c.stage_size-size.ensures _ (length-replicate {A = ℕ} 16384 0)

pub shape_of-plan : goal.shape_of-plan
shape_of-plan c = let a = c.args in (area_kept (number_for a.kind.sheet) a.kind.height a.gates.now a.n a.bytes.now a.plan.now a.words.now a.counts.now c.read_stages.new.plan c.read_stages.new.words c.read_stages.new.counts _ _ _ c.read_stages.ensures).plan

pub shape_of-words : goal.shape_of-words
shape_of-words c = let a = c.args in (area_kept (number_for a.kind.sheet) a.kind.height a.gates.now a.n a.bytes.now a.plan.now a.words.now a.counts.now c.read_stages.new.plan c.read_stages.new.words c.read_stages.new.counts _ _ _ c.read_stages.ensures).words

pub shape_of-counts : goal.shape_of-counts
shape_of-counts c = let a = c.args in (area_kept (number_for a.kind.sheet) a.kind.height a.gates.now a.n a.bytes.now a.plan.now a.words.now a.counts.now c.read_stages.new.plan c.read_stages.new.words c.read_stages.new.counts _ _ _ c.read_stages.ensures).counts

pub returns : goal.returns
returns c = let a = c.args in area_took (number_for a.kind.sheet) a.kind.height a.gates.now a.n a.bytes.now a.plan.now a.words.now a.counts.now c.read_stages.new.plan c.read_stages.new.words c.read_stages.new.counts _ _ _ c.read_stages.ensures
