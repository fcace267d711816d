-- `merge_unions::sizing::extend` meets its contract: more pins wait, and the traversal goes on. Assumes nothing.
use Rattle.merge_unions.proofs.Laws.Cones.{extend_wait, extend_context, extend_on, extended}
use Rattle.merge_unions.proofs.sizing.extend.Goals as goal

pub wait_part-n-requires : goal.wait_part-n-requires
wait_part-n-requires c = extend_wait c.requires.at

pub traverse_on-k-requires : goal.traverse_on-k-requires
traverse_on-k-requires c = let A = c.requires.at in let P = c.wait_part-n.ensures in record { it = extend_context A P; at = extend_on A P }

pub returns : goal.returns
returns c = record { all = λ x A. let P = c.wait_part-n.ensures in extended A P (c.traverse_on-k.ensures.all (extend_context A P) (extend_on A P)) }
