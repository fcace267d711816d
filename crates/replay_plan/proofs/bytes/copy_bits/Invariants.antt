-- `replay_plan::bytes::copy_bits` meets its contract. Assumes nothing.
use lib.ListN.{get_or}
use Rattle.rules.specs.Fold.{as_number}
use Rattle.replay_form.specs.Clocks.{is_one}
use Rattle.replay_plan.proofs.Laws.Bytes.{Filled}
use Rattle.replay_plan.proofs.bytes.copy_bits.Given as goal

abbrev pub invariant-loop-i : goal.invariant-loop-i
invariant-loop-i l = Filled (λ k. as_number (is_one (get_or l.from k 0))) l.initial.to l.i l.to
