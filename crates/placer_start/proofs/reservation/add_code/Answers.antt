-- `placer_start::reservation::add_code` meets its contract: the chain tells whether the activation is new, and its head whether it is the first. Assumes nothing.
use mathlib.Core.Path.{sym, ◌∙◌}
use lib.Dec.{eqb}
use Rattle.rules.proofs.Lists.Members.{split, eqb_true, eqb_false}
use Rattle.placer_start.proofs.Laws.Codes.{head_at, coded_old, coded_first, coded_more}
use Rattle.placer_start.proofs.reservation.add_code.Goals as goal

pub returns-then-has_code : goal.returns-then-has_code
returns-then-has_code c = record { all = λ ys A. coded_old A (sym (c.has_code.ensures.all _ (head_at A _ c.get-head.ensures)).is ∙ c.if-has_code.true) }

pub returns : goal.returns
returns c = record {
  all = λ ys A.
      let new = sym (c.has_code.ensures.all _ (head_at A _ c.get-head.ensures)).is ∙ c.if-has_code.false in
      split (eqb c.get-head.result 0)
      (λ e. let z = rw e at c.from.ensures in rw z (coded_first A _ c.get-head.ensures new c.link.ensures (eqb_true _ _ e)))
      (λ e. let z = rw e at c.from.ensures in rw z (coded_more A _ c.get-head.ensures new c.link.ensures (eqb_false _ _ e)));
}
