-- `checks::given_right` meets its contract. Assumes nothing.
use Prim.Native.Nat.{ℕ, ◌<◌}
use mathlib.Core.Bool.{true}
use mathlib.Core.Path.{◌≡◌}
use lib.Dec.{ltb}
use lib.ListN.{get_or, length}
use borrow.Author.Rules.{rules}
use borrow.Author.Tests.{lt-ltb, ltb-true}
use Rattle.rules.specs.Checks.{given_right}
use Rattle.rules.proofs.Lists.Members.{every_told}
use Rattle.checks.proofs.given_right.Goals as goal
use Rattle.checks.proofs.given_right.Goals.{After-all}

to : (c : After-all) → c.all.result ≡ true → (k : ℕ) → k < length c.args.given.now → get_or c.args.given.now k 0 < c.args.pins
to c = search rules

from : (c : After-all) → ((k : ℕ) → k < length c.args.given.now → get_or c.args.given.now k 0 < c.args.pins) → c.all.result ≡ true
from c = search rules

pub returns : goal.returns
unfolding given_right
returns c = every_told (λ p. ltb p c.args.pins) _ _ (λ t k h. lt-ltb _ _ (to c t k h)) (λ a. from c (λ k h. ltb-true _ _ (a k h)))
