-- `sheet_write::fits::words_fit` meets its contract. Assumes nothing.
use Prim.Native.Nat.{ℕ, ◌<◌}
use mathlib.Core.Bool.{true}
use mathlib.Core.Path.{◌≡◌}
use lib.Dec.{ltb}
use lib.ListN.{get_or, length}
use borrow.Author.Rules.{rules}
use borrow.Author.Tests.{lt-ltb, ltb-true}
use Rattle.rules.proofs.Lists.Members.{every_told}
use Rattle.sheet_write.proofs.fits.words_fit.Goals as goal
use Rattle.sheet_write.proofs.fits.words_fit.Goals.{After-all}

to : (c : After-all) → c.all.result ≡ true → (k : ℕ) → k < length c.args.words.now → get_or c.args.words.now k 0 < c.args.limit
to c = search rules

from : (c : After-all) → ((k : ℕ) → k < length c.args.words.now → get_or c.args.words.now k 0 < c.args.limit) → c.all.result ≡ true
from c = search rules

pub returns : goal.returns
returns c = every_told (λ w. ltb w c.args.limit) _ _ (λ t k h. lt-ltb _ _ (to c t k h)) (λ a. from c (λ k h. ltb-true _ _ (a k h)))
