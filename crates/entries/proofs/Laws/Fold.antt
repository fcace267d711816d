-- The entry of a fold. Assumes nothing.
use Prim.Native.Nat.{ℕ, ◌≤◌}
use mathlib.Core.List.{List, [], ◌∷◌}
use mathlib.Core.Path.{◌≡◌}
use lib.ListN.{length}
use Rattle.rules.specs.Coded.{FoldOutcome, folder}
use Rattle.entries.specs.Entry.{entry, written}
use Rattle.entries.specs.Fold.{lent_to, plan_folded}
use Rattle.entries.proofs.Laws.Entry.{entry_told}

-- a fold, its number written
pub entry_folded : (K : ℕ) (plan bits r w xs : List ℕ) → 1 ≤ length xs → (o : FoldOutcome) → o ≡ folder K plan bits r w → {n : ℕ} → n ≡ o.number → {ys : List ℕ} → ys ≡ written (n ∷ []) xs
    → entry n (lent_to o.result o.work) ys ≡ plan_folded K plan bits (lent_to r w) xs
unfolding plan_folded lent_to
entry_folded K plan bits r w xs h o e f d = rw (← e, f) (entry_told (lent_to r w) (lent_to o.result o.work) o.number [] xs h (rw f at d))
