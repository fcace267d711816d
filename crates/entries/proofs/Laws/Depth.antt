-- The entries that tell D and what is set aside. Assumes nothing.
use Prim.Native.Nat.{ℕ, ◌≤◌}
use mathlib.Core.List.{List, [], ◌∷◌}
use mathlib.Core.Path.{◌≡◌}
use lib.ListN.{length}
use Rattle.depth.specs.Calls.{Told, Aside, tell_depth, tell_aside}
use Rattle.entries.specs.Entry.{entry, written}
use Rattle.entries.specs.Depth.{depth_told, reserved_told}
use Rattle.entries.proofs.Laws.Entry.{entry_told}

module _ (gates given records w xs : List ℕ) where
  -- D, with its number and pin written
  pub entry_deep : 3 ≤ length xs → (o : Told ℕ) → o ≡ tell_depth gates given records w → {ys : List ℕ} → ys ≡ written (o.number ∷ o.told ∷ o.pin ∷ []) xs
      → entry o.number o.work ys ≡ depth_told gates given records w xs
  unfolding depth_told
  entry_deep h o e d = rw (← e) (entry_told w o.work o.number (o.told ∷ o.pin ∷ []) xs h d)

  -- what is set aside, likewise
  pub entry_aside : 5 ≤ length xs → (o : Told Aside) → o ≡ tell_aside gates given records w → {ys : List ℕ}
      → ys ≡ written (o.number ∷ o.told.memories ∷ o.told.duplicates ∷ o.told.words ∷ o.pin ∷ []) xs → entry o.number o.work ys ≡ reserved_told gates given records w xs
  unfolding reserved_told
  entry_aside h o e d = rw (← e) (entry_told w o.work o.number (o.told.memories ∷ o.told.duplicates ∷ o.told.words ∷ o.pin ∷ []) xs h d)
