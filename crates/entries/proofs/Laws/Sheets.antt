-- The entries of plan sheets. Assumes nothing.
use Prim.Native.Nat.{ℕ, ◌≤◌}
use mathlib.Core.List.{List, [], ◌∷◌}
use mathlib.Core.Path.{◌≡◌}
use lib.ListN.{length}
use Rattle.std.specs.Prelude.{Result, Ok, Err}
use Rattle.refusals.specs.declared.Refusal.{Refusal}
use Rattle.refusals.specs.Numbers.{number_said}
use Rattle.sheet_form.specs.Forms.{sheet_two}
use Rattle.sheet_form.specs.Calls.{Areas, Loaded, reader, writer}
use Rattle.sheet_write.specs.Fits.{wrote}
use Rattle.entries.specs.Entry.{entry, written, length_said}
use Rattle.entries.specs.Sheets.{sheet_read, sheet_written}
use Rattle.entries.proofs.Laws.Entry.{entry_told}

-- a sheet read, its number, height, stages and words written
pub entry_sheet_read : (gates bytes : List ℕ) (before : Areas) (xs : List ℕ) → 4 ≤ length xs → (o : Loaded) → o ≡ reader gates bytes before → {ys : List ℕ}
    → ys ≡ written (o.reply.number ∷ o.reply.height ∷ o.reply.stages ∷ o.reply.words ∷ []) xs → entry o.reply.number o.areas ys ≡ sheet_read gates bytes before xs
unfolding sheet_read
entry_sheet_read gates bytes before xs h o e d = rw (← e) (entry_told before o.areas o.reply.number (o.reply.height ∷ o.reply.stages ∷ o.reply.words ∷ []) xs h d)

-- a sheet written, its number and length written
pub entry_sheet_written : (K m : ℕ) (given : Areas) (bytes xs : List ℕ) → 2 ≤ length xs → (r : Result ℕ Refusal) (bytes' ys : List ℕ) (n : ℕ) → wrote r bytes' ≡ writer sheet_two K m given bytes
    → n ≡ number_said r → ys ≡ written (number_said r ∷ length_said r ∷ []) xs → entry n bytes' ys ≡ sheet_written K m given bytes xs
unfolding sheet_written
entry_sheet_written K m given bytes xs h (Ok k) bytes' ys n e p d = rw (← e, p) (entry_told bytes bytes' 0 (k ∷ []) xs h d)
entry_sheet_written K m given bytes xs h (Err r) bytes' ys n e p d = rw (← e, p) (entry_told bytes bytes' (number_said {A = ℕ} (Err r)) (0 ∷ []) xs h d)
