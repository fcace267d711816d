-- The entries of AIGER files. Assumes nothing.
use Prim.Native.Nat.{ℕ, ◌≤◌}
use mathlib.Core.List.{List, [], ◌∷◌}
use mathlib.Core.Path.{◌≡◌}
use lib.ListN.{length}
use Rattle.std.specs.Prelude.{Result, Ok, Err}
use Rattle.refusals.specs.declared.Refusal.{Refusal}
use Rattle.refusals.specs.Numbers.{number_said}
use Rattle.aiger_form.specs.Aag.{Netlist}
use Rattle.aiger_form.specs.Calls.{Import, importer, exporter}
use Rattle.aiger_write.specs.Answers.{export}
use Rattle.entries.specs.Entry.{entry, written, length_said}
use Rattle.entries.specs.Aiger.{rest, aiger_read, aiger_written}
use Rattle.entries.proofs.Laws.Entry.{entry_told}

-- a file read, its number, place, pin and counts written
pub entry_aiger_read : (bytes : List ℕ) (before : Netlist) (xs : List ℕ) → 6 ≤ length xs → (o : Import) → o ≡ importer bytes before → {ys : List ℕ} → ys ≡ written (o.reply.number ∷ rest o.reply) xs
    → entry o.reply.number o.areas ys ≡ aiger_read bytes before xs
unfolding aiger_read rest
entry_aiger_read bytes before xs h o e d = rw (← e) (entry_told before o.areas o.reply.number (rest o.reply) xs h d)

-- a file written, its number and length written
pub entry_aiger_written : (given : List ℕ) (N : Netlist) (bytes xs : List ℕ) → 2 ≤ length xs → (r : Result ℕ Refusal) (bytes' ys : List ℕ) (n : ℕ) → export r bytes' ≡ exporter given N bytes
    → n ≡ number_said r → ys ≡ written (number_said r ∷ length_said r ∷ []) xs → entry n bytes' ys ≡ aiger_written given N bytes xs
unfolding aiger_written
entry_aiger_written given N bytes xs h (Ok m) bytes' ys n e p d = rw (← e, p) (entry_told bytes bytes' 0 (m ∷ []) xs h d)
entry_aiger_written given N bytes xs h (Err r) bytes' ys n e p d = rw (← e, p) (entry_told bytes bytes' (number_said {A = ℕ} (Err r)) (0 ∷ []) xs h d)
