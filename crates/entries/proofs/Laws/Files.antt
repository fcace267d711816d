-- The entries of listings and job files. Assumes nothing.
use Prim.Native.Nat.{ℕ, ◌≤◌}
use mathlib.Core.List.{List, [], ◌∷◌}
use mathlib.Core.Path.{◌≡◌}
use lib.ListN.{length}
use Rattle.std.specs.Prelude.{Result, Ok, Err}
use Rattle.refusals.specs.declared.Refusal.{Refusal}
use Rattle.refusals.specs.Numbers.{number_said}
use Rattle.rules.specs.Job.{Job, read_job, write_job}
use Rattle.listing.specs.Listing as text
use Rattle.job.specs.Answers as job
use Rattle.job_write.specs.Answers as file
use Rattle.entries.specs.Entry.{entry, written, length_said}
use Rattle.entries.specs.Listing.{answer_listed}
use Rattle.entries.specs.Jobs.{lists, job_read, job_written}
use Rattle.entries.proofs.Laws.Entry.{entry_told}

-- a listing, its number and length written
pub entry_listed : (K number stages stage pin : ℕ) (plan words counts out xs : List ℕ) → 2 ≤ length xs → (r : Result ℕ Refusal) (out' ys : List ℕ) (n : ℕ)
    → text.told r out' ≡ text.answered K number stages stage pin plan words counts out → n ≡ number_said r → ys ≡ written (number_said r ∷ length_said r ∷ []) xs
    → entry n out' ys ≡ answer_listed K number stages stage pin plan words counts out xs
unfolding answer_listed text.outcome
entry_listed K number stages stage pin plan words counts out xs h (Ok m) out' ys n e p d = rw (← e, p) (entry_told out out' 0 (m ∷ []) xs h d)
entry_listed K number stages stage pin plan words counts out xs h (Err r) out' ys n e p d = rw (← e, p) (entry_told out out' (number_said {A = ℕ} (Err r)) (0 ∷ []) xs h d)

-- a job read, its number, height and counts written
pub entry_read : (bytes g v c xs : List ℕ) → 5 ≤ length xs → (o : job.Outcome) → o ≡ job.read_into (read_job bytes) g v c → {ys : List ℕ} → ys ≡ written (o.number ∷ o.height ∷ o.gates ∷ o.given ∷ o.records ∷ []) xs
    → entry o.number (lists o.gates_area o.given_area o.records_area) ys ≡ job_read bytes (lists g v c) xs
unfolding job_read lists
entry_read bytes g v c xs h o e d = rw (← e) (entry_told (lists g v c) (lists o.gates_area o.given_area o.records_area) o.number (o.height ∷ o.gates ∷ o.given ∷ o.records ∷ []) xs h d)

-- a job written, its number and length written
pub entry_written : (J : Job) (bytes xs : List ℕ) → 2 ≤ length xs → (r : Result ℕ Refusal) (bytes' ys : List ℕ) (n : ℕ) → file.outcome r bytes' ≡ file.write_into (write_job J) bytes
    → n ≡ number_said r → ys ≡ written (number_said r ∷ length_said r ∷ []) xs → entry n bytes' ys ≡ job_written J bytes xs
unfolding job_written file.outcome
entry_written J bytes xs h (Ok m) bytes' ys n e p d = rw (← e, p) (entry_told bytes bytes' 0 (m ∷ []) xs h d)
entry_written J bytes xs h (Err r) bytes' ys n e p d = rw (← e, p) (entry_told bytes bytes' (number_said {A = ℕ} (Err r)) (0 ∷ []) xs h d)
