-- What writing a job file answers, and the lent bytes then. Assumes nothing.
use Rattle.std.specs.Prelude.{true, false, Result, Ok, Err, List, ℕ, leb, length}
use Rattle.rules.specs.Lists.{laid_over}
use Rattle.rules.specs.Job.{Job, File?, no_file, file}
use Rattle.refusals.specs.declared.Refusal.{Refusal}
use Rattle.refusals.specs.Numbers.{number_of}

abbrev pub job_of : ℕ → (g v c : List ℕ) → Job
job_of K g v c = record { height = K; gates = g; given = v; records = c }

pub record Outcome : Type 0 where
  pub number : ℕ
  pub length : ℕ
  pub bytes : List ℕ

-- a file's length, or a refusal
unfoldable pub outcome : Result ℕ Refusal → List ℕ → Outcome
outcome (Ok n) xs = record { number = 0; length = n; bytes = xs }
outcome (Err r) xs = record { number = number_of r; length = 0; bytes = xs }

-- nothing changed
unfoldable pub refused : ℕ → List ℕ → Outcome
refused n xs = record { number = n; length = 0; bytes = xs }

-- the file over the front of the bytes
unfoldable pub write_into : File? → List ℕ → Outcome
write_into no_file xs = refused 11 xs
write_into (file bs) xs = elim (leb (length bs) (length xs)) [ true ↦ record { number = 0; length = length bs; bytes = laid_over bs xs } | false ↦ refused 2 xs ]
