-- What the entries of a job file return and leave. Assumes nothing.
use Rattle.std.specs.Prelude.{List, [], ◌∷◌, ℕ}
use Rattle.rules.specs.Job.{Job, read_job, write_job}
use Rattle.job.specs.Answers.{read_into}
use Rattle.job_write.specs.Answers.{write_into}
use Rattle.entries.specs.Entry.{Entry, entered}

-- the areas that a job is read into
pub record Lists : Type 0 where
  pub gates : List ℕ
  pub given : List ℕ
  pub records : List ℕ

unfoldable pub lists : (gates given records : List ℕ) → Lists
lists g v c = record { gates = g; given = v; records = c }

-- number, height, and how many numbers each area has then
unfoldable pub job_read : (bytes : List ℕ) → Lists → List ℕ → Entry Lists
job_read bytes l xs =
    let o = read_into (read_job bytes) l.gates l.given l.records in
    entered l (lists o.gates_area o.given_area o.records_area) o.number (o.height ∷ o.gates ∷ o.given ∷ o.records ∷ []) xs

-- number and length, and the bytes
unfoldable pub job_written : Job → (bytes answer : List ℕ) → Entry (List ℕ)
job_written J bytes xs =
    let o = write_into (write_job J) bytes in
    entered bytes o.bytes o.number (o.length ∷ []) xs
