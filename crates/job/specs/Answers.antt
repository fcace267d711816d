-- What reading a job file answers, and the lent areas then. Assumes nothing.
use Rattle.std.specs.Prelude.{Bool, true, false, ◌&&◌, Result, Ok, Err, List, ℕ, leb, length}
use Rattle.rules.specs.Lists.{laid_over}
use Rattle.rules.specs.Job.{Job, Job?, no_job, job}
use Rattle.refusals.specs.declared.Refusal.{Refusal}
use Rattle.refusals.specs.Numbers.{number_of}
use Rattle.job.specs.declared.Job as code

pub record Outcome : Type 0 where
  pub number : ℕ
  pub height : ℕ
  pub gates : ℕ
  pub given : ℕ
  pub records : ℕ
  pub gates_area : List ℕ
  pub given_area : List ℕ
  pub records_area : List ℕ

-- a job's height and counts, or a refusal
unfoldable pub outcome : Result code.Job Refusal → (g v c : List ℕ) → Outcome
outcome (Ok j) g v c = record { number = 0; height = j.height; gates = j.gates; given = j.given; records = j.records; gates_area = g; given_area = v; records_area = c }
outcome (Err r) g v c = record { number = number_of r; height = 0; gates = 0; given = 0; records = 0; gates_area = g; given_area = v; records_area = c }

-- nothing changed
unfoldable pub refused : ℕ → (g v c : List ℕ) → Outcome
refused n g v c = record { number = n; height = 0; gates = 0; given = 0; records = 0; gates_area = g; given_area = v; records_area = c }

unfoldable pub room_for : Job → (g v c : List ℕ) → Bool
room_for J g v c = leb (length J.gates) (length g) && leb (length J.given) (length v) && leb (length J.records) (length c)

-- the job's lists over the front of the areas
unfoldable pub laid : Job → (g v c : List ℕ) → Outcome
laid J g v c = record {
  number = 0;
  height = J.height;
  gates = length J.gates;
  given = length J.given;
  records = length J.records;
  gates_area = laid_over J.gates g;
  given_area = laid_over J.given v;
  records_area = laid_over J.records c;
}

unfoldable pub read_into : Job? → (g v c : List ℕ) → Outcome
read_into no_job g v c = refused 11 g v c
read_into (job J) g v c = elim (room_for J g v c) [ true ↦ laid J g v c | false ↦ refused 2 g v c ]
