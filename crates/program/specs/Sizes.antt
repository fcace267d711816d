-- Jobs of the program's sizes, and areas for them. Assumes nothing.
use Rattle.std.specs.Prelude.{◌≡◌, true, List, ℕ, suc, ◌*◌, ◌≤◌, length}
use Rattle.rules.specs.Cells.{is_height, stage_size}
use Rattle.rules.specs.Graph.{pin_count}
use Rattle.rules.specs.Job.{Job, most_height, most_pins, most_numbers}

unfoldable pub job_of : ℕ → (gates given records : List ℕ) → Job
job_of K gates given records = record { height = K; gates = gates; given = given; records = records }

pub record Fits (K : ℕ) (gates records : List ℕ) : Type 0 where
  pub height : K ≤ most_height
  pub pins : pin_count gates ≤ suc most_pins
  pub numbers : length records ≤ most_numbers

-- areas for any such job
pub record AreasAt (K : ℕ) (gates records pl ws cs w : List ℕ) : Type 0 where
  pub fits : Fits K gates records
  pub plan : length pl ≡ 8192
  pub words : length ws ≡ 32
  pub counts : length cs ≡ 4
  pub work : length w ≡ 12624

-- four rooms of the job's own height
pub record BuildAt (K : ℕ) (gates records pl ws cs w : List ℕ) : Type 0 where
  pub fits : Fits K gates records
  pub plan : is_height K ≡ true → length pl ≡ 4 * stage_size K
  pub words : length ws ≡ 32
  pub counts : length cs ≡ 4
  pub work : length w ≡ 12624

-- areas for what any file of the program's sizes holds
pub record ReadAt (g v c : List ℕ) : Type 0 where
  pub gates : length g ≡ 1002
  pub given : length v ≡ 4096
  pub records : length c ≡ 512
