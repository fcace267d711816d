-- What was read of a file, in areas that hold any job of the program's sizes. Assumes nothing.
use mathlib.Core.Path.{◌≡◌, refl, ap}
use mathlib.Core.Bool.{true}
use mathlib.Core.List.{List}
use Prim.Native.Nat.{ℕ, ◌≤◌}
use native.Mathlib.Omega.{arith}
use lib.Dec.{leb}
use lib.ListN.{length, take}
use borrow.Author.Tests.{le-leb}
use Rattle.rules.specs.Lists.{laid_over}
use Rattle.rules.specs.Job.{Job, Job?, no_job, job, read_job}
use Rattle.rules.proofs.Job.Bits.{Bytes}
use Rattle.std.specs.Prelude.{Ok, Err}
use Rattle.refusals.specs.declared.Refusal.{Refusal}
use Rattle.refusals.proofs.Numbers.{number_is}
use Rattle.job.specs.declared.Job as code
use Rattle.job.specs.Answers as read
use Rattle.program.specs.Sizes.{ReadAt, Fits}
use Rattle.program.proofs.Laws.Read.{read_fits, read_gates, read_given, read_records_lem, front}

job_cases : {P : Type 0} (x : Job?) → (x ≡ no_job → P) → ((J : Job) → x ≡ job J → P) → P
job_cases no_job f g = f refl
job_cases (job J) f g = g J refl

-- the job stands in the areas
pub record Got (bs : List ℕ) (a : code.Job) (g v c : List ℕ) : Type 0 where
  pub J : Job
  pub is : read_job bs ≡ job J
  pub fits : Fits J.height J.gates J.records
  pub height : a.height ≡ J.height
  pub gates : take a.gates g ≡ J.gates
  pub given : take a.given v ≡ J.given
  pub records : take a.records c ≡ J.records
  pub gates_in : a.gates ≤ 1002
  pub given_in : a.given ≤ 4096
  pub records_in : a.records ≤ 512

module _ (bs g v c : List ℕ) (B : Bytes bs) (A : ReadAt g v c) (g' v' c' : List ℕ) where
  module _ (J : Job) (j : read_job bs ≡ job J) where
    room : read.room_for J g v c ≡ true
    unfolding read.room_for
    room =
        let x : leb (length J.gates) (length g) ≡ true = le-leb (length J.gates) (length g) (omega (arith, A.gates, read_gates bs J B j)) in
        let y : leb (length J.given) (length v) ≡ true = le-leb (length J.given) (length v) (omega (arith, A.given, read_given bs J B j)) in
        let z : leb (length J.records) (length c) ≡ true = le-leb (length J.records) (length c) (omega (arith, A.records, read_records_lem bs J B j)) in
        rw (x, y, z)

    is_laid : (o : read.Outcome) → o ≡ read.read_into (read_job bs) g v c → o ≡ read.laid J g v c
    unfolding read.read_into
    is_laid o e = rw (j, read.read_into, room) at e

    got : (a : code.Job) → read.outcome (Ok a) g' v' c' ≡ read.read_into (read_job bs) g v c → Got bs a g' v' c'
    unfolding read.outcome read.laid
    got a e =
        let l = is_laid (read.outcome (Ok a) g' v' c') e in
        let ng : a.gates ≡ length J.gates = ap (λ (o : read.Outcome). o.gates) l in
        let nv : a.given ≡ length J.given = ap (λ (o : read.Outcome). o.given) l in
        let nc : a.records ≡ length J.records = ap (λ (o : read.Outcome). o.records) l in
        let lg : g' ≡ laid_over J.gates g = ap (λ (o : read.Outcome). o.gates_area) l in
        let lv : v' ≡ laid_over J.given v = ap (λ (o : read.Outcome). o.given_area) l in
        let lc : c' ≡ laid_over J.records c = ap (λ (o : read.Outcome). o.records_area) l in
        record {
          J = J;
          is = j;
          fits = read_fits bs J B j;
          height = ap (λ (o : read.Outcome). o.height) l;
          gates = rw lg (front a.gates J.gates g ng);
          given = rw lv (front a.given J.given v nv);
          records = rw lc (front a.records J.records c nc);
          gates_in = omega (arith, read_gates bs J B j);
          given_in = omega (arith, read_given bs J B j);
          records_in = omega (arith, read_records_lem bs J B j);
        }

  -- a refusal means that the bytes are no job
  pub read_none : (r : Refusal) → read.outcome (Err r) g' v' c' ≡ read.read_into (read_job bs) g v c → read_job bs ≡ no_job
  unfolding read.outcome read.laid
  read_none r e = job_cases (read_job bs) (λ j. j) (λ J j. absurd (number_is r (ap (λ (o : read.Outcome). o.number) (is_laid J j (read.outcome (Err r) g' v' c') e))))

  -- else a job was read, and it stands in the areas
  pub read_got : (a : code.Job) → read.outcome (Ok a) g' v' c' ≡ read.read_into (read_job bs) g v c → Got bs a g' v' c'
  unfolding read.outcome read.read_into read.refused
  read_got a e = job_cases (read_job bs)
      (λ j. absurd (let d : ◌≡◌ {A = ℕ} 0 11 = ap (λ (o : read.Outcome). o.number) (rw (j, read.read_into) at e) in omega arith))
      (λ J j. got J j a e)
