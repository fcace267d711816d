-- The answer of writing, by the judgement, the measure and the bits put. Assumes nothing.
use mathlib.Core.Path.{◌≡◌, refl, sym, ap, ◌∙◌}
use mathlib.Core.Bool.{true, false}
use mathlib.Core.List.{List}
use Prim.Native.Nat.{ℕ, ◌/◌, ◌%◌, ◌<◌, ◌≤◌}
use native.Mathlib.Omega.{arith}
use lib.Dec.{leb}
use lib.ListN.{length}
use borrow.Author.Tests.{le-leb, lt-leb, leb-true}
use Rattle.std.specs.Prelude.{None}
use Rattle.rules.specs.Records.{groups_of}
use Rattle.rules.specs.Job.{Job, File?, no_file, file, bytes_of, job_bits, write_job}
use Rattle.rules.proofs.Job.Bits.{Bytes, bytes_length}
use Rattle.rules.proofs.Job.Files.{Written, written, is_written, byte_length}
use Rattle.bits.specs.Putting.{Put}
use Rattle.bits.proofs.Laws.Files.{bits_laid}
use Rattle.job_write.specs.Answers.{refused, write_into}
use Rattle.job_write.specs.Fits.{Fitting, Judged}
use Rattle.job_write.specs.Sections.{file_bits, Measured}

-- ---- no file

without : (f : File?) → ((bs : List ℕ) → f ≡ file bs → ⊥) → f ≡ no_file
without no_file h = refl
without (file bs) h = absurd (h bs refl)

-- a job that fits no file is refused with 11
pub refuses_job : {J : Job} → Judged J None → (xs : List ℕ) → refused 11 xs ≡ write_into (write_job J) xs
unfolding write_into
refuses_job {J} R xs =
    let n : write_job J ≡ no_file = without (write_job J) (λ bs w. let W = written J bs w in R W.gs W.held W.fits) in
    rw n

module _ {J : Job} {n : ℕ} (F : Fitting J n) where
  abbrev bytes : List ℕ
  bytes = bytes_of (file_bits J)

  same_bytes : (bs : List ℕ) (W : Written J bs) → bs ≡ bytes
  unfolding file_bits
  same_bytes bs W =
      let g : W.gs ≡ groups_of J.records = let q = sym W.held.read ∙ F.held.read in cc in
      W.is ∙ rw g

  whole_bytes : length (file_bits J) % 8 ≡ 0
  unfolding file_bits
  whole_bytes = byte_length (job_bits J (groups_of J.records))

  -- a job whose file would have more than 8,192 bytes is refused with 11
  pub refuses_long : {xs xs₁ : List ℕ} {m : ℕ} → Measured J xs xs₁ m → 65536 < m → refused 11 xs₁ ≡ write_into (write_job J) xs
  unfolding write_into
  refuses_long {xs} M h =
      let e : write_job J ≡ no_file = without (write_job J) (λ bs w.
      let W = written J bs w in
      omega (arith, leb-true (length bs) 8192 W.short, ap length (same_bytes bs W), bytes_length (file_bits J), M.bits, whole_bytes)) in
      rw (e, M.same)

  module _ (short : length (file_bits J) ≤ 65536) where
    is_file : write_job J ≡ file bytes
    unfolding file_bits
    is_file = is_written J bytes (record { gs = groups_of J.records; held = F.held; fits = F.fits; short = le-leb (length bytes) 8192 (omega (arith, bytes_length (file_bits J))); is = refl })

  -- a file longer than the lent bytes is refused with 2
  pub refuses_room : {xs xs₁ : List ℕ} {m : ℕ} → Measured J xs xs₁ m → m ≤ 65536 → length xs₁ < m / 8 → refused 2 xs₁ ≡ write_into (write_job J) xs
  unfolding write_into
  refuses_room {xs} M h k =
      let b = M.bits in
      let l : leb (length bytes) (length xs) ≡ false = lt-leb (length bytes) (length xs) (omega (arith, bytes_length (file_bits J), ap length M.same)) in
      rw (is_file (omega arith), write_into, l, M.same)

  -- a file that fits stands over the front of the lent bytes
  pub writes : {xs xs₁ xs₂ : List ℕ} {m r : ℕ} → Measured J xs xs₁ m → m ≤ 65536 → m / 8 ≤ length xs₁ → Put (file_bits J) xs₁ xs₂ 0 r → Bytes xs₁ → Bytes xs₂ →
      record { number = 0; length = m / 8; bytes = xs₂ } ≡ write_into (write_job J) xs
  unfolding write_into
  writes {xs} {xs₁} {m = m} M h k P B B₂ =
      let b = M.bits in
      let d = bytes_length (file_bits J) in
      let l : leb (length bytes) (length xs₁) ≡ true = le-leb (length bytes) (length xs₁) (omega arith) in
      let e : m / 8 ≡ length bytes = omega arith in
      rw (← M.same, is_file (omega arith), write_into, l, e, bits_laid (file_bits J) whole_bytes P B B₂ (omega arith))
