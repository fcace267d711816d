-- The answer of writing, by the measure and the bits put. Assumes nothing.
use mathlib.Core.Path.{◌≡◌, sym, ap, ◌∙◌}
use mathlib.Core.Bool.{true, false}
use mathlib.Core.List.{List, ◌++◌}
use Prim.Native.Nat.{ℕ, ◌+◌, ◌-◌, ◌/◌, ◌%◌, ◌<◌, ◌≤◌}
use native.Mathlib.Omega.{arith}
use lib.Dec.{leb}
use lib.ListN.{length, replicate, length-append, length-replicate}
use borrow.Author.Tests.{le-leb, lt-leb}
use Rattle.rules.specs.Job.{bits_of, to_byte, bytes_of, file}
use Rattle.rules.proofs.Job.Bits.{Bytes, width, bytes_length}
use Rattle.rules.proofs.Job.Files.{byte_length}
use Rattle.bits.specs.Putting.{Put}
use Rattle.bits.proofs.Laws.Files.{bits_laid}
use Rattle.sheet_form.specs.Forms.{sheet_two}
use Rattle.sheet_form.specs.Sheets.{stages_bits, sheet_bits, sheet_bytes, write_sheet}
use Rattle.sheet_form.specs.Calls.{Areas, stages_in, sheet_of, sheet_in, unwritten, into, writer}
use Rattle.sheet_form.proofs.Forms.{two}
use Rattle.sheet_form.proofs.Sheets.{is_held, all_bits}
use Rattle.sheet_form.proofs.Back.{stand_is, held_in}
use Rattle.sheet_write.specs.Fits.{wrote, Measures, Measured}
use Rattle.std.specs.Prelude.{None, Ok, Err}
use Rattle.refusals.specs.declared.Refusal.TheVariants.{NoSheet, TooShort}
use Rattle.sheet_write.specs.Sections.{file_bits}

-- what no sheet can hold is refused with 15
pub refuses_plan : (K n : ℕ) (a : Areas) → Measured K n a None → (xs : List ℕ) → wrote (Err NoSheet) xs ≡ writer sheet_two K n a xs
unfolding writer into unwritten
refuses_plan K n a z xs = rw z

module _ {K n : ℕ} {a : Areas} {m : ℕ} (M : Measures K n a m) where
  bytes_are : sheet_bytes sheet_two (sheet_of K n a) ≡ bytes_of (file_bits K n a)
  unfolding file_bits
  bytes_are = all_bits sheet_two two (sheet_of K n a)

  is_file : sheet_in sheet_two K n a ≡ file (bytes_of (file_bits K n a))
  unfolding sheet_in write_sheet
  is_file =
      let F = M.fitting in
      let l = (held_in K n a.plan a.words a.counts (stand_is K n a F.held)).stages in
      let t = is_held sheet_two (sheet_of K n a) (record { height = F.height; few = le-leb (length (sheet_of K n a).stages) 65535 (omega (arith, l, F.few)); stages = F.fits }) in
      rw (F.held, sheet_in, t, write_sheet) (ap file bytes_are)

  whole_bytes : length (file_bits K n a) % 8 ≡ 0
  unfolding file_bits
  whole_bytes = byte_length (bits_of 8 2 ++ sheet_bits sheet_two (sheet_of K n a))

  -- so many bytes as hold the bits
  length_is : (m + 7) / 8 ≡ length (bytes_of (file_bits K n a))
  unfolding file_bits to_byte sheet_bits
  length_is =
      let T = sheet_of K n a in
      let bs = bits_of 8 2 ++ sheet_bits sheet_two T in
      let k = (8 - length bs % 8) % 8 in
      let ss = stages_in K n a.plan a.words a.counts in
      let e : length bs ≡ m = omega (
        arith,
        M.bits,
        length-append (bits_of 8 2) (sheet_bits sheet_two T),
        length-append (bits_of 4 K ++ bits_of 16 (length ss)) (stages_bits sheet_two K ss),
        length-append (bits_of 4 K) (bits_of 16 (length ss)),
        width 8 2,
        width 4 K,
        width 16 (length ss),
      ) in
      let l : length (bs ++ replicate k 0) ≡ length bs + k = length-append bs (replicate k 0) ∙ ap (λ (x : ℕ). length bs + x) (length-replicate {A = ℕ} k 0) in
      sym (bytes_length (bs ++ replicate k 0) ∙ omega (arith, l, e))

  -- a sheet longer than the lent bytes is refused with 17
  pub refuses_room : {xs : List ℕ} → length xs < (m + 7) / 8 → wrote (Err TooShort) xs ≡ writer sheet_two K n a xs
  unfolding writer into unwritten
  refuses_room {xs} k =
      let l : leb (length (bytes_of (file_bits K n a))) (length xs) ≡ false = lt-leb (length (bytes_of (file_bits K n a))) (length xs) (omega (arith, length_is)) in
      rw (is_file, into, l)

  -- one that fits stands over the front of them
  pub writes : {xs xs₁ : List ℕ} {r : ℕ} → (m + 7) / 8 ≤ length xs → Put (file_bits K n a) xs xs₁ 0 r → Bytes xs → Bytes xs₁ → wrote (Ok ((m + 7) / 8)) xs₁ ≡ writer sheet_two K n a xs
  unfolding writer into
  writes {xs} k P B B₁ =
      let l : leb (length (bytes_of (file_bits K n a))) (length xs) ≡ true = le-leb (length (bytes_of (file_bits K n a))) (length xs) (omega (arith, length_is)) in
      rw (is_file, into, l, length_is, bits_laid (file_bits K n a) whole_bytes P B B₁ (omega (arith, length_is, bytes_length (file_bits K n a))))
