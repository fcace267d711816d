-- A job that was read fits the program's areas. Assumes nothing.
use mathlib.Core.Path.{◌≡◌, sym, ◌∙◌, ap}
use mathlib.Core.Bool.{true, ◌&&◌}
use mathlib.Core.List.{List, ◌++◌}
use Prim.Native.Nat.{ℕ, suc, ◌-◌, ◌*◌, ◌/◌, ◌%◌, ◌≤◌}
use native.Mathlib.Omega.{arith}
use lib.Dec.{leb, eqb}
use lib.ListN.{length, take, drop, replicate, length-append, length-map}
use lib.Seq.{take_at}
use borrow.Author.Tests.{leb-true, eqb-true}
use Rattle.rules.specs.Lists.{every, gather, up_to, laid_over}
use Rattle.rules.specs.Graph.{graph_of, pin_count}
use Rattle.rules.specs.Records.{Group}
use Rattle.rules.specs.Job.{Job, most_bytes, most_height, most_pins, most_numbers, bits_of, number_of, fits_program, no_job, job, read_job, job_bits, pins_bits, groups_bits, to_byte, bytes_of, gates_fit, is_mark, nodes_fit}
use Rattle.rules.proofs.Lists.Members.{and_true}
use Rattle.rules.proofs.Lists.Lengths.{length-up_to}
use Rattle.rules.proofs.Job.Bits.{Bytes, gather_width}
use Rattle.rules.proofs.Job.Files.{Written, written, only_written}
use Rattle.rules.specs.Traversal.{needed_runs}
use Rattle.rules.specs.Listing.{refused_line, job_text, printed}
use Rattle.listing.specs.Listing as listed
use Rattle.program.specs.Sizes.{job_of, Fits}

bytes_length : (bs : List ℕ) → length (bytes_of bs) ≡ length bs / 8
unfolding bytes_of
bytes_length bs = length-map (up_to (length bs / 8) 0) (λ i. number_of (take 8 (drop (8 * i) bs)) 0) ∙ length-up_to (length bs / 8) 0

to_byte_length : (bs : List ℕ) → length bs ≤ length (to_byte bs)
unfolding to_byte
to_byte_length bs = omega (arith, length-append bs (replicate ((8 - length bs % 8) % 8) 0))

-- 16 bits stand in the file for each given pin
given_bits_lem : (J : Job) (gs : List Group) → 16 * length J.given ≤ length (job_bits J gs)
unfolding job_bits
given_bits_lem J gs =
    let a : List ℕ = bits_of 4 J.height ++ bits_of 16 (pin_count J.gates - 1) ++ pins_bits (graph_of (drop 2 J.gates)) ++ bits_of 16 (length J.given) in
    let g : List ℕ = gather (bits_of 16) J.given in
    omega (arith, gather_width 16 J.given, length-append a g, length-append (a ++ g) (bits_of 16 (length gs)), length-append (a ++ g ++ bits_of 16 (length gs)) (groups_bits gs))

module _ (bs : List ℕ) (J : Job) (B : Bytes bs) (e : read_job bs ≡ job J) where
  W : Written J bs
  W = written J bs (only_written J bs B e)

  parts : (leb J.height most_height ≡ true) × (leb (pin_count J.gates) (suc most_pins) ≡ true) × (leb (length J.records) most_numbers ≡ true)
  unfolding fits_program
  parts =
      let a = and_true (leb J.height most_height && leb (pin_count J.gates) (suc most_pins)) (leb (length J.records) most_numbers) W.fits in
      let b = and_true (leb J.height most_height) (leb (pin_count J.gates) (suc most_pins)) a.0 in
      (b.0, b.1, a.1)

  -- a job that was read is of the program's sizes
  pub read_fits : Fits J.height J.gates J.records
  read_fits = record {
    height = leb-true J.height most_height parts.0;
    pins = leb-true (pin_count J.gates) (suc most_pins) parts.1;
    numbers = leb-true (length J.records) most_numbers parts.2;
  }

  even : length J.gates % 2 ≡ 0
  unfolding gates_fit
  even =
      let a = and_true (eqb (length J.gates % 2) 0 && leb 1 (pin_count J.gates) && every is_mark (take 2 J.gates)) (nodes_fit (graph_of J.gates)) W.held.gates in
      let b = and_true (eqb (length J.gates % 2) 0 && leb 1 (pin_count J.gates)) (every is_mark (take 2 J.gates)) a.0 in
      eqb-true _ _ (and_true (eqb (length J.gates % 2) 0) (leb 1 (pin_count J.gates)) b.0).0

  -- the gates of a job that was read fit their area
  pub read_gates : length J.gates ≤ 1002
  unfolding pin_count
  read_gates = omega (arith, even, read_fits.pins)

  -- so do its records
  pub read_records_lem : length J.records ≤ 512
  read_records_lem = omega (arith, read_fits.numbers)

  -- so do its given pins, since the file has 16 bits for each
  pub read_given : length J.given ≤ 4096
  read_given =
      let b : List ℕ = job_bits J W.gs in
      omega (arith, leb-true (length bs) most_bytes W.short, ap length W.is, bytes_length (to_byte b), to_byte_length b, given_bits_lem J W.gs)

-- ---- what is printed

-- bytes that are no job print refusal 11
pub printed_none : (bs out : List ℕ) → read_job bs ≡ no_job → listed.written (refused_line 11 0 0) out ≡ listed.written (printed needed_runs bs) out
unfolding printed
printed_none bs out e = rw (e, printed)

-- bytes that are a job print the job's text
pub printed_job : (bs out : List ℕ) (J : Job) → read_job bs ≡ job J → listed.written (job_text needed_runs (job_of J.height J.gates J.given J.records)) out ≡ listed.written (printed needed_runs bs) out
unfolding printed job_of
printed_job bs out J e = rw (e, printed)

-- a list laid over an area, and read again
pub front : (n : ℕ) (xs area : List ℕ) → n ≡ length xs → take n (laid_over xs area) ≡ xs
unfolding laid_over
front n xs area e = take_at xs (drop (length xs) area) n (sym e)
