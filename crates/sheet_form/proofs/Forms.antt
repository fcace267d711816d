-- Both sheets satisfy what the round trip asks of a cell, proved once for any sheet number. Assumes nothing.
use Prim.Native.Nat.{ℕ, ◌+◌, ◌*◌, ◌/◌, ◌%◌, ◌^◌, ◌<◌, ◌≤◌}
use mathlib.Core.Path.{◌≡◌, sym, ap, ◌∙◌}
use mathlib.Core.Bool.{true, false, not, ◌&&◌, ◌||◌}
use mathlib.Core.List.{List, ◌++◌, append_assoc}
use native.Mathlib.Nat.{div-div-eq-div-mul}
use native.Mathlib.Omega.{arith}
use lib.Dec.{ltb, eqb}
use lib.ListN.{length-append}
use borrow.Author.Tests.{lt-ltb, ltb-true}
use Rattle.rules.specs.Cells.{is_height, width}
use Rattle.rules.specs.Job.{bits_of, got, next, field, file}
use Rattle.rules.specs.Coded.{cell_pin, ands, first_inversion, second_inversion}
use Rattle.rules.proofs.Lists.Members.{split, and_true}
use Rattle.rules.proofs.Job.Bits as bits
use Rattle.rules.proofs.Job.Bits.{Bits, bits_append, bits_of_lem, Bytes}
use Rattle.rules.proofs.Job.Fields.{through, no_cut, same_got, joined, field_got, field_only}
use Rattle.cells.specs.Answers.{or_zero}
use Rattle.cells.proofs.Heights.{or_zero_true}
use Rattle.cell.proofs.Cells.{and_number}
use Rattle.coded.proofs.Cells.{pin_filled, small_filled, pin_plain, ands_plain}
use Rattle.sheet_form.specs.Forms.{does, cell_with, is_cell, behind_pin, form_fits, form_read, form, sheet_one, sheet_two}
use Rattle.sheet_form.specs.Sheets.{Sheet, write_sheet, sheet, read_sheet}
use Rattle.sheet_form.proofs.Cells.{Taken, Sound}
use Rattle.sheet_form.proofs.Sheets as sheets

-- ---- a cell's parts, and a cell of its parts

-- what stands behind a pin, by the cell
pub does_is : (c : ℕ) → does c ≡ 4 * (c / 65536 % 2) + 2 * (c / 131072 % 2) + c / 262144 % 2
unfolding does first_inversion second_inversion
does_is c = rw (and_number c)

-- it has three bits
pub does_small : (c : ℕ) → does c < 8
does_small c = rw (does_is c) (omega arith)

eight : (q : ℕ) → q < 8 → q % 2 + 2 * (q / 2 % 2) + 4 * (q / 2 / 2 % 2) ≡ q
eight q h = let t : q / 2 / 2 < 2 = omega arith in omega arith

-- pin, AND and inversions make the number
in_parts : (c : ℕ) → c < 524288 → c % 65536 + 65536 * (c / 65536 % 2) + 131072 * (c / 131072 % 2) + 262144 * (c / 262144 % 2) ≡ c
in_parts c h =
    let x : c / 131072 ≡ c / 65536 / 2 = sym (div-div-eq-div-mul c 65536 2) in
    let y : c / 262144 ≡ c / 65536 / 2 / 2 = sym (div-div-eq-div-mul c 131072 2) ∙ ap (λ (n : ℕ). n / 2) x in
    rw (x, y) (omega (arith, eight (c / 65536) (omega arith)))

bits_three : (d : ℕ) → 4 * (d / 4) + 2 * (d / 2 % 2) + d % 2 ≡ d
bits_three d = let x : d / 4 ≡ d / 2 / 2 = sym (div-div-eq-div-mul d 2 2) in rw x (omega arith)

twice : (n : ℕ) → n % 2 % 2 ≡ n % 2
twice n = omega arith

parts : (n a f s : ℕ) → a < 2 → f < 2 → s < 2 → cell_with n (4 * a + 2 * f + s) ≡ n + 65536 * a + 131072 * f + 262144 * s
unfolding cell_with
parts n a f s i j k =
    let d = 4 * a + 2 * f + s in
    let x : d / 4 ≡ a = omega arith in
    let y : d / 2 % 2 ≡ f = omega arith in
    let z : d % 2 ≡ s = omega arith in
    rw (x, y, z)

-- a cell is that of its parts
pub cell_parts : (c : ℕ) → c < 524288 → cell_with (cell_pin c) (does c) ≡ c
cell_parts c h =
    rw (does_is c, pin_filled c (small_filled c h)) (parts (c % 65536) (c / 65536 % 2) (c / 131072 % 2) (c / 262144 % 2) (omega arith) (omega arith) (omega arith) ∙ in_parts c h)

module _ (n d : ℕ) (h : n < 65536) (k : d < 8) where
  abbrev c : ℕ
  c = cell_with n d

  -- a cell is below 2^19
  pub with_small : cell_with n d < 524288
  unfolding cell_with
  with_small = omega arith

  -- with its pin
  pub pin_with : cell_pin (cell_with n d) ≡ n
  unfolding cell_with
  pin_with =
      pin_filled c (small_filled c with_small)
      ∙ (let m : c / 65536 ≡ d / 4 + 2 * (d / 2 % 2) + 4 * (d % 2) = omega arith in omega arith)

  -- and what it does
  pub does_with : does (cell_with n d) ≡ d
  unfolding cell_with
  does_with =
      let x : c / 65536 % 2 ≡ d / 4 = let m : c / 65536 ≡ d / 4 + 2 * (d / 2 % 2) + 4 * (d % 2) = omega arith in rw m (omega arith) in
      let y : c / 131072 % 2 ≡ d / 2 % 2 = let m : c / 131072 ≡ d / 2 % 2 + 2 * (d % 2) = omega arith in rw m (omega arith) in
      let z : c / 262144 % 2 ≡ d % 2 = let m : c / 262144 ≡ d % 2 = omega arith in rw m (twice d) in
      does_is c ∙ rw (x, y, z) (bits_three d)

-- ---- which cells a sheet holds

-- at most three bits stand behind a pin
pub behind_few : (number : ℕ) → behind_pin number ≤ 3
unfolding behind_pin
behind_few number = split (eqb number 1) (λ t. rw (t, behind_pin) (omega arith)) (λ t. rw (t, behind_pin) (omega arith))

pow_few : (w : ℕ) → w ≤ 3 → 2 ^ w ≤ 8
pow_few w h = lib.Pow.pow_mono {i = w} {j = 3} h

-- a cell that fits, part by part
pub record Fits (number K p c : ℕ) : Type 0 where
  pub cell : is_cell c ≡ true
  pub small : c < 524288
  pub pin : 0 < cell_pin c
  pub plain : (ltb c 65536 || ands c) ≡ true
  pub does : does c < 2 ^ behind_pin number
  pub level : (not (ands c) || ltb p (width K)) ≡ true

-- a test that passes says so
pub fits_parts : (number K p c : ℕ) → form_fits number K p c ≡ true → Fits number K p c
unfolding form_fits is_cell
fits_parts number K p c e =
    let a = and_true (is_cell c && ltb (does c) (2 ^ behind_pin number)) (not (ands c) || ltb p (width K)) e in
    let b = and_true (is_cell c) (ltb (does c) (2 ^ behind_pin number)) a.0 in
    let x = and_true (ltb 0 (cell_pin c) && ltb c 524288) (ltb c 65536 || ands c) b.0 in
    let y = and_true (ltb 0 (cell_pin c)) (ltb c 524288) x.0 in
    record { cell = b.0; small = ltb-true c 524288 y.1; pin = ltb-true 0 (cell_pin c) y.0; plain = x.1; does = ltb-true (does c) (2 ^ behind_pin number) b.1; level = a.1 }

-- sheet 2 holds a cell that ANDs above level 0 only
pub two_fits : (K p c : ℕ) → c < 524288 → 0 < cell_pin c → (ltb c 65536 || ands c) ≡ true → (not (ands c) || ltb p (width K)) ≡ true → form_fits 2 K p c ≡ true
unfolding form_fits is_cell behind_pin
two_fits K p c small pin plain level = rw (lt-ltb 0 (cell_pin c) pin, lt-ltb c 524288 small, plain, lt-ltb (does c) 8 (does_small c), level)

module _ (K p c : ℕ) where
  behind_two : ltb (does c) (2 ^ behind_pin 2) ≡ true
  unfolding behind_pin
  behind_two = lt-ltb (does c) 8 (does_small c)

  -- what is no cell does not fit
  pub none_fits : is_cell c ≡ false → false ≡ form_fits 2 K p c
  unfolding form_fits
  none_fits e = sym (rw e)

  -- a copy or a load does anywhere
  pub copy_fits : is_cell c ≡ true → ands c ≡ false → true ≡ form_fits 2 K p c
  unfolding form_fits
  copy_fits e d = sym (rw (e, behind_two, d))

  -- an AND where its position is above level 0
  pub and_fits : is_cell c ≡ true → ands c ≡ true → is_height K ≡ true → (w : ℕ) → w ≡ or_zero (is_height K) (width K) → ltb p w ≡ form_fits 2 K p c
  unfolding form_fits
  and_fits e d h w q = let z : w ≡ width K = q ∙ rw (h, or_zero_true (width K)) in sym (rw (e, behind_two, d, z))

  -- sheet 1 holds pins above 0
  pub one_fits : 0 < c → c < 65536 → form_fits 1 K p c ≡ true
  unfolding form_fits is_cell behind_pin
  one_fits a b =
      let d : does c ≡ 0 = does_is c ∙ omega arith in
      rw (lt-ltb 0 (cell_pin c) (rw (pin_plain c b) a), lt-ltb c 524288 (omega arith), lt-ltb c 65536 b, d, ands_plain c b)

  -- and nothing else
  pub one_pin : form_fits 1 K p c ≡ true → (0 < c) × (c < 65536)
  unfolding behind_pin
  one_pin e =
      let F = fits_parts 1 K p c e in
      let s = F.small in
      let d : 4 * (c / 65536 % 2) + 2 * (c / 131072 % 2) + c / 262144 % 2 < 1 = rw (← does_is c) F.does in
      let b : c < 65536 = omega (arith, in_parts c s) in
      (rw (pin_plain c b) at F.pin, b)

-- ---- the round trip

module _ (number : ℕ) where
  back : (K p c : ℕ) (rest : List ℕ) → form_fits number K p c ≡ true → form_read number K p ((bits_of 16 (cell_pin c) ++ bits_of (behind_pin number) (does c)) ++ rest) ≡ got c rest
  unfolding form_read next
  back K p c rest e =
      let F = fits_parts number K p c e in
      let t = cell_parts c F.small in
      let d : form_fits number K p (cell_with (cell_pin c) (does c)) ≡ true = rw t e in
      rw (
        append_assoc (bits_of 16 (cell_pin c)) (bits_of (behind_pin number) (does c)) rest,
        field_got 16 (cell_pin c) (bits_of (behind_pin number) (does c) ++ rest) (rw (pin_filled c (small_filled c F.small)) (omega arith)),
        next,
        field_got (behind_pin number) (does c) rest F.does,
        next,
        d,
      )
      (ap (λ (x : ℕ). got x rest) t)

  only : (K p : ℕ) (bs : List ℕ) {c : ℕ} {rest : List ℕ} → Bits bs → form_read number K p bs ≡ got c rest → Taken (λ x. bits_of 16 (cell_pin x) ++ bits_of (behind_pin number) (does x)) (form_fits number K p) bs c rest
  unfolding form_read
  only K p bs B e =
      let t = through (field 16 bs) _ e in
      let f = field_only 16 bs B t.first in
      let u = through (field (behind_pin number) t.b) _ t.second in
      let g = field_only (behind_pin number) t.b f.bits u.first in
      let few : u.a < 8 = omega (arith, g.below, pow_few (behind_pin number) (behind_few number)) in
      let x = pin_with t.a u.a f.below few in
      let y = does_with t.a u.a f.below few in
      split (form_fits number K p (cell_with t.a u.a))
      (λ v. same_got (Taken (λ x. bits_of 16 (cell_pin x) ++ bits_of (behind_pin number) (does x)) (form_fits number K p) bs) (rw v at u.second) (record { is = rw (x, y) (joined (bits_of 16 t.a) (bits_of (behind_pin number) u.a) u.b f.is g.is); below = v; bits = g.bits }))
      (λ v. no_cut (rw v at u.second))

  -- every sheet number's cells are sound
  pub sound : number < 256 → Sound (form number)
  sound byte = record {
    byte = byte;
    bits = λ K p c. bits_append (bits_of 16 (cell_pin c)) (bits_of (behind_pin number) (does c)) (bits_of_lem 16 (cell_pin c)) (bits_of_lem (behind_pin number) (does c));
    short = λ K p c. omega (arith, length-append (bits_of 16 (cell_pin c)) (bits_of (behind_pin number) (does c)), bits.width 16 (cell_pin c), bits.width (behind_pin number) (does c));
    marked = λ K p c e. small_filled c (fits_parts number K p c e).small;
    back = back;
    only = only;
  }

-- sheet 1's are
pub one : Sound sheet_one
one = sound 1 (omega arith)

-- and sheet 2's
pub two : Sound sheet_two
two = sound 2 (omega arith)

-- ---- each sheet there and back

-- what was written as sheet 1 is read back
pub one_read : (T : Sheet) (bs : List ℕ) → write_sheet sheet_one T ≡ file bs → read_sheet sheet_one bs ≡ sheet T
one_read = sheets.read_written sheet_one one

-- only what is written as sheet 1 is read as one
pub one_only : (T : Sheet) (bs : List ℕ) → Bytes bs → read_sheet sheet_one bs ≡ sheet T → write_sheet sheet_one T ≡ file bs
one_only = sheets.only_written sheet_one one

-- what was written as sheet 2 is read back
pub two_read : (T : Sheet) (bs : List ℕ) → write_sheet sheet_two T ≡ file bs → read_sheet sheet_two bs ≡ sheet T
two_read = sheets.read_written sheet_two two

-- only what is written as sheet 2 is read as one
pub two_only : (T : Sheet) (bs : List ℕ) → Bytes bs → read_sheet sheet_two bs ≡ sheet T → write_sheet sheet_two T ≡ file bs
two_only = sheets.only_written sheet_two two
