-- The records of a job file: a reader takes exactly the bits that the writer makes. Assumes nothing.
use Prim.Native.Nat.{ℕ, zero, suc, ◌^◌, ◌≤◌, ◌<◌}
use mathlib.Core.Path.{◌≡◌, refl, sym, ap, ◌∙◌}
use mathlib.Core.Bool.{Bool, true, false, ◌&&◌}
use mathlib.Core.List.{List, [], ◌∷◌, ◌++◌, append_assoc, append-nil}
use native.Mathlib.Omega.{arith}
use lib.Dec.{eqb}
use lib.ListN.{length, take, drop, length-append, length-drop, take-append-drop}
use lib.Seq.{take_at, drop_at, length-take-le}
use borrow.Author.Tests.{lt-ltb, ne_eqb}
use Rattle.rules.specs.Lists.{every, gather}
use Rattle.rules.specs.Records.{Group, groups, size_of, group_at, whole_at, and_then, read_from, read}
use Rattle.rules.specs.Job.{bits_of, cut, got, next, field, fields, number_width, read_record, read_records, group_bits, groups_bits, literal_fits, pin_fits, group_fits, groups_fit}
use Rattle.rules.proofs.Lists.Members.{split, and_true, eqb_false}
use Rattle.rules.proofs.Job.Kinds.{kinds, Whole, whole, not_groups, and_then_lem}
use Rattle.rules.proofs.Job.Bits.{Bits}
use Rattle.rules.proofs.Job.Fields.{through, no_cut, same_got, joined, field_got, field_only, fits_in, fields_got, fields_only}

-- ---- a record is its kind and the numbers behind it

known : {P : Type 0} (k : ℕ) → 0 < size_of k → (k ≡ 1 → P) → (k ≡ 2 → P) → (k ≡ 3 → P) → (k ≡ 4 → P) → P
known k h a b c d = kinds k a b c d (λ e. absurd (omega arith))

-- its bits and its test, of whatever kind
pub record Plain (k : ℕ) (xs : List ℕ) : Type 0 where
  pub bits : group_bits (group_at (k ∷ xs)) ≡ bits_of 3 k ++ gather (bits_of (number_width k)) (take (size_of k) xs)
  pub fits : group_fits (group_at (k ∷ xs)) ≡ every (fits_in (number_width k)) (take (size_of k) xs)

one_fits : (f : ℕ → Bool) (x : ℕ) → f x ≡ every f (x ∷ [])
unfolding every
one_fits f x = split (f x) (λ t. rw (t, every)) (λ t. rw (t, every))

two_fit : (f : ℕ → Bool) (x y : ℕ) → f x && f y ≡ every f (x ∷ y ∷ [])
unfolding every
two_fit f x y = split (f x) (λ t. rw (t, every) (one_fits f y)) (λ t. rw (t, every))

plain_one : (xs : List ℕ) → 1 ≤ length xs → Plain 1 xs
unfolding group_bits group_fits group_at size_of number_width gather literal_fits
plain_one [] h = absurd (omega arith)
plain_one (l ∷ xs) h = record { bits = rw (append-nil (bits_of 17 l)); fits = one_fits literal_fits l }

plain_two : (xs : List ℕ) → 2 ≤ length xs → Plain 2 xs
unfolding group_bits group_fits group_at size_of number_width gather literal_fits
plain_two [] h = absurd (omega arith)
plain_two (e ∷ []) h = absurd (omega arith)
plain_two (e ∷ d ∷ xs) h = record { bits = rw (append-nil (bits_of 17 d), append_assoc (bits_of 3 2) (bits_of 17 e) (bits_of 17 d)); fits = two_fit literal_fits e d }

plain_three : (xs : List ℕ) → Plain 3 xs
unfolding group_bits group_fits group_at size_of number_width literal_fits
plain_three xs = record { bits = refl; fits = refl }

plain_four : (xs : List ℕ) → 1 ≤ length xs → Plain 4 xs
unfolding group_bits group_fits group_at size_of number_width gather pin_fits
plain_four [] h = absurd (omega arith)
plain_four (p ∷ xs) h = record { bits = rw (append-nil (bits_of 16 p)); fits = one_fits pin_fits p }

plain : (k : ℕ) (xs : List ℕ) → Whole (k ∷ xs) → Plain k xs
unfolding size_of
plain k xs W =
    let h = W.inside in
    known k W.some
    (λ e. rw e (plain_one xs (omega (arith, ap size_of e))))
    (λ e. rw e (plain_two xs (omega (arith, ap size_of e))))
    (λ e. rw e (plain_three xs))
    (λ e. rw e (plain_four xs (omega (arith, ap size_of e))))

-- every whole record is written as its kind and its numbers
pub plain_at : (k : ℕ) (xs : List ℕ) → whole_at (k ∷ xs) ≡ true → Plain k xs
plain_at k xs t = plain k xs (whole (k ∷ xs) t)

below_eight : (k : ℕ) → 0 < size_of k → k < 2 ^ 3
below_eight k h = known k h (λ e. omega arith) (λ e. omega arith) (λ e. omega arith) (λ e. omega arith)

-- ---- one record

record_got : (k : ℕ) (xs rest : List ℕ) → Whole (k ∷ xs) → group_fits (group_at (k ∷ xs)) ≡ true → read_record (group_bits (group_at (k ∷ xs)) ++ rest) ≡ got (k ∷ take (size_of k) xs) rest
unfolding read_record next
record_got k xs rest W e =
    let P = plain k xs W in
    let w = number_width k in
    let ys = take (size_of k) xs in
    let h = W.some in
    let n : eqb (size_of k) 0 ≡ false = ne_eqb (size_of k) 0 (λ z. omega arith) in
    let l : length ys ≡ size_of k = length-take-le (size_of k) xs (omega (arith, W.inside)) in
    let f : fields (size_of k) w (gather (bits_of w) ys ++ rest) ≡ got ys rest = rw l at (fields_got w ys rest (sym P.fits ∙ e)) in
    rw (P.bits, append_assoc (bits_of 3 k) (gather (bits_of w) ys) rest, field_got 3 k (gather (bits_of w) ys ++ rest) (below_eight k W.some), next, n, f, next)

record RecordTaken (bs xs rest : List ℕ) : Type 0 where
  k : ℕ
  ys : List ℕ
  these : xs ≡ k ∷ ys
  size : length ys ≡ size_of k
  some : 0 < size_of k
  is : bs ≡ bits_of 3 k ++ gather (bits_of (number_width k)) ys ++ rest
  below : every (fits_in (number_width k)) ys ≡ true
  bits : Bits rest

record_only : (bs : List ℕ) {xs rest : List ℕ} → Bits bs → read_record bs ≡ got xs rest → RecordTaken bs xs rest
unfolding read_record
record_only bs {xs} {rest} B e =
    let t = through (field 3 bs) (λ k cs. elim (eqb (size_of k) 0) [ true ↦ cut | false ↦ next (fields (size_of k) (number_width k) cs) (λ ys ds. got (k ∷ ys) ds) ]) e in
    let k = t.a in
    let f = field_only 3 bs B t.first in
    split (eqb (size_of k) 0)
    (λ z. no_cut (rw z at t.second))
    (λ z.
    let u = through (fields (size_of k) (number_width k) t.b) (λ ys ds. got (k ∷ ys) ds) (rw z at t.second) in
    let g = fields_only (size_of k) (number_width k) t.b f.bits u.first in
    same_got (RecordTaken bs) u.second (record {
      k = k;
      ys = u.a;
      these = refl;
      size = g.count;
      some = let v = eqb_false (size_of k) 0 z in omega arith;
      is = joined (bits_of 3 k) (gather (bits_of (number_width k)) u.a) u.b f.is g.is;
      below = g.below;
      bits = g.bits;
    }))

-- ---- records in a row

from_got : (f : ℕ) (xs : List ℕ) (gs : List Group) (rest : List ℕ) → read_from f xs ≡ groups gs → groups_fit gs ≡ true → read_records (length gs) (groups_bits gs ++ rest) ≡ got xs rest
unfolding read_from read_records groups_bits groups_fit next
from_got zero [] gs rest e h = let z : gs ≡ [] = cc in rw z
from_got zero (x ∷ xs) gs rest e h = not_groups e
from_got (suc f) [] gs rest e h = let z : gs ≡ [] = cc in rw z
from_got (suc f) (k ∷ xs) gs rest e h = split (whole_at (k ∷ xs))
    (λ t.
    let T = and_then_lem (group_at (k ∷ xs)) (read_from f (drop (size_of k) xs)) (rw (t, read_from) at e) in
    let d = and_true (group_fits (group_at (k ∷ xs))) (groups_fit T.rest) (rw (T.all, groups_fit) at h) in
    let one = record_got k xs (groups_bits T.rest ++ rest) (whole (k ∷ xs) t) d.0 in
    let more = from_got f (drop (size_of k) xs) T.rest rest T.read d.1 in
    rw (T.all, append_assoc (group_bits (group_at (k ∷ xs))) (groups_bits T.rest) rest, one, next, more, next, take-append-drop (size_of k) xs))
    (λ t. not_groups (rw (t, read_from) at e))

-- a record takes a number at least
from_length : (f : ℕ) (xs : List ℕ) (gs : List Group) → read_from f xs ≡ groups gs → length gs ≤ length xs
unfolding read_from
from_length zero [] gs e = let z : gs ≡ [] = cc in rw z (omega arith)
from_length zero (x ∷ xs) gs e = not_groups e
from_length (suc f) [] gs e = let z : gs ≡ [] = cc in rw z (omega arith)
from_length (suc f) (k ∷ xs) gs e = split (whole_at (k ∷ xs))
    (λ t.
    let T = and_then_lem (group_at (k ∷ xs)) (read_from f (drop (size_of k) xs)) (rw (t, read_from) at e) in
    rw T.all (omega (arith, from_length f (drop (size_of k) xs) T.rest T.read, length-drop (size_of k) xs)))
    (λ t. not_groups (rw (t, read_from) at e))

-- there are no more records than numbers
pub read_length : (xs : List ℕ) (gs : List Group) → read xs ≡ groups gs → length gs ≤ length xs
unfolding read
read_length xs gs e = from_length (length xs) xs gs e

-- records whose numbers fit are read back from their bits
pub records_got : (xs : List ℕ) (gs : List Group) (rest : List ℕ) → read xs ≡ groups gs → groups_fit gs ≡ true → read_records (length gs) (groups_bits gs ++ rest) ≡ got xs rest
unfolding read
records_got xs gs rest e h = from_got (length xs) xs gs rest e h

-- n records took exactly their bits, all numbers fit, and bits are left
pub record RecordsTaken (n : ℕ) (bs xs rest : List ℕ) : Type 0 where
  pub all : List Group
  pub count : length all ≡ n
  pub read : (f : ℕ) → length xs ≤ f → read_from f xs ≡ groups all
  pub is : bs ≡ groups_bits all ++ rest
  pub below : groups_fit all ≡ true
  pub bits : Bits rest

none_read : (f : ℕ) → read_from f [] ≡ groups []
unfolding read_from
none_read zero = refl
none_read (suc f) = refl

module _ (k : ℕ) (ys zs : List ℕ) (size : length ys ≡ size_of k) (some : 0 < size_of k) where
  front : Whole (k ∷ (ys ++ zs))
  front = record { some = some; inside = omega (arith, length-append ys zs) }

  front_whole : whole_at (k ∷ (ys ++ zs)) ≡ true
  unfolding whole_at
  front_whole = rw (lt-ltb 0 (size_of k) some, lt-ltb (size_of k) (suc (length (ys ++ zs))) (omega (arith, length-append ys zs)))

  front_read : {all : List Group} → ((f : ℕ) → length zs ≤ f → read_from f zs ≡ groups all) → (f : ℕ) → length (k ∷ (ys ++ zs)) ≤ f → read_from f (k ∷ (ys ++ zs)) ≡ groups (group_at (k ∷ (ys ++ zs)) ∷ all)
  unfolding read_from and_then
  front_read r zero h = absurd (omega arith)
  front_read r (suc f) h = rw (front_whole, read_from, drop_at ys zs (size_of k) size, r f (omega (arith, length-append ys zs)))

more_records : {bs cs xs : List ℕ} → RecordTaken bs xs cs → {n : ℕ} {zs rest : List ℕ} → RecordsTaken n cs zs rest → RecordsTaken (suc n) bs (xs ++ zs) rest
unfolding groups_bits groups_fit
more_records R {n} {zs} {rest} Q =
    let k = R.k in
    let ys = R.ys in
    let P = plain k (ys ++ zs) (front k ys zs R.size R.some) in
    let t : take (size_of k) (ys ++ zs) ≡ ys = take_at ys zs (size_of k) R.size in
    let b : group_bits (group_at (k ∷ (ys ++ zs))) ≡ bits_of 3 k ++ gather (bits_of (number_width k)) ys = rw t at P.bits in
    let f : group_fits (group_at (k ∷ (ys ++ zs))) ≡ true = (rw t at P.fits) ∙ R.below in
    rw R.these (record {
      all = group_at (k ∷ (ys ++ zs)) ∷ Q.all;
      count = ap suc Q.count;
      read = front_read k ys zs R.size R.some Q.read;
      is = rw b (joined (bits_of 3 k ++ gather (bits_of (number_width k)) ys) (groups_bits Q.all) rest R.is Q.is);
      below = rw (f, Q.below);
      bits = Q.bits;
    })

-- records that are read took exactly their bits, and their numbers fit
pub records_only : (n : ℕ) (bs : List ℕ) {xs rest : List ℕ} → Bits bs → read_records n bs ≡ got xs rest → RecordsTaken n bs xs rest
unfolding read_records groups_bits groups_fit
records_only zero bs B e = same_got (RecordsTaken zero bs) e (record { all = []; count = refl; read = λ f h. none_read f; is = refl; below = refl; bits = B })
records_only (suc n) bs B e =
    let t = through (read_record bs) (λ x cs. next (read_records n cs) (λ ys ds. got (x ++ ys) ds)) e in
    let f = record_only bs B t.first in
    let u = through (read_records n t.b) (λ ys ds. got (t.a ++ ys) ds) t.second in
    let g = records_only n t.b f.bits u.first in
    same_got (RecordsTaken (suc n) bs) u.second (more_records f g)
