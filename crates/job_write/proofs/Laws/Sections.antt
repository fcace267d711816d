-- The sections of a job file, put one behind the other. Assumes nothing.
use mathlib.Core.Path.{◌≡◌, sym, ◌∙◌}
use mathlib.Core.Bool.{Bool, true, false, ◌&&◌}
use mathlib.Core.List.{List, [], ◌∷◌, ◌++◌, append_assoc}
use Prim.Native.Nat.{ℕ, suc, ◌+◌, ◌-◌, ◌*◌, ◌/◌, ◌%◌, ◌^◌, ◌<◌, ◌≤◌}
use native.Mathlib.Numerals.{add-one}
use native.Mathlib.Omega.{arith}
use lib.Dec.{leb, eqb}
use lib.ListN.{length, get_or, take, drop, length-append, length-drop, drop_of_length-le}
use lib.Seq.{drop-cons, length-take-le}
use borrow.Author.Tests.{eq-eqb, ne_eqb, leb-true, ltb-true}
use Rattle.rules.proofs.Records.{groups_of_lem}
use Rattle.rules.specs.Lists.{every, gather}
use Rattle.rules.specs.Cells.{empty}
use Rattle.rules.specs.Graph.{Node, leaf, gate, node_of, graph_of, pin_count}
use Rattle.rules.specs.Records.{Group, groups, size_of, group_at, whole_at, read, groups_of}
use Rattle.rules.specs.Job.{Job, bits_of, number_width, pin_bits, pins_bits, group_bits, groups_bits, job_bits, is_mark, nodes_fit, gates_fit, fits_program}
use Rattle.rules.proofs.Lists.Members.{split, and_true}
use Rattle.rules.proofs.Job.Kinds.{not_groups, and_then_lem}
use Rattle.rules.proofs.Job.Bits.{width, gather_width}
use Rattle.rules.proofs.Job.Records.{plain_at, read_length}
use Rattle.records.specs.Values.{size_at}
use Rattle.records.proofs.Reading.{read_step, read_end, read_cut, Stands, standing}
use Rattle.bits.specs.Putting.{Put}
use Rattle.bits.proofs.Laws.Putting.{Left, left_all, left_step, left_none, put_then, none_back}
use Rattle.bits.proofs.Laws.Files.{put_padded}
use Rattle.job_write.specs.Fits.{Fitting}
use Rattle.job_write.specs.Sections.{head_bits, given_bits, records_bits, file_bits, PutIn, RecordTo, HeadTo, GivenTo, GroupsTo, Measured}
use Rattle.job_write.proofs.Laws.Fits.{graph_step, graph_end}

-- ---- numbers

gather_step : (w : ℕ) (xs : List ℕ) (i : ℕ) → i < length xs → gather (bits_of w) (drop i xs) ≡ bits_of w (get_or xs i 0) ++ gather (bits_of w) (drop (i + 1) xs)
unfolding gather
gather_step w xs i h = rw (drop-cons xs i 0 h, add-one i)

gather_end : (w : ℕ) (xs : List ℕ) (i : ℕ) → length xs ≤ i → gather (bits_of w) (drop i xs) ≡ []
unfolding gather
gather_end w xs i h = rw (drop_of_length-le xs h)

-- i numbers are put, the rest is left
pub record Numbers (w : ℕ) (xs : List ℕ) (i from at : ℕ) (bytes bytes' : List ℕ) : Type 0 where
  pub near : at ≤ from + 17 * i
  pub rest : Left (gather (bits_of w) xs) (gather (bits_of w) (drop i xs)) bytes bytes' from at

-- at the start none is put
pub numbers_none : {w : ℕ} {xs : List ℕ} {from : ℕ} {bytes : List ℕ} → Numbers w xs 0 from from bytes bytes
numbers_none = record { near = omega arith; rest = left_all }

module _ {w : ℕ} {xs : List ℕ} {i from at : ℕ} {b b₁ : List ℕ} (N : Numbers w xs i from at b b₁) where
  -- one more number is put
  pub numbers_more : w ≤ 17 → i < length xs → {b₂ : List ℕ} {at₂ : ℕ} → Put (bits_of w (get_or xs i 0)) b₁ b₂ at at₂ → Numbers w xs (i + 1) from at₂ b b₂
  numbers_more k h P = record { near = omega (arith, N.near, P.behind, width w (get_or xs i 0)); rest = left_step (rw (gather_step w xs i h) at N.rest) P }

  -- all numbers are put
  pub numbers_done : length xs ≤ i → Put (gather (bits_of w) xs) b b₁ from at
  numbers_done h = left_none (rw (gather_end w xs i h) at N.rest)

-- ---- pins

-- with the first number the empty mark, the second tells whether it is a leaf
pub leaf_mark : (a b : ℕ) → a ≡ 4294967295 → eqb b 4294967295 ≡ eqb a empty && eqb b empty
unfolding empty
leaf_mark a b e = rw (eq-eqb a 4294967295 e)

-- any other first number is a gate's
pub leaf_not : (a b : ℕ) → (a ≡ 4294967295 → ⊥) → false ≡ eqb a empty && eqb b empty
unfolding empty
leaf_not a b e = rw (ne_eqb a 4294967295 e)

-- a leaf is one bit, 0
pub pin_leaf : (a b : ℕ) {t : Bool} → t ≡ eqb a empty && eqb b empty → t ≡ true → {x y : List ℕ} {at at' : ℕ} → Put (bits_of 1 0) x y at at' → Put (pin_bits (node_of a b)) x y at at'
unfolding node_of pin_bits bits_of
pin_leaf a b e t P = rw (sym e ∙ t, node_of) P

-- a gate is a 1 and its two literals
pub pin_gate : (a b : ℕ) {t : Bool} → t ≡ eqb a empty && eqb b empty → t ≡ false → {x y z u : List ℕ} {at p q at' : ℕ} → Put (bits_of 1 1) x y at p → Put (bits_of 17 a) y z p q → Put (bits_of 17 b) z u q at' → Put (pin_bits (node_of a b)) x u at at'
unfolding node_of pin_bits bits_of
pin_gate a b e t P Q R = rw (sym e ∙ t, node_of) (put_then (put_then P Q) R)

pin_length : (n : Node) → length (pin_bits n) ≤ 35
unfolding pin_bits
pin_length leaf = omega arith
pin_length (gate a b) = omega (arith, length-append (1 ∷ bits_of 17 a) (bits_of 17 b), width 17 a, width 17 b)

-- the pins from 1 up to i are put, the rest is left
pub record Pins (gates : List ℕ) (i from at : ℕ) (bytes bytes' : List ℕ) : Type 0 where
  pub near : at + 35 ≤ from + 35 * i
  pub upto : i ≤ 1 + length gates / 2
  pub rest : Left (pins_bits (graph_of (drop 2 gates))) (pins_bits (graph_of (drop (2 * i) gates))) bytes bytes' from at

-- at pin 1 no pin is put
pub pins_none : {gates : List ℕ} {from : ℕ} {bytes : List ℕ} → Pins gates 1 from from bytes bytes
pins_none = record { near = omega arith; upto = omega arith; rest = left_all }

module _ {gates : List ℕ} {i from at : ℕ} {b b₁ : List ℕ} (N : Pins gates i from at b b₁) where
  -- one more pin is put
  pub pins_more : i < length gates / 2 → {b₂ : List ℕ} {at₂ : ℕ} → Put (pin_bits (node_of (get_or gates (2 * i) 0) (get_or gates (2 * i + 1) 0))) b₁ b₂ at at₂ → Pins gates (i + 1) from at₂ b b₂
  unfolding pins_bits
  pins_more h P = record {
    near = omega (arith, N.near, P.behind, pin_length (node_of (get_or gates (2 * i) 0) (get_or gates (2 * i + 1) 0)));
    upto = omega arith;
    rest = left_step (rw (graph_step gates i (omega arith), pins_bits) at N.rest) P;
  }

  -- all pins are put
  pub pins_done : length gates / 2 ≤ i → PutIn (18 * length gates) (pins_bits (graph_of (drop 2 gates))) b b₁ from at
  unfolding pins_bits
  pins_done h = record { put = left_none (rw (graph_end gates i h, pins_bits) at N.rest); near = omega (arith, N.near, N.upto) }

-- ---- records

width_most : (k n : ℕ) → number_width k * n ≤ 17 * n
unfolding number_width
width_most k n = split (eqb k 4) (λ t. rw (t, number_width) (omega arith)) (λ t. rw (t, number_width) (omega arith))

-- no number of a record has more than 17 bits
pub width_short : (k : ℕ) → number_width k ≤ 17
unfolding number_width
width_short k = split (eqb k 4) (λ t. rw (t, number_width) (omega arith)) (λ t. rw (t, number_width) (omega arith))

-- the bits of a record by its kind and its numbers
pub record_bits : ℕ → List ℕ → List ℕ
record_bits k xs = bits_of 3 k ++ gather (bits_of (number_width k)) xs

-- the numbers can be read as records
pub record Readable (xs : List ℕ) : Type 0 where
  pub all : List Group
  pub is : read xs ≡ groups all

-- the record at an index, and what stands behind it
pub record Next (xs : List ℕ) (at : ℕ) : Type 0 where
  pub stands : Stands xs at
  pub bits : groups_bits (groups_of (drop at xs)) ≡ record_bits (get_or xs at 0) (take (at + 1 + size_at xs at - (at + 1)) (drop (at + 1) xs)) ++ groups_bits (groups_of (drop (at + (1 + size_at xs at)) xs))
  pub readable : Readable (drop (at + (1 + size_at xs at)) xs)

-- where records can be read and numbers are left, a whole record stands
pub next_record : (xs : List ℕ) (at : ℕ) → at < length xs → Readable (drop at xs) → Next xs at
unfolding groups_bits record_bits
next_record xs at h R =
    let t : whole_at (drop at xs) ≡ true = split (whole_at (drop at xs)) (λ t. t) (λ t. not_groups (sym (read_cut xs at h t) ∙ R.is)) in
    let S = standing xs at t in
    let k = get_or xs at 0 in
    let d = drop-cons xs at 0 h in
    let s : suc at ≡ at + 1 = omega arith in
    let m : at + 1 + size_at xs at - (at + 1) ≡ size_of k = omega (arith, S.size) in
    let P = and_then_lem (group_at (drop at xs)) (read (drop (at + (1 + size_of k)) xs)) (sym (read_step xs at t) ∙ R.is) in
    let b : group_bits (group_at (drop at xs)) ≡ bits_of 3 k ++ gather (bits_of (number_width k)) (take (size_of k) (drop (at + 1) xs)) = rw (d, s) (plain_at k (drop (at + 1) xs) (rw (d, s) at t)).bits in
    record {
      stands = S;
      bits = rw (m, S.size, groups_of_lem (drop at xs) R.is, P.all, groups_bits, b, groups_of_lem (drop (at + (1 + size_of k)) xs) P.read);
      readable = rw S.size (record { all = P.rest; is = P.read });
    }

-- the records before index i are put, the rest is left
pub record Records (xs : List ℕ) (i from at : ℕ) (bytes bytes' : List ℕ) : Type 0 where
  pub near : at ≤ from + 20 * i
  pub upto : i ≤ length xs
  pub rest : Left (groups_bits (groups_of xs)) (groups_bits (groups_of (drop i xs))) bytes bytes' from at
  pub readable : Readable (drop i xs)

-- at the first record none is put
pub records_none : {xs : List ℕ} {from : ℕ} {bytes : List ℕ} → read xs ≡ groups (groups_of xs) → Records xs 0 from from bytes bytes
records_none {xs} e = record { near = omega arith; upto = omega arith; rest = left_all; readable = record { all = groups_of xs; is = e } }

module _ {xs : List ℕ} {i from at : ℕ} {b b₁ : List ℕ} (N : Records xs i from at b b₁) where
  -- while numbers are left a record stands there
  pub records_next : i < length xs → Next xs i
  records_next h = next_record xs i h N.readable

  -- its place is near enough for the record to be put
  pub records_to : (h : i < length xs) {n : ℕ} → n ≡ size_at xs i → from + 20 * length xs ≤ 2 ^ 38 → RecordTo at (number_width (get_or xs i 0)) (take (i + 1 + n - (i + 1)) (drop (i + 1) xs))
  records_to h {n} e r =
      let S = (records_next h).stands in
      let l : length (take (i + 1 + n - (i + 1)) (drop (i + 1) xs)) ≡ i + 1 + n - (i + 1) = length-take-le (i + 1 + n - (i + 1)) (drop (i + 1) xs) (omega (arith, S.inside, length-drop (i + 1) xs)) in
      record { near = omega (arith, S.inside, N.near); short = width_short (get_or xs i 0) }

  -- one more record is put
  pub records_more : (h : i < length xs) {n : ℕ} → n ≡ size_at xs i → {b₂ : List ℕ} {at₂ : ℕ} →
      Put (bits_of 3 (get_or xs i 0) ++ gather (bits_of (number_width (get_or xs i 0))) (take (i + 1 + n - (i + 1)) (drop (i + 1) xs))) b₁ b₂ at at₂ → Records xs (i + (1 + n)) from at₂ b b₂
  unfolding record_bits
  records_more h {n} e P =
      let X = records_next h in
      let S = X.stands in
      let k = get_or xs i 0 in
      let ys = take (i + 1 + n - (i + 1)) (drop (i + 1) xs) in
      let l : length ys ≡ i + 1 + n - (i + 1) = length-take-le (i + 1 + n - (i + 1)) (drop (i + 1) xs) (omega (arith, S.inside, length-drop (i + 1) xs)) in
      record {
        near = omega (arith, N.near, P.behind, length-append (bits_of 3 k) (gather (bits_of (number_width k)) ys), width 3 k, gather_width (number_width k) ys, width_most k (length ys));
        upto = omega (arith, S.inside);
        rest = rw e (left_step (rw X.bits at N.rest) (rw e at P));
        readable = rw e X.readable;
      }

  -- all records are put
  pub records_done : length xs ≤ i → PutIn (20 * length xs) (groups_bits (groups_of xs)) b b₁ from at
  unfolding groups_bits
  records_done h =
      let o : groups_of (drop i xs) ≡ [] = groups_of_lem (drop i xs) (read_end xs i h) in
      record { put = left_none (rw (o, groups_bits) at N.rest); near = omega (arith, N.near, N.upto) }

-- ---- the sections

-- a graph to be put has pin 0
pub pins_some : {gates : List ℕ} → HeadTo gates → 1 ≤ length gates / 2
unfolding pin_count
pins_some H = H.some

-- there are at most 512 groups
pub groups_few : {at n : ℕ} {records : List ℕ} → GroupsTo at records n → n ≤ 512
groups_few {records = records} G = omega (arith, read_length records (groups_of records) G.readable, G.few, G.count)

-- height, count of pins and pins are the file's head
pub head_put : (K : ℕ) (gates : List ℕ) → length gates ≤ 1003 → {x y z u : List ℕ} {p q r : ℕ} → Put (bits_of 4 K) x y 0 p → Put (bits_of 16 (length gates / 2 - 1)) y z p q → PutIn (18 * length gates) (pins_bits (graph_of (drop 2 gates))) z u q r → PutIn (2 ^ 20) (head_bits K gates) x u 0 r
unfolding head_bits pin_count
head_put K gates h P Q R = record { put = put_then (put_then P Q) R.put; near = omega (arith, P.behind, Q.behind, R.near, width 4 K, width 16 (length gates / 2 - 1)) }

-- a count and the given pins are its second section
pub given_put : (given : List ℕ) → length given < 2 ^ 16 → {x y z : List ℕ} {at p r : ℕ} → Put (bits_of 16 (length given)) x y at p → Put (gather (bits_of 16) given) y z p r → PutIn (2 ^ 21) (given_bits given) x z at r
unfolding given_bits
given_put given h P Q = record { put = put_then P Q; near = omega (arith, P.behind, Q.behind, width 16 (length given), gather_width 16 given) }

-- a count and the records are its third
pub groups_put : (records : List ℕ) (n : ℕ) → length records ≤ 512 → length (groups_of records) ≡ n → {x y z : List ℕ} {at p r : ℕ} → Put (bits_of 16 n) x y at p → PutIn (20 * length records) (groups_bits (groups_of records)) y z p r → PutIn (2 ^ 20) (records_bits records) x z at r
unfolding records_bits
groups_put records n h e P Q = record { put = rw e (put_then P Q.put); near = omega (arith, P.behind, Q.near, width 16 n) }

in_sections : (J : Job) → job_bits J (groups_of J.records) ≡ head_bits J.height J.gates ++ given_bits J.given ++ records_bits J.records
unfolding job_bits head_bits given_bits records_bits
in_sections J = simp append_assoc

-- the three sections and the padding are the file
pub job_put : (J : Job) {x y z u v : List ℕ} {p q r s : ℕ} → PutIn (2 ^ 20) (head_bits J.height J.gates) x y 0 p → PutIn (2 ^ 21) (given_bits J.given) y z p q → PutIn (2 ^ 20) (records_bits J.records) z u q r → Put (bits_of ((8 - r % 8) % 8) 0) u v r s → Put (file_bits J) x v 0 s
unfolding file_bits
job_put J P Q R Z = let A = put_then (put_then P.put Q.put) R.put in put_padded (rw (in_sections J) A) Z

-- ---- what a fitting job asks

module _ {J : Job} {n : ℕ} (F : Fitting J n) where
  -- the head of a fitting job may be put
  pub head_asks : HeadTo J.gates
  unfolding gates_fit fits_program pin_count
  head_asks =
      let h = and_true (leb J.height 10 && leb (pin_count J.gates) 501) (leb (length J.records) 512) F.fits in
      let k = and_true (leb J.height 10) (leb (pin_count J.gates) 501) h.0 in
      let even = eqb (length J.gates % 2) 0 in
      let some = leb 1 (pin_count J.gates) in
      let marks = every is_mark (take 2 J.gates) in
      let a = and_true (even && some && marks) (nodes_fit (graph_of J.gates)) F.held.gates in
      let b = and_true (even && some) marks a.0 in
      let c = and_true even some b.0 in
      record { some = leb-true 1 (pin_count J.gates) c.1; few = omega (arith, leb-true (pin_count J.gates) 501 k.1) }

  -- behind its head a fitting job's given pins may be put
  pub given_asks : {p : ℕ} → p ≤ 0 + 2 ^ 20 → GivenTo p J.given
  given_asks h = record { near = omega arith; few = ltb-true (length J.given) (2 ^ 16) F.held.few }

  -- behind these its records may be put
  pub groups_asks : {q : ℕ} → q ≤ 2 ^ 22 → GroupsTo q J.records n
  unfolding fits_program
  groups_asks h =
      let k = and_true (leb J.height 10 && leb (pin_count J.gates) 501) (leb (length J.records) 512) F.fits in
      record { near = h; few = leb-true (length J.records) 512 k.1; readable = F.held.read; count = F.count }

-- putting into no bytes changes none, and measures the file
pub measured : {J : Job} (xs : List ℕ) {ys : List ℕ} {n : ℕ} → Put (file_bits J) [] ys 0 n → Measured J xs (ys ++ xs) n
measured xs {ys} P = record { same = none_back ys xs P.len; bits = P.behind ∙ omega arith }
