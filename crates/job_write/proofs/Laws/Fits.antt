-- Does a job fit a file: its numbers, pins and records one by one. Assumes nothing.
use mathlib.Core.Path.{◌≡◌, refl, sym, ap, ◌∙◌}
use mathlib.Core.Logic.{◌≢◌}
use mathlib.Core.Bool.{Bool, true, false, ◌&&◌}
use mathlib.Core.List.{List, [], ◌∷◌}
use Prim.Native.Nat.{ℕ, suc, ◌+◌, ◌-◌, ◌*◌, ◌/◌, ◌%◌, ◌^◌, ◌<◌, ◌≤◌}
use native.Mathlib.Omega.{arith}
use lib.Dec.{leb, ltb, eqb}
use lib.ListN.{length, get_or, take, drop, length-drop}
use lib.Seq.{drop-cons}
use borrow.Author.Tests.{le-leb, lt-leb, lt-ltb, le-ltb, eq-eqb, ne_eqb}
use Rattle.std.specs.Prelude.{Option, Some, None}
use Rattle.std.specs.List.{list_all}
use Rattle.rules.specs.Lists.{every}
use Rattle.rules.specs.Cells.{empty}
use Rattle.rules.specs.Graph.{node_of, graph_of, pin_count}
use Rattle.rules.specs.Records.{Group, Groups?, unreadable, groups, size_of, group_at, whole_at, and_then, read, groups_of}
use Rattle.rules.specs.Job.{Job, number_width, is_mark, literal_fits, pin_fits, node_fits, nodes_fit, group_fits, groups_fit, gates_fit, fits_program}
use Rattle.rules.proofs.Lists.Members.{split, true_false, eqb_true, eqb_false}
use Rattle.rules.proofs.Bools.{and_none}
use Rattle.rules.proofs.Job.Kinds.{not_groups}
use Rattle.rules.proofs.Job.Fields.{fits_in}
use Rattle.rules.proofs.Job.Records.{plain_at}
use Rattle.records.specs.Values.{size_at}
use Rattle.records.proofs.Reading.{read_step, read_end, read_cut, size_none, Stands, stands}
use Rattle.job_write.specs.Fits.{counted, behind, RecordFits, RecordIs, Judged}

-- ---- numbers below a limit

pub all_every : (f : ℕ → Bool) (xs : List ℕ) → list_all f xs ≡ every f xs
unfolding every
all_every f [] = refl
all_every f (x ∷ xs) = split (f x) (λ t. rw (t, every) (all_every f xs)) (λ t. rw (t, every))

-- ---- pins

-- a first number that is the empty mark fits where the second is too
pub node_mark : (a b : ℕ) → a ≡ 4294967295 → eqb b 4294967295 ≡ node_fits (node_of a b)
unfolding node_fits node_of empty literal_fits
node_mark a b e = split (eqb b 4294967295)
    (λ t. rw (eq-eqb a 4294967295 e, t, node_of))
    (λ t. rw (eq-eqb a 4294967295 e, t, node_of, le-ltb a 131072 (omega arith)))

-- a first literal of more than 17 bits does not fit
pub node_high : (a b : ℕ) → (a ≡ 4294967295 → ⊥) → 131072 ≤ a → false ≡ node_fits (node_of a b)
unfolding node_fits node_of empty literal_fits
node_high a b e h = rw (ne_eqb a 4294967295 e, node_of, le-ltb a 131072 h)

-- with the first literal fitting, the second decides
pub node_low : (a b : ℕ) → (a ≡ 4294967295 → ⊥) → a < 131072 → ltb b 131072 ≡ node_fits (node_of a b)
unfolding node_fits node_of empty literal_fits
node_low a b e h = rw (ne_eqb a 4294967295 e, node_of, lt-ltb a 131072 h)

-- the node at index i, and those behind it
pub graph_step : (xs : List ℕ) (i : ℕ) → 2 * i + 1 < length xs → graph_of (drop (2 * i) xs) ≡ node_of (get_or xs (2 * i) 0) (get_or xs (2 * i + 1) 0) ∷ graph_of (drop (2 * (i + 1)) xs)
unfolding graph_of
graph_step xs i h =
    let a : suc (2 * i) ≡ 2 * i + 1 = omega arith in
    let b : suc (2 * i + 1) ≡ 2 * (i + 1) = omega arith in
    rw (drop-cons xs (2 * i) 0 (omega arith), a, drop-cons xs (2 * i + 1) 0 h, b)

short_graph : (ys : List ℕ) → length ys ≤ 1 → graph_of ys ≡ []
unfolding graph_of
short_graph [] h = refl
short_graph (a ∷ []) h = refl
short_graph (a ∷ b ∷ ys) h = absurd (omega arith)

-- past the last pin no node is left
pub graph_end : (xs : List ℕ) (i : ℕ) → length xs / 2 ≤ i → graph_of (drop (2 * i) xs) ≡ []
graph_end xs i h = short_graph (drop (2 * i) xs) (omega (arith, length-drop (2 * i) xs))

module _ (xs : List ℕ) (i : ℕ) (inv : nodes_fit (graph_of xs) ≡ nodes_fit (graph_of (drop (2 * i) xs))) where
  nodes_next : i < length xs / 2 → {b : Bool} → node_fits (node_of (get_or xs (2 * i) 0) (get_or xs (2 * i + 1) 0)) ≡ b → nodes_fit (graph_of xs) ≡ b && nodes_fit (graph_of (drop (2 * (i + 1)) xs))
  unfolding nodes_fit
  nodes_next h e = inv ∙ rw (graph_step xs i (omega arith), nodes_fit, e)

  -- a node that does not fit decides
  pub nodes_none : i < length xs / 2 → node_fits (node_of (get_or xs (2 * i) 0) (get_or xs (2 * i + 1) 0)) ≡ false → false ≡ nodes_fit (graph_of xs)
  nodes_none h e = sym (nodes_next h e)

  -- a node that fits: those behind it decide
  pub nodes_more : i < length xs / 2 → node_fits (node_of (get_or xs (2 * i) 0) (get_or xs (2 * i + 1) 0)) ≡ true → nodes_fit (graph_of xs) ≡ nodes_fit (graph_of (drop (2 * (i + 1)) xs))
  nodes_more h e = nodes_next h e

  -- no node left: all fit
  pub nodes_end : length xs / 2 ≤ i → true ≡ nodes_fit (graph_of xs)
  unfolding nodes_fit
  nodes_end h = sym (inv ∙ rw (graph_end xs i h))

-- an odd count of numbers does not fit
pub gates_odd : (xs : List ℕ) → length xs % 2 ≡ 1 → false ≡ gates_fit xs
unfolding gates_fit
gates_odd xs h = sym (rw (ne_eqb (length xs % 2) 0 (λ z. omega arith)))

-- without pin 0 there is no graph
pub gates_few : (xs : List ℕ) → length xs < 2 → false ≡ gates_fit xs
unfolding gates_fit pin_count
gates_few xs h = sym (rw (lt-leb 1 (length xs / 2) (omega arith), and_none (eqb (length xs % 2) 0)))

marked : Bool → Bool → List ℕ → Bool
marked a b xs = ((a && b) && every is_mark (take 2 xs)) && nodes_fit (graph_of xs)

not_marked : (a b : Bool) (xs : List ℕ) → every is_mark (take 2 xs) ≡ false → false ≡ marked a b xs
unfolding marked
not_marked a b xs e = sym (rw (e, and_none (a && b)))

first_mark : (xs : List ℕ) → 2 ≤ length xs → (get_or xs 0 0 ≡ 4294967295 → ⊥) → every is_mark (take 2 xs) ≡ false
unfolding every is_mark empty
first_mark [] h e = absurd (omega arith)
first_mark (x ∷ []) h e = absurd (omega arith)
first_mark (x ∷ y ∷ xs) h e = rw (ne_eqb x 4294967295 e, every)

second_mark : (xs : List ℕ) → 2 ≤ length xs → (get_or xs 1 0 ≡ 4294967295 → ⊥) → every is_mark (take 2 xs) ≡ false
unfolding every is_mark empty
second_mark [] h e = absurd (omega arith)
second_mark (x ∷ []) h e = absurd (omega arith)
second_mark (x ∷ y ∷ xs) h e = split (eqb x 4294967295) (λ t. rw (t, every, ne_eqb y 4294967295 e)) (λ t. rw (t, every))

both_marks : (xs : List ℕ) → 2 ≤ length xs → get_or xs 0 0 ≡ 4294967295 → get_or xs 1 0 ≡ 4294967295 → every is_mark (take 2 xs) ≡ true
unfolding every is_mark empty
both_marks [] h e d = absurd (omega arith)
both_marks (x ∷ []) h e d = absurd (omega arith)
both_marks (x ∷ y ∷ xs) h e d = rw (eq-eqb x 4294967295 e, every, eq-eqb y 4294967295 d)

-- pin 0 must be a leaf: its first number the empty mark
pub gates_first : (xs : List ℕ) → 2 ≤ length xs → (get_or xs 0 0 ≡ 4294967295 → ⊥) → false ≡ gates_fit xs
unfolding gates_fit marked
gates_first xs h e = not_marked (eqb (length xs % 2) 0) (leb 1 (pin_count xs)) xs (first_mark xs h e)

-- pin 0 must be a leaf: its second number the empty mark
pub gates_second : (xs : List ℕ) → 2 ≤ length xs → (get_or xs 1 0 ≡ 4294967295 → ⊥) → false ≡ gates_fit xs
unfolding gates_fit marked
gates_second xs h e = not_marked (eqb (length xs % 2) 0) (leb 1 (pin_count xs)) xs (second_mark xs h e)

-- with the length and pin 0 right, the nodes decide
pub gates_rest : (xs : List ℕ) → (length xs % 2 ≡ 1 → ⊥) → 2 ≤ length xs → get_or xs 0 0 ≡ 4294967295 → get_or xs 1 0 ≡ 4294967295 → nodes_fit (graph_of xs) ≡ gates_fit xs
unfolding gates_fit pin_count
gates_rest xs o h e d = sym (rw (eq-eqb (length xs % 2) 0 (split (eqb (length xs % 2) 1) (λ t. absurd (o (eqb_true (length xs % 2) 1 t))) (λ t. let n = eqb_false (length xs % 2) 1 t in omega arith)), le-leb 1 (length xs / 2) (omega arith), both_marks xs h e d))

-- ---- records

counted_then : (g : Group) (r : Groups?) (b : Bool) → group_fits g ≡ b → counted (and_then g r) ≡ elim b [ true ↦ behind 1 (counted r) | false ↦ None ]
unfolding counted and_then behind groups_fit
counted_then g unreadable true e = refl
counted_then g unreadable false e = refl
counted_then g (groups gs) true e =
    let d : suc (length gs) ≡ 1 + length gs = omega arith in
    rw (e, counted) (split (groups_fit gs) (λ t. rw (t, counted) (ap Some d)) (λ t. rw (t, counted)))
counted_then g (groups gs) false e = rw (e, counted)

module _ (xs : List ℕ) (at : ℕ) where
  group_fits_lem : at < length xs → whole_at (drop at xs) ≡ true → group_fits (group_at (drop at xs)) ≡ every (fits_in (number_width (get_or xs at 0))) (take (size_of (get_or xs at 0)) (drop (at + 1) xs))
  group_fits_lem h t =
      let d = drop-cons xs at 0 h in
      let s : suc at ≡ at + 1 = omega arith in
      rw (d, s) (plain_at (get_or xs at 0) (drop (at + 1) xs) (rw (d, s) at t)).fits

  -- where no whole record stands, none fits
  pub record_none : at < length xs → size_at xs at ≡ 0 → RecordIs xs at None
  unfolding counted
  record_none h e = rw (read_cut xs at h (size_none xs at e))

  module _ (h : at < length xs) (n : ℕ) (size : n ≡ size_at xs at) (some : n ≢ 0) where
    there : Stands xs at
    there = stands xs at (split (eqb n 0) (λ t. absurd (some (eqb_true n 0 t))) (λ t. let k = eqb_false n 0 t in omega arith))

    -- a record ends within the list
    pub record_there : at + 1 + n ≤ length xs
    record_there = omega (arith, there.inside)

    numbers_fit : (limit : ℕ) → limit ≡ 2 ^ number_width (get_or xs at 0) → {b : Bool} → b ≡ every (λ x. ltb x limit) (take (at + 1 + n - (at + 1)) (drop (at + 1) xs)) → group_fits (group_at (drop at xs)) ≡ b
    numbers_fit limit l e =
        let T = there in
        let m : at + 1 + n - (at + 1) ≡ size_of (get_or xs at 0) = omega (arith, T.size) in
        group_fits_lem h T.is ∙ sym (rw (m, l) at e)

    -- a number too great for its field: the record does not fit
    pub record_unfit : (limit : ℕ) → limit ≡ 2 ^ number_width (get_or xs at 0) → every (λ x. ltb x limit) (take (at + 1 + n - (at + 1)) (drop (at + 1) xs)) ≡ false → RecordIs xs at None
    record_unfit limit l e = ap counted (read_step xs at there.is) ∙ counted_then (group_at (drop at xs)) (read (drop (at + (1 + size_of (get_or xs at 0))) xs)) false (numbers_fit limit l (sym e))

    -- all numbers below the limit: the record fits, and takes so many numbers
    pub record_fit : (limit : ℕ) → limit ≡ 2 ^ number_width (get_or xs at 0) → every (λ x. ltb x limit) (take (at + 1 + n - (at + 1)) (drop (at + 1) xs)) ≡ true → RecordIs xs at (Some (1 + n))
    record_fit limit l e =
        let T = there in
        let m : n ≡ size_of (get_or xs at 0) = size ∙ T.size in
        record {
          some = omega arith;
          is = rw m (ap counted (read_step xs at T.is) ∙ counted_then (group_at (drop at xs)) (read (drop (at + (1 + size_of (get_or xs at 0))) xs)) true (numbers_fit limit l (sym e)));
          inside = omega (arith, T.inside);
        }

-- a staged pin has 16 bits
pub limit_is : (k : ℕ) → k ≡ 4 → 65536 ≡ 2 ^ number_width k
unfolding number_width
limit_is k e = rw (eq-eqb k 4 e, number_width)

-- any other number of a record is a literal, of 17 bits
pub limit_other : (k : ℕ) → (k ≡ 4 → ⊥) → 131072 ≡ 2 ^ number_width k
unfolding number_width
limit_other k e = rw (ne_eqb k 4 e, number_width)

-- the groups before i are counted
pub record Counting (xs : List ℕ) (i count : ℕ) : Type 0 where
  pub is : counted (read xs) ≡ behind count (counted (read (drop i xs)))
  pub few : count ≤ i
  pub upto : i ≤ length xs

behind_none : (z : Option ℕ) → z ≡ behind 0 z
unfolding behind
behind_none None = refl
behind_none (Some m) = let e : m ≡ 0 + m = omega arith in ap Some e

behind_more : (n : ℕ) (z : Option ℕ) → behind n (behind 1 z) ≡ behind (n + 1) z
unfolding behind
behind_more n None = refl
behind_more n (Some m) = let e : n + (1 + m) ≡ n + 1 + m = omega arith in ap Some e

behind_lost : (n : ℕ) → behind n None ≡ None
unfolding behind
behind_lost n = refl

-- at the front no group is counted yet
pub counting_none : (xs : List ℕ) → Counting xs 0 0
counting_none xs = record { is = behind_none (counted (read xs)); few = omega arith; upto = omega arith }

module _ {xs : List ℕ} {i count : ℕ} (C : Counting xs i count) where
  -- a record that does not fit: no count
  pub counting_lost : RecordIs xs i None → None ≡ counted (read xs)
  counting_lost R = sym (C.is ∙ rw R (behind_lost count))

  -- a record that fits counts one more
  pub counting_more : {r : ℕ} → RecordFits xs i r → Counting xs (i + r) (count + 1)
  counting_more {r} R = record { is = C.is ∙ rw R.is (behind_more count (counted (read (drop (i + r) xs)))); few = omega (arith, C.few, R.some); upto = R.inside }

  -- at the end all groups are counted
  pub counting_done : length xs ≤ i → Some count ≡ counted (read xs)
  unfolding counted groups_fit behind
  counting_done h = let z : count + 0 ≡ count = omega arith in sym (C.is ∙ rw (read_end xs i h, z))

-- ---- the job

-- a height above 10 is over the program's sizes
pub high : (J : Job) → 10 < J.height → Judged J None
unfolding fits_program
high J h = λ gs H e. true_false e (rw (lt-leb J.height 10 h))

-- more than 500 pins are over the program's sizes
pub many_pins : (J : Job) → 501 < length J.gates / 2 → Judged J None
unfolding fits_program pin_count
many_pins J h = λ gs H e. true_false e (rw (lt-leb (length J.gates / 2) 501 h, and_none (leb J.height 10)))

-- more than 512 record numbers are over the program's sizes
pub many_numbers : (J : Job) → 512 < length J.records → Judged J None
unfolding fits_program
many_numbers J h = λ gs H e. true_false e (rw (lt-leb (length J.records) 512 h, and_none (leb J.height 10 && leb (pin_count J.gates) 501)))

-- a count of given pins must fit 16 bits
pub many_given : (J : Job) → 65536 ≤ length J.given → Judged J None
many_given J h = λ gs H e. true_false H.few (le-ltb (length J.given) 65536 h)

-- gates that do not fit are judged 0
pub bad_gates : (J : Job) → gates_fit J.gates ≡ false → Judged J None
bad_gates J d = λ gs H e. true_false H.gates d

-- given pins that do not fit are judged 0
pub bad_given : (J : Job) → every (λ x. ltb x 65536) J.given ≡ false → Judged J None
unfolding pin_fits
bad_given J d = λ gs H e. true_false H.given d

module _ (J : Job) (height : J.height ≤ 10) (pins : length J.gates / 2 ≤ 501) (numbers : length J.records ≤ 512) (few : length J.given < 65536) (gates : gates_fit J.gates ≡ true)
    (given : every (λ x. ltb x 65536) J.given ≡ true) where
  sized : fits_program J ≡ true
  unfolding fits_program pin_count
  sized = rw (le-leb J.height 10 height, le-leb (length J.gates / 2) 501 pins, le-leb (length J.records) 512 numbers)

  by_read : (r : Groups?) → read J.records ≡ r → Judged J (counted r)
  unfolding counted groups_of pin_fits
  by_read unreadable e = λ gs H _. not_groups (sym e ∙ H.read)
  by_read (groups xs) e = split (groups_fit xs)
      (λ t. rw (t, counted)
      (let o : groups_of J.records ≡ xs = rw (groups_of, e) in
      record { held = record { read = rw o e; gates = gates; few = lt-ltb (length J.given) 65536 few; given = given; groups = rw o t }; fits = sized; count = rw o }))
      (λ t. rw (t, counted) (λ gs H _. let o : gs ≡ xs = let q = sym H.read ∙ e in cc in true_false H.groups (rw o t)))

  -- with all but the records right, the count of groups is the judgement
  pub judged : {r : Option ℕ} → r ≡ counted (read J.records) → Judged J r
  judged e = rw e (by_read (read J.records) refl)
