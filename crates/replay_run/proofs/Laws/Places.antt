-- The places that the records hand out, number after number and record after record. Assumes nothing.
use Prim.Native.Nat.{ℕ, zero, suc, ◌+◌, ◌*◌, ◌≤◌, ◌<◌}
use mathlib.Core.Path.{◌≡◌, refl, sym, ◌∙◌, ap, ap₂}
use mathlib.Core.Bool.{true}
use mathlib.Core.List.{List, [], ◌∷◌, ◌++◌, map, append_assoc, append-nil}
use native.Mathlib.Omega.{arith}
use lib.ListN.{length, get_or, set, take, drop, length-set, length-map}
use lib.Seq.{take-suc, take-suc-set, take_all, length-take-le, get_or-take, get_or-drop}
use borrow.Author.Tests.{ne_eqb}
use Rattle.rules.specs.Graph.{pin_of, inversion_of, literal_of}
use Rattle.rules.specs.Records.{Group, output, flip_flop, memory, staged_pin, groups, size_of, group_at, whole_at, read, endpoints_of, groups_of}
use Rattle.rules.specs.Records.{Ends}
use Rattle.records.specs.Values.{size_at, endpoint_at}
use Rattle.records.proofs.Reading.{standing, endpoint_is, size_endpoints}
use Rattle.checks.proofs.Laws.Passed.{Next, read_next, read_last, endpoint_below, rest_below}
use Rattle.replay_tape.specs.Clocks.{record_places, places_of}
use Rattle.replay_run.specs.Places.{inversion_by, Inverts, read_in, RecordIn, RecordPut, PlacesIn, PlacesPut}
use Rattle.replay_run.proofs.Laws.Flips.{kinds, whole_some}

-- a staged pin has no inversion
pub inverts_none : (k x : ℕ) → k ≡ 4 → Inverts k x 0
unfolding inversion_by
inverts_none k x e = record { is = rw e; small = omega arith }

-- a literal has its own
pub inverts_some : (k x : ℕ) → (k ≡ 4 → ⊥) → (r : ℕ) → r ≡ inversion_of x → r ≤ 1 → Inverts k x r
unfolding inversion_by
inverts_some k x e r er h = record { is = rw (ne_eqb k 4 e, inversion_by) er; small = h }

-- ---- a record

map_at : (f : ℕ → ℕ) (l : List ℕ) (i : ℕ) → i < length l → get_or (map f l) i 0 ≡ f (get_or l i 0)
map_at f [] i h = absurd (omega arith)
map_at f (x ∷ l) zero h = refl
map_at f (x ∷ l) (suc i) h = map_at f l i (omega arith)

module _ (r : ℕ → ℕ) where
  -- a place for each endpoint of a record
  pub length_record : (x : Group) → length (record_places r x) ≡ length (endpoints_of x)
  unfolding record_places endpoints_of
  length_record (output l) = refl
  length_record (flip_flop e d) = refl
  length_record (memory ls) = length-map ls (λ l. literal_of (r (pin_of l)) (inversion_of l)) ∙ sym (length-map ls pin_of)
  length_record (staged_pin p) = refl

  abbrev Placed : ℕ → List ℕ → ℕ → Type 0
  Placed x xs i = get_or (record_places r (group_at (x ∷ xs))) i 0 ≡ literal_of (r (get_or (endpoints_of (group_at (x ∷ xs))) i 0)) (inversion_by x (get_or xs i 0))

  output_place : (xs : List ℕ) (i : ℕ) → i < 1 → Placed 1 xs i
  unfolding record_places endpoints_of group_at inversion_by
  output_place xs zero h = refl
  output_place xs (suc i) h = absurd (omega arith)

  flip_place : (xs : List ℕ) (i : ℕ) → i < 2 → Placed 2 xs i
  unfolding record_places endpoints_of group_at inversion_by
  flip_place xs zero h = refl
  flip_place xs (suc zero) h = refl
  flip_place xs (suc (suc i)) h = absurd (omega arith)

  memory_place : (xs : List ℕ) (i : ℕ) → 91 ≤ length xs → i < 91 → Placed 3 xs i
  unfolding record_places endpoints_of group_at inversion_by
  memory_place xs i l h =
      let t : i < length (take 91 xs) = omega (arith, length-take-le 91 xs l) in
      map_at (λ n. literal_of (r (pin_of n)) (inversion_of n)) (take 91 xs) i t
      ∙ ap₂ (λ (a b : ℕ). literal_of (r a) (inversion_of b)) (sym (map_at pin_of (take 91 xs) i t)) (get_or-take 91 xs i 0 h)

  staged_place : (xs : List ℕ) (i : ℕ) → i < 1 → Placed 4 xs i
  unfolding record_places endpoints_of group_at inversion_by
  staged_place xs zero h = refl
  staged_place xs (suc i) h = absurd (omega arith)

  place_front : (xs : List ℕ) → whole_at xs ≡ true → (i : ℕ) → i < size_of (get_or xs 0 0) →
      get_or (record_places r (group_at xs)) i 0 ≡ literal_of (r (get_or (endpoints_of (group_at xs)) i 0)) (inversion_by (get_or xs 0 0) (get_or xs (suc i) 0))
  unfolding size_of
  place_front [] t i h = let w = whole_some [] t in absurd (omega (arith, w.1))
  place_front (x ∷ xs) t i h =
      let w = whole_some (x ∷ xs) t in
      kinds x
      (λ e. rw e (output_place xs i (omega (arith, ap size_of e))))
      (λ e. rw e (flip_place xs i (omega (arith, ap size_of e))))
      (λ e. rw e (memory_place xs i (omega (arith, w.1, ap size_of e)) (omega (arith, ap size_of e))))
      (λ e. rw e (staged_place xs i (omega (arith, ap size_of e))))
      (λ e. absurd (omega (arith, w.0)))

abbrev places_here : (records reads : List ℕ) → ℕ → List ℕ
places_here records reads at = record_places (read_in reads) (group_at (drop at records))

-- the first i places of a record are put
pub record RecordTo (records reads : List ℕ) (at size j : ℕ) (places : List ℕ) (i : ℕ) (now : List ℕ) : Type 0 where
  pub upto : i ≤ size
  pub len : length now ≡ length places
  pub is : take (j + i) now ≡ take j places ++ take i (places_here records reads at)

module _ (records reads : List ℕ) (at size : ℕ) (places : List ℕ) (j : ℕ) (A : RecordIn records reads at size places j) where
  here_length : length (places_here records reads at) ≡ size
  here_length = length_record (read_in reads) (group_at (drop at records)) ∙ sym (A.sized ∙ size_endpoints records at A.whole)

  -- the record stands whole
  pub record_inside : at + 1 + size ≤ length records
  record_inside = let S = standing records at A.whole in omega (arith, S.inside, A.sized)

  -- none at the beginning
  pub record_none : RecordTo records reads at size j places 0 places
  record_none = let z : j + 0 ≡ j = omega arith in record { upto = omega arith; len = refl; is = rw z (sym (append-nil (take j places))) }

  module _ (i : ℕ) (h : i < size) (p v : ℕ) (ep : p ≡ endpoint_at records at i) where
    -- the pin has a slot
    pub pin_inside : p < length reads
    pin_inside = omega (arith, A.pins i h)

    -- whose literal fits
    pub slot_small : get_or reads p 0 < 2147483648
    slot_small = A.small p pin_inside

    module _ (I : Inverts (get_or records at 0) (get_or records (at + 1 + i) 0) v) where
      place_is : get_or (places_here records reads at) i 0 ≡ 2 * get_or reads p 0 + v
      unfolding literal_of
      place_is =
          let S = standing records at A.whole in
          let k : get_or (drop at records) 0 0 ≡ get_or records at 0 = get_or-drop at records 0 0 ∙ ap (λ (n : ℕ). get_or records n 0) (omega arith) in
          let x : get_or (drop at records) (suc i) 0 ≡ get_or records (at + 1 + i) 0 = get_or-drop at records (suc i) 0 ∙ ap (λ (n : ℕ). get_or records n 0) (omega arith) in
          let l : i < size_of (get_or (drop at records) 0 0) = omega (arith, ap size_of k, S.size, A.sized) in
          let e : get_or (endpoints_of (group_at (drop at records))) i 0 ≡ p = sym (ep ∙ endpoint_is records at A.whole i) in
          let w : inversion_by (get_or (drop at records) 0 0) (get_or (drop at records) (suc i) 0) ≡ v = ap₂ inversion_by k x ∙ sym I.is in
          place_front (read_in reads) (drop at records) A.whole i l ∙ ap₂ (λ (a b : ℕ). 2 * get_or reads a 0 + b) e w

      -- one place more
      pub record_more : (now : List ℕ) → RecordTo records reads at size j places i now → RecordTo records reads at size j places (i + 1) (set now (j + i) (2 * get_or reads p 0 + v))
      record_more now R =
          let y = 2 * get_or reads p 0 + v in
          let n : j + (i + 1) ≡ suc (j + i) = omega arith in
          let m : i + 1 ≡ suc i = omega arith in
          let s : take (suc i) (places_here records reads at) ≡ take i (places_here records reads at) ++ (y ∷ []) = take-suc (places_here records reads at) i 0 (omega (arith, here_length)) ∙ rw place_is in
          record {
            upto = omega arith;
            len = length-set now (j + i) y ∙ R.len;
            is = rw (n, m, s) (take-suc-set now (j + i) y (omega (arith, R.len, A.room)) ∙ rw R.is (append_assoc (take j places) (take i (places_here records reads at)) (y ∷ [])));
          }

  -- all of a record
  pub record_done : (i : ℕ) (now : List ℕ) → RecordTo records reads at size j places i now → size ≤ i → RecordPut records reads at size j places now
  record_done i now R h =
      let e : i ≡ size = omega (arith, R.upto) in
      record { len = R.len; is = ap (λ (n : ℕ). take (j + n) now) (sym e) ∙ R.is ∙ ap (λ (l : List ℕ). take j places ++ l) (take_all i (places_here records reads at) (omega (arith, here_length))) }

-- ---- all records

-- the records before an index have their places
pub record PlacesTo (records reads places : List ℕ) (at j : ℕ) (now : List ℕ) : Type 0 where
  pub rest : List Group
  pub unread : read (drop at records) ≡ groups rest
  pub named : (q : ℕ) → Ends q rest → q < length reads
  pub len : length now ≡ length places
  pub inside : at ≤ length records
  pub low : j ≤ at
  pub is : places_of (read_in reads) (groups_of records) ≡ take j now ++ places_of (read_in reads) rest

module _ (records reads places : List ℕ) (A : PlacesIn records reads places) where
  -- none at the beginning
  pub places_none : PlacesTo records reads places 0 0 places
  places_none = record { rest = groups_of records; unread = A.readable; named = A.named; len = refl; inside = omega arith; low = omega arith; is = refl }

  module _ (at j : ℕ) (now : List ℕ) (R : PlacesTo records reads places at j now) (h : at < length records) (size : ℕ) (es : size ≡ size_at records at) where
    abbrev next : Next records at R.rest
    next = read_next records at R.rest R.unread h

    -- the record stands whole
    pub places_inside : at + 1 + size ≤ length records
    places_inside = let S = standing records at next.whole in omega (arith, S.inside)

    -- what is asked of the next record
    pub record_in : RecordIn records reads at size now j
    record_in = record {
      whole = next.whole;
      sized = es;
      pins = λ i b. endpoint_below records at R.rest next (length reads) R.named i (omega arith);
      small = A.small;
      room = omega (arith, places_inside, R.low, R.len, A.room);
    }

    -- one record more
    pub places_more : (now' : List ℕ) → RecordPut records reads at size j now now' → PlacesTo records reads places (at + (1 + size)) (j + size) now'
    unfolding places_of
    places_more now' P =
        let S = standing records at next.whole in
        let e : size ≡ size_of (get_or records at 0) = es ∙ S.size in
        let f : places_of (read_in reads) R.rest ≡ places_here records reads at ++ places_of (read_in reads) next.rest = ap (places_of (read_in reads)) next.these in
        record {
          rest = next.rest;
          unread = ap (λ (n : ℕ). read (drop (at + (1 + n)) records)) e ∙ next.others;
          named = rest_below records at R.rest next (length reads) R.named;
          len = P.len ∙ R.len;
          inside = omega (arith, places_inside);
          low = omega (arith, R.low);
          is = R.is ∙ ap (λ (l : List ℕ). take j now ++ l) f ∙ sym (append_assoc (take j now) (places_here records reads at) (places_of (read_in reads) next.rest)) ∙ ap (λ (l : List ℕ). l ++ places_of (read_in reads) next.rest) (sym P.is);
        }

  -- all records
  pub places_done : (at j : ℕ) (now : List ℕ) → PlacesTo records reads places at j now → length records ≤ at → PlacesPut records reads places now j
  unfolding places_of
  places_done at j now R h =
      let e : R.rest ≡ [] = read_last records at R.rest R.unread h in
      record { len = R.len; count = omega (arith, R.low, R.inside); is = sym (R.is ∙ ap (λ (g : List Group). take j now ++ places_of (read_in reads) g) e ∙ append-nil (take j now)) }
