-- What the loops of the checks keep, and how each ends. Assumes nothing.
use Prim.Native.Nat.{ℕ, ◌+◌, ◌*◌, ◌≤◌, ◌<◌}
use mathlib.Core.Bool.{Bool, true, false, not, ◌&&◌}
use mathlib.Core.List.{List, [], ◌∷◌}
use mathlib.Core.Path.{◌≡◌, refl, sym, ap, ◌∙◌}
use native.Mathlib.Omega.{arith}
use lib.Dec.{ltb}
use lib.ListN.{length, get_or, drop}
use borrow.Author.Tests.{lt-ltb, le-ltb, le-leb, lt-leb}
use Rattle.rules.specs.Lists.{every}
use Rattle.rules.specs.Graph.{Node, node_of, graph_of, pin_count}
use Rattle.rules.specs.Records.{group_at, whole_at, read, endpoints_of, all_named}
use Rattle.rules.specs.Checks.{nodes_right, groups_right, records_right}
use Rattle.records.specs.Values.{size_at, endpoint_at, record_right}
use Rattle.rules.proofs.Bools.{no, yes}
use Rattle.checks.proofs.Laws.Gates.{nodes_step, nodes_end}
use Rattle.records.proofs.Reading.{Stands, size_endpoints, endpoint_is, size_none, read_end, read_cut, groups_step, every_step, every_end}

-- the gates below pin p are right, or the answer is theirs
pub record NodesLeft (gates : List ℕ) (pins p : ℕ) : Type 0 where
  pub even : 2 * pins ≤ length gates
  pub last : length gates ≤ 2 * pins + 1
  pub upto : p ≤ pins
  pub same : nodes_right pins 0 (graph_of gates) ≡ nodes_right pins p (graph_of (drop (2 * p) gates))

-- at pin 0 all gates are left
pub nodes_begin : (gates : List ℕ) (pins : ℕ) → pins ≡ pin_count gates → NodesLeft gates pins 0
unfolding pin_count
nodes_begin gates pins e = record { even = omega arith; last = omega arith; upto = omega arith; same = refl }

module _ (gates : List ℕ) (pins p : ℕ) (l : NodesLeft gates pins p) where
  -- the count of pins is that of the lent numbers
  pub pins_are : pins ≡ pin_count gates
  unfolding pin_count
  pins_are = omega arith

  in_all : nodes_right pins 0 (graph_of gates) ≡ nodes_right (pin_count gates) 0 (graph_of gates)
  in_all = ap (λ (n : ℕ). nodes_right n 0 (graph_of gates)) pins_are

  step : p < pins → nodes_right pins 0 (graph_of gates) ≡ nodes_right pins p (node_of (get_or gates (2 * p) 0) (get_or gates (2 * p + 1) 0) ∷ []) && nodes_right pins (p + 1) (graph_of (drop (2 * (p + 1)) gates))
  step h = l.same ∙ nodes_step pins gates p (omega (arith, pins_are))

  -- gate p, and what testing it answers
  module _ {x : Node} {r : Bool} (ex : x ≡ node_of (get_or gates (2 * p) 0) (get_or gates (2 * p + 1) 0)) (er : r ≡ nodes_right pins p (x ∷ [])) (h : p < pins) where
    answer : r ≡ nodes_right pins p (node_of (get_or gates (2 * p) 0) (get_or gates (2 * p + 1) 0) ∷ [])
    answer = er ∙ ap (λ y. nodes_right pins p (y ∷ [])) ex

    -- a right gate: those behind it are left
    pub nodes_more : not r ≡ false → NodesLeft gates pins (p + 1)
    nodes_more t = record { even = l.even; last = l.last; upto = omega arith; same = rw (yes answer t) at (step h) }

    -- a wrong gate decides check 3
    pub nodes_wrong : not r ≡ true → false ≡ nodes_right (pin_count gates) 0 (graph_of gates)
    nodes_wrong t = sym (rw (no answer t) at (step h)) ∙ in_all

  -- no gate left: all are right
  pub nodes_done : pins ≤ p → true ≡ nodes_right (pin_count gates) 0 (graph_of gates)
  nodes_done h = sym (l.same ∙ nodes_end pins gates p (omega (arith, pins_are))) ∙ in_all

-- the entries before i pass
pub record EveryLeft (n : ℕ) (xs : List ℕ) (i : ℕ) : Type 0 where
  pub upto : i ≤ length xs
  pub same : every (λ p. ltb p n) xs ≡ every (λ p. ltb p n) (drop i xs)

-- at the front all entries are left
pub every_begin : (n : ℕ) (xs : List ℕ) → EveryLeft n xs 0
every_begin n xs = record { upto = omega arith; same = refl }

module _ (n : ℕ) (xs : List ℕ) (i : ℕ) (l : EveryLeft n xs i) where
  -- an entry that passes: those behind it are left
  pub every_more : i < length xs → get_or xs i 0 < n → EveryLeft n xs (i + 1)
  every_more h a = record { upto = omega arith; same = rw (lt-ltb (get_or xs i 0) n a) at (l.same ∙ every_step (λ p. ltb p n) xs i h) }

  -- an entry that fails decides
  pub every_wrong : i < length xs → n ≤ get_or xs i 0 → false ≡ every (λ p. ltb p n) xs
  every_wrong h a = sym (rw (le-ltb (get_or xs i 0) n a) at (l.same ∙ every_step (λ p. ltb p n) xs i h))

  -- no entry left: all pass
  pub every_done : length xs ≤ i → true ≡ every (λ p. ltb p n) xs
  every_done h = sym (l.same ∙ every_end (λ p. ltb p n) xs i h)

-- the first i pins of the record at an index are below n
pub record PinsLeft (n : ℕ) (xs : List ℕ) (at size i : ℕ) : Type 0 where
  pub whole : whole_at (drop at xs) ≡ true
  pub all : size ≡ length (endpoints_of (group_at (drop at xs)))
  pub left : EveryLeft n (endpoints_of (group_at (drop at xs))) i

-- at its first pin a whole record has all pins left
pub pins_begin : (n : ℕ) (xs : List ℕ) (at size : ℕ) → whole_at (drop at xs) ≡ true → size ≡ size_at xs at → PinsLeft n xs at size 0
pins_begin n xs at size t e = record { whole = t; all = e ∙ size_endpoints xs at t; left = every_begin n (endpoints_of (group_at (drop at xs))) }

module _ (n : ℕ) (xs : List ℕ) (at size i : ℕ) (l : PinsLeft n xs at size i) where
  module _ {q w : ℕ} (eq : q ≡ endpoint_at xs at i) (ew : w ≡ q) (h : i < size) where
    pin : w ≡ get_or (endpoints_of (group_at (drop at xs))) i 0
    pin = ew ∙ eq ∙ endpoint_is xs at l.whole i

    -- a pin below n: those behind it are left
    pub pins_more : w < n → PinsLeft n xs at size (i + 1)
    pins_more a = record { whole = l.whole; all = l.all; left = every_more n (endpoints_of (group_at (drop at xs))) i l.left (omega (arith, l.all)) (omega (arith, pin)) }

    -- a pin that is not below n decides for the record
    pub pins_wrong : n ≤ w → false ≡ record_right n (drop at xs)
    unfolding record_right
    pins_wrong a = every_wrong n (endpoints_of (group_at (drop at xs))) i l.left (omega (arith, l.all)) (omega (arith, pin))

  -- no pin left: the record is right
  pub pins_done : size ≤ i → true ≡ record_right n (drop at xs)
  unfolding record_right
  pins_done h = every_done n (endpoints_of (group_at (drop at xs))) i l.left (omega (arith, l.all))

-- the records before an index are whole and right
pub record RecordsLeft (n : ℕ) (xs : List ℕ) (at : ℕ) : Type 0 where
  pub few : length xs ≤ 65536
  pub upto : at ≤ length xs
  pub same : records_right n xs ≡ groups_right n (read (drop at xs))

-- more than 65,536 numbers of records are wrong
pub records_many : (n : ℕ) (xs : List ℕ) → 65536 < length xs → false ≡ records_right n xs
unfolding records_right
records_many n xs h = rw (lt-leb (length xs) 65536 h)

-- at the front all records are left
pub records_begin : (n : ℕ) (xs : List ℕ) → length xs ≤ 65536 → RecordsLeft n xs 0
unfolding records_right
records_begin n xs h = record { few = h; upto = omega arith; same = rw (le-leb (length xs) 65536 h) }

module _ (n : ℕ) (xs : List ℕ) (at : ℕ) (l : RecordsLeft n xs at) where
  -- where no whole record stands the records are wrong
  pub records_cut : at < length xs → size_at xs at ≡ 0 → false ≡ records_right n xs
  unfolding groups_right
  records_cut h e = rw (l.same, read_cut xs at h (size_none xs at e))

  -- a record with a wrong pin decides
  pub records_wrong : Stands xs at → record_right n (drop at xs) ≡ false → false ≡ records_right n xs
  records_wrong w e = rw (l.same, groups_step n xs at w.is, e)

  -- a right record: those behind it are left
  pub records_more : Stands xs at → record_right n (drop at xs) ≡ true → RecordsLeft n xs (at + (1 + size_at xs at))
  records_more w e = record { few = l.few; upto = omega arith; same = rw w.size (rw e at (l.same ∙ groups_step n xs at w.is)) }

  -- no record left: all are right
  pub records_done : length xs ≤ at → true ≡ records_right n xs
  unfolding groups_right all_named
  records_done h = rw (l.same, read_end xs at h)
