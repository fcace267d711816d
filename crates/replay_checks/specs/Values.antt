-- What the checks of a replay ask, count and say. Assumes nothing.
use Rattle.std.specs.Prelude.{ℕ, ◌≤◌, ◌≡◌, Bool, true, false, List, eqb, length, get_or}
use Rattle.rules.specs.Graph.{Node, graph_of, pin_count}
use Rattle.rules.specs.Records.{Group, groups, read, groups_of}
use Rattle.rules.specs.Reservation.{memories}
use Rattle.replay_form.specs.Clocks.{line_leaves, bits_out, flip_flops}
use Rattle.replay_form.specs.Calls.{driven_right, lengths_right, out_right}
use Rattle.replay_run.specs.Leaves.{Marked}
use Rattle.replay_checks.specs.declared.counts.Counts.{Counts}

-- what check 3 says of the graph's size
pub record Checked (gates : List ℕ) : Type 0 where
  pub few : pin_count gates ≤ 65536

-- what check 4 says of the records
pub record Readable (records : List ℕ) : Type 0 where
  pub readable : read records ≡ groups (groups_of records)
  pub short : length records ≤ 65536

-- 1 where a kind is the one asked for, else 0
unfoldable pub one_if : (kind asked : ℕ) → ℕ
one_if k a = elim (eqb k a) [ true ↦ 1 | false ↦ 0 ]

-- the counts of some records
pub record Counted (gs : List Group) (r : Counts) : Type 0 where
  pub memory : r.memories ≡ memories gs
  pub flip : r.flips ≡ flip_flops gs
  pub bit : r.bits ≡ bits_out gs

-- a mark for each pin, all 0
pub record MarksAt (gates marks : List ℕ) : Type 0 where
  pub few : pin_count gates ≤ 65536
  pub room : pin_count gates ≤ length marks
  pub none : (p : ℕ) → get_or marks p 0 ≡ 0

-- the answer of check 19; where it passes the driven pins are marked
pub record LeavesMarked (g : List Node) (driven marks marks' : List ℕ) (r : Bool) : Type 0 where
  pub len : length marks' ≡ length marks
  pub right : r ≡ driven_right g driven
  pub marked : r ≡ true → Marked driven marks marks'

-- the first of 20 and 17 that applies, or 0
unfoldable pub measured : (flips bits leaves driven starting lines recording out end : ℕ) → ℕ
measured flips bits leaves driven starting lines recording out end =
    elim (lengths_right flips leaves driven starting lines recording) [ false ↦ 20 | true ↦ elim (out_right flips bits lines out end) [ false ↦ 17 | true ↦ 0 ] ]

-- the first of 19, 20 and 17, or 0
unfoldable pub numbered : (gates driven : List ℕ) → (flips bits starting lines recording out end : ℕ) → ℕ
numbered gates driven flips bits starting lines recording out end =
    elim (driven_right (graph_of gates) driven) [
      | false ↦ 19
      | true ↦ measured flips bits (length (line_leaves (graph_of gates) driven)) (length driven) starting lines recording out end
    ]
