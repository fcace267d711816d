-- What a clock reads, by what is asked and left of the lent areas. Assumes nothing.
use Rattle.std.specs.Prelude.{ℕ, ◌+◌, ◌^◌, ◌≤◌, ◌<◌, ◌≡◌, List, length, get_or, take, drop}
use Rattle.rules.specs.Graph.{graph_of, pin_count}
use Rattle.rules.specs.Records.{groups, read, groups_of, Ends}
use Rattle.replay_form.specs.Clocks.{line_leaves}
use Rattle.replay_tape.specs.Clocks.{places_of, flips_from}
use Rattle.replay_tape.specs.Plans.{PlanIn, PlanMade}
use Rattle.replay_run.specs.Slots.{PlanAt, slot_or, written_by}
use Rattle.replay_run.specs.Places.{read_in}
use Rattle.replay_run.specs.Leaves.{Marked}
use Rattle.replay_plan.specs.declared.tape.Lists.{Lists}

-- a plan with its words and counts
pub record TapeIn (K m : ℕ) (plan words counts : List ℕ) (total : ℕ) (w l t : List ℕ) : Type 0 where
  pub made : PlanIn K m plan w l t
  pub readable : PlanAt (2 ^ (K + 1)) plan w words counts total

-- its slots and entries, and the slot that each pin is read from
pub record TapeOut (K m : ℕ) (plan words counts w l t w' l' t' : List ℕ) (e : ℕ) : Type 0 where
  pub between : List ℕ
  pub made : PlanMade K m plan w l t w' between t' e
  pub llen : length l' ≡ length l
  pub reads : (q : ℕ) → q < m → get_or l' q 0 ≡ slot_or w' 0 (written_by (2 ^ (K + 1)) 0 q plan words counts)

-- readable records, the slots that pins are read from, room, and no mark
pub record ListsIn (gates records w s b : List ℕ) : Type 0 where
  pub few : pin_count gates ≤ 65536
  pub readable : read records ≡ groups (groups_of records)
  pub short : length records ≤ 65536
  pub named : (q : ℕ) → Ends q (groups_of records) → q < pin_count gates
  pub small : (q : ℕ) → q < pin_count gates → get_or w q 0 < 2147483648
  pub work : pin_count gates + length records ≤ length w
  pub slots : length records ≤ length s
  pub marks : pin_count gates ≤ length b
  pub none : (p : ℕ) → get_or b p 0 ≡ 0

-- the lists
pub record ListsOut (gates records driven w s b w' s' b' : List ℕ) (r : Lists) : Type 0 where
  pub wlen : length w' ≡ length w
  pub slen : length s' ≡ length s
  pub places_few : r.places ≤ length records
  pub leaves_few : r.leaves ≤ pin_count gates
  pub flips_few : r.flips ≤ length records
  pub places : take r.places s' ≡ places_of (read_in (take (pin_count gates) w)) (groups_of records)
  pub marks : Marked driven b b'
  pub leaves : take r.leaves w' ≡ line_leaves (graph_of gates) driven
  pub flips : take r.flips (drop (pin_count gates) w') ≡ flips_from 0 (groups_of records)
