-- Stage after stage: what is asked and left of the slots, of the numbers by pin and of the entries. Assumes nothing.
use Rattle.std.specs.Prelude.{ℕ, ◌+◌, ◌-◌, ◌*◌, ◌^◌, ◌≤◌, ◌<◌, ◌≡◌, true, List, [], ◌++◌, length, get_or, take, drop}
use Rattle.rules.specs.Cells.{empty, filled, rooms}
use Rattle.rules.specs.Coded.{cell_pin}
use Rattle.fold_stage.specs.Bits.{StageAt, UpAt}
use Rattle.fold.specs.Stages.{Only, PlanAt, stage_from}
use Rattle.replay_form.specs.Tape.{stage_made, later_slot, first_slot, made_from}
use Rattle.replay_tape.specs.Running.{entries_of, Below}
use Rattle.replay_tape.specs.Sources.{load_in}
use Rattle.replay_tape.specs.Stages.{made_of, StageIn}

-- every filled cell holds a pin that has a number
pub record Named (m : ℕ) (cells : List ℕ) : Type 0 where
  pub small : (p : ℕ) → filled (get_or cells p empty) ≡ true → cell_pin (get_or cells p empty) < m

-- the slots that stage 1 loads
pub record FirstSlots (l l' : List ℕ) : Type 0 where
  pub len : length l' ≡ length l
  pub each : (n : ℕ) → n < length l → get_or l' n 0 ≡ first_slot (length l) n

-- a stage is made: its slots and entries, and what the next one loads, of m pins
pub record Next (K m : ℕ) (cells : List ℕ) (load : ℕ → ℕ) (e : ℕ) (t w' l' t' : List ℕ) (e' : ℕ) : Type 0 where
  pub wlen : length w' ≡ 2 ^ (K + 1)
  pub llen : length l' ≡ m
  pub tlen : length t' ≡ length t
  pub more : e ≤ e'
  pub count : e' ≤ e + 2 ^ K
  pub made : stage_made m K cells load (entries_of e t) ≡ made_of w' (entries_of e' t')
  pub next : load_in l' ≡ later_slot K cells w'
  pub only : Only K cells l'
  pub slots : (q : ℕ) → q < 2 ^ (K + 1) → get_or w' q 0 < m + e'
  pub loads : (n : ℕ) → n < m → get_or l' n 0 < m + e'
  pub below : Below m e' t'

-- what is asked of stage 1
pub record OneIn (K m : ℕ) (cells w l t : List ℕ) : Type 0 where
  pub up : UpAt K cells w
  pub named : Named m cells
  pub pins : length l ≡ m
  pub few : m ≤ 65536
  pub one : 1 ≤ m
  pub space : 2 * 2 ^ K ≤ length t
  pub fits : m + 2 ^ K ≤ 2147483648

-- what is asked of a later one
pub record NextIn (K m : ℕ) (before cells : List ℕ) (e : ℕ) (w l t : List ℕ) : Type 0 where
  pub stage : StageIn K m e cells l w t
  pub named : Named m cells
  pub last : StageAt K before
  pub only : Only K before l

-- what passed the checks, with a number for each pin that stands in it; every entry has room, and every slot's literal fits
pub record PlanIn (K m : ℕ) (plan w l t : List ℕ) : Type 0 where
  pub passed : PlanAt K plan w
  pub named : Named m plan
  pub pins : length l ≡ m
  pub few : m ≤ 65536
  pub one : 1 ≤ m
  pub space : length plan ≤ length t
  pub fits : 2 * m + length plan ≤ 4294967296

-- the stage at `at` is a later one, and its loads are there
pub record StepIn (K m : ℕ) (plan : List ℕ) (at e : ℕ) (w l t : List ℕ) : Type 0 where
  pub plans : PlanIn K m plan w l t
  pub before : 2 ^ (K + 1) ≤ at
  pub here : at + 2 ^ (K + 1) ≤ length plan
  pub count : 2 * e ≤ at
  pub loads : (n : ℕ) → n < m → get_or l n 0 < m + e
  pub below : Below m e t
  pub only : Only K (stage_from K (at - 2 ^ (K + 1)) plan) l

-- a stage is made in its place of the slots
pub record Step (K m : ℕ) (cells : List ℕ) (load : ℕ → ℕ) (at e : ℕ) (w t w' l' t' : List ℕ) (e' : ℕ) : Type 0 where
  pub part : List ℕ
  pub area : w' ≡ take at w ++ (part ++ drop (at + 2 ^ (K + 1)) w)
  pub next : Next K m cells load e t part l' t' e'

-- a plan's slots and entries; the numbers by pin keep their number
pub record PlanMade (K m : ℕ) (plan w l t w' l' t' : List ℕ) (e : ℕ) : Type 0 where
  pub wlen : length w' ≡ length w
  pub llen : length l' ≡ length l
  pub tlen : length t' ≡ length t
  pub count : 2 * e ≤ length plan
  pub made : made_from (rooms K (length plan)) m K (first_slot m) [] plan ≡ made_of (take (length plan) w') (entries_of e t')
  pub slots : (q : ℕ) → q < length plan → get_or w' q 0 < m + e
  pub below : Below m e t'
