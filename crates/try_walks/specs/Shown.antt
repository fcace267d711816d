-- What the program's functions ask and leave. Assumes nothing.
use Rattle.std.specs.Prelude.{◌≡◌, true, List, [], ◌∷◌, ℕ, ◌+◌, ◌*◌, ◌<◌, ◌≤◌, length, get_or}
use Rattle.rules.specs.Checks.{graph_right, loops_right, given_right}
use Rattle.rules.specs.Graph.{pin_count}
use Rattle.columns.specs.Area.{Room, Frame}
use Rattle.columns.specs.Fields.{DONE, WAITING, CELLS, PLACE, MARK}
use Rattle.columns.specs.Lists.{Marks, Placed}
use Rattle.stage_walk.specs.Stands.{Context}
use Rattle.stage_prepare.specs.Prepared.{PrepareAt}

pub record ShowAt (gates given waiting w : List ℕ) : Type 0 where
  pub graph : graph_right gates ≡ true
  pub free : loops_right gates ≡ true
  pub gives : given_right (pin_count gates) given ≡ true
  pub waits : given_right (pin_count gates) waiting ≡ true
  pub room : 16 * pin_count gates + 512 ≤ length w

pub record StartAt (m : ℕ) (gates given waiting w : List ℕ) : Type 0 where
  pub show : ShowAt gates given waiting w
  pub pins : m ≡ pin_count gates

-- marks from none
pub record GiveAt (m : ℕ) (given w : List ℕ) : Type 0 where
  pub area : Room m w
  pub pins : (i : ℕ) → i < length given → get_or given i 0 < m
  pub zeros : (p : ℕ) → p < m → get_or w (DONE * m + p) 0 ≡ 0

pub record Given (m : ℕ) (w w' : List ℕ) : Type 0 where
  pub frame : Frame (DONE ∷ []) m w w'
  pub done : List ℕ
  pub marks : Marks DONE m done w'

-- a waiting list from none
pub record WaitAt (m : ℕ) (waiting w : List ℕ) : Type 0 where
  pub area : Room m w
  pub pins : (i : ℕ) → i < length waiting → get_or waiting i 0 < m
  pub zeros : (p : ℕ) → p < m → get_or w (PLACE * m + p) 0 ≡ 0

pub record Waiting (m : ℕ) (w w' : List ℕ) (n : ℕ) : Type 0 where
  pub frame : Frame (WAITING ∷ PLACE ∷ []) m w w'
  pub pins : List ℕ
  pub placed : Placed WAITING PLACE m n pins w'

-- a stage's beginning in a clear area, with nothing placed or marked
pub record Started (C : Context) (m n : ℕ) (gates w : List ℕ) : Type 0 where
  pub prepare : PrepareAt C m n 6 gates w
  pub cells : (p : ℕ) → p < m → get_or w (CELLS * m + p) 0 ≡ 0
  pub marks : (p : ℕ) → p < m → get_or w (MARK * m + p) 0 ≡ 0

pub record PrintAt (m k levels c : ℕ) (w : List ℕ) : Type 0 where
  pub room : 16 * m ≤ length w
  pub listed : k ≤ m
  pub lists : levels ≤ m
  pub needed : c ≤ m
