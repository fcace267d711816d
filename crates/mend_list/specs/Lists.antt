-- What is asked and said of the list of changes. Assumes nothing.
use Rattle.std.specs.Prelude.{ℕ, ◌+◌, ◌*◌, ◌/◌, ◌^◌, ◌≤◌, ◌<◌, ◌≡◌, true, List, length}
use Rattle.rules.specs.Cells.{is_height}
use Rattle.mending.specs.Changes.{Change, changes}
use Rattle.mend_list.specs.declared.Change as declared

pub record CountAt (old new : List ℕ) : Type 0 where
  pub same : length new ≡ length old

-- whatever the height: it says only where a change stands
pub record Counted (old new : List ℕ) (n : ℕ) : Type 0 where
  pub is : (K : ℕ) → n ≡ length (changes K old new)
  pub few : n ≤ length old

-- a change as the rules have it
unfoldable pub change_for : declared.Change → Change
change_for c = record { stage = c.stage; position = c.position; old = c.old; new = c.new }

-- a place whose stage's number fits a number of the list
pub record ChangeAt (K i : ℕ) : Type 0 where
  pub height : is_height K ≡ true
  pub some : 0 < 2 ^ (K + 1)
  pub high : 2 ^ (K + 1) ≤ 16384
  pub stage : i / 2 ^ (K + 1) < 4294967295

-- every stage's number fits a number of the list, and all changes fit in
pub record WriteAt (K : ℕ) (old new list : List ℕ) : Type 0 where
  pub height : is_height K ≡ true
  pub same : length new ≡ length old
  pub high : 2 ^ (K + 1) ≤ 16384
  pub stages : length old ≤ 4294967295 * 2 ^ (K + 1)
  pub room : 4 * length (changes K old new) ≤ length list
