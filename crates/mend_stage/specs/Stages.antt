-- What is asked and said of a stage that is mended. Assumes nothing.
use Rattle.std.specs.Prelude.{ℕ, ◌+◌, ◌^◌, ◌≤◌, ◌<◌, ◌≡◌, List, length}
use Rattle.rules.specs.Graph.{Node, pin_count}
use Rattle.mending.specs.Mend as rules
use Rattle.mending.specs.Mend.{kept, stands, copies, joins, pin_deed, mend_stage}
use Rattle.mend_levels.specs.Levels.{Tells}
use Rattle.mend_stage.specs.declared.Deed.{Deed}
use Rattle.mend_stage.specs.declared.Deed.TheVariants.{Kept, Stands, Copies, Joins}

-- a deed as the rules have it
unfoldable pub deed_for : Deed → rules.Deed
deed_for Kept = kept
deed_for (Stands n) = stands n.0
deed_for (Copies n) = copies n.0
deed_for (Joins n a b) = joins n.0 a.0 b.0

-- its pin, 0 where there is none
unfoldable pub deed_pin : rules.Deed → ℕ
deed_pin kept = 0
deed_pin (stands n) = n
deed_pin (copies n) = n
deed_pin (joins n a b) = n

pub record DeedAt (gates : List ℕ) : Type 0 where
  pub pins : pin_count gates ≤ 65536

pub record DeedSays (K : ℕ) (g : List Node) (levels : List ℕ) (p n : ℕ) (r : Deed) : Type 0 where
  pub is : (stop : List ℕ) → Tells K g stop levels → deed_for r ≡ pin_deed K g stop p n
  pub small : deed_pin (deed_for r) < 65536

pub record StageAt (K : ℕ) (gates cells fixed : List ℕ) : Type 0 where
  pub pins : pin_count gates ≤ 65536
  pub some : 1 ≤ 2 ^ (K + 1)
  pub high : 2 ^ (K + 1) ≤ 16384
  pub size : length cells ≡ 2 ^ (K + 1)
  pub room : length fixed ≡ 2 ^ (K + 1)

pub record StageSays (K : ℕ) (g : List Node) (levels cells cells' : List ℕ) : Type 0 where
  pub len : length cells' ≡ length cells
  pub is : (stop : List ℕ) → Tells K g stop levels → cells' ≡ mend_stage K g stop cells
