-- The line of a reservation that is over. Assumes nothing.
use Rattle.std.specs.Prelude.{ℕ, ◌+◌, ◌-◌, ◌*◌, ◌/◌, ◌≤◌, ◌≡◌, true, false, List, [], ◌∷◌, ltb}
use Rattle.rules.specs.Cells.{word_limit}
use Rattle.rules.specs.Records.{groups_of}
use Rattle.placer_start.specs.declared.reservation.Count.{Count}
use Rattle.plan_check.specs.Room.{RoomAt}
use Rattle.why_form.specs.Why.{sixth}
use Rattle.explain_lines.specs.Lines.{put_lines}

pub record SixAt (limit : ℕ) (c : Count) : Type 0 where
  pub low : 1 ≤ limit
  pub high : limit ≤ 256
  pub few : c.memories + c.duplicates ≤ 4294967295

-- m memories, d duplicates, by the first test that fails
unfoldable pub six_of : (limit m d : ℕ) → List ℕ
six_of limit m d =
    elim (ltb (m + (d + 31) / 32) limit) [
      | true ↦ 6 ∷ 0 ∷ limit ∷ (4 * m + d) ∷ m ∷ d ∷ []
      | false ↦ 6 ∷ 0 ∷ (limit - 1) ∷ (m + (d + 31) / 32) ∷ m ∷ d ∷ []
    ]

pub record TellAt (limit : ℕ) (gates records : List ℕ) : Type 0 where
  pub room : RoomAt gates records
  pub low : 1 ≤ limit
  pub high : limit ≤ 256

pub record Told (limit : ℕ) (records list list' : List ℕ) : Type 0 where
  pub is : (K : ℕ) → limit ≡ word_limit K → list' ≡ put_lines 0 (sixth K (groups_of records) ∷ []) list
