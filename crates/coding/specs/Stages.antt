-- A stage of pins that is to be coded, and a plan of them. Assumes nothing.
use Rattle.std.specs.Prelude.{ℕ, zero, suc, ◌+◌, ◌*◌, ◌^◌, ◌≤◌, ◌<◌, ◌≡◌, Bool, true, List, ◌++◌, length, get_or, take, drop}
use Rattle.rules.specs.Cells.{is_height, empty, filled, stage_size, first_lower}
use Rattle.rules.specs.Graph.{Node}
use Rattle.rules.specs.Coded.{coded}

-- a cell a position, and pins of 16 bits
pub record StageAt (K : ℕ) (cells : List ℕ) : Type 0 where
  pub height : is_height K ≡ true
  pub low : 1 ≤ 2 ^ K
  pub high : 2 ^ K ≤ 8192
  pub double : 2 ^ (K + 1) ≡ 2 * 2 ^ K
  pub size : length cells ≡ 2 ^ (K + 1)
  pub pins : (p : ℕ) → filled (get_or cells p empty) ≡ true → get_or cells p empty < 65536

-- a position whose cell, and above level 0 its first lower cell, are pins still
pub record CellAt (K : ℕ) (cells : List ℕ) (p : ℕ) : Type 0 where
  pub height : is_height K ≡ true
  pub here : p < length cells
  pub first : p < 2 ^ K → first_lower p < length cells
  pub pin : filled (get_or cells p empty) ≡ true → get_or cells p empty < 65536

-- the first i cells of a stage coded, the others pins still
unfoldable pub coded_to : ℕ → List Node → List ℕ → ℕ → List ℕ
coded_to K g pl i = take i (coded K g pl) ++ drop i pl

-- positions `from` to `to`, above level 0, are the next to be coded of a stage of pins
pub record PartAt (K : ℕ) (g : List Node) (from to : ℕ) (cells pl : List ℕ) : Type 0 where
  pub stage : StageAt K pl
  pub now : cells ≡ coded_to K g pl from
  pub order : from ≤ to
  pub high : to ≤ 2 ^ K

-- eight cells that are told to be empty are
pub record Blank (cells : List ℕ) (p : ℕ) (r : Bool) : Type 0 where
  pub all : r ≡ true → (q : ℕ) → p ≤ q → q < p + 8 → get_or cells q 0 ≡ 4294967295

-- the first n stages of a plan, coded
unfoldable pub coded_plan : ℕ → ℕ → List Node → List ℕ → List ℕ
coded_plan zero K g pl = pl
coded_plan (suc n) K g pl = coded K g (take (stage_size K) pl) ++ coded_plan n K g (drop (stage_size K) pl)

-- n stages of a plan hold pins of 16 bits
pub record PlanAt (K n : ℕ) (pl : List ℕ) : Type 0 where
  pub height : is_height K ≡ true
  pub low : 1 ≤ 2 ^ K
  pub high : 2 ^ K ≤ 8192
  pub double : 2 ^ (K + 1) ≡ 2 * 2 ^ K
  pub room : n * 2 ^ (K + 1) ≤ length pl
  pub pins : (p : ℕ) → filled (get_or pl p empty) ≡ true → get_or pl p empty < 65536
