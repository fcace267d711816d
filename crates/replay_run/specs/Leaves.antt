-- The leaves of a line, by marks of the driven pins. Assumes nothing.
use Rattle.std.specs.Prelude.{ℕ, ◌+◌, ◌≤◌, ◌<◌, ◌≡◌, Bool, true, false, not, ◌&&◌, List, [], ◌∷◌, ◌++◌, length, get_or, take}
use Rattle.rules.specs.Lists.{mem, keep, up_to}
use Rattle.rules.specs.Graph.{Node, graph_of, pin_count}
use Rattle.replay_form.specs.Clocks.{is_one, leaf_pin}

-- has a line a bit for this pin
unfoldable pub line_leaf : List Node → List ℕ → ℕ → Bool
line_leaf g marks p = leaf_pin g p && not (is_one (get_or marks p 0))

-- the pin, if it has
unfoldable pub leaf_of : Bool → ℕ → List ℕ
leaf_of true p = p ∷ []
leaf_of false p = []

-- it is put behind n leaves
pub record LeafPut (leaf : Bool) (n p : ℕ) (leaves leaves' : List ℕ) (r : ℕ) : Type 0 where
  pub len : length leaves' ≡ length leaves
  pub count : r ≤ n + 1
  pub is : take r leaves' ≡ take n leaves ++ leaf_of leaf p

-- a mark for each pin, and room
pub record LeavesIn (gates marks leaves : List ℕ) : Type 0 where
  pub few : pin_count gates ≤ 65536
  pub marked : pin_count gates ≤ length marks
  pub room : pin_count gates ≤ length leaves

-- the leaves that are not marked, in pin order
pub record LeavesPut (gates marks leaves leaves' : List ℕ) (r : ℕ) : Type 0 where
  pub len : length leaves' ≡ length leaves
  pub count : r ≤ pin_count gates
  pub is : take r leaves' ≡ keep (line_leaf (graph_of gates) marks) (up_to (length (graph_of gates)) 0)

-- 1 where a pin is driven, else what stood
unfoldable pub mark_or : Bool → ℕ → ℕ
mark_or true old = 1
mark_or false old = old

-- each driven pin has the mark
pub record Marked (driven marks marks' : List ℕ) : Type 0 where
  pub len : length marks' ≡ length marks
  pub each : (p : ℕ) → p < length marks → get_or marks' p 0 ≡ mark_or (mem p driven) (get_or marks p 0)
