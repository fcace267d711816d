-- What the checks 1 to 5 and 23 establish where none refuses. Assumes nothing.
use Rattle.std.specs.Prelude.{ℕ, ◌*◌, ◌<◌, ◌≤◌, ◌≡◌, Bool, true, List, length, get_or}
use Rattle.rules.specs.Lists.{In}
use Rattle.rules.specs.Cells.{is_height}
use Rattle.rules.specs.Graph.{leaf, gate, pin_of, graph_of, pin_count}
use Rattle.rules.specs.Loops.{Valid}
use Rattle.rules.specs.Records.{groups, read, groups_of, Ends}

-- a gate's pins are above 0 and below n
pub record Below (n a b : ℕ) : Type 0 where
  pub first_above : 0 < pin_of a
  pub first_below : pin_of a < n
  pub second_above : 0 < pin_of b
  pub second_below : pin_of b < n

pub record Passed (K : ℕ) (sized : Bool) (gates given records : List ℕ) : Type 0 where
  pub height : is_height K ≡ true
  pub areas : sized ≡ true
  pub even : length gates ≡ 2 * pin_count gates
  pub some : 1 ≤ pin_count gates
  pub few : pin_count gates ≤ 65536
  pub pins : length (graph_of gates) ≡ pin_count gates
  pub below : (p a b : ℕ) → get_or (graph_of gates) p leaf ≡ gate a b → Below (pin_count gates) a b
  pub valid : Valid (graph_of gates)
  pub short : length records ≤ 65536
  pub readable : read records ≡ groups (groups_of records)
  pub named : (q : ℕ) → Ends q (groups_of records) → q < pin_count gates
  pub given_named : (q : ℕ) → In q given → q < pin_count gates
