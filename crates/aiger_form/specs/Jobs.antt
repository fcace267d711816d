-- Jobs that a file holds, and what reading promises of the leaves. Assumes nothing.
use Rattle.std.specs.Prelude.{ℕ, ◌≡◌, true, List, [], ◌++◌, map, length}
use Rattle.rules.specs.Lists.{every}
use Rattle.rules.specs.Graph.{graph_of}
use Rattle.rules.specs.Records.{output, flip_flop, groups, read}
use Rattle.aiger_form.specs.Aag.{Netlist, checked, is_leaf_pin, different}

-- which jobs are written: no given pins; the records are flip-flops with enable literal 1 and outputs behind them; they drive different leaves,
-- one each; and the checks 3, 23 and 4 pass
pub record Named (given : List ℕ) (n : Netlist) : Type 0 where
  pub inputs : List ℕ
  pub outs : List ℕ
  pub none : given ≡ []
  pub readable : read n.records ≡ groups (map (λ d. flip_flop 1 d) inputs ++ map (λ l. output l) outs)
  pub passes : checked true n ≡ 0
  pub as_many : length inputs ≡ length n.latches
  pub leaves : every (is_leaf_pin (graph_of n.gates)) n.latches ≡ true
  pub differ : different n.latches ≡ true

-- the latches are leaves of the graph, and different
pub record Leaves (n : Netlist) : Type 0 where
  pub leaves : every (is_leaf_pin (graph_of n.gates)) n.latches ≡ true
  pub differ : different n.latches ≡ true
