-- Demand 3, 3: a whole plan folds to the graph's values. Assumes nothing.
use Prim.Native.Nat.{ℕ, ◌+◌, ◌*◌, ◌^◌, ◌≤◌, ◌<◌}
use mathlib.Core.Path.{◌≡◌}
use mathlib.Core.Logic.{◌⊎◌}
use mathlib.Core.Bool.{true}
use mathlib.Core.List.{List, [], ◌++◌}
use native.Mathlib.Omega.{arith}
use native.Mathlib.Nat.{le-div_iff_mul-le}
use lib.Pow.{pow_pos}
use lib.ListN.{length, get_or}
use Rattle.rules.specs.Lists.{In}
use Rattle.rules.specs.Cells.{filled, empty, stage_size, rooms}
use Rattle.rules.specs.Graph.{leaf}
use Rattle.rules.specs.Build.{Stage, whole, cells_of, words_of, counts_of, coded_stages}
use Rattle.rules.specs.Fold.{first_load, as_number}
use Rattle.rules.specs.Coded.{cell_pin, fold_cells}
use Rattle.rules.proofs.Build.Lengths.{length_padded}
use Rattle.rules.proofs.Demand.{Right, whole_right, whole_sizes, whole_sized}
use Rattle.rules.proofs.Build.Coding.{cells_coded}
use Rattle.coded.proofs.Reading.{accepted_folds}
use Rattle.coded.proofs.Complete.{built_accepted}
use Rattle.theorems.specs.Inputs.{Input, plain, graph, groups, built, plan_area, graph_value}
use Rattle.theorems.proofs.Passing.{tall, small, valid, named}

-- what the first stage may load
abbrev pub Loaded : Input → ℕ → Type 0
Loaded I n = In n I.given ⊎ (get_or (graph I) n leaf ≡ leaf)

-- every stage of a whole plan is right for what the first stage loads
pub right : (I : Input) (rooms : ℕ) (ss : List Stage) → built I rooms ≡ whole ss → (bits : List ℕ) → Right I.K (graph I) I.given bits (first_load (graph I) I.given bits) (Loaded I) ss
right I rooms ss e bits = whole_right I.rule I.K (graph I) (valid I) (tall I) (small I) I.given bits (groups I) (named I) rooms ss e

module _ (I : Input) (L : ℕ) (ss : List Stage) (e : built I (rooms I.K L) ≡ whole ss) where
  -- a plan area of L numbers has room for the stages
  pub few : length ss ≤ rooms I.K L
  few = (whole_sizes I.rule I.K (graph I) (valid I) (tall I) (small I) I.given [] (groups I) (named I) (rooms I.K L) ss e).few

  -- the cells of the whole plan fit in a plan area of L numbers
  pub cells_fit : length (cells_of ss) ≤ L
  unfolding rooms
  cells_fit =
      let c : length (cells_of ss) ≡ length ss * 2 ^ (I.K + 1) = (whole_sizes I.rule I.K (graph I) (valid I) (tall I) (small I) I.given [] (groups I) (named I) (rooms I.K L) ss e).cells in
      omega (arith, (le-div_iff_mul-le (pow_pos (I.K + 1))).0 few)

  -- as cells they are as many
  pub area_length : length (plan_area I L ss) ≡ L
  area_length =
      let c = cells_coded I.K (graph I) ss (whole_sized I.rule I.K (graph I) (valid I) (tall I) (small I) I.given [] (groups I) (named I) (rooms I.K L) ss e) in
      length_padded L empty (cells_of (coded_stages I.K (graph I) ss)) (omega (arith, c, cells_fit))

  -- the area has these stages
  pub stages_there : length ss ≤ rooms I.K (length (plan_area I L ss))
  stages_there = rw area_length few

  -- In a whole plan, for any leaf and given bits, every filled cell of every stage folds to its pin's graph value: bit p of stage i, of the plan
  -- area that the placer leaves, as the fold gives it.
  pub cells_fold : (bits : List ℕ) (i p : ℕ) → i < length ss → 1 ≤ p → p < stage_size I.K → filled (get_or (plan_area I L ss) (i * stage_size I.K + p) empty) ≡ true →
      get_or (fold_cells I.K (plan_area I L ss) bits) (i * stage_size I.K + p) 0 ≡ as_number (graph_value I bits (cell_pin (get_or (plan_area I L ss) (i * stage_size I.K + p) empty)))
  cells_fold bits i p b low high f =
      accepted_folds (plain I) (plan_area I L ss) (words_of ss ++ []) (counts_of ss ++ []) (length ss) stages_there (built_accepted I.rule (plain I) L ss e [] []) bits i p b low high f
