-- What the counts tell: whether a pin is in the tree, and rule 7's test. Assumes nothing.
use mathlib.Core.Path.{◌≡◌}
use mathlib.Core.List.{List}
use Prim.Native.Nat.{ℕ, ◌+◌, ◌*◌, ◌<◌}
use lib.Dec.{ltb}
use lib.ListN.{get_or}
use Rattle.rules.specs.Lists.{mem, In}
use Rattle.rules.specs.Cells.{level_one_size}
use Rattle.rules.specs.Placing.{tree_of}
use Rattle.rules.specs.Inside.Lean.{room_for}
use Rattle.rules.proofs.Tree.Fair.{listed_filled}
use Rattle.rules.proofs.Tree.Tally.{tree_cells}
use Rattle.columns.specs.Fields.{CELLS}
use Rattle.stage_walk.specs.Stands.{Context}
use Rattle.stage_walk.proofs.Contexts.{work}
use Rattle.stage_tree.specs.Counts.{Counts, room_in}

-- a pin is in the tree if a cell above level 0 holds it
pub in_tree : {C : Context} {m : ℕ} {pl u : List ℕ} → Counts C m pl u → (n : ℕ) → n < m → In n C.X.seen → mem n (tree_of C.X pl) ≡ ltb 0 (get_or u (CELLS * m + n) 0)
unfolding tree_of
in_tree {C} {m} {pl} t n b i = rw (t.cells n b) (tree_cells C.X.K pl n (listed_filled (work C) n i))

-- with a plan's counts it is the test of the rules
pub room_is : {C : Context} {m : ℕ} {pl u : List ℕ} → Counts C m pl u → (half b : ℕ) → half ≡ level_one_size C.X.K → room_in m half b u ≡ room_for C.X b pl
unfolding room_in room_for
room_is t half b e = rw (t.ones, t.pins, e)
