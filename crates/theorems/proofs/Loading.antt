-- Demand 3, 4: what a stage loads. Assumes nothing.
use Prim.Native.Nat.{ℕ, suc, ◌≤◌, ◌<◌}
use mathlib.Core.Path.{◌≡◌}
use mathlib.Core.Bool.{true}
use mathlib.Core.List.{List, []}
use native.Mathlib.Omega.{arith}
use lib.ListN.{length, get_or}
use Rattle.rules.specs.Cells.{filled, empty, width}
use Rattle.rules.specs.Build.{Stage, whole, stage_of}
use Rattle.rules.specs.Fold.{first_load}
use Rattle.rules.proofs.Tree.Held.{tree_in}
use Rattle.rules.proofs.Fold.Whole.{above_zero}
use Rattle.rules.proofs.Fold.Flat.{zeroth_at, first_loaded, later_loaded}
use Rattle.theorems.specs.Inputs.{Input, graph, built}
use Rattle.theorems.specs.Reading.{Held}
use Rattle.theorems.proofs.Folding.{Loaded, right}

module _ (I : Input) (rooms : ℕ) (ss : List Stage) (e : built I rooms ≡ whole ss) where
  -- Each stage after the first loads only pins held above level 0 one stage before: a filled cell of level 0 of stage i + 1 has its pin at some
  -- position above level 0 of stage i.
  pub loads_held : (i p : ℕ) → suc i < length ss → width I.K ≤ p → filled (get_or (stage_of ss (suc i)).plan p empty) ≡ true → Held I.K (stage_of ss i).plan (get_or (stage_of ss (suc i)).plan p empty)
  loads_held i p b h f =
      let q = get_or (stage_of ss (suc i)).plan p empty in
      let R = right I rooms ss e [] in
      let t = tree_in I.K (stage_of ss i).plan q (later_loaded I.K (graph I) I.given [] (first_load (graph I) I.given []) (Loaded I) ss R i b p h f) in
      let z = zeroth_at I.K (graph I) I.given [] (first_load (graph I) I.given []) (Loaded I) ss R i (omega arith) in
      record { position = t.0; low = above_zero (stage_of ss i).plan t.0 q z t.3 t.4; high = t.1; holds = t.3 }

  -- The first loads leaves and given pins.
  pub loads_leaves : (p : ℕ) → 0 < length ss → width I.K ≤ p → filled (get_or (stage_of ss 0).plan p empty) ≡ true → Loaded I (get_or (stage_of ss 0).plan p empty)
  loads_leaves p b h f = first_loaded I.K (graph I) I.given [] (first_load (graph I) I.given []) (Loaded I) ss (right I rooms ss e []) b p h f
