-- The filled cells of all levels: what placing and taking back report, added up. Assumes nothing.
use Prim.Native.Nat.{ℕ, ◌+◌, ◌-◌, ◌*◌, ◌≤◌}
use mathlib.Core.Path.{◌≡◌, ◌∙◌}
use mathlib.Core.List.{List}
use native.Mathlib.Omega.{arith}
use lib.ListN.{length, get_or, set}
use lib.Seq.{get_or-set_same, get_or-set_other}
use Rattle.rules.specs.Lists.{count}
use Rattle.rules.specs.Cells.{filled, row_at}
use Rattle.rules.proofs.Stage.Fuel.{count-length}
use Rattle.rules.proofs.Tree.Loads.{rows}
use Rattle.rules.proofs.Tree.Cost.{place_count, back_count}
use Rattle.columns.specs.Fields.{CELLS, ONES, PINS, FILLED}
use Rattle.stage_walk.specs.Stands.{Context, Tally}
use Rattle.stage_walk.proofs.Contexts.{work}
use Rattle.stage_tree.specs.Counts.{Inner, Counts}
use Rattle.stage_tree.specs.Bits.{Spot, BitPlaced, BitPurged, PlaceAt, Placed, PurgeAt, Purged}
use Rattle.stage_tree.proofs.Counts.Kept.{kept_total}
use Rattle.stage_tree.proofs.Bits.Cells.{spot_small}

-- the sum is another number of the tail
tallied : {C : Context} {m : ℕ} {pl u : List ℕ} → 16 * m + 512 ≤ length u → Counts C m pl u → (t : ℕ) → t ≡ count filled pl → Tally C m pl (set u (16 * m + FILLED) t)
tallied {C} {m} {pl} {u} l k t e = record {
  cells = λ x b. get_or-set_other u (16 * m + FILLED) (CELLS * m + x) t 0 (λ d. omega arith) ∙ k.cells x b;
  ones = get_or-set_other u (16 * m + FILLED) (16 * m + ONES) t 0 (λ d. omega arith) ∙ k.ones;
  pins = get_or-set_other u (16 * m + FILLED) (16 * m + PINS) t 0 (λ d. omega arith) ∙ k.pins;
  total = get_or-set_same u (16 * m + FILLED) t 0 (omega arith) ∙ e;
}

-- a stage has at most 16,384 filled cells
pub total_few : {C : Context} {m h p : ℕ} {pl u : List ℕ} → Spot C m h p pl u → count filled pl ≤ 16384
total_few {pl = pl} A = omega (arith, count-length filled pl, spot_small A)

module _ {C : Context} {m h p : ℕ} {pl u : List ℕ} (A : Spot C m h p pl u) (e : get_or u (16 * m + FILLED) 0 ≡ count filled pl) {u1 : List ℕ} (k : Inner m u u1) where
  -- the tail's numbers are there
  pub total_in : 16 * m + 512 ≤ length u1
  total_in = omega (arith, A.area.room, k.frame.len)

  -- the sum that is read is the one from before
  pub total_read : get_or u1 (16 * m + FILLED) 0 ≡ count filled pl
  total_read = k.rest (16 * m + FILLED) (omega arith) (λ d. omega arith) (λ d. omega arith) ∙ e

-- placed: so many more
module _ {C : Context} {m h w p n k : ℕ} {gates pl u pl1 u1 : List ℕ} (A : PlaceAt C m h w p n gates pl u) (B : BitPlaced C m h w p n k pl u pl1 u1) where
  grown : count filled pl1 ≡ count filled pl + k
  grown =
      let z : w ≡ row_at C.X.K h = A.bit.row in
      rw (B.plan, B.cells) (place_count (work C) h w p n pl (omega (arith, A.bit.spot.from)) (omega (
        arith,
        A.bit.spot.to,
      )) (rw z (rows C.X.K h A.bit.spot.high)) A.bit.spot.len A.bit.listed A.bit.under)

  -- what placing reports added to the sum is the new plan's
  pub placed_total : (v : ℕ) → v ≡ get_or u1 (16 * m + FILLED) 0 → {u2 : List ℕ} → u2 ≡ set u1 (16 * m + FILLED) (v + k) → Placed C m h w p n pl u pl1 u2
  placed_total v r e = rw e (record {
    plan = B.plan;
    kept = kept_total B.kept (v + k);
    tally = tallied (total_in A.bit.spot A.total B.kept) B.tally (v + k) (omega (arith, r, total_read A.bit.spot A.total B.kept, grown));
  })

-- taken back: so many fewer
module _ {C : Context} {m h w p k : ℕ} {pl u pl1 u1 : List ℕ} (A : PurgeAt C m h w p pl u) (B : BitPurged C m h w p k pl u pl1 u1) where
  shrunk : count filled pl1 + k ≡ count filled pl
  shrunk = rw (B.plan, B.cells) (back_count h w p pl)

  -- no more is taken back than stands
  pub purged_less : k ≤ get_or u1 (16 * m + FILLED) 0
  purged_less = omega (arith, total_read A.back.spot A.total B.kept, shrunk)

  -- what taking back reports taken from the sum is the new plan's
  pub purged_total : (v : ℕ) → v ≡ get_or u1 (16 * m + FILLED) 0 → {u2 : List ℕ} → u2 ≡ set u1 (16 * m + FILLED) (v - k) → Purged C m h w p pl u pl1 u2
  purged_total v r e = rw e (record {
    plan = B.plan;
    kept = kept_total B.kept (v - k);
    tally = tallied (total_in A.back.spot A.total B.kept) B.tally (v - k) (omega (arith, r, total_read A.back.spot A.total B.kept, shrunk));
  })
