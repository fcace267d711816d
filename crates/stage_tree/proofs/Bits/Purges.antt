-- Taking back, branch by branch. Assumes nothing.
use Prim.Native.Nat.{ℕ, zero, suc, ◌+◌, ◌-◌, ◌*◌, ◌<◌, ◌≤◌}
use mathlib.Core.Path.{◌≡◌, refl, sym, ◌∙◌}
use mathlib.Core.Logic.{◌≢◌, inl, inr}
use mathlib.Core.Bool.{true, false}
use mathlib.Core.List.{List}
use native.Mathlib.Omega.{arith}
use lib.Pow.{pow_mono}
use lib.ListN.{length, get_or, set, length-set}
use Rattle.rules.specs.Cells.{empty, filled}
use Rattle.rules.specs.Placing.{take_back, freed}
use Rattle.rules.proofs.Lists.Members.{split, true_false}
use Rattle.rules.proofs.Tree.Loads.{set_either}
use Rattle.rules.specs.Inside.Plans.{Tall}
use Rattle.rules.proofs.Tree.Back.{back_bare}
use Rattle.rules.proofs.Tree.Cost.{freed_few}
use Rattle.stage_walk.specs.Stands.{Context}
use Rattle.stage_tree.specs.Bits.{EmptyAt, Emptied, BackAt, BitPurged}
use Rattle.stage_tree.proofs.Counts.Kept.{inner_none, inner_then}
use Rattle.stage_tree.proofs.Bits.Cells.{get_d_any, spot_in, spot_small, lower_in, lower_spot, lower_row}
use Rattle.stage_tree.proofs.Bits.Empties.{empty_holds, empty_full}

-- ---- the definition, branch by branch
module _ (w p : ℕ) (pl : List ℕ) where
  back_zero : (h : ℕ) → h ≡ 0 → take_back h w p pl ≡ set pl p empty
  unfolding take_back
  back_zero h e = rw (e, take_back) refl

  -- taking back a filled cell empties it and takes back both lower cells
  pub back_step : (h : ℕ) → filled (get_or pl p empty) ≡ true → take_back (suc h) w p pl ≡ take_back h (2 * w) (p + 2 * w) (take_back h (2 * w) (p + w) (set pl p empty))
  unfolding take_back
  back_step h g = rw (g, take_back) refl

  back_two : (h : ℕ) → 0 < h → filled (get_or pl p empty) ≡ true → take_back h w p pl ≡ take_back (h - 1) (2 * w) (p + 2 * w) (take_back (h - 1) (2 * w) (p + w) (set pl p empty))
  back_two zero b g = absurd (omega arith)
  back_two (suc h) b g = let z : suc h - 1 ≡ h = omega arith in rw z (back_step h g)

module _ (w p : ℕ) (pl : List ℕ) where
  freed_none : (h : ℕ) → filled (get_or pl p empty) ≡ false → freed h w p pl ≡ 0
  unfolding freed
  freed_none zero g = rw (g, freed) refl
  freed_none (suc h) g = rw (g, freed) refl

  freed_zero : (h : ℕ) → h ≡ 0 → filled (get_or pl p empty) ≡ true → freed h w p pl ≡ 1
  unfolding freed
  freed_zero h e g = rw (e, g, freed) refl

  freed_two : (h : ℕ) → 0 < h → filled (get_or pl p empty) ≡ true →
      freed h w p pl ≡ suc (freed (h - 1) (2 * w) (p + w) (set pl p empty) + freed (h - 1) (2 * w) (p + 2 * w) (take_back (h - 1) (2 * w) (p + w) (set pl p empty)))
  unfolding freed
  freed_two zero b g = absurd (omega arith)
  freed_two (suc h) b g = let z : suc h - 1 ≡ h = omega arith in rw (z, g, freed) refl

-- a sum of what taking back reports never overflows
pub purged_few : {C : Context} {m h w p k : ℕ} {pl u pl1 u1 : List ℕ} → h ≤ C.X.K → BitPurged C m h w p k pl u pl1 u1 → k ≤ 16384
purged_few {C} {h = h} {w = w} {p = p} {pl = pl} b P = omega (arith, P.cells, freed_few h w p pl, pow_mono {i = suc h} {j = 14} (omega (arith, C.high)))

-- taking back keeps the stage's length
pub len_back : (h w p : ℕ) (pl : List ℕ) → length (take_back h w p pl) ≡ length pl
unfolding take_back
len_back zero w p pl = length-set pl p empty
len_back (suc h) w p pl = split (filled (get_or pl p empty))
    (λ e. rw (e, take_back) (len_back h (2 * w) (p + 2 * w) (take_back h (2 * w) (p + w) (set pl p empty)) ∙ len_back h (2 * w) (p + w) (set pl p empty) ∙ length-set pl p empty))
    (λ e. rw (e, take_back))

-- filled cells hold listed pins still
tall_set : (C : Context) (pl : List ℕ) (p : ℕ) → Tall C.X pl → Tall C.X (set pl p empty)
unfolding filled empty
tall_set C pl p T h w q e a b g = elim (set_either pl p empty q empty) [
  | inl d ↦ absurd (let z : filled empty ≡ true = rw d.1 at g in true_false z refl)
  | inr d ↦ rw d (T h w q e a b (rw d at g))
]

module _ {C : Context} {m h w p : ℕ} {pl u : List ℕ} (A : BackAt C m h w p pl u) where
  -- the cell to be taken back stands in the stage
  pub purge_in : p < length pl
  purge_in = spot_in A.spot

  -- the lower cells of one to be taken back stand in the stage
  pub purge_low : 0 < h → p + 2 * w < 16384
  purge_low pos = omega (arith, lower_in A.spot pos, spot_small A.spot, A.row)

  -- an empty cell is left alone
  pub purged_none : get_or pl p 0 ≡ 4294967295 → BitPurged C m h w p 0 pl u pl u
  unfolding filled empty
  purged_none e =
      let g : get_or pl p empty ≡ empty = get_d_any pl p empty 0 purge_in ∙ e in
      record { plan = sym (back_bare h w p pl (rw g refl)); cells = sym (freed_none w p pl h (rw g refl)); kept = inner_none; tally = A.spot.tally; tall = A.tall }

  -- a filled one may be emptied
  pub purge_empty : {n : ℕ} → n ≡ get_or pl p 0 → n ≢ 4294967295 → EmptyAt C m h p n pl u
  purge_empty e f = record { spot = A.spot; tall = A.tall; is = e; full = f }

  -- the cell is emptied
  module _ {n : ℕ} (E : EmptyAt C m h p n pl u) {pl1 u1 : List ℕ} (M : Emptied C m p pl u pl1 u1) where
    len1 : length pl1 ≡ length pl
    len1 = rw M.plan (length-set pl p empty)

    tall1 : Tall C.X pl1
    tall1 = rw M.plan (tall_set C pl p A.tall)

    -- at level 0 emptying the cell is all
    pub purged_zero : h ≡ 0 → BitPurged C m h w p 1 pl u pl1 u1
    purged_zero z = record { plan = M.plan ∙ sym (back_zero w p pl h z); cells = sym (freed_zero w p pl h z (rw (empty_holds E) (empty_full E))); kept = M.kept; tally = M.tally; tall = tall1 }

    module _ (pos : 0 < h) where
      -- above it the first lower cell may be taken back
      pub purge_first : BackAt C m (h - 1) (2 * w) (p + w) pl1 u1
      purge_first = record {
        spot = lower_spot A.spot pos M.kept M.tally len1 (p + w) (omega (arith, A.row)) (omega (arith, A.row));
        row = lower_row A.spot pos A.row;
        tall = tall1;
      }

      module _ {k : ℕ} {pl2 u2 : List ℕ} (P : BitPurged C m (h - 1) (2 * w) (p + w) k pl1 u1 pl2 u2) where
        -- then the second lower cell
        pub purge_second : BackAt C m (h - 1) (2 * w) (p + 2 * w) pl2 u2
        purge_second = record {
          spot = lower_spot A.spot pos (inner_then M.kept P.kept) P.tally (rw P.plan (len_back (h - 1) (2 * w) (p + w) pl1 ∙ len1)) (p + 2 * w) (omega (arith, A.row)) (omega (arith, A.row));
          row = lower_row A.spot pos A.row;
          tall = P.tall;
        }

        -- with both lower cells taken back the cell is
        pub purged_both : {j : ℕ} {pl3 u3 : List ℕ} → BitPurged C m (h - 1) (2 * w) (p + 2 * w) j pl2 u2 pl3 u3 → BitPurged C m h w p (1 + k + j) pl u pl3 u3
        purged_both Q = record {
          plan = Q.plan ∙ rw (P.plan, M.plan) (sym (back_two w p pl h pos (rw (empty_holds E) (empty_full E))));
          cells = rw (Q.cells, P.cells, P.plan, M.plan) (omega (arith, freed_two w p pl h pos (rw (empty_holds E) (empty_full E))));
          kept = inner_then M.kept (inner_then P.kept Q.kept);
          tally = Q.tally;
          tall = Q.tall;
        }
