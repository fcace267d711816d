-- What sheet 1 is read into with the graph: cells that sheet 2 holds. Assumes nothing.
use Prim.Native.Nat.{ℕ, zero, suc, ◌+◌, ◌^◌, ◌≤◌, ◌<◌}
use mathlib.Core.Path.{◌≡◌, refl}
use mathlib.Core.Bool.{Bool, true, false, not, ◌||◌}
use mathlib.Core.List.{List, [], ◌∷◌}
use native.Mathlib.Omega.{arith}
use lib.Dec.{leb, ltb, eqb}
use lib.ListN.{length, get_or, drop, length-drop}
use lib.Pow.{pow_pos}
use lib.Seq.{get_or-drop}
use borrow.Author.Tests.{lt-ltb, le-ltb, leb-true, leb-false, eqb-true, not-true}
use Rattle.rules.specs.Lists.{every, up_to}
use Rattle.rules.specs.Cells.{empty, filled, first_lower}
use Rattle.rules.specs.Graph.{Node, leaf, gate, inversion_of}
use Rattle.rules.specs.Fold.{is_leaf}
use Rattle.rules.specs.Build.{Stage, coded_stages}
use Rattle.rules.specs.Coded.{and_of, and_cell, coded_at, coded}
use Rattle.rules.proofs.Lists.Members.{split, and_true, true_false}
use Rattle.rules.proofs.Job.Fields.{every_cons, every_parts}
use Rattle.rules.proofs.Build.Coding.{length_coded, stages_coded}
use Rattle.coded.proofs.Cells.{pin_plain, ands_plain, pin_and, ands_and}
use Rattle.coded.proofs.Coding.{coded_empty, coded_load, coded_copy, coded_and}
use Rattle.coded.proofs.InPlace.{coded_cell_lem}
use Rattle.sheet_form.specs.Forms.{form_fits, sheet_one, sheet_two}
use Rattle.sheet_form.specs.Sheets.{Sheet, cell_fits, stage_fits, stages_fit}
use Rattle.sheet_form.specs.Lifting.{lifts_at, stage_lifts, stages_lift}
use Rattle.sheet_form.proofs.Cells.{cells_fit_lem, fits_at, filled_fits, fits_filled}
use Rattle.sheet_form.proofs.Stages.{stage_fits_lem, fits_stage}
use Rattle.sheet_form.proofs.Sheets.{Held}
use Rattle.sheet_form.proofs.Forms.{two_fits, one_pin}

-- ---- a test of every position

every_at : (f : ℕ → Bool) (n i : ℕ) → every f (up_to n i) ≡ true → (k : ℕ) → k < n → f (i + k) ≡ true
unfolding every up_to
every_at f zero i e k h = absurd (omega arith)
every_at f (suc n) i e zero h = let z : i + 0 ≡ i = omega arith in rw z (every_parts f i (up_to n (suc i)) e).0
every_at f (suc n) i e (suc k) h = let z : i + suc k ≡ suc i + k = omega arith in rw z (every_at f n (suc i) (every_parts f i (up_to n (suc i)) e).1 k (omega arith))

at_every : (f : ℕ → Bool) (n i : ℕ) → ((k : ℕ) → k < n → f (i + k) ≡ true) → every f (up_to n i) ≡ true
unfolding every up_to
at_every f zero i h = refl
at_every f (suc n) i h =
    let z : i + 0 ≡ i = omega arith in
    every_cons f i (up_to n (suc i)) (rw z at (h 0 (omega arith))) (at_every f n (suc i) (λ k b. let y : i + suc k ≡ suc i + k = omega arith in rw y at (h (suc k) (omega arith))))

module _ (K : ℕ) (g : List Node) (pl : List ℕ) where
  -- in a stage that the graph codes, it codes each position
  pub lifts_at_lem : stage_lifts K g pl ≡ true → (p : ℕ) → p < 2 ^ (K + 1) → lifts_at K g pl p ≡ true
  unfolding stage_lifts
  lifts_at_lem e p h = let z : 0 + p ≡ p = omega arith in rw z at (every_at (lifts_at K g pl) (2 ^ (K + 1)) 0 e p h)

  -- and back
  pub at_lifts : ((p : ℕ) → p < 2 ^ (K + 1) → lifts_at K g pl p ≡ true) → stage_lifts K g pl ≡ true
  unfolding stage_lifts
  at_lifts h = at_every (lifts_at K g pl) (2 ^ (K + 1)) 0 (λ k b. let z : 0 + k ≡ k = omega arith in rw z (h k b))

-- ---- a cell

nothing : filled empty ≡ false
unfolding filled empty
nothing = refl

module _ (K p n : ℕ) (a : 0 < n) (b : n < 65536) where
  -- a load or a copy
  plain_fits : form_fits 2 K p n ≡ true
  plain_fits = two_fits K p n (omega arith) (rw (pin_plain n b) a) (rw (lt-ltb n 65536 b)) (rw (ands_plain n b))

  and_small : (x y : ℕ) → (65536 ≤ and_cell n (gate x y)) × (and_cell n (gate x y) < 524288)
  unfolding and_cell and_of inversion_of
  and_small x y = (omega arith, omega arith)

  -- an AND, which a gate drives
  gate_fits : (x : Node) → is_leaf x ≡ false → p < 2 ^ K → form_fits 2 K p (and_cell n x) ≡ true
  unfolding is_leaf
  gate_fits leaf l h = true_false refl l
  gate_fits (gate x y) l h =
      let s = and_small x y in
      two_fits K p (and_cell n (gate x y)) s.1 (rw (pin_and n x y b) a) (rw (le-ltb (and_cell n (gate x y)) 65536 s.0, ands_and n x y b)) (rw (ands_and n x y b, lt-ltb p (2 ^ K) h))

module _ (K : ℕ) (g : List Node) (pl : List ℕ) (p : ℕ) where
  -- a pin that sheet 1 holds and the graph codes is a cell that sheet 2 holds
  lift_fits : cell_fits sheet_one K p (get_or pl p empty) ≡ true → lifts_at K g pl p ≡ true → cell_fits sheet_two K p (coded_at K g pl p) ≡ true
  unfolding lifts_at
  lift_fits e l =
      let n = get_or pl p empty in
      let x = get_or pl (first_lower p) empty in
      split (filled n)
      (λ f.
      let b = one_pin K p n (filled_fits sheet_one K p n f e) in
      let rest = (and_true (ltb n (length g)) (leb (2 ^ K) p || (eqb x n || not (is_leaf (get_or g n leaf)))) (rw (f, lifts_at) at l)).1 in
      fits_filled sheet_two K p (coded_at K g pl p) (λ _.
      split (leb (2 ^ K) p)
      (λ t. rw (coded_load K g pl p f (leb-true (2 ^ K) p t)) (plain_fits K p n b.0 b.1))
      (λ t.
      let h = leb-false (2 ^ K) p t in
      split (eqb x n)
      (λ u. rw (coded_copy K g pl p f h (eqb-true x n u)) (plain_fits K p n b.0 b.1))
      (λ u. rw (coded_and K g pl p f h u) (gate_fits K p n b.0 b.1 (get_or g n leaf) (not-true (is_leaf (get_or g n leaf)) (rw (t, u) at rest)) h)))))
      (λ f. rw (coded_empty K g pl p f) (fits_filled sheet_two K p empty (λ t. true_false t nothing)))

-- ---- stages

module _ (K : ℕ) (g : List Node) where
  stage_lifts_lem : (s : Stage) → stage_fits sheet_one K s ≡ true → stage_lifts K g s.plan ≡ true → stage_fits sheet_two K (record { plan = coded K g s.plan; words = s.words }) ≡ true
  stage_lifts_lem s e l =
      let T = stage_fits_lem sheet_one K s e in
      let pl = s.plan in
      let cl = coded K g pl in
      let size : length cl ≡ 2 ^ (K + 1) = length_coded K g pl in
      fits_stage sheet_two K (record { plan = cl; words = s.words }) (record {
        size = size;
        zeroth = rw (coded_cell_lem K g pl 0 (pow_pos (K + 1)), coded_empty K g pl 0 T.zeroth) nothing;
        few = T.few;
        words = T.words;
        cells = cells_fit_lem sheet_two K 1 (drop 1 cl) (λ i b.
            let h : 1 + i < 2 ^ (K + 1) = omega (arith, length-drop 1 cl, size) in
            rw (get_or-drop 1 cl i empty, coded_cell_lem K g pl (1 + i) h)
            (lift_fits K g pl (1 + i) (rw (← get_or-drop 1 pl i empty) (fits_at sheet_one K 1 (drop 1 pl) T.cells i)) (lifts_at_lem K g pl l (1 + i) h)));
      })

  stages_lift_lem : (ss : List Stage) → stages_fit sheet_one K ss ≡ true → stages_lift K g ss ≡ true → stages_fit sheet_two K (coded_stages K g ss) ≡ true
  unfolding stages_fit stages_lift coded_stages
  stages_lift_lem [] e l = refl
  stages_lift_lem (s ∷ ss) e l =
      let a = and_true (stage_fits sheet_one K s) (stages_fit sheet_one K ss) e in
      let b = and_true (stage_lifts K g s.plan) (stages_lift K g ss) l in
      rw (stage_lifts_lem s a.0 b.0) (stages_lift_lem ss a.1 b.1)

-- the sheet of the coded stages
abbrev pub lift_sheet : List Node → Sheet → Sheet
lift_sheet g S = record { height = S.height; stages = coded_stages S.height g S.stages }

-- A sheet 1 that is read with the graph is a sheet 2.
pub lift_held : (g : List Node) (S : Sheet) → Held sheet_one S → stages_lift S.height g S.stages ≡ true → Held sheet_two (lift_sheet g S)
lift_held g S H l = record { height = H.height; few = rw (stages_coded S.height g S.stages) H.few; stages = stages_lift_lem S.height g S.stages H.stages l }
