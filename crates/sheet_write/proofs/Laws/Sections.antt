-- The parts of a sheet, put one behind the other. Assumes nothing.
use mathlib.Core.Path.{◌≡◌, refl, ◌∙◌}
use mathlib.Core.Bool.{true, false}
use mathlib.Core.List.{List, [], ◌∷◌, ◌++◌, append_assoc}
use Prim.Native.Nat.{ℕ, ◌+◌, ◌-◌, ◌*◌, ◌%◌, ◌<◌, ◌≤◌}
use native.Mathlib.Numerals.{add-one}
use native.Mathlib.Omega.{arith}
use lib.ListN.{length, get_or, drop, drop_of_length-le}
use lib.Seq.{drop-cons}
use borrow.Author.Tests.{leb-true}
use Rattle.rules.specs.Lists.{gather}
use Rattle.rules.specs.Cells.{filled, is_height, stage_size}
use Rattle.rules.specs.Build.{Stage}
use Rattle.rules.specs.Job.{bits_of}
use Rattle.rules.specs.Coded.{cell_pin}
use Rattle.rules.proofs.Lists.Members.{and_true}
use Rattle.rules.proofs.Job.Bits.{width, gather_width}
use Rattle.cells.specs.Answers.{or_zero}
use Rattle.bits.specs.Putting.{Put}
use Rattle.bits.proofs.Laws.Putting.{Left, left_all, left_step, left_none, put_then}
use Rattle.bits.proofs.Laws.Files.{put_padded}
use Rattle.sheet_form.specs.Forms.{does, behind_pin, sheet_two}
use Rattle.sheet_form.specs.Sheets.{cell_bits, cells_bits, stage_bits, stages_bits, sheet_bits, stage_fits, stages_fit}
use Rattle.sheet_form.specs.Calls.{Areas, stages_in}
use Rattle.sheet_form.proofs.Stages.{stage_fits_lem}
use Rattle.sheet_form.proofs.Back.{Stand, stand_is, held_in}
use Rattle.sheet_write.specs.Fits.{Fitting}
use Rattle.sheet_write.specs.Sections.{file_bits, CellPut, CellsPut, StageTo, StagePut, StagesPut}
use Rattle.sheet_write.proofs.Laws.Fits.{bits_step, bits_end, height_is, size_most, rest, here, Places, places_none, rest_all, rest_none, places_more, cells_there, words_there, cells_size, rest_next}

-- ---- a cell

-- an empty cell is a zero
pub cell_blank : (c : ℕ) → filled c ≡ false → {x y : List ℕ} {at r : ℕ} → Put (bits_of 1 0) x y at r → CellPut c x y at r
unfolding cell_bits bits_of
cell_blank c e P = record { put = λ K p. rw (e, cell_bits) P; len = P.len; near = omega (arith, P.behind) }

-- a filled one is a one, its pin, and what it does
pub cell_full : (c : ℕ) → filled c ≡ true → {w x y z : List ℕ} {at p q r n d : ℕ} → Put (bits_of 1 1) w x at p → n ≡ cell_pin c → Put (bits_of 16 n) x y p q → d ≡ does c → Put (bits_of 3 d) y z q r → CellPut c w z at r
unfolding cell_bits bits_of behind_pin
cell_full c f {n = n} {d = d} P en Q ed R =
    let a : Put (bits_of 16 (cell_pin c)) _ _ _ _ = rw en at Q in
    let b : Put (bits_of 3 (does c)) _ _ _ _ = rw ed at R in
    record { put = λ K p. rw (f, cell_bits) (put_then P (put_then a b)); len = R.len ∙ Q.len ∙ P.len; near = omega (arith, P.behind, Q.behind, R.behind, width 16 n, width 3 d) }

-- ---- the cells of a stage

-- the cells before index i are put, the rest is left
pub record Cells (cells : List ℕ) (i from at : ℕ) (bytes bytes' : List ℕ) : Type 0 where
  pub upto : i ≤ 1 + length cells
  pub near : at + 20 ≤ from + 20 * i
  pub len : length bytes' ≡ length bytes
  pub left : (K : ℕ) → Left (cells_bits sheet_two K 1 (drop 1 cells)) (cells_bits sheet_two K i (drop i cells)) bytes bytes' from at

-- at position 1 none is put
pub cells_none : {cells : List ℕ} {from : ℕ} {bytes : List ℕ} → Cells cells 1 from from bytes bytes
cells_none = record { upto = omega arith; near = omega arith; len = refl; left = λ K. left_all }

module _ {cells : List ℕ} {i from at : ℕ} {b b₁ : List ℕ} (C : Cells cells i from at b b₁) where
  -- one more cell is put
  pub cells_more : i < length cells → {b₂ : List ℕ} {r : ℕ} → CellPut (get_or cells i 0) b₁ b₂ at r → Cells cells (i + 1) from r b b₂
  cells_more h P = record {
    upto = omega arith;
    near = omega (arith, C.near, P.near);
    len = P.len ∙ C.len;
    left = λ K. left_step (rw (bits_step K cells i h) at (C.left K)) (P.put K i);
  }

  -- all are put
  pub cells_done : length cells ≤ i → CellsPut cells b b₁ from at
  cells_done h = record { put = λ K. left_none (rw (bits_end K cells i h) at (C.left K)); len = C.len; near = omega (arith, C.near, C.upto) }

-- ---- words

-- i words are put, the rest is left
pub record Words (xs : List ℕ) (i from at : ℕ) (bytes bytes' : List ℕ) : Type 0 where
  pub near : at ≡ from + 8 * i
  pub left : Left (gather (bits_of 8) xs) (gather (bits_of 8) (drop i xs)) bytes bytes' from at

-- at the start none is put
pub words_none : {xs : List ℕ} {from : ℕ} {bytes : List ℕ} → Words xs 0 from from bytes bytes
words_none = record { near = omega arith; left = left_all }

module _ {xs : List ℕ} {i from at : ℕ} {b b₁ : List ℕ} (W : Words xs i from at b b₁) where
  -- one more word is put
  pub words_more : i < length xs → {b₂ : List ℕ} {r : ℕ} → Put (bits_of 8 (get_or xs i 0)) b₁ b₂ at r → Words xs (i + 1) from r b b₂
  unfolding gather
  words_more h P =
      let e : gather (bits_of 8) (drop i xs) ≡ bits_of 8 (get_or xs i 0) ++ gather (bits_of 8) (drop (i + 1) xs) = rw (drop-cons xs i 0 h, add-one i) in
      record { near = omega (arith, W.near, P.behind, width 8 (get_or xs i 0)); left = left_step (rw e at W.left) P }

  -- all are put
  pub words_done : length xs ≤ i → Put (gather (bits_of 8) xs) b b₁ from at
  unfolding gather
  words_done h = left_none (let e : gather (bits_of 8) (drop i xs) ≡ [] = rw (drop_of_length-le xs h) in rw e at W.left)

-- ---- a stage

-- the word count, the words and the cells are a stage
pub stage_put : {at : ℕ} {cells words : List ℕ} → StageTo at cells words → {x y z u : List ℕ} {p q r : ℕ} → Put (bits_of 16 (length words)) x y at p → Put (gather (bits_of 8) words) y z p q → CellsPut cells z u q r → StagePut cells words x u at r
unfolding stage_bits
stage_put {words = words} A P Q R = record {
  put = λ K. put_then (put_then P Q) (R.put K);
  len = R.len ∙ Q.len ∙ P.len;
  near = omega (arith, P.behind, Q.behind, R.near, width 16 (length words), gather_width 8 words, A.few, A.short);
}

-- ---- the stages

-- the stages before index i are put, the rest is left
pub record Stages (K n : ℕ) (a : Areas) (i from at : ℕ) (bytes bytes' : List ℕ) : Type 0 where
  pub places : Places K n a.plan a.words a.counts i from at
  pub fits : stages_fit sheet_two K (rest K n a.plan a.words a.counts i from) ≡ true
  pub left : Left (stages_bits sheet_two K (stages_in K n a.plan a.words a.counts)) (stages_bits sheet_two K (rest K n a.plan a.words a.counts i from)) bytes bytes' 28 at

module _ {K n : ℕ} {a : Areas} (F : Fitting K n a) where
  -- the areas hold them
  pub stands : Stand K n a.plan a.words a.counts
  stands = stand_is K n a F.held

  -- at the start none is put
  pub stages_none : {bytes : List ℕ} → Stages K n a 0 0 28 bytes bytes
  stages_none {bytes} =
      let e = rest_all stands in
      record { places = places_none stands; fits = rw e at F.fits; left = rw (← e) left_all }

  module _ {i from at : ℕ} {b b₁ : List ℕ} (S : Stages K n a i from at b b₁) where
    -- all are put
    pub stages_done : n ≤ i → StagesPut K n a b b₁ at
    unfolding stages_bits
    stages_done h = record { put = left_none (rw (rest_none stands S.places h) at S.left); near = omega (arith, S.places.near, S.places.upto, F.few) }

    module _ (h : i < n) (size : ℕ) (e : size ≡ or_zero (is_height K) (stage_size K)) (count : ℕ) (q : count ≡ get_or a.counts i 0) where
      is_size : size ≡ stage_size K
      is_size = height_is K (stage_size K) F.height e

      -- the stage at index i
      abbrev pub one : Stage
      one = here a.plan a.words i from size count

      next : rest K n a.plan a.words a.counts i from ≡ one ∷ rest K n a.plan a.words a.counts (i + 1) (from + count)
      next = rest_next stands S.places h count q size is_size

      both : (stage_fits sheet_two K one ≡ true) × (stages_fit sheet_two K (rest K n a.plan a.words a.counts (i + 1) (from + count)) ≡ true)
      unfolding stages_fit
      both = and_true (stage_fits sheet_two K one) (stages_fit sheet_two K (rest K n a.plan a.words a.counts (i + 1) (from + count))) (rw next at S.fits)

      -- its cells and words are there
      pub part_there : (i * size + size ≤ length a.plan) × (from + count ≤ length a.words)
      part_there = (cells_there stands S.places h count q size is_size, words_there stands S.places h count q)

      -- what putting the stage asks
      pub stage_asks : StageTo at one.plan one.words
      stage_asks =
          let l = cells_size stands S.places h count q size is_size in
          record { near = omega (arith, S.places.near, F.few); few = rw l (size_most K F.height).0; short = leb-true (length one.words) 65535 (stage_fits_lem sheet_two K one both.0).few }

      -- one more stage is put
      pub stages_more : {b₂ : List ℕ} {r : ℕ} → StagePut one.plan one.words b₁ b₂ at r → Stages K n a (i + 1) (from + count) r b b₂
      unfolding stages_bits
      stages_more P = record {
        places = places_more stands S.places h count q (omega (arith, (P.put K).behind, S.places.some)) P.near;
        fits = both.1;
        left = left_step (rw next at S.left) (P.put K);
      }

  -- ---- the sheet

  -- number, height, stage count, stages and padding are the sheet
  pub sheet_put : {x y z u v o : List ℕ} {p q q₁ r s : ℕ} → Put (bits_of 8 2) x y 0 p → Put (bits_of 4 K) y z p q → Put (bits_of 16 n) z u q q₁ → StagesPut K n a u v r → Put (bits_of ((8 - r % 8) % 8) 0) v o r s → Put (file_bits K n a) x o 0 s
  unfolding file_bits sheet_bits
  sheet_put {q₁ = q₁} P Q R T Z =
      let e : q₁ ≡ 28 = omega (arith, P.behind, Q.behind, R.behind, width 8 2, width 4 K, width 16 n) in
      let ss = stages_in K n a.plan a.words a.counts in
      let l : length ss ≡ n = (held_in K n a.plan a.words a.counts stands).stages in
      let A = put_then (put_then (put_then P Q) (rw e at R)) T.put in
      let d : ((bits_of 8 2 ++ bits_of 4 K) ++ bits_of 16 n) ++ stages_bits sheet_two K ss ≡ bits_of 8 2 ++ ((bits_of 4 K ++ bits_of 16 (length ss)) ++ stages_bits sheet_two K ss) = rw l (simp append_assoc) in
      put_padded (rw d at A) Z
