-- Which stages a sheet can hold: cells, words, stages one by one. Assumes nothing.
use mathlib.Core.Path.{◌≡◌, refl, sym, ap, ◌∙◌}
use mathlib.Core.Bool.{true, false, not, ◌&&◌}
use mathlib.Core.List.{List, [], ◌∷◌, ◌++◌}
use Prim.Native.Nat.{ℕ, suc, ◌+◌, ◌-◌, ◌*◌, ◌^◌, ◌<◌, ◌≤◌}
use native.Mathlib.Nat.{mul-le-mul_right}
use native.Mathlib.Numerals.{add-one}
use native.Mathlib.Omega.{arith}
use lib.Dec.{leb, ltb, eqb}
use lib.ListN.{length, get_or, take, drop, length-append, length-drop, drop_of_length-le}
use lib.Pow.{pow_mono, pow_pos}
use lib.Seq.{drop-cons, drop-drop, get_or-drop, length-take-le}
use borrow.Author.Tests.{le-leb, lt-leb, leb-true, eq-eqb, ne_eqb}
use Rattle.std.specs.Prelude.{Option, Some, None}
use Rattle.rules.specs.Lists.{every, sum, gather}
use Rattle.rules.specs.Cells.{empty, filled, is_height, stage_size, word_limit, word_fits}
use Rattle.rules.specs.Build.{Stage}
use Rattle.rules.specs.Job.{bits_of, no_file}
use Rattle.rules.specs.Coded.{cell_pin}
use Rattle.rules.proofs.Lists.Members.{split, and_true, true_false}
use Rattle.rules.proofs.Bools.{and_none}
use Rattle.rules.proofs.Job.Bits.{width, gather_width}
use Rattle.cells.specs.Answers.{or_zero}
use Rattle.sheet_form.specs.Forms.{does, behind_pin, form_fits, sheet_two}
use Rattle.sheet_form.specs.Sheets.{cell_bits, cells_bits, stage_bits, stages_bits, cell_fits, cells_fit, stage_fits, stages_fit, holdable, write_sheet}
use Rattle.sheet_form.specs.Calls.{Areas, areas, stages_in, stand, sheet_in}
use Rattle.sheet_form.proofs.Stages.{tall, fits_stage, stage_fits_lem}
use Rattle.sheet_form.proofs.Back.{Stand, stand_is, held_in}
use Rattle.sheet_write.specs.Fits.{CellEnds, CellsEnd, StageAt, stage_with, StageEnds, Sized, StagesAt, StagesEnd, Fitting, Measured}

-- ---- a cell

-- any number but the empty mark is a filled cell
pub marked : (c : ℕ) → (c ≡ 4294967295 → ⊥) → filled c ≡ true
unfolding filled empty
marked c e = rw (ne_eqb c 4294967295 e)

module _ (K p c : ℕ) where
  -- an empty cell is one bit
  pub cell_empty : filled c ≡ false → CellEnds K p c (Some 1)
  unfolding cell_fits cell_bits
  cell_empty f = (rw (f, cell_fits), rw (f, cell_bits), omega arith)

  -- a cell that sheet 2 does not hold
  pub cell_lost : filled c ≡ true → form_fits 2 K p c ≡ false → CellEnds K p c None
  unfolding cell_fits
  cell_lost f e = rw (f, cell_fits) e

  -- one that it holds is a one, 16 bits and 3
  pub cell_held : filled c ≡ true → form_fits 2 K p c ≡ true → CellEnds K p c (Some 20)
  unfolding cell_fits cell_bits behind_pin
  cell_held f e = (
    rw (f, cell_fits) e,
    rw (f, cell_bits) (omega (arith, length-append (bits_of 16 (cell_pin c)) (bits_of 3 (does c)), width 16 (cell_pin c), width 3 (does c))),
    omega arith,
  )

-- ---- the cells of a stage

module _ (K : ℕ) (cells : List ℕ) (i : ℕ) where
  -- the cell at an index, and those behind it: their bits
  pub bits_step : i < length cells → cells_bits sheet_two K i (drop i cells) ≡ cell_bits sheet_two K i (get_or cells i 0) ++ cells_bits sheet_two K (i + 1) (drop (i + 1) cells)
  unfolding cells_bits
  bits_step h = rw (drop-cons cells i 0 h, add-one i)

  -- past the last cell there are none
  pub bits_end : length cells ≤ i → cells_bits sheet_two K i (drop i cells) ≡ []
  unfolding cells_bits
  bits_end h = rw (drop_of_length-le cells h)

  fit_step : i < length cells → cells_fit sheet_two K i (drop i cells) ≡ cell_fits sheet_two K i (get_or cells i 0) && cells_fit sheet_two K (i + 1) (drop (i + 1) cells)
  unfolding cells_fit
  fit_step h = rw (drop-cons cells i 0 h, add-one i)

  fit_end : length cells ≤ i → cells_fit sheet_two K i (drop i cells) ≡ true
  unfolding cells_fit
  fit_end h = rw (drop_of_length-le cells h)

-- the cells before index i fit, and end at a bit
pub record Cells (K : ℕ) (cells : List ℕ) (from i at : ℕ) : Type 0 where
  pub upto : i ≤ 1 + length cells
  pub near : at + 20 ≤ from + 20 * i
  pub some : 1 ≤ at
  pub fits : cells_fit sheet_two K 1 (drop 1 cells) ≡ cells_fit sheet_two K i (drop i cells)
  pub bits : from + length (cells_bits sheet_two K 1 (drop 1 cells)) ≡ at + length (cells_bits sheet_two K i (drop i cells))

-- at position 1 there is none before
pub cells_none : {K : ℕ} {cells : List ℕ} {from : ℕ} → 1 ≤ from → Cells K cells from 1 from
cells_none h = record { upto = omega arith; near = omega arith; some = h; fits = refl; bits = refl }

module _ {K : ℕ} {cells : List ℕ} {from i at : ℕ} (C : Cells K cells from i at) where
  module _ (h : i < length cells) where
    -- a cell that does not fit decides
    pub cells_lost : CellEnds K i (get_or cells i 0) None → CellsEnd K cells from None
    cells_lost e = C.fits ∙ fit_step K cells i h ∙ rw e

    -- one that fits takes its bits
    pub cells_more : (b : ℕ) → CellEnds K i (get_or cells i 0) (Some b) → Cells K cells from (i + 1) (at + b)
    cells_more b E = record {
      upto = omega arith;
      near = omega (arith, C.near, E.2);
      some = omega (arith, C.some);
      fits = C.fits ∙ fit_step K cells i h ∙ rw E.0;
      bits = omega (arith, C.bits, ap length (bits_step K cells i h), length-append (cell_bits sheet_two K i (get_or cells i 0)) (cells_bits sheet_two K (i + 1) (drop (i + 1) cells)), E.1);
    }

  -- no cell left: all fit
  pub cells_done : length cells ≤ i → CellsEnd K cells from (Some at)
  cells_done h = (C.fits ∙ fit_end K cells i h, omega (arith, C.bits, ap length (bits_end K cells i h)), omega (arith, C.near, C.upto))

-- ---- a stage

-- the empty mark is an empty cell
pub empty_mark : (c : ℕ) → c ≡ 4294967295 → filled c ≡ false
unfolding filled empty
empty_mark c e = rw (eq-eqb c 4294967295 e)

-- where there is such a height, what a function of it answers is the rules' number
pub height_is : (K x : ℕ) {n : ℕ} → is_height K ≡ true → n ≡ or_zero (is_height K) x → n ≡ x
unfolding or_zero
height_is K x h e = e ∙ rw h

module _ {K at : ℕ} {cells : List ℕ} (A : StageAt K at cells) (words : List ℕ) where
  -- a filled position 0 does not fit
  pub stage_first : (get_or cells 0 0 ≡ 4294967295 → ⊥) → StageEnds K cells words at None
  unfolding stage_fits filled empty
  stage_first n = by cells A.first n
    where
      by : (cs : List ℕ) → 1 ≤ length cs → (get_or cs 0 0 ≡ 4294967295 → ⊥) → stage_fits sheet_two K (stage_with cs words) ≡ false
      by [] h m = absurd (omega arith)
      by (c ∷ cs) h m = rw (ne_eqb c 4294967295 m, and_none (eqb (suc (length cs)) (stage_size K)))

  -- more than 65,535 words do not fit
  pub stage_many : 65535 < length words → StageEnds K cells words at None
  unfolding stage_fits
  stage_many h = rw (lt-leb (length words) 65535 h, and_none (eqb (length cells) (stage_size K) && not (filled (get_or cells 0 empty))))

  -- nor does a word at W or above
  pub stage_word : {limit : ℕ} → limit ≡ or_zero (is_height K) (word_limit K) → every (λ w. ltb w limit) words ≡ false → StageEnds K cells words at None
  unfolding stage_fits word_fits
  stage_word l e =
      let q = height_is K (word_limit K) A.height l in
      let f : every (word_fits K) words ≡ false = rw q at e in
      rw (f, and_none (eqb (length cells) (stage_size K) && not (filled (get_or cells 0 empty)) && leb (length words) 65535))

  first : (cs : List ℕ) → 1 ≤ length cs → get_or cs 0 0 ≡ 4294967295 → filled (get_or cs 0 empty) ≡ false
  unfolding filled empty
  first [] h e = absurd (omega arith)
  first (c ∷ cs) h e = empty_mark c e

  without : cells_fit sheet_two K 1 (drop 1 cells) ≡ false → stage_fits sheet_two K (stage_with cells words) ≡ false
  without e = split (stage_fits sheet_two K (stage_with cells words)) (λ t. true_false (stage_fits_lem sheet_two K (stage_with cells words) t).cells e) (λ t. t)

  -- else the cells decide
  pub stage_cells : get_or cells 0 0 ≡ 4294967295 → length words ≤ 65535 → {limit : ℕ} → limit ≡ or_zero (is_height K) (word_limit K) → every (λ w. ltb w limit) words ≡ true →
      (r : Option ℕ) → CellsEnd K cells (at + 16 + 8 * length words) r → StageEnds K cells words at r
  unfolding stage_bits word_fits
  stage_cells z few l e None C = without C
  stage_cells z few l e (Some r) C =
      let q = height_is K (word_limit K) A.height l in
      let w : every (word_fits K) words ≡ true = rw q at e in (
        fits_stage sheet_two K (stage_with cells words) (record { size = A.size; zeroth = first cells A.first z; few = le-leb (length words) 65535 few; words = w; cells = C.0 }),
        omega (
          arith,
          C.1,
          length-append (bits_of 16 (length words) ++ gather (bits_of 8) words) (cells_bits sheet_two K 1 (drop 1 cells)),
          length-append (bits_of 16 (length words)) (gather (bits_of 8) words),
          width 16 (length words),
          gather_width 8 words,
        ),
        omega (arith, C.2, A.few),
      )

-- a stage has at most 16,384 cells, and one at least
pub size_most : (K : ℕ) → is_height K ≡ true → (stage_size K ≤ 16384) × (1 ≤ stage_size K)
size_most K h = (pow_mono {i = K + 1} {j = 14} (omega (arith, (tall K h).1)), pow_pos (K + 1))

-- ---- the stages in areas, one by one

-- the stages from index i on, whose words begin at `from`
abbrev pub rest : (K n : ℕ) (p w c : List ℕ) (i from : ℕ) → List Stage
rest K n p w c i from = stages_in K (n - i) (drop (i * stage_size K) p) (drop from w) (drop i c)

-- the stage at index i: its cells and its words
abbrev pub here : (p w : List ℕ) (i from size count : ℕ) → Stage
here p w i from size count = stage_with (take (i * size + size - i * size) (drop (i * size) p)) (take (from + count - from) (drop from w))

-- a loop over the stages stands at index i; no stage takes more than 2^20 bits
pub record Places (K n : ℕ) (p w c : List ℕ) (i from at : ℕ) : Type 0 where
  pub upto : i ≤ n
  pub words : from + sum (take (n - i) (drop i c)) ≤ length w
  pub near : at ≤ 28 + 2 ^ 20 * i
  pub some : 1 ≤ at

module _ {K n : ℕ} {p w c : List ℕ} (S : Stand K n p w c) where
  -- before the first stage
  pub places_none : Places K n p w c 0 0 28
  places_none = let z : n - 0 ≡ n = omega arith in record { upto = omega arith; words = rw z (omega (arith, S.words)); near = omega arith; some = omega arith }

  -- and all stages are left
  pub rest_all : stages_in K n p w c ≡ rest K n p w c 0 0
  rest_all = let z : n - 0 ≡ n = omega arith in let y : 0 * stage_size K ≡ 0 = omega arith in rw (z, y)

  module _ {i from at : ℕ} (P : Places K n p w c i from at) where
    -- past the last stage none is left
    pub rest_none : n ≤ i → rest K n p w c i from ≡ []
    unfolding stages_in
    rest_none h = let z : n - i ≡ 0 = omega arith in rw z

    -- its count is there
    pub count_there : i < n → i < length c
    count_there h = omega (arith, S.counts)

    module _ (h : i < n) (count : ℕ) (q : count ≡ get_or c i 0) where
      sum_next : sum (take (n - i) (drop i c)) ≡ count + sum (take (n - (i + 1)) (drop (i + 1) c))
      unfolding sum
      sum_next = let e : n - i ≡ suc (n - (i + 1)) = omega arith in rw (e, drop-cons c i 0 (omega (arith, S.counts)), add-one i, q)

      -- its words are there
      pub words_there : from + count ≤ length w
      words_there = omega (arith, P.words, sum_next)

      -- the stage behind it
      pub places_more : {at₂ : ℕ} → 0 < at₂ → at₂ ≤ at + 2 ^ 20 → Places K n p w c (i + 1) (from + count) at₂
      places_more s k = record { upto = omega arith; words = omega (arith, P.words, sum_next); near = omega (arith, P.near); some = s }

      module _ (size : ℕ) (e : size ≡ stage_size K) where
        -- its cells are there
        pub cells_there : i * size + size ≤ length p
        cells_there =
            let m : suc i * stage_size K ≤ n * stage_size K = mul-le-mul_right (stage_size K) (omega arith) in
            rw e (omega (arith, S.cells, m))

        -- so many cells
        pub cells_size : length (here p w i from size count).plan ≡ stage_size K
        cells_size =
            let d : i * size + size - i * size ≡ size = omega arith in
            rw d (length-take-le size (drop (i * size) p) (omega (arith, length-drop (i * size) p, cells_there)) ∙ e)

        -- it comes first of those left
        pub rest_next : rest K n p w c i from ≡ here p w i from size count ∷ rest K n p w c (i + 1) (from + count)
        unfolding stages_in
        rest_next =
            let z : n - i ≡ suc (n - (i + 1)) = omega arith in
            let d : i * size + size - i * size ≡ stage_size K = omega (arith, e) in
            let b : from + count - from ≡ count = omega arith in
            let v : i * size ≡ i * stage_size K = ap (λ (x : ℕ). i * x) e in
            let g : get_or (drop i c) 0 0 ≡ get_or c i 0 = get_or-drop i c 0 0 ∙ ap (λ (x : ℕ). get_or c x 0) (omega arith) in
            let s : i * stage_size K + stage_size K ≡ (i + 1) * stage_size K = omega arith in
            rw (d, b, q, v, z, g, drop-drop (stage_size K) (i * stage_size K) p, drop-drop (get_or c i 0) from w, drop-drop 1 i c, s)

-- the stages before index i fit, and end at a bit
pub record Fits (K n : ℕ) (p w c : List ℕ) (i from at : ℕ) : Type 0 where
  pub places : Places K n p w c i from at
  pub fits : stages_fit sheet_two K (stages_in K n p w c) ≡ stages_fit sheet_two K (rest K n p w c i from)
  pub bits : 28 + length (stages_bits sheet_two K (stages_in K n p w c)) ≡ at + length (stages_bits sheet_two K (rest K n p w c i from))

module _ {K n : ℕ} {p w c : List ℕ} (A : StagesAt K n p w c) where
  -- the areas hold so many
  pub stands : Stand K n p w c
  stands = stand_is K n (areas p w c) A.held

  -- before the first stage
  pub fits_none : Fits K n p w c 0 0 28
  fits_none = record { places = places_none stands; fits = ap (stages_fit sheet_two K) (rest_all stands); bits = ap (λ (ss : List Stage). 28 + length (stages_bits sheet_two K ss)) (rest_all stands) }

  module _ {i from at : ℕ} (F : Fits K n p w c i from at) where
    -- no stage left: all fit
    pub fits_done : n ≤ i → StagesEnd K n p w c (Some at)
    unfolding stages_fit stages_bits
    fits_done h =
        let z = rest_none stands F.places h in
        (F.fits ∙ rw z, omega (arith, F.bits, ap (λ (ss : List Stage). length (stages_bits sheet_two K ss)) z), omega (arith, F.places.near, F.places.upto, A.few))

    module _ (h : i < n) (size : ℕ) (e : size ≡ or_zero (is_height K) (stage_size K)) (count : ℕ) (q : count ≡ get_or c i 0) where
      is_size : size ≡ stage_size K
      is_size = height_is K (stage_size K) A.height e

      -- the stage at index i
      abbrev pub one : Stage
      one = here p w i from size count

      next : rest K n p w c i from ≡ one ∷ rest K n p w c (i + 1) (from + count)
      next = rest_next stands F.places h count q size is_size

      -- its cells and words are there
      pub part_there : (i * size + size ≤ length p) × (from + count ≤ length w)
      part_there = (cells_there stands F.places h count q size is_size, words_there stands F.places h count q)

      -- what measuring the stage asks
      pub stage_asks : StageAt K at one.plan
      stage_asks =
          let l = cells_size stands F.places h count q size is_size in
          let m = size_most K A.height in
          record { height = A.height; size = l; few = rw l m.0; first = rw l m.1; some = F.places.some; near = omega (arith, F.places.near, A.few) }

      -- a stage that does not fit decides
      pub fits_lost : StageEnds K one.plan one.words at None → StagesEnd K n p w c None
      unfolding stages_fit
      fits_lost z = F.fits ∙ rw (next, z)

      -- one that fits takes its bits
      pub fits_more : (r : ℕ) → StageEnds K one.plan one.words at (Some r) → Fits K n p w c (i + 1) (from + count) r
      unfolding stages_fit stages_bits
      fits_more r E =
          let rs = rest K n p w c (i + 1) (from + count) in
          record {
            places = places_more stands F.places h count q (omega (arith, E.1, F.places.some)) E.2;
            fits = F.fits ∙ rw (next, E.0);
            bits = omega (arith, F.bits, ap (λ (ss : List Stage). length (stages_bits sheet_two K ss)) next, length-append (stage_bits sheet_two K one) (stages_bits sheet_two K rs), E.1);
          }

-- ---- the sum of counts

-- the counts before index i
pub record Summing (cs : List ℕ) (i total : ℕ) : Type 0 where
  pub upto : i ≤ length cs
  pub is : sum cs ≡ total + sum (drop i cs)
  pub near : total ≤ 2 ^ 32 * i

-- before the first the sum is 0
pub summing_none : {cs : List ℕ} → Summing cs 0 0
summing_none = record { upto = omega arith; is = omega arith; near = omega arith }

module _ {cs : List ℕ} {i total : ℕ} (S : Summing cs i total) where
  -- one more is added
  pub summing_more : i < length cs → get_or cs i 0 < 2 ^ 32 → Summing cs (i + 1) (total + get_or cs i 0)
  unfolding sum
  summing_more h k =
      let e : sum (drop i cs) ≡ get_or cs i 0 + sum (drop (i + 1) cs) = rw (drop-cons cs i 0 h, add-one i) in
      record { upto = omega arith; is = omega (arith, S.is, e); near = omega (arith, S.near) }

  -- all are added
  pub summing_done : length cs ≤ i → total ≡ sum cs
  unfolding sum
  summing_done h = let z : sum (drop i cs) ≡ 0 = rw (drop_of_length-le cs h) in omega (arith, S.is, z)

-- ---- do the areas hold them

module _ {K n : ℕ} (A : Sized K n) (p w c : List ℕ) where
  -- too few cells
  pub hold_cells : {size : ℕ} → size ≡ or_zero (is_height K) (stage_size K) → length p < n * size → false ≡ stand K n (areas p w c)
  unfolding stand
  hold_cells e h = let q = height_is K (stage_size K) A.height e in sym (rw (lt-leb (n * stage_size K) (length p) (rw q at h)))

  module _ {size : ℕ} (e : size ≡ or_zero (is_height K) (stage_size K)) (h : n * size ≤ length p) where
    enough : leb (n * stage_size K) (length p) ≡ true
    enough = let q = height_is K (stage_size K) A.height e in le-leb (n * stage_size K) (length p) (rw q at h)

    -- too few counts
    pub hold_counts : length c < n → false ≡ stand K n (areas p w c)
    unfolding stand
    hold_counts k = sym (rw (lt-leb n (length c) k, and_none (leb (n * stage_size K) (length p))))

    -- with cells and counts enough, the words decide
    pub hold_words : n ≤ length c → {total : ℕ} → total ≡ sum (take (n - 0) (drop 0 c)) → leb total (length w) ≡ stand K n (areas p w c)
    unfolding stand
    hold_words k t = let z : n - 0 ≡ n = omega arith in sym (rw (enough, le-leb n (length c) k, t, z))

  -- the product of stages and size does not wrap
  pub no_wrap : {size : ℕ} → size ≡ or_zero (is_height K) (stage_size K) → n * size ≤ 2 ^ 30
  no_wrap {size} e =
      let q = height_is K (stage_size K) A.height e in
      let m : n * stage_size K ≤ 65535 * stage_size K = mul-le-mul_right (stage_size K) A.few in
      rw q (omega (arith, m, (size_most K A.height).0))

-- ---- the measure

-- the sheet of areas by whether it can be held
unheld : (K n : ℕ) (a : Areas) → (Fitting K n a → ⊥) → sheet_in sheet_two K n a ≡ no_file
unfolding sheet_in write_sheet holdable
unheld K n a f = split (stand K n a)
    (λ t. rw (t, sheet_in) (by t))
    (λ t. rw (t, sheet_in))
  where
    by : stand K n a ≡ true → write_sheet sheet_two (record { height = K; stages = stages_in K n a.plan a.words a.counts }) ≡ no_file
    by t = split (is_height K && leb (length (stages_in K n a.plan a.words a.counts)) 65535 && stages_fit sheet_two K (stages_in K n a.plan a.words a.counts))
        (λ u.
        let x = and_true (is_height K && leb (length (stages_in K n a.plan a.words a.counts)) 65535) (stages_fit sheet_two K (stages_in K n a.plan a.words a.counts)) u in
        let y = and_true (is_height K) (leb (length (stages_in K n a.plan a.words a.counts)) 65535) x.0 in
        let l = (held_in K n a.plan a.words a.counts (stand_is K n a t)).stages in
        absurd (f (record { height = y.0; few = omega (arith, leb-true (length (stages_in K n a.plan a.words a.counts)) 65535 y.1, l); held = t; fits = x.1 })))
        (λ u. rw (u, write_sheet))

module _ (K n : ℕ) (a : Areas) where
  -- a height outside 6..13
  pub bad_height : is_height K ≡ false → Measured K n a None
  bad_height e = unheld K n a (λ F. true_false F.height e)

  -- more than 65,535 stages
  pub many_stages : 65535 < n → Measured K n a None
  many_stages h = unheld K n a (λ F. omega (arith, F.few))

  -- stages that the areas do not hold
  pub not_held : stand K n a ≡ false → Measured K n a None
  not_held e = unheld K n a (λ F. true_false F.held e)

  -- else the stages decide
  pub measured : is_height K ≡ true → n ≤ 65535 → stand K n a ≡ true → (r : Option ℕ) → StagesEnd K n a.plan a.words a.counts r → Measured K n a r
  measured h k s None E = unheld K n a (λ F. true_false F.fits E)
  measured h k s (Some r) E = record { fitting = record { height = h; few = k; held = s; fits = E.0 }; bits = E.1; near = omega (arith, E.2) }
