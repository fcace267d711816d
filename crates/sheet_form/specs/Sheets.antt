-- The plan sheet, both ways, over what a filled cell's bits are. Bits stand most significant first. Assumes nothing.
use Rattle.std.specs.Prelude.{ℕ, zero, suc, ◌-◌, Bool, true, false, not, ◌&&◌, List, [], ◌∷◌, ◌++◌, leb, eqb, length, get_or, drop}
use Rattle.rules.specs.Lists.{every, gather}
use Rattle.rules.specs.Cells.{empty, filled, is_height, stage_size, word_fits}
use Rattle.rules.specs.Build.{Stage}
use Rattle.rules.specs.Job.{bits_of, Read, cut, got, next, field, fields, is_padding, to_byte, bytes_of, File?, no_file, file}
use Rattle.sheet_form.specs.Forms.{Form}

-- what is written: the height and the stages
pub record Sheet : Type 0 where
  pub height : ℕ
  pub stages : List Stage

-- ---- writing

-- one filled bit, and a filled cell's own bits
unfoldable pub cell_bits : Form → (K p c : ℕ) → List ℕ
cell_bits F K p c = elim (filled c) [ true ↦ 1 ∷ F.bits K p c | false ↦ 0 ∷ [] ]

-- the cells from position p on
unfoldable pub cells_bits : Form → (K p : ℕ) → List ℕ → List ℕ
cells_bits F K p [] = []
cells_bits F K p (c ∷ cs) = cell_bits F K p c ++ cells_bits F K (suc p) cs

-- word count 16, words of 8, the positions from 1 on
unfoldable pub stage_bits : Form → ℕ → Stage → List ℕ
stage_bits F K s = bits_of 16 (length s.words) ++ gather (bits_of 8) s.words ++ cells_bits F K 1 (drop 1 s.plan)

-- stage after stage
unfoldable pub stages_bits : Form → ℕ → List Stage → List ℕ
stages_bits F K [] = []
stages_bits F K (s ∷ ss) = stage_bits F K s ++ stages_bits F K ss

-- behind the sheet number, which is a byte: height 4, stage count 16, the stages
unfoldable pub sheet_bits : Form → Sheet → List ℕ
sheet_bits F S = bits_of 4 S.height ++ bits_of 16 (length S.stages) ++ stages_bits F S.height S.stages

-- the sheet number, and the bits behind it up to a byte
unfoldable pub sheet_bytes : Form → Sheet → List ℕ
sheet_bytes F S = F.number ∷ bytes_of (to_byte (sheet_bits F S))

-- which sheets there are: every number fits its field, words are below W, position 0 is empty
unfoldable pub cell_fits : Form → (K p c : ℕ) → Bool
cell_fits F K p c = elim (filled c) [ true ↦ F.fits K p c | false ↦ true ]

-- the cells from position p on
unfoldable pub cells_fit : Form → (K p : ℕ) → List ℕ → Bool
cells_fit F K p [] = true
cells_fit F K p (c ∷ cs) = cell_fits F K p c && cells_fit F K (suc p) cs

-- a cell a position, position 0 empty, at most 65,535 words
unfoldable pub stage_fits : Form → ℕ → Stage → Bool
stage_fits F K s =
    eqb (length s.plan) (stage_size K) && not (filled (get_or s.plan 0 empty)) && leb (length s.words) 65535 && every (word_fits K) s.words
    && cells_fit F K 1 (drop 1 s.plan)

-- every stage
unfoldable pub stages_fit : Form → ℕ → List Stage → Bool
stages_fit F K [] = true
stages_fit F K (s ∷ ss) = stage_fits F K s && stages_fit F K ss

-- a height from 6 to 13, at most 65,535 stages
unfoldable pub holdable : Form → Sheet → Bool
holdable F S = is_height S.height && leb (length S.stages) 65535 && stages_fit F S.height S.stages

-- the sheet's bytes, or none for a plan that no sheet can hold
unfoldable pub write_sheet : Form → Sheet → File?
write_sheet F S = elim (holdable F S) [ true ↦ file (sheet_bytes F S) | false ↦ no_file ]

-- ---- reading; `cut` stands for all that 15 refuses

-- one filled bit, and a filled cell's own
unfoldable pub read_cell : Form → (K p : ℕ) → List ℕ → Read ℕ
read_cell F K p bs = next (field 1 bs) (λ b cs. elim (eqb b 1) [ true ↦ F.read K p cs | false ↦ got empty cs ])

-- n cells from position p on
unfoldable pub read_cells : Form → (K n p : ℕ) → List ℕ → Read (List ℕ)
read_cells F K zero p bs = got [] bs
read_cells F K (suc n) p bs = next (read_cell F K p bs) (λ c cs. next (read_cells F K n (suc p) cs) (λ xs ds. got (c ∷ xs) ds))

-- word count 16, words of 8, each below W
unfoldable pub read_words : ℕ → List ℕ → Read (List ℕ)
read_words K bs = next (field 16 bs) (λ n cs. next (fields n 8 cs) (λ ws ds. elim (every (word_fits K) ws) [ true ↦ got ws ds | false ↦ cut ]))

-- the words, and the positions from 1 on; position 0 is empty
unfoldable pub read_stage : Form → ℕ → List ℕ → Read Stage
read_stage F K bs = next (read_words K bs) (λ ws cs. next (read_cells F K (stage_size K - 1) 1 cs) (λ xs ds. got (record { plan = empty ∷ xs; words = ws }) ds))

-- n stages
unfoldable pub read_stages : Form → (K n : ℕ) → List ℕ → Read (List Stage)
read_stages F K zero bs = got [] bs
read_stages F K (suc n) bs = next (read_stage F K bs) (λ s cs. next (read_stages F K n cs) (λ ss ds. got (s ∷ ss) ds))

-- height 4, from 6 to 13
unfoldable pub read_height : List ℕ → Read ℕ
read_height bs = next (field 4 bs) (λ K cs. elim (is_height K) [ true ↦ got K cs | false ↦ cut ])

-- height 4, stage count 16, the stages
unfoldable pub read_body : Form → List ℕ → Read Sheet
read_body F bs =
    next (read_height bs) (λ K b1. next (field 16 b1) (λ n b2. next (read_stages F K n b2) (λ ss b3. got (record { height = K; stages = ss }) b3)))

-- a sheet, or a refusal's number
pub data Sheet? : Type 0 where
  refused : ℕ → Sheet?
  sheet : Sheet → Sheet?

-- zero padding and no leftover bytes
unfoldable pub accept : Read Sheet → Sheet?
accept cut = refused 15
accept (got S bs) = elim (is_padding bs) [ true ↦ sheet S | false ↦ refused 15 ]

-- 16 for an unknown sheet number, where there is a first byte
unfoldable pub read_sheet : Form → List ℕ → Sheet?
read_sheet F [] = refused 15
read_sheet F (b ∷ bytes) = elim (eqb b F.number) [ true ↦ accept (read_body F (gather (bits_of 8) bytes)) | false ↦ refused 16 ]
