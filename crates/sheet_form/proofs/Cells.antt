-- A cell, and cells in a row: a reader takes exactly the bits that the writer makes. Assumes nothing.
use Prim.Native.Nat.{ℕ, zero, suc, ◌+◌, ◌*◌, ◌≤◌, ◌<◌}
use mathlib.Core.Path.{◌≡◌, refl, sym, ap, ◌∙◌}
use mathlib.Core.Bool.{Bool, true, false}
use mathlib.Core.List.{List, [], ◌∷◌, ◌++◌, append_assoc}
use native.Mathlib.Omega.{arith}
use lib.Dec.{eqb}
use lib.ListN.{length, get_or, length-append}
use borrow.Author.Tests.{not-false, eqb-true, eqb-false}
use Rattle.rules.specs.Cells.{empty, filled}
use Rattle.rules.specs.Job.{bits_of, got, next, field}
use Rattle.rules.proofs.Lists.Members.{split, and_true}
use Rattle.rules.proofs.Job.Bits.{Bits, bits_none, bits_cons, bits_append}
use Rattle.rules.proofs.Job.Fields.{through, same_got, joined, field_got, field_only}
use Rattle.sheet_form.specs.Forms.{Form}
use Rattle.sheet_form.specs.Sheets.{cell_bits, cells_bits, cell_fits, cells_fit, read_cell, read_cells}

-- a cell was read: its bits stood there, and it fits
pub record Taken (write : ℕ → List ℕ) (fits : ℕ → Bool) (bs : List ℕ) (c : ℕ) (rest : List ℕ) : Type 0 where
  pub is : bs ≡ write c ++ rest
  pub below : fits c ≡ true
  pub bits : Bits rest

-- what a sheet number's cells must satisfy: what was written is read back, only what is written is read, and the empty mark is no filled cell
pub record Sound (F : Form) : Type 0 where
  pub byte : F.number < 256
  pub bits : (K p c : ℕ) → Bits (F.bits K p c)
  pub short : (K p c : ℕ) → length (F.bits K p c) ≤ F.most
  pub marked : (K p c : ℕ) → F.fits K p c ≡ true → filled c ≡ true
  pub back : (K p c : ℕ) (rest : List ℕ) → F.fits K p c ≡ true → F.read K p (F.bits K p c ++ rest) ≡ got c rest
  pub only : (K p : ℕ) (bs : List ℕ) {c : ℕ} {rest : List ℕ} → Bits bs → F.read K p bs ≡ got c rest → Taken (F.bits K p) (F.fits K p) bs c rest

module _ (F : Form) (S : Sound F) (K : ℕ) where
  -- ---- one cell

  is_empty : (c : ℕ) → filled c ≡ false → c ≡ empty
  unfolding filled
  is_empty c e = eqb-true c empty (not-false (eqb c empty) e)

  -- a cell that was written is read back
  pub cell_got : (p c : ℕ) (rest : List ℕ) → cell_fits F K p c ≡ true → read_cell F K p (cell_bits F K p c ++ rest) ≡ got c rest
  unfolding cell_fits cell_bits read_cell next bits_of
  cell_got p c rest e = split (filled c)
      (λ t. rw (t, cell_bits, field_got 1 1 (F.bits K p c ++ rest) (omega arith), next) (S.back K p c rest (rw (t, cell_fits) at e)))
      (λ t. rw (t, cell_bits, field_got 1 0 rest (omega arith), next) (ap (λ (x : ℕ). got x rest) (sym (is_empty c t))))

  -- only the bits of a cell are read as one
  pub cell_only : (p : ℕ) (bs : List ℕ) {c : ℕ} {rest : List ℕ} → Bits bs → read_cell F K p bs ≡ got c rest → Taken (cell_bits F K p) (cell_fits F K p) bs c rest
  unfolding cell_fits cell_bits read_cell bits_of filled empty
  cell_only p bs {c} {rest} B e =
      let t = through (field 1 bs) (λ b cs. elim (eqb b 1) [ true ↦ F.read K p cs | false ↦ got empty cs ]) e in
      let f = field_only 1 bs B t.first in
      let h = f.below in
      split (eqb t.a 1)
      (λ u.
      let n : t.a ≡ 1 = eqb-true t.a 1 u in
      let g = S.only K p t.b f.bits (rw u at t.second) in
      let m : filled c ≡ true = S.marked K p c g.below in
      let i : bs ≡ 1 ∷ t.b = f.is ∙ ap (λ (x : ℕ). bits_of 1 x ++ t.b) n in
      record { is = rw (m, cell_bits) (i ∙ ap (λ (r : List ℕ). 1 ∷ r) g.is); below = rw (m, cell_fits) g.below; bits = g.bits })
      (λ u.
      let n : t.a ≡ 0 = let v = eqb-false t.a 1 u in omega arith in
      let i : bs ≡ 0 ∷ t.b = f.is ∙ ap (λ (x : ℕ). bits_of 1 x ++ t.b) n in
      same_got (Taken (cell_bits F K p) (cell_fits F K p) bs) (rw u at t.second) (record { is = i; below = refl; bits = f.bits }))

  bits_cell : (p c : ℕ) → Bits (cell_bits F K p c)
  unfolding cell_bits
  bits_cell p c = split (filled c) (λ t. rw (t, cell_bits) (bits_cons (omega arith) (S.bits K p c))) (λ t. rw (t, cell_bits) (bits_cons (omega arith) bits_none))

  cell_short : (p c : ℕ) → length (cell_bits F K p c) ≤ 1 + F.most
  unfolding cell_bits
  cell_short p c = split (filled c) (λ t. rw (t, cell_bits) (omega (arith, S.short K p c))) (λ t. rw (t, cell_bits) (omega arith))

  -- ---- cells in a row

  -- cells that were written are read back
  pub cells_got : (p : ℕ) (cs rest : List ℕ) → cells_fit F K p cs ≡ true → read_cells F K (length cs) p (cells_bits F K p cs ++ rest) ≡ got cs rest
  unfolding cells_fit cells_bits read_cells next
  cells_got p [] rest e = refl
  cells_got p (c ∷ cs) rest e =
      let h = and_true (cell_fits F K p c) (cells_fit F K (suc p) cs) e in
      rw (append_assoc (cell_bits F K p c) (cells_bits F K (suc p) cs) rest, cell_got p c (cells_bits F K (suc p) cs ++ rest) h.0, next, cells_got (suc p) cs rest h.1)

  -- cells were read: their bits stood there, so many, and each fits
  pub record CellsTaken (n p : ℕ) (bs cs rest : List ℕ) : Type 0 where
    pub is : bs ≡ cells_bits F K p cs ++ rest
    pub count : length cs ≡ n
    pub below : cells_fit F K p cs ≡ true
    pub bits : Bits rest

  -- only the bits of cells are read as cells
  pub cells_only : (n p : ℕ) (bs : List ℕ) {cs rest : List ℕ} → Bits bs → read_cells F K n p bs ≡ got cs rest → CellsTaken n p bs cs rest
  unfolding cells_fit cells_bits read_cells
  cells_only zero p bs B e = same_got (CellsTaken zero p bs) e (record { is = refl; count = refl; below = refl; bits = B })
  cells_only (suc n) p bs B e =
      let t = through (read_cell F K p bs) (λ c cs. next (read_cells F K n (suc p) cs) (λ xs ds. got (c ∷ xs) ds)) e in
      let f = cell_only p bs B t.first in
      let u = through (read_cells F K n (suc p) t.b) (λ xs ds. got (t.a ∷ xs) ds) t.second in
      let g = cells_only n (suc p) t.b f.bits u.first in
      same_got (CellsTaken (suc n) p bs) u.second (record {
        is = joined (cell_bits F K p t.a) (cells_bits F K (suc p) u.a) u.b f.is g.is;
        count = ap suc g.count;
        below = rw f.below g.below;
        bits = g.bits;
      })

  -- what is written of cells are bits
  pub bits_cells : (p : ℕ) (cs : List ℕ) → Bits (cells_bits F K p cs)
  unfolding cells_bits
  bits_cells p [] = bits_none
  bits_cells p (c ∷ cs) = bits_append (cell_bits F K p c) (cells_bits F K (suc p) cs) (bits_cell p c) (bits_cells (suc p) cs)

  -- cells take at most a filled bit and a cell each
  pub cells_short : (p : ℕ) (cs : List ℕ) → length (cells_bits F K p cs) ≤ length cs * (1 + F.most)
  unfolding cells_bits
  cells_short p [] = omega arith
  cells_short p (c ∷ cs) = omega (arith, length-append (cell_bits F K p c) (cells_bits F K (suc p) cs), cell_short p c, cells_short (suc p) cs)

-- ---- cells by their place

-- cells that fit one by one
pub cells_fit_lem : (F : Form) (K p : ℕ) (cs : List ℕ) → ((i : ℕ) → i < length cs → cell_fits F K (p + i) (get_or cs i empty) ≡ true) → cells_fit F K p cs ≡ true
unfolding cells_fit
cells_fit_lem F K p [] h = refl
cells_fit_lem F K p (c ∷ cs) h =
    let z : p + 0 ≡ p = omega arith in
    let f : cell_fits F K p c ≡ true = rw z at (h 0 (omega arith)) in
    rw f (cells_fit_lem F K (suc p) cs (λ i b. let e : p + suc i ≡ suc p + i = omega arith in rw e at (h (suc i) (omega arith))))

-- cells that fit do so one by one, and so does what stands past them
pub fits_at : (F : Form) (K p : ℕ) (cs : List ℕ) → cells_fit F K p cs ≡ true → (i : ℕ) → cell_fits F K (p + i) (get_or cs i empty) ≡ true
unfolding cells_fit cell_fits filled empty
fits_at F K p [] e i = refl
fits_at F K p (c ∷ cs) e zero = let z : p + 0 ≡ p = omega arith in rw z (and_true (cell_fits F K p c) (cells_fit F K (suc p) cs) e).0
fits_at F K p (c ∷ cs) e (suc i) = let z : p + suc i ≡ suc p + i = omega arith in rw z (fits_at F K (suc p) cs (and_true (cell_fits F K p c) (cells_fit F K (suc p) cs) e).1 i)

-- a filled cell that fits, fits the form
pub filled_fits : (F : Form) (K p c : ℕ) → filled c ≡ true → cell_fits F K p c ≡ true → F.fits K p c ≡ true
unfolding cell_fits
filled_fits F K p c t e = rw (t, cell_fits) at e

-- and back
pub fits_filled : (F : Form) (K p c : ℕ) → (filled c ≡ true → F.fits K p c ≡ true) → cell_fits F K p c ≡ true
unfolding cell_fits
fits_filled F K p c h = split (filled c) (λ t. rw (t, cell_fits) (h t)) (λ t. rw (t, cell_fits))
