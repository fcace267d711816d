-- A stage read by a sheet's number is read by its kind: any number but 1 reads as 2. Assumes nothing.
use mathlib.Core.Path.{◌≡◌, refl, ap}
use mathlib.Core.Bool.{true, false}
use mathlib.Core.List.{List, ◌∷◌}
use Prim.Native.Nat.{ℕ, zero, suc, ◌-◌}
use lib.Dec.{eqb}
use borrow.Author.Tests.{eqb-true}
use Rattle.rules.specs.Cells.{empty, stage_size}
use Rattle.rules.specs.Graph.{Node}
use Rattle.rules.specs.Job.{got, next, field}
use Rattle.rules.proofs.Lists.Members.{split}
use Rattle.sheet_form.specs.Forms.{behind_pin, form_fits, form_read, form}
use Rattle.sheet_form.specs.Sheets.{read_cell, read_cells}
use Rattle.sheet_form.specs.Kinds.{number_for, kind_for}
use Rattle.sheet_plan.specs.Plans.{plan_read, turned, plan_with}

module _ (number : ℕ) (other : eqb number 1 ≡ false) (K : ℕ) where
  behind_same : behind_pin number ≡ behind_pin 2
  unfolding behind_pin
  behind_same = rw (other, behind_pin) refl

  form_same : (p : ℕ) (bs : List ℕ) → form_read number K p bs ≡ form_read 2 K p bs
  unfolding form_read form_fits
  form_same p bs = rw behind_same refl

  cell_same : (p : ℕ) (bs : List ℕ) → read_cell (form number) K p bs ≡ read_cell (form 2) K p bs
  unfolding read_cell
  cell_same p bs = λ i. next (field 1 bs) (λ b cs. elim (eqb b 1) [ true ↦ form_same p cs i | false ↦ got empty cs ])

  cells_same : (n p : ℕ) (bs : List ℕ) → read_cells (form number) K n p bs ≡ read_cells (form 2) K n p bs
  unfolding read_cells
  cells_same zero p bs = refl
  cells_same (suc n) p bs = λ i. next (cell_same p bs i) (λ c cs. next (cells_same n (suc p) cs i) (λ xs ds. got (c ∷ xs) ds))

  read_same : (bs : List ℕ) → plan_read number K bs ≡ plan_read 2 K bs
  unfolding plan_read
  read_same bs = λ i. next (cells_same (stage_size K - 1) 1 bs i) (λ xs ds. got (empty ∷ xs) ds)

  turned_same : (g : List Node) (pl ds : List ℕ) → turned number K g pl ds ≡ turned 2 K g pl ds
  unfolding turned
  turned_same g pl ds = rw (other, turned) refl

  plan_same : (g : List Node) (bs : List ℕ) → plan_with number K g bs ≡ plan_with 2 K g bs
  unfolding plan_with
  plan_same g bs = λ i. next (read_same bs i) (λ pl ds. turned_same g pl ds i)

-- what `read_plan` says of a kind holds of every number of that kind
pub kind_reads : (number K : ℕ) (g : List Node) (bs : List ℕ) → plan_with number K g bs ≡ plan_with (number_for (kind_for number)) K g bs
unfolding kind_for
kind_reads number K g bs = split (eqb number 1)
    (λ t. rw (t, number_for) (ap (λ (n : ℕ). plan_with n K g bs) (eqb-true number 1 t)))
    (λ t. rw (t, number_for) (plan_same number t K g bs))
