-- Reading either sheet. Assumes nothing.
use Prim.Native.Nat.{ℕ, ◌^◌, ◌<◌, ◌≤◌}
use mathlib.Core.Path.{◌≡◌, refl, ◌∙◌}
use mathlib.Core.Bool.{true, ◌&&◌}
use mathlib.Core.List.{List, [], ◌∷◌}
use native.Mathlib.Omega.{arith}
use lib.Dec.{ltb, eqb}
use lib.ListN.{length, get_or}
use borrow.Author.Tests.{lt-ltb, eq-eqb, ne_eqb, eqb-true}
use Rattle.rules.specs.Graph.{graph_of}
use Rattle.rules.proofs.Lists.Members.{split}
use Rattle.rules.proofs.Job.Bits.{Bytes}
use Rattle.sheet_form.specs.Forms.{sheet_one, sheet_two}
use Rattle.sheet_form.specs.Sheets.{Sheet, Sheet?, refused, sheet, read_sheet}
use Rattle.sheet_form.specs.Lifting.{stages_lift, lift, read_either}
use Rattle.sheet_form.proofs.Sheets.{no_sheet, Held, wrote}
use Rattle.sheet_form.proofs.Forms.{one, two, one_only, two_only}
use Rattle.sheet_form.proofs.Sizes.{sheet_most}
use Rattle.sheet_form.proofs.Lifting.{lift_sheet, lift_held}

module _ (gates : List ℕ) where
  -- any first byte but 1 is read as sheet 2's
  pub as_two : (bs : List ℕ) → (get_or bs 0 0 ≡ 1 → ⊥) → read_either gates bs ≡ read_sheet sheet_two bs
  unfolding read_either read_sheet
  as_two [] h = refl
  as_two (b ∷ bs) h = rw (ne_eqb b 1 h, read_either)

  -- and so is every one without a graph
  pub as_none : (bs : List ℕ) → length gates ≡ 0 → read_either gates bs ≡ read_sheet sheet_two bs
  unfolding read_either read_sheet
  as_none [] h = refl
  as_none (b ∷ bs) h = rw (h, read_either) (split (eqb b 1) (λ t. rw t) (λ t. rw t))

  -- with one, sheet 1 is coded
  pub as_one : (bs : List ℕ) → get_or bs 0 0 ≡ 1 → 0 < length gates → read_either gates bs ≡ lift (graph_of gates) (read_sheet sheet_one bs)
  unfolding read_either
  as_one [] h some = absurd (omega arith)
  as_one (b ∷ bs) h some = rw (eq-eqb b 1 h, lt-ltb 0 (length gates) some, read_either)

  -- what is read as sheet 2 begins with a 2
  pub begins_two : (bs : List ℕ) (T : Sheet) → read_sheet sheet_two bs ≡ sheet T → get_or bs 0 0 ≡ 2
  unfolding read_sheet
  begins_two [] T e = no_sheet e
  begins_two (b ∷ bs) T e = split (eqb b 2) (λ t. eqb-true b 2 t) (λ t. no_sheet (rw (t, read_sheet) at e))

  -- so a sheet 2 is read whatever graph is lent
  pub two_either : (bs : List ℕ) (T : Sheet) → read_sheet sheet_two bs ≡ sheet T → read_either gates bs ≡ sheet T
  two_either bs T e = as_two bs (λ z. omega (arith, begins_two bs T e)) ∙ e

  -- a sheet 1 whose pins the graph codes is read as their cells
  pub one_either : (bs : List ℕ) (S : Sheet) → 0 < length gates → get_or bs 0 0 ≡ 1 → read_sheet sheet_one bs ≡ sheet S → stages_lift S.height (graph_of gates) S.stages ≡ true → read_either gates bs ≡ sheet (lift_sheet (graph_of gates) S)
  unfolding lift
  one_either bs S some first e l = as_one bs first some ∙ rw (e, lift, l)

  lifted_held : (r : Sheet?) (T : Sheet) → ((S : Sheet) → r ≡ sheet S → Held sheet_one S) → lift (graph_of gates) r ≡ sheet T → Held sheet_two T
  unfolding lift
  lifted_held (refused n) T h e = no_sheet e
  lifted_held (sheet S) T h e = split (stages_lift S.height (graph_of gates) S.stages)
      (λ t. let d : sheet (lift_sheet (graph_of gates) S) ≡ sheet T = rw (t, lift) at e in let c : lift_sheet (graph_of gates) S ≡ T = cc in rw c at (lift_held (graph_of gates) S (h S refl) t))
      (λ t. no_sheet (rw (t, lift) at e))

  -- Whatever is read, of either sheet, sheet 2 holds.
  pub either_held : (bs : List ℕ) (T : Sheet) → Bytes bs → read_either gates bs ≡ sheet T → Held sheet_two T
  unfolding read_either
  either_held [] T B e = no_sheet e
  either_held (b ∷ bs) T B e = split (eqb b 1 && ltb 0 (length gates))
      (λ t. lifted_held (read_sheet sheet_one (b ∷ bs)) T (λ S d. (wrote sheet_one one S (b ∷ bs) (one_only S (b ∷ bs) B d)).held) (rw (t, read_either) at e))
      (λ t. (wrote sheet_two two T (b ∷ bs) (two_only T (b ∷ bs) B (rw (t, read_either) at e))).held)

  lifted_most : (bs : List ℕ) → Bytes bs → (r : Sheet?) (T : Sheet) → read_sheet sheet_one bs ≡ r → lift (graph_of gates) r ≡ sheet T → length bs ≤ 2 ^ 40
  unfolding lift
  lifted_most bs B (refused n) T d e = no_sheet e
  lifted_most bs B (sheet S) T d e = sheet_most 1 (omega arith) S bs (one_only S bs B d)

  -- No sheet has more than 2^40 bytes.
  pub either_most : (bs : List ℕ) (T : Sheet) → Bytes bs → read_either gates bs ≡ sheet T → length bs ≤ 2 ^ 40
  unfolding read_either
  either_most [] T B e = omega arith
  either_most (b ∷ bs) T B e = split (eqb b 1 && ltb 0 (length gates))
      (λ t. lifted_most (b ∷ bs) B (read_sheet sheet_one (b ∷ bs)) T refl (rw (t, read_either) at e))
      (λ t. sheet_most 2 (omega arith) T (b ∷ bs) (two_only T (b ∷ bs) B (rw (t, read_either) at e)))
