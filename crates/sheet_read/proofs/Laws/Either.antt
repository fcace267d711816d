-- Sheets read stage by stage, each stage's cells coded at once, are the sheets that are read whole and coded then. Assumes nothing.
use mathlib.Core.Path.{◌≡◌, refl, ap, ◌∙◌}
use mathlib.Core.Bool.{Bool, true, false, ◌&&◌}
use mathlib.Core.List.{List, [], ◌∷◌}
use Prim.Native.Nat.{ℕ, zero, suc, ◌-◌}
use lib.Dec.{eqb}
use Rattle.rules.specs.Cells.{empty, stage_size}
use Rattle.rules.specs.Graph.{Node}
use Rattle.rules.specs.Build.{Stage, coded_stages}
use Rattle.rules.specs.Coded.{coded}
use Rattle.rules.specs.Job.{Read, cut, got, next, field, is_padding}
use Rattle.rules.proofs.Lists.Members.{split}
use Rattle.sheet_form.specs.Forms.{form, sheet_one, sheet_two}
use Rattle.sheet_form.specs.Sheets.{Sheet, read_cells, read_words, read_stage, read_stages, read_height, read_body, accept}
use Rattle.sheet_form.specs.Lifting.{stage_lifts, stages_lift, lift}
use Rattle.sheet_form.proofs.Lifting.{lift_sheet}
use Rattle.sheet_plan.specs.Plans.{plan_read, turned, plan_with}
use Rattle.sheet_read.specs.Stages.{stage_with, stages_with}
use Rattle.sheet_read.specs.Walk.{body_with}

-- of sheet 1 the second, if the graph codes it; of sheet 2 the first
abbrev chosen : {A : Type 0} (one lifts : Bool) (x y : Read A) → Read A
chosen one lifts x y = elim one [ false ↦ x | true ↦ elim lifts [ true ↦ y | false ↦ cut ] ]

module _ {A B : Type 0} where
  -- what follows a choice follows either
  next_chosen : (a b : Bool) (x y : A) (ds : List ℕ) (f : A → List ℕ → Read B) → next (chosen a b (got x ds) (got y ds)) f ≡ chosen a b (f x ds) (f y ds)
  unfolding next
  next_chosen false b x y ds f = refl
  next_chosen true true x y ds f = refl
  next_chosen true false x y ds f = refl

chosen_cut : (a b : Bool) → ◌≡◌ {A = Read (List Stage)} (chosen a b cut cut) cut
chosen_cut false b = refl
chosen_cut true true = refl
chosen_cut true false = refl

module _ (number K : ℕ) (g : List Node) where
  abbrev one : Bool
  one = eqb number 1

  -- a stage that was read, coded
  abbrev stage_turned : Stage → List ℕ → Read Stage
  stage_turned s ds = chosen one (stage_lifts K g s.plan) (got s ds) (got (record { plan = coded K g s.plan; words = s.words }) ds)

  plan_turned : (ws xs ds : List ℕ) → next (turned number K g (empty ∷ xs) ds) (λ pl es. got (record { plan = pl; words = ws }) es) ≡ stage_turned (record { plan = empty ∷ xs; words = ws }) ds
  unfolding turned
  plan_turned ws xs ds = next_chosen one (stage_lifts K g (empty ∷ xs)) (empty ∷ xs) (coded K g (empty ∷ xs)) ds (λ pl es. got (record { plan = pl; words = ws }) es)

  cells_turned : (ws : List ℕ) (r : Read (List ℕ)) → next (next (next r (λ xs ds. got (empty ∷ xs) ds)) (turned number K g)) (λ pl es. got (record { plan = pl; words = ws }) es)
      ≡ next (next r (λ xs ds. got (record { plan = empty ∷ xs; words = ws }) ds)) stage_turned
  unfolding next
  cells_turned ws cut = refl
  cells_turned ws (got xs ds) = plan_turned ws xs ds

  words_turned : (r : Read (List ℕ)) → next r (λ ws cs. next (plan_with number K g cs) (λ pl es. got (record { plan = pl; words = ws }) es))
      ≡ next (next r (λ ws cs. next (read_cells (form number) K (stage_size K - 1) 1 cs) (λ xs ds. got (record { plan = empty ∷ xs; words = ws }) ds))) stage_turned
  unfolding next plan_with plan_read
  words_turned cut = refl
  words_turned (got ws cs) = cells_turned ws (read_cells (form number) K (stage_size K - 1) 1 cs)

  stage_turned_lem : (bs : List ℕ) → stage_with number K g bs ≡ next (read_stage (form number) K bs) stage_turned
  unfolding stage_with read_stage
  stage_turned_lem bs = words_turned (read_words K bs)

  -- stages
  abbrev stages_turned : List Stage → List ℕ → Read (List Stage)
  stages_turned ss ds = chosen one (stages_lift K g ss) (got ss ds) (got (coded_stages K g ss) ds)

  more_turned : (s : Stage) (r : Read (List Stage)) →
      chosen one (stage_lifts K g s.plan) (next (next r stages_turned) (λ ss ds. got (s ∷ ss) ds)) (next (next r stages_turned) (λ ss ds. got (record { plan = coded K g s.plan; words = s.words } ∷ ss) ds))
      ≡ next (next r (λ ss ds. got (s ∷ ss) ds)) stages_turned
  unfolding next stages_lift coded_stages
  more_turned s cut = chosen_cut one (stage_lifts K g s.plan)
  more_turned s (got ss ds) = by one (stage_lifts K g s.plan) (stages_lift K g ss)
    where
      by : (a b c : Bool) → chosen a b (next (chosen a c (got ss ds) (got (coded_stages K g ss) ds)) (λ ss ds. got (s ∷ ss) ds)) (next (chosen a c (got ss ds) (got (coded_stages K g ss) ds)) (λ ss ds. got (record { plan = coded K g s.plan; words = s.words } ∷ ss) ds))
          ≡ chosen a (b && c) (got (s ∷ ss) ds) (got (record { plan = coded K g s.plan; words = s.words } ∷ coded_stages K g ss) ds)
      by false b c = refl
      by true true true = refl
      by true true false = refl
      by true false c = refl

  first_turned : (n : ℕ) → ((cs : List ℕ) → stages_with number K g n cs ≡ next (read_stages (form number) K n cs) stages_turned) → (r : Read Stage) →
      next (next r stage_turned) (λ s cs. next (stages_with number K g n cs) (λ ss ds. got (s ∷ ss) ds)) ≡ next (next r (λ s cs. next (read_stages (form number) K n cs) (λ ss ds. got (s ∷ ss) ds))) stages_turned
  unfolding next
  first_turned n e cut = refl
  first_turned n e (got s cs) =
      next_chosen one (stage_lifts K g s.plan) s (record { plan = coded K g s.plan; words = s.words }) cs (λ s cs. next (stages_with number K g n cs) (λ ss ds. got (s ∷ ss) ds))
      ∙ rw (e cs) (more_turned s (read_stages (form number) K n cs))

  stages_turned_lem : (n : ℕ) (bs : List ℕ) → stages_with number K g n bs ≡ next (read_stages (form number) K n bs) stages_turned
  unfolding stages_with read_stages next stages_lift coded_stages
  stages_turned_lem zero bs = by one
    where
      by : (a : Bool) → ◌≡◌ {A = Read (List Stage)} (got [] bs) (chosen a true (got [] bs) (got [] bs))
      by false = refl
      by true = refl
  stages_turned_lem (suc n) bs = rw (stage_turned_lem bs) (first_turned n (stages_turned_lem n) (read_stage (form number) K bs))

-- ---- the sheet

module _ (number : ℕ) (g : List Node) where
  abbrev sheet_turned : Sheet → List ℕ → Read Sheet
  sheet_turned S ds = chosen (eqb number 1) (stages_lift S.height g S.stages) (got S ds) (got (lift_sheet g S) ds)

  whole_turned : (K : ℕ) (r : Read (List Stage)) → next (next r (stages_turned number K g)) (λ ss b3. got (record { height = K; stages = ss }) b3) ≡ next (next r (λ ss b3. got (record { height = K; stages = ss }) b3)) sheet_turned
  unfolding next
  whole_turned K cut = refl
  whole_turned K (got ss ds) = next_chosen (eqb number 1) (stages_lift K g ss) ss (coded_stages K g ss) ds (λ ss b3. got (record { height = K; stages = ss }) b3)

  count_turned : (K : ℕ) (r : Read ℕ) → next r (λ n b2. next (stages_with number K g n b2) (λ ss b3. got (record { height = K; stages = ss }) b3))
      ≡ next (next r (λ n b2. next (read_stages (form number) K n b2) (λ ss b3. got (record { height = K; stages = ss }) b3))) sheet_turned
  unfolding next
  count_turned K cut = refl
  count_turned K (got n b2) = rw (stages_turned_lem number K g n b2) (whole_turned K (read_stages (form number) K n b2))

  height_turned : (r : Read ℕ) → next r (λ K b1. next (field 16 b1) (λ n b2. next (stages_with number K g n b2) (λ ss b3. got (record { height = K; stages = ss }) b3)))
      ≡ next (next r (λ K b1. next (field 16 b1) (λ n b2. next (read_stages (form number) K n b2) (λ ss b3. got (record { height = K; stages = ss }) b3)))) sheet_turned
  unfolding next
  height_turned cut = refl
  height_turned (got K b1) = count_turned K (field 16 b1)

  body_turned : (bs : List ℕ) → body_with number g bs ≡ next (read_body (form number) bs) sheet_turned
  unfolding body_with read_body
  body_turned bs = height_turned (read_height bs)

same : {A : Type 0} (r : Read A) → next r (λ x ds. got x ds) ≡ r
unfolding next
same cut = refl
same (got x ds) = refl

-- a sheet 2 is read as it stands
pub body_two : (g : List Node) (bs : List ℕ) → body_with 2 g bs ≡ read_body sheet_two bs
body_two g bs = body_turned 2 g bs ∙ same (read_body sheet_two bs)

accept_turned : (g : List Node) (r : Read Sheet) → accept (next r (sheet_turned 1 g)) ≡ lift g (accept r)
unfolding accept lift next
accept_turned g cut = refl
accept_turned g (got S ds) = split (stages_lift S.height g S.stages)
    (λ a. split (is_padding ds) (λ b. rw (a, accept, b, lift) (rw a)) (λ b. rw (a, accept, b, lift)))
    (λ a. split (is_padding ds) (λ b. rw (a, accept, b, lift) (rw a)) (λ b. rw (a, accept, b, lift)))

-- a sheet 1 is read whole and coded then
pub body_one : (g : List Node) (bs : List ℕ) → accept (body_with 1 g bs) ≡ lift g (accept (read_body sheet_one bs))
body_one g bs = ap accept (body_turned 1 g bs) ∙ accept_turned g (read_body sheet_one bs)
