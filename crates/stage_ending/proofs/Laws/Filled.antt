-- Rule 9 with test 8. Assumes nothing.
use mathlib.Core.Path.{◌≡◌, refl, ◌∙◌}
use mathlib.Core.Logic.{inl, inr}
use mathlib.Core.Bool.{Bool, true, false}
use mathlib.Core.List.{List, [], ◌∷◌}
use Prim.Native.Nat.{ℕ, suc, ◌*◌, ◌≤◌}
use native.Mathlib.Omega.{arith}
use lib.Dec.{ltb}
use borrow.Author.Tests.{ltb-true, ltb-false}
use Rattle.rules.specs.Lists.{nothing, found}
use Rattle.rules.specs.Cells.{filled, row_at, row, first_empty}
use Rattle.rules.specs.Placing.{cell_at}
use Rattle.rules.proofs.Lists.Members.{split, true_false}
use Rattle.rules.proofs.Stage.Staged.{two_step, half_height}
use Rattle.stage_walk.specs.Stands.{Context}
use Rattle.stage_tree.specs.Search.{SearchAt, First}
use Rattle.stage_tree.proofs.Search.{cell_found, cell_none}
use Rattle.stage_runs.proofs.Laws.Plain.{row_high}
use Rattle.stage_ending.specs.Rest.{RestAt, answer, Rested, Filled}

-- wherever the count begins
none_any : (i j : ℕ) (cs : List ℕ) → first_empty i cs ≡ nothing → first_empty j cs ≡ nothing
unfolding first_empty
none_any i j [] e = refl
none_any i j (c ∷ cs) e = split (filled c) (λ f. rw (f, first_empty) (none_any (suc i) (suc j) cs (rw (f, first_empty) at e)))
    (λ f. let d : found i ≡ nothing = rw (f, first_empty) at e in let z : ◌≡◌ {A = ℕ} 0 1 = cc in absurd (omega arith))

found_any : (i j : ℕ) (cs : List ℕ) (c : ℕ) → first_empty i cs ≡ found c → (d : ℕ) × (first_empty j cs ≡ found d)
unfolding first_empty
found_any i j [] c e = absurd (let z : ◌≡◌ {A = ℕ} 0 1 = cc in omega arith)
found_any i j (x ∷ cs) c e = split (filled x) (λ f. rw (f, first_empty) (found_any (suc i) (suc j) cs c (rw (f, first_empty) at e))) (λ f. (j, rw (f, first_empty) refl))

module _ {C : Context} {m half q : ℕ} {gates pl w : List ℕ} (A : RestAt C m half q gates pl w) where
  -- level 1 ends by position 8,192
  pub half_few : 2 * half ≤ 8192
  half_few = rw A.row (row_high C.X.K 1 (omega arith) (omega (arith, C.low)) C.high)

  module _ {b : Bool} {pl1 w1 : List ℕ} (B : Rested C m q gates pl w b pl1 w1) where
    -- a needed pin without a cell fails test 8
    pub filled_full : b ≡ false → Filled C m q gates pl w false pl1 w1
    unfolding answer
    filled_full e = record { kept = B.kept; size = B.size; stands = B.stands; yes = λ d. true_false d refl; no = λ d real M. inl (B.is real M ∙ rw e refl) }

    -- level 1 may be searched for an empty cell
    pub filled_search : SearchAt pl1 half (2 * half)
    filled_search = record { upto = omega arith; inside = omega (arith, A.row, B.stands.fair.len, two_step C.X.K, half_height C.X.K (omega (arith, C.low))) }

    -- test 8 passes where one is found
    pub filled_test : b ≡ true → {c : ℕ} → First pl1 half (2 * half) c → Filled C m q gates pl w (ltb c (2 * half)) pl1 w1
    unfolding answer cell_at
    filled_test e {c} F = record {
      kept = B.kept;
      size = B.size;
      stands = B.stands;
      yes = λ d. (λ real M. B.is real M ∙ rw e refl, found_any (row_at C.X.K 1) 0 (row C.X.K 1 pl1) c (cell_found C.X 1 half A.row pl1 c F (ltb-true c (2 * half) d)));
      no = λ d real M. inr (B.is real M ∙ rw e refl, none_any (row_at C.X.K 1) 0 (row C.X.K 1 pl1) (cell_none C.X 1 half A.row pl1 c F (ltb-false c (2 * half) d)));
    }
