-- Which jobs an AIGER file holds, tested number by number. Assumes nothing.
use Rattle.std.specs.Prelude.{◌≡◌, Bool, true, false, ◌&&◌, List, [], ◌∷◌, ℕ, zero, suc, ltb, eqb, length, get_or, set}
use Rattle.rules.specs.Graph.{Node}
use Rattle.aiger_form.specs.Aag.{Netlist, is_leaf_pin}
use Rattle.aiger_form.specs.Jobs.{Named}

-- a flip-flop with enable literal 1 stands in front
unfoldable pub flip_at : List ℕ → Bool
flip_at xs = ltb 2 (length xs) && (eqb (get_or xs 0 0) 2 && eqb (get_or xs 1 0) 1)

-- an output does
unfoldable pub output_at : List ℕ → Bool
output_at xs = ltb 1 (length xs) && eqb (get_or xs 0 0) 1

-- nothing but outputs
unfoldable pub outputs_only : List ℕ → Bool
outputs_only [] = true
outputs_only (k ∷ []) = false
outputs_only (k ∷ l ∷ xs) = eqb k 1 && outputs_only xs

-- n flip-flops with enable literal 1, and outputs behind them
unfoldable pub shaped : ℕ → List ℕ → Bool
shaped zero xs = outputs_only xs
shaped (suc n) [] = false
shaped (suc n) (k ∷ []) = false
shaped (suc n) (k ∷ e ∷ []) = false
shaped (suc n) (k ∷ e ∷ d ∷ xs) = (eqb k 2 && eqb e 1) && shaped n xs

-- a mark for each pin of a list
unfoldable pub marked : List ℕ → (marks : List ℕ) → List ℕ
marked [] m = m
marked (p ∷ ps) m = marked ps (set m p 1)

-- each is a leaf, and has no mark when its turn comes
unfoldable pub markable : List Node → List ℕ → (marks : List ℕ) → Bool
markable g [] m = true
markable g (p ∷ ps) m = (is_leaf_pin g p && eqb (get_or m p 0) 0) && markable g ps (set m p 1)

-- the test, and the marks that stand where it passes
pub record Marked (g : List Node) (ps m : List ℕ) (r : Bool) (m' : List ℕ) : Type 0 where
  pub test : r ≡ markable g ps m
  pub marks : r ≡ true → m' ≡ marked ps m

-- whether a file holds the job, and the marks that stand where one does
pub record Judged (given : List ℕ) (n : Netlist) (m : List ℕ) (r : Bool) (m' : List ℕ) : Type 0 where
  pub no : r ≡ false → Named given n → ⊥
  pub yes : r ≡ true → Named given n
  pub marks : r ≡ true → m' ≡ marked n.latches m
