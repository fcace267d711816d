-- A run of a finished plan of cells, whoever made it: each clock folds it, and a pin's bit is read from a written word. Assumes nothing.
use Rattle.std.specs.Prelude.{ℕ, ◌+◌, ◌*◌, Bool, false, List, [], ◌∷◌, get_or, take, drop}
use Rattle.rules.specs.Lists.{Found, nothing, found, padded}
use Rattle.rules.specs.Cells.{empty, stage_size}
use Rattle.rules.specs.Build.{Stage, cells_of}
use Rattle.rules.specs.Fold.{first_at}
use Rattle.rules.specs.Coded.{pins, fold_cells}
use Rattle.replay_form.specs.Clocks.{is_one, ones, Circuit, Valuation, Ran, run}

-- the first of some words of a stage, by the pins of its cells, that hold pin q, and there the lowest position that does
unfoldable pub in_words : (held : List ℕ) → ℕ → (words : List ℕ) → Found
in_words pl q [] = nothing
in_words pl q (w ∷ ws) = elim (first_at q (32 * w) (take 32 (drop (32 * w) pl))) [ nothing ↦ in_words pl q ws | found p ↦ found p ]

-- the first stage that writes pin q, and where it stands in the plan; `from` is where the first of the stages begins
unfoldable pub written_at : (size from : ℕ) → ℕ → List Stage → Found
written_at size from q [] = nothing
written_at size from q (s ∷ ss) = elim (in_words (pins s.plan) q s.words) [ nothing ↦ written_at size (from + size) q ss | found p ↦ found (from + p) ]

-- the bit of a place in a folded plan; a pin that is not written, as the constant, has the bit 0
unfoldable pub bit_in : List ℕ → Found → Bool
bit_in result nothing = false
bit_in result (found p) = is_one (get_or result p 0)

-- the stages of a plan area of `size` numbers give the pins the bits of its fold
unfoldable pub plan_bits : ℕ → (size : ℕ) → List Stage → Valuation
plan_bits K size ss bits =
    let result = fold_cells K (padded size empty (cells_of ss)) bits in
    λ q. bit_in result (written_at (stage_size K) 0 q ss)

-- a run of the plan
unfoldable pub plan_run : ℕ → (size : ℕ) → List Stage → Circuit → ℕ → (recording starting : List ℕ) → Ran
plan_run K size ss C n recording starting = run C (plan_bits K size ss) n recording (ones starting)
