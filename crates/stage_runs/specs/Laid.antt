-- Words in the lent area. Assumes nothing.
use Rattle.std.specs.Prelude.{List, ℕ, take}
use Rattle.rules.specs.Lists.{laid_at}

-- as many of the words as may be written
unfoldable pub noted : ℕ → ℕ → List ℕ → List ℕ → List ℕ
noted at room ws words = laid_at at (take room ws) words
