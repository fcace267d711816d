-- What the entry of a fold returns and leaves. Assumes nothing.
use Rattle.std.specs.Prelude.{List, [], ℕ}
use Rattle.rules.specs.Coded.{folder}
use Rattle.entries.specs.Entry.{Entry, entered}

-- the areas that a fold writes
pub record Lent : Type 0 where
  pub result : List ℕ
  pub work : List ℕ

unfoldable pub lent_to : (result work : List ℕ) → Lent
lent_to result work = record { result = result; work = work }

-- the number, and the areas
unfoldable pub plan_folded : ℕ → (plan bits : List ℕ) → Lent → List ℕ → Entry Lent
plan_folded K plan bits l xs =
    let o = folder K plan bits l.result l.work in
    entered l (lent_to o.result o.work) o.number [] xs
