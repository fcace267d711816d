-- Readable records. Assumes nothing.
use Prim.Native.Nat.{ℕ}
use mathlib.Core.List.{List}
use mathlib.Core.Path.{◌≡◌}
use Rattle.rules.specs.Records.{Group, groups, read, groups_of}

-- the groups of readable records are those that are read
pub groups_of_lem : (xs : List ℕ) {gs : List Group} → read xs ≡ groups gs → groups_of xs ≡ gs
unfolding groups_of
groups_of_lem xs e = rw (e, groups_of)
