-- The bits of bytes, and the number in some of them. Assumes nothing.
use Rattle.std.specs.Prelude.{◌≡◌, List, ℕ, ◌+◌, ◌*◌, ◌^◌, ◌<◌, ◌≤◌, length, take, drop}
use Rattle.rules.specs.Lists.{gather}
use Rattle.rules.specs.Job.{bits_of, number_of}

unfoldable pub bits_in : List ℕ → List ℕ
bits_in xs = gather (bits_of 8) xs

pub record FieldAt (at w : ℕ) (xs : List ℕ) : Type 0 where
  pub inside : at + w ≤ 8 * length xs
  pub small : length xs ≤ 2 ^ 40
  pub short : w ≤ 17

pub record FieldIs (at w : ℕ) (xs : List ℕ) (n : ℕ) : Type 0 where
  pub is : n ≡ number_of (take w (drop at (bits_in xs))) 0
  pub below : n < 2 ^ w
