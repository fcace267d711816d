-- Bits put into bytes. Assumes nothing.
use Rattle.std.specs.Prelude.{◌≡◌, List, ℕ, ◌+◌, ◌^◌, ◌<◌, ◌≤◌, length, set}
use Rattle.std.proofs.lemmas.List.Edits.{sets}
use Rattle.rules.specs.Job.{bits_of}
use Rattle.bits.specs.Fields.{bits_in}

pub record BitAt (x i b : ℕ) : Type 0 where
  pub byte : x < 256
  pub inside : i < 8
  pub bit : b < 2

pub record WithBit (x i b y : ℕ) : Type 0 where
  pub byte : y < 256
  pub is : bits_of 8 y ≡ set (bits_of 8 x) i b

pub record FieldTo (at w : ℕ) : Type 0 where
  pub near : at + w < 2 ^ 40
  pub short : w ≤ 17

-- the bits stand from one index on, as far as the bytes reach; the other index is behind them
pub record Put (bs xs xs' : List ℕ) (at at' : ℕ) : Type 0 where
  pub len : length xs' ≡ length xs
  pub is : bits_in xs' ≡ sets (bits_in xs) at bs
  pub behind : at' ≡ at + length bs
