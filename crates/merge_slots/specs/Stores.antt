-- A slot's own numbers, stored. Assumes nothing.
use Rattle.std.specs.Prelude.{ℕ, ◌+◌, ◌-◌, ◌*◌, ◌<◌, ◌≤◌, max, List, ◌≢◌, ◌≡◌, length, get_or}
use Rattle.merge_slots.specs.Slots.{own, free, but}
use Rattle.merge_slots.specs.Moves.{OwnAt}

pub record BuiltAt (n s size stages words cells : ℕ) (o : List ℕ) : Type 0 where
  pub area : OwnAt n o
  pub inside : s < n
  pub size_fits : size < 4294967296
  pub stages_fit : stages < 4294967296
  pub words_fit : words < 4294967296
  pub cells_fit : cells < 4294967296

pub record Stored (n s size stages words cells : ℕ) (o o' : List ℕ) : Type 0 where
  pub long : length o' ≡ length o
  pub size_is : own 0 n o' s ≡ size
  pub stages_are : own 1 n o' s ≡ stages
  pub words_are : own 2 n o' s ≡ words
  pub cells_are : own 3 n o' s ≡ cells
  pub others : (x : ℕ) → x ≢ 0 * n + s → x ≢ 1 * n + s → x ≢ 2 * n + s → x ≢ 3 * n + s → get_or o' x 0 ≡ get_or o x 0

pub record KeyAt (n i s union : ℕ) (o : List ℕ) : Type 0 where
  pub area : OwnAt n o
  pub first : i < n
  pub second : s < n
  pub fits : union < 4294967296

pub record Ranked (n i s union : ℕ) (o o' : List ℕ) : Type 0 where
  pub long : length o' ≡ length o
  pub grows : own 5 n o' s ≡ union - max (own 0 n o i) (own 0 n o s)
  pub union_is : own 6 n o' s ≡ union
  pub others : (x : ℕ) → x ≢ 5 * n + s → x ≢ 6 * n + s → get_or o' x 0 ≡ get_or o x 0

pub record UnionAt (n i j stages words cells : ℕ) (o : List ℕ) : Type 0 where
  pub area : OwnAt n o
  pub first : i < n
  pub second : j < n
  pub stages_fit : stages < 4294967296
  pub words_fit : words < 4294967296
  pub cells_fit : cells < 4294967296

pub record Joined (n i j stages words cells : ℕ) (o o' : List ℕ) : Type 0 where
  pub long : length o' ≡ length o
  pub size_is : own 0 n o' i ≡ own 6 n o j
  pub stages_are : own 1 n o' i ≡ stages
  pub words_are : own 2 n o' i ≡ words
  pub cells_are : own 3 n o' i ≡ cells
  pub bars : (s : ℕ) → s < n → free n o' s ≡ but j (free n o) s
  pub others : (f s : ℕ) → f < 4 → s < n → s ≢ i → own f n o' s ≡ own f n o s
  pub keys : (x : ℕ) → 5 * n ≤ x → get_or o' x 0 ≡ get_or o x 0
