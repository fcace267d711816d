-- The merged partitions laid out: what is found and left. Assumes nothing.
use Rattle.std.specs.Prelude.{ℕ, ◌+◌, ◌*◌, ◌<◌, ◌≤◌, List, [], map, ◌≡◌, length, get_or, take, drop}
use Rattle.rules.specs.Lists.{sum, padded}
use Rattle.rules.specs.Merge.{Part, add_part, split_by, indices_of, lengths_of, stages_in, words_for, cells_for, joined}
use Rattle.merge_slots.specs.Slots.{gathered, own, full, held}
use Rattle.merge_slots.specs.Sorts.{order}
use Rattle.merge_layout.specs.declared.Totals.{Totals}

pub record OrderAt (ls o : List ℕ) : Type 0 where
  pub few : length ls ≤ 1024
  pub room : length o ≡ 8 * length ls
  pub small : (s : ℕ) → s < length ls → own 1 (length ls) o s ≤ 4294967295

pub record Ordered (ls o o' : List ℕ) (r : ℕ) : Type 0 where
  pub size : length o' ≡ length o
  pub kept : (x : ℕ) → x < 4 * length ls → get_or o' x 0 ≡ get_or o x 0
  pub few : r ≤ length ls
  pub slots : (k : ℕ) → k < r → own 7 (length ls) o' k < length ls
  pub is : (P : ℕ → Part) → ((s : ℕ) → s < length ls → (P s).stages ≡ own 1 (length ls) o s) → gathered add_part P (full ls) (length ls) 0 ≡ map P (order (length ls) o' r)

pub record GatherAt (xs ls ord : List ℕ) (k : ℕ) (to : List ℕ) : Type 0 where
  pub all : sum ls ≡ length xs
  pub few : length xs < 4294967296
  pub inside : k ≤ length ord
  pub slots : (i : ℕ) → i < k → get_or ord i 0 < length ls
  pub fits : sum (map (λ s. get_or ls s 0) (take k ord)) ≡ length to

pub record Gathered (xs ls ord : List ℕ) (k : ℕ) (to : List ℕ) : Type 0 where
  pub is : to ≡ joined (map (λ s. get_or (split_by ls xs) s []) (take k ord))

pub record TableAt (ls : List ℕ) (k : ℕ) (o : List ℕ) : Type 0 where
  pub few : length ls ≤ 1024
  pub room : length o ≡ 8 * length ls
  pub inside : k ≤ length ls
  pub slots : (i : ℕ) → i < k → own 7 (length ls) o i < length ls

-- the first k numbers of columns 4 and 5 are 0
pub record Cleared (n k : ℕ) (o o' : List ℕ) : Type 0 where
  pub size : length o' ≡ length o
  pub below : (x : ℕ) → x < 5 * n → get_or o' x 0 ≡ get_or o x 0
  pub above : (x : ℕ) → 7 * n ≤ x → get_or o' x 0 ≡ get_or o x 0
  pub fifth : (i : ℕ) → i < k → own 5 n o' i ≡ 0
  pub sixth : (i : ℕ) → i < k → own 6 n o' i ≡ 0

pub record FillAt (ls : List ℕ) (k : ℕ) (o : List ℕ) : Type 0 where
  pub table : TableAt ls k o
  pub fifth : (i : ℕ) → i < length ls → own 5 (length ls) o i ≡ 0
  pub sixth : (i : ℕ) → i < length ls → own 6 (length ls) o i ≡ 0

pub record Tabled (ls : List ℕ) (k : ℕ) (o o' : List ℕ) : Type 0 where
  pub size : length o' ≡ length o
  pub below : (x : ℕ) → x < 5 * length ls → get_or o' x 0 ≡ get_or o x 0
  pub above : (x : ℕ) → 7 * length ls ≤ x → get_or o' x 0 ≡ get_or o x 0
  pub lengths : (i : ℕ) → i < k → own 5 (length ls) o' i ≡ get_or ls (own 7 (length ls) o i) 0
  pub stages : (i : ℕ) → i < k → own 6 (length ls) o' i ≡ own 1 (length ls) o (own 7 (length ls) o i)
  pub no_lengths : (i : ℕ) → k ≤ i → i < length ls → own 5 (length ls) o' i ≡ 0
  pub no_stages : (i : ℕ) → k ≤ i → i < length ls → own 6 (length ls) o' i ≡ 0

pub record TotalAt (n f k : ℕ) (o : List ℕ) : Type 0 where
  pub few : n ≤ 1024
  pub room : length o ≡ 8 * n
  pub column : f < 8
  pub inside : k ≤ n
  pub slots : (i : ℕ) → i < k → own 7 n o i < n

-- the sum of a column along the order
unfoldable pub sums : ℕ → ℕ → List ℕ → ℕ → ℕ
sums n f o k = sum (map (λ s. own f n o s) (order n o k))

-- ---- the lists

pub record WriteAt (ls st : List ℕ) (k : ℕ) (o : List ℕ) : Type 0 where
  pub table : TableAt ls k o
  pub same : length st ≡ length ls

-- what each slot along the order gives, 0 behind them
unfoldable pub column : ℕ → (ℕ → ℕ) → List ℕ → List ℕ
column n g ks = padded n 0 (map g ks)

pub record Written (ls : List ℕ) (k : ℕ) (o ls' st' : List ℕ) (r : Totals) : Type 0 where
  pub lengths : ls' ≡ column (length ls) (λ s. get_or ls s 0) (order (length ls) o k)
  pub stages : st' ≡ column (length ls) (λ s. own 1 (length ls) o s) (order (length ls) o k)
  pub partitions : r.partitions ≡ k
  pub all_stages : r.stages ≡ sums (length ls) 1 o k
  pub all_words : r.words ≡ sums (length ls) 2 o k
  pub all_cells : r.cells ≡ sums (length ls) 3 o k

-- ---- the whole

-- the slots' own numbers
unfoldable pub owned : ℕ → ℕ → List ℕ → List ℕ
owned base n w = take (8 * n) (drop base w)

pub record LayAt (spare base : ℕ) (xs ls st w : List ℕ) : Type 0 where
  pub few : length ls ≤ 1024
  pub same : length st ≡ length ls
  pub all : sum ls ≡ length xs
  pub short : length xs < 4294967296
  pub before : spare + length xs ≤ base
  pub room : base + 8 * length ls ≤ length w
  pub small : (s : ℕ) → s < length ls → own 1 (length ls) (owned base (length ls) w) s ≤ 4294967295

-- of the work area only the spare part and the slots' own numbers changed
pub record Elsewhere (spare base : ℕ) (xs ls w w' : List ℕ) : Type 0 where
  pub size : length w' ≡ length w
  pub below : (x : ℕ) → x < spare → get_or w' x 0 ≡ get_or w x 0
  pub between : (x : ℕ) → spare + length xs ≤ x → x < base → get_or w' x 0 ≡ get_or w x 0
  pub behind : (x : ℕ) → base + 8 * length ls ≤ x → get_or w' x 0 ≡ get_or w x 0

pub record Arranged (spare base : ℕ) (xs ls st w xs' st' w' : List ℕ) (r : ℕ) : Type 0 where
  pub order_is : Ordered ls (owned base (length ls) w) (owned base (length ls) w') r
  pub groups : xs' ≡ joined (map (λ s. get_or (split_by ls xs) s []) (order (length ls) (owned base (length ls) w') r))
  pub same : length st' ≡ length st
  pub elsewhere : Elsewhere spare base xs ls w w'

-- the partitions sorted
unfoldable pub sorted : ℕ → (xs ls w : List ℕ) → List Part
sorted base xs ls w = gathered add_part (held (length ls) ls xs (owned base (length ls) w)) (full ls) (length ls) 0

pub record Laid (spare base : ℕ) (xs ls w xs' ls' st' w' : List ℕ) (r : Totals) : Type 0 where
  pub indices : xs' ≡ indices_of (sorted base xs ls w)
  pub lengths : ls' ≡ padded (length ls) 0 (lengths_of (sorted base xs ls w))
  pub stages : st' ≡ padded (length ls) 0 (stages_in (sorted base xs ls w))
  pub partitions : r.partitions ≡ length (sorted base xs ls w)
  pub all_stages : r.stages ≡ sum (stages_in (sorted base xs ls w))
  pub all_words : r.words ≡ sum (words_for (sorted base xs ls w))
  pub all_cells : r.cells ≡ sum (cells_for (sorted base xs ls w))
  pub elsewhere : Elsewhere spare base xs ls w w'
