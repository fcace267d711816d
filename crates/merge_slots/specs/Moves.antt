-- What the functions on slots find and leave. Assumes nothing.
use Rattle.std.specs.Prelude.{ℕ, ◌+◌, ◌-◌, ◌*◌, ◌/◌, ◌<◌, ◌≤◌, max, Option, Some, None, Bool, true, false, List, [], ◌++◌, ◌≡◌, length, get_or, set, take, drop}
use Rattle.rules.specs.Lists.{Found, nothing, found, sum, every, laid_over}
use Rattle.rules.specs.Merge.{split_by, begun}
use Rattle.merge_slots.specs.Slots.{best, better, ahead, free, full}

pub record StartAt (ls : List ℕ) (s : ℕ) : Type 0 where
  pub inside : s ≤ length ls
  pub few : sum ls < 4294967296

pub record TurnAt (xs spare : List ℕ) (k : ℕ) : Type 0 where
  pub inside : k ≤ length xs
  pub room : length xs ≤ length spare

pub record Turned (xs spare : List ℕ) (k : ℕ) (xs' spare' : List ℕ) : Type 0 where
  pub is : xs' ≡ drop k xs ++ take k xs
  pub passed : spare' ≡ laid_over xs spare

-- ---- slot i takes the groups of a later slot j

pub record TakeAt (xs ls spare : List ℕ) (i j : ℕ) : Type 0 where
  pub order : i < j
  pub inside : j < length ls
  pub all : sum ls ≡ length xs
  pub few : length xs < 4294967296
  pub room : length xs ≤ length spare

pub record Taken (i j : ℕ) (xs ls xs' ls' : List ℕ) : Type 0 where
  pub lengths : ls' ≡ set (set ls i (get_or ls i 0 + get_or ls j 0)) j 0
  pub groups : split_by ls' xs' ≡ set (set (split_by ls xs) i (get_or (split_by ls xs) i [] ++ get_or (split_by ls xs) j [])) j []
  pub all : sum ls' ≡ length xs'
  pub same : length xs' ≡ length xs
  pub named : (f : ℕ → Bool) → every f xs ≡ true → every f xs' ≡ true

-- what changes places: the groups behind slot i, up to slot j's
unfoldable pub moved : (i j : ℕ) → (xs ls : List ℕ) → List ℕ
moved i j xs ls = take (sum (take (j + 1) ls) - sum (take (i + 1) ls)) (drop (sum (take (i + 1) ls)) xs)

-- they pass through the spare numbers, and stay there as they were
pub record TakesIn (i j : ℕ) (xs ls spare xs' ls' spare' : List ℕ) : Type 0 where
  pub taken : Taken i j xs ls xs' ls'
  pub passed : spare' ≡ laid_over (moved i j xs ls) spare

-- ---- bars

pub record OpenAt (ls o : List ℕ) : Type 0 where
  pub few : length ls ≤ 1024
  pub room : length o ≡ 8 * length ls

-- only column f of n slots changed
pub record Only (f n : ℕ) (o o' : List ℕ) : Type 0 where
  pub size : length o' ≡ length o
  pub below : (x : ℕ) → x < f * n → get_or o' x 0 ≡ get_or o x 0
  pub above : (x : ℕ) → f * n + n ≤ x → get_or o' x 0 ≡ get_or o x 0

pub record Opened (ls o o' : List ℕ) : Type 0 where
  pub only : Only 4 (length ls) o o'
  pub bars : (s : ℕ) → s < length ls → free (length ls) o' s ≡ full ls s

-- ---- the best slot

pub record OwnAt (n : ℕ) (o : List ℕ) : Type 0 where
  pub few : n ≤ 1024
  pub room : length o ≡ 8 * n

pub record AheadAt (n b s : ℕ) (o : List ℕ) : Type 0 where
  pub own : OwnAt n o
  pub first : b < n
  pub second : s < n

-- what is told of the best slot, as the rules have it
unfoldable pub seen : Option ℕ → Found
seen None = nothing
seen (Some b) = found b

pub record BetterAt (n : ℕ) (b : Option ℕ) (s : ℕ) (o : List ℕ) : Type 0 where
  pub own : OwnAt n o
  pub behind : (t : ℕ) → b ≡ Some t → t < n
  pub inside : s < n

pub record Better (n : ℕ) (b : Option ℕ) (s : ℕ) (o : List ℕ) (r : Option ℕ) : Type 0 where
  pub inside : (t : ℕ) → r ≡ Some t → t < n
  pub is : seen r ≡ elim (free n o s) [ true ↦ better (ahead n o) s (seen b) | false ↦ seen b ]

pub record BestAt (n from : ℕ) (o : List ℕ) : Type 0 where
  pub own : OwnAt n o
  pub upto : from ≤ n

pub record Picked (n from : ℕ) (o : List ℕ) (r : Option ℕ) : Type 0 where
  pub inside : (t : ℕ) → r ≡ Some t → t < n
  pub is : best (ahead n o) (free n o) (n - from) from ≡ seen r

-- ---- the begun blocks

pub record Begins (n r : ℕ) : Type 0 where
  pub is : r ≡ begun n (max (n / 8) 20) 0 4
  pub few : r ≤ 260
