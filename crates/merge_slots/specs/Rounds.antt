-- Rounds of merging by slots: keys, bars, what a round gives from here on, and how far the slots are merged. Assumes nothing.
use Rattle.std.specs.Prelude.{ℕ, ◌+◌, ◌-◌, ◌<◌, ◌≤◌, Bool, not, ◌&&◌, List, [], ◌∷◌, ◌≡◌, take}
use Rattle.rules.specs.Lists.{mem}
use Rattle.rules.specs.Merge.{Common, Part, add_part, add_rank, rank_of, Round, attempt, Result, merging}
use Rattle.merge_slots.specs.Slots.{own, gathered, listed}

-- slot s has the keys of its union with p
pub record Ready (J : Common) (p : Part) (P : ℕ → Part) (n : ℕ) (o : List ℕ) (s : ℕ) : Type 0 where
  pub grows : own 5 n o s ≡ (rank_of J p (P s)).grows
  pub union : own 6 n o s ≡ (rank_of J p (P s)).union

-- of the k slots from i on those are open that are full and not barred
pub record Bars (full opens : ℕ → Bool) (k i : ℕ) (barred : List ℕ) : Type 0 where
  pub is : (s : ℕ) → i ≤ s → s < i + k → opens s ≡ full s && not (mem s barred)

-- what a round gives from here on, with r ranks left, of the k slots from i on
unfoldable pub goes : Common → Part → (ℕ → Part) → ℕ → ℕ → (ℕ → Bool) → ℕ → List ℕ → ℕ → Round
goes J p P k i opens r barred t = attempt J p (take r (gathered add_rank (λ s. rank_of J p (P s)) opens k i)) barred t

-- some partitions put before sorted ones
unfoldable pub onto : List Part → List Part → List Part
onto [] rs = rs
onto (p ∷ ps) rs = add_part p (onto ps rs)

unfoldable pub after : List Part → Result → Result
after ps r = record { parts = onto ps r.parts; trials = r.trials }

-- the slots before i are merged, with `left` rounds for what is left
pub record Merging (J : Common) (n : ℕ) (whole : Result) (P : ℕ → Part) (f : ℕ → Bool) (i left t : ℕ) : Type 0 where
  pub upto : i ≤ n
  pub enough : n ≤ i + left
  pub same : whole ≡ after (listed P f i 0) (merging J left (listed P f (n - i) i) t)
