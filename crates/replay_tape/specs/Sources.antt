-- One cell of a stage, by the slots of the stage. Assumes nothing.
use Rattle.std.specs.Prelude.{ℕ, ◌+◌, ◌*◌, ◌^◌, ◌≤◌, ◌<◌, ◌≡◌, List, length, get_or, set}
use Rattle.rules.specs.Cells.{first_lower, second_lower}
use Rattle.rules.specs.Graph.{leaf, gate}
use Rattle.replay_form.specs.Tape as tape
use Rattle.replay_form.specs.Tape.{old, new, source_at}
use Rattle.replay_tape.specs.declared.sources.Source.{Source}
use Rattle.replay_tape.specs.declared.sources.Source.TheVariants.{Old, New}

-- the slots that these numbers by pin load; a pin past them loads slot 0
unfoldable pub load_in : List ℕ → ℕ → ℕ
load_in l n = get_or l n 0

-- what the code's source stands for
unfoldable pub source_for : Source → tape.Source
source_for (Old s) = old s
source_for (New a b) = new (gate a b)

-- a cell and its lower cells are in the stage, and the slots of higher positions are small
pub record AboveAt (cells w : List ℕ) (p : ℕ) : Type 0 where
  pub here : p < length cells
  pub above : p < first_lower p
  pub first : first_lower p < length cells
  pub beyond : p < second_lower p
  pub second : second_lower p < length cells
  pub few : length cells ≤ 16384
  pub same : length w ≡ length cells
  pub small : (q : ℕ) → p < q → q < length cells → get_or w q 0 < 2147483648

-- height and loads are no values of the program, so this is said of every one that fits
pub record SourceIs (cells w : List ℕ) (p : ℕ) (r : tape.Source) : Type 0 where
  pub all : (K : ℕ) (load : ℕ → ℕ) → p < 2 ^ K → r ≡ source_at K cells load (λ q. get_or w q 0) p

-- what a source puts: the slot, the entry and the number of entries
unfoldable pub put_slot : ℕ → ℕ → tape.Source → ℕ
put_slot pins e (old s) = s
put_slot pins e (new x) = pins + e

-- the entry
unfoldable pub put_tape : List ℕ → ℕ → tape.Source → List ℕ
put_tape t e (old s) = t
put_tape t e (new leaf) = t
put_tape t e (new (gate a b)) = set (set t (2 * e) a) (2 * e + 1) b

-- the number of entries
unfoldable pub put_count : ℕ → tape.Source → ℕ
put_count e (old s) = e
put_count e (new x) = e + 1

-- there is room for the slot and an entry
pub record PutAt (w t : List ℕ) (p pins e : ℕ) : Type 0 where
  pub here : p < length w
  pub room : 2 * e + 2 ≤ length t
  pub fits : pins + e < 4294967296

-- a source is put
pub record Puts (w t : List ℕ) (p pins e : ℕ) (x : tape.Source) (w' t' : List ℕ) (e' : ℕ) : Type 0 where
  pub slot : w' ≡ set w p (put_slot pins e x)
  pub entry : t' ≡ put_tape t e x
  pub count : e' ≡ put_count e x
