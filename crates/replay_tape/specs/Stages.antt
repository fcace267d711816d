-- The tape of one stage: what is asked and left of its slots and of the entries. Assumes nothing.
use Rattle.std.specs.Prelude.{ℕ, ◌+◌, ◌*◌, ◌^◌, ◌≤◌, ◌<◌, ◌≡◌, List, length, get_or, drop}
use Rattle.rules.specs.Cells.{empty}
use Rattle.rules.specs.Graph.{Node}
use Rattle.rules.specs.Coded.{cell_pin}
use Rattle.fold_stage.specs.Bits.{UpAt}
use Rattle.replay_form.specs.Tape.{Made, scan, stage_made}
use Rattle.replay_tape.specs.Running.{entries_of, Below}
use Rattle.replay_tape.specs.Sources.{load_in}

-- slots and entries together
abbrev pub made_of : List ℕ → List Node → Made
made_of s t = record { slots = s; tape = t }

-- level 0 is loaded
pub record RowLoaded (K : ℕ) (cells l w w' : List ℕ) : Type 0 where
  pub len : length w' ≡ length w
  pub row : (q : ℕ) → 2 ^ K ≤ q → q < 2 ^ (K + 1) → get_or w' q 0 ≡ load_in l (cell_pin (get_or cells q empty))

-- room for the slots and for an entry a cell above level 0; the slots of level 0 are there
pub record AndAt (K m e : ℕ) (cells w t : List ℕ) : Type 0 where
  pub up : UpAt K cells w
  pub space : 2 * (e + 2 ^ K) ≤ length t
  pub fits : m + (e + 2 ^ K) ≤ 2147483648
  pub one : 1 ≤ m
  pub small : (q : ℕ) → 2 ^ K ≤ q → q < 2 ^ (K + 1) → get_or w q 0 < m + e
  pub below : Below m e t

-- what the stage loads is no value of the program, so this is said of every load that fits
pub record Ands (K m : ℕ) (cells : List ℕ) (e : ℕ) (w t w' t' : List ℕ) (e' : ℕ) : Type 0 where
  pub wlen : length w' ≡ length w
  pub tlen : length t' ≡ length t
  pub more : e ≤ e'
  pub count : e' ≤ e + 2 ^ K
  pub all : (load : ℕ → ℕ) → scan (2 ^ K) m K cells load (entries_of e t) ≡ made_of (drop (2 ^ K) w) (entries_of e t) →
      stage_made m K cells load (entries_of e t) ≡ made_of w' (entries_of e' t')
  pub small : (q : ℕ) → q < 2 ^ (K + 1) → get_or w' q 0 < m + e'
  pub below : Below m e' t'

-- a whole stage, whose loads are slots
pub record StageIn (K m e : ℕ) (cells l w t : List ℕ) : Type 0 where
  pub up : UpAt K cells w
  pub pins : length l ≡ m
  pub few : m ≤ 65536
  pub space : 2 * (e + 2 ^ K) ≤ length t
  pub fits : m + (e + 2 ^ K) ≤ 2147483648
  pub one : 1 ≤ m
  pub small : (n : ℕ) → n < m → get_or l n 0 < m + e
  pub below : Below m e t

-- a whole stage is made
pub record StageOut (K m : ℕ) (cells l : List ℕ) (e : ℕ) (w t w' t' : List ℕ) (e' : ℕ) : Type 0 where
  pub wlen : length w' ≡ length w
  pub tlen : length t' ≡ length t
  pub more : e ≤ e'
  pub count : e' ≤ e + 2 ^ K
  pub made : stage_made m K cells (load_in l) (entries_of e t) ≡ made_of w' (entries_of e' t')
  pub small : (q : ℕ) → q < 2 ^ (K + 1) → get_or w' q 0 < m + e'
  pub below : Below m e' t'
