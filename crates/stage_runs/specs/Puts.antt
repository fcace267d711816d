-- Rules 8 and 9 over the columns: PHASE lists the needed waiting pins, STACK the realised ones, marked in MARK. pl is the stage, w the
-- work area. Assumes nothing.
use Rattle.std.specs.Prelude.{◌≡◌, ◌≢◌, Bool, List, [], ◌∷◌, map, ℕ, ◌+◌, ◌*◌, ◌/◌, ◌<◌, ◌≤◌, length, get_or, set, take, drop}
use Rattle.rules.specs.Cells.{row_at}
use Rattle.rules.specs.Traversal.{level_at, needed_runs}
use Rattle.rules.specs.Ending as rules
use Rattle.rules.specs.Lists.{In}
use Rattle.columns.specs.Fields.{WAITING, CELLS, STACK, PHASE, PLACE, MARK, TAIL, ONES, PINS, FILLED}
use Rattle.columns.specs.Area.{Frame}
use Rattle.columns.specs.Lists.{list, span, Holds, Marked, Placed}
use Rattle.stage_walk.specs.Stands.{Context}
use Rattle.stage_tree.specs.Bits.{Standing}
use Rattle.rules.specs.Inside.Counts as rules-counts
use Rattle.stage_runs.specs.declared.puts.Puts.{Puts}
use Rattle.stage_runs.specs.declared.puts.Written.{Written}
use Rattle.stage_sparse.specs.declared.Sparse.{Sparse}
use Rattle.stage_sparse.specs.Runs.{known}
use Rattle.stage_runs.specs.Laid.{noted}

-- only what placing counts, and the realised pins, changed
pub record Moved (m : ℕ) (w w' : List ℕ) : Type 0 where
  pub frame : Frame (CELLS ∷ STACK ∷ MARK ∷ TAIL ∷ []) m w w'
  pub rest : (j : ℕ) → 16 * m ≤ j → j ≢ 16 * m + ONES → j ≢ 16 * m + PINS → j ≢ 16 * m + FILLED → get_or w' j 0 ≡ get_or w j 0

-- what the numbers s stand for; the words are kept elsewhere
unfoldable pub put_of : ℕ → ℕ → Puts → List ℕ → List ℕ → List ℕ → rules.Put
put_of m k s pl w ws = record { plan = pl; left = span PHASE m s.next k w; real = list STACK m s.real w; words = ws }

-- k needed waiting pins, and what else holds while they are put
pub record Putting (C : Context) (m k : ℕ) (s : Puts) (gates pl w : List ℕ) : Type 0 where
  pub stands : Standing C m 1 gates pl w
  pub waiting : Placed WAITING PLACE m (length C.X.waiting) C.X.waiting w
  pub needed : Holds PHASE m k (list PHASE m k w) w
  pub low : (x : ℕ) → In x (list PHASE m k w) → In x C.X.waiting × (level_at C.X x ≤ 1)
  pub upto : s.next ≤ k
  pub real : Marked STACK MARK m s.real (list STACK m s.real w) w
  pub waits : (x : ℕ) → In x (list STACK m s.real w) → In x C.X.waiting

-- f is done
pub record Put (C : Context) (m k : ℕ) (f : rules.Put → rules.Put) (gates : List ℕ) (s : Puts) (pl w : List ℕ) (s' : Puts) (pl' w' : List ℕ) : Type 0 where
  pub now : Putting C m k s' gates pl' w'
  pub moved : Moved m w w'
  pub size : length pl' ≡ length pl
  pub is : (ws : List ℕ) → f (put_of m k s pl w ws) ≡ put_of m k s' pl' w' ws

pub record CellAt (C : Context) (m half k p : ℕ) (s : Puts) (gates pl w : List ℕ) : Type 0 where
  pub now : Putting C m k s gates pl w
  pub row : half ≡ row_at C.X.K 1
  pub from : half ≤ p
  pub to : p < half + half

pub record RunAt (C : Context) (m half k a : ℕ) (s : Puts) (gates pl w : List ℕ) : Type 0 where
  pub now : Putting C m k s gates pl w
  pub row : half ≡ row_at C.X.K 1
  pub from : half ≤ a
  pub to : a + 32 ≤ half + half

-- ---- words

pub record NoteAt (at room : ℕ) (words : List ℕ) : Type 0 where
  pub fits : at + room ≤ length words

pub record Noted (at room j word : ℕ) (words words' : List ℕ) : Type 0 where
  pub within : j < room → words' ≡ set words (at + j) word
  pub past : room ≤ j → words' ≡ words

-- ---- a record and its word

pub record RecordAt (C : Context) (m half k at room start : ℕ) (s : Puts) (gates pl w words : List ℕ) : Type 0 where
  pub now : Putting C m k s gates pl w
  pub row : half ≡ row_at C.X.K 1
  pub inside : start + 32 ≤ half
  pub fits : at + room ≤ length words

pub record PutRecord (C : Context) (m half k at room j start : ℕ) (gates : List ℕ) (s : Puts) (pl w words : List ℕ) (s' : Puts) (pl' w' words' : List ℕ) : Type 0 where
  pub put : Put C m k (rules.put_cells C.X 32 (half + start)) gates s pl w s' pl' w'
  pub note : Noted at room j ((half + start) / 32) words words'

-- the words of some records
unfoldable pub words_of : ℕ → List rules.Sparse → List ℕ
words_of half rs = map (λ r. (r.start + half) / 32) rs

pub record WriteAt (C : Context) (m half k : ℕ) (at room : ℕ) (R : List Sparse) (gates pl w words : List ℕ) : Type 0 where
  pub now : Putting C m k (record { next = 0; real = 0 }) gates pl w
  pub row : half ≡ row_at C.X.K 1
  pub few : length R ≤ 128
  pub inside : rules-counts.Runs half (map known R)
  pub ruled : C.X.rule ≡ needed_runs
  pub fits : at + room ≤ length words

-- the first j records are done
pub record Writing (C : Context) (m half k : ℕ) (last : Bool) (at room : ℕ) (R : List Sparse) (gates pl w words : List ℕ) (t : Puts) (j : ℕ) (pl' w' words' : List ℕ) : Type 0 where
  pub upto : j ≤ length R
  pub now : Putting C m k t gates pl' w'
  pub moved : Moved m w w'
  pub size : length pl' ≡ length pl
  pub same : rules.put_runs C.X last (map known R) (put_of m k (record {
    next = 0;
    real = 0;
  }) pl w []) ≡ rules.put_runs C.X last (drop j (map known R)) (put_of m k t pl' w' (words_of half (take j (map known R))))
  pub wrote : words' ≡ noted at room (words_of half (take j (map known R))) words

pub record Wrote (C : Context) (m half k : ℕ) (last : Bool) (at room : ℕ) (R : List Sparse) (gates pl w words : List ℕ) (e : Written) (pl' w' words' : List ℕ) : Type 0 where
  pub upto : e.words ≤ length R
  pub now : Putting C m k e.puts gates pl' w'
  pub moved : Moved m w w'
  pub size : length pl' ≡ length pl
  pub is : rules.put_runs C.X last (map known R) (put_of m k (record { next = 0; real = 0 }) pl w []) ≡ put_of m k e.puts pl' w' (words_of half (take e.words (map known R)))
  pub wrote : words' ≡ noted at room (words_of half (take e.words (map known R))) words
