-- The pins taken back as the program's loop notes them: at most one a level, four numbers a level behind the columns. Assumes nothing.
use Rattle.std.specs.Prelude.{ℕ, zero, suc, ◌+◌, ◌*◌, ◌<◌, ◌≤◌, min, ◌≡◌, true, false, List, [], ◌∷◌, ◌++◌, map, length, get_or, set}
use Rattle.rules.specs.Lists.{mem, count, nothing, found}
use Rattle.rules.specs.Cells.{filled, row}
use Rattle.rules.specs.Traversal.{Setting, level_at, greatest}
use Rattle.rules.specs.Placing.{tree_of, cell_at, placed}
use Rattle.rules.specs.Inside.Lean.{blank, candidates, wanted, recount, sweep}
use Rattle.columns.specs.Area.{Room, Frame, tab}
use Rattle.columns.specs.Fields.{ONES, PINS, TAIL}
use Rattle.stage_notes.specs.Taken.{Taken}

-- ---- by the loop that the program runs

-- the needed pins were counted just then
unfoldable pub weighed : Setting → ℕ → List ℕ → Taken
weighed X n pl = record { pin = n; needed = length (wanted X pl); ones = count filled (row X.K 1 pl); pins = length (tree_of X pl) }

-- one level, down its candidates: none or one
unfoldable pub sweep_back : Setting → ℕ → List ℕ → ℕ → List ℕ → List Taken
sweep_back X h [] b pl = []
sweep_back X h (n ∷ ns) b pl =
    elim (mem n (tree_of X pl)) [
      | true ↦ sweep_back X h ns b pl
      | false ↦ elim (cell_at X h pl) [
        | nothing ↦ []
        | found p ↦ elim (recount X b (placed X h p n pl)) [
          | nothing ↦ weighed X n (placed X h p n pl) ∷ []
          | found c ↦ sweep_back X h ns c (placed X h p n pl)
        ]
      ]
    ]

-- from level h down to 2
unfoldable pub lean_back : Setting → ℕ → ℕ → List ℕ → List Taken
lean_back X zero b pl = []
lean_back X (suc zero) b pl = []
lean_back X (suc (suc l)) b pl =
    let s = sweep X (suc (suc l)) (candidates X (suc (suc l))) b pl in
    sweep_back X (suc (suc l)) (candidates X (suc (suc l))) b pl ++ lean_back X (suc l) s.most s.plan

unfoldable pub lean_backs : Setting → List Taken
lean_backs X = lean_back X (min (greatest (map (level_at X) X.order) 0) X.K) (length (wanted X (blank X))) (blank X)

-- ---- the notes

-- the tail's numbers from here on, four a level from level 0 on
abbrev pub NOTES : ℕ
NOTES = 260

abbrev pub NOTED : ℕ
NOTED = 56

unfoldable pub notes : ℕ → List ℕ → List ℕ
notes m w = tab (λ j. get_or w (16 * m + (NOTES + j)) 0) NOTED

-- pins noted at level h
unfoldable pub note_in : ℕ → List Taken → List ℕ → List ℕ
note_in h [] ns = ns
note_in h (t ∷ ts) ns = note_in h ts (set (set (set (set ns (4 * h) t.pin) (4 * h + 1) t.needed) (4 * h + 2) t.ones) (4 * h + 3) t.pins)

-- the notes when the loop has gone from level h down to 2
unfoldable pub lean_notes : Setting → ℕ → ℕ → List ℕ → List ℕ → List ℕ
lean_notes X zero b pl ns = ns
lean_notes X (suc zero) b pl ns = ns
lean_notes X (suc (suc l)) b pl ns =
    let s = sweep X (suc (suc l)) (candidates X (suc (suc l))) b pl in
    lean_notes X (suc l) s.most s.plan (note_in (suc (suc l)) (sweep_back X (suc (suc l)) (candidates X (suc (suc l))) b pl) ns)

-- and with the candidates cs of level l + 1 still to try
unfoldable pub onward_notes : Setting → ℕ → List ℕ → ℕ → List ℕ → List ℕ → List ℕ
onward_notes X l cs b pl ns =
    let s = sweep X (suc l) cs b pl in
    lean_notes X l s.most s.plan (note_in (suc l) (sweep_back X (suc l) cs b pl) ns)

-- the notes of a stage
unfoldable pub stage_notes : Setting → List ℕ → List ℕ
stage_notes X ns = lean_notes X (min (greatest (map (level_at X) X.order) 0) X.K) (length (wanted X (blank X))) (blank X) ns

-- ---- the notes read: while a pin is placed there is a pin above level 0, so that 0 is no note

unfoldable pub note_of : (pin needed ones pins : ℕ) → List Taken
note_of p n o zero = []
note_of p n o (suc d) = record { pin = p; needed = n; ones = o; pins = suc d } ∷ []

unfoldable pub note_at : ℕ → List ℕ → List Taken
note_at h ns = note_of (get_or ns (4 * h) 0) (get_or ns (4 * h + 1) 0) (get_or ns (4 * h + 2) 0) (get_or ns (4 * h + 3) 0)

-- from level h down to 2
unfoldable pub notes_down : ℕ → List ℕ → List Taken
notes_down zero ns = []
notes_down (suc zero) ns = []
notes_down (suc (suc l)) ns = note_at (suc (suc l)) ns ++ notes_down (suc l) ns

-- no level from 2 to h has a note
pub record Bare (h : ℕ) (ns : List ℕ) : Type 0 where
  pub none : (i : ℕ) → 2 ≤ i → i ≤ h → get_or ns (4 * i + 3) 0 ≡ 0

-- ---- one note in the work area

pub record NoteAt (m h c : ℕ) (w : List ℕ) : Type 0 where
  pub area : Room m w
  pub level : h ≤ 13
  pub few : c < 4294967296

-- only the notes of one level changed
pub record Noted (m h : ℕ) (ts : List Taken) (w w' : List ℕ) : Type 0 where
  pub frame : Frame (TAIL ∷ []) m w w'
  pub low : (j : ℕ) → j < NOTES → get_or w' (16 * m + j) 0 ≡ get_or w (16 * m + j) 0
  pub past : (j : ℕ) → NOTES + NOTED ≤ j → get_or w' (16 * m + j) 0 ≡ get_or w (16 * m + j) 0
  pub is : notes m w' ≡ note_in h ts (notes m w)

-- the pin p with c needed pins and the counts that stand in the tail
unfoldable pub telling : ℕ → ℕ → ℕ → List ℕ → Taken
telling m p c w = record { pin = p; needed = c; ones = get_or w (16 * m + ONES) 0; pins = get_or w (16 * m + PINS) 0 }
