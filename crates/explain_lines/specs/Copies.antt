-- The notes of a stage, copied into the list as lines and cleared. Assumes nothing.
use Rattle.std.specs.Prelude.{ℕ, ◌+◌, ◌*◌, ◌≤◌, ◌<◌, ◌≡◌, List, [], ◌∷◌, length, get_or, set}
use Rattle.columns.specs.Area.{Room, Frame}
use Rattle.columns.specs.Fields.{TAIL}
use Rattle.stage_notes.specs.Notes.{NOTES, NOTED, notes, note_at, notes_down, Bare}
use Rattle.why_form.specs.Why.{back_lines}
use Rattle.explain_lines.specs.Lines.{put_lines}

-- only notes changed
pub record Kept (m : ℕ) (w w' : List ℕ) : Type 0 where
  pub frame : Frame (TAIL ∷ []) m w w'
  pub low : (j : ℕ) → j < NOTES → get_or w' (16 * m + j) 0 ≡ get_or w (16 * m + j) 0

-- ---- one level's note, behind n lines

pub record NoteAt (m h n : ℕ) (w : List ℕ) : Type 0 where
  pub area : Room m w
  pub high : h ≤ 13
  pub few : n < 4294967295

pub record Copied (m h stage n : ℕ) (w list : List ℕ) (r : ℕ) (w' list' : List ℕ) : Type 0 where
  pub count : r ≡ n + length (note_at h (notes m w))
  pub lines : list' ≡ put_lines n (back_lines stage (note_at h (notes m w))) list
  pub cleared : notes m w' ≡ set (notes m w) (4 * h + 3) 0
  pub kept : Kept m w w'

-- ---- all of them, from level 13 down to 2

pub record NotesAt (m n : ℕ) (w : List ℕ) : Type 0 where
  pub area : Room m w
  pub few : n < 4294967000

pub record AllCopied (m stage n : ℕ) (w list : List ℕ) (r : ℕ) (w' list' : List ℕ) : Type 0 where
  pub count : r ≡ n + length (notes_down 13 (notes m w))
  pub lines : list' ≡ put_lines n (back_lines stage (notes_down 13 (notes m w))) list
  pub bare : Bare 13 (notes m w')
  pub few : r ≤ n + 12
  pub kept : Kept m w w'

-- where the loop over the levels stands: those above h are done
pub record Copying (m stage n : ℕ) (w list : List ℕ) (h r : ℕ) (w' list' : List ℕ) : Type 0 where
  pub count : n + length (notes_down 13 (notes m w)) ≡ r + length (notes_down h (notes m w'))
  pub lines : put_lines n (back_lines stage (notes_down 13 (notes m w))) list ≡ put_lines r (back_lines stage (notes_down h (notes m w'))) list'
  pub above : (i : ℕ) → h < i → i ≤ 13 → get_or (notes m w') (4 * i + 3) 0 ≡ 0
  pub kept : Kept m w w'
  pub low : 1 ≤ h
  pub high : h ≤ 13
  pub few : r + h ≤ n + 13
