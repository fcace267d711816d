-- What all windows together find. Assumes nothing.
use Rattle.std.specs.Prelude.{ℕ, min, ◌+◌, ◌<◌, ◌≡◌, Bool, true, false, not, List, [], ◌∷◌, length}
use Rattle.rules.specs.Lists.{Found}
use Rattle.aiger_form.specs.Aag.{Header, Spot, is_cut, place_or, items, defined, first_again, first_bad}
use Rattle.aiger_form.specs.Windows.{window, first_bad_in}
use Rattle.aiger_text.specs.declared.passes.Sweep.{Sweep}
use Rattle.aiger_text.specs.Passes.{spots_at, lines_from, breadth, area, store_all, first_again_in, Behind}

-- the first bad line of a whole file, and of a cut one, whose uses are not judged
unfoldable pub judged_at : (whole : Bool) → List Spot → Found
judged_at true ss = first_bad (0 ∷ defined (items ss)) [] ss
judged_at false ss = first_again [] ss

unfoldable pub judged_in : (whole : Bool) → (ℕ → Bool) → List Spot → Found
judged_in true f ss = first_bad_in f (0 ∷ defined (items ss)) [] ss
judged_in false f ss = first_again_in f [] ss

-- before
pub record Begun (start : ℕ) (bytes map w : List ℕ) : Type 0 where
  pub behind : Behind start bytes
  pub wide : length map ≡ breadth
  pub room : length w ≡ area

-- the first bad line of a window, and whether the file is cut
pub record Place (H : Header) (start lo : ℕ) (bytes map map' w w' : List ℕ) (r : Sweep) : Type 0 where
  pub len : length map' ≡ length map
  pub cut : r.cut ≡ is_cut H bytes (lines_from bytes start)
  pub first : r.first ≡ min (length bytes) (place_or (length bytes) (judged_in (not (is_cut H bytes (lines_from bytes start))) (window lo (lo + breadth)) (spots_at H 0 (lines_from bytes start))))
  pub stored : w' ≡ store_all (spots_at H 0 (lines_from bytes start)) w

-- the first of all
pub record First (H : Header) (start : ℕ) (bytes map map' w w' : List ℕ) (r : Sweep) : Type 0 where
  pub len : length map' ≡ length map
  pub size : length w' ≡ length w
  pub cut : r.cut ≡ is_cut H bytes (lines_from bytes start)
  pub first : r.first ≡ place_or (length bytes) (judged_at (not (is_cut H bytes (lines_from bytes start))) (spots_at H 0 (lines_from bytes start)))
  pub stored : H.variables < 65536 → w' ≡ store_all (spots_at H 0 (lines_from bytes start)) w
