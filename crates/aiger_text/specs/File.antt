-- A file judged: a reset, and the verdict. Assumes nothing.
use Rattle.std.specs.Prelude.{ℕ, ◌<◌, ◌≡◌, true, false, Option, Result, Ok, Err, MatchOption, IfOk, List, [], length}
use Rattle.rules.specs.Lists.{nothing, found}
use Rattle.aiger_form.specs.Aag.{Header, Spot, is_cut, items, place_or, first_again, first_reset, File?, malformed, bad_reset, file, judged, file_of}
use Rattle.aiger_rows.specs.Rows.{head_of}
use Rattle.refusals.specs.declared.Refusal.TheVariants.{Malformed, BadReset}
use Rattle.aiger_text.specs.declared.file.Body.{Body}
use Rattle.aiger_text.specs.declared.file.Refused.{Refused}
use Rattle.aiger_text.specs.Passes.{spots_at, lines_from, store_all, Behind}

-- the first latch with a reset value
abbrev pub Resets : Header → (start : ℕ) → List ℕ → Option ℕ → Type 0
Resets h start bytes r = MatchOption r (first_reset (spots_at h 0 (lines_from bytes start)) ≡ nothing) (λ at. first_reset (spots_at h 0 (lines_from bytes start)) ≡ found at)

-- the lines behind the header, whose number of outputs is capped
abbrev pub spots_of : Body → List ℕ → List Spot
spots_of b bytes = spots_at (head_of b.head) 0 (lines_from bytes b.start)

-- 12 or 13 with its place; or where the lines start, and the header
pub data Judged (bytes : List ℕ) (f : File?) : Result Body Refused → Type 0 where
  bad : {at : ℕ} → f ≡ malformed at → Judged bytes f (Err (record { why = Malformed; at = at }))
  reset : {at : ℕ} → f ≡ bad_reset at → Judged bytes f (Err (record { why = BadReset; at = at }))
  good : {b : Body} → Behind b.start bytes → is_cut (head_of b.head) bytes (lines_from bytes b.start) ≡ false → f ≡ file b.head.variables (items (spots_of b bytes)) → Judged bytes f (Ok b)

-- what stands behind the header
unfoldable pub body_file : Header → (start : ℕ) → List ℕ → File?
body_file h start bytes =
    let ls = lines_from bytes start in
    elim (is_cut h bytes ls) [ true ↦ malformed (place_or (length bytes) (first_again [] (spots_at h 0 ls))) | false ↦ judged h.variables (spots_at h 0 ls) ]

-- that judged
pub record BodyJudged (h : Header) (start : ℕ) (bytes map map' w w' : List ℕ) (r : Result Body Refused) : Type 0 where
  pub len : length map' ≡ length map
  pub size : length w' ≡ length w
  pub is : Judged bytes (body_file h start bytes) r
  pub stored : IfOk r (λ b. b.head.variables < 65536 → w' ≡ store_all (spots_of b bytes) w)

-- and the whole file
pub record FileJudged (bytes w w' : List ℕ) (r : Result Body Refused) : Type 0 where
  pub size : length w' ≡ length w
  pub is : Judged bytes (file_of bytes) r
  pub stored : IfOk r (λ b. b.head.variables < 65536 → w' ≡ store_all (spots_of b bytes) w)
