-- The records and leaves of a file's lines in lent areas. Assumes nothing.
use Rattle.std.specs.Prelude.{ℕ, ◌≤◌, ◌≡◌, List, length}
use Rattle.std.proofs.lemmas.List.Edits.{sets}
use Rattle.aiger_form.specs.Aag.{Header, items, records_of, latches_of}
use Rattle.aiger_text.specs.Passes.{spots_at, lines_from, Behind}

-- before
pub record FillReady (H : Header) (start : ℕ) (bytes records latches : List ℕ) : Type 0 where
  pub behind : Behind start bytes
  pub records_fit : length (records_of (items (spots_at H 0 (lines_from bytes start)))) ≤ length records
  pub latches_fit : length (latches_of (items (spots_at H 0 (lines_from bytes start)))) ≤ length latches

-- and behind it
pub record Filled (H : Header) (start : ℕ) (bytes records latches records' latches' : List ℕ) : Type 0 where
  pub records_hold : records' ≡ sets records 0 (records_of (items (spots_at H 0 (lines_from bytes start))))
  pub latches_hold : latches' ≡ sets latches 0 (latches_of (items (spots_at H 0 (lines_from bytes start))))
