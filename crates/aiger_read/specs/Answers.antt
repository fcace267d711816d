-- What reading a file answers, and the lent areas then. Assumes nothing.
use Rattle.std.specs.Prelude.{ℕ, ◌+◌, ◌*◌, ◌≤◌, ◌≡◌, Bool, ◌&&◌, Result, Ok, Err, MatchResult, List, leb, length, take}
use Rattle.refusals.specs.Numbers.{number_of, pin_of}
use Rattle.aiger_form.specs.Aag.{Netlist, netlist, gates_of, records_of, latches_of, items, refused, netlist_read, read_aag}
use Rattle.aiger_form.specs.Calls.{Reply, Import}
use Rattle.aiger_text.specs.declared.file.Body.{Body}
use Rattle.aiger_text.specs.declared.file.Refused.{Refused}
use Rattle.aiger_text.specs.Passes.{Behind}
use Rattle.aiger_text.specs.File.{spots_of}
use Rattle.aiger_read.specs.declared.Counts.{Counts}

-- the lent areas
unfoldable pub areas : (gates records latches : List ℕ) → Netlist
areas g r l = record { gates = g; records = r; latches = l }

-- an answer
abbrev pub reply : Result Counts Refused → Reply
reply (Ok c) = record { number = 0; at = 0; pin = 0; gates = c.gates; records = c.records; latches = c.latches }
reply (Err e) = record { number = number_of e.why; at = e.at; pin = pin_of e.why; gates = 0; records = 0; latches = 0 }

-- with the areas
unfoldable pub outcome : Result Counts Refused → (gates records latches : List ℕ) → Import
outcome a g r l = record { reply = reply a; areas = areas g r l }

-- `holds`, for areas of these lengths
unfoldable pub sized_for : (g r l : ℕ) → Netlist → Bool
sized_for g r l n = leb (length n.gates) g && leb (length n.records) r && leb (length n.latches) l

-- an accepted file: what is read, how many numbers, and that they fit; the gates stand in the own area
pub record Taken (bytes own : List ℕ) (g r l : ℕ) (b : Body) : Type 0 where
  pub behind : Behind b.start bytes
  pub small : b.head.variables ≤ 65535
  pub reads : read_aag (sized_for g r l) bytes ≡ netlist_read (netlist b.head.variables (items (spots_of b bytes)))
  pub gates : take (2 * (b.head.variables + 1)) own ≡ gates_of b.head.variables (items (spots_of b bytes))
  pub records : length (records_of (items (spots_of b bytes))) ≡ 3 * b.head.latches + 2 * b.head.outputs
  pub latches : length (latches_of (items (spots_of b bytes))) ≡ b.head.latches
  pub gates_fit : 2 * (b.head.variables + 1) ≤ g
  pub records_fit : 3 * b.head.latches + 2 * b.head.outputs ≤ r
  pub latches_fit : b.head.latches ≤ l
  pub few : 3 * b.head.latches + 2 * b.head.outputs ≤ 65536

-- refused with its number, place and pin, or accepted
pub record Judged (bytes own : List ℕ) (g r l : ℕ) (v : Result Body Refused) : Type 0 where
  pub size : length own ≡ 131072
  pub is : MatchResult v (λ b. Taken bytes own g r l b) (λ e. read_aag (sized_for g r l) bytes ≡ refused (number_of e.why) e.at (pin_of e.why))
