-- Import and export as calls on lent areas: the reply, and what each area then holds. Assumes nothing.
use Rattle.std.specs.Prelude.{ℕ, Bool, true, false, ◌&&◌, List, leb, length}
use Rattle.rules.specs.Lists.{laid_over}
use Rattle.aiger_form.specs.Aag.{Netlist, Answer, refused, netlist_read, read_aag, Written, no_aag, aag, write_aag}

-- import: three areas, of gates, records and latch leaves; 2 where one is too small
unfoldable pub holds : (areas n : Netlist) → Bool
holds areas n = leb (length n.gates) (length areas.gates) && leb (length n.records) (length areas.records) && leb (length n.latches) (length areas.latches)

-- the number, the place of 12 and 13, the pin of 23, and how many numbers then stand in each area; 0 where there is none
pub record Reply : Type 0 where
  pub number : ℕ
  pub at : ℕ
  pub pin : ℕ
  pub gates : ℕ
  pub records : ℕ
  pub latches : ℕ

pub record Import : Type 0 where
  pub reply : Reply
  pub areas : Netlist

unfoldable pub imported : Netlist → Answer → Import
imported areas (refused n at pin) = record { reply = record { number = n; at = at; pin = pin; gates = 0; records = 0; latches = 0 }; areas = areas }
imported areas (netlist_read n) = record {
  reply = record { number = 0; at = 0; pin = 0; gates = length n.gates; records = length n.records; latches = length n.latches };
  areas = record { gates = laid_over n.gates areas.gates; records = laid_over n.records areas.records; latches = laid_over n.latches areas.latches };
}

unfoldable pub importer : (bytes : List ℕ) → (areas : Netlist) → Import
importer bytes areas = imported areas (read_aag (holds areas) bytes)

-- export: one area of bytes; 14 before 2, since no other job has a length
pub record Export : Type 0 where
  pub number : ℕ
  pub length' : ℕ
  pub bytes : List ℕ

unfoldable pub exported : (area : List ℕ) → Written → Export
exported area no_aag = record { number = 14; length' = 0; bytes = area }
exported area (aag bytes) = elim (leb (length bytes) (length area)) [
  | true ↦ record { number = 0; length' = length bytes; bytes = laid_over bytes area }
  | false ↦ record { number = 2; length' = 0; bytes = area }
]

unfoldable pub exporter : (given : List ℕ) → Netlist → (area : List ℕ) → Export
exporter given n area = exported area (write_aag given n)
