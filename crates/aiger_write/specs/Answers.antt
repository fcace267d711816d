-- What writing an AIGER file answers, and the lent bytes then. Assumes nothing.
use Rattle.std.specs.Prelude.{List, ℕ, Result, Ok, Err}
use Rattle.refusals.specs.declared.Refusal.{Refusal}
use Rattle.refusals.specs.Numbers.{number_of}
use Rattle.aiger_form.specs.Aag.{Netlist}
use Rattle.aiger_form.specs.Calls.{Export}

-- a graph, its records and the leaf of each flip-flop, as they are lent
abbrev pub netlist_of : (gates records latches : List ℕ) → Netlist
netlist_of gates records latches = record { gates = gates; records = records; latches = latches }

-- the answer, with the bytes at exit
abbrev pub export : Result ℕ Refusal → (bytes : List ℕ) → Export
export (Ok size) bytes = record { number = 0; length' = size; bytes = bytes }
export (Err why) bytes = record { number = number_of why; length' = 0; bytes = bytes }
