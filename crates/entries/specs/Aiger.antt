-- What the entries of an AIGER file return and leave. Assumes nothing.
use Rattle.std.specs.Prelude.{List, [], ◌∷◌, ℕ}
use Rattle.aiger_form.specs.Aag.{Netlist}
use Rattle.aiger_form.specs.Calls.{Reply, importer, exporter}
use Rattle.entries.specs.Entry.{Entry, entered}

-- what a reply has behind its number
unfoldable pub rest : Reply → List ℕ
rest r = r.at ∷ r.pin ∷ r.gates ∷ r.records ∷ r.latches ∷ []

-- number, place, pin, and how many numbers each area has then
unfoldable pub aiger_read : (bytes : List ℕ) → Netlist → List ℕ → Entry Netlist
aiger_read bytes a xs =
    let o = importer bytes a in
    entered a o.areas o.reply.number (rest o.reply) xs

-- number and length, and the bytes
unfoldable pub aiger_written : (given : List ℕ) → Netlist → (bytes answer : List ℕ) → Entry (List ℕ)
aiger_written given n bytes xs =
    let o = exporter given n bytes in
    entered bytes o.bytes o.number (o.length' ∷ []) xs
