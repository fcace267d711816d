-- What calls of `read` and `write` give, by their contracts. Assumes nothing.
use Prim.Native.Nat.{ℕ, zero, suc}
use mathlib.Core.Path.{◌≡◌, refl, sym, ap, ◌∙◌}
use mathlib.Core.Bool.{Bool, true}
use mathlib.Core.List.{List}
use native.Mathlib.Omega.{arith}
use lib.ListN.{length, take, drop}
use lib.Seq.{take_at}
use Rattle.rules.specs.Lists.{laid_over}
use Rattle.aiger_form.specs.Aag.{Netlist, File?, malformed, bad_reset, file, netlist, Answer, refused, netlist_read, checked, handed_out, admit, answered, file_of, read_aag}
use Rattle.aiger_form.specs.Meaning.{Meant}
use Rattle.aiger_form.specs.Calls.{Import, holds, imported, importer, Export, exporter}
use Rattle.aiger_form.proofs.Values.{graph_meant}
use Rattle.aiger_form.proofs.Calls.{exported_imported}
use Rattle.aiger_read.specs.Answers.{areas, outcome}
use Rattle.std.specs.Prelude.{Result, Ok}
use Rattle.aiger_text.specs.declared.file.Refused.{Refused}
use Rattle.aiger_read.specs.declared.Counts.{Counts}
use Rattle.aiger_write.specs.Answers.{netlist_of, export}

-- What `write` left after 0, read into areas that hold the job, gives the job: the same gates, records and latches.
pub read_back : (given gates records latches bytes : List ℕ) (size : ℕ) (bytes' : List ℕ) → export (Ok size) bytes' ≡ exporter given (netlist_of gates records latches) bytes → (gs rs ls : List ℕ) → holds (areas gs rs ls) (netlist_of gates records latches) ≡ true → (a : Result Counts Refused) (gs' rs' ls' : List ℕ) → outcome a gs' rs' ls' ≡ importer (take size bytes') (areas gs rs ls) → outcome a gs' rs' ls' ≡ imported (areas gs rs ls) (netlist_read (netlist_of gates records latches))
read_back given gates records latches bytes size bytes' w gs rs ls h a gs' rs' ls' r =
    let n = netlist_of gates records latches in
    let same = exported_imported given n bytes (sym (ap (λ (x : Export). x.number) w)) (areas gs rs ls) h in
    r ∙ ap (λ (x : Export). importer (take x.length' x.bytes) (areas gs rs ls)) w ∙ same

-- no refusal has the number 0
refused_some : (sized : Netlist → Bool) (f : File?) (n at pin : ℕ) → answered sized f ≡ refused n at pin → n ≡ 0 → ⊥
unfolding answered admit handed_out
refused_some sized (malformed p) n at pin e z = let q : n ≡ 12 = cc in omega arith
refused_some sized (bad_reset p) n at pin e z = let q : n ≡ 13 = cc in omega arith
refused_some sized (file m xs) n at pin e z = by (checked (sized (netlist m xs)) (netlist m xs)) e
  where
    by : (k : ℕ) → handed_out (netlist m xs) k ≡ refused n at pin → ⊥
    by zero d = let q : ◌≡◌ {A = ℕ} 0 1 = cc in omega arith
    by (suc k) d = let q : n ≡ suc k = cc in omega arith

front : (xs ys : List ℕ) {zs : List ℕ} {k : ℕ} → k ≡ length xs → zs ≡ laid_over xs ys → take k zs ≡ xs
unfolding laid_over
front xs ys p q = rw (p, q) (take_at xs (drop (length xs) ys) (length xs) refl)

-- Where `read` refuses nothing, the numbers that it says stand in the areas are a graph, records and latch leaves that the file means: every literal has the
-- value that the file's lines give it.
pub read_meant : (bytes gs rs ls : List ℕ) (a : Counts) (gs' rs' ls' : List ℕ) → outcome (Ok a) gs' rs' ls' ≡ importer bytes (areas gs rs ls) → Meant bytes (areas (take a.gates gs') (take a.records rs') (take a.latches ls'))
unfolding importer imported outcome areas laid_over
read_meant bytes gs rs ls a gs' rs' ls' e = by (read_aag (holds (areas gs rs ls)) bytes) refl
  where
    by : (r : Answer) → read_aag (holds (areas gs rs ls)) bytes ≡ r → Meant bytes (areas (take a.gates gs') (take a.records rs') (take a.latches ls'))
    by (refused n at pin) q =
        let d : 0 ≡ n = ap (λ (x : Import). x.reply.number) (rw q at e) in
        absurd (refused_some (holds (areas gs rs ls)) (file_of bytes) n at pin (unfold read_aag in q) (sym d))
    by (netlist_read n) q =
        let d : outcome (Ok a) gs' rs' ls' ≡ imported (areas gs rs ls) (netlist_read n) = rw q at e in
        let g = front n.gates gs (ap (λ (x : Import). x.reply.gates) d) (ap (λ (x : Import). x.areas.gates) d) in
        let r = front n.records rs (ap (λ (x : Import). x.reply.records) d) (ap (λ (x : Import). x.areas.records) d) in
        let l = front n.latches ls (ap (λ (x : Import). x.reply.latches) d) (ap (λ (x : Import). x.areas.latches) d) in
        rw (g, r, l) (graph_meant (holds (areas gs rs ls)) bytes n q)
