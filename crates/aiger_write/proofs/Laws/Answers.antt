-- What is answered, and the bytes then, from the code's tests. Assumes nothing.
use Prim.Native.Nat.{ℕ, ◌+◌, ◌≤◌, ◌<◌}
use mathlib.Core.Path.{◌≡◌, refl, sym, ap, ◌∙◌}
use mathlib.Core.List.{List}
use native.Mathlib.Omega.{arith}
use borrow.Author.Tests.{lt-leb, le-leb}
use lib.ListN.{length, replicate}
use Rattle.rules.specs.Graph.{graph_of}
use Rattle.std.specs.Prelude.{Ok, Err}
use Rattle.refusals.specs.declared.Refusal.TheVariants.{WrongSize, NoFile}
use Rattle.listing_lines.specs.Laid.{Laid}
use Rattle.listing_lines.proofs.Laws.Fits.{laid_past, laid_fits, laid_length, laid_whole}
use Rattle.aiger_form.specs.Text.{unlines}
use Rattle.aiger_form.specs.Aag.{Netlist, Written, no_aag, aag, file_lines, write_aag}
use Rattle.aiger_form.specs.Jobs.{Named}
use Rattle.aiger_form.specs.Calls.{exported, exporter}
use Rattle.aiger_form.proofs.Calls.{named_written, written_named, named_flat}
use Rattle.aiger_write.specs.Answers.{netlist_of, export}
use Rattle.aiger_write.specs.Jobs.{marked}
use Rattle.aiger_write.specs.Lines.{file_text}
use Rattle.aiger_write.proofs.Laws.Named.{named_passed}
use Rattle.aiger_write.proofs.Laws.File.{marks_say, file_is}

-- a job that no file holds
pub export_no : (given : List ℕ) (n : Netlist) (bytes : List ℕ) → (Named given n → ⊥) → export (Err NoFile) bytes ≡ exporter given n bytes
unfolding exporter
export_no given n bytes h = at (write_aag given n) refl
  where
    at : (w : Written) → write_aag given n ≡ w → export (Err NoFile) bytes ≡ exported bytes w
    at no_aag e = unfold exported in refl
    at (aag bs) e = absurd (h (written_named given n bs e))

module _ (text o : List ℕ) {o1 o2 : List ℕ} {limit r : ℕ} (l : limit ≡ length o + 1) (m : Laid limit 0 text o1 r o2) where
  -- a text longer than the bytes is refused
  pub export_short : length o < r → export (Err WrongSize) o ≡ exported o (aag text)
  unfolding exported
  export_short h = rw (lt-leb (length text) (length o) (laid_past text o l m h), exported)

  -- one that fits stands in front
  pub export_all : r ≤ length o → {r2 : ℕ} {o3 : List ℕ} → Laid limit 0 text o r2 o3 → export (Ok r) o3 ≡ exported o (aag text)
  unfolding exported
  export_all h b = rw (le-leb (length text) (length o) (laid_fits text o l m h), exported, laid_length text o l m h, laid_whole text o l m h b) refl

module _ (gates given records latches m m' : List ℕ) (N : Named given (netlist_of gates records latches)) (zeros : m ≡ replicate 65536 0) (marks : m' ≡ marked latches m) where
  -- the text that the code lays is the job's file
  named_file : file_text gates records latches m' ≡ unlines (file_lines (graph_of gates) latches N.inputs N.outs)
  named_file =
      ap (λ (r : List ℕ). file_text gates r latches m') (named_flat N)
      ∙ file_is gates latches m' N.inputs N.outs (λ p h. marks_say latches m m' 65536 zeros marks p (omega (arith, (named_passed N).few))) N.as_many

  -- a job that one holds
  pub export_yes : (bytes : List ℕ) → exported bytes (aag (file_text gates records latches m')) ≡ exporter given (netlist_of gates records latches) bytes
  unfolding exporter
  export_yes bytes = ap (λ (t : List ℕ). exported bytes (aag t)) named_file ∙ sym (ap (exported bytes) (named_written given (netlist_of gates records latches) N))
