-- A step over one line: laws. Assumes nothing.
use native.Mathlib.Numerals.{add-one}
use Prim.Native.Nat.{ℕ, ◌+◌, ◌-◌, ◌≤◌, ◌<◌}
use mathlib.Core.Path.{◌≡◌, sym, ap, ◌∙◌}
use mathlib.Core.Bool.{true, false, ◌&&◌}
use mathlib.Core.List.{List}
use lib.ListN.{length, take, drop}
use Rattle.aiger_form.specs.Aag.{Header, Item, or_bad, is_literal, is_variable, gate_line, gate_item, numbers_item, line_item}
use Rattle.aiger_rows.specs.declared.header.Section.TheVariants.{Gates}
use Rattle.aiger_rows.specs.Rows.{In, item_at, stops_at}
use Rattle.aiger_text.specs.Passes.{spots_at}
use Rattle.aiger_rows.specs.Cursor.{until, Tripled}
use Rattle.aiger_text.specs.Lines.{cut_from, NoLine, EndLine, NextLine}
use Rattle.aiger_rows.proofs.Laws.Rows.{at_gate}
use Rattle.aiger_text.proofs.Laws.Passes.{line_inside, line_last, line_next}

module _ {H : Header} {i at : ℕ} {bytes : List ℕ} (b : at ≤ length bytes) (e : ℕ) (d : e ≡ at + until 10 (drop at bytes)) where
  -- no whole line is left
  pub step_last : length bytes ≤ e → NoLine H i at bytes
  unfolding spots_at cut_from
  step_last k = let q = line_last bytes at e b d k in record { spots = rw q; cut = λ b. rw q }

  module _ (k : e < length bytes) where
    -- a comment ends the lines
    pub step_stop : stops_at H i (take (e - at) (drop at bytes)) ≡ true → EndLine H i at bytes
    unfolding spots_at cut_from
    step_stop u = let n = line_next bytes at e b d k in record { spots = rw (n, spots_at, u); cut = λ b. rw (n, cut_from, u) }

    -- a line
    pub step_line : stops_at H i (take (e - at) (drop at bytes)) ≡ false → {x : Item} → x ≡ item_at H i (take (e - at) (drop at bytes)) → NextLine H i at bytes x e
    unfolding spots_at cut_from
    step_line u y =
        let n = line_next bytes at e b d k in
        record {
          from = (line_inside bytes at e b d).0;
          inside = k;
          spots = rw (n, spots_at, u, add-one i, y);
          cut = λ b. rw (n, cut_from, u, add-one i);
        }

-- a gate's line of three numbers
pub step_gate : {H : Header} {i at : ℕ} {bytes : List ℕ} → at ≤ length bytes → In H i Gates → {e a b c : ℕ} → Tripled bytes at e a b c → {x : Item} → x ≡ or_bad (is_variable H.variables a && is_literal H.variables b && is_literal H.variables c) (gate_line a b c) → NextLine H i at bytes x e
unfolding line_item numbers_item gate_item
step_gate {H} {i} {at} {bytes} B G {e} {a} {b} {c} T y =
    let line = take (e - at) (drop at bytes) in
    let w = at_gate H i line G.0 G.1 G.2 G.3 in
    let z : line_item (gate_item H.variables) line ≡ or_bad (is_variable H.variables a && is_literal H.variables b && is_literal H.variables c) (gate_line a b c) = ap (numbers_item (gate_item H.variables)) T.is in
    step_line B e T.line T.inside (sym w.1) (y ∙ sym z ∙ w.0)
