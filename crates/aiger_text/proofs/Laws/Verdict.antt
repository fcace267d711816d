-- The verdict on a file: laws. Assumes nothing.
use Prim.Native.Nat.{ℕ, zero, suc, ◌+◌, ◌-◌, ◌≤◌, ◌<◌}
use mathlib.Core.Path.{◌≡◌, refl, sym, ap, ◌∙◌}
use mathlib.Core.Bool.{true, false}
use mathlib.Core.List.{List, [], ◌∷◌, ◌++◌}
use native.Mathlib.Omega.{arith}
use lib.Dec.{ltb}
use lib.ListN.{length, take, drop, length-drop}
use borrow.Author.Tests.{lt-ltb, ltb-true, ltb-false}
use Rattle.rules.specs.Lists.{Found, nothing, found}
use Rattle.rules.proofs.Lists.Members.{split}
use Rattle.aiger_form.specs.Text.{Line, placed, parts}
use Rattle.aiger_form.specs.Aag.{Header, Header?, no_header, header, header_of, Spot, spots, symbol_lines, gate_spots, output_spots, latch_spots, all_spots, body_size, is_cut, place_or, items, defined, defines, stands, first_again, first_bad, first_reset, malformed, bad_reset, resets, judge, judged, body_of, lines_of, file_of}
use Rattle.aiger_rows.specs.Rows.{head_of, HeadIs, no, yes}
use Rattle.aiger_rows.specs.declared.head.Head.{Head}
use Rattle.std.specs.Prelude.{Result, Ok, Err, Some, None}
use Rattle.aiger_text.specs.declared.passes.Sweep.{Sweep}
use Rattle.refusals.specs.declared.Refusal.TheVariants.{Malformed, BadReset}
use Rattle.aiger_text.specs.declared.file.Body.{Body}
use Rattle.aiger_text.specs.declared.file.Refused.{Refused}
use Rattle.aiger_text.specs.Passes.{spots_at, lines_from, Behind}
use Rattle.aiger_rows.specs.Cursor.{until, cap, capped}
use Rattle.aiger_text.specs.Whole.{judged_at, First}
use Rattle.aiger_text.specs.File.{Resets, bad, reset, good, body_file, BodyJudged, FileJudged}
use Rattle.aiger_text.proofs.Laws.Passes.{spots_all, line_last, line_next}
use Rattle.aiger_text.proofs.Laws.Whole.{Within, none, one, within, total, total_parts}

-- ---- a place below the length is a line's

place_found : (N : ℕ) (f : Found) → place_or N f < N → f ≡ found (place_or N f)
unfolding place_or
place_found N nothing h = absurd (omega arith)
place_found N (found p) h = refl

place_nothing : (N : ℕ) (f : Found) → ((p : ℕ) → f ≡ found p → p < N) → N ≤ place_or N f → f ≡ nothing
unfolding place_or
place_nothing N nothing b h = refl
place_nothing N (found p) b h = absurd (let q = b p refl in omega arith)

bad_inside : (all : List ℕ) {N : ℕ} (seen : List ℕ) {ss : List Spot} → Within N ss → (p : ℕ) → first_bad all seen ss ≡ found p → p < N
unfolding first_bad
bad_inside all seen none p e = absurd (let z : ◌≡◌ {A = ℕ} 0 1 = cc in omega arith)
bad_inside all seen (one {s = s} b w) p e = split (stands all seen s.item)
    (λ t. bad_inside all (defines s.item ++ seen) w p (rw (t, first_bad) at e))
    (λ t. let c : found s.at ≡ found p = rw (t, first_bad) at e in let z : s.at ≡ p = cc in omega arith)

-- ---- behind the header

module _ (x : Head) {start : ℕ} {bytes map map' w w' : List ℕ} {s : Sweep} (F : First (head_of x) start bytes map map' w w' s) where
  -- a cut file
  pub body_cut : s.cut ≡ true → BodyJudged (head_of x) start bytes map map' w w' (Err (record { why = Malformed; at = s.first }))
  unfolding body_file judged_at
  body_cut t =
      let H = head_of x in
      let u : is_cut H bytes (lines_from bytes start) ≡ true = sym F.cut ∙ t in
      let q : s.first ≡ place_or (length bytes) (first_again [] (spots_at H 0 (lines_from bytes start))) = rw u at F.first in
      let e : body_file H start bytes ≡ malformed s.first = rw (body_file, u, q) in
      record { len = F.len; size = F.size; is = bad e; stored = tt }

  module _ (t : s.cut ≡ false) where
    body_whole : body_file (head_of x) start bytes ≡ judge x.variables (spots_at (head_of x) 0 (lines_from bytes start)) (first_bad (0 ∷ defined (items (spots_at (head_of x) 0 (lines_from bytes start)))) [] (spots_at (head_of x) 0 (lines_from bytes start)))
    unfolding body_file judged
    body_whole = let u : is_cut (head_of x) bytes (lines_from bytes start) ≡ false = sym F.cut ∙ t in rw (body_file, u)

    first_whole : s.first ≡ place_or (length bytes) (first_bad (0 ∷ defined (items (spots_at (head_of x) 0 (lines_from bytes start)))) [] (spots_at (head_of x) 0 (lines_from bytes start)))
    unfolding judged_at
    first_whole = let u : is_cut (head_of x) bytes (lines_from bytes start) ≡ false = sym F.cut ∙ t in rw u at F.first

    -- a bad line
    pub body_bad : s.first < length bytes → BodyJudged (head_of x) start bytes map map' w w' (Err (record { why = Malformed; at = s.first }))
    unfolding judge
    body_bad k =
        let ss = spots_at (head_of x) 0 (lines_from bytes start) in
        let f = first_bad (0 ∷ defined (items ss)) [] ss in
        let q = first_whole in
        let g : f ≡ found s.first = place_found (length bytes) f (omega arith) ∙ ap found (sym q) in
        let e : body_file (head_of x) start bytes ≡ malformed s.first = body_whole ∙ (rw g) in
        record { len = F.len; size = F.size; is = bad e; stored = tt }

    module _ (b : start ≤ length bytes) (k : length bytes ≤ s.first) where
      body_fine : body_file (head_of x) start bytes ≡ resets x.variables (spots_at (head_of x) 0 (lines_from bytes start)) (first_reset (spots_at (head_of x) 0 (lines_from bytes start)))
      unfolding judge
      body_fine =
          let ss = spots_at (head_of x) 0 (lines_from bytes start) in
          let f = first_bad (0 ∷ defined (items ss)) [] ss in
          let q = first_whole in
          let g : f ≡ nothing = place_nothing (length bytes) f (bad_inside (0 ∷ defined (items ss)) [] (within (head_of x) start bytes b)) (omega arith) in
          body_whole ∙ (rw g)

      -- a reset value
      pub body_reset : (at : ℕ) → Resets (head_of x) start bytes (Some at) → BodyJudged (head_of x) start bytes map map' w w' (Err (record { why = BadReset; at = at }))
      unfolding resets
      body_reset at g =
          let e : body_file (head_of x) start bytes ≡ bad_reset at = body_fine ∙ (rw g) in
          record { len = F.len; size = F.size; is = reset e; stored = tt }

      -- none
      pub body_good : Resets (head_of x) start bytes None → Behind start bytes → BodyJudged (head_of x) start bytes map map' w w' (Ok (record { start = start; head = x }))
      unfolding resets
      body_good g B = record { len = F.len; size = F.size; is = good B (sym F.cut ∙ t) (body_fine ∙ (rw g)); stored = F.stored }

-- ---- the number of outputs is capped, and nothing changes

take_all : (n : ℕ) (ls : List Line) → length ls ≤ n → take n ls ≡ ls
take_all zero [] h = refl
take_all zero (l ∷ ls) h = absurd (omega arith)
take_all (suc n) [] h = refl
take_all (suc n) (l ∷ ls) h = ap (λ (r : List Line). l ∷ r) (take_all n ls (omega arith))

drop_all : (n : ℕ) (ls : List Line) → length ls ≤ n → ◌≡◌ {A = List Line} (drop n ls) []
drop_all zero [] h = refl
drop_all zero (l ∷ ls) h = absurd (omega arith)
drop_all (suc n) [] h = refl
drop_all (suc n) (l ∷ ls) h = drop_all n ls (omega arith)

gate_none : (h : Header) → gate_spots h [] ≡ []
unfolding gate_spots spots symbol_lines
gate_none h = rw (take_all h.gates [] (omega arith), drop_all h.gates [] (omega arith))

abbrev with' : Header → ℕ → Header
with' h o = record h { outputs = o }

outputs_same : (h : Header) (o : ℕ) (ls : List Line) → length ls ≤ h.outputs → length ls ≤ o → output_spots (with' h o) ls ≡ output_spots h ls
unfolding output_spots
outputs_same h o ls a b = rw (take_all h.outputs ls a, drop_all h.outputs ls a, take_all o ls b, drop_all o ls b, gate_none (with' h o), gate_none h)

spots_capped : (h : Header) (o : ℕ) → o ≡ capped h.outputs → (ls : List Line) → length ls < cap → all_spots (with' h o) ls ≡ all_spots h ls
unfolding all_spots latch_spots
spots_capped h o e ls k = split (ltb cap h.outputs)
    (λ t. let a = ltb-true cap h.outputs t in
    let x = length-drop h.inputs ls in
    let y = length-drop h.latches (drop h.inputs ls) in
    rw (outputs_same h o (drop h.latches (drop h.inputs ls)) (omega arith) (omega arith)))
    (λ t. let a = ltb-false cap h.outputs t in let z : o ≡ h.outputs = omega arith in rw z)

cut_capped : (h : Header) (o : ℕ) → o ≡ capped h.outputs → (bytes : List ℕ) (ls : List Line) → length ls < cap → is_cut (with' h o) bytes ls ≡ is_cut h bytes ls
unfolding is_cut body_size
cut_capped h o e bytes ls k = split (ltb cap h.outputs)
    (λ t. let a = ltb-true cap h.outputs t in
    rw (lt-ltb (length ls) (h.inputs + h.latches + o + h.gates) (omega arith), lt-ltb (length ls) (h.inputs + h.latches + h.outputs + h.gates) (omega arith)))
    (λ t. let a = ltb-false cap h.outputs t in let z : o ≡ h.outputs = omega arith in rw z)

placed_length : (at : ℕ) (ls : List (List ℕ)) → length (placed at ls) ≤ total ls
unfolding placed total
placed_length at [] = omega arith
placed_length at (l ∷ ls) = let q = placed_length (at + suc (length l)) ls in omega arith

lines_length : (bytes : List ℕ) (at : ℕ) → length (lines_from bytes at) ≤ length bytes - at
unfolding lines_from
lines_length bytes at = let p = placed_length at (parts 10 (drop at bytes)) in let t = total_parts 10 (drop at bytes) in let l = length-drop at bytes in omega arith

-- ---- the header

head_no : {r : Header?} → HeadIs r None → r ≡ no_header
head_no no = refl

record Heads (r : Header?) (x : Head) : Type 0 where
  h : Header
  is : r ≡ header h
  same : head_of x ≡ with' h x.outputs
  cap : x.outputs ≡ capped h.outputs

head_yes : {r : Header?} {x : Head} → HeadIs r (Some x) → Heads r x
head_yes (yes h x q1 q2 q3 q4 q5) = record { h = h; is = refl; same = rw (q1, q2, q3, q5); cap = q4 }

body_same : (h : Header) (o start : ℕ) (bytes : List ℕ) → is_cut (with' h o) bytes (lines_from bytes start) ≡ is_cut h bytes (lines_from bytes start) → all_spots h (lines_from bytes start) ≡ spots_at (with' h o) 0 (lines_from bytes start) → body_of bytes (lines_from bytes start) (header h) ≡ body_file (with' h o) start bytes
unfolding body_of body_file
body_same h o start bytes c s = split (is_cut h bytes (lines_from bytes start))
    (λ u. let v : is_cut (with' h o) bytes (lines_from bytes start) ≡ true = c ∙ u in rw (body_of, u, s, body_file, v))
    (λ u. let v : is_cut (with' h o) bytes (lines_from bytes start) ≡ false = c ∙ u in rw (body_of, u, s, body_file, v))

module _ (bytes : List ℕ) (e : ℕ) (d : e ≡ 0 + until 10 (drop 0 bytes)) where
  file_lines_lem : file_of bytes ≡ lines_of bytes (lines_from bytes 0)
  unfolding file_of lines_from
  file_lines_lem = refl

  -- no line at all
  pub file_none : length bytes ≤ e → {w : List ℕ} → FileJudged bytes w w (Err (record { why = Malformed; at = length bytes }))
  unfolding lines_of
  file_none k {w} = record { size = refl; is = bad (file_lines_lem ∙ (rw (line_last bytes 0 e (omega arith) d k))); stored = tt }

  file_first : e < length bytes → file_of bytes ≡ body_of bytes (lines_from bytes (e + 1)) (header_of (take (e - 0) (drop 0 bytes)))
  unfolding lines_of
  file_first k = file_lines_lem ∙ (rw (line_next bytes 0 e (omega arith) d k))

  -- no header
  pub file_header : e < length bytes → HeadIs (header_of (take (e - 0) (drop 0 bytes))) None → {w : List ℕ} → FileJudged bytes w w (Err (record { why = Malformed; at = 0 }))
  unfolding body_of
  file_header k H {w} = record { size = refl; is = bad (file_first k ∙ (rw (head_no H))); stored = tt }

  file_body : e < length bytes → length bytes ≤ cap → {x : Head} → HeadIs (header_of (take (e - 0) (drop 0 bytes))) (Some x) → file_of bytes ≡ body_file (head_of x) (e + 1) bytes
  file_body k b {x} H =
      let Y = head_yes H in
      let h = Y.h in
      let o = x.outputs in
      let ls = lines_from bytes (e + 1) in
      let n = lines_length bytes (e + 1) in
      let s : all_spots h ls ≡ spots_at (with' h o) 0 ls = sym (spots_capped h o Y.cap ls (omega arith)) ∙ spots_all (with' h o) ls in
      let c = cut_capped h o Y.cap bytes ls (omega arith) in
      file_first k ∙ (rw (Y.is, Y.same) (body_same h o (e + 1) bytes c s))

  -- what stands behind the header is judged
  pub file_judged : e < length bytes → length bytes ≤ cap → (x : Head) → HeadIs (header_of (take (e - 0) (drop 0 bytes))) (Some x) → {map map' w w' : List ℕ} {r : Result Body Refused} → BodyJudged (head_of x) (e + 1) bytes map map' w w' r → FileJudged bytes w w' r
  file_judged k b x H B = record { size = B.size; is = rw (file_body k b H) B.is; stored = B.stored }
