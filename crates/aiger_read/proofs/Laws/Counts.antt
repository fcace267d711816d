-- How many numbers an accepted file's records and leaves have. Assumes nothing.
use Prim.Native.Nat.{ℕ, ◌+◌, ◌*◌, ◌≤◌}
use mathlib.Core.Path.{◌≡◌, refl, ap, ◌∙◌}
use mathlib.Core.Bool.{Bool, true, false, not, ◌&&◌}
use mathlib.Core.List.{List, [], ◌∷◌, ◌++◌}
use native.Mathlib.Omega.{arith}
use native.Mathlib.Nat.{suc-mul}
use lib.Dec.{ltb}
use lib.ListN.{length, take, drop, length-append, length-drop}
use lib.Seq.{length-take-le}
use borrow.Author.Tests.{ltb-false}
use Rattle.rules.specs.Lists.{nothing, found, mem, every}
use Rattle.rules.proofs.Lists.Members.{split, true_false, and_true}
use Rattle.aiger_form.specs.Text.{Line, Numbers?, no_numbers, numbers, words, numbers_of}
use Rattle.aiger_form.specs.Aag.{Header, Item, input_item, latch_item, output_item, gate_item, Spot, spots, items, gather_items, defines, uses, is_text, stands, first_bad, or_bad, numbers_item, line_item, symbol_item, symbol_lines, gate_spots, output_spots, latch_spots, all_spots, body_size, is_cut, record_of, records_of, latch_of, latches_of}
use Rattle.aiger_form.proofs.Accepted.{bad_cons}
use Rattle.aiger_text.specs.Passes.{spots_at}
use Rattle.aiger_text.proofs.Laws.Passes.{spots_all}
use Rattle.aiger_read.proofs.Laws.Ends.{Bare, or_bad_bare, line_bare, symbol_bare}

-- lines that stand are right by their text
head_text_lem : (all seen : List ℕ) (s : Spot) (ss : List Spot) → first_bad all seen (s ∷ ss) ≡ nothing → is_text s.item ≡ true
unfolding first_bad stands
head_text_lem all seen s ss e = split (stands all seen s.item)
    (λ t.
    let x = s.item in
    let w = and_true (is_text x && every (λ v. not (mem v seen)) (defines x)) (every (λ v. mem v all) (uses x)) t in
    (and_true (is_text x) (every (λ v. not (mem v seen)) (defines x)) w.0).0)
    (λ t. absurd (let d : found s.at ≡ nothing = rw (t, first_bad) at e in let z : ◌≡◌ {A = ℕ} 0 1 = cc in omega arith))

-- a section's lines each have so many numbers of records and so many leaves, where their text is right
record Weighs (f : List ℕ → Item) (c d : ℕ) : Type 0 where
  is : (line : List ℕ) → is_text (f line) ≡ true → (length (record_of (f line)) ≡ c) × (length (latch_of (f line)) ≡ d)

record Counted (ss : List Spot) (c d : ℕ) : Type 0 where
  records : length (records_of (items ss)) ≡ c
  latches : length (latches_of (items ss)) ≡ d

-- lines that stand, after some that do
record Standing (ss : List Spot) : Type 0 where
  all : List ℕ
  seen : List ℕ
  good : first_bad all seen ss ≡ nothing

section : (f : List ℕ → Item) (c d : ℕ) → Weighs f c d → (ls : List Line) (rest : List Spot) → Standing (spots f ls ++ rest) → (k n : ℕ) → (Standing rest → Counted rest k n) → Counted (spots f ls ++ rest) (length ls * c + k) (length ls * d + n)
unfolding spots items records_of latches_of gather_items
section f c d W [] rest S k n h = let R = h S in record { records = R.records ∙ omega arith; latches = R.latches ∙ omega arith }
section f c d W (l ∷ ls) rest S k n h =
    let s : Spot = record { at = l.at; item = f l.text } in
    let w = W.is l.text (head_text_lem S.all S.seen s (spots f ls ++ rest) S.good) in
    let R = section f c d W ls rest (record { all = S.all; seen = defines (f l.text) ++ S.seen; good = (bad_cons S.all S.seen s (spots f ls ++ rest) S.good).1 }) k n h in
    record {
      records = length-append (record_of (f l.text)) (records_of (items (spots f ls ++ rest))) ∙ omega (arith, w.0, R.records, suc-mul (length ls) c);
      latches = length-append (latch_of (f l.text)) (latches_of (items (spots f ls ++ rest))) ∙ omega (arith, w.1, R.latches, suc-mul (length ls) d);
    }

bare_weighs : (f : List ℕ → Item) → ((line : List ℕ) → Bare (f line)) → Weighs f 0 0
bare_weighs f h = record { is = λ line t. (ap length (h line).record', ap length (h line).latch) }

or_bad_weighs : (b : Bool) (x : Item) (c d : ℕ) → length (record_of x) ≡ c → length (latch_of x) ≡ d → is_text (or_bad b x) ≡ true → (length (record_of (or_bad b x)) ≡ c) × (length (latch_of (or_bad b x)) ≡ d)
unfolding or_bad is_text
or_bad_weighs true x c d p q t = (p, q)
or_bad_weighs false x c d p q t = true_false t refl

line_weighs : (f : List ℕ → Item) (c d : ℕ) → ((ns : List ℕ) → is_text (f ns) ≡ true → (length (record_of (f ns)) ≡ c) × (length (latch_of (f ns)) ≡ d)) → Weighs (line_item f) c d
unfolding line_item numbers_item is_text
line_weighs f c d h = record { is = λ line t. at (numbers_of (words line)) t }
  where
    at : (r : Numbers?) → is_text (numbers_item f r) ≡ true → (length (record_of (numbers_item f r)) ≡ c) × (length (latch_of (numbers_item f r)) ≡ d)
    at no_numbers t = true_false t refl
    at (numbers ns) t = h ns t

module _ (h : Header) where
  m : ℕ
  m = h.variables

  inputs_weigh : Weighs (line_item (input_item m)) 0 0
  unfolding input_item record_of latch_of
  inputs_weigh = bare_weighs (line_item (input_item m)) (line_bare (input_item m) (λ ns. or_bad_bare _ _ (record { record' = refl; latch = refl })))

  latches_weigh : Weighs (line_item (latch_item m)) 3 1
  unfolding latch_item record_of latch_of
  latches_weigh = line_weighs (latch_item m) 3 1 (λ ns t. or_bad_weighs _ _ 3 1 refl refl t)

  outputs_weigh : Weighs (line_item (output_item m)) 2 0
  unfolding output_item record_of latch_of
  outputs_weigh = line_weighs (output_item m) 2 0 (λ ns t. or_bad_weighs _ _ 2 0 refl refl t)

  gates_weigh : Weighs (line_item (gate_item m)) 0 0
  unfolding gate_item record_of latch_of
  gates_weigh = bare_weighs (line_item (gate_item m)) (line_bare (gate_item m) (λ ns. or_bad_bare _ _ (record { record' = refl; latch = refl })))

  symbols_count : (ls : List Line) → Standing (spots (symbol_item h) ls) → Counted (spots (symbol_item h) ls) 0 0
  unfolding spots items records_of latches_of gather_items
  symbols_count [] S = record { records = refl; latches = refl }
  symbols_count (l ∷ ls) S =
      let s : Spot = record { at = l.at; item = symbol_item h l.text } in
      let w = symbol_bare h l.text in
      let R = symbols_count ls (record { all = S.all; seen = defines (symbol_item h l.text) ++ S.seen; good = (bad_cons S.all S.seen s (spots (symbol_item h) ls) S.good).1 }) in
      record { records = rw w.record' R.records; latches = rw w.latch R.latches }

  -- the sections of a file that is not cut
  all_count : (ls : List Line) → body_size h ≤ length ls → Standing (all_spots h ls) → Counted (all_spots h ls) (3 * h.latches + 2 * h.outputs) h.latches
  unfolding all_spots latch_spots output_spots gate_spots body_size m
  all_count ls b S =
      let I = h.inputs in
      let L = h.latches in
      let O = h.outputs in
      let A = h.gates in
      let l1 = drop I ls in
      let l2 = drop L l1 in
      let l3 = drop O l2 in
      let d1 = length-drop I ls in
      let d2 = length-drop L l1 in
      let d3 = length-drop O l2 in
      let t1 : length (take I ls) ≡ I = length-take-le I ls (omega arith) in
      let t2 : length (take L l1) ≡ L = length-take-le L l1 (omega arith) in
      let t3 : length (take O l2) ≡ O = length-take-le O l2 (omega arith) in
      let t4 : length (take A l3) ≡ A = length-take-le A l3 (omega arith) in
      let R = section (line_item (input_item h.variables)) 0 0 inputs_weigh (take I ls) _ S _ _ (λ S1.
      section (line_item (latch_item h.variables)) 3 1 latches_weigh (take L l1) _ S1 _ _ (λ S2.
      section (line_item (output_item h.variables)) 2 0 outputs_weigh (take O l2) _ S2 _ _ (λ S3.
      section (line_item (gate_item h.variables)) 0 0 gates_weigh (take A l3) _ S3 0 0 (λ S4. symbols_count (symbol_lines (drop A l3)) S4)))) in
      record { records = R.records ∙ omega arith; latches = R.latches ∙ omega arith }

  -- so many numbers an accepted file's records have, and so many leaves it has
  pub counts : (bytes : List ℕ) (ls : List Line) (all : List ℕ) → is_cut h bytes ls ≡ false → first_bad all [] (spots_at h 0 ls) ≡ nothing → (length (records_of (items (spots_at h 0 ls))) ≡ 3 * h.latches + 2 * h.outputs) × (length (latches_of (items (spots_at h 0 ls))) ≡ h.latches)
  unfolding is_cut
  counts bytes ls all c g =
      let e = spots_all h ls in
      let b : body_size h ≤ length ls = split (ltb (length ls) (body_size h)) (λ t. true_false (rw t refl) c) (λ t. ltb-false (length ls) (body_size h) t) in
      let R = all_count ls b (record { all = all; seen = []; good = rw e g }) in
      (rw e at R.records, rw e at R.latches)

-- lines that stand do so by what they say
pub same_stand : (all seen : List ℕ) (ss ts : List Spot) → items ss ≡ items ts → first_bad all seen ss ≡ nothing → first_bad all seen ts ≡ nothing
unfolding first_bad items
same_stand all seen [] [] e h = refl
same_stand all seen [] (t ∷ ts) e h = absurd (let z : ◌≡◌ {A = ℕ} 0 1 = cc in omega arith)
same_stand all seen (s ∷ ss) [] e h = absurd (let z : ◌≡◌ {A = ℕ} 0 1 = cc in omega arith)
same_stand all seen (s ∷ ss) (t ∷ ts) e h =
    let a : s.item ≡ t.item = cc in
    let b : items ss ≡ items ts = cc in
    split (stands all seen s.item)
    (λ u. let v : stands all seen t.item ≡ true = rw a at u in rw (v, first_bad) (same_stand all (defines t.item ++ seen) ss ts b (rw (u, first_bad, a) at h)))
    (λ u. absurd (let d : found s.at ≡ nothing = rw (u, first_bad) at h in let z : ◌≡◌ {A = ℕ} 0 1 = cc in omega arith))
