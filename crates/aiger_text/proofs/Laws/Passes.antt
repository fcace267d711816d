-- Laws of the passes. Assumes nothing.
use Prim.Native.Nat.{ℕ, zero, suc, ◌+◌, ◌-◌, ◌*◌, ◌≤◌, ◌<◌}
use mathlib.Core.Path.{◌≡◌, refl, sym, ap, ◌∙◌}
use mathlib.Core.Logic.{◌⊎◌, inl, inr}
use mathlib.Core.Bool.{Bool, true, false, not, ◌&&◌}
use mathlib.Core.List.{List, [], ◌∷◌, ◌++◌}
use native.Mathlib.Omega.{arith}
use lib.Dec.{eqb, leb, ltb}
use lib.ListN.{length, get_or, set, take, drop, length-set, length-drop}
use lib.Seq.{get_or-set_same, get_or-set_other, set_out, drop-drop, length-take-le}
use borrow.Author.Tests.{eqb-true, eqb-false, le-leb, lt-leb, lt-ltb, le-ltb, ne_eqb, eq-eqb}
use Rattle.rules.specs.Lists.{mem, every, keep, same_list}
use Rattle.rules.specs.Listing.{text}
use Rattle.rules.specs.Graph.{pin_of}
use Rattle.rules.proofs.Lists.Members.{split}
use Rattle.aiger_form.specs.Text.{Line, placed, ended}
use Rattle.aiger_form.specs.Aag.{Header, Item, bad_text, skipped, input_line, latch_line, output_line, gate_line, is_text, defines, uses, place_or, Spot, spots, line_item, input_item, latch_item, output_item, gate_item, symbol_item, symbol_lines, is_comment, gate_spots, output_spots, latch_spots, all_spots, body_size, is_cut}
use Rattle.aiger_form.specs.Windows.{window}
use Rattle.aiger_rows.specs.Rows.{row_item, item_at, stops_at}
use Rattle.graph.specs.declared.Literal.{Literal}
use Rattle.aiger_rows.specs.declared.rows.Row.{Row}
use Rattle.aiger_rows.specs.declared.rows.Row.TheVariants.{Symbol, Input, Latch, Output, Gate}
use Rattle.aiger_text.specs.Lines.{cut_from, NoLine, EndLine, NextLine, Short}
use Rattle.aiger_text.specs.Passes.{spots_at, breadth, area, store_item, store_all, Marks, Marked, Passed, fresh_in, noted, pass_over, defined_onto, lines_from, Ready, Swept, Known, Set, Used, first_unknown_in}
use Rattle.aiger_rows.specs.Cursor.{until}
use Rattle.aiger_rows.proofs.Laws.Cursor.{until_length, parts_until, parts_rest}
use Rattle.aiger_text.proofs.Laws.Cut.{cut_is}
use Rattle.aiger_rows.proofs.Laws.Rows.{at_input, at_latch, at_output, at_gate, at_symbol}

-- ---- marks

mem-cons : (v u : ℕ) (seen : List ℕ) → eqb v u ≡ false → mem v (u ∷ seen) ≡ mem v seen
unfolding mem
mem-cons v u seen e = rw (e, mem)

mem_same : (v u : ℕ) (seen : List ℕ) → v ≡ u → mem v (u ∷ seen) ≡ true
unfolding mem
mem_same v u seen e = rw (eq-eqb v u e, mem)

outside : (lo v : ℕ) (seen : List ℕ) → window lo (lo + breadth) v ≡ false → true ≡ every (λ u. not (mem u seen)) (keep (window lo (lo + breadth)) (v ∷ []))
unfolding every keep
outside lo v seen e = rw (e, keep)

inside : (lo v : ℕ) (seen : List ℕ) (r : Bool) → window lo (lo + breadth) v ≡ true → r ≡ not (mem v seen) → r ≡ every (λ u. not (mem u seen)) (keep (window lo (lo + breadth)) (v ∷ []))
unfolding every keep
inside lo v seen r e d = rw (e, keep) (d ∙ one (not (mem v seen)))
  where
    one : (t : Bool) → t ≡ elim t [ true ↦ true | false ↦ false ]
    one true = refl
    one false = refl

-- a variable outside the window
pub marked_outside : (lo v : ℕ) (map : List ℕ) → (v < lo) ⊎ (lo + breadth ≤ v) → Marked lo v map map true
unfolding window
marked_outside lo v map o = record {
  len = refl;
  marks = λ seen M. record { wide = M.wide; are = λ u a b. M.are u a b ∙ ap not (sym (mem-cons u v seen (ne_eqb u v (λ e. no o u a b e)))) };
  new = λ seen M. outside lo v seen (out o);
}
  where
    no : (v < lo) ⊎ (lo + breadth ≤ v) → (u : ℕ) → lo ≤ u → u < lo + breadth → u ≡ v → ⊥
    no (inl l) u a b e = omega arith
    no (inr l) u a b e = omega arith

    out : (v < lo) ⊎ (lo + breadth ≤ v) → leb lo v && ltb v (lo + breadth) ≡ false
    out (inl l) = rw (lt-leb lo v l)
    out (inr l) = rw (le-ltb v (lo + breadth) l, le-leb lo v (omega arith))

-- one inside
pub marked_inside : (lo v k : ℕ) (map map' : List ℕ) (r : Bool) → lo ≤ v → k ≡ v - lo → k < length map → length map ≡ breadth → map' ≡ set map k 1 → r ≡ eqb (get_or map k 0) 0 → Marked lo v map map' r
unfolding window
marked_inside lo v k map map' r a e b w m d = record {
  len = rw m (length-set map k 1);
  marks = λ seen M. record { wide = rw m (length-set map k 1 ∙ M.wide); are = λ u x y. rw m (at seen M u x y) };
  new = λ seen M. inside lo v seen r (rw (le-leb lo v a, lt-ltb v (lo + breadth) (omega arith))) (d ∙ ap (λ (n : ℕ). eqb (get_or map n 0) 0) e ∙ M.are v a (omega arith));
}
  where
    at : (seen : List ℕ) → Marks lo seen map → (u : ℕ) → lo ≤ u → u < lo + breadth → eqb (get_or (set map k 1) (u - lo) 0) 0 ≡ not (mem u (v ∷ seen))
    at seen M u x y = split (eqb u v)
        (λ t. let q = eqb-true u v t in let z : u - lo ≡ k = omega arith in rw (z, get_or-set_same map k 1 0 b, mem_same u v seen q))
        (λ t. let q = eqb-false u v t in rw (get_or-set_other map k (u - lo) 1 0 (λ z. q (omega arith)), mem-cons u v seen t) (M.are u x y))

-- ---- a line

-- a line that defines none
pub passed_none : (lo : ℕ) (x : Item) (map : List ℕ) (r : Bool) → defines x ≡ [] → r ≡ is_text x → Passed lo x map map r
unfolding fresh_in every keep
passed_none lo x map r d t = record { len = refl; marks = λ seen M. rw d M; new = λ seen M. rw d (t ∙ sym (and_right' (is_text x))) }
  where
    and_right' : (b : Bool) → b && true ≡ b
    and_right' true = refl
    and_right' false = refl

-- one that defines one
pub passed_one : (lo v : ℕ) (x : Item) (map map' : List ℕ) (r : Bool) → defines x ≡ v ∷ [] → is_text x ≡ true → Marked lo v map map' r → Passed lo x map map' r
unfolding fresh_in
passed_one lo v x map map' r d t M = record { len = M.len; marks = λ seen N. rw d (M.marks seen N); new = λ seen N. rw (t, d) (M.new seen N) }

-- ---- the sections, one line after the other

module _ (h : Header) where
  section : (f : List ℕ → Item) (n i : ℕ) → ((k : ℕ) → i ≤ k → k < i + n → (line : List ℕ) → (f line ≡ item_at h k line) × (false ≡ stops_at h k line)) → (ls : List Line) → spots f (take n ls) ++ spots_at h (i + n) (drop n ls) ≡ spots_at h i ls
  unfolding spots spots_at
  section f zero i e ls = let z : i + 0 ≡ i = omega arith in rw z
  section f (suc n) i e [] = refl
  section f (suc n) i e (l ∷ ls) =
      let w = e i (omega arith) (omega arith) l.text in
      let z : i + suc n ≡ suc i + n = omega arith in
      rw (← w.1, spots_at, w.0, z) (ap (λ (r : List Spot). record { at = l.at; item = item_at h i l.text } ∷ r) (section f n (suc i) (λ k a b. e k (omega arith) (omega arith)) ls))

  symbols : (i : ℕ) → body_size h ≤ i → (ls : List Line) → spots (symbol_item h) (symbol_lines ls) ≡ spots_at h i ls
  unfolding spots spots_at symbol_lines is_comment body_size
  symbols i e [] = refl
  symbols i e (l ∷ ls) =
      let w = at_symbol h i l.text (omega arith) (omega arith) (omega arith) (omega arith) in
      split (same_list l.text (text "c"))
      (λ t. let u : stops_at h i l.text ≡ true = sym w.1 ∙ t in rw (t, u, symbol_lines, spots_at))
      (λ t. let u : stops_at h i l.text ≡ false = sym w.1 ∙ t in rw (t, u, symbol_lines, spots_at, ← w.0) (ap (λ (r : List Spot). record { at = l.at; item = symbol_item h l.text } ∷ r) (symbols (suc i) (omega arith) ls)))

  -- all lines, one after the other
  pub spots_all : (ls : List Line) → all_spots h ls ≡ spots_at h 0 ls
  unfolding all_spots latch_spots output_spots gate_spots body_size
  spots_all ls =
      let I = h.inputs in
      let L = h.latches in
      let O = h.outputs in
      let A = h.gates in
      let s1 = section (line_item (input_item h.variables)) I 0 (λ k a b line. at_input h k line (omega arith)) ls in
      let s2 = section (line_item (latch_item h.variables)) L (0 + I) (λ k a b line. at_latch h k line (omega arith) (omega arith)) (drop I ls) in
      let s3 = section (line_item (output_item h.variables)) O (0 + I + L) (λ k a b line. at_output h k line (omega arith) (omega arith) (omega arith)) (drop L (drop I ls)) in
      let s4 = section (line_item (gate_item h.variables)) A (0 + I + L + O) (λ k a b line. at_gate h k line (omega arith) (omega arith) (omega arith) (omega arith)) (drop O (drop L (drop I ls))) in
      let s5 = symbols (0 + I + L + O + A) (omega arith) (drop A (drop O (drop L (drop I ls)))) in
      rw (s5, s4, s3, s2, s1) refl

-- ---- line by line

module _ (bytes : List ℕ) (at e : ℕ) (h : at ≤ length bytes) (d : e ≡ at + until 10 (drop at bytes)) where
  -- a line lies in the file
  pub line_inside : (at ≤ e) × (e ≤ length bytes)
  line_inside = let u = until_length 10 (drop at bytes) in let l = length-drop at bytes in (omega arith, omega arith)

  -- no line is left
  pub line_last : length bytes ≤ e → lines_from bytes at ≡ []
  unfolding lines_from placed
  line_last k = let l = length-drop at bytes in rw (parts_rest 10 (drop at bytes) (omega arith))

  -- one line
  pub line_next : e < length bytes → lines_from bytes at ≡ record { at = at; text = take (e - at) (drop at bytes) } ∷ lines_from bytes (e + 1)
  unfolding lines_from placed
  line_next k =
      let l = length-drop at bytes in
      let q : until 10 (drop at bytes) ≡ e - at = omega arith in
      let s = parts_until 10 (drop at bytes) (omega arith) in
      let t : length (take (e - at) (drop at bytes)) ≡ e - at = length-take-le (e - at) (drop at bytes) (omega arith) in
      let w : drop (suc (e - at)) (drop at bytes) ≡ drop (e + 1) bytes = drop-drop (suc (e - at)) at bytes ∙ (let y : at + suc (e - at) ≡ e + 1 = omega arith in rw y) in
      let z : at + suc (length (take (e - at) (drop at bytes))) ≡ e + 1 = omega arith in
      rw (s, q, placed, z, w)

-- ---- the pass that marks and stores

-- what holds before the i-th line, at a place
pub record Scan (H : Header) (start lo : ℕ) (bytes map₀ map w₀ w : List ℕ) (at i first : ℕ) : Type 0 where
  pub seen : List ℕ
  pub marks : Marks lo seen map
  pub here : pass_over (window lo (lo + breadth)) seen first (spots_at H i (lines_from bytes at)) ≡ pass_over (window lo (lo + breadth)) [] (length bytes) (spots_at H 0 (lines_from bytes start))
  pub onto : defined_onto seen (spots_at H i (lines_from bytes at)) ≡ defined_onto [] (spots_at H 0 (lines_from bytes start))
  pub stored : store_all (spots_at H i (lines_from bytes at)) w ≡ store_all (spots_at H 0 (lines_from bytes start)) w₀
  pub cut : cut_from H i (ended bytes) (lines_from bytes at) ≡ is_cut H bytes (lines_from bytes start)
  pub some : 0 < length bytes
  pub inside : at ≤ length bytes
  pub few : i ≤ at
  pub len : length map ≡ length map₀
  pub size : length w ≡ length w₀
  pub wide : length w ≡ area

-- before the first line
pub scan_start : (H : Header) (start lo : ℕ) (bytes map w : List ℕ) → Ready start lo bytes map w → Scan H start lo bytes map map w w start 0 (length bytes)
scan_start H start lo bytes map w R = record { seen = []; marks = R.blank; here = refl; onto = refl; stored = refl; cut = cut_is H bytes (lines_from bytes start); some = omega (arith, R.some, R.inside); inside = R.inside; few = omega arith; len = refl; size = refl; wide = R.wide }

-- storing keeps the length
pub store_length : (x : Item) (w : List ℕ) → length (store_item x w) ≡ length w
unfolding store_item
store_length bad_text w = refl
store_length skipped w = refl
store_length (input_line l) w = refl
store_length (latch_line l n r) w = refl
store_length (output_line l) w = refl
store_length (gate_line l a b) w = length-set (set w (2 * pin_of l) a) (2 * pin_of l + 1) b ∙ length-set w (2 * pin_of l) a

-- a line of another kind is not stored
pub store_other : (x : Row) (w : List ℕ) → ((l a b : Literal) → x ≡ Gate l a b → ⊥) → w ≡ store_item (row_item x) w
unfolding row_item store_item
store_other Symbol w n = refl
store_other (Input l) w n = refl
store_other (Latch l m r) w n = refl
store_other (Output l) w n = refl
store_other (Gate l a b) w n = absurd (n l a b refl)

-- a gate of a pin that the area has no room for is not stored
pub store_past : (w : List ℕ) (l a b p : ℕ) → p ≡ pin_of l → 65536 ≤ p → length w ≡ area → w ≡ store_item (gate_line l a b) w
unfolding store_item
store_past w l a b p e h k = sym (set_out (set w (2 * pin_of l) a) (2 * pin_of l + 1) b (rw (length-set w (2 * pin_of l) a) (omega arith)) ∙ set_out w (2 * pin_of l) a (omega arith))

module _ {H : Header} {start lo : ℕ} {bytes map₀ map w₀ w : List ℕ} {at i first : ℕ} (S : Scan H start lo bytes map₀ map w₀ w at i first) where
  scan_over : spots_at H i (lines_from bytes at) ≡ [] → (c : Bool) → c ≡ cut_from H i (ended bytes) (lines_from bytes at) → Swept H start lo bytes map₀ map w₀ w (record { first = first; cut = c })
  unfolding pass_over defined_onto store_all
  scan_over z c e = record {
    len = S.len;
    first = let q : first ≡ pass_over (window lo (lo + breadth)) S.seen first (spots_at H i (lines_from bytes at)) = rw z in q ∙ S.here;
    cut = e ∙ S.cut;
    marks = let q : S.seen ≡ defined_onto S.seen (spots_at H i (lines_from bytes at)) = rw z in rw (← S.onto, ← q) S.marks;
    stored = let q : w ≡ store_all (spots_at H i (lines_from bytes at)) w = rw z in q ∙ S.stored;
  }

  -- no line is left
  pub scan_last : NoLine H i at bytes → (c : Bool) → Short H i bytes c → Swept H start lo bytes map₀ map w₀ w (record { first = first; cut = c })
  scan_last L c s = scan_over L.spots c (s.is ∙ sym (L.cut (ended bytes)))

  -- a comment ends the lines
  pub scan_stop : EndLine H i at bytes → Swept H start lo bytes map₀ map w₀ w (record { first = first; cut = false })
  scan_stop L = scan_over L.spots false (sym (L.cut (ended bytes)))

  module _ {x : Item} {e : ℕ} (L : NextLine H i at bytes x e) where
    passed_on : (first' : ℕ) → first' ≡ noted (fresh_in (window lo (lo + breadth)) S.seen x) first at → pass_over (window lo (lo + breadth)) (defines x ++ S.seen) first' (spots_at H (i + 1) (lines_from bytes (e + 1))) ≡ pass_over (window lo (lo + breadth)) S.seen first (spots_at H i (lines_from bytes at))
    unfolding pass_over
    passed_on first' g = rw (L.spots, g)

    onto_on : defined_onto (defines x ++ S.seen) (spots_at H (i + 1) (lines_from bytes (e + 1))) ≡ defined_onto S.seen (spots_at H i (lines_from bytes at))
    unfolding defined_onto
    onto_on = rw L.spots

    stored_on : store_all (spots_at H (i + 1) (lines_from bytes (e + 1))) (store_item x w) ≡ store_all (spots_at H i (lines_from bytes at)) w
    unfolding store_all
    stored_on = rw L.spots

    -- one line more
    pub scan_more : (map' w' : List ℕ) (good : Bool) → w' ≡ store_item x w → Passed lo x map map' good → (first' : ℕ) → first' ≡ noted good first at → Scan H start lo bytes map₀ map' w₀ w' (e + 1) (i + 1) first'
    scan_more map' w' good g P first' f =
        let n : length w' ≡ length w = ap length g ∙ store_length x w in
        record {
          seen = defines x ++ S.seen;
          marks = P.marks S.seen S.marks;
          here = passed_on first' (f ∙ ap (λ (b : Bool). noted b first at) (P.new S.seen S.marks)) ∙ S.here;
          onto = onto_on ∙ S.onto;
          stored = rw g (stored_on ∙ S.stored);
          cut = sym (L.cut (ended bytes)) ∙ S.cut;
          some = S.some;
          inside = omega (arith, L.inside);
          few = omega (arith, S.few, L.from);
          len = P.len ∙ S.len;
          size = n ∙ S.size;
          wide = n ∙ S.wide;
        }

-- ---- uses

known_out : (lo v : ℕ) (map : List ℕ) → (v < lo) ⊎ (lo + breadth ≤ v) → leb lo v && ltb v (lo + breadth) ≡ false
known_out lo v map (inl l) = rw (lt-leb lo v l)
known_out lo v map (inr l) = rw (le-ltb v (lo + breadth) l, le-leb lo v (omega arith))

-- a variable outside the window
pub known_outside : (lo v : ℕ) (map : List ℕ) → (v < lo) ⊎ (lo + breadth ≤ v) → Known lo (v ∷ []) map true
unfolding every keep window
known_outside lo v map o = record { is = λ seen M. rw (known_out lo v map o, keep) }

-- the constant
pub known_zero : (lo v : ℕ) (map : List ℕ) → v ≡ 0 → Known lo (v ∷ []) map true
unfolding every keep mem
known_zero lo v map e = record { is = λ seen M. rw e (split (window lo (lo + breadth) 0) (λ t. rw (t, keep)) (λ t. rw (t, keep))) }

-- one inside
pub known_inside : (lo v k : ℕ) (map : List ℕ) (r : Bool) → (v ≡ 0 → ⊥) → lo ≤ v → k ≡ v - lo → k < length map → length map ≡ breadth → r ≡ not (eqb (get_or map k 0) 0) → Known lo (v ∷ []) map r
unfolding every keep window
known_inside lo v k map r z a e b w d = record {
  is = λ seen M.
      let q : window lo (lo + breadth) v ≡ true = rw (window, le-leb lo v a, lt-ltb v (lo + breadth) (omega arith)) in
      let f : r ≡ mem v (0 ∷ seen) = d ∙ ap (λ (n : ℕ). not (eqb (get_or map n 0) 0)) e ∙ ap not (M.are v a (omega arith)) ∙ twice (mem v seen) ∙ sym (mem-cons v 0 seen (ne_eqb v 0 z)) in
      rw (q, keep) (f ∙ one (mem v (0 ∷ seen)));
}
  where
    twice : (t : Bool) → not (not t) ≡ t
    twice true = refl
    twice false = refl

    one : (t : Bool) → t ≡ elim t [ true ↦ true | false ↦ false ]
    one true = refl
    one false = refl

-- no variable
pub known_none : (lo : ℕ) (vs map : List ℕ) → vs ≡ [] → Known lo vs map true
unfolding every keep
known_none lo vs map e = record { is = λ seen M. rw e }

every_two : (P f : ℕ → Bool) (v u : ℕ) → every P (keep f (v ∷ u ∷ [])) ≡ every P (keep f (v ∷ [])) && every P (keep f (u ∷ []))
unfolding every keep
every_two P f v u = split (f v)
    (λ t. split (P v) (λ p. rw (t, keep, p, every)) (λ p. rw (t, keep, p, every)))
    (λ t. rw (t, keep))

-- two uses
pub known_both : (lo a b : ℕ) (map : List ℕ) (s r : Bool) → s ≡ true → Known lo (a ∷ []) map s → Known lo (b ∷ []) map r → Known lo (a ∷ b ∷ []) map r
known_both lo a b map s r q K J = record { is = λ seen M. let t = sym q ∙ K.is seen M in rw (every_two (λ u. mem u (0 ∷ seen)) (window lo (lo + breadth)) a b, ← t) (J.is seen M) }

-- the first of which is unknown
pub known_not : (lo a b : ℕ) (map : List ℕ) (s : Bool) → s ≡ false → Known lo (a ∷ []) map s → Known lo (a ∷ b ∷ []) map false
known_not lo a b map s q K = record { is = λ seen M. let t = sym q ∙ K.is seen M in rw (every_two (λ u. mem u (0 ∷ seen)) (window lo (lo + breadth)) a b, ← t) refl }

-- what holds before the i-th line, at a place
pub record Look (H : Header) (start lo : ℕ) (bytes map : List ℕ) (at i : ℕ) : Type 0 where
  pub here : (seen : List ℕ) → Marks lo seen map → place_or (length bytes) (first_unknown_in (window lo (lo + breadth)) (0 ∷ seen) (spots_at H i (lines_from bytes at))) ≡ place_or (length bytes) (first_unknown_in (window lo (lo + breadth)) (0 ∷ seen) (spots_at H 0 (lines_from bytes start)))
  pub inside : at ≤ length bytes
  pub few : i ≤ at

-- before the first line
pub look_start : (H : Header) (start lo : ℕ) (bytes map : List ℕ) → Set start bytes map → Look H start lo bytes map start 0
look_start H start lo bytes map S = record { here = λ seen M. refl; inside = S.inside; few = omega arith }

module _ {H : Header} {start lo : ℕ} {bytes map : List ℕ} {at i : ℕ} (S : Look H start lo bytes map at i) where
  -- no line is left
  pub look_over : spots_at H i (lines_from bytes at) ≡ [] → Used H start lo bytes map (length bytes)
  unfolding first_unknown_in place_or
  look_over z = record { is = λ seen M. let q : length bytes ≡ place_or (length bytes) (first_unknown_in (window lo (lo + breadth)) (0 ∷ seen) (spots_at H i (lines_from bytes at))) = rw z in q ∙ S.here seen M }

  module _ {x : Item} {e : ℕ} (L : NextLine H i at bytes x e) (good : Bool) (K : Known lo (uses x) map good) where
    -- a line that uses an unknown variable
    pub look_found : good ≡ false → Used H start lo bytes map at
    unfolding first_unknown_in place_or
    look_found g = record {
      is = λ seen M.
          let u = sym g ∙ K.is seen M in
          let w : at ≡ place_or (length bytes) (first_unknown_in (window lo (lo + breadth)) (0 ∷ seen) (spots_at H i (lines_from bytes at))) = rw (L.spots, first_unknown_in, ← u) in
          w ∙ S.here seen M;
    }

    -- one line more
    pub look_more : good ≡ true → Look H start lo bytes map (e + 1) (i + 1)
    unfolding first_unknown_in
    look_more g = record {
      here = λ seen M.
          let u = sym g ∙ K.is seen M in
          let w : place_or (length bytes) (first_unknown_in (window lo (lo + breadth)) (0 ∷ seen) (spots_at H (i + 1) (lines_from bytes (e + 1)))) ≡ place_or (length bytes) (first_unknown_in (window lo (lo + breadth)) (0 ∷ seen) (spots_at H i (lines_from bytes at))) = rw (L.spots, first_unknown_in, ← u) in
          w ∙ S.here seen M;
      inside = omega (arith, L.inside);
      few = omega (arith, S.few, L.from);
    }
