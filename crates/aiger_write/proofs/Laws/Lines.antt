-- Lines laid one after the other, and counts. Assumes nothing.
use Prim.Native.Nat.{ℕ, zero, suc, ◌+◌, ◌*◌, ◌≤◌, ◌<◌}
use mathlib.Core.Path.{◌≡◌, refl, sym, ap, ◌∙◌}
use mathlib.Core.Bool.{Bool, true, false, ◌&&◌}
use mathlib.Core.List.{List, [], ◌∷◌, ◌++◌, append_assoc, append-nil}
use native.Mathlib.Numerals.{add-one}
use native.Mathlib.Omega.{arith}
use lib.Dec.{eqb}
use lib.ListN.{length, get_or, take, drop}
use lib.Seq.{drop-cons}
use Rattle.rules.specs.Lists.{count, gather, up_to}
use Rattle.rules.specs.Cells.{empty}
use Rattle.rules.specs.Graph.{leaf, gate, literal_of, node_of, graph_of, pin_count}
use Rattle.rules.specs.Listing.{text, decimal, spaced}
use Rattle.graph.proofs.Gates.{graph_at, drop_two}
use Rattle.rules.proofs.Lists.Members.{split, true_false, count-append}
use Rattle.aiger_form.specs.Text.{numbers_line}
use Rattle.aiger_form.specs.Aag.{header_line}
use Rattle.aiger_write.specs.Lines.{is_input, gate_node, is_gate, row_text, input_text, latch_text, output_text, node_text, gate_text, head_text}
use Rattle.listing_lines.specs.Laid.{Laid}
use Rattle.listing_lines.proofs.Laws.Laid.{laid_none, laid_as, laid_more, laid_size}

up_to_next : (n i : ℕ) → up_to (suc n) i ≡ up_to n i ++ ((i + n) ∷ [])
unfolding up_to
up_to_next zero i = let e : i + 0 ≡ i = omega arith in rw e refl
up_to_next (suc n) i = let e : suc i + n ≡ i + suc n = omega arith in ap (λ (r : List ℕ). i ∷ r) (up_to_next n (suc i) ∙ rw e refl)

gather_append : (f : ℕ → List ℕ) (xs ys : List ℕ) → gather f (xs ++ ys) ≡ gather f xs ++ gather f ys
unfolding gather
gather_append f [] ys = refl
gather_append f (x ∷ xs) ys = rw (gather_append f xs ys) (sym (append_assoc (f x) (gather f xs) (gather f ys)))

gather_next : (f : ℕ → List ℕ) (i : ℕ) → gather f (up_to i 0) ++ f i ≡ gather f (up_to (i + 1) 0)
unfolding gather
gather_next f i = let e : 0 + i ≡ i = omega arith in sym (rw (add-one i, up_to_next i 0, e) (gather_append f (up_to i 0) (i ∷ []) ∙ rw append-nil refl))

-- the first i lines were laid
pub record LaidTo (f : ℕ → List ℕ) (limit at : ℕ) (o : List ℕ) (i r : ℕ) (o' : List ℕ) : Type 0 where
  pub laid : Laid limit at (gather f (up_to i 0)) o r o'

-- before the first line nothing is laid
pub lines_start : {f : ℕ → List ℕ} {limit at : ℕ} {o : List ℕ} → LaidTo f limit at o 0 at o
unfolding gather up_to
lines_start = record { laid = laid_none }

module _ {f : ℕ → List ℕ} {limit at i r : ℕ} {o o' : List ℕ} (L : LaidTo f limit at o i r o') where
  -- one line more
  pub lines_next : {r2 : ℕ} {o2 : List ℕ} → Laid limit r (f i) o' r2 o2 → LaidTo f limit at o (i + 1) r2 o2
  lines_next b = record { laid = laid_as (laid_more L.laid b) (gather_next f i) }

  -- all lines
  pub lines_end : {n : ℕ} → i ≡ n → Laid limit at (gather f (up_to n 0)) o r o'
  lines_end e = laid_as L.laid (rw e refl)

  -- the area keeps its length
  pub lines_size : length o' ≡ length o
  lines_size = laid_size L.laid

count_next : (f : ℕ → Bool) (i : ℕ) → count f (up_to (i + 1) 0) ≡ count f (up_to i 0) + count f (i ∷ [])
count_next f i = let e : 0 + i ≡ i = omega arith in rw (add-one i, up_to_next i 0, e) (count-append f (up_to i 0) (i ∷ []))

-- n of the first i pins pass
pub record Counted (f : ℕ → Bool) (i n : ℕ) : Type 0 where
  pub few : n ≤ i
  pub is : n ≡ count f (up_to i 0)

-- before the first pin none is counted
pub count_start : {f : ℕ → Bool} → Counted f 0 0
unfolding count up_to
count_start = record { few = omega arith; is = refl }

module _ {f : ℕ → Bool} {i n : ℕ} (C : Counted f i n) where
  -- one that passes
  pub count_in : f i ≡ true → Counted f (i + 1) (n + 1)
  unfolding count
  count_in t = record { few = omega (arith, C.few); is = sym (count_next f i ∙ rw (t, count, C.is) refl) }

  -- one that does not
  pub count_out : f i ≡ false → Counted f (i + 1) n
  unfolding count
  count_out t = record { few = omega (arith, C.few); is = sym (count_next f i ∙ rw (t, count, C.is) (omega arith)) }

  -- all pins
  pub count_end : {m : ℕ} → i ≡ m → n ≡ count f (up_to m 0)
  count_end e = C.is ∙ rw e refl

-- ---- one line

-- a header's text, number after number
pub head_is : (m i l o a : ℕ) → text "aag" ++ spaced (m ∷ []) ++ spaced (i ∷ []) ++ spaced (l ∷ []) ++ spaced (o ∷ []) ++ spaced (a ∷ []) ++ text "\n" ≡ head_text m i l o a
unfolding head_text header_line spaced
head_is m i l o a = simp (append_assoc, append-nil)

-- a pin's literal, and numbers behind it
pub pin_row : (p q : ℕ) (rest : List ℕ) → q ≡ p → decimal (2 * q) ++ spaced rest ++ text "\n" ≡ row_text (literal_of p 0 ∷ rest)
unfolding row_text numbers_line literal_of
pin_row p q rest e = let z : 2 * q ≡ 2 * p + 0 = omega arith in rw z refl

-- a number alone
pub number_row : (l q : ℕ) → q ≡ l → decimal q ++ text "\n" ≡ row_text (l ∷ [])
unfolding row_text numbers_line spaced
number_row l q e = rw (e, append-nil) refl

module _ (gates marks : List ℕ) (p : ℕ) where
  -- no input has no line
  pub input_none : is_input gates marks p ≡ false → [] ≡ input_text gates marks p
  unfolding input_text
  input_none f = rw (f, input_text) refl

  -- an input's line
  pub input_some : is_input gates marks p ≡ true → row_text (literal_of p 0 ∷ []) ≡ input_text gates marks p
  unfolding input_text
  input_some t = rw (t, input_text) refl

-- a latch's line, from a part of the records
pub latch_row : (latches records : List ℕ) (i one : ℕ) → one ≡ 1 → 3 * i + 2 < length records → row_text (literal_of (get_or latches i 0) 0 ∷ take one (drop (3 * i + 2) records)) ≡ latch_text latches records i
unfolding latch_text
latch_row latches records i one e h = rw (e, drop-cons records (3 * i + 2) 0 h) refl

-- an output's line
pub output_row : (records : List ℕ) (from i : ℕ) → row_text (get_or records (from + 2 * i + 1) 0 ∷ []) ≡ output_text records from i
unfolding output_text
output_row records from i = refl

-- no gate has no line
pub gate_none : (gates : List ℕ) (p : ℕ) → is_gate gates p ≡ false → [] ≡ gate_text gates p
unfolding gate_text is_gate
gate_none gates p f = at (get_or (graph_of gates) p leaf) f
  where
    at : (x : _) → gate_node x ≡ false → [] ≡ node_text p x
    at leaf e = unfold node_text in refl
    at (gate a b) e = unfold gate_node in (true_false refl e)

-- a gate's line, from a part of the gates
pub gate_some : (gates : List ℕ) (p q two : ℕ) → q ≡ p → two ≡ 2 → p < pin_count gates → is_gate gates p ≡ true → row_text (literal_of p 0 ∷ take two (drop (2 * q) gates)) ≡ gate_text gates p
unfolding gate_text is_gate gate_node node_text node_of
gate_some gates p q two e d h t = rw (e, d, drop_two gates p h, graph_at gates p h) (both (get_or gates (2 * p) 0) (get_or gates (2 * p + 1) 0) (rw (graph_at gates p h) at t))
  where
    both : (a b : ℕ) → gate_node (node_of a b) ≡ true → row_text (literal_of p 0 ∷ a ∷ b ∷ []) ≡ node_text p (node_of a b)
    both a b g = unfold gate_node node_text node_of in (split (eqb a empty && eqb b empty) (λ y. true_false g (rw (y, node_of, gate_node) refl)) (λ n. rw (n, node_of, node_text) refl))
