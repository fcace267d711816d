-- When a file is cut: laws. Assumes nothing.
use Prim.Native.Nat.{ℕ, zero, suc, ◌+◌, ◌-◌, ◌≤◌, ◌<◌}
use mathlib.Core.Path.{◌≡◌, refl, sym, ap, ◌∙◌}
use mathlib.Core.Bool.{Bool, true, false, not, ◌&&◌, ◌||◌}
use mathlib.Core.List.{List, [], ◌∷◌}
use native.Mathlib.Omega.{arith}
use lib.Dec.{eqb, ltb}
use lib.ListN.{length, get_or, drop}
use borrow.Author.Tests.{lt-ltb, le-ltb, ltb-true, ltb-false}
use Rattle.rules.specs.Lists.{same_list}
use Rattle.rules.specs.Listing.{text}
use Rattle.rules.proofs.Lists.Members.{split}
use Rattle.rules.proofs.Bools.{and_right, and_none}
use Rattle.aiger_form.specs.Text.{Line, ended}
use Rattle.aiger_form.specs.Aag.{Header, body_size, is_comment, has_comment, is_cut}
use Rattle.aiger_rows.specs.Rows.{In, stops_at}
use Rattle.aiger_rows.specs.declared.header.Section.{Section}
use Rattle.aiger_rows.specs.declared.header.Section.TheVariants.{Inputs, Latches, Outputs, Gates, Symbols}
use Rattle.aiger_text.specs.Lines.{cut_from, Short}

-- ---- the lines that the header counts

-- a line behind is not counted
pub body_behind : (h : Header) (i : ℕ) → In h i Symbols → false ≡ ltb i (body_size h)
unfolding body_size
body_behind h i a = sym (le-ltb i (body_size h) (omega arith))

-- any other is
pub body_inside : (h : Header) (i : ℕ) (s : Section) → In h i s → (s ≡ Symbols → ⊥) → true ≡ ltb i (body_size h)
unfolding body_size
body_inside h i Inputs a n = sym (lt-ltb i (body_size h) (omega arith))
body_inside h i Latches a n = sym (lt-ltb i (body_size h) (omega arith))
body_inside h i Outputs a n = sym (lt-ltb i (body_size h) (omega arith))
body_inside h i Gates a n = sym (lt-ltb i (body_size h) (omega arith))
body_inside h i Symbols a n = absurd (n refl)

stops_body : (h : Header) (i : ℕ) (line : List ℕ) → i < body_size h → stops_at h i line ≡ false
unfolding stops_at body_size
stops_body h i line e = split (ltb i h.inputs) (λ t. rw (t, stops_at)) (λ t.
    split (ltb (i - h.inputs) h.latches) (λ u. rw (t, stops_at, u)) (λ u.
    split (ltb (i - h.inputs - h.latches) h.outputs) (λ v. rw (t, stops_at, u, v)) (λ v.
    let a = ltb-false i h.inputs t in
    let b = ltb-false (i - h.inputs) h.latches u in
    let c = ltb-false (i - h.inputs - h.latches) h.outputs v in
    let w = lt-ltb (i - h.inputs - h.latches - h.outputs) h.gates (omega arith) in
    rw (t, stops_at, u, v, w))))

stops_behind : (h : Header) (i : ℕ) (line : List ℕ) → body_size h ≤ i → stops_at h i line ≡ same_list line (text "c")
unfolding stops_at body_size
stops_behind h i line e =
    let t = le-ltb i h.inputs (omega arith) in
    let u = le-ltb (i - h.inputs) h.latches (omega arith) in
    let v = le-ltb (i - h.inputs - h.latches) h.outputs (omega arith) in
    let w = le-ltb (i - h.inputs - h.latches - h.outputs) h.gates (omega arith) in
    rw (t, stops_at, u, v, w)

drop_none : (k : ℕ) → ◌≡◌ {A = List Line} (drop k []) []
drop_none zero = refl
drop_none (suc k) = refl

cut_from_lem : (h : Header) (e : Bool) (i : ℕ) (ls : List Line) → cut_from h i e ls ≡ ltb (i + length ls) (body_size h) || (not e && not (has_comment (drop (body_size h - i) ls)))
unfolding cut_from has_comment is_comment
cut_from_lem h e i [] = let z : i + 0 ≡ i = omega arith in rw (z, drop_none (body_size h - i)) (ap (λ (b : Bool). ltb i (body_size h) || b) (sym (and_right (not e))))
cut_from_lem h e i (l ∷ ls) =
    let B = body_size h in
    let I = cut_from_lem h e (suc i) ls in
    let z : i + length (l ∷ ls) ≡ suc i + length ls = omega arith in
    split (ltb i B)
    (λ t. let b = ltb-true i B t in
    let y : B - i ≡ suc (B - suc i) = omega arith in
    rw (stops_body h i l.text b, cut_from, z, y) I)
    (λ t. let b = ltb-false i B t in
    let c = stops_behind h i l.text b in
    let y : B - i ≡ 0 = omega arith in
    let x : B - suc i ≡ 0 = omega arith in
    let n = le-ltb (suc i + length ls) B (omega arith) in
    split (same_list l.text (text "c"))
    (λ u. rw (c ∙ u, cut_from, z, y, n, u, has_comment) (sym (and_none (not e))))
    (λ u. rw (c ∙ u, cut_from, z, y, u, has_comment) (rw x at I)))

-- a file is cut
pub cut_is : (h : Header) (bytes : List ℕ) (ls : List Line) → cut_from h 0 (ended bytes) ls ≡ is_cut h bytes ls
unfolding is_cut
cut_is h bytes ls = let a : 0 + length ls ≡ length ls = omega arith in let b : body_size h - 0 ≡ body_size h = omega arith in rw (a, b) at (cut_from_lem h (ended bytes) 0 ls)

-- a file that ends in a line feed
pub ended_last : (xs : List ℕ) → 0 < length xs → ended xs ≡ eqb (get_or xs (length xs - 1) 0) 10
unfolding ended
ended_last [] h = absurd (omega arith)
ended_last (c ∷ []) h = refl
ended_last (c ∷ d ∷ ds) h = let z : length (c ∷ d ∷ ds) - 1 ≡ suc (length (d ∷ ds) - 1) = omega arith in rw z (ended_last (d ∷ ds) (omega arith))

-- or one that ends in the middle of a line
pub short_end : (H : Header) (i : ℕ) (bytes : List ℕ) → 0 < length bytes → (t : Bool) → t ≡ ltb i (body_size H) → t ≡ false → Short H i bytes (not (eqb (get_or bytes (length bytes - 1) 0) 10))
short_end H i bytes h t q p = let u : ltb i (body_size H) ≡ false = sym q ∙ p in record { is = rw (u, ended_last bytes h) }
