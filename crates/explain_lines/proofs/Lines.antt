-- Lines in the caller's list: six stores are a line, lines behind lines, and all of them where they fit. Assumes nothing.
use Prim.Native.Nat.{ℕ, zero, suc, ◌+◌, ◌*◌, ◌<◌, ◌≤◌}
use mathlib.Core.Path.{◌≡◌, refl, sym, ap, ◌∙◌}
use mathlib.Core.Bool.{true, false}
use mathlib.Core.List.{List, [], ◌∷◌, ◌++◌, append_assoc}
use native.Mathlib.Omega.{arith}
use lib.Dec.{leb}
use lib.ListN.{length, set, take, drop, length-append, length-drop, length-set}
use lib.Seq.{take_all, take-append-le, drop-append-le, drop-drop, take_at, drop_at}
use borrow.Author.Tests.{leb-true, leb-false, le-leb}
use Rattle.rules.specs.Lists.{laid_over, laid_at}
use Rattle.rules.proofs.Lists.Members.{split}
use Rattle.stage_runs.proofs.Laws.Laid.{laid_none, laid_more, laid_length}
use Rattle.why_form.specs.Why.{Line, numbers, numbers_of}
use Rattle.why_form.proofs.Told.{numbers_length}
use Rattle.explain_lines.specs.Lines.{put_six, put_lines}

-- six stores
pub six_stores : (n : ℕ) (list : List ℕ) (a b c d e f : ℕ) {l1 l2 l3 l4 l5 l6 : List ℕ} → 6 * n + 6 ≤ length list →
    l1 ≡ set list (6 * n) a → l2 ≡ set l1 (6 * n + 1) b → l3 ≡ set l2 (6 * n + 2) c → l4 ≡ set l3 (6 * n + 3) d → l5 ≡ set l4 (6 * n + 4) e → l6 ≡ set l5 (6 * n + 5) f →
    l6 ≡ put_six n (a ∷ b ∷ c ∷ d ∷ e ∷ f ∷ []) list
unfolding put_six
six_stores n list a b c d e f {l1} {l2} {l3} {l4} {l5} {l6} h e1 e2 e3 e4 e5 e6 =
    let z : 6 * n + 0 ≡ 6 * n = omega arith in
    let s1 = laid_more (6 * n) list [] a (omega arith) in
    let q1 : set list (6 * n) a ≡ laid_at (6 * n) (a ∷ []) list = rw (laid_none, z) at s1 in
    let q2 = laid_more (6 * n) list (a ∷ []) b (omega arith) in
    let q3 = laid_more (6 * n) list (a ∷ b ∷ []) c (omega arith) in
    let q4 = laid_more (6 * n) list (a ∷ b ∷ c ∷ []) d (omega arith) in
    let q5 = laid_more (6 * n) list (a ∷ b ∷ c ∷ d ∷ []) e (omega arith) in
    let q6 = laid_more (6 * n) list (a ∷ b ∷ c ∷ d ∷ e ∷ []) f (omega arith) in
    let r1 : l1 ≡ laid_at (6 * n) (a ∷ []) list = e1 ∙ q1 in
    let r2 : l2 ≡ laid_at (6 * n) (a ∷ b ∷ []) list = e2 ∙ (rw r1 q2) in
    let r3 : l3 ≡ laid_at (6 * n) (a ∷ b ∷ c ∷ []) list = e3 ∙ (rw r2 q3) in
    let r4 : l4 ≡ laid_at (6 * n) (a ∷ b ∷ c ∷ d ∷ []) list = e4 ∙ (rw r3 q4) in
    let r5 : l5 ≡ laid_at (6 * n) (a ∷ b ∷ c ∷ d ∷ e ∷ []) list = e5 ∙ (rw r4 q5) in
    let r6 : l6 ≡ laid_at (6 * n) (a ∷ b ∷ c ∷ d ∷ e ∷ f ∷ []) list = e6 ∙ (rw r5 q6) in
    r6 ∙ rw (le-leb (6 * n + 6) (length list) h, put_six) refl

-- a line that does not fit
pub six_none : (n : ℕ) (xs list : List ℕ) → length list < 6 * n + 6 → list ≡ put_six n xs list
unfolding put_six
six_none n xs list h = split (leb (6 * n + 6) (length list)) (λ b. absurd (omega (arith, leb-true (6 * n + 6) (length list) b))) (λ b. rw (b, put_six) refl)

six_length : (n : ℕ) (xs list : List ℕ) → length xs ≡ 6 → length (put_six n xs list) ≡ length list
unfolding put_six
six_length n xs list l = split (leb (6 * n + 6) (length list)) (λ b. rw (b, put_six) (laid_length (6 * n) list xs (omega (arith, leb-true (6 * n + 6) (length list) b)))) (λ b. rw (b, put_six) refl)

-- lines behind lines
pub lines_more : (n : ℕ) (xs ys : List Line) (list : List ℕ) → put_lines n (xs ++ ys) list ≡ put_lines (n + length xs) ys (put_lines n xs list)
unfolding put_lines
lines_more n [] ys list = let z : n + 0 ≡ n = omega arith in rw z refl
lines_more n (x ∷ xs) ys list =
    let z : n + 1 + length xs ≡ n + suc (length xs) = omega arith in
    lines_more (n + 1) xs ys (put_six n (numbers x) list) ∙ ap (λ (i : ℕ). put_lines i ys (put_lines (n + 1) xs (put_six n (numbers x) list))) z

six_numbers : (x : Line) → length (numbers x) ≡ 6
unfolding numbers_of
six_numbers x = let h = numbers_length (x ∷ []) in omega (arith, h, length-append (numbers x) [])

-- the list's length stays
pub lines_length : (n : ℕ) (xs : List Line) (list : List ℕ) → length (put_lines n xs list) ≡ length list
unfolding put_lines
lines_length n [] list = refl
lines_length n (x ∷ xs) list = lines_length (n + 1) xs (put_six n (numbers x) list) ∙ six_length n (numbers x) list (six_numbers x)

-- a line behind whole lines
six_behind : (n : ℕ) (xs front rest : List ℕ) → length xs ≡ 6 → length front ≡ 6 * n → 6 ≤ length rest → put_six n xs (front ++ rest) ≡ (front ++ xs) ++ drop 6 rest
unfolding put_six laid_at
six_behind n xs front rest l f h =
    let b : leb (6 * n + 6) (length (front ++ rest)) ≡ true = le-leb (6 * n + 6) (length (front ++ rest)) (omega (arith, length-append front rest)) in
    let t : take (6 * n) (front ++ rest) ≡ front = take_at front rest (6 * n) f in
    let d : drop (6 * n + length xs) (front ++ rest) ≡ drop 6 rest = rw l (sym (drop-drop 6 (6 * n) (front ++ rest)) ∙ ap (drop 6) (drop_at front rest (6 * n) f)) in
    rw (b, put_six, t, d) (sym (append_assoc front xs (drop 6 rest)))

-- all lines where they fit
lines_behind : (n : ℕ) (xs : List Line) (front rest : List ℕ) → length front ≡ 6 * n → 6 * length xs ≤ length rest → put_lines n xs (front ++ rest) ≡ front ++ laid_over (numbers_of xs) rest
unfolding put_lines numbers_of laid_over
lines_behind n [] front rest f h = refl
lines_behind n (x ∷ xs) front rest f h =
    let l : length (numbers x) ≡ 6 = six_numbers x in
    let k = lines_behind (n + 1) xs (front ++ numbers x) (drop 6 rest) (length-append front (numbers x) ∙ omega arith) (omega (arith, length-drop 6 rest)) in
    let e : 6 + length (numbers_of xs) ≡ length (numbers x ++ numbers_of xs) = omega (arith, length-append (numbers x) (numbers_of xs)) in
    let d : drop (length (numbers_of xs)) (drop 6 rest) ≡ drop (length (numbers x ++ numbers_of xs)) rest = drop-drop (length (numbers_of xs)) 6 rest ∙ ap (λ (i : ℕ). drop i rest) e in
    let q : numbers x ++ (numbers_of xs ++ drop (length (numbers_of xs)) (drop 6 rest)) ≡ (numbers x ++ numbers_of xs) ++ drop (length (numbers x ++ numbers_of xs)) rest = rw d (sym (append_assoc (numbers x) (numbers_of xs) (drop (length (numbers x ++ numbers_of xs)) rest))) in
    ap (put_lines (n + 1) xs) (six_behind n (numbers x) front rest l f (omega arith)) ∙ k ∙ append_assoc front (numbers x) (numbers_of xs ++ drop (length (numbers_of xs)) (drop 6 rest)) ∙ ap (λ (ys : List ℕ). front ++ ys) q

-- a list that is long enough holds all lines
pub lines_all : (xs : List Line) (list : List ℕ) → 6 * length xs ≤ length list → put_lines 0 xs list ≡ laid_over (numbers_of xs) list
lines_all xs list h = lines_behind 0 xs [] list refl h
