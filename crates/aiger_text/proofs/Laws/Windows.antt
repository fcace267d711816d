-- A window's two passes find its first bad line. Assumes nothing.
use Prim.Native.Nat.{ℕ, zero, suc, min, ◌+◌, ◌-◌, ◌≤◌}
use mathlib.Core.Path.{◌≡◌, refl, ap, ◌∙◌}
use mathlib.Core.Bool.{Bool, true, false, ◌&&◌, ◌||◌}
use mathlib.Core.List.{List, [], ◌∷◌, ◌++◌}
use native.Mathlib.Omega.{arith}
use lib.Dec.{eqb}
use lib.ListN.{length, get_or, drop, replicate, length-replicate}
use Rattle.rules.specs.Lists.{mem, every, keep}
use Rattle.rules.proofs.Lists.Members.{split}
use Rattle.aiger_form.specs.Text.{placed, parts}
use Rattle.aiger_text.proofs.Laws.Passes.{spots_all}
use Rattle.aiger_form.specs.Aag.{Header, Item, Spot, is_text, defines, uses, place_or, items, gather_items, defined}
use Rattle.aiger_form.specs.Windows.{window, stands_in, first_bad_in}
use Rattle.aiger_form.proofs.Windows.{Rising, stop, step, all_rising}
use Rattle.aiger_text.specs.Passes.{spots_at, fresh_in, first_again_in, first_unknown_in, breadth, Marks, noted, pass_over, defined_onto, lines_from, Swept, Used, bad_in}
use Rattle.aiger_text.specs.declared.passes.Sweep.{Sweep}

-- ---- the first pass

pass_stays : (f : ℕ → Bool) (seen : List ℕ) {k : ℕ} {ss : List Spot} → Rising k ss → (first : ℕ) → first ≤ k → pass_over f seen first ss ≡ first
unfolding pass_over
pass_stays f seen stop first h = refl
pass_stays f seen (step {s = s} {ss = ss} b r) first h = rw (same (fresh_in f seen s.item)) (pass_stays f (defines s.item ++ seen) r first (omega arith))
  where
    same : (t : Bool) → noted t first s.at ≡ first
    same true = unfold noted in refl
    same false = unfold noted in omega arith

-- a pass finds the first line that is not fresh
pub pass_first : (f : ℕ → Bool) (seen : List ℕ) (N : ℕ) {k : ℕ} {ss : List Spot} → Rising k ss → pass_over f seen N ss ≡ min N (place_or N (first_again_in f seen ss))
unfolding pass_over first_again_in place_or noted
pass_first f seen N stop = omega arith
pass_first f seen N (step {s = s} {ss = ss} b r) = split (fresh_in f seen s.item)
    (λ t. rw (t, noted, first_again_in) (pass_first f (defines s.item ++ seen) N r))
    (λ t. rw (t, noted, first_again_in) (pass_stays f (defines s.item ++ seen) r (min N s.at) (omega arith)))

-- ---- both

again_later : (f : ℕ → Bool) (seen : List ℕ) (N : ℕ) {k : ℕ} {ss : List Spot} → Rising k ss → min N k ≤ min N (place_or N (first_again_in f seen ss))
unfolding first_again_in place_or
again_later f seen N stop = omega arith
again_later f seen N (step {s = s} {ss = ss} b r) = split (fresh_in f seen s.item)
    (λ t. rw (t, first_again_in) (let q = again_later f (defines s.item ++ seen) N r in omega arith))
    (λ t. rw (t, first_again_in) (omega arith))

unknown_later : (f : ℕ → Bool) (all : List ℕ) (N : ℕ) {k : ℕ} {ss : List Spot} → Rising k ss → min N k ≤ min N (place_or N (first_unknown_in f all ss))
unfolding first_unknown_in place_or
unknown_later f all N stop = omega arith
unknown_later f all N (step {s = s} {ss = ss} b r) = split (every (λ v. mem v all) (keep f (uses s.item)))
    (λ t. rw (t, first_unknown_in) (let q = unknown_later f all N r in omega arith))
    (λ t. rw (t, first_unknown_in) (omega arith))

stands_parts : (f : ℕ → Bool) (all seen : List ℕ) (x : Item) → stands_in f all seen x ≡ fresh_in f seen x && every (λ v. mem v all) (keep f (uses x))
unfolding stands_in fresh_in
stands_parts f all seen x = assoc (is_text x) _ _
  where
    assoc : (a b c : Bool) → a && (b && c) ≡ (a && b) && c
    assoc true b c = refl
    assoc false b c = refl

-- two passes find the first bad line
pub bad_parts : (f : ℕ → Bool) (all seen : List ℕ) (N : ℕ) {k : ℕ} {ss : List Spot} → Rising k ss → min N (place_or N (first_bad_in f all seen ss)) ≡ min (min N (place_or N (first_again_in f seen ss))) (min N (place_or N (first_unknown_in f all ss)))
unfolding first_bad_in first_again_in first_unknown_in place_or
bad_parts f all seen N stop = omega arith
bad_parts f all seen N (step {s = s} {ss = ss} b r) =
    let x = s.item in
    let P = stands_parts f all seen x in
    split (fresh_in f seen x)
    (λ t. split (every (λ v. mem v all) (keep f (uses x)))
    (λ u. let w : stands_in f all seen x ≡ true = rw (t, u) at P in rw (t, u, w, first_bad_in, first_again_in, first_unknown_in) (bad_parts f all (defines x ++ seen) N r))
    (λ u. let w : stands_in f all seen x ≡ false = rw (t, u) at P in rw (t, u, w, first_bad_in, first_again_in, first_unknown_in) (let q = again_later f (defines x ++ seen) N r in omega arith)))
    (λ t. let w : stands_in f all seen x ≡ false = rw t at P in split (every (λ v. mem v all) (keep f (uses x)))
    (λ u. rw (t, u, w, first_bad_in, first_again_in, first_unknown_in) (let q = unknown_later f all N r in omega arith))
    (λ u. rw (t, u, w, first_bad_in, first_again_in, first_unknown_in) (omega arith)))

-- ---- what all lines define, in either order

or_mix : (x d s : Bool) → d || (x || s) ≡ (x || d) || s
or_mix true true s = refl
or_mix true false s = refl
or_mix false true s = refl
or_mix false false s = refl

mem-append : (v : ℕ) (xs ys : List ℕ) → mem v (xs ++ ys) ≡ mem v xs || mem v ys
unfolding mem
mem-append v [] ys = refl
mem-append v (x ∷ xs) ys = split (eqb v x) (λ t. rw (t, mem)) (λ t. rw (t, mem) (mem-append v xs ys))

mem_onto : (v : ℕ) (seen : List ℕ) (ss : List Spot) → mem v (defined_onto seen ss) ≡ mem v (defined (items ss)) || mem v seen
unfolding defined_onto defined items gather_items mem
mem_onto v seen [] = refl
mem_onto v seen (s ∷ ss) = mem_onto v (defines s.item ++ seen) ss ∙ (rw (mem-append v (defines s.item) seen, mem-append v (defines s.item) (defined (items ss))) (or_mix (mem v (defines s.item)) (mem v (defined (items ss))) (mem v seen)))

mem_all : (v : ℕ) (ss : List Spot) → mem v (0 ∷ defined_onto [] ss) ≡ mem v (0 ∷ defined (items ss))
unfolding mem
mem_all v ss = split (eqb v 0) (λ t. rw (t, mem)) (λ t. rw (t, mem) (mem_onto v [] ss ∙ none (mem v (defined (items ss)))))
  where
    none : (t : Bool) → t || false ≡ t
    none true = refl
    none false = refl

every_same : (P Q : ℕ → Bool) → ((v : ℕ) → P v ≡ Q v) → (xs : List ℕ) → every P xs ≡ every Q xs
unfolding every
every_same P Q e [] = refl
every_same P Q e (x ∷ xs) = split (Q x) (λ t. rw (e x ∙ t, t, every) (every_same P Q e xs)) (λ t. rw (e x ∙ t, t, every))

unknown_same : (f : ℕ → Bool) (xs ys : List ℕ) → ((v : ℕ) → mem v xs ≡ mem v ys) → (ss : List Spot) → first_unknown_in f xs ss ≡ first_unknown_in f ys ss
unfolding first_unknown_in
unknown_same f xs ys e [] = refl
unknown_same f xs ys e (s ∷ ss) =
    let q = every_same (λ v. mem v xs) (λ v. mem v ys) e (keep f (uses s.item)) in
    split (every (λ v. mem v ys) (keep f (uses s.item))) (λ t. rw (q ∙ t, t, first_unknown_in) (unknown_same f xs ys e ss)) (λ t. rw (q ∙ t, t, first_unknown_in))

-- ---- the call

zeros : (n k : ℕ) → ◌≡◌ {A = ℕ} (get_or (replicate n 0) k 0) 0
zeros zero k = refl
zeros (suc n) zero = refl
zeros (suc n) (suc k) = zeros n k

-- a cleared map has no mark
pub blank_marks : (lo : ℕ) {map : List ℕ} (n : ℕ) → map ≡ replicate n 0 → n ≡ breadth → Marks lo [] map
unfolding mem
blank_marks lo n e w = record { wide = ap length e ∙ length-replicate n 0 ∙ w; are = λ v a b. rw (e, zeros n (v - lo)) }

-- places rise
pub rising : (H : Header) (start : ℕ) (bytes : List ℕ) → Rising start (spots_at H 0 (lines_from bytes start))
unfolding lines_from
rising H start bytes = rw (spots_all H (placed start (parts 10 (drop start bytes)))) at (all_rising H start (parts 10 (drop start bytes)))

-- a window's two passes find its first bad line
pub window_is : {H : Header} {start lo : ℕ} {bytes map₀ map w₀ w : List ℕ} {a : Sweep} {b r : ℕ} → Swept H start lo bytes map₀ map w₀ w a → Used H start lo bytes map b → r ≡ min a.first b → r ≡ bad_in H start lo bytes
unfolding bad_in
window_is {H} {start} {lo} {bytes} {map₀} {map} {w₀} {w} {a} {b} {r} S U e =
    let ss = spots_at H 0 (lines_from bytes start) in
    let f = window lo (lo + breadth) in
    let N = length bytes in
    let R = rising H start bytes in
    let p : a.first ≡ min N (place_or N (first_again_in f [] ss)) = S.first ∙ pass_first f [] N R in
    let u : b ≡ place_or N (first_unknown_in f (0 ∷ defined (items ss)) ss) = U.is (defined_onto [] ss) S.marks ∙ ap (place_or N) (unknown_same f _ _ (λ v. mem_all v ss) ss) in
    let v = bad_parts f (0 ∷ defined (items ss)) [] N R in
    omega arith

-- ---- clearing
