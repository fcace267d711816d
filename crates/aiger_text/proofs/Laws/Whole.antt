-- All windows together find the first bad line of a file. Assumes nothing.
use Prim.Native.Nat.{ℕ, suc, min, ◌+◌, ◌*◌, ◌≤◌, ◌<◌}
use mathlib.Core.Path.{◌≡◌, refl, sym, ap, ◌∙◌}
use mathlib.Core.Logic.{◌⊎◌, inl, inr}
use mathlib.Core.Bool.{Bool, true, false, not, ◌&&◌, ◌||◌}
use mathlib.Core.List.{List, [], ◌∷◌, ◌++◌}
use native.Mathlib.Omega.{arith}
use lib.Dec.{eqb, leb, ltb}
use lib.ListN.{length, drop, length-drop}
use borrow.Author.Tests.{le-leb, leb-true, leb-false, lt-ltb}
use Rattle.rules.specs.Lists.{Found, nothing, found, mem, every, keep, In}
use Rattle.rules.specs.Graph.{pin_of, inversion_of}
use Rattle.rules.proofs.Lists.Members.{split, and_true, in_cons, in_nil}
use Rattle.rules.proofs.Bools.{and_right}
use Rattle.aiger_form.specs.Text.{Line, placed, parts, grow}
use Rattle.aiger_form.specs.Aag.{Header, Item, bad_text, skipped, input_line, latch_line, output_line, gate_line, is_literal, is_variable, Spot, is_text, defines, uses, place_or, items, defined, fresh, first_again, stands, first_bad, is_cut}
use Rattle.aiger_form.specs.Meaning.{Among, here, there}
use Rattle.aiger_form.specs.Windows.{stands_in, first_bad_in, earlier, under, window}
use Rattle.aiger_form.proofs.Windows.{Rising, stop, step, bad_or, window_step, window_whole}
use Rattle.aiger_form.proofs.Accepted.{fits, AllFit, all_fit}
use Rattle.aiger_rows.specs.Rows.{stops_at}
use Rattle.aiger_text.specs.Passes.{spots_at, fresh_in, first_again_in, breadth, area, lines_from, store_item, store_all, Swept, Used, bad_in}
use Rattle.aiger_text.specs.declared.passes.Sweep.{Sweep}
use Rattle.aiger_text.specs.Whole.{judged_at, judged_in, Place, First}
use Rattle.aiger_text.proofs.Laws.Passes.{spots_all, store_length}
use Rattle.aiger_text.proofs.Laws.Windows.{pass_first, rising, window_is}

-- ---- a cut file is judged as one whose lines use nothing

-- a line that uses nothing
unfoldable pub strip : Item → Item
strip bad_text = bad_text
strip skipped = skipped
strip (input_line l) = input_line l
strip (latch_line l n r) = input_line l
strip (output_line l) = skipped
strip (gate_line l a b) = input_line l

-- the lines, or what of them a cut file is judged by
unfoldable pub shown : (whole : Bool) → List Spot → List Spot
shown true ss = ss
shown false [] = []
shown false (s ∷ ss) = record { at = s.at; item = strip s.item } ∷ shown false ss

strip_defines : (x : Item) → defines (strip x) ≡ defines x
unfolding strip defines
strip_defines bad_text = refl
strip_defines skipped = refl
strip_defines (input_line l) = refl
strip_defines (latch_line l n r) = refl
strip_defines (output_line l) = refl
strip_defines (gate_line l a b) = refl

strip_uses : (x : Item) → uses (strip x) ≡ []
unfolding strip uses
strip_uses bad_text = refl
strip_uses skipped = refl
strip_uses (input_line l) = refl
strip_uses (latch_line l n r) = refl
strip_uses (output_line l) = refl
strip_uses (gate_line l a b) = refl

strip_text : (x : Item) → is_text (strip x) ≡ is_text x
unfolding strip is_text
strip_text bad_text = refl
strip_text skipped = refl
strip_text (input_line l) = refl
strip_text (latch_line l n r) = refl
strip_text (output_line l) = refl
strip_text (gate_line l a b) = refl

strip_in : (f : ℕ → Bool) (all seen : List ℕ) (x : Item) → stands_in f all seen (strip x) ≡ fresh_in f seen x
unfolding stands_in fresh_in keep every
strip_in f all seen x = rw (strip_text x, strip_defines x, strip_uses x) (ap (λ (b : Bool). is_text x && b) (and_right (every (λ v. not (mem v seen)) (keep f (defines x)))))

strip_stands : (all seen : List ℕ) (x : Item) → stands all seen (strip x) ≡ fresh seen x
unfolding stands fresh every
strip_stands all seen x = rw (strip_text x, strip_defines x, strip_uses x) (and_right (is_text x && every (λ v. not (mem v seen)) (defines x)))

again_in : (f : ℕ → Bool) (all seen : List ℕ) (ss : List Spot) → first_again_in f seen ss ≡ first_bad_in f all seen (shown false ss)
unfolding first_again_in first_bad_in shown
again_in f all seen [] = refl
again_in f all seen (s ∷ ss) =
    let x = s.item in
    let c = strip_in f all seen x in
    split (fresh_in f seen x)
    (λ t. let w : stands_in f all seen (strip x) ≡ true = c ∙ t in rw (t, w, first_again_in, first_bad_in, strip_defines x) (again_in f all (defines x ++ seen) ss))
    (λ t. let w : stands_in f all seen (strip x) ≡ false = c ∙ t in rw (t, w, first_again_in, first_bad_in))

again_at : (all seen : List ℕ) (ss : List Spot) → first_again seen ss ≡ first_bad all seen (shown false ss)
unfolding first_again first_bad shown
again_at all seen [] = refl
again_at all seen (s ∷ ss) =
    let x = s.item in
    let c = strip_stands all seen x in
    split (fresh seen x)
    (λ t. let w : stands all seen (strip x) ≡ true = c ∙ t in rw (t, w, first_again, first_bad, strip_defines x) (again_at all (defines x ++ seen) ss))
    (λ t. let w : stands all seen (strip x) ≡ false = c ∙ t in rw (t, w, first_again, first_bad))

in_shown : (whole : Bool) (f : ℕ → Bool) (ss : List Spot) → judged_in whole f ss ≡ first_bad_in f (0 ∷ defined (items ss)) [] (shown whole ss)
unfolding judged_in shown
in_shown true f ss = refl
in_shown false f ss = again_in f (0 ∷ defined (items ss)) [] ss

at_shown : (whole : Bool) (ss : List Spot) → judged_at whole ss ≡ first_bad (0 ∷ defined (items ss)) [] (shown whole ss)
unfolding judged_at shown
at_shown true ss = refl
at_shown false ss = again_at (0 ∷ defined (items ss)) [] ss

shown_rising : (whole : Bool) {k : ℕ} {ss : List Spot} → Rising k ss → Rising k (shown whole ss)
unfolding shown
shown_rising true r = r
shown_rising false stop = stop
shown_rising false (step b r) = step b (shown_rising false r)

shown_among : (ss : List Spot) {x : Item} → Among x (items (shown false ss)) → (y : Item) × Among y (items ss) × (x ≡ strip y)
unfolding shown items
shown_among (s ∷ ss) here = (s.item, here, refl)
shown_among (s ∷ ss) (there a) = let h = shown_among ss a in (h.0, there h.1, h.2)
shown_among [] x3 = elim x3 [ ]

-- ---- places lie in the file

data WithinLines (N : ℕ) : List Line → Type 0 where
  end : WithinLines N []
  line : {l : Line} {ls : List Line} → l.at < N → WithinLines N ls → WithinLines N (l ∷ ls)

-- places in a file
pub data Within (N : ℕ) : List Spot → Type 0 where
  none : Within N []
  one : {s : Spot} {ss : List Spot} → s.at < N → Within N ss → Within N (s ∷ ss)

-- how long lines are
unfoldable pub total : List (List ℕ) → ℕ
total [] = 0
total (l ∷ ls) = suc (length l) + total ls

-- the lines of a file are no longer than it
pub total_parts : (e : ℕ) (xs : List ℕ) → total (parts e xs) ≤ length xs
unfolding total parts grow
total_parts e [] = omega arith
total_parts e (c ∷ cs) = let q = total_parts e cs in split (eqb c e) (λ t. rw (t, parts) (omega arith)) (λ t. rw (t, parts) (grown (parts e cs) (length cs) q))
  where
    grown : (ls : List (List ℕ)) (n : ℕ) → total ls ≤ n → total (grow c ls) ≤ suc n
    grown [] n h = omega arith
    grown (l ∷ ls) n h = omega arith

placed_within : (N at : ℕ) (ls : List (List ℕ)) → at + total ls ≤ N → WithinLines N (placed at ls)
unfolding placed total
placed_within N at [] h = end
placed_within N at (l ∷ ls) h = line {l = record { at = at; text = l }} (omega arith) (placed_within N (at + suc (length l)) ls (omega arith))

spots_within : (N : ℕ) (H : Header) (i : ℕ) {ls : List Line} → WithinLines N ls → Within N (spots_at H i ls)
unfolding spots_at
spots_within N H i end = none
spots_within N H i (line {l = l} b r) = split (stops_at H i l.text) (λ t. rw (t, spots_at) none) (λ t. rw (t, spots_at) (one b (spots_within N H (suc i) r)))

-- a file's places lie in it
pub within : (H : Header) (start : ℕ) (bytes : List ℕ) → start ≤ length bytes → Within (length bytes) (spots_at H 0 (lines_from bytes start))
unfolding lines_from
within H start bytes h = spots_within (length bytes) H 0 (placed_within (length bytes) start (parts 10 (drop start bytes)) (let a = total_parts 10 (drop start bytes) in let b = length-drop start bytes in omega arith))

shown_within : (whole : Bool) {N : ℕ} {ss : List Spot} → Within N ss → Within N (shown whole ss)
unfolding shown
shown_within true w = w
shown_within false none = none
shown_within false (one b w) = one b (shown_within false w)

found_within : (all : List ℕ) {N : ℕ} (seen : List ℕ) {ss : List Spot} → Within N ss → min N (place_or N (first_bad all seen ss)) ≡ place_or N (first_bad all seen ss)
unfolding first_bad place_or
found_within all seen none = omega arith
found_within all seen (one {s = s} b w) = split (stands all seen s.item) (λ t. rw (t, first_bad) (found_within all (defines s.item ++ seen) w)) (λ t. rw (t, first_bad) (omega arith))

-- ---- variables lie below M

-- the pin of a literal is at most M
pub pin_fits_lem : (m l : ℕ) → is_literal m l ≡ true → pin_of l ≤ m
unfolding is_literal pin_of
pin_fits_lem m l e = let h = leb-true l (2 * m + 1) e in omega arith

-- so is that of a variable
pub variable_fits : (m l : ℕ) → is_variable m l ≡ true → pin_of l ≤ m
unfolding is_variable
variable_fits m l e = pin_fits_lem m l (and_true (eqb (inversion_of l) 0 && ltb 0 l) (is_literal m l) e).1

one_of : {P : Type 0} (v p : ℕ) → In v (p ∷ []) → (v ≡ p → P) → P
one_of v p i k = elim (in_cons v p [] i) [ inl e ↦ k e | inr j ↦ in_nil v j ]

fits_below : (m : ℕ) (x : Item) → fits m x ≡ true → (v : ℕ) → In v (defines x) ⊎ In v (uses x) → v ≤ m
unfolding fits defines uses
fits_below m bad_text e v (inl i) = in_nil v i
fits_below m bad_text e v (inr i) = in_nil v i
fits_below m skipped e v (inl i) = in_nil v i
fits_below m skipped e v (inr i) = in_nil v i
fits_below m (input_line l) e v (inl i) = one_of v (pin_of l) i (λ q. rw q (variable_fits m l e))
fits_below m (input_line l) e v (inr i) = in_nil v i
fits_below m (latch_line l n r) e v (inl i) = one_of v (pin_of l) i (λ q. rw q (variable_fits m l (and_true (is_variable m l) (is_literal m n) e).0))
fits_below m (latch_line l n r) e v (inr i) = one_of v (pin_of n) i (λ q. rw q (pin_fits_lem m n (and_true (is_variable m l) (is_literal m n) e).1))
fits_below m (output_line l) e v (inl i) = in_nil v i
fits_below m (output_line l) e v (inr i) = one_of v (pin_of l) i (λ q. rw q (pin_fits_lem m l e))
fits_below m (gate_line l a b) e v i =
    let w = and_true (is_variable m l && is_literal m a) (is_literal m b) e in
    let u = and_true (is_variable m l) (is_literal m a) w.0 in
    elim i [
      | inl j ↦ one_of v (pin_of l) j (λ q. rw q (variable_fits m l u.0))
      | inr j ↦ elim (in_cons v (pin_of a) (pin_of b ∷ []) j) [ inl q ↦ rw q (pin_fits_lem m a u.1) | inr k ↦ one_of v (pin_of b) k (λ q. rw q (pin_fits_lem m b w.1)) ]
    ]

below_shown : (whole : Bool) (m : ℕ) (ss : List Spot) → AllFit m (items ss) → (x : Item) → Among x (items (shown whole ss)) → (v : ℕ) → In v (defines x) ⊎ In v (uses x) → v ≤ m
unfolding shown
below_shown true m ss F x a v i = fits_below m x (F x a) v i
below_shown false m ss F x a v i =
    let h = shown_among ss a in
    let y = h.0 in
    let d : defines x ≡ defines y = ap defines h.2 ∙ strip_defines y in
    let u : uses x ≡ [] = ap uses h.2 ∙ strip_uses y in
    elim i [ inl j ↦ fits_below m y (F y h.1) v (inl (rw d at j)) | inr j ↦ in_nil v (rw u at j) ]

-- ---- the loop over the windows

place_earlier : (N : ℕ) (a b : Found) → min N (place_or N (earlier a b)) ≡ min (min N (place_or N a)) (min N (place_or N b))
unfolding earlier place_or
place_earlier N nothing b = omega arith
place_earlier N (found a) nothing = omega arith
place_earlier N (found a) (found b) = split (leb a b) (λ t. rw (t, earlier) (omega (arith, leb-true a b t))) (λ t. rw (t, earlier) (omega (arith, leb-false a b t)))

-- the windows under lo; w₀ is the area behind the first
pub record Sofar (H : Header) (start : ℕ) (bytes map w₀ w : List ℕ) (cut : Bool) (lo first : ℕ) : Type 0 where
  pub len : length map ≡ breadth
  pub room : length w ≡ area
  pub cut_is : cut ≡ is_cut H bytes (lines_from bytes start)
  pub is : first ≡ min (length bytes) (place_or (length bytes) (first_bad_in (under lo) (0 ∷ defined (items (spots_at H 0 (lines_from bytes start)))) [] (shown (not (is_cut H bytes (lines_from bytes start))) (spots_at H 0 (lines_from bytes start)))))
  pub past : 65536 ≤ lo
  pub same : H.variables < 65536 → w ≡ w₀

place_shown : {H : Header} {start lo : ℕ} {bytes map map' w w' : List ℕ} {r : Sweep} → Place H start lo bytes map map' w w' r → r.first ≡ min (length bytes) (place_or (length bytes) (first_bad_in (window lo (lo + breadth)) (0 ∷ defined (items (spots_at H 0 (lines_from bytes start)))) [] (shown (not (is_cut H bytes (lines_from bytes start))) (spots_at H 0 (lines_from bytes start)))))
place_shown {H} {start} {lo} {bytes} P = P.first ∙ ap (λ (f : Found). min (length bytes) (place_or (length bytes) f)) (in_shown (not (is_cut H bytes (lines_from bytes start))) (window lo (lo + breadth)) (spots_at H 0 (lines_from bytes start)))

under_first : (hi v : ℕ) → under hi v ≡ window 0 hi v || window 0 hi v
unfolding under window
under_first hi v = rw (le-leb 0 v (omega arith)) (twice (ltb v hi))
  where
    twice : (b : Bool) → b ≡ b || b
    twice true = refl
    twice false = refl

-- and so does storing all
pub all_length : (ss : List Spot) (w : List ℕ) → length (store_all ss w) ≡ length w
unfolding store_all
all_length [] w = refl
all_length (s ∷ ss) w = all_length ss (store_item s.item w) ∙ store_length s.item w

-- the first window
pub sofar_start : {H : Header} {start : ℕ} {bytes map₀ map w₀ w : List ℕ} {r : Sweep} → length map₀ ≡ breadth → length w₀ ≡ area → Place H start 0 bytes map₀ map w₀ w r → Sofar H start bytes map w w r.cut 65536 r.first
sofar_start {H} {start} {bytes} {map₀} {map} {w₀} {w} {r} b k P =
    let ss = spots_at H 0 (lines_from bytes start) in
    let whole = not (is_cut H bytes (lines_from bytes start)) in
    let N = length bytes in
    let all : List ℕ = 0 ∷ defined (items ss) in
    let p = place_shown P in
    let e = bad_or (window 0 breadth) (window 0 breadth) (under breadth) (under_first breadth) all [] (shown_rising whole (rising H start bytes)) in
    let q : min N (place_or N (first_bad_in (under breadth) all [] (shown whole ss))) ≡ min r.first r.first = rw e (place_earlier N _ _ ∙ (rw (← p) refl)) in
    record { len = P.len ∙ b; room = ap length P.stored ∙ all_length ss w₀ ∙ k; cut_is = P.cut; is = omega arith; past = omega arith; same = λ h. refl }

-- one window more
pub sofar_step : {H : Header} {start lo first : ℕ} {bytes map map' w₀ w w' : List ℕ} {cut : Bool} {r : Sweep} {n : ℕ} → Sofar H start bytes map w₀ w cut lo first → lo ≤ H.variables → Place H start lo bytes map map' w w' r → n ≡ min first r.first → {lo' : ℕ} → lo' ≡ lo + 65536 → Sofar H start bytes map' w₀ w' cut lo' n
sofar_step {H} {start} {lo} {first} {bytes} {map} {map'} {w₀} {w} {w'} {cut} {r} {n} S h P e {lo'} g =
    let ss = spots_at H 0 (lines_from bytes start) in
    let whole = not (is_cut H bytes (lines_from bytes start)) in
    let N = length bytes in
    let all : List ℕ = 0 ∷ defined (items ss) in
    let p = place_shown P in
    let s = S.is in
    let v = window_step lo (lo + breadth) (omega arith) all (shown_rising whole (rising H start bytes)) in
    let q : min N (place_or N (first_bad_in (under (lo + breadth)) all [] (shown whole ss))) ≡ min first r.first = rw v (place_earlier N _ _ ∙ (rw (← p, ← s) refl)) in
    rw g (record { len = P.len ∙ S.len; room = ap length P.stored ∙ all_length ss w ∙ S.room; cut_is = S.cut_is; is = e ∙ sym q; past = omega (arith, S.past); same = λ k. absurd (omega (arith, S.past)) })

-- all windows
pub sofar_end : {H : Header} {start lo first : ℕ} {bytes map₀ map₁ map w₀ w₁ w : List ℕ} {cut : Bool} {r : Sweep} → Sofar H start bytes map w₁ w cut lo first → Place H start 0 bytes map₀ map₁ w₀ w₁ r → length map₀ ≡ breadth → length w₀ ≡ area → H.variables < lo → start ≤ length bytes → First H start bytes map₀ map w₀ w (record { first = first; cut = cut })
unfolding under
sofar_end {H} {start} {lo} {first} {bytes} S P b g h k =
    let ls = lines_from bytes start in
    let ss = spots_at H 0 ls in
    let whole = not (is_cut H bytes ls) in
    let N = length bytes in
    let all : List ℕ = 0 ∷ defined (items ss) in
    let F : AllFit H.variables (items ss) = rw (spots_all H ls) at (all_fit H ls) in
    let v = window_whole (under lo) all [] (shown whole ss) (λ x a u i. lt-ltb u lo (let b = below_shown whole H.variables ss F x a u i in omega arith)) in
    let q : first ≡ min N (place_or N (first_bad all [] (shown whole ss))) = rw v at S.is in
    record { len = S.len ∙ sym b; size = S.room ∙ sym g; cut = S.cut_is; first = q ∙ found_within all [] (shown_within whole (within H start bytes k)) ∙ ap (place_or N) (sym (at_shown whole ss)); stored = λ v. S.same v ∙ P.stored }

-- ---- one window

not_cut : {H : Header} {start lo : ℕ} {bytes map₀ map w₀ w : List ℕ} {a : Sweep} → Swept H start lo bytes map₀ map w₀ w a → (b : Bool) → a.cut ≡ b → not (is_cut H bytes (lines_from bytes start)) ≡ not b
not_cut S b e = ap not (sym S.cut ∙ e)

-- of a whole file
pub place_whole : {H : Header} {start lo : ℕ} {bytes map₀ map map' w₀ w : List ℕ} {a : Sweep} {b n : ℕ} → length map ≡ length map₀ → Swept H start lo bytes map map' w₀ w a → a.cut ≡ false → Used H start lo bytes map' b → n ≡ min a.first b → Place H start lo bytes map₀ map' w₀ w (record { first = n; cut = false })
unfolding judged_in bad_in
place_whole {H} {start} {lo} {bytes} l S e U g = record { len = S.len ∙ l; cut = sym e ∙ S.cut; first = rw (not_cut S false e) (window_is S U g); stored = S.stored }

-- of a cut one
pub place_cut : {H : Header} {start lo : ℕ} {bytes map₀ map map' w₀ w : List ℕ} {a : Sweep} → length map ≡ length map₀ → Swept H start lo bytes map map' w₀ w a → a.cut ≡ true → Place H start lo bytes map₀ map' w₀ w a
unfolding judged_in
place_cut {H} {start} {lo} {bytes} l S e = record { len = S.len ∙ l; cut = S.cut; first = rw (not_cut S true e) (S.first ∙ pass_first (window lo (lo + breadth)) [] (length bytes) (rising H start bytes)); stored = S.stored }
