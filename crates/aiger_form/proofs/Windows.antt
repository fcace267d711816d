-- The first bad line of a file is the earliest of its windows' first bad lines. Assumes nothing.
use Prim.Native.Nat.{ℕ, zero, suc, ◌+◌, ◌≤◌}
use mathlib.Core.Path.{◌≡◌, refl, sym, ap, ◌∙◌}
use mathlib.Core.Logic.{◌⊎◌, inl, inr}
use mathlib.Core.Bool.{Bool, true, false, not, ◌&&◌, ◌||◌}
use mathlib.Core.List.{List, [], ◌∷◌, ◌++◌}
use native.Mathlib.Omega.{arith}
use lib.Dec.{ltb}
use lib.ListN.{length, take, drop}
use borrow.Author.Tests.{le-leb, lt-leb, lt-ltb, ltb-true, ltb-false}
use Rattle.rules.specs.Lists.{Found, nothing, found, mem, every, keep, In}
use Rattle.rules.proofs.Lists.Members.{split, in_here, in_there}
use Rattle.rules.proofs.Bools.{and_assoc}
use Rattle.aiger_form.specs.Text.{Line, placed}
use Rattle.aiger_form.specs.Aag.{Header, Item, Spot, spots, items, is_text, defines, uses, stands, first_bad, symbol_item, is_comment, symbol_lines, gate_spots, output_spots, latch_spots, all_spots}
use Rattle.aiger_form.specs.Windows.{stands_in, first_bad_in, earlier, under, window}
use Rattle.aiger_form.specs.Meaning.{Among, here, there}

-- ---- places rise

-- lines whose places rise
pub data RisingLines : ℕ → List Line → Type 0 where
  end : {k : ℕ} → RisingLines k []
  line : {k : ℕ} {l : Line} {ls : List Line} → k ≤ l.at → RisingLines (suc l.at) ls → RisingLines k (l ∷ ls)

-- so with what they say
pub data Rising : ℕ → List Spot → Type 0 where
  stop : {k : ℕ} → Rising k []
  step : {k : ℕ} {s : Spot} {ss : List Spot} → k ≤ s.at → Rising (suc s.at) ss → Rising k (s ∷ ss)

placed_rising : (k at : ℕ) (ls : List (List ℕ)) → k ≤ at → RisingLines k (placed at ls)
unfolding placed
placed_rising k at [] h = end
placed_rising k at (l ∷ ls) h = line h (placed_rising (suc at) (at + suc (length l)) ls (omega arith))

spots_rising : (f : List ℕ → Item) {k : ℕ} {ls : List Line} → RisingLines k ls → Rising k (spots f ls)
unfolding spots
spots_rising f end = stop
spots_rising f (line h r) = step h (spots_rising f r)

symbols_rising : {k : ℕ} {ls : List Line} → RisingLines k ls → RisingLines k (symbol_lines ls)
unfolding symbol_lines
symbols_rising end = end
symbols_rising (line {l = l} h r) = split (is_comment l) (λ t. rw (t, symbol_lines) end) (λ t. rw (t, symbol_lines) (line h (symbols_rising r)))

-- a section, and what stands behind it
both_rising : (f : List ℕ → Item) (F : List Line → List Spot) → ((k : ℕ) (ls : List Line) → RisingLines k ls → Rising k (F ls)) → (n : ℕ) {k : ℕ} {ls : List Line} → RisingLines k ls → Rising k (spots f (take n ls) ++ F (drop n ls))
unfolding spots
both_rising f F P zero {k} {ls} r = P k ls r
both_rising f F P (suc n) {k} end = P k [] end
both_rising f F P (suc n) (line h r) = step h (both_rising f F P n r)

-- a file's places rise
pub all_rising : (h : Header) (at : ℕ) (ls : List (List ℕ)) → Rising at (all_spots h (placed at ls))
unfolding all_spots latch_spots output_spots gate_spots
all_rising h at ls =
    both_rising _ (latch_spots h) (λ k xs r. both_rising _ (output_spots h) (λ i ys q. both_rising _ (gate_spots h) (λ j zs p. both_rising _ (λ us. spots (symbol_item h) (symbol_lines us)) (λ c us o. spots_rising (symbol_item h) (symbols_rising o)) h.gates p) h.outputs q) h.latches r) h.inputs
    (placed_rising at at ls (omega arith))

-- ---- two windows

every_or : (P f g h : ℕ → Bool) → ((v : ℕ) → h v ≡ f v || g v) → (xs : List ℕ) → every P (keep h xs) ≡ every P (keep f xs) && every P (keep g xs)
unfolding every keep
every_or P f g h e [] = refl
every_or P f g h e (x ∷ xs) =
    let i = every_or P f g h e xs in
    let c = e x in
    split (f x)
    (λ a. let d : h x ≡ true = rw a at c in split (P x)
    (λ p. split (g x) (λ b. rw (a, d, b, keep, p, every) i) (λ b. rw (a, d, b, keep, p, every) i))
    (λ p. rw (a, d, keep, p, every)))
    (λ a. split (g x)
    (λ b. let d : h x ≡ true = rw (a, b) at c in split (P x) (λ p. rw (a, d, b, keep, p, every) i) (λ p. rw (a, d, b, keep, p, every) (sym (none (every P (keep f xs))))))
    (λ b. let d : h x ≡ false = rw (a, b) at c in rw (a, d, b, keep) i))
  where
    none : (t : Bool) → t && false ≡ false
    none true = refl
    none false = refl

mix : (t a b c d : Bool) → t && ((a && b) && (c && d)) ≡ (t && (a && c)) && (t && (b && d))
mix true true true c d = refl
mix true true false true d = refl
mix true true false false d = refl
mix true false b c d = refl
mix false a b c d = refl

module _ (f g h : ℕ → Bool) (e : (v : ℕ) → h v ≡ f v || g v) where
  stands_or : (all seen : List ℕ) (x : Item) → stands_in h all seen x ≡ stands_in f all seen x && stands_in g all seen x
  unfolding stands_in
  stands_or all seen x = rw (every_or (λ v. not (mem v seen)) f g h e (defines x), every_or (λ v. mem v all) f g h e (uses x))
      (mix (is_text x) (every (λ v. not (mem v seen)) (keep f (defines x))) (every (λ v. not (mem v seen)) (keep g (defines x))) (every (λ v. mem v all) (keep f (uses x))) (every (λ v. mem v all) (keep g (uses x))))

  -- a line that is found is no earlier than the first
  found_later : (q : ℕ → Bool) (all seen : List ℕ) {k : ℕ} {ss : List Spot} → Rising k ss → (p : ℕ) → first_bad_in q all seen ss ≡ found p → k ≤ p
  unfolding first_bad_in
  found_later q all seen stop p d = absurd (let z : ◌≡◌ {A = ℕ} 0 1 = cc in omega arith)
  found_later q all seen (step {s = s} {ss = ss} b r) p d = split (stands_in q all seen s.item)
      (λ t. let i = found_later q all (defines s.item ++ seen) r p (rw (t, first_bad_in) at d) in omega arith)
      (λ t. let c : found s.at ≡ found p = rw (t, first_bad_in) at d in let z : s.at ≡ p = cc in omega arith)

  first_wins : (a : ℕ) (r : Found) → ((p : ℕ) → r ≡ found p → a ≤ p) → earlier (found a) r ≡ found a
  unfolding earlier
  first_wins a nothing h = refl
  first_wins a (found b) h = rw (le-leb a b (h b refl), earlier)

  second_wins : (a : ℕ) (r : Found) → ((p : ℕ) → r ≡ found p → suc a ≤ p) → earlier r (found a) ≡ found a
  unfolding earlier
  second_wins a nothing h = refl
  second_wins a (found b) h = rw (lt-leb b a (h b refl), earlier)

  -- the first bad line of two windows
  pub bad_or : (all seen : List ℕ) {k : ℕ} {ss : List Spot} → Rising k ss → first_bad_in h all seen ss ≡ earlier (first_bad_in f all seen ss) (first_bad_in g all seen ss)
  unfolding first_bad_in earlier
  bad_or all seen stop = refl
  bad_or all seen (step {s = s} {ss = ss} b r) =
      let x = s.item in
      let c = stands_or all seen x in
      let more = defines x ++ seen in
      split (stands_in f all seen x)
      (λ t. split (stands_in g all seen x)
      (λ u. let w : stands_in h all seen x ≡ true = rw (t, u) at c in rw (t, u, w, first_bad_in) (bad_or all more r))
      (λ u. let w : stands_in h all seen x ≡ false = rw (t, u) at c in rw (t, u, w, first_bad_in) (sym (second_wins s.at (first_bad_in f all more ss) (λ p d. found_later f all more r p d)))))
      (λ t. let w : stands_in h all seen x ≡ false = rw t at c in split (stands_in g all seen x)
      (λ u. rw (t, u, w, first_bad_in) (sym (first_wins s.at (first_bad_in g all more ss) (λ p d. let i = found_later g all more r p d in omega arith))))
      (λ u. rw (t, u, w, first_bad_in) (sym (first_wins s.at (found s.at) (λ p d. let z : s.at ≡ p = cc in omega arith)))))

-- ---- the loop of a program: from the variables under lo to those under hi

under_window : (lo hi : ℕ) → lo ≤ hi → (v : ℕ) → under hi v ≡ under lo v || window lo hi v
unfolding under window
under_window lo hi h v = split (ltb v lo)
    (λ t. rw (t, lt-ltb v hi (omega (arith, ltb-true v lo t))))
    (λ t. rw (t, le-leb lo v (ltb-false v lo t)))

-- one window more
pub window_step : (lo hi : ℕ) → lo ≤ hi → (all : List ℕ) {k : ℕ} {ss : List Spot} → Rising k ss → first_bad_in (under hi) all [] ss ≡ earlier (first_bad_in (under lo) all [] ss) (first_bad_in (window lo hi) all [] ss)
window_step lo hi h all r = bad_or (under lo) (window lo hi) (under hi) (under_window lo hi h) all [] r

keep_all : (f : ℕ → Bool) (xs : List ℕ) → ((v : ℕ) → In v xs → f v ≡ true) → keep f xs ≡ xs
unfolding keep
keep_all f [] h = refl
keep_all f (x ∷ xs) h = rw (h x (in_here x xs), keep) (ap (λ (r : List ℕ). x ∷ r) (keep_all f xs (λ v i. h v (in_there v x xs i))))

stands_all : (f : ℕ → Bool) (all seen : List ℕ) (x : Item) → ((v : ℕ) → In v (defines x) → f v ≡ true) → ((v : ℕ) → In v (uses x) → f v ≡ true) → stands_in f all seen x ≡ stands all seen x
unfolding stands_in stands
stands_all f all seen x d u = rw (keep_all f (defines x) d, keep_all f (uses x) u) (sym (and_assoc (is_text x) (every (λ v. not (mem v seen)) (defines x)) (every (λ v. mem v all) (uses x))))

-- where f keeps every variable of the lines, nothing is missed
pub window_whole : (f : ℕ → Bool) (all seen : List ℕ) (ss : List Spot) → ((x : Item) → Among x (items ss) → (v : ℕ) → In v (defines x) ⊎ In v (uses x) → f v ≡ true) → first_bad_in f all seen ss ≡ first_bad all seen ss
unfolding first_bad_in first_bad items
window_whole f all seen [] h = refl
window_whole f all seen (s ∷ ss) h =
    let x = s.item in
    let c = stands_all f all seen x (λ v i. h x here v (inl i)) (λ v i. h x here v (inr i)) in
    split (stands all seen x)
    (λ t. let w : stands_in f all seen x ≡ true = c ∙ t in rw (t, w, first_bad_in, first_bad) (window_whole f all (defines x ++ seen) ss (λ y i. h y (there i))))
    (λ t. let w : stands_in f all seen x ≡ false = c ∙ t in rw (t, w, first_bad_in, first_bad))
