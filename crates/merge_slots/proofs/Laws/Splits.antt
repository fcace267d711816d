-- The groups of the slots one after the other, and slot i with those of slot j. Assumes nothing.
use Prim.Native.Nat.{ℕ, suc, ◌+◌, ◌-◌, ◌<◌, ◌≤◌}
use mathlib.Core.Bool.{Bool, true, ◌&&◌}
use mathlib.Core.List.{List, [], ◌∷◌, ◌++◌, map, append-nil, append_assoc}
use mathlib.Core.Path.{◌≡◌, refl, sym, ap, ◌∙◌}
use native.Mathlib.Omega.{arith}
use lib.ListN.{length, get_or, set, take, drop, length-append, length-drop, length-set, drop_of_length-le, get_or-map}
use lib.Seq.{take-append_seam, drop-append_seam, length-take-le, take-take, take-set-lt, drop-set-lt, split_at, set_split, get_or-take, take_at, drop_at, take-append-le, drop-append-le}
use Rattle.rules.proofs.Lists.Parts.{map-set, map-take}
use Rattle.rules.specs.Lists.{sum, every, laid_over}
use Rattle.rules.specs.Merge.{split_by, joined}
use Rattle.rules.proofs.Lists.Members.{split, and_true}
use Rattle.rules.proofs.Merge.Merge.{joined_split}
use Rattle.merge_slots.specs.Moves.{TurnAt, Turned, TakeAt, moved, TakesIn}
use Rattle.merge_slots.proofs.Laws.Sums.{sum_part, sum_next}

-- two lists of groups joined, one behind the other
pub joined_append : (gs hs : List (List ℕ)) → joined (gs ++ hs) ≡ joined gs ++ joined hs
unfolding joined
joined_append [] hs = refl
joined_append (g ∷ gs) hs = ap (λ (l : List ℕ). g ++ l) (joined_append gs hs) ∙ sym (append_assoc g (joined gs) (joined hs))

-- joined they are as long as together
pub length_joined : (hs : List (List ℕ)) → length (joined hs) ≡ sum (map length hs)
unfolding joined sum
length_joined [] = refl
length_joined (h ∷ hs) = length-append h (joined hs) ∙ ap (λ (n : ℕ). length h + n) (length_joined hs)

-- split by their lengths they are as before
pub split_joined : (hs : List (List ℕ)) → split_by (map length hs) (joined hs) ≡ hs
unfolding split_by joined
split_joined [] = refl
split_joined (h ∷ hs) = rw (take-append_seam h (joined hs), drop-append_seam h (joined hs), split_joined hs) refl

-- the parts have the lengths by which they were split
pub lengths_split : (ls xs : List ℕ) → sum ls ≡ length xs → map length (split_by ls xs) ≡ ls
unfolding split_by sum
lengths_split [] xs e = refl
lengths_split (l ∷ ls) xs e =
    let h : length (take l xs) ≡ l = length-take-le l xs (omega arith) in
    rw (h, lengths_split ls (drop l xs) (rw length-drop (omega arith))) refl

-- there are as many parts as lengths
pub length_split : (ls xs : List ℕ) → length (split_by ls xs) ≡ length ls
unfolding split_by
length_split [] xs = refl
length_split (l ∷ ls) xs = ap suc (length_split ls (drop l xs))

-- the groups before slot i, its own, those behind
module _ (hs : List (List ℕ)) (i : ℕ) (inside : i < length hs) where
  -- the groups before a slot, its own, and those behind
  pub joined_at : joined hs ≡ joined (take i hs) ++ (get_or hs i [] ++ joined (drop (suc i) hs))
  unfolding joined
  joined_at = ap joined (split_at hs i [] inside) ∙ joined_append (take i hs) (get_or hs i [] ∷ drop (suc i) hs)

  -- other groups in a slot change only the slot's part
  pub joined_set : (h : List ℕ) → joined (set hs i h) ≡ joined (take i hs) ++ (h ++ joined (drop (suc i) hs))
  unfolding joined
  joined_set h = ap joined (set_split hs i h inside) ∙ joined_append (take i hs) (h ∷ drop (suc i) hs)

every_append : (f : ℕ → Bool) (xs ys : List ℕ) → every f (xs ++ ys) ≡ every f xs && every f ys
unfolding every
every_append f [] ys = refl
every_append f (x ∷ xs) ys = split (f x) (λ t. rw (t, every) (every_append f xs ys)) (λ t. rw (t, every) refl)

every_turned : (f : ℕ → Bool) (xs X M J R : List ℕ) → xs ≡ X ++ (M ++ (J ++ R)) → every f xs ≡ true → every f (X ++ (J ++ (M ++ R))) ≡ true
every_turned f xs X M J R w e' =
    let e : every f (X ++ (M ++ (J ++ R))) ≡ true = ap (every f) (sym w) ∙ e' in
    let a = and_true (every f X) (every f (M ++ (J ++ R))) (rw (every_append f X (M ++ (J ++ R))) at e) in
    let b = and_true (every f M) (every f (J ++ R)) (rw (every_append f M (J ++ R)) at a.1) in
    let c = and_true (every f J) (every f R) (rw (every_append f J R) at b.1) in
    rw (every_append f X (J ++ (M ++ R)), every_append f J (M ++ R), every_append f M R, a.0, c.0, b.0, c.1) refl

-- the two copies back from the spare numbers
module _ {s spare y₁ y₂ y₃ : List ℕ} {k : ℕ} (A : TurnAt s spare k) (e₁ : y₁ ≡ s) (e₂ : y₂ ≡ take (length s - k) (drop k (y₁ ++ drop (length s - 0) spare))) (e₃ : y₃ ≡ take (k - 0) (y₁ ++ drop (length s - 0) spare)) where
  later : y₂ ≡ drop k s
  later =
      let p : drop k (y₁ ++ drop (length s - 0) spare) ≡ drop k s ++ drop (length s - 0) spare = rw e₁ (drop-append-le k s (drop (length s - 0) spare) A.inside) in
      e₂ ∙ rw p (take_at (drop k s) (drop (length s - 0) spare) (length s - k) (length-drop k s))

  sooner : y₃ ≡ take k s
  sooner = let z : k - 0 ≡ k = omega arith in e₃ ∙ rw (z, e₁) (take-append-le k s (drop (length s - 0) spare) A.inside)

  -- copied over and back, the part's two halves have changed places
  pub turned : Turned s spare k (take (length s - k) (y₂ ++ drop (length s - k - 0) s) ++ (y₃ ++ drop (length s - (length s - k)) (drop (length s - k) (y₂ ++ drop (length s - k - 0) s)))) (y₁ ++ drop (length s - 0) spare)
  unfolding laid_over
  turned =
      let n : length (drop k s) ≡ length s - k = length-drop k s in
      let z : length s - k - 0 ≡ length s - k = omega arith in
      let t : length s - (length s - k) ≡ k = omega (arith, A.inside) in
      let m : drop k (drop (length s - k) s) ≡ [] = drop_of_length-le (drop (length s - k) s) {i = k} (omega (arith, length-drop (length s - k) s, A.inside)) in
      let y : length s - 0 ≡ length s = omega arith in
      record {
        is = rw (later, sooner, z, t, take_at (drop k s) (drop (length s - k) s) (length s - k) n, drop_at (drop k s) (drop (length s - k) s) (length s - k) n, m) (ap (λ (l : List ℕ). drop k s ++ l) (append-nil (take k s)));
        passed = rw (e₁, y) refl;
      }

-- a part that was lent, turned at its middle
pub lent_turn : (xs X M J R ys : List ℕ) (a k e : ℕ) → xs ≡ X ++ (M ++ (J ++ R)) → length X ≡ a → length M ≡ k → length M + length J ≡ e
    → ys ≡ drop k (take e (drop a xs)) ++ take k (take e (drop a xs)) → take a xs ++ (ys ++ drop e (drop a xs)) ≡ X ++ (J ++ (M ++ R))
lent_turn xs X M J R ys a k e ex ea ek ee ey =
    let p : drop a xs ≡ (M ++ J) ++ R = ap (drop a) ex ∙ drop_at X (M ++ (J ++ R)) a ea ∙ sym (append_assoc M J R) in
    let n : length (M ++ J) ≡ e = length-append M J ∙ ee in
    let t : take e (drop a xs) ≡ M ++ J = ap (take e) p ∙ take_at (M ++ J) R e n in
    let d : drop e (drop a xs) ≡ R = ap (drop e) p ∙ drop_at (M ++ J) R e n in
    let y : ys ≡ J ++ M = rw (t, drop_at M J k ek, take_at M J k ek) at ey in
    let f : take a xs ≡ X = ap (take a) ex ∙ take_at X (M ++ (J ++ R)) a ea in
    rw (f, d, y) (ap (λ (l : List ℕ). X ++ l) (append_assoc J M R))

swapped : (X M J R : List ℕ) → length (X ++ (J ++ (M ++ R))) ≡ length (X ++ (M ++ (J ++ R)))
swapped X M J R = simp length-append (omega arith)

module _ {xs ls spare : List ℕ} {i j : ℕ} (A : TakeAt xs ls spare i j) where
  abbrev hs : List (List ℕ)
  hs = split_by ls xs

  abbrev I : List ℕ
  I = get_or hs i []

  abbrev J : List ℕ
  J = get_or hs j []

  abbrev X : List ℕ
  X = joined (take i hs) ++ I

  abbrev M : List ℕ
  M = joined (drop (suc i) (take j hs))

  abbrev R : List ℕ
  R = joined (drop (suc j) hs)

  many : length hs ≡ length ls
  many = length_split ls xs

  front : length (take j hs) ≡ j
  front = length-take-le j hs (omega (arith, many, A.inside))

  whole : xs ≡ X ++ (M ++ (J ++ R))
  whole =
      let a : joined (take j hs) ≡ joined (take i hs) ++ (I ++ M) =
      joined_at (take j hs) i (omega (arith, front, A.order)) ∙ rw (take-take i j hs (omega (arith, A.order)), get_or-take j hs i [] A.order) refl in
      sym (joined_split ls xs A.all) ∙ joined_at hs j (omega (arith, many, A.inside)) ∙ ap (λ (l : List ℕ). l ++ (J ++ R)) (a ∙ sym (append_assoc (joined (take i hs)) I M)) ∙ append_assoc X M (J ++ R)

  size_of : (s : ℕ) → length (get_or hs s []) ≡ get_or ls s 0
  size_of s = sym (get_or-map length hs s []) ∙ ap (λ (l : List ℕ). get_or l s 0) (lengths_split ls xs A.all)

  start_is : (s : ℕ) → length (joined (take s hs)) ≡ sum (take s ls)
  start_is s = length_joined (take s hs) ∙ ap sum (map-take length s hs ∙ ap (take s) (lengths_split ls xs A.all))

  abbrev hs' : List (List ℕ)
  hs' = set (set hs i (I ++ J)) j []

  joined_after : joined hs' ≡ X ++ (J ++ (M ++ R))
  joined_after =
      let one = set hs i (I ++ J) in
      let a : joined (set one j []) ≡ joined (take j one) ++ joined (drop (suc j) one) = joined_set one j (omega (arith, length-set hs i (I ++ J), many, A.inside)) [] in
      let b : joined (take j one) ≡ joined (take i hs) ++ ((I ++ J) ++ M) =
      ap joined (take-set-lt j hs i (I ++ J) A.order) ∙ joined_set (take j hs) i (omega (arith, front, A.order)) (I ++ J) ∙ rw (take-take i j hs (omega (arith, A.order))) refl in
      a ∙ rw (b, drop-set-lt (suc j) hs i (I ++ J) (omega (arith, A.order))) (simp append_assoc)

  module _ {start l c k : ℕ} (es : start ≡ sum (take i ls)) (el : l ≡ get_or ls i 0) (ec : c ≡ sum (take j ls)) (ek : k ≡ get_or ls j 0) where
    abbrev a : ℕ
    a = start + l

    abbrev d : ℕ
    d = c + k

    first : length X ≡ a
    first = length-append (joined (take i hs)) I ∙ omega (arith, start_is i, size_of i, es, el)

    middle : length X + length M ≡ c
    middle =
        let b : joined (take j hs) ≡ X ++ M = joined_at (take j hs) i (omega (arith, front, A.order)) ∙ rw (take-take i j hs (omega (arith, A.order)), get_or-take j hs i [] A.order) (sym (append_assoc (joined (take i hs)) I M)) in
        sym (length-append X M) ∙ ap length (sym b) ∙ start_is j ∙ sym ec

    -- slot i's end is before slot j's start, and that before its end, all in the list
    pub ordered : (a ≤ c) × (c ≤ d) × (d ≤ length xs)
    ordered = (omega (arith, first, middle), omega arith, omega (arith, sum_next ls j A.inside, sum_part ls (j + 1), A.all))

    -- the two lengths together fit a number
    pub pair_fits : get_or ls i 0 + get_or ls j 0 < 4294967296
    pair_fits = let o = ordered in omega (arith, A.few, el, ek)

    -- the part between them may be turned
    pub turn_at : TurnAt (take (d - a) (drop a xs)) spare (c - a)
    turn_at =
        let o = ordered in
        let n : length (take (d - a) (drop a xs)) ≡ d - a = length-take-le (d - a) (drop a xs) (rw length-drop (omega arith)) in
        record { inside = omega arith; room = omega (arith, A.room) }

    -- turned, slot i has slot j's groups behind its own
    pub taken : {ys spare' : List ℕ} → Turned (take (d - a) (drop a xs)) spare (c - a) ys spare'
        → TakesIn i j xs ls spare (take a xs ++ (ys ++ drop (d - a) (drop a xs))) (set (set ls i (get_or ls i 0 + get_or ls j 0)) j 0) spare'
    unfolding moved
    taken {ys} T =
        let z : take a xs ++ (ys ++ drop (d - a) (drop a xs)) ≡ X ++ (J ++ (M ++ R)) =
        lent_turn xs X M J R ys a (c - a) (d - a) whole first (omega (arith, first, middle)) (omega (arith, first, middle, size_of j)) T.is in
        let m : map length (set hs i (I ++ J)) ≡ set ls i (get_or ls i 0 + get_or ls j 0) = map-set length hs i (I ++ J) ∙ rw (lengths_split ls xs A.all, length-append I J, size_of i, size_of j) refl in
        let n : set (set ls i (get_or ls i 0 + get_or ls j 0)) j 0 ≡ map length hs' = sym (map-set length (set hs i (I ++ J)) j [] ∙ ap (λ (y : List ℕ). set y j 0) m) in
        let q : take a xs ++ (ys ++ drop (d - a) (drop a xs)) ≡ joined hs' = z ∙ sym joined_after in
        let from : sum (take (i + 1) ls) ≡ a = omega (arith, sum_next ls i (omega (arith, A.order, A.inside)), es, el) in
        let to : sum (take (j + 1) ls) ≡ d = omega (arith, sum_next ls j A.inside, ec, ek) in
        record {
          taken = record {
            lengths = refl;
            groups = rw (q, n) (split_joined hs');
            all = rw (q, n) (sym (length_joined hs'));
            same = ap length z ∙ swapped X M J R ∙ ap length (sym whole);
            named = λ f t. rw z (every_turned f xs X M J R whole t);
          };
          passed = rw (from, to) T.passed;
        }
