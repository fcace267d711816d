-- The partitions of a merge as they are given and built, and those of them that have groups. Assumes nothing.
use Prim.Native.Nat.{ℕ, suc, ◌≤◌}
use mathlib.Core.Path.{◌≡◌, refl, ◌∙◌, ap}
use mathlib.Core.Logic.{inl, inr}
use mathlib.Core.List.{List, [], ◌∷◌, ◌++◌}
use native.Mathlib.Omega.{arith}
use lib.ListN.{length}
use Rattle.rules.specs.Lists.{mem, In, Once, nobody, one}
use Rattle.rules.specs.Build.{whole}
use Rattle.rules.specs.Merge.{Common, Part, built_of, part_of, Parts, bad, good, cons, original, size_for, occupied, joined, indices_of}
use Rattle.rules.proofs.Lists.Members.{split, true_false, in_here, in_there, in_cons, in_nil}
use Rattle.rules.proofs.Build.Words.{answer_cases}
use Rattle.rules.proofs.Merge.Rounds.{Among, front, further, numbers, among_cons, none_among, Builds, part_builds}

-- the partitions built: their groups as given, numbered from i on, each building by itself
pub record Given (J : Common) (i : ℕ) (parts : List (List ℕ)) (ps : List Part) : Type 0 where
  pub indices : indices_of ps ≡ joined parts
  pub count : length ps ≡ length parts
  pub above : (n : ℕ) → In n (numbers ps) → i ≤ n
  pub once : Once (numbers ps)
  pub builds : (q : Part) → Among q ps → Builds J q

cons_good : (p : Part) (x : Parts) (ps : List Part) → cons p x ≡ good ps → (qs : List Part) × (x ≡ good qs) × (ps ≡ p ∷ qs)
unfolding cons
cons_good p (bad i n k) ps e = absurd (let z : ◌≡◌ {A = ℕ} 0 1 = cc in omega arith)
cons_good p (good qs) ps e = (qs, refl, cc)

-- partitions of which none is refused are so
pub original_given : (J : Common) (i : ℕ) (parts : List (List ℕ)) (ps : List Part) → original J i parts ≡ good ps → Given J i parts ps
unfolding original indices_of joined numbers part_of
original_given J i [] ps e = let z : ps ≡ [] = cc in rw z (record { indices = refl; count = refl; above = λ n a. in_nil n a; once = nobody; builds = λ q a. none_among q a })
original_given J i (is ∷ rest) ps e = answer_cases (built_of J is)
    (λ n k d. absurd (let c = rw (d, original) at e in let z : ◌≡◌ {A = ℕ} 0 1 = cc in omega arith))
    (λ ss d.
    let p = part_of i is (size_for J is) (whole ss) in
    let c = cons_good p (original J (suc i) rest) ps (rw (d, original) at e) in
    let G = original_given J (suc i) rest c.0 c.1 in
    let B : Builds J p = rw d at (part_builds J i is (size_for J is) ss d) in
    rw c.2 (record {
      indices = ap (λ (l : List ℕ). is ++ l) G.indices;
      count = ap suc G.count;
      above = λ n a. elim (in_cons n i (numbers c.0) a) [ inl x ↦ omega arith | inr x ↦ omega (arith, G.above n x) ];
      once = one (split (mem i (numbers c.0)) (λ x. absurd (omega (arith, G.above i x))) (λ x. x)) G.once;
      builds = λ q a. elim (among_cons a) [ inl x ↦ rw x B | inr x ↦ G.builds q x ];
    }))

part : {P : Type 0} (xs : List ℕ) → (xs ≡ [] → P) → ((i : ℕ) (is : List ℕ) → xs ≡ i ∷ is → P) → P
part [] f h = f refl
part (i ∷ is) f h = h i is refl

occupied_step : (p : Part) (ps : List Part) (i : ℕ) (is : List ℕ) → p.has ≡ i ∷ is → occupied (p ∷ ps) ≡ p ∷ occupied ps
unfolding occupied
occupied_step p ps i is e = ap (λ (l : List ℕ). elim l as (λ _. List Part) [ [] ↦ occupied ps | j ∷ js ↦ p ∷ occupied ps ]) e

-- leaving out empty partitions loses no group
pub occupied_same : (ps : List Part) → indices_of (occupied ps) ≡ indices_of ps
unfolding occupied indices_of
occupied_same [] = refl
occupied_same (p ∷ ps) = part p.has (λ e. rw (e, occupied) (occupied_same ps)) (λ i is e. ap indices_of (occupied_step p ps i is e) ∙ ap (λ (l : List ℕ). p.has ++ l) (occupied_same ps))

-- and adds no partition
pub occupied_among : (ps : List Part) (q : Part) → Among q (occupied ps) → Among q ps
unfolding occupied
occupied_among [] q a = a
occupied_among (p ∷ ps) q a = part p.has
    (λ e. further (occupied_among ps q (rw (e, occupied) at a)))
    (λ i is e. elim (among_cons (rw (e, occupied) at a)) [ inl d ↦ rw d front | inr d ↦ further (occupied_among ps q d) ])

-- and leaves no more partitions
pub occupied_few : (ps : List Part) → length (occupied ps) ≤ length ps
unfolding occupied
occupied_few [] = omega arith
occupied_few (p ∷ ps) = part p.has (λ e. rw (e, occupied) (omega (arith, occupied_few ps))) (λ i is e. rw (e, occupied) (omega (arith, occupied_few ps)))

occupied_numbers : (ps : List Part) (n : ℕ) → In n (numbers (occupied ps)) → In n (numbers ps)
unfolding occupied numbers
occupied_numbers [] n i = i
occupied_numbers (p ∷ ps) n i = part p.has
    (λ e. in_there n p.nr (numbers ps) (occupied_numbers ps n (rw (e, occupied) at i)))
    (λ j js e. elim (in_cons n p.nr (numbers (occupied ps)) (rw (e, occupied) at i)) [ inl d ↦ rw d (in_here p.nr (numbers ps)) | inr d ↦ in_there n p.nr (numbers ps) (occupied_numbers ps n d) ])

-- leaving out empty partitions leaves all numbers different
pub occupied_once : (ps : List Part) → Once (numbers ps) → Once (numbers (occupied ps))
unfolding occupied numbers
occupied_once [] o = o
occupied_once (p ∷ ps) (one a o) = part p.has
    (λ e. rw (e, occupied) (occupied_once ps o))
    (λ j js e. rw (e, occupied) (one (split (mem p.nr (numbers (occupied ps))) (λ i. true_false (occupied_numbers ps p.nr i) a) (λ i. i)) (occupied_once ps o)))
