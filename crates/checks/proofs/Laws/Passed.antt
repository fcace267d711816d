-- What passing the checks 1, 2, 3, 23, 4, 5 gives. Assumes nothing.
use Prim.Native.Nat.{ℕ, zero, suc, ◌+◌, ◌*◌, ◌%◌, ◌≤◌, ◌<◌}
use mathlib.Core.Bool.{Bool, true, ◌&&◌}
use mathlib.Core.Logic.{inl, inr}
use mathlib.Core.List.{List, [], ◌∷◌}
use mathlib.Core.Path.{◌≡◌, refl, sym, ap, ◌∙◌}
use native.Mathlib.Omega.{arith}
use lib.Dec.{leb, ltb, eqb}
use lib.ListN.{length, get_or, drop}
use borrow.Author.Tests.{leb-true, ltb-true, eqb-true}
use Rattle.rules.proofs.Records.{groups_of_lem}
use Rattle.checks.specs.Passed.{Passed, Below}
use Rattle.rules.specs.Lists.{every, In}
use Rattle.rules.specs.Cells.{is_height}
use Rattle.rules.specs.Graph.{Node, leaf, gate, pin_of, operands, graph_of, pin_count, below}
use Rattle.rules.specs.Records.{Group, Groups?, unreadable, groups, size_of, group_at, whole_at, and_then, read, endpoints_of, all_named, groups_of, Ends, first, later}
use Rattle.rules.specs.Checks.{nodes_right, graph_right, loops_right, groups_right, records_right, given_right, refusal_of}
use Rattle.rules.proofs.Lists.Members.{every_in, split, and_true, true_false, in_get_or, in_cons, in_nil}
use Rattle.rules.proofs.Walk.Reverse.{below_in}
use Rattle.records.specs.Values.{size_at, endpoint_at}
use Rattle.graph.proofs.Gates.{graph_length}
use Rattle.graph_loops.specs.Marks.{Inside}
use Rattle.records.proofs.Reading.{Stands, standing, read_step, read_end, read_cut, size_endpoints, endpoint_is}
use Rattle.checks.proofs.Laws.Refusing.{refusal_1, refusal_2, refusal_3, refusal_23, refusal_4, refusal_5}

-- The checks after 1 ask for no height: any two heights get the same refusal.
pub any_height_lem : (K J : ℕ) (sized : Bool) (gates given records : List ℕ) → is_height K ≡ true → is_height J ≡ true → refusal_of K sized gates given records ≡ refusal_of J sized gates given records
unfolding refusal_of
any_height_lem K J sized gates given records h j = rw (h, j, refusal_of)

-- a gate that passes check 3 has pins above 0 and below n, and the gates behind it pass
pub gate_below : (n p a b : ℕ) (g : List Node) → nodes_right n p (gate a b ∷ g) ≡ true → Below n a b × (nodes_right n (suc p) g ≡ true)
unfolding nodes_right
gate_below n p a b g e =
    let w = and_true (ltb 0 p && ltb 0 (pin_of a) && ltb (pin_of a) n && ltb 0 (pin_of b) && ltb (pin_of b) n) (nodes_right n (suc p) g) e in
    let z = and_true (ltb 0 p && ltb 0 (pin_of a) && ltb (pin_of a) n && ltb 0 (pin_of b)) (ltb (pin_of b) n) w.0 in
    let y = and_true (ltb 0 p && ltb 0 (pin_of a) && ltb (pin_of a) n) (ltb 0 (pin_of b)) z.0 in
    let x = and_true (ltb 0 p && ltb 0 (pin_of a)) (ltb (pin_of a) n) y.0 in
    let v = and_true (ltb 0 p) (ltb 0 (pin_of a)) x.0 in
    (record { first_above = ltb-true _ _ v.1; first_below = ltb-true _ _ x.1; second_above = ltb-true _ _ y.1; second_below = ltb-true _ _ z.1 }, w.1)

same_gate : {a b c d : ℕ} → gate a b ≡ gate c d → (a ≡ c) × (b ≡ d)
same_gate e = (cc, cc)

-- so has every gate of a list that passes check 3
pub gates_below : (n q : ℕ) (g : List Node) → nodes_right n q g ≡ true → (p a b : ℕ) → get_or g p leaf ≡ gate a b → Below n a b
unfolding nodes_right
gates_below n q [] r p a b e = absurd (let z : ◌≡◌ {A = ℕ} 0 1 = cc in omega arith)
gates_below n q (leaf ∷ g) r zero a b e = absurd (let z : ◌≡◌ {A = ℕ} 0 1 = cc in omega arith)
gates_below n q (leaf ∷ g) r (suc p) a b e = gates_below n (suc q) g r p a b e
gates_below n q (gate c d ∷ g) r zero a b e = let s = same_gate e in rw (← s.0, ← s.1) (gate_below n q c d g r).0
gates_below n q (gate c d ∷ g) r (suc p) a b e = gates_below n (suc q) g (gate_below n q c d g r).1 p a b e

named_below : (n q : ℕ) (gs : List Group) → all_named n gs ≡ true → Ends q gs → q < n
unfolding all_named
named_below n q (x ∷ gs) e (first i) = ltb-true q n (every_in (λ p. ltb p n) q (endpoints_of x) (and_true (every (λ p. ltb p n) (endpoints_of x)) (all_named n gs) e).0 i)
named_below n q (x ∷ gs) e (later i) = named_below n q gs (and_true (every (λ p. ltb p n) (endpoints_of x)) (all_named n gs) e).1 i
named_below n q [] e x'' = elim x'' [ ]

-- readable records with right pins
all_read : (n : ℕ) (r : Groups?) → groups_right n r ≡ true → (gs : List Group) × (r ≡ groups gs) × (all_named n gs ≡ true)
unfolding groups_right
all_read n unreadable e = true_false e refl
all_read n (groups gs) e = (gs, refl, e)

graph_passed : (gates : List ℕ) → graph_right gates ≡ true → (length gates ≡ 2 * pin_count gates) × (1 ≤ pin_count gates) × (pin_count gates ≤ 65536) × (nodes_right (pin_count gates) 0 (graph_of gates) ≡ true)
unfolding graph_right pin_count
graph_passed gates e =
    let z = and_true (eqb (length gates % 2) 0 && leb 1 (pin_count gates) && leb (pin_count gates) 65536) (nodes_right (pin_count gates) 0 (graph_of gates)) e in
    let y = and_true (eqb (length gates % 2) 0 && leb 1 (pin_count gates)) (leb (pin_count gates) 65536) z.0 in
    let x = and_true (eqb (length gates % 2) 0) (leb 1 (pin_count gates)) y.0 in
    let d : length gates % 2 ≡ 0 = eqb-true _ _ x.0 in
    (omega arith, leb-true _ _ x.1, leb-true _ _ y.1, z.1)

-- ---- loops

-- an operand of a right gate is a pin above 0 and below n
pub operand_above : (n : ℕ) (x : Node) (q : ℕ) → ((a b : ℕ) → x ≡ gate a b → Below n a b) → In q (operands x) → (0 < q) × (q < n)
unfolding operands
operand_above n leaf q h i = in_nil q i
operand_above n (gate a b) q h i =
    let k = h a b refl in
    elim (in_cons q (pin_of a) (pin_of b ∷ []) i) [
      | inl c ↦ rw c (k.first_above, k.first_below)
      | inr c ↦ elim (in_cons q (pin_of b) [] c) [ inl d ↦ rw d (k.second_above, k.second_below) | inr d ↦ in_nil q d ]
    ]

module _ (gates : List ℕ) (e : graph_right gates ≡ true) where
  followed : (p x : ℕ) → In x (below (graph_of gates) [] p) → (0 < x) × (x < pin_count gates)
  followed p x i = operand_above (pin_count gates) (get_or (graph_of gates) p leaf) x (λ a b d. gates_below (pin_count gates) 0 (graph_of gates) (graph_passed gates e).3 p a b d) (below_in (graph_of gates) [] p x i).1

  -- every operand in a graph that passes check 3 is one of its pins
  pub inside : Inside gates
  inside = record { few = (graph_passed gates e).2; pins = λ p x i. (followed p x i).1 }

module _ (K : ℕ) (sized : Bool) (gates given records : List ℕ) (e : refusal_of K sized gates given records ≡ 0) where
  checked : (is_height K ≡ true) × (sized ≡ true) × (graph_right gates ≡ true) × (loops_right gates ≡ true) × (records_right (pin_count gates) records ≡ true) × (given_right (pin_count gates) given ≡ true)
  checked =
      split (is_height K)
      (λ h. split sized
      (λ s. split (graph_right gates)
      (λ g. split (loops_right gates)
      (λ f. split (records_right (pin_count gates) records)
      (λ r. split (given_right (pin_count gates) given)
      (λ v. (h, s, g, f, r, v))
      (λ t. absurd (omega (arith, refusal_5 K sized gates given records h s g f (pin_count gates) refl r t))))
      (λ t. absurd (omega (arith, refusal_4 K sized gates given records h s g f (pin_count gates) refl t))))
      (λ t. absurd (omega (arith, refusal_23 K sized gates given records h s g t))))
      (λ t. absurd (omega (arith, refusal_3 K sized gates given records h s t))))
      (λ t. absurd (omega (arith, refusal_2 K sized gates given records h t))))
      (λ t. absurd (omega (arith, refusal_1 K sized gates given records t)))

  -- what a refusal of 0 tells about height, areas, graph, records and given pins
  pub passed : Passed K sized gates given records
  unfolding loops_right records_right given_right
  passed =
      let c = checked in
      let g = graph_passed gates c.2 in
      let r = and_true (leb (length records) 65536) (groups_right (pin_count gates) (read records)) c.4 in
      let a = all_read (pin_count gates) (read records) r.1 in
      let o : groups_of records ≡ a.0 = groups_of_lem records a.1 in
      let b : (p x y : ℕ) → get_or (graph_of gates) p leaf ≡ gate x y → Below (pin_count gates) x y = gates_below (pin_count gates) 0 (graph_of gates) g.3 in
      record {
        height = c.0;
        areas = c.1;
        even = g.0;
        some = g.1;
        few = g.2;
        pins = graph_length gates;
        below = b;
        valid = record { inside = λ p x y q. rw (graph_length gates) ((b p x y q).first_below, (b p x y q).second_below); free = c.3 };
        short = leb-true _ _ r.0;
        readable = a.1 ∙ ap groups (sym o);
        named = λ q i. named_below (pin_count gates) q a.0 a.2 (rw o at i);
        given_named = λ q i. ltb-true q (pin_count gates) (every_in (λ p. ltb p (pin_count gates)) q given c.5 i);
      }

-- the groups that are still to be read at an index
pub record Next (xs : List ℕ) (at : ℕ) (gs : List Group) : Type 0 where
  pub whole : whole_at (drop at xs) ≡ true
  pub rest : List Group
  pub these : gs ≡ group_at (drop at xs) ∷ rest
  pub others : read (drop (at + (1 + size_of (get_or xs at 0))) xs) ≡ groups rest

and_rest : (x : Group) (r : Groups?) (gs : List Group) → and_then x r ≡ groups gs → (rest : List Group) × (gs ≡ x ∷ rest) × (r ≡ groups rest)
unfolding and_then
and_rest x unreadable gs e = absurd (let z : ◌≡◌ {A = ℕ} 0 1 = cc in omega arith)
and_rest x (groups rest) gs e = (rest, cc, refl)

module _ (xs : List ℕ) (at : ℕ) (gs : List Group) (e : read (drop at xs) ≡ groups gs) where
  -- below the end a whole record stands, and is the first of them
  pub read_next : at < length xs → Next xs at gs
  read_next h = split (whole_at (drop at xs))
      (λ t. let r = and_rest (group_at (drop at xs)) (read (drop (at + (1 + size_of (get_or xs at 0))) xs)) gs (sym (read_step xs at t) ∙ e) in record { whole = t; rest = r.0; these = r.1; others = r.2 })
      (λ t. absurd (let d : unreadable ≡ groups gs = sym (read_cut xs at h t) ∙ e in let z : ◌≡◌ {A = ℕ} 0 1 = cc in omega arith))

  -- so a record stands there
  pub read_stands : at < length xs → Stands xs at
  read_stands h = standing xs at (read_next h).whole

  -- past the end no group is left to read
  pub read_last : length xs ≤ at → gs ≡ []
  read_last h = let d : groups [] ≡ groups gs = sym (read_end xs at h) ∙ e in cc

-- its pins, and those of the records behind it, are below what bounds them all
module _ (xs : List ℕ) (at : ℕ) (gs : List Group) (n : Next xs at gs) (m : ℕ) (b : (q : ℕ) → Ends q gs → q < m) where
  -- each pin of the next record is below the bound
  pub endpoint_below : (i : ℕ) → i < size_at xs at → endpoint_at xs at i < m
  endpoint_below i h =
      let g = endpoints_of (group_at (drop at xs)) in
      let d : In (get_or g i 0) g = in_get_or g i 0 (omega (arith, size_endpoints xs at n.whole)) in
      rw (endpoint_is xs at n.whole i) (b (get_or g i 0) (rw n.these (first d)))

  -- each pin of the records behind it is below the bound too
  pub rest_below : (q : ℕ) → Ends q n.rest → q < m
  rest_below q e = b q (rw n.these (later e))
