-- A whole merge: no group is lost, every partition of the result builds by itself, the trials are bounded. Assumes nothing.
use Prim.Native.Nat.{ℕ, zero, suc, ◌+◌, ◌*◌, ◌/◌, max, ◌≤◌}
use mathlib.Core.Path.{◌≡◌, refl, ◌∙◌, ap}
use mathlib.Core.Bool.{Bool}
use mathlib.Core.Logic.{◌⊎◌, inl, inr}
use mathlib.Core.List.{List, [], ◌∷◌, ◌++◌, map}
use native.Mathlib.Omega.{arith}
use native.Mathlib.Nat.{mul-suc, mul-add, mul-le-mul_left}
use lib.Dec.{leb}
use lib.ListN.{length, get_or, take, drop, length-drop, take-append-drop}
use Rattle.rules.specs.Lists.{count, sum, Once, one}
use Rattle.rules.specs.Cells.{filled, rooms}
use Rattle.rules.specs.Graph.{Node, graph_of}
use Rattle.rules.specs.Records.{Group, output, groups_of}
use Rattle.rules.specs.Traversal.{WordRule}
use Rattle.rules.specs.Build.{Stage, whole, build, cells_of, words_of}
use Rattle.rules.specs.Merge.{Common, Part, Result, built_of, rounds, add_part, merging, Parts, bad, good, original, most_stages, occupied, begun, named, MergeAnswer, turned, merged, merge, GroupList, split_by, joined, indices_of, group_list_after, merge_answer_of}
use Rattle.rules.proofs.Lists.Members.{split, count-append}
use Rattle.rules.proofs.Merge.Rounds.{Among, front, further, numbers, among_cons, Builds, rounds_gather}
use Rattle.rules.proofs.Merge.Given.{original_given, occupied_same, occupied_among, occupied_few, occupied_once}

-- ---- all partitions

add_part_among : (p : Part) (ps : List Part) (q : Part) → Among q (add_part p ps) → (q ≡ p) ⊎ Among q ps
unfolding add_part
add_part_among p [] q a = among_cons a
add_part_among p (s ∷ ps) q a = split (leb s.stages p.stages)
    (λ e. among_cons (rw (e, add_part) at a))
    (λ e. elim (among_cons (rw (e, add_part) at a)) [ inl d ↦ inr (rw d front) | inr d ↦ elim (add_part_among p ps q d) [ inl c ↦ inl c | inr c ↦ inr (further c) ] ])

add_part_same : (f : ℕ → Bool) (p : Part) (ps : List Part) → count f (indices_of (add_part p ps)) ≡ count f p.has + count f (indices_of ps)
unfolding add_part indices_of
add_part_same f p [] = count-append f p.has []
add_part_same f p (s ∷ ps) = split (leb s.stages p.stages)
    (λ e. rw (e, add_part) (count-append f p.has (s.has ++ indices_of ps)))
    (λ e. rw (e, add_part) (count-append f s.has (indices_of (add_part p ps)) ∙ omega (arith, add_part_same f p ps, count-append f s.has (indices_of ps))))

record Ends (J : Common) (ps : List Part) (t : ℕ) (r : Result) : Type 0 where
  pub same : (f : ℕ → Bool) → count f (indices_of r.parts) ≡ count f (indices_of ps)
  pub builds : (q : Part) → Among q r.parts → Builds J q
  pub cost : r.trials ≤ t + J.ranks * (2 * length ps)

merging_ends : (J : Common) (f : ℕ) (ps : List Part) (t : ℕ) → length ps ≤ f → ((q : Part) → Among q ps → Builds J q) → Once (numbers ps) → Ends J ps t (merging J f ps t)
unfolding merging indices_of numbers
merging_ends J zero [] t h B o = record { same = λ f. refl; builds = λ q a. B q a; cost = omega arith }
merging_ends J zero (p ∷ ps) t h B o = absurd (omega arith)
merging_ends J (suc f) [] t h B o = record { same = λ f. refl; builds = λ q a. B q a; cost = omega arith }
merging_ends J (suc f) (p ∷ ps) t h B (one a o) =
    let m = rounds J (suc f) p ps [] t in
    let G = rounds_gather J (suc f) p ps [] t (B p front) o in
    let E = merging_ends J f m.later m.trials (omega (arith, G.few)) (λ q i. B q (further (G.left q i))) G.once in
    let r = merging J f m.later m.trials in
    record {
      same = λ g. add_part_same g m.part r.parts ∙ omega (arith, E.same g, G.same g, count-append g p.has (indices_of ps));
      builds = λ q i. elim (add_part_among m.part r.parts q i) [ inl d ↦ rw d G.builds | inr d ↦ E.builds q d ];
      cost =
          let x = mul-le-mul_left J.ranks G.few in
          let y : J.ranks * (2 * length m.later) ≡ J.ranks * length m.later + J.ranks * length m.later = ap (λ (n : ℕ). J.ranks * n) (omega arith) ∙ mul-add J.ranks (length m.later) (length m.later) in
          let z : J.ranks * (2 * suc (length ps)) ≡ J.ranks * suc (length ps) + (J.ranks * length ps + J.ranks) = ap (λ (n : ℕ). J.ranks * n) (omega arith) ∙ mul-add J.ranks (suc (length ps)) (suc (length ps)) ∙ omega (arith, mul-suc J.ranks (length ps)) in
          omega (arith, E.cost, G.cost);
    }

-- ---- a merge

parts_cases : {P : Type 0} (x : Parts) → ((i n k : ℕ) → x ≡ bad i n k → P) → ((ps : List Part) → x ≡ good ps → P) → P
parts_cases (bad i n k) f h = f i n k refl
parts_cases (good ps) f h = h ps refl

-- how many unions a round may examine, of n partitions: what the begun blocks hold
abbrev pub held : ℕ → ℕ
held n = begun n (max (n / 8) 20) 0 4

module _ (rule : WordRule) (K : ℕ) (g : List Node) (given : List ℕ) (groups : List Group) (rooms : ℕ) where
  -- a partition's groups build by themselves to the stages, words and filled cells that are reported for it
  pub record Stands (p : Part) : Type 0 where
    pub ss : List Stage
    pub built : build rule K g given (map (λ i. get_or groups i (output 0)) p.has) rooms ≡ whole ss
    pub stages : p.stages ≡ length ss
    pub words : p.words ≡ length (words_of ss)
    pub cells : p.cells ≡ count filled (cells_of ss)

  -- Each group occurs as often after as before; every partition of the result builds by itself to the stages reported; a partition is merged
  -- with in rounds, each of which examines no more unions than its begun blocks hold (`round_few`), and there are no more than two rounds a
  -- partition.
  pub record Kept (parts : List (List ℕ)) (r : Result) : Type 0 where
    pub same : (f : ℕ → Bool) → count f (indices_of r.parts) ≡ count f (joined parts)
    pub stands : (q : Part) → Among q r.parts → Stands q
    pub trials : r.trials ≤ held (length parts) * (2 * length parts)

  -- every merge that is not refused keeps all that
  pub merge_keeps : (extra : ℕ) (parts : List (List ℕ)) (r : Result) → merge rule K g given groups rooms extra parts ≡ merged r → Kept parts r
  unfolding merge built_of named
  merge_keeps extra parts r e =
      let J : Common = record { rule = rule; K = K; g = g; given = given; groups = groups; rooms = rooms; cap = 0; ranks = 0 } in
      parts_cases (original J 0 parts)
      (λ i n k d. absurd (let c = rw (d, merge) at e in let z : ◌≡◌ {A = ℕ} 0 1 = cc in omega arith))
      (λ ps d.
      let G = original_given J 0 parts ps d in
      let I : Common = record { rule = rule; K = K; g = g; given = given; groups = groups; rooms = rooms; cap = most_stages ps 0 + extra; ranks = held (length ps) } in
      let B : (q : Part) → Among q (occupied ps) → Builds I q = λ q a. let b = G.builds q (occupied_among ps q a) in record { ss = b.ss; built = b.built; stages = b.stages; words = b.words; cells = b.cells } in
      let E = merging_ends I (length ps) (occupied ps) 0 (occupied_few ps) B (occupied_once ps G.once) in
      let c : merging I (length ps) (occupied ps) 0 ≡ r = let z : merged (merging I (length ps) (occupied ps) 0) ≡ merged r = rw (d, merge) at e in cc in
      rw (← c) (record {
        same = λ f. E.same f ∙ ap (count f) (occupied_same ps ∙ G.indices);
        stands = λ q a. let b = E.builds q a in record { ss = b.ss; built = b.built; stages = b.stages; words = b.words; cells = b.cells };
        trials = let k : 2 * length (occupied ps) ≤ 2 * length ps = omega (arith, occupied_few ps) in let l = mul-le-mul_left (held (length ps)) k in rw (← G.count) (omega (arith, E.cost));
      }))

-- ---- the group list

-- a group list that is cut by its lengths and joined again is the same
pub joined_split : (ns is : List ℕ) → sum ns ≡ length is → joined (split_by ns is) ≡ is
unfolding split_by joined sum
joined_split [] [] e = refl
joined_split [] (i ∷ is) e = absurd (omega arith)
joined_split (n ∷ ns) is e = ap (λ (l : List ℕ). take n is ++ l) (joined_split ns (drop n is) (omega (arith, length-drop n is))) ∙ take-append-drop n is

-- Each group occurs in the lent list as often after a merge as before.
pub groups_kept : (rule : WordRule) (K : ℕ) (gates given records : List ℕ) (l : GroupList) (extra size : ℕ) → sum l.lengths ≡ length l.indices → (m : MergeAnswer) → merge_answer_of rule K gates given records l extra size ≡ m →
    (f : ℕ → Bool) → count f (group_list_after m l).indices ≡ count f l.indices
unfolding merge_answer_of group_list_after
groups_kept rule K gates given records l extra size h (turned i n k) e f = refl
groups_kept rule K gates given records l extra size h (merged r) e f =
    (merge_keeps rule K (graph_of gates) given (groups_of records) (rooms K size) extra (split_by l.lengths l.indices) r e).same f ∙ ap (count f) (joined_split l.lengths l.indices h)
