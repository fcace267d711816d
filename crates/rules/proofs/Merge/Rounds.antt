-- Rounds of a merge: how many unions they examine, what they take, and that no group is lost on the way. Assumes nothing.
use Prim.Native.Nat.{ℕ, zero, suc, ◌+◌, ◌*◌, ◌≤◌}
use mathlib.Core.Path.{◌≡◌, refl, sym, ◌∙◌, ap}
use mathlib.Core.Bool.{Bool, true, false}
use mathlib.Core.Logic.{◌⊎◌, inl, inr}
use mathlib.Core.List.{List, [], ◌∷◌, ◌++◌, map}
use native.Mathlib.Omega.{arith}
use native.Mathlib.Nat.{mul-suc}
use lib.Dec.{eqb}
use lib.ListN.{length, take, length-take}
use Rattle.rules.specs.Lists.{mem, count, In, Once, one}
use Rattle.rules.specs.Cells.{filled}
use Rattle.rules.specs.Build.{Stage, Answer, refusal, whole, reply, cells_of, words_of}
use Rattle.rules.specs.Merge.{Common, Part, Rank, Round, none, some, Merged, built_of, part_of, rank_of, add_rank, before, ranking, accepted, attempt, without, rounds, indices_of}
use Rattle.rules.proofs.Lists.Members.{split, true_false, eqb_true, eqb_same, in_here, in_there, in_cons, in_nil, count-append}

-- ---- trials

-- the unions examined so far, whether or not one was accepted
unfoldable pub trials_of : Round → ℕ
trials_of (none barred t) = t
trials_of (some j u barred t) = t

module _ (J : Common) where
  attempt_few : (p : Part) (rs : List Rank) (barred : List ℕ) (t : ℕ) → trials_of (attempt J p rs barred t) ≤ t + length rs
  unfolding attempt trials_of
  attempt_few p [] barred t = omega arith
  attempt_few p (r ∷ rs) barred t = split (accepted J.cap (built_of J (p.has ++ r.part.has)))
      (λ e. rw (e, attempt) (omega arith))
      (λ e. rw (e, attempt) (omega (arith, attempt_few p rs (r.part.nr ∷ barred) (suc t))))

  -- a round examines no more unions than its begun blocks hold
  pub round_few : (p : Part) (barred : List ℕ) (later : List Part) (t : ℕ) → trials_of (attempt J p (take J.ranks (ranking J p barred later)) barred t) ≤ t + J.ranks
  round_few p barred later t = omega (arith, attempt_few p (take J.ranks (ranking J p barred later)) barred t, length-take J.ranks (ranking J p barred later))

-- ---- partitions in lists

-- a partition is one of the list
pub data Among (q : Part) : List Part → Type 0 where
  front : {ps : List Part} → Among q (q ∷ ps)
  further : {p : Part} {ps : List Part} → Among q ps → Among q (p ∷ ps)

-- the numbers of some partitions
unfoldable pub numbers : List Part → List ℕ
numbers ps = map (λ p. p.nr) ps

unfoldable parts_of : List Rank → List Part
parts_of rs = map (λ r. r.part) rs

among_number : {q : Part} {ps : List Part} → Among q ps → In q.nr (numbers ps)
unfolding numbers
among_number {q} (front {ps = ps}) = in_here q.nr (numbers ps)
among_number {q} (further {p = p} {ps = ps} a) = in_there q.nr p.nr (numbers ps) (among_number a)

-- a partition of a list is its first or a further one
pub among_cons : {q p : Part} {ps : List Part} → Among q (p ∷ ps) → (q ≡ p) ⊎ Among q ps
among_cons front = inl refl
among_cons (further a) = inr a

-- an empty list has no partition
pub none_among : {P : Type 0} (q : Part) → Among q [] → P
unfolding numbers
none_among q a = in_nil q.nr (among_number a)

add_among : (q : Part) (r : Rank) (rs : List Rank) → Among q (parts_of (add_rank r rs)) → (q ≡ r.part) ⊎ Among q (parts_of rs)
unfolding parts_of add_rank
add_among q r [] a = among_cons a
add_among q r (s ∷ rs) a = split (before s r)
    (λ e. elim (among_cons (rw (e, add_rank) at a)) [ inl d ↦ inr (rw d front) | inr d ↦ elim (add_among q r rs d) [ inl c ↦ inl c | inr c ↦ inr (further c) ] ])
    (λ e. among_cons (rw (e, add_rank) at a))

ranking_among : (J : Common) (p : Part) (barred : List ℕ) (later : List Part) (q : Part) → Among q (parts_of (ranking J p barred later)) → Among q later
unfolding ranking parts_of rank_of
ranking_among J p barred (s ∷ later) q a = split (mem s.nr barred)
    (λ e. further (ranking_among J p barred later q (rw (e, ranking) at a)))
    (λ e. elim (add_among q (rank_of J p s) (ranking J p barred later) (rw (e, ranking) at a)) [ inl d ↦ rw d front | inr d ↦ further (ranking_among J p barred later q d) ])
ranking_among J p barred [] q a = elim a [ ]

take_among : (n : ℕ) (rs : List Rank) (q : Part) → Among q (parts_of (take n rs)) → Among q (parts_of rs)
unfolding parts_of
take_among (suc n) (r ∷ rs) q front = front
take_among (suc n) (r ∷ rs) q (further a) = further (take_among n rs q a)
take_among zero rs q x' = elim x' [ ]
take_among (suc n) [] q x3 = elim x3 [ ]

-- ---- a round

-- a partition's groups build by themselves to its stages, words and filled cells
pub record Builds (J : Common) (p : Part) : Type 0 where
  pub ss : List Stage
  pub built : built_of J p.has ≡ whole ss
  pub stages : p.stages ≡ length ss
  pub words : p.words ≡ length (words_of ss)
  pub cells : p.cells ≡ count filled (cells_of ss)

-- a partition made of a build with a whole plan builds by itself
pub part_builds : (J : Common) (n : ℕ) (is : List ℕ) (size : ℕ) (ss : List Stage) → built_of J is ≡ whole ss → Builds J (part_of n is size (built_of J is))
unfolding part_of reply
part_builds J n is size ss e = record { ss = ss; built = e; stages = rw (e, reply); words = rw (e, reply); cells = rw (e, reply) }

accepted_whole : (cap : ℕ) (a : Answer) → accepted cap a ≡ true → (ss : List Stage) × (a ≡ whole ss)
unfolding accepted
accepted_whole cap (refusal n k) e = true_false e refl
accepted_whole cap (whole ss) e = (ss, refl)

-- what is taken: a later partition, whose groups go behind those at hand
record Taken (J : Common) (p : Part) (qs : List Part) (j : ℕ) (u : Part) : Type 0 where
  pub q : Part
  pub among : Among q qs
  pub number : j ≡ q.nr
  pub has : u.has ≡ p.has ++ q.has
  pub builds : Builds J u

taken_further : {J : Common} {p u s : Part} {qs : List Part} {j : ℕ} → Taken J p qs j u → Taken J p (s ∷ qs) j u
taken_further T = record { q = T.q; among = further T.among; number = T.number; has = T.has; builds = T.builds }

attempt_some : (J : Common) (p : Part) (rs : List Rank) (barred : List ℕ) (t : ℕ) (j : ℕ) (u : Part) (barred' : List ℕ) (t' : ℕ) → attempt J p rs barred t ≡ some j u barred' t' → Taken J p (parts_of rs) j u
unfolding attempt parts_of part_of
attempt_some J p [] barred t j u barred' t' e = absurd (let z : ◌≡◌ {A = ℕ} 0 1 = cc in omega arith)
attempt_some J p (r ∷ rs) barred t j u barred' t' e = split (accepted J.cap (built_of J (p.has ++ r.part.has)))
    (λ c.
    let d = rw (c, attempt) at e in
    let x : r.part.nr ≡ j = cc in
    let y : part_of p.nr (p.has ++ r.part.has) r.union (built_of J (p.has ++ r.part.has)) ≡ u = cc in
    let w = accepted_whole J.cap (built_of J (p.has ++ r.part.has)) c in
    record { q = r.part; among = front; number = sym x; has = rw (← y) refl; builds = rw (← y) (part_builds J p.nr (p.has ++ r.part.has) r.union w.0 w.1) })
    (λ c. taken_further (attempt_some J p rs (r.part.nr ∷ barred) (suc t) j u barred' t' (rw (c, attempt) at e)))

-- ---- taking a partition out

without_less : (n : ℕ) (ps : List Part) (q : ℕ) → In q (numbers (without n ps)) → In q (numbers ps)
unfolding without numbers
without_less n [] q i = i
without_less n (p ∷ ps) q i = split (eqb p.nr n)
    (λ e. in_there q p.nr (numbers ps) (rw (e, without) at i))
    (λ e. elim (in_cons q p.nr (numbers (without n ps)) (rw (e, without) at i)) [ inl d ↦ rw d (in_here p.nr (numbers ps)) | inr d ↦ in_there q p.nr (numbers ps) (without_less n ps q d) ])

once_without : (n : ℕ) (ps : List Part) → Once (numbers ps) → Once (numbers (without n ps))
unfolding without numbers
once_without n [] o = o
once_without n (p ∷ ps) (one a o) = split (eqb p.nr n)
    (λ e. rw (e, without) o)
    (λ e. rw (e, without) (one (split (mem p.nr (numbers (without n ps))) (λ i. true_false (without_less n ps p.nr i) a) (λ i. i)) (once_without n ps o)))

-- what counts of it is counted apart, and one less is left
record Apart (q : Part) (ps : List Part) : Type 0 where
  pub same : (f : ℕ → Bool) → count f (indices_of ps) ≡ count f q.has + count f (indices_of (without q.nr ps))
  pub less : length ps ≡ suc (length (without q.nr ps))

apart : (q : Part) (ps : List Part) → Once (numbers ps) → Among q ps → Apart q ps
unfolding without numbers indices_of
apart q (p ∷ ps) o front = let e : eqb q.nr q.nr ≡ true = eqb_same q.nr in record { same = λ f. rw (e, without) (count-append f q.has (indices_of ps)); less = rw (e, without) refl }
apart q (p ∷ ps) (one out o) (further a) =
    let e : eqb p.nr q.nr ≡ false = split (eqb p.nr q.nr) (λ c. true_false (rw (eqb_true p.nr q.nr c) (among_number a)) out) (λ c. c) in
    let h = apart q ps o a in
    record {
      same = λ f. rw (e, without) (count-append f p.has (indices_of ps) ∙ omega (arith, h.same f, count-append f p.has (indices_of (without q.nr ps))));
      less = rw (e, without) (ap suc h.less);
    }
apart q [] o x'' = elim x'' [ ]

-- ---- rounds

round : {P : Type 0} (x : Round) → ((barred : List ℕ) (t : ℕ) → x ≡ none barred t → P) → ((j : ℕ) (u : Part) (barred : List ℕ) (t : ℕ) → x ≡ some j u barred t → P) → P
round (none b t) f h = f b t refl
round (some j u b t) f h = h j u b t refl

-- what merging into one partition keeps, and what it costs
pub record Gathers (J : Common) (p : Part) (later : List Part) (t : ℕ) (m : Merged) : Type 0 where
  pub same : (f : ℕ → Bool) → count f m.part.has + count f (indices_of m.later) ≡ count f p.has + count f (indices_of later)
  pub once : Once (numbers m.later)
  pub few : length m.later ≤ length later
  pub cost : m.trials + J.ranks * length m.later ≤ t + J.ranks * suc (length later)
  pub builds : Builds J m.part
  pub left : (q : Part) → Among q m.later → Among q later

without_among : (n : ℕ) (ps : List Part) (q : Part) → Among q (without n ps) → Among q ps
unfolding without
without_among n (p ∷ ps) q a = split (eqb p.nr n)
    (λ e. further (rw (e, without) at a))
    (λ e. elim (among_cons (rw (e, without) at a)) [ inl d ↦ rw d front | inr d ↦ further (without_among n ps q d) ])
without_among n [] q a = elim a [ ]

module _ (J : Common) where
  stays : (p : Part) (later : List Part) (t t' : ℕ) → Builds J p → Once (numbers later) → t' ≤ t + J.ranks → Gathers J p later t (record { part = p; later = later; trials = t' })
  stays p later t t' B o h = record { same = λ f. refl; once = o; few = omega arith; cost = omega (arith, mul-suc J.ranks (length later)); builds = B; left = λ q a. a }

  gathers_on : {p u : Part} {later : List Part} {t t' : ℕ} {m : Merged} {j : ℕ} (T : Taken J p later j u) → Once (numbers later) → t' ≤ t + J.ranks → Gathers J u (without T.q.nr later) t' m → Gathers J p later t m
  gathers_on {p} {u} {later} {t} {t'} {m} T o h G =
      let A = apart T.q later o T.among in
      record {
        same = λ f.
            let x : count f u.has ≡ count f p.has + count f T.q.has = ap (count f) T.has ∙ count-append f p.has T.q.has in
            omega (arith, G.same f, A.same f);
        once = G.once;
        few = omega (arith, G.few, A.less);
        cost = let y : J.ranks * suc (length later) ≡ J.ranks + J.ranks * suc (length (without T.q.nr later)) = ap (λ (n : ℕ). J.ranks * suc n) A.less ∙ mul-suc J.ranks (suc (length (without T.q.nr later))) ∙ omega arith in omega (arith, G.cost);
        builds = G.builds;
        left = λ q a. without_among T.q.nr later q (G.left q a);
      }

  -- rounds that begin with a partition that builds keep and cost that
  pub rounds_gather : (f : ℕ) (p : Part) (later : List Part) (barred : List ℕ) (t : ℕ) → Builds J p → Once (numbers later) → Gathers J p later t (rounds J f p later barred t)
  unfolding rounds trials_of
  rounds_gather zero p later barred t B o = stays p later t t B o (omega arith)
  rounds_gather (suc f) p later barred t B o =
      let rs = take J.ranks (ranking J p barred later) in
      let few : trials_of (attempt J p rs barred t) ≤ t + J.ranks = round_few J p barred later t in
      round (attempt J p rs barred t)
      (λ b t' e. rw (e, rounds) (stays p later t t' B o (rw (e, trials_of) at few)))
      (λ j u b t' e.
      let A = attempt_some J p rs barred t j u b t' e in
      let T : Taken J p later j u = record { q = A.q; among = ranking_among J p barred later A.q (take_among J.ranks (ranking J p barred later) A.q A.among); number = A.number; has = A.has; builds = A.builds } in
      rw (e, rounds, A.number) (gathers_on T o (rw (e, trials_of) at few) (rounds_gather f u (without A.q.nr later) b t' A.builds (once_without A.q.nr later o))))
