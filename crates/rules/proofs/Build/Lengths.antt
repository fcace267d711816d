-- How long everything is: the stages of a build, the lent areas at exit, the bits of a fold. Assumes nothing.
use Prim.Native.Nat.{ℕ, zero, suc, ◌+◌, ◌-◌, ◌*◌, ◌^◌, ◌≤◌}
use mathlib.Core.Path.{◌≡◌, refl, ◌∙◌, ap}
use mathlib.Core.Bool.{Bool, ◌&&◌}
use mathlib.Core.List.{List, [], ◌∷◌, ◌++◌}
use native.Mathlib.Nat.{suc-mul}
use native.Mathlib.Omega.{arith}
use lib.Dec.{leb}
use lib.ListN.{length, take, drop, replicate, length-append, length-replicate, length-drop, length-map}
use borrow.Author.Tests.{ltb-false}
use Rattle.rules.specs.Lists.{padded, laid_over, up_to}
use Rattle.rules.specs.Cells.{empty, word_limit, rooms, stage_size}
use Rattle.rules.specs.Graph.{Node}
use Rattle.rules.specs.Traversal.{WordRule, Setting, setting}
use Rattle.rules.specs.Placing.{filled_plan}
use Rattle.rules.specs.Ending.{stage, finish, ending, close, written, more_words, last_stage, one_stage}
use Rattle.rules.specs.Build.{Stage, refusal, whole, stages, cells_of, words_of, counts_of, Areas, areas_after}
use Rattle.rules.specs.Fold.{bit_at, as_number, stage_bits, fold_from, load_from}
use Rattle.rules.proofs.Lists.Members.{split, and_true}
use Rattle.rules.proofs.Lists.Lengths.{length-up_to}
use Rattle.rules.specs.Inside.Walks.{Graph, Sound, Ready}
use Rattle.rules.proofs.Needed.Needs.{setting_sound}
use Rattle.rules.proofs.Needed.Lacks.{leb_true}
use Rattle.rules.proofs.Tree.Invariant.{final}
use Rattle.rules.proofs.Stage.Staged.{the_end, not_refused}
use Rattle.rules.proofs.Stage.Depth.{still_ready, stage_cases}
use Rattle.rules.proofs.Written.Writes.{more_whole}

-- ---- a stage

ending_fits : (X : Setting) (room : ℕ) (pl pl2 plan2 words realised waiting : List ℕ) → length (written X pl).words ≤ room → ending X room pl pl2 ≡ stage plan2 words realised waiting → length words ≤ room
unfolding ending close
ending_fits X room pl pl2 plan2 words realised waiting h e = split (last_stage X pl && leb (length (written X pl).words + length (more_words X pl pl2)) room)
    (λ b.
    let d : words ≡ (written X pl).words ++ more_words X pl pl2 = let z = rw (b, ending) at e in cc in
    let k = leb_true (length (written X pl).words + length (more_words X pl pl2)) room (and_true (last_stage X pl) (leb (length (written X pl).words + length (more_words X pl pl2)) room) b).1 in
    rw (d, length-append) k)
    (λ b. let d : words ≡ (written X pl).words = let z = rw (b, ending) at e in cc in rw d h)

-- a stage writes no more words than it may
pub words_fit : (X : Setting) (room : ℕ) (pl plan2 words realised waiting : List ℕ) → finish X room pl ≡ stage plan2 words realised waiting → length words ≤ room
words_fit X room pl plan2 words realised waiting e = not_refused X room pl e (λ pl2 b r f d. ending_fits X room pl pl2 plan2 words realised waiting (ltb-false room (length (written X pl).words) b) d)

-- every stage has so many cells
abbrev pub Sized : ℕ → List Stage → Type 0
Sized size [] = Unit {0}
Sized size (s ∷ ss) = (length s.plan ≡ size) × Sized size ss

module _ (rule : WordRule) (K : ℕ) (g : List Node) (r : ℕ → ℕ) (G : Graph g r) (tall : 6 ≤ K) (small : length g ≤ empty) where
  low : 1 ≤ K
  low = omega arith

  module _ (done waiting : List ℕ) (R : Ready g r waiting) (room : ℕ) (plan2 words realised waiting2 : List ℕ) (e : one_stage rule K g done waiting room ≡ stage plan2 words realised waiting2) where
    -- a stage has a number a position
    pub stage_length : length plan2 ≡ 2 ^ (K + 1)
    unfolding setting
    stage_length =
        let X : Setting = setting rule K g done waiting in
        let S : Sound X r (length g) = setting_sound rule K g r G done waiting R.bounded in
        (final X r (length g) S low (λ pl. Unit {0}) (λ pl h p n l i a. tt) tt plan2 (the_end rule K g r G low small done waiting R.bounded room plan2 words realised waiting2 e).rested).0

    -- and it writes no more words than it may
    pub stage_words : length words ≤ room
    unfolding one_stage
    stage_words = words_fit (setting rule K g done waiting) room (filled_plan (setting rule K g done waiting)) plan2 words realised waiting2 e

  -- a whole plan: a stage a room, and no more words than it may write
  pub record Sizes (rooms room : ℕ) (ss : List Stage) : Type 0 where
    pub few : length ss ≤ rooms
    pub cells : length (cells_of ss) ≡ length ss * 2 ^ (K + 1)
    pub words : length (words_of ss) ≤ room
    pub counts : length (counts_of ss) ≡ length ss

  none : (rooms room : ℕ) (ss : List Stage) → ss ≡ [] → Sizes rooms room ss
  unfolding cells_of words_of counts_of
  none rooms room ss z = rw z (record { few = omega arith; cells = omega arith; words = omega arith; counts = refl })

  one_more : (rooms room : ℕ) (s : Stage) (ss : List Stage) → length s.plan ≡ 2 ^ (K + 1) → length s.words ≤ room → Sizes rooms (room - length s.words) ss → Sizes (suc rooms) room (s ∷ ss)
  unfolding cells_of words_of counts_of
  one_more rooms room s ss l w z = record {
    few = omega (arith, z.few);
    cells = length-append s.plan (cells_of ss) ∙ omega (arith, l, z.cells, suc-mul (length ss) (2 ^ (K + 1)));
    words = rw length-append (omega (arith, z.words));
    counts = ap suc z.counts;
  }

  -- the stages of an accepted build have these sizes
  pub sizes : (rooms k : ℕ) (done waiting : List ℕ) → Ready g r waiting → (room : ℕ) (ss : List Stage) → stages rule K g rooms k done waiting room ≡ whole ss → Sizes rooms room ss
  unfolding stages
  sizes zero k done [] R room ss e = none 0 room ss (cc)
  sizes zero k done (w ∷ ws) R room ss e = absurd (let z : ◌≡◌ {A = ℕ} 0 1 = cc in omega arith)
  sizes (suc rooms) k done [] R room ss e = none (suc rooms) room ss (cc)
  sizes (suc rooms) k done (w ∷ ws) R room ss e = stage_cases (one_stage rule K g done (w ∷ ws) room)
      (λ n d. absurd (let c : refusal n k ≡ whole ss = rw (d, stages) at e in let z : ◌≡◌ {A = ℕ} 0 1 = cc in omega arith))
      (λ plan2 words realised waiting2 d.
      let m = more_whole rule K g r G tall small (record { plan = plan2; words = words }) (stages rule K g rooms (suc k) (realised ++ done) waiting2 (room - length words)) ss (rw (d, stages) at e) in
      rw m.2 (one_more rooms room (record { plan = plan2; words = words }) m.0 (stage_length done (w ∷ ws) R room plan2 words realised waiting2 d) (stage_words done (w ∷ ws) R room plan2 words realised waiting2 d)
      (sizes rooms (suc k) (realised ++ done) waiting2 (still_ready rule K g r G tall small done (w ∷ ws) R room plan2 words realised waiting2 d) (room - length words) m.0 m.1)))

  -- and each of them a number a position
  pub all_sized : (rooms k : ℕ) (done waiting : List ℕ) → Ready g r waiting → (room : ℕ) (ss : List Stage) → stages rule K g rooms k done waiting room ≡ whole ss → Sized (2 ^ (K + 1)) ss
  unfolding stages
  all_sized zero k done [] R room ss e = let z : ss ≡ [] = cc in rw z tt
  all_sized zero k done (w ∷ ws) R room ss e = absurd (let z : ◌≡◌ {A = ℕ} 0 1 = cc in omega arith)
  all_sized (suc rooms) k done [] R room ss e = let z : ss ≡ [] = cc in rw z tt
  all_sized (suc rooms) k done (w ∷ ws) R room ss e = stage_cases (one_stage rule K g done (w ∷ ws) room)
      (λ n d. absurd (let c : refusal n k ≡ whole ss = rw (d, stages) at e in let z : ◌≡◌ {A = ℕ} 0 1 = cc in omega arith))
      (λ plan2 words realised waiting2 d.
      let m = more_whole rule K g r G tall small (record { plan = plan2; words = words }) (stages rule K g rooms (suc k) (realised ++ done) waiting2 (room - length words)) ss (rw (d, stages) at e) in
      rw m.2 (stage_length done (w ∷ ws) R room plan2 words realised waiting2 d, all_sized rooms (suc k) (realised ++ done) waiting2 (still_ready rule K g r G tall small done (w ∷ ws) R room plan2 words realised waiting2 d) (room - length words) m.0 m.1))

-- ---- the lent areas keep their lengths

-- a list that is no longer than n is filled up to exactly n
pub length_padded : (n x : ℕ) (xs : List ℕ) → length xs ≤ n → length (padded n x xs) ≡ n
unfolding padded
length_padded n x xs h = length-append xs (replicate (n - length xs) x) ∙ omega (arith, length-replicate (n - length xs) x)

-- a list laid over a longer one keeps that one's length
pub length-laid_over : (xs ys : List ℕ) → length xs ≤ length ys → length (laid_over xs ys) ≡ length ys
unfolding laid_over
length-laid_over xs ys h = length-append xs (drop (length xs) ys) ∙ omega (arith, length-drop (length xs) ys)

-- areas that are as long as before
pub record SameLengths (a b : Areas) : Type 0 where
  pub plan : length a.plan ≡ length b.plan
  pub words : length a.words ≡ length b.words
  pub counts : length a.counts ≡ length b.counts
  pub work : length a.work ≡ length b.work

-- a build leaves each lent area as long as it was, where its stages fit in the areas
pub areas_length : (K need : ℕ) (ss : List Stage) (a : Areas) → length (cells_of ss) ≤ length a.plan → length (words_of ss) ≤ word_limit K → word_limit K ≤ length a.words →
    length (counts_of ss) ≤ rooms K (length a.plan) → rooms K (length a.plan) ≤ length a.counts → need ≤ length a.work → SameLengths (areas_after K need ss a) a
unfolding areas_after
areas_length K need ss a c w1 w2 n1 n2 k = record {
  plan = length_padded (length a.plan) empty (cells_of ss) c;
  words = length-laid_over (padded (word_limit K) empty (words_of ss)) a.words (omega (arith, length_padded (word_limit K) empty (words_of ss) w1));
  counts = length-laid_over (padded (rooms K (length a.plan)) 0 (counts_of ss)) a.counts (omega (arith, length_padded (rooms K (length a.plan)) 0 (counts_of ss) n1));
  work = length-laid_over (replicate need 0) a.work (omega (arith, length-replicate {A = ℕ} need 0));
}

-- ---- the fold

-- a stage folds to a bit a position
pub length-stage_bits : (K : ℕ) (g : List Node) (pl : List ℕ) (load : ℕ → Bool) → length (stage_bits K g pl load) ≡ 2 ^ (K + 1)
unfolding stage_bits
length-stage_bits K g pl load = length-map (up_to (stage_size K) 0) (λ p. as_number (bit_at K g pl load p)) ∙ length-up_to (stage_size K) 0

-- and n stages to n times as many
pub length_fold : (n K : ℕ) (g : List Node) (load : ℕ → Bool) (plan : List ℕ) → length (fold_from n K g load plan) ≡ n * 2 ^ (K + 1)
unfolding fold_from
length_fold zero K g load plan = omega arith
length_fold (suc n) K g load plan =
    length-append (stage_bits K g (take (stage_size K) plan) load) (fold_from n K g (load_from K g (take (stage_size K) plan) load) (drop (stage_size K) plan))
    ∙ omega (arith, length-stage_bits K g (take (stage_size K) plan) load, length_fold n K g (load_from K g (take (stage_size K) plan) load) (drop (stage_size K) plan), suc-mul n (2 ^ (K + 1)))
