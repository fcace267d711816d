-- The stages that a build leaves in its areas are those that the listing prints. Assumes nothing.
use mathlib.Core.Path.{◌≡◌, refl, sym, ◌∙◌, ap}
use mathlib.Core.Bool.{true, false}
use mathlib.Core.List.{List, [], ◌∷◌, ◌++◌, append_assoc}
use Prim.Native.Nat.{ℕ, suc, ◌+◌, ◌-◌, ◌*◌, ◌/◌, ◌%◌, ◌≤◌}
use native.Mathlib.Nat.{mul-le-mul_right, div-mul-le_self}
use native.Mathlib.Omega.{arith}
use lib.Dec.{leb}
use lib.ListN.{length, take, drop, replicate, length-append}
use lib.Seq.{take_at, drop_at, take-append_seam, drop-append_seam}
use borrow.Author.Tests.{le-leb}
use Rattle.rules.specs.Lists.{sum, count, padded, laid_over}
use Rattle.rules.specs.Cells.{empty, filled, word_limit, stage_size, rooms}
use Rattle.rules.specs.Graph.{Node}
use Rattle.rules.specs.Traversal.{WordRule}
use Rattle.rules.specs.Build.{Stage, Answer, cells_of, words_of, counts_of, reply, refuse, stages_of, coded_stages, Areas, areas_after}
use Rattle.rules.specs.Coded.{cell_pin, coded, pins}
use Rattle.rules.specs.Listing.{cell_lines, stage_lines, stages_lines, listing, answer_text}
use Rattle.rules.specs.Loops.{Valid}
use Rattle.rules.proofs.Demand as demand
use Rattle.rules.proofs.Stage.Refusals.{refused_some}
use Rattle.rules.proofs.Build.Lengths.{Sized, length_padded}
use Rattle.rules.proofs.Lists.Members.{split}
use Rattle.rules.proofs.Build.Words.{answer_cases}
use Rattle.rules.proofs.Build.Coding.{stages_coded, counts_coded, sized_coded, cells_coded}
use Rattle.coded.specs.Inputs.{Input, graph, groups, built}
use Rattle.coded.proofs.Passing.{tall, small, few, valid, named}
use Rattle.coded.proofs.Cells.{pin_filled, pin_empty, pin_plain, filled_pin}
use Rattle.coded.proofs.Shapes.{Shapes}
use Rattle.coded.proofs.Coding.{pins_coded}
use Rattle.coded.proofs.Complete.{built_shapes}
use Rattle.checks.proofs.Laws.Passed.{passed}
use Rattle.listing_lines.specs.Stages.{stages_in}
use Rattle.listing.specs.Listing.{written, hold, answered}
use Rattle.listing.proofs.Laws.Answered.{listed_all, answered_no, answered_yes}

-- ---- areas with stages at their front

stages_back : (size : ℕ) (ss : List Stage) → Sized size ss → (a b c : List ℕ) → stages_in size (length ss) (cells_of ss ++ a) (words_of ss ++ b) (counts_of ss ++ c) ≡ ss
unfolding stages_in cells_of words_of counts_of
stages_back size [] e a b c = refl
stages_back size (s ∷ ss) e a b c =
    rw (append_assoc s.plan (cells_of ss) a, append_assoc s.words (words_of ss) b, take_at s.plan (cells_of ss ++ a) size e.0, drop_at s.plan (cells_of ss ++ a) size e.0, take-append_seam s.words (words_of ss ++ b), drop-append_seam s.words (words_of ss ++ b), stages_back size ss e.1 a b c)

counts_sum : (ss : List Stage) (c : List ℕ) → sum (take (length ss) (counts_of ss ++ c)) ≡ length (words_of ss)
unfolding sum counts_of words_of
counts_sum [] c = refl
counts_sum (s ∷ ss) c = ap (λ (n : ℕ). length s.words + n) (counts_sum ss c) ∙ sym (length-append s.words (words_of ss))

long_front : (n : ℕ) (xs ys : List ℕ) → n ≤ length xs → leb n (length (xs ++ ys)) ≡ true
long_front n xs ys h = le-leb n (length (xs ++ ys)) (omega (arith, length-append xs ys))

-- whole stages in areas of the right sizes
module _ (K : ℕ) (ss : List Stage) (a : Areas) (need : ℕ) (each-sized : Sized (stage_size K) ss)
    (cells : length (cells_of ss) ≡ length ss * stage_size K) (few : length ss ≤ rooms K (length a.plan)) (counted : length (counts_of ss) ≡ length ss) where
  abbrev after : Areas
  after = areas_after K need ss a

  still : length after.plan ≡ length a.plan
  unfolding areas_after rooms
  still = length_padded (length a.plan) empty (cells_of ss) (omega (arith, cells, div-mul-le_self (length a.plan) (stage_size K), mul-le-mul_right {m = length ss} {n = length a.plan / stage_size K} (stage_size K) few))

  words_front : after.words ≡ words_of ss ++ (replicate (word_limit K - length (words_of ss)) empty ++ drop (length (padded (word_limit K) empty (words_of ss))) a.words)
  unfolding areas_after laid_over padded
  words_front = append_assoc (words_of ss) (replicate (word_limit K - length (words_of ss)) empty) _

  counts_front : after.counts ≡ counts_of ss ++ (replicate (rooms K (length a.plan) - length (counts_of ss)) 0 ++ drop (length (padded (rooms K (length a.plan)) 0 (counts_of ss))) a.counts)
  unfolding areas_after laid_over padded
  counts_front = append_assoc (counts_of ss) (replicate (rooms K (length a.plan) - length (counts_of ss)) 0) _

  -- the stages read back from a build's areas are the ones built
  pub after_stages : stages_in (stage_size K) (length ss) after.plan after.words after.counts ≡ ss
  unfolding areas_after padded
  after_stages = rw (words_front, counts_front) (stages_back (stage_size K) ss each-sized _ _ _)

  -- a build's areas hold the stages that it answers
  pub after_hold : hold K (length ss) after.plan after.words after.counts ≡ true
  unfolding hold
  after_hold =
      let p : leb (length ss) (rooms K (length after.plan)) ≡ true = rw still (le-leb (length ss) (rooms K (length a.plan)) few) in
      let q : leb (length ss) (length after.counts) ≡ true = rw counts_front (long_front (length ss) (counts_of ss) _ (omega (arith, counted))) in
      let w : leb (sum (take (length ss) after.counts)) (length after.words) ≡ true = rw (counts_front, words_front, counts_sum) (long_front (length (words_of ss)) (words_of ss) _ (omega arith)) in
      rw (p, q, w)

-- ---- cells print as their pins

pin_twice : (c : ℕ) → cell_pin (cell_pin c) ≡ cell_pin c
pin_twice c = split (filled c)
    (λ t. let e = pin_filled c t in rw e (pin_plain (c % 65536) (omega arith)))
    (λ t. let e = pin_empty c t in pin_empty (cell_pin c) (filled_pin c ∙ t) ∙ sym e)

lines_pins : (p : ℕ) (cl : List ℕ) → cell_lines p (pins cl) ≡ cell_lines p cl
unfolding cell_lines pins
lines_pins p [] = refl
lines_pins p (c ∷ cs) = split (filled c)
    (λ t. let f : filled (cell_pin c) ≡ true = filled_pin c ∙ t in rw (t, f, cell_lines, pin_twice c, lines_pins (suc p) cs))
    (λ t. let f : filled (cell_pin c) ≡ false = filled_pin c ∙ t in rw (t, f, cell_lines, lines_pins (suc p) cs))

count_pins : (cl : List ℕ) → count filled (pins cl) ≡ count filled cl
unfolding count pins
count_pins [] = refl
count_pins (c ∷ cs) = split (filled c)
    (λ t. let f : filled (cell_pin c) ≡ true = filled_pin c ∙ t in rw (t, f, count, count_pins cs))
    (λ t. let f : filled (cell_pin c) ≡ false = filled_pin c ∙ t in rw (t, f, count, count_pins cs))

module _ (K : ℕ) (g : List Node) (ok : Valid g) (few : length g ≤ 65536) (given : List ℕ) where
  lines_coded : (k : ℕ) (held : ℕ → Type 0) (room : ℕ) (ss : List Stage) → Shapes K g given held room ss → stages_lines k (coded_stages K g ss) ≡ stages_lines k ss
  unfolding stages_lines stage_lines coded_stages
  lines_coded k held room [] H = refl
  lines_coded k held room (s ∷ ss) H =
      let e : pins (coded K g s.plan) ≡ s.plan = pins_coded K g ok few given held room s H.0 in
      let c : count filled (coded K g s.plan) ≡ count filled s.plan = sym (count_pins (coded K g s.plan)) ∙ ap (count filled) e in
      let l : cell_lines 0 (coded K g s.plan) ≡ cell_lines 0 s.plan = sym (lines_pins 0 (coded K g s.plan)) ∙ ap (cell_lines 0) e in
      rw (c, l, lines_coded (suc k) _ _ ss H.1)

-- what is printed of a build's answer and areas is the answer's text
module _ (rule : WordRule) (I : Input) (a : Areas) (need : ℕ) (out : List ℕ) where
  abbrev b : Answer
  b = built rule I (rooms I.K (length a.plan))

  abbrev left : Areas
  left = areas_after I.K need (coded_stages I.K (graph I) (stages_of b)) a

  -- a build's answer and areas, listed, are the text of the answer
  pub answer_printed : answered I.K (reply b).number (reply b).stages (reply b).stage (reply b).pin left.plan left.words left.counts out ≡ written (answer_text I.K b) out
  unfolding reply refuse stages_of answer_text listing
  answer_printed = answer_cases b
      (λ n k e. rw e (sym (answered_no I.K 0 _ _ _ out n k 0 (refused_some rule I.K (graph I) I.given (groups I) (rooms I.K (length a.plan)) n k e))))
      (λ ss e.
      let K = I.K in
      let cs = coded_stages K (graph I) ss in
      let S = demand.whole_sizes rule K (graph I) (valid I) (tall I) (small I) I.given [] (groups I) (named I) (rooms K (length a.plan)) ss e in
      let Z = demand.whole_sized rule K (graph I) (valid I) (tall I) (small I) I.given [] (groups I) (named I) (rooms K (length a.plan)) ss e in
      let n : length cs ≡ length ss = stages_coded K (graph I) ss in
      let E = sized_coded K (graph I) ss in
      let C : length (cells_of cs) ≡ length cs * stage_size K = cells_coded K (graph I) ss Z ∙ S.cells ∙ ap (λ (x : ℕ). x * stage_size K) (sym n) in
      let F : length cs ≤ rooms K (length a.plan) = omega (arith, n, S.few) in
      let D : length (counts_of cs) ≡ length cs = ap length (counts_coded K (graph I) ss) ∙ S.counts ∙ sym n in
      let L : listing K cs ≡ listing K ss = rw (n, lines_coded K (graph I) (valid I) (few I) I.given 1 _ _ ss (built_shapes rule I (rooms K (length a.plan)) ss e)) in
      let A = after_stages K cs a need E C F D in
      let H = after_hold K cs a need E C F D in
      let aft = areas_after K need cs a in
      let G : answered K 0 (length cs) 0 0 aft.plan aft.words aft.counts out ≡ written (listing K ss) out =
      sym (answered_yes K (length cs) _ _ _ out 0 0 0 refl) ∙ sym (listed_all K (length cs) _ _ _ out (passed I.K I.sized I.gates I.given I.records I.passes).height H) ∙ rw (A, L) in
      rw e (rw n at G))
