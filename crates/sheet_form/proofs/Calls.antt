-- The calls: what a build left is saved, and what was saved is loaded, with the areas as a build leaves them. Assumes nothing.
use Prim.Native.Nat.{ℕ, suc, ◌+◌, ◌-◌, ◌*◌, ◌/◌, ◌%◌, ◌^◌, ◌≤◌, ◌<◌}
use mathlib.Core.Path.{◌≡◌, refl, sym, ap, ◌∙◌}
use mathlib.Core.Bool.{true, ◌&&◌}
use mathlib.Core.List.{List, [], ◌∷◌, ◌++◌, append_assoc, append-nil}
use native.Mathlib.Nat.{mul-le-mul_left, div-add-mod', le-div_iff_mul-le}
use native.Mathlib.Omega.{arith}
use lib.Dec.{leb}
use lib.ListN.{length, get_or, take, drop, replicate, length-append, drop_of_length-le}
use lib.Pow.{pow-add, pow_pos}
use lib.Seq.{take_at, drop_at}
use borrow.Author.Tests.{le-leb, eqb-true}
use Rattle.rules.specs.Lists.{sum, padded, laid_over}
use Rattle.rules.specs.Cells.{empty, stage_size, word_limit, rooms}
use Rattle.rules.specs.Graph.{Node, graph_of}
use Rattle.rules.specs.Records.{groups_of, Ends}
use Rattle.rules.specs.Traversal.{WordRule}
use Rattle.rules.specs.Checks.{plan_sized, areas_sized, work_size, refusal_of}
use Rattle.rules.specs.Build as build
use Rattle.rules.specs.Build.{Stage, whole, cells_of, words_of, counts_of, areas_after, coded_stages}
use Rattle.rules.specs.Job.{file}
use Rattle.rules.proofs.Lists.Members.{and_true}
use Rattle.rules.proofs.Build.Lengths.{Sized, length_padded}
use Rattle.rules.proofs.Build.Above.{Above}
use Rattle.rules.proofs.Build.Coding.{stages_coded, words_coded, sized_coded}
use Rattle.rules.proofs.Demand.{whole_sizes}
use Rattle.checks.specs.Passed.{Passed}
use Rattle.checks.proofs.Laws.Passed.{passed}
use Rattle.sheet_form.specs.Forms.{Form, behind_pin, sheet_one, sheet_two}
use Rattle.sheet_form.specs.Sheets.{Sheet, sheet_bytes, write_sheet, sheet}
use Rattle.sheet_form.specs.Lifting.{read_either}
use Rattle.sheet_form.specs.Calls.{Areas, stages_in, stand, sheet_in, into, writer, roomy, areas_with, from, reader}
use Rattle.sheet_form.proofs.Sheets.{is_held}
use Rattle.sheet_form.proofs.Forms as forms
use Rattle.sheet_form.proofs.Sizes.{sheet_short}
use Rattle.sheet_form.proofs.Stages.{tall}
use Rattle.sheet_form.proofs.Built.{built_lifts, pins_held, built_held}
use Rattle.sheet_form.proofs.Either.{two_either, one_either}

-- ---- stages as they stand in areas

-- areas that begin with some stages' cells, words and counts hold these stages
pub stages_in_lem : (K : ℕ) (ss : List Stage) → Sized (stage_size K) ss → (ps ws cs : List ℕ) → stages_in K (length ss) (cells_of ss ++ ps) (words_of ss ++ ws) (counts_of ss ++ cs) ≡ ss
unfolding stages_in cells_of words_of counts_of
stages_in_lem K [] z ps ws cs = refl
stages_in_lem K (s ∷ ss) z ps ws cs =
    rw (
      append_assoc s.plan (cells_of ss) ps,
      append_assoc s.words (words_of ss) ws,
      take_at s.plan (cells_of ss ++ ps) (stage_size K) z.0,
      drop_at s.plan (cells_of ss ++ ps) (stage_size K) z.0,
      take_at s.words (words_of ss ++ ws) (length s.words) refl,
      drop_at s.words (words_of ss ++ ws) (length s.words) refl,
      stages_in_lem K ss z.1 ps ws cs,
    )

counts_sum : (ss : List Stage) → sum (counts_of ss) ≡ length (words_of ss)
unfolding counts_of words_of sum
counts_sum [] = refl
counts_sum (s ∷ ss) = sym (length-append s.words (words_of ss) ∙ ap (λ (n : ℕ). length s.words + n) (sym (counts_sum ss)))

-- a count a stage
pub counts_length : (ss : List Stage) → length (counts_of ss) ≡ length ss
unfolding counts_of
counts_length [] = refl
counts_length (s ∷ ss) = ap suc (counts_length ss)

cells_length : (m : ℕ) (ss : List Stage) → Sized m ss → length (cells_of ss) ≡ length ss * m
unfolding cells_of
cells_length m [] z = omega arith
cells_length m (s ∷ ss) z = omega (arith, length-append s.plan (cells_of ss), cells_length m ss z.1, z.0)

stands : (K : ℕ) (ss : List Stage) → Sized (stage_size K) ss → (ps ws cs : List ℕ) → stand K (length ss) (record { plan = cells_of ss ++ ps; words = words_of ss ++ ws; counts = counts_of ss ++ cs }) ≡ true
unfolding stand
stands K ss z ps ws cs =
    let t : sum (take (length ss) (counts_of ss ++ cs)) ≡ sum (counts_of ss) = ap sum (take_at (counts_of ss) cs (length ss) (counts_length ss)) in
    rw (
      le-leb (length ss * stage_size K) (length (cells_of ss ++ ps)) (omega (arith, length-append (cells_of ss) ps, cells_length (stage_size K) ss z)),
      le-leb (length ss) (length (counts_of ss ++ cs)) (omega (arith, length-append (counts_of ss) cs, counts_length ss)),
      le-leb (sum (take (length ss) (counts_of ss ++ cs))) (length (words_of ss ++ ws)) (omega (arith, length-append (words_of ss) ws, counts_sum ss)),
    )

-- and are written as these stages
pub sheet_in_lem : (F : Form) (K : ℕ) (ss : List Stage) → Sized (stage_size K) ss → (ps ws cs : List ℕ) →
    sheet_in F K (length ss) (record { plan = cells_of ss ++ ps; words = words_of ss ++ ws; counts = counts_of ss ++ cs }) ≡ write_sheet F (record { height = K; stages = ss })
unfolding sheet_in
sheet_in_lem F K ss z ps ws cs = rw (stands K ss z ps ws cs, sheet_in) (ap (λ (xs : List Stage). write_sheet F (record { height = K; stages = xs })) (stages_in_lem K ss z ps ws cs))

-- ---- saving what a build left

-- the three areas of a build
abbrev pub three : build.Areas → Areas
three a = record { plan = a.plan; words = a.words; counts = a.counts }

-- areas of a sheet as those of a build
abbrev pub four : Areas → build.Areas
four b = record { plan = b.plan; words = b.words; counts = b.counts; work = [] }

-- what a build leaves is written as its stages
pub after_in : (F : Form) (K need : ℕ) (ss : List Stage) → Sized (stage_size K) ss → (a : build.Areas) → sheet_in F K (length ss) (three (areas_after K need ss a)) ≡ write_sheet F (record { height = K; stages = ss })
unfolding areas_after padded laid_over
after_in F K need ss z a =
    let n = word_limit K - length (words_of ss) in
    let m = rooms K (length a.plan) - length (counts_of ss) in
    let w = drop (length (words_of ss ++ replicate n empty)) a.words in
    let c = drop (length (counts_of ss ++ replicate m 0)) a.counts in
    rw (append_assoc (words_of ss) (replicate n empty) w, append_assoc (counts_of ss) (replicate m 0) c)
    (sheet_in_lem F K ss z (replicate (length a.plan - length (cells_of ss)) empty) (replicate n empty ++ w) (replicate m 0 ++ c))

-- ---- loading what was saved

laid_all : (xs ys : List ℕ) → length xs ≡ length ys → laid_over xs ys ≡ xs
unfolding laid_over
laid_all xs ys l = ap (λ (r : List ℕ). xs ++ r) (drop_of_length-le ys {i = length xs} (omega arith)) ∙ append-nil xs

-- reading leaves areas as a build does, where the plan area is a whole multiple of a stage
pub as_built : (K need : ℕ) (ss : List Stage) (a : build.Areas) → plan_sized K (length a.plan) ≡ true → length (cells_of ss) ≤ length a.plan → areas_with (record { height = K; stages = ss }) (three a) ≡ three (areas_after K need ss a)
unfolding areas_with areas_after plan_sized rooms
as_built K need ss a p l =
    let n : length a.plan / 2 ^ (K + 1) * 2 ^ (K + 1) ≡ length a.plan = let z = eqb-true (length a.plan % 2 ^ (K + 1)) 0 p in omega (arith, div-add-mod' (length a.plan) (2 ^ (K + 1)), z) in
    rw (n, laid_all (padded (length a.plan) empty (cells_of ss)) a.plan (length_padded (length a.plan) empty (cells_of ss) l))

-- ---- a build's sheet

-- the plan area of a build has whole stages
plan_sized_lem : (K : ℕ) (gates records : List ℕ) (a : build.Areas) → build.sizes_right K gates records a ≡ true → plan_sized K (length a.plan) ≡ true
unfolding build.sizes_right areas_sized
plan_sized_lem K gates records a e =
    let w = plan_sized K (length a.plan) && leb (word_limit K) (length a.words) in
    let c = leb (rooms K (length a.plan)) (length a.counts) in
    (and_true (plan_sized K (length a.plan)) (leb (word_limit K) (length a.words)) (and_true w c (and_true (w && c) (leb (work_size gates records) (length a.work)) e).0).0).0

-- a plan area has room for its rooms
rooms_fit : (K n size cells : ℕ) → n ≤ rooms K size → cells ≡ n * 2 ^ (K + 1) → cells ≤ size
unfolding rooms
rooms_fit K n size cells h d = omega (arith, (le-div_iff_mul-le (pow_pos (K + 1))).0 h)

-- a call of the placer that the checks let pass and that builds the stages ss
module _ (rule : WordRule) (K : ℕ) (gates given records : List ℕ) (a : build.Areas) (right : refusal_of K (build.sizes_right K gates records a) gates given records ≡ 0) (ss : List Stage)
    (e : build.answer_of rule K gates given records (length a.plan) ≡ whole ss) where
  P : Passed K (build.sizes_right K gates records a) gates given records
  P = passed K (build.sizes_right K gates records a) gates given records right

  abbrev g : List Node
  g = graph_of gates

  above : Above g
  above = record { operands = λ p x y d. let b = P.below p x y d in (b.first_above, b.second_above) }

  small : length g ≤ empty
  unfolding empty
  small = omega (arith, P.few, P.pins)

  named : (q : ℕ) → Ends q (groups_of records) → q < length g
  named q i = omega (arith, P.named q i, P.pins)

  high : (6 ≤ K) × (K ≤ 13)
  high = tall K P.height

  few : length g ≤ 65536
  few = omega (arith, P.few, P.pins)

  is_whole : build.build rule K g given (groups_of records) (rooms K (length a.plan)) ≡ whole ss
  is_whole = unfold build.answer_of in e

  -- its height and stages of pins
  abbrev pub pinned : Sheet
  pinned = record { height = K; stages = ss }

  -- and the stages that it leaves, of cells
  abbrev pub left : List Stage
  left = coded_stages K g ss

  -- as a sheet
  abbrev pub built : Sheet
  built = record { height = K; stages = coded_stages K g ss }

  -- A sheet holds what the placer builds: writing never refuses it with 15.
  pub built_written : write_sheet sheet_two built ≡ file (sheet_bytes sheet_two built)
  unfolding write_sheet
  built_written = rw (is_held sheet_two built (built_held rule K g P.valid above high.0 small given (groups_of records) named (rooms K (length a.plan)) ss is_whole high.1 few), write_sheet)

  -- sheet 1 held its pins
  pub pins_written : write_sheet sheet_one pinned ≡ file (sheet_bytes sheet_one pinned)
  unfolding write_sheet
  pins_written = rw (is_held sheet_one pinned (pins_held rule K g P.valid above high.0 small given (groups_of records) named (rooms K (length a.plan)) ss is_whole high.1 few), write_sheet)

  -- it has no more stages than rooms
  pub few_stages : length ss ≤ rooms K (length a.plan)
  few_stages = (whole_sizes rule K g P.valid high.0 small given [] (groups_of records) named (rooms K (length a.plan)) ss is_whole).few

  -- no more words than W
  pub few_words : length (words_of ss) ≤ word_limit K
  few_words = omega (arith, (whole_sizes rule K g P.valid high.0 small given [] (groups_of records) named (rooms K (length a.plan)) ss is_whole).words)

  -- It takes at most 4 + W bytes, and 20 * 2^(K-2) more a stage.
  pub built_short : length (sheet_bytes sheet_two built) ≤ 4 + 2 ^ (K - 5) + length ss * (20 * 2 ^ (K - 2))
  unfolding word_limit behind_pin
  built_short =
      let b = sheet_short sheet_two forms.two built (sheet_bytes sheet_two built) built_written in
      let c : 8 * length (sheet_bytes sheet_two built) ≤ 35 + 8 * length (words_of ss) + length ss * (16 + (2 ^ (K + 1) - 1) * 20) = rw (words_coded K g ss, stages_coded K g ss) at b in
      let d : 3 + (K - 2) ≡ K + 1 = let t = high.0 in omega arith in
      let p : 2 ^ (K + 1) ≡ 2 ^ 3 * 2 ^ (K - 2) = rw d at (pow-add 2 3 (K - 2)) in
      let q : 16 + (2 ^ (K + 1) - 1) * 20 ≤ 8 * (20 * 2 ^ (K - 2)) = omega (arith, pow_pos (K - 2)) in
      omega (arith, c, mul-le-mul_left (length ss) q, few_words)

  -- Writing the areas as the placer leaves them answers 0, or 17 where the bytes are too few.
  pub writer_built : (bytes : List ℕ) → writer sheet_two K (length ss) (three (areas_after K (work_size gates records) left a)) bytes ≡ into (file (sheet_bytes sheet_two built)) bytes
  unfolding writer
  writer_built bytes =
      let w : sheet_in sheet_two K (length ss) (three (areas_after K (work_size gates records) left a)) ≡ write_sheet sheet_two built
      = rw (stages_coded K g ss) at (after_in sheet_two K (work_size gates records) left (sized_coded K g ss) a) in
      rw (w, built_written)

  -- Bytes that are read as what the placer leaves, into areas with as many rooms, a count each, and W words, leave these as the placer does, with the same
  -- height, stages and words.
  module _ (lent bs : List ℕ) (is : read_either lent bs ≡ sheet built) where
    pub reader_sheet : (b : Areas) → length b.plan ≡ length a.plan → word_limit K ≤ length b.words → rooms K (length a.plan) ≤ length b.counts →
        reader lent bs b ≡ record { reply = record { number = 0; height = K; stages = length ss; words = length (words_of ss) }; areas = three (areas_after K (work_size gates records) left (four b)) }
    unfolding reader from roomy
    reader_sheet b same w c =
        let m = stages_coded K g ss in
        let v = words_coded K g ss in
        let n : length ss ≤ rooms K (length b.plan) = rw same few_stages in
        let l : length (cells_of left) ≤ length b.plan = rooms_fit K (length ss) (length b.plan) (length (cells_of left)) n (cells_length (stage_size K) left (sized_coded K g ss) ∙ ap (λ (x : ℕ). x * stage_size K) m) in
        let d : rooms K (length b.plan) ≤ length b.counts = rw same c in
        let s : plan_sized K (length b.plan) ≡ true = rw same (plan_sized_lem K gates records a P.areas) in
        let t : roomy built b ≡ true = rw (
          m,
          v,
          le-leb (length ss) (rooms K (length b.plan)) n,
          le-leb (rooms K (length b.plan)) (length b.counts) d,
          le-leb (word_limit K) (length b.words) w,
          le-leb (length (words_of ss)) (length b.words) (omega (arith, few_words)),
        ) in
        rw (is, from, t, as_built K (work_size gates records) left (four b) s l) (rw (m, v))

  -- So the sheet that is written of what the placer left, read with any graph or none, gives it back.
  pub built_read : (lent : List ℕ) → read_either lent (sheet_bytes sheet_two built) ≡ sheet built
  built_read lent = two_either lent (sheet_bytes sheet_two built) built (forms.two_read built (sheet_bytes sheet_two built) built_written)

  -- And a sheet 1 of the same build, read with its graph, gives the same: archived sheets load into the plan that a build leaves now.
  pub old_read : read_either gates (sheet_bytes sheet_one pinned) ≡ sheet built
  unfolding sheet_bytes
  old_read = one_either gates (sheet_bytes sheet_one pinned) pinned some (begins pinned) (forms.one_read pinned (sheet_bytes sheet_one pinned) pins_written)
      (built_lifts rule K g P.valid above high.0 small given (groups_of records) named (rooms K (length a.plan)) ss is_whole)
    where
      some : 0 < length gates
      some = omega (arith, P.some, P.even)

      begins : (T : Sheet) → get_or (sheet_bytes sheet_one T) 0 0 ≡ 1
      begins T = refl
