-- What a build left, written and read again: the same areas. Assumes nothing.
use Prim.Native.Nat.{ℕ, ◌+◌, ◌-◌, ◌*◌, ◌^◌, ◌≤◌}
use mathlib.Core.Path.{◌≡◌, sym, ap, ◌∙◌}
use mathlib.Core.List.{List}
use native.Mathlib.Omega.{arith}
use lib.ListN.{length, take, drop}
use lib.Seq.{take_at}
use borrow.Author.Tests.{le-leb}
use Rattle.std.specs.Prelude.{Result}
use Rattle.rules.specs.Lists.{padded, laid_over}
use Rattle.rules.specs.Cells.{empty, word_limit, rooms}
use Rattle.rules.specs.Graph.{graph_of}
use Rattle.rules.specs.Checks.{work_size}
use Rattle.rules.specs.Build as build
use Rattle.rules.proofs.Build.Lengths.{length_padded}
use Rattle.rules.proofs.Build.Coding.{words_coded, counts_coded}
use Rattle.theorems.proofs.Calls.{Call, reply, rooms_of, Told, answered, Whole, whole}
use Rattle.sheet_form.specs.Forms.{sheet_one, sheet_two}
use Rattle.sheet_form.specs.Sheets.{sheet_bytes, sheet}
use Rattle.sheet_form.specs.Lifting.{read_either}
use Rattle.sheet_form.specs.Calls.{Areas, areas, Written, written, into, writer, Loaded, loaded, reader}
use Rattle.sheet_form.proofs.Calls.{counts_length, three, four, few_stages, few_words, built_short, writer_built, reader_sheet, built_read, old_read}
use Rattle.refusals.specs.declared.Refusal.{Refusal}
use Rattle.sheet_read.specs.declared.walk.Contents.{Contents}
use Rattle.sheet_read.specs.Walk as reading
use Rattle.sheet_write.specs.Fits.{wrote}
use Rattle.sheet.proofs.Laws.Calls.{bytes_are}

-- the bytes that hold any sheet of a build: 4, a byte a word that may be written, and 20 * 2^(K-2) a stage
abbrev pub bytes_enough : (K stages : ℕ) → ℕ
bytes_enough K stages = 4 + 2 ^ (K - 5) + stages * (20 * 2 ^ (K - 2))

-- a call of `write` over the areas that a build left, by its contract
pub record WriteCall (C : Call) : Type 0 where
  pub entry : List ℕ
  pub answer : Result ℕ Refusal
  pub exit : List ℕ
  pub ensures : wrote answer exit ≡ writer sheet_two C.height (reply C).stages (areas C.exit.plan C.exit.words C.exit.counts) entry

-- a call of `read` over some bytes with some graph, by its contract
pub record ReadCall (bytes gates : List ℕ) : Type 0 where
  pub entry : Areas
  pub answer : Result Contents Refusal
  pub exit : Areas
  pub ensures : reading.told answer exit ≡ reader gates bytes entry

-- its areas are lent as a build's are: as many rooms, a count each, W words
pub record Alike (C : Call) (a : Areas) : Type 0 where
  pub plan : length a.plan ≡ length C.entry.plan
  pub words : word_limit C.height ≤ length a.words
  pub counts : rooms_of C ≤ length a.counts

-- it answers 0 with the build's height, stages and words, and leaves the plan, the first W words and a count a room as the build did; numbers behind
-- these stay
pub record Same (C : Call) {bytes gates : List ℕ} (R : ReadCall bytes gates) : Type 0 where
  pub number : (reading.reply R.answer).number ≡ 0
  pub height : (reading.reply R.answer).height ≡ C.height
  pub stages : (reading.reply R.answer).stages ≡ (reply C).stages
  pub words : (reading.reply R.answer).words ≡ (reply C).words
  pub plan_area : R.exit.plan ≡ C.exit.plan
  pub words_area : R.exit.words ≡ laid_over (take (word_limit C.height) C.exit.words) R.entry.words
  pub counts_area : R.exit.counts ≡ laid_over (take (rooms_of C) C.exit.counts) R.entry.counts

front : (xs ys : List ℕ) {zs : List ℕ} {k : ℕ} → length xs ≡ k → zs ≡ laid_over xs ys → take k zs ≡ xs
unfolding laid_over
front xs ys p q = rw q (take_at xs (drop (length xs) ys) _ p)

same_areas : {p q w v c d : List ℕ} → p ≡ q → w ≡ v → c ≡ d → areas p w c ≡ areas q v d
same_areas x y z = cc

module _ (C : Call) (z : (reply C).number ≡ 0) where
  abbrev P : Whole C
  P = whole C z

  abbrev ss : List build.Stage
  ss = P.ss

  abbrev need : ℕ
  need = work_size C.gates C.records

  abbrev cs : List build.Stage
  cs = build.coded_stages C.height (graph_of C.gates) ss

  abbrev bs : List ℕ
  bs = sheet_bytes sheet_two (record { height = C.height; stages = cs })

  t : Told C (build.whole ss)
  t = rw P.built at (answered C P.passes)

  e : build.answer_of C.rule C.height C.gates C.given C.records (length C.entry.plan) ≡ build.whole ss
  unfolding build.answer_of
  e = P.built

  words_same : build.words_of cs ≡ build.words_of ss
  words_same = words_coded C.height (graph_of C.gates) ss

  counts_same : build.counts_of cs ≡ build.counts_of ss
  counts_same = counts_coded C.height (graph_of C.gates) ss

  left : areas C.exit.plan C.exit.words C.exit.counts ≡ three (build.areas_after C.height need cs C.entry)
  unfolding build.areas_after build.stages_of
  left = rw (words_same, counts_same) (same_areas t.plan t.words t.counts)

  stages_are : (reply C).stages ≡ length ss
  unfolding build.reply
  stages_are = ap (λ (r : build.Reply). r.stages) t.reply

  words_are : (reply C).words ≡ length (build.words_of ss)
  unfolding build.reply
  words_are = ap (λ (r : build.Reply). r.words) t.reply

  words_few : length (build.words_of ss) ≤ word_limit C.height
  words_few = few_words C.rule C.height C.gates C.given C.records C.entry P.passes ss e

  stages_few : length (build.counts_of ss) ≤ rooms_of C
  stages_few = omega (arith, counts_length ss, few_stages C.rule C.height C.gates C.given C.records C.entry P.passes ss e)

  -- it is written whole
  sheet_written_lem : (W : WriteCall C) → bytes_enough C.height (reply C).stages ≤ length W.entry → wrote W.answer W.exit ≡ written 0 (length bs) (laid_over bs W.entry)
  unfolding into
  sheet_written_lem W h =
      let short : length bs ≤ length W.entry = omega (arith, rw stages_are at h, built_short C.rule C.height C.gates C.given C.records C.entry P.passes ss e) in
      W.ensures
      ∙ ap (λ (n : ℕ). writer sheet_two C.height n (areas C.exit.plan C.exit.words C.exit.counts) W.entry) stages_are
      ∙ ap (λ (a : Areas). writer sheet_two C.height (length ss) a W.entry) left
      ∙ writer_built C.rule C.height C.gates C.given C.records C.entry P.passes ss e W.entry
      ∙ rw (le-leb (length bs) (length W.entry) short, into)

  -- bytes that are read as what the build left
  module _ {bytes gates : List ℕ} (is : read_either gates bytes ≡ sheet (record { height = C.height; stages = cs })) (R : ReadCall bytes gates) (A : Alike C R.entry) where
    sheet_read_lem : reading.told R.answer R.exit
        ≡ loaded 0 C.height (length ss) (length (build.words_of ss)) (three (build.areas_after C.height need cs (four R.entry)))
    sheet_read_lem = R.ensures ∙ reader_sheet C.rule C.height C.gates C.given C.records C.entry P.passes ss e gates bytes is R.entry A.plan A.words A.counts

    same_read : Same C R
    unfolding build.areas_after build.stages_of
    same_read =
        let r = sheet_read_lem in
        let ws = front (padded (word_limit C.height) empty (build.words_of ss)) C.entry.words (length_padded (word_limit C.height) empty (build.words_of ss) words_few) t.words in
        let ks = front (padded (rooms_of C) 0 (build.counts_of ss)) C.entry.counts (length_padded (rooms_of C) 0 (build.counts_of ss) stages_few) t.counts in
        let wr : R.exit.words ≡ laid_over (padded (word_limit C.height) empty (build.words_of ss)) R.entry.words = rw words_same at (ap (λ (x : Loaded). x.areas.words) r) in
        let kr : R.exit.counts ≡ laid_over (padded (rooms C.height (length R.entry.plan)) 0 (build.counts_of ss)) R.entry.counts = rw counts_same at (ap (λ (x : Loaded). x.areas.counts) r) in
        record {
          number = ap (λ (x : Loaded). x.reply.number) r;
          height = ap (λ (x : Loaded). x.reply.height) r;
          stages = ap (λ (x : Loaded). x.reply.stages) r ∙ sym stages_are;
          words = ap (λ (x : Loaded). x.reply.words) r ∙ sym words_are;
          plan_area = ap (λ (x : Loaded). x.areas.plan) r ∙ ap (λ (n : ℕ). padded n empty (build.cells_of cs)) A.plan ∙ sym t.plan;
          words_area = wr ∙ ap (λ (x : List ℕ). laid_over x R.entry.words) (sym ws);
          counts_area = kr ∙ ap (λ (n : ℕ). laid_over (padded (rooms C.height n) 0 (build.counts_of ss)) R.entry.counts) A.plan ∙ ap (λ (x : List ℕ). laid_over x R.entry.counts) (sym ks);
        }

  -- Build, write, read, the same areas: with so many bytes `write` answers 0, and so does `read` of the bytes that it wrote, with any graph or none, in areas
  -- lent as a build's are, with the height, stages and words of the build, and leaves what the build left.
  pub build_write_read : (W : WriteCall C) → bytes_enough C.height (reply C).stages ≤ length W.entry →
      ((wrote W.answer W.exit).number ≡ 0) × ((gates : List ℕ) (R : ReadCall (take (wrote W.answer W.exit).length W.exit) gates) → Alike C R.entry → Same C R)
  build_write_read W h =
      let w = sheet_written_lem W h in
      let f : take (wrote W.answer W.exit).length W.exit ≡ bs = front bs W.entry (sym (ap (λ (x : Written). x.length) w)) (sym (bytes_are W.answer W.exit) ∙ ap (λ (x : Written). x.bytes) w) in (
        ap (λ (x : Written). x.number) w,
        (λ gates R A. same_read (rw f (built_read C.rule C.height C.gates C.given C.records C.entry P.passes ss e gates)) R A),
      )

  -- An archived sheet loads into the same plan: what the writer of sheet 1 made of the build's pins, read with the build's graph, leaves what the build leaves.
  pub old_sheet_read : (R : ReadCall (sheet_bytes sheet_one (record { height = C.height; stages = ss })) C.gates) → Alike C R.entry → Same C R
  old_sheet_read R A = same_read (old_read C.rule C.height C.gates C.given C.records C.entry P.passes ss e) R A
