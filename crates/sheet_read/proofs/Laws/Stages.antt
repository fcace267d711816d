-- A stage, and stages one behind the other. Assumes nothing.
use mathlib.Core.Path.{◌≡◌, refl, sym, ap, ◌∙◌}
use mathlib.Core.List.{List, [], ◌∷◌, ◌++◌, append_assoc, append-nil}
use Prim.Native.Nat.{ℕ, suc, ◌+◌, ◌-◌, ◌*◌, ◌^◌, ◌<◌, ◌≤◌}
use native.Mathlib.Nat.{mul-le-mul_right}
use native.Mathlib.Numerals.{add-one}
use native.Mathlib.Omega.{arith}
use lib.ListN.{length, get_or, set, take, drop, length-set, length-append}
use lib.Pow.{pow_mono, pow_pos}
use lib.Seq.{sets, length-sets, take_all, take-suc, length-take-le}
use Rattle.rules.specs.Cells.{stage_size}
use Rattle.rules.specs.Graph.{Node, graph_of}
use Rattle.rules.specs.Build.{Stage, cells_of, words_of, counts_of}
use Rattle.rules.specs.Job.{Read, cut, got, next, field}
use Rattle.bits.specs.Fields.{bits_in, FieldIs}
use Rattle.bits.proofs.Laws.Fields.{field_there, field_lost}
use Rattle.rules.proofs.Lists.Parts.{sets_append}
use Rattle.job.specs.Steps.{Took}
use Rattle.sheet_form.specs.Sheets.{read_words}
use Rattle.sheet_form.proofs.Stages.{tall}
use Rattle.sheet_plan.specs.Plans.{plan_with, PlanAt, CellsTook}
use Rattle.sheet_read.specs.Steps.{words_read, WordsAt, TookAs}
use Rattle.std.specs.Prelude.{Option, Some, None}
use Rattle.sheet_read.specs.declared.steps.Step.{Step}
use Rattle.sheet_read.specs.Stages.{stage_with, stages_with, CountedAt, CountedTook, StageAt, Kept, StageTook, StagesAt, StagesTook}
use Rattle.sheet_read.proofs.Laws.Steps.{words_length}

-- the areas as they are
pub kept_all : {p w c : List ℕ} → Kept p w c p w c
kept_all = record { plan = refl; words = refl; counts = refl }

-- ---- words

module _ {K at total : ℕ} {xs : List ℕ} (A : CountedAt K at total xs) (i : ℕ) (w c : List ℕ) where
  -- too few bits left for a word count: cut
  pub count_lost : 8 * length xs - at < 16 → CountedTook K i xs at total w c w c (8 * length xs + 1) 0
  unfolding read_words next
  count_lost h = record { words = refl; counts = refl; lost = λ _. rw (field_lost at 16 xs h); read = λ k. absurd (omega arith) }

  module _ (h : 16 ≤ 8 * length xs - at) {n m : ℕ} (F : FieldIs at 16 xs n) (q : m ≡ n) where
    there : field 16 (drop at (bits_in xs)) ≡ got n (drop (at + 16) (bits_in xs))
    there = let i = A.inside in field_there at 16 xs n F (omega arith)

    -- behind the count the words may be read
    pub words_asks : WordsAt K (at + 16) total xs
    words_asks = let i = A.inside in record { height = A.height; small = A.small; inside = omega arith; room = omega (arith, A.room) }

    -- count and words are read
    pub counted_took : {c' : List ℕ} → c' ≡ set c i n → {w' : List ℕ} {at₁ t₁ : ℕ} → Took (words_read K m) xs (at + 16) total w w' at₁ t₁ → CountedTook K i xs at total w c w' c' at₁ t₁
    unfolding read_words next words_read
    counted_took {c'} ec {w'} {at₁} {t₁} W₁ =
        let W : Took (words_read K n) xs (at + 16) total w w' at₁ t₁ = rw q at W₁ in
        record {
          words = W.len;
          counts = ap length ec ∙ length-set c i n;
          lost = λ k. let e : words_read K n (drop (at + 16) (bits_in xs)) ≡ cut = let j = A.inside in W.lost k (omega arith) in rw (there, next, e);
          read = λ k.
              let D = W.read k in
              let l = words_length K n (drop (at + 16) (bits_in xs)) D.these (drop at₁ (bits_in xs)) D.is in
              let e : words_read K n (drop (at + 16) (bits_in xs)) ≡ got D.these (drop at₁ (bits_in xs)) = D.is in
              record { ws = D.these; is = rw (there, next, e); words = D.area; counts = rw l ec; sum = D.count; few = omega (arith, D.few) };
        }

    -- so where they are, or are not
    pub counted_as : {c' : List ℕ} → c' ≡ set c i n → (w' : List ℕ) (r : Option Step) → TookAs (Took (words_read K m) xs (at + 16) total w w') xs r → TookAs (CountedTook K i xs at total w c w' c') xs r
    counted_as ec w' None W = counted_took ec W
    counted_as ec w' (Some s) W = (counted_took ec W.0, W.1)

-- ---- cells laid into an area

-- the cells before index i are laid
pub record Laid (p cells : List ℕ) (at i : ℕ) (p' : List ℕ) : Type 0 where
  pub upto : i ≤ length cells
  pub is : p' ≡ sets p at (take i cells)

-- at the start none is
pub laid_none : {p cells : List ℕ} {at : ℕ} → Laid p cells at 0 p
laid_none = record { upto = omega arith; is = refl }

module _ {p cells : List ℕ} {at i : ℕ} {p₁ : List ℕ} (L : Laid p cells at i p₁) where
  -- one more is
  pub laid_more : i < length cells → {p₂ : List ℕ} → p₂ ≡ set p₁ (at + i) (get_or cells i 0) → Laid p cells at (i + 1) p₂
  laid_more h e =
      let t : take (i + 1) cells ≡ take i cells ++ (get_or cells i 0 ∷ []) = rw (add-one i) (take-suc cells i 0 h) in
      let l : length (take i cells) ≡ i = length-take-le i cells L.upto in
      record { upto = omega arith; is = e ∙ rw (t, L.is) (rw l at (sets_append p at (take i cells) (get_or cells i 0 ∷ []))) }

  -- the area keeps its length
  pub laid_length : length p₁ ≡ length p
  laid_length = ap length L.is ∙ length-sets p at (take i cells)

  -- all are
  pub laid_done : length cells ≤ i → p₁ ≡ sets p at cells
  laid_done h = L.is ∙ ap (sets p at) (take_all i cells h)

-- ---- a stage

module _ {K i at total : ℕ} {xs cells : List ℕ} (A : StageAt K i at total xs cells) (number : ℕ) (gates p : List ℕ) where
  -- its words may be read
  pub counted_asks : CountedAt K at total xs
  counted_asks = record { height = A.height; small = A.small; inside = A.inside; room = A.room }

  module _ {w c w' c' : List ℕ} {at₁ t₁ : ℕ} (W : CountedTook K i xs at total w c w' c' at₁ t₁) where
    -- words that are refused refuse the stage
    pub words_lost : 8 * length xs < at₁ → StageTook number K gates i xs at total cells p w c cells p w' c' at₁ t₁
    unfolding stage_with next
    words_lost k = record { kept = record { plan = refl; words = W.words; counts = W.counts }; area = refl; lost = λ l. rw (W.lost l); read = λ l. absurd (omega arith) }

    module _ (k : at₁ ≤ 8 * length xs) where
      -- behind the words the cells may be read
      pub plan_asks : PlanAt K at₁ xs cells
      plan_asks = record { height = A.height; small = A.small; inside = k; size = A.size; some = rw A.size (pow_pos (K + 1)) }

      module _ {cells₁ : List ℕ} {at₂ : ℕ} (C : CellsTook (plan_with number K (graph_of gates)) xs at₁ at₂ cells cells₁) where
        size : length cells₁ ≡ stage_size K
        size = C.len ∙ A.size

        -- no product wraps
        pub size_small : (i * length cells₁ ≤ 2 ^ 30) × (i * length cells₁ + length cells₁ ≤ 2 ^ 40)
        size_small =
            let b : 2 ^ (K + 1) ≤ 16384 = pow_mono {i = K + 1} {j = 14} (omega (arith, (tall K A.height).1)) in
            let m : i * stage_size K ≤ 65535 * stage_size K = mul-le-mul_right (stage_size K) A.few in
            rw size (omega (arith, m), omega (arith, m))

        -- cells that are refused refuse the stage
        pub cells_lost : 8 * length xs < at₂ → StageTook number K gates i xs at total cells p w c cells₁ p w' c' at₂ 0
        unfolding stage_with next
        cells_lost o = let D = W.read k in record { kept = record { plan = refl; words = W.words; counts = W.counts }; area = C.len; lost = λ _. rw (D.is, next, C.lost o); read = λ l. absurd (omega arith) }

        -- words and cells are a stage
        pub stage_took : {p' : List ℕ} → p' ≡ sets p (i * length cells₁) cells₁ → StageTook number K gates i xs at total cells p w c cells₁ p' w' c' at₂ t₁
        unfolding stage_with next
        stage_took ep =
            let D = W.read k in
            record {
              kept = record { plan = ap length ep ∙ length-sets p (i * length cells₁) cells₁; words = W.words; counts = W.counts };
              area = C.len;
              lost = λ o. rw (D.is, next, C.lost o);
              read = λ o. record {
                s = record { plan = cells₁; words = D.ws };
                is = rw (D.is, next, C.is o);
                size = size;
                plan = rw size at ep;
                words = D.words;
                counts = D.counts;
                sum = D.sum;
                few = omega (arith, D.few, C.on);
              };
            }

-- ---- stages

-- some stages in front of what is read
unfoldable pub behind : List Stage → Read (List Stage) → Read (List Stage)
behind ss r = next r (λ ts ds. got (ss ++ ts) ds)

behind_none : (r : Read (List Stage)) → r ≡ behind [] r
unfolding behind next
behind_none cut = refl
behind_none (got x bs) = refl

behind_twice : (ss ts : List Stage) (r : Read (List Stage)) → behind ss (behind ts r) ≡ behind (ss ++ ts) r
unfolding behind next
behind_twice ss ts cut = refl
behind_twice ss ts (got us bs) = ap (λ (l : List Stage). got l bs) (sym (append_assoc ss ts us))

next_stage : (number K : ℕ) (g : List Node) (n : ℕ) (bs : List ℕ) {s : Stage} {cs : List ℕ} → stage_with number K g bs ≡ got s cs → stages_with number K g (suc n) bs ≡ behind (s ∷ []) (stages_with number K g n cs)
unfolding stages_with behind next
next_stage number K g n bs e = rw e

no_stage : (number K : ℕ) (g : List Node) (n : ℕ) (bs : List ℕ) → stage_with number K g bs ≡ cut → stages_with number K g (suc n) bs ≡ cut
unfolding stages_with next
no_stage number K g n bs e = rw e

cells_append : (ss : List Stage) (s : Stage) → cells_of (ss ++ (s ∷ [])) ≡ cells_of ss ++ s.plan
unfolding cells_of
cells_append [] s = append-nil s.plan
cells_append (t ∷ ss) s = ap (λ (l : List ℕ). t.plan ++ l) (cells_append ss s) ∙ sym (append_assoc t.plan (cells_of ss) s.plan)

words_append : (ss : List Stage) (s : Stage) → words_of (ss ++ (s ∷ [])) ≡ words_of ss ++ s.words
unfolding words_of
words_append [] s = append-nil s.words
words_append (t ∷ ss) s = ap (λ (l : List ℕ). t.words ++ l) (words_append ss s) ∙ sym (append_assoc t.words (words_of ss) s.words)

counts_append : (ss : List Stage) (s : Stage) → counts_of (ss ++ (s ∷ [])) ≡ counts_of ss ++ (length s.words ∷ [])
unfolding counts_of
counts_append [] s = refl
counts_append (t ∷ ss) s = ap (λ (l : List ℕ). length t.words ∷ l) (counts_append ss s)

-- i of n stages are read, and stand in the areas
pub record Stages (number K : ℕ) (gates : List ℕ) (n i : ℕ) (xs : List ℕ) (at total : ℕ) (cells p w c cells' p' w' c' : List ℕ) : Type 0 where
  pub upto : i ≤ n
  pub kept : Kept p w c p' w' c'
  pub area : length cells' ≡ length cells
  pub inside : at ≤ 8 * length xs
  pub room : total ≤ 2 * at
  pub ss : List Stage
  pub left : stages_with number K (graph_of gates) n (drop 28 (bits_in xs)) ≡ behind ss (stages_with number K (graph_of gates) (n - i) (drop at (bits_in xs)))
  pub plan : p' ≡ sets p 0 (cells_of ss)
  pub words : w' ≡ sets w 0 (words_of ss)
  pub counts : c' ≡ sets c 0 (counts_of ss)
  pub total_is : total ≡ length (words_of ss)
  pub size : length (cells_of ss) ≡ i * stage_size K
  pub count : length (counts_of ss) ≡ i

module _ {K n : ℕ} {xs cells : List ℕ} (A : StagesAt K n xs cells) (number : ℕ) (gates : List ℕ) where
  -- at the start none is read
  pub stages_none : {p w c : List ℕ} → Stages number K gates n 0 xs 28 0 cells p w c cells p w c
  unfolding cells_of words_of counts_of
  stages_none =
      let z : n - 0 ≡ n = omega arith in
      record {
        upto = omega arith;
        kept = kept_all;
        area = refl;
        inside = A.inside;
        room = omega arith;
        ss = [];
        left = rw z (behind_none (stages_with number K (graph_of gates) n (drop 28 (bits_in xs))));
        plan = refl;
        words = refl;
        counts = refl;
        total_is = refl;
        size = omega arith;
        count = refl;
      }

  module _ {i at total : ℕ} {p w c cells₁ p₁ w₁ c₁ : List ℕ} (S : Stages number K gates n i xs at total cells p w c cells₁ p₁ w₁ c₁) where
    -- the next stage may be read
    pub stage_asks : i < n → StageAt K i at total xs cells₁
    stage_asks h = record { height = A.height; few = omega (arith, A.few); small = A.small; inside = S.inside; room = S.room; size = S.area ∙ A.size }

    module _ (h : i < n) {cells₂ p₂ w₂ c₂ : List ℕ} {at₂ t₂ : ℕ} (T : StageTook number K gates i xs at total cells₁ p₁ w₁ c₁ cells₂ p₂ w₂ c₂ at₂ t₂) where
      kept_both : Kept p w c p₂ w₂ c₂
      kept_both = record { plan = T.kept.plan ∙ S.kept.plan; words = T.kept.words ∙ S.kept.words; counts = T.kept.counts ∙ S.kept.counts }

      step : n - i ≡ suc (n - (i + 1))
      step = omega arith

      -- a stage that is refused refuses them all
      pub stages_lost : 8 * length xs < at₂ → StagesTook number K gates n xs cells p w c cells₂ p₂ w₂ c₂ at₂ t₂
      unfolding behind next
      stages_lost k =
          let e : stages_with number K (graph_of gates) (n - i) (drop at (bits_in xs)) ≡ cut = rw step (no_stage number K (graph_of gates) (n - (i + 1)) (drop at (bits_in xs)) (T.lost k)) in
          record { kept = kept_both; area = T.area ∙ S.area; lost = λ _. S.left ∙ rw e; read = λ l. absurd (omega arith) }

      -- one more stage is read
      pub stages_more : at₂ ≤ 8 * length xs → Stages number K gates n (i + 1) xs at₂ t₂ cells p w c cells₂ p₂ w₂ c₂
      stages_more k =
          let E = T.read k in
          let s = E.s in
          let e : stages_with number K (graph_of gates) (n - i) (drop at (bits_in xs)) ≡ behind (s ∷ []) (stages_with number K (graph_of gates) (n - (i + 1)) (drop at₂ (bits_in xs))) = rw step (next_stage number K (graph_of gates) (n - (i + 1)) (drop at (bits_in xs)) E.is) in
          let x : i * stage_size K ≡ 0 + length (cells_of S.ss) = omega (arith, S.size) in
          let y : total ≡ 0 + length (words_of S.ss) = omega (arith, S.total_is) in
          let z : i ≡ 0 + length (counts_of S.ss) = omega (arith, S.count) in
          let b : set c₁ i (length s.words) ≡ sets c₁ i (length s.words ∷ []) = refl in
          record {
            upto = omega arith;
            kept = kept_both;
            area = T.area ∙ S.area;
            inside = k;
            room = omega (arith, S.room, E.few);
            ss = S.ss ++ (s ∷ []);
            left = S.left ∙ ap (behind S.ss) e ∙ behind_twice S.ss (s ∷ []) (stages_with number K (graph_of gates) (n - (i + 1)) (drop at₂ (bits_in xs)));
            plan = E.plan ∙ rw (S.plan, x, cells_append S.ss s) (sets_append p 0 (cells_of S.ss) s.plan);
            words = E.words ∙ rw (S.words, y, words_append S.ss s) (sets_append w 0 (words_of S.ss) s.words);
            counts = E.counts ∙ b ∙ rw (S.counts, z, counts_append S.ss s) (sets_append c 0 (counts_of S.ss) (length s.words ∷ []));
            total_is = omega (arith, E.sum, S.total_is, ap length (words_append S.ss s), length-append (words_of S.ss) s.words);
            size = omega (arith, E.size, S.size, ap length (cells_append S.ss s), length-append (cells_of S.ss) s.plan);
            count = omega (arith, S.count, ap length (counts_append S.ss s), length-append (counts_of S.ss) (length s.words ∷ []));
          }

    -- all stages are read
    pub stages_done : n ≤ i → StagesTook number K gates n xs cells p w c cells₁ p₁ w₁ c₁ at total
    unfolding behind next stages_with
    stages_done h =
        let z : n - i ≡ 0 = omega arith in
        let q : i ≡ n = omega (arith, S.upto) in
        record {
          kept = S.kept;
          area = S.area;
          lost = λ k. absurd (omega (arith, S.inside));
          read = λ _. record {
            ss = S.ss;
            is = S.left ∙ rw z (ap (λ (l : List Stage). got l (drop at (bits_in xs))) (append-nil S.ss));
            plan = S.plan;
            words = S.words;
            counts = S.counts;
            sum = S.total_is;
            size = rw (← q) S.size;
            count = S.count ∙ q;
          };
        }
