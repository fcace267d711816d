-- "Merging": `process_partitions` over groups of endpoint records. Assumes nothing.
use Rattle.std.specs.Prelude.{ℕ, zero, suc, ◌+◌, ◌-◌, ◌*◌, ◌/◌, max, Bool, true, false, ◌&&◌, ◌||◌, List, [], ◌∷◌, ◌++◌, map, leb, ltb, eqb, length, get_or, take, drop}
use Rattle.rules.specs.Lists.{mem, every, sum, padded}
use Rattle.rules.specs.Cells.{rooms}
use Rattle.rules.specs.Graph.{Node, graph_of}
use Rattle.rules.specs.Records.{Group, output, groups_of, waiting_of}
use Rattle.rules.specs.Traversal.{WordRule, traverse}
use Rattle.rules.specs.Checks.{work_size, areas_sized, pin_shown, refusal_of}
use Rattle.rules.specs.Build.{Answer, refusal, whole, build, Areas, areas_after, reply}

-- what every build of a merge shares, with the greatest number of stages that a union may have and the ranks that the begun blocks hold
pub record Common : Type 0 where
  pub rule : WordRule
  pub K : ℕ
  pub g : List Node
  pub given : List ℕ
  pub groups : List Group
  pub rooms : ℕ
  pub cap : ℕ
  pub ranks : ℕ

-- a partition: its number, its group indices, the size of its traversal, its stages, words and filled cells
pub record Part : Type 0 where
  pub nr : ℕ
  pub has : List ℕ
  pub size : ℕ
  pub stages : ℕ
  pub words : ℕ
  pub cells : ℕ

unfoldable pub named : Common → List ℕ → List Group
named J is = map (λ i. get_or J.groups i (output 0)) is

unfoldable pub built_of : Common → List ℕ → Answer
built_of J is = build J.rule J.K J.g J.given (named J is) J.rooms

-- the size of a traversal
unfoldable pub size_for : Common → List ℕ → ℕ
size_for J is = length (traverse (length J.g) J.g J.given (waiting_of (named J is) []))

-- a partition of these groups, built
unfoldable pub part_of : ℕ → List ℕ → ℕ → Answer → Part
part_of n is size a = record { nr = n; has = is; size = size; stages = (reply a).stages; words = (reply a).words; cells = (reply a).cells }

-- a later partition as it ranks for the union: the growth, the union's size, its number
pub record Rank : Type 0 where
  pub grows : ℕ
  pub union : ℕ
  pub part : Part

unfoldable pub before : Rank → Rank → Bool
before a b =
    ltb a.grows b.grows
    || eqb a.grows b.grows && (ltb a.union b.union || eqb a.union b.union && ltb a.part.nr b.part.nr)

unfoldable pub add_rank : Rank → List Rank → List Rank
add_rank r [] = r ∷ []
add_rank r (s ∷ ss) = elim (before s r) [ true ↦ s ∷ add_rank r ss | false ↦ r ∷ s ∷ ss ]

unfoldable pub rank_of : Common → Part → Part → Rank
rank_of J p q = let u = size_for J (p.has ++ q.has) in record { grows = u - max p.size q.size; union = u; part = q }

-- the later partitions that are not barred, ranked
unfoldable pub ranking : Common → Part → List ℕ → List Part → List Rank
ranking J p barred [] = []
ranking J p barred (q ∷ qs) =
    elim (mem q.nr barred) [ true ↦ ranking J p barred qs | false ↦ add_rank (rank_of J p q) (ranking J p barred qs) ]

-- how many ranks the begun blocks hold: they start at 0, 4, 12, 28.. and a start above the limit isn't begun. A block holds 4 ranks at
-- least, so the number of partitions is fuel enough
unfoldable pub begun : ℕ → ℕ → ℕ → ℕ → ℕ
begun zero limit start wide = start
begun (suc f) limit start wide = elim (leb start limit) [ true ↦ begun f limit (start + wide) (2 * wide) | false ↦ start ]

-- a union is accepted if it is built within the cap
unfoldable pub accepted : ℕ → Answer → Bool
accepted cap (refusal n k) = false
accepted cap (whole ss) = leb (length ss) cap

-- a round: the first union that is accepted, with the partitions barred on the way and the unions examined
pub data Round : Type 0 where
  none : (barred : List ℕ) (trials : ℕ) → Round
  some : (taken : ℕ) (union : Part) (barred : List ℕ) (trials : ℕ) → Round

unfoldable pub attempt : Common → Part → List Rank → List ℕ → ℕ → Round
attempt J p [] barred t = none barred t
attempt J p (r ∷ rs) barred t =
    elim (accepted J.cap (built_of J (p.has ++ r.part.has))) [
      | true ↦ some r.part.nr (part_of p.nr (p.has ++ r.part.has) r.union (built_of J (p.has ++ r.part.has))) barred (suc t)
      | false ↦ attempt J p rs (r.part.nr ∷ barred) (suc t)
    ]

unfoldable pub without : ℕ → List Part → List Part
without n [] = []
without n (q ∷ qs) = elim (eqb q.nr n) [ true ↦ qs | false ↦ q ∷ without n qs ]

-- what merging into one partition leaves
pub record Merged : Type 0 where
  pub part : Part
  pub later : List Part
  pub trials : ℕ

-- rounds until none is accepted; each accepted one takes a later partition, so one more than their number is fuel enough
unfoldable pub rounds : Common → ℕ → Part → List Part → List ℕ → ℕ → Merged
rounds J zero p later barred t = record { part = p; later = later; trials = t }
rounds J (suc f) p later barred t =
    elim (attempt J p (take J.ranks (ranking J p barred later)) barred t) [
      | none barred' t' ↦ record { part = p; later = later; trials = t' }
      | some j u barred' t' ↦ rounds J f u (without j later) barred' t'
    ]

-- sorted by stages, most first, stably
unfoldable pub add_part : Part → List Part → List Part
add_part p [] = p ∷ []
add_part p (q ∷ qs) = elim (leb q.stages p.stages) [ true ↦ p ∷ q ∷ qs | false ↦ q ∷ add_part p qs ]

pub record Result : Type 0 where
  pub parts : List Part
  pub trials : ℕ

-- each partition that is left in turn; their number is fuel enough
unfoldable pub merging : Common → ℕ → List Part → ℕ → Result
merging J zero ps t = record { parts = []; trials = t }
merging J (suc f) [] t = record { parts = []; trials = t }
merging J (suc f) (p ∷ ps) t =
    let m = rounds J (suc f) p ps [] t in
    let r = merging J f m.later m.trials in
    record { parts = add_part m.part r.parts; trials = r.trials }

-- the partitions as they are given and built; or the lowest refused one from 1, its number and stage
pub data Parts : Type 0 where
  bad : (part number at : ℕ) → Parts
  good : List Part → Parts

unfoldable pub cons : Part → Parts → Parts
cons p (bad i n k) = bad i n k
cons p (good ps) = good (p ∷ ps)

unfoldable pub original : Common → ℕ → List (List ℕ) → Parts
original J i [] = good []
original J i (is ∷ rest) =
    elim (built_of J is) [
      | refusal n k ↦ bad (suc i) n k
      | whole ss ↦ cons (part_of i is (size_for J is) (whole ss)) (original J (suc i) rest)
    ]

-- the greatest stage count
unfoldable pub most_stages : List Part → ℕ → ℕ
most_stages [] m = m
most_stages (p ∷ ps) m = most_stages ps (max p.stages m)

-- an empty partition vanishes
unfoldable pub occupied : List Part → List Part
occupied [] = []
occupied (p ∷ ps) = elim p.has [ [] ↦ occupied ps | i ∷ is ↦ p ∷ occupied ps ]

-- what a merge answers: the refused partition, its number and stage; or the partitions and the trials
pub data MergeAnswer : Type 0 where
  turned : (part number at : ℕ) → MergeAnswer
  merged : Result → MergeAnswer

unfoldable pub merge : WordRule → ℕ → List Node → List ℕ → List Group → ℕ → ℕ → List (List ℕ) → MergeAnswer
merge rule K g given groups rooms extra parts =
    let J : Common = record { rule = rule; K = K; g = g; given = given; groups = groups; rooms = rooms; cap = 0; ranks = 0 } in
    elim (original J 0 parts) [
      | bad i n k ↦ turned i n k
      | good ps ↦ merged (merging
          (record { rule = rule; K = K; g = g; given = given; groups = groups; rooms = rooms; cap = most_stages ps 0 + extra; ranks = begun (length ps) (max (length ps / 8) 20) 0 4 })
          (length ps) (occupied ps) 0)
    ]

-- the group list: indices from 0, partition after partition; a length and a stage number a partition
pub record GroupList : Type 0 where
  pub indices : List ℕ
  pub lengths : List ℕ
  pub stages : List ℕ

unfoldable pub split_by : List ℕ → List ℕ → List (List ℕ)
split_by [] is = []
split_by (n ∷ ns) is = take n is ∷ split_by ns (drop n is)

-- and back
unfoldable pub joined : List (List ℕ) → List ℕ
joined [] = []
joined (is ∷ rest) = is ++ joined rest

-- for a merge the work area has 8 more numbers per partition and per group index
unfoldable pub merge_work_size : (gates records : List ℕ) → GroupList → ℕ
merge_work_size gates records l = work_size gates records + 8 * length l.lengths + 8 * length l.indices

unfoldable pub merge_sized : ℕ → (gates records : List ℕ) → GroupList → Areas → Bool
merge_sized K gates records l a =
    areas_sized K (merge_work_size gates records l) (length a.plan) (length a.words) (length a.counts) (length a.work)
    && eqb (length l.lengths) (length l.stages)
    && eqb (sum l.lengths) (length l.indices)

-- 10. no partitions, over 1,024, a group index out of range, or allowed extra stages over 255; also more group indices than a length,
-- which is a 32-bit number, can count
unfoldable pub mergeable : List ℕ → GroupList → ℕ → Bool
mergeable records l extra =
    leb 1 (length l.lengths)
    && leb (length l.lengths) 1024
    && every (λ i. ltb i (length (groups_of records))) l.indices
    && leb extra 255
    && leb (length l.indices) 4294967295

-- the answer of a merge; stages, words and filled cells are sums, and the pin shown is 0 unless 23
pub record MergeReply : Type 0 where
  pub number : ℕ
  pub stages : ℕ
  pub words : ℕ
  pub stage : ℕ
  pub partitions : ℕ
  pub trials : ℕ
  pub refused : ℕ
  pub pin : ℕ
  pub cells : ℕ

unfoldable pub refuse_merge : (number stage part : ℕ) → MergeReply
refuse_merge n k i = record { number = n; stages = 0; words = 0; stage = k; partitions = 0; trials = 0; refused = i; pin = 0; cells = 0 }

-- what the checks refuse
unfoldable pub refuse_merge_checked : ℕ → List ℕ → MergeReply
refuse_merge_checked n gates = record { number = n; stages = 0; words = 0; stage = 0; partitions = 0; trials = 0; refused = 0; pin = pin_shown n gates; cells = 0 }

unfoldable pub indices_of : List Part → List ℕ
indices_of [] = []
indices_of (p ∷ ps) = p.has ++ indices_of ps

unfoldable pub lengths_of : List Part → List ℕ
lengths_of ps = map (λ p. length p.has) ps

unfoldable pub stages_in : List Part → List ℕ
stages_in ps = map (λ p. p.stages) ps

unfoldable pub words_for : List Part → List ℕ
words_for ps = map (λ p. p.words) ps

unfoldable pub cells_for : List Part → List ℕ
cells_for ps = map (λ p. p.cells) ps

unfoldable pub merge_reply : MergeAnswer → MergeReply
merge_reply (turned i n k) = refuse_merge n k i
merge_reply (merged r) = record {
  number = 0;
  stages = sum (stages_in r.parts);
  words = sum (words_for r.parts);
  stage = 0;
  partitions = length r.parts;
  trials = r.trials;
  refused = 0;
  pin = 0;
  cells = sum (cells_for r.parts);
}

-- the group list at exit: the merged partitions in final order, unused lengths and stages 0; as it was on refusal
unfoldable pub group_list_after : MergeAnswer → GroupList → GroupList
group_list_after (turned i n k) l = l
group_list_after (merged r) l = record {
  indices = indices_of r.parts;
  lengths = padded (length l.lengths) 0 (lengths_of r.parts);
  stages = padded (length l.lengths) 0 (stages_in r.parts);
}

pub record MergeOutcome : Type 0 where
  pub reply : MergeReply
  pub groups : GroupList
  pub areas : Areas

-- the first of 1, 2, 3, 23, 4, 5 and 10 that applies, or 0
unfoldable pub merge_refusal : ℕ → (gates given records : List ℕ) → GroupList → ℕ → Areas → ℕ
merge_refusal K gates given records l extra a =
    elim (refusal_of K (merge_sized K gates records l a) gates given records) [
      | zero ↦ elim (mergeable records l extra) [ true ↦ 0 | false ↦ 10 ]
      | suc n ↦ suc n
    ]

unfoldable pub merge_answer_of : WordRule → ℕ → (gates given records : List ℕ) → GroupList → ℕ → ℕ → MergeAnswer
merge_answer_of rule K gates given records l extra size =
    merge rule K (graph_of gates) given (groups_of records) (rooms K size) extra (split_by l.lengths l.indices)

-- the whole call: after 1 to 5, 23 and 10 nothing is changed
unfoldable pub merger : WordRule → ℕ → (gates given records : List ℕ) → GroupList → ℕ → Areas → MergeOutcome
merger rule K gates given records l extra a =
    elim (merge_refusal K gates given records l extra a) [
      | zero ↦
          let m = merge_answer_of rule K gates given records l extra (length a.plan) in
          record { reply = merge_reply m; groups = group_list_after m l; areas = areas_after K (merge_work_size gates records l) [] a }
      | suc n ↦ record { reply = refuse_merge_checked (suc n) gates; groups = l; areas = a }
    ]
