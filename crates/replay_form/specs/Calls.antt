-- The whole call: refusals 18, 19, 20 and 17 between 5 and 6, and what every lent area holds at exit. Assumes nothing.
use Rattle.std.specs.Prelude.{ℕ, zero, suc, ◌+◌, ◌*◌, ◌/◌, Bool, true, false, not, ◌&&◌, List, [], ◌∷◌, leb, eqb, length, replicate}
use Rattle.rules.specs.Lists.{mem, every, is_nil, laid_over}
use Rattle.rules.specs.Graph.{Node, graph_of, pin_count}
use Rattle.rules.specs.Records.{groups_of}
use Rattle.rules.specs.Reservation.{memories}
use Rattle.rules.specs.Checks.{work_size, areas_sized, refusal_of}
use Rattle.rules.specs.Traversal.{WordRule}
use Rattle.rules.specs.Build.{Stage, Answer, refusal, whole, Reply, refuse_checked, reply, Areas, areas_after, stages_of, coded_stages, answer_of}
use Rattle.replay_form.specs.Clocks.{Circuit, Ran, leaf_pin, line_leaves, bits_out, flip_flops}
use Rattle.replay_form.specs.Plans.{plan_run}

-- what a call is given
pub record Job : Type 0 where
  pub height : ℕ
  pub gates : List ℕ
  pub given : List ℕ
  pub records : List ℕ
  pub driven : List ℕ
  pub starting : List ℕ
  pub lines : ℕ
  pub recording : List ℕ

-- the lent areas: those of the build; the tape's entries, the slots of all positions, and a bit a slot; the bits handed out and the end bits
pub record Lent : Type 0 where
  pub build : Areas
  pub tape : List ℕ
  pub slots : List ℕ
  pub bits : List ℕ
  pub out : List ℕ
  pub end : List ℕ

-- answer and areas together
pub record Outcome : Type 0 where
  pub reply : Reply
  pub lent : Lent

-- the circuit of a job
unfoldable pub circuit_of : Job → Circuit
circuit_of J = record { graph = graph_of J.gates; groups = groups_of J.records; driven = J.driven }

-- the sizes at which these areas count, for a plan area of so many numbers: the tape as many, two numbers an entry; the slots these, and one for
-- each number of the records
unfoldable pub slots_size : (records : List ℕ) → (plan : ℕ) → ℕ
slots_size records plan = plan + length records

-- a bit for each pin, and one an entry
unfoldable pub bits_size : (gates : List ℕ) → (plan : ℕ) → ℕ
bits_size gates plan = pin_count gates + plan / 2

-- 2. the areas of the build and these, by their lengths
unfoldable pub replay_sized : ℕ → (gates records : List ℕ) → (plan words counts work tape slots bits : ℕ) → Bool
replay_sized K gates records plan words counts work tape slots bits =
    areas_sized K (work_size gates records) plan words counts work && leb plan tape && leb (slots_size records plan) slots && leb (bits_size gates plan) bits

-- the same of a job
unfoldable pub areas_right : Job → Lent → Bool
areas_right J a =
    replay_sized J.height J.gates J.records (length a.build.plan) (length a.build.words) (length a.build.counts) (length a.build.work) (length a.tape) (length a.slots) (length a.bits)

-- 18. no memory and no given pin
unfoldable pub plain : (given records : List ℕ) → Bool
plain given records = eqb (memories (groups_of records)) 0 && is_nil given

-- no number twice
unfoldable pub once : List ℕ → Bool
once [] = true
once (x ∷ xs) = not (mem x xs) && once xs

-- 19. every driven pin is a leaf, and driven once
unfoldable pub driven_right : List Node → (driven : List ℕ) → Bool
driven_right g driven = every (leaf_pin g) driven && once driven

-- 20. a driven pin and a starting bit for each flip-flop, and as many lines as stated; by lengths, a line having so many bits
unfoldable pub lengths_right : (flips leaves driven starting lines recording : ℕ) → Bool
lengths_right flips leaves driven starting lines recording = eqb driven flips && eqb starting flips && eqb recording (lines * leaves)

-- 17. there is room for the bits of each clock and for the end bits
unfoldable pub out_right : (flips bits lines out end : ℕ) → Bool
out_right flips bits lines out end = leb (lines * bits) out && leb flips end

-- the first of 18, 19, 20 and 17 that applies, or 0
unfoldable pub later_refusal : (gates given records driven : List ℕ) → (starting lines recording out end : ℕ) → ℕ
later_refusal gates given records driven starting lines recording out end =
    let gs = groups_of records in
    elim (plain given records) [
      | false ↦ 18
      | true ↦ elim (driven_right (graph_of gates) driven) [
        | false ↦ 19
        | true ↦ elim (lengths_right (flip_flops gs) (length (line_leaves (graph_of gates) driven)) (length driven) starting lines recording) [
          | false ↦ 20
          | true ↦ elim (out_right (flip_flops gs) (bits_out gs) lines out end) [ false ↦ 17 | true ↦ 0 ]
        ]
      ]
    ]

-- the same of a job
unfoldable pub later_of : Job → Lent → ℕ
later_of J a = later_refusal J.gates J.given J.records J.driven (length J.starting) J.lines (length J.recording) (length a.out) (length a.end)

-- 1 to 5 and 23, then those, else 0
unfoldable pub replay_refusal : Job → Lent → ℕ
replay_refusal J a = elim (refusal_of J.height (areas_right J a) J.gates J.given J.records) [ zero ↦ later_of J a | suc n ↦ suc n ]

-- the run of a plan of cells in a plan area of `size` numbers
unfoldable pub ran_of : Job → (size : ℕ) → List Stage → Ran
ran_of J size ss = plan_run J.height size ss (circuit_of J) J.lines J.recording J.starting

-- the stages of a build as a user is handed them: cells with their inversions
unfoldable pub cell_stages : Job → List Stage → List Stage
cell_stages J ss = coded_stages J.height (graph_of J.gates) ss

-- what a build leaves: of a whole plan also the bits of its run. Tape, slots and bits are 0 as far as they count
unfoldable pub built_lent : Job → Lent → Answer → Lent
built_lent J a b =
    let plan = length a.build.plan in
    record {
      build = areas_after J.height (work_size J.gates J.records) (cell_stages J (stages_of b)) a.build;
      tape = laid_over (replicate plan 0) a.tape;
      slots = laid_over (replicate (slots_size J.records plan) 0) a.slots;
      bits = laid_over (replicate (bits_size J.gates plan) 0) a.bits;
      out = elim b [ refusal n k ↦ a.out | whole ss ↦ laid_over (ran_of J plan (cell_stages J ss)).out a.out ];
      end = elim b [ refusal n k ↦ a.end | whole ss ↦ laid_over (ran_of J plan (cell_stages J ss)).end a.end ];
    }

-- the build of a job
unfoldable pub built_of : WordRule → Job → Lent → Answer
built_of rule J a = answer_of rule J.height J.gates J.given J.records (length a.build.plan)

-- the whole call, its build under a word rule: after 1 to 5, 23 and 17 to 20 nothing is changed, and after 6 to 9 no bit is
unfoldable pub replay : WordRule → Job → Lent → Outcome
replay rule J a =
    elim (replay_refusal J a) [
      | zero ↦ let b = built_of rule J a in record { reply = reply b; lent = built_lent J a b }
      | suc n ↦ record { reply = refuse_checked (suc n) J.gates; lent = a }
    ]
