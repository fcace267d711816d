-- Replay over a plan that is handed in: 1 to 5 and 23, then 18, 19, 20 and 17, then 22, and what every lent area holds at exit. Assumes nothing.
use Rattle.std.specs.Prelude.{ℕ, zero, suc, ◌+◌, ◌*◌, Bool, ◌&&◌, List, leb, length, replicate}
use Rattle.rules.specs.Lists.{laid_over}
use Rattle.rules.specs.Cells.{stage_size}
use Rattle.rules.specs.Graph.{pin_count}
use Rattle.rules.specs.Checks.{refusal_of, pin_shown}
use Rattle.rules.specs.Build.{Stage}
use Rattle.rules.specs.Faults.{Fault, faultless, fault_at, cut, fault}
use Rattle.replay_form.specs.Clocks.{Ran}
use Rattle.replay_form.specs.Calls.{Job, slots_size, bits_size, later_refusal, ran_of}
use Rattle.replay.specs.Sizes.{lists_sized}
use Rattle.plan_check.specs.Answers.{plan_fits, Checked, judged}

-- the plan: areas as a build leaves them, and how many of their stages are its
pub record Plan : Type 0 where
  pub plan : List ℕ
  pub words : List ℕ
  pub counts : List ℕ
  pub stages : ℕ

-- the areas that are written: where each pin is read from, the tape's entries, the slots of all positions, and a bit a slot; the bits handed out and
-- the end bits
pub record Lent : Type 0 where
  pub work : List ℕ
  pub tape : List ℕ
  pub slots : List ℕ
  pub bits : List ℕ
  pub out : List ℕ
  pub end : List ℕ

-- answer and areas together
pub record Outcome : Type 0 where
  pub reply : Checked
  pub lent : Lent

-- the numbers of so many stages
unfoldable pub used : ℕ → ℕ → ℕ
used K n = n * stage_size K

-- the size at which the work area counts: a number a pin, and one for each number of the records
unfoldable pub places_size : (gates records : List ℕ) → ℕ
places_size gates records = pin_count gates + length records

-- a plan whose slots' literals fit in 32 bits, and a work area for it
unfoldable pub slots_fit : (gates records : List ℕ) → (used work : ℕ) → Bool
slots_fit gates records n work = leb (2 * pin_count gates + n) 4294967296 && leb (places_size gates records) work

-- 2. all areas, by their lengths
unfoldable pub finished_sized : ℕ → (gates records : List ℕ) → (plan counts stages work tape slots bits : ℕ) → Bool
finished_sized K gates records plan counts n work tape slots bits =
    plan_fits K plan counts n && slots_fit gates records (used K n) work && lists_sized gates records (used K n) tape slots bits

-- the same of a job
unfoldable pub finished_right : Job → Plan → Lent → Bool
finished_right J p a = finished_sized J.height J.gates J.records (length p.plan) (length p.counts) p.stages (length a.work) (length a.tape) (length a.slots) (length a.bits)

-- 1 to 5 and 23, then 18, 19, 20 and 17, else 0
unfoldable pub finished_refusal : Job → Plan → Lent → ℕ
finished_refusal J p a =
    elim (refusal_of J.height (finished_right J p a) J.gates J.given J.records) [
      | zero ↦ later_refusal J.gates J.given J.records J.driven (length J.starting) J.lines (length J.recording) (length a.out) (length a.end)
      | suc n ↦ suc n
    ]

-- its stages
unfoldable pub stages_in : Job → Plan → List Stage
stages_in J p = cut p.stages J.height p.plan p.words p.counts

-- the plan's run
unfoldable pub finished_run : Job → Plan → Ran
finished_run J p = ran_of J (length p.plan) (stages_in J p)

-- what the run leaves: its bits; the other areas are 0 as far as they count
unfoldable pub ran_lent : Job → Plan → Lent → Lent
ran_lent J p a =
    let n = used J.height p.stages in
    record {
      work = laid_over (replicate (places_size J.gates J.records) 0) a.work;
      tape = laid_over (replicate n 0) a.tape;
      slots = laid_over (replicate (slots_size J.records n) 0) a.slots;
      bits = laid_over (replicate (bits_size J.gates n) 0) a.bits;
      out = laid_over (finished_run J p).out a.out;
      end = laid_over (finished_run J p).end a.end;
    }

-- 22 with the fault's place, and nothing is changed; else the plan is run
unfoldable pub judged_run : Job → Plan → Lent → Fault → Outcome
judged_run J p a (fault_at k q) = record { reply = judged (fault_at k q); lent = a }
judged_run J p a faultless = record { reply = judged faultless; lent = ran_lent J p a }

-- the whole call
unfoldable pub finished_replay : Job → Plan → Lent → Outcome
finished_replay J p a =
    elim (finished_refusal J p a) [
      | zero ↦ judged_run J p a (fault J.height J.gates J.given J.records p.plan p.words p.counts p.stages)
      | suc n ↦ record { reply = record { number = suc n; stage = 0; position = 0; pin = pin_shown (suc n) J.gates }; lent = a }
    ]
