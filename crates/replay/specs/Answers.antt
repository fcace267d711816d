-- A call of `replay`, its answer and its lent areas. Assumes nothing.
use Rattle.std.specs.Prelude.{ℕ, ◌≡◌, Bool, true, false, List, Result, length, replicate}
use Rattle.rules.specs.Lists.{laid_over}
use Rattle.placer.specs.declared.Built.{Built}
use Rattle.placer.specs.declared.Refused.{Refused}
use Rattle.placer.specs.Answers.{told, areas}
use Rattle.replay_form.specs.Clocks.{plain_run}
use Rattle.replay_form.specs.Calls as form
use Rattle.replay_plan.specs.Runs.{RunIn, circuit}

-- what a call is given
unfoldable pub job : ℕ → (gates given records driven starting : List ℕ) → ℕ → List ℕ → form.Job
job K gates given records driven starting lines recording = record { height = K; gates = gates; given = given; records = records; driven = driven; starting = starting; lines = lines; recording = recording }

-- what it is lent
unfoldable pub lent : (plan words counts work tape slots bits out end : List ℕ) → form.Lent
lent plan words counts work tape slots bits out end = record { build = areas plan words counts work; tape = tape; slots = slots; bits = bits; out = out; end = end }

-- answer and areas together, as the definitions have them
unfoldable pub outcome : Result Built Refused → (plan words counts work tape slots bits out end : List ℕ) → form.Outcome
outcome a plan words counts work tape slots bits out end = record { reply = told a; lent = lent plan words counts work tape slots bits out end }

-- a whole plan is run
pub record FinishIn (whole : Bool) (K : ℕ) (gates records driven starting : List ℕ) (lines : ℕ) (recording plan words counts : List ℕ) (total : ℕ) (work tape slots bits out end : List ℕ) : Type 0 where
  pub run : whole ≡ true → RunIn K gates records driven starting lines recording plan words counts total work tape slots bits out end
  pub clear : whole ≡ false → work ≡ replicate (length work) 0

-- all areas but those for bits are 0; a refused build changes no bit
pub record Finished (whole : Bool) (gates records driven starting : List ℕ) (lines : ℕ) (recording work tape slots bits out end work' tape' slots' bits' out' end' : List ℕ) : Type 0 where
  pub work_cleared : work' ≡ replicate (length work) 0
  pub tape_cleared : tape' ≡ replicate (length tape) 0
  pub slots_cleared : slots' ≡ replicate (length slots) 0
  pub bits_cleared : bits' ≡ replicate (length bits) 0
  pub out_kept : whole ≡ false → out' ≡ out
  pub end_kept : whole ≡ false → end' ≡ end
  pub out_bits : whole ≡ true → out' ≡ laid_over (plain_run (circuit gates records driven) lines recording starting).out out
  pub end_bits : whole ≡ true → end' ≡ (plain_run (circuit gates records driven) lines recording starting).end

-- a job that no check refuses
pub record BuiltIn (K : ℕ) (gates given records driven starting : List ℕ) (lines : ℕ) (recording plan words counts work tape slots bits out end : List ℕ) : Type 0 where
  pub passes : form.replay_refusal (job K gates given records driven starting lines recording) (lent plan words counts work tape slots bits out end) ≡ 0
