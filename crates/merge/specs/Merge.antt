-- A merge: what its calls find, answer and leave. Assumes nothing.
use Rattle.std.specs.Prelude.{ℕ, ◌*◌, ◌≤◌, Bool, true, Result, Ok, Err, List, ◌≡◌, length, replicate}
use Rattle.rules.specs.Lists.{sum}
use Rattle.rules.specs.Cells.{empty, rooms, word_limit, stage_size}
use Rattle.rules.specs.Traversal.{WordRule}
use Rattle.rules.specs.Merge.{MergeReply, MergeOutcome, merge_reply, group_list_after, merge_answer_of, merge_work_size, mergeable}
use Rattle.checks.specs.Passed.{Passed}
use Rattle.placer.specs.Build.{Blank}
use Rattle.merge_checks.specs.Values.{group_list, areas}
use Rattle.merge_trials.specs.Ranks.{Stands}
use Rattle.refusals.specs.Numbers.{number_of, pin_of}
use Rattle.merge.specs.declared.Merged.{Merged}
use Rattle.merge.specs.declared.Refused.{Refused}

-- an answer as the scope document has it
unfoldable pub told : Result Merged Refused → MergeReply
told (Ok a) = record { number = 0; stages = a.stages; words = a.words; stage = 0; partitions = a.partitions; trials = a.trials; refused = 0; pin = 0; cells = a.cells }
told (Err r) = record { number = number_of r.why; stages = 0; words = 0; stage = r.stage; partitions = 0; trials = 0; refused = r.part; pin = pin_of r.why; cells = 0 }

unfoldable pub outcome : Result Merged Refused → (indices lengths stages plan words counts work : List ℕ) → MergeOutcome
outcome a xs ls st pl ws cs w = record { reply = told a; groups = group_list xs ls st; areas = areas pl ws cs w }

-- ---- the partitions built, merged and laid out

pub record JoinAt (K m table base extra : ℕ) (gates given records xs ls st pl ws cs w : List ℕ) : Type 0 where
  pub at : Stands K m table base gates given records xs ls w
  pub blank : Blank K pl ws cs
  pub same : length st ≡ length ls
  pub few : extra ≤ 255

pub record Joined (rule : WordRule) (K extra : ℕ) (gates given records xs ls st pl : List ℕ) (r : Result Merged Refused) (xs' ls' st' : List ℕ) : Type 0 where
  pub reply : told r ≡ merge_reply (merge_answer_of rule K gates given records (group_list xs ls st) extra (length pl))
  pub groups : group_list xs' ls' st' ≡ group_list_after (merge_answer_of rule K gates given records (group_list xs ls st) extra (length pl)) (group_list xs ls st)

-- ---- in areas of their counted sizes

pub record PlaceAt (K extra : ℕ) (gates given records xs ls st pl ws cs w : List ℕ) : Type 0 where
  pub sized : Bool
  pub passed : Passed K sized gates given records
  pub may : mergeable records (group_list xs ls st) extra ≡ true
  pub same : length ls ≡ length st
  pub all : sum ls ≡ length xs
  pub plan_size : length pl ≡ rooms K (length pl) * stage_size K
  pub words_size : length ws ≡ word_limit K
  pub counts_size : length cs ≡ rooms K (length pl)
  pub work_size : length w ≡ merge_work_size gates records (group_list xs ls st)

pub record Placed (rule : WordRule) (K extra : ℕ) (gates given records xs ls st pl ws cs w : List ℕ) (r : Result Merged Refused) (xs' ls' st' pl' ws' cs' w' : List ℕ) : Type 0 where
  pub joined : Joined rule K extra gates given records xs ls st pl r xs' ls' st'
  pub plan : pl' ≡ replicate (length pl) empty
  pub words : ws' ≡ replicate (length ws) empty
  pub counts : cs' ≡ replicate (length cs) 0
  pub work : w' ≡ replicate (length w) 0
