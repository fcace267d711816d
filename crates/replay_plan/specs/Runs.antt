-- The run of a plan that the check accepts. Assumes nothing.
use Rattle.std.specs.Prelude.{ℕ, ◌+◌, ◌*◌, ◌/◌, ◌≤◌, ◌≡◌, Bool, true, List, [], ◌++◌, length}
use Rattle.rules.specs.Lists.{laid_over}
use Rattle.rules.specs.Graph.{graph_of, pin_count}
use Rattle.rules.specs.Records.{groups_of}
use Rattle.rules.specs.Checks.{refusal_of}
use Rattle.rules.specs.Build.{Stage, cells_of, words_of, counts_of}
use Rattle.replay_form.specs.Clocks.{Circuit, line_leaves, bits_out, flip_flops, plain_run}
use Rattle.replay_form.specs.Accepted.{Accepted}
use Rattle.replay_form.specs.Calls.{driven_right}

-- accepted stages with their words and counts, whoever made them, whose slots' literals fit in 32 bits; a job that passed its checks; and areas
-- large enough
pub record RunIn (K : ℕ) (gates records driven starting : List ℕ) (lines : ℕ) (recording plan words counts : List ℕ) (total : ℕ) (work tape slots bits out end : List ℕ) : Type 0 where
  pub ss : List Stage
  pub sized : Bool
  pub passes : refusal_of K sized gates [] records ≡ 0
  pub accepted : Accepted K gates [] records ss
  pub cells : plan ≡ cells_of ss
  pub fits : 2 * pin_count gates + length plan ≤ 4294967296
  pub more : List ℕ
  pub written : words ≡ words_of ss ++ more
  pub counted : counts ≡ counts_of ss
  pub all : total ≡ length (words_of ss)
  pub drives : driven_right (graph_of gates) driven ≡ true
  pub flops : length driven ≡ flip_flops (groups_of records)
  pub starts : length starting ≡ flip_flops (groups_of records)
  pub recorded : length recording ≡ lines * length (line_leaves (graph_of gates) driven)
  pub out_room : lines * bits_out (groups_of records) ≤ length out
  pub end_room : length end ≡ flip_flops (groups_of records)
  pub work_room : pin_count gates + length records ≤ length work
  pub tape_room : length plan ≤ length tape
  pub slots_room : length plan + length records ≤ length slots
  pub bits_room : pin_count gates + length plan / 2 ≤ length bits

-- the circuit of graph, records and driven pins
abbrev pub circuit : (gates records driven : List ℕ) → Circuit
circuit gates records driven = record { graph = graph_of gates; groups = groups_of records; driven = driven }

-- the bits of the plain graph's run; the areas for making the tape keep their lengths
pub record RunOut (gates records driven starting : List ℕ) (lines : ℕ) (recording work tape slots bits out work' tape' slots' bits' out' end' : List ℕ) : Type 0 where
  pub work_kept : length work' ≡ length work
  pub tape_kept : length tape' ≡ length tape
  pub slots_kept : length slots' ≡ length slots
  pub bits_kept : length bits' ≡ length bits
  pub hands : out' ≡ laid_over (plain_run (circuit gates records driven) lines recording starting).out out
  pub ends : end' ≡ (plain_run (circuit gates records driven) lines recording starting).end
