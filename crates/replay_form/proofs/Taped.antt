-- A plan run by its tape gives the bits of the plan that is folded at each clock, and so those of the plain graph. Assumes nothing.
use Prim.Native.Nat.{ℕ, zero, suc, ◌+◌, ◌-◌, ◌*◌, ◌^◌, ◌≤◌}
use mathlib.Core.Path.{◌≡◌, refl, sym, ◌∙◌, ap}
use mathlib.Core.Bool.{Bool, false}
use mathlib.Core.List.{List, []}
use native.Mathlib.Omega.{arith}
use native.Mathlib.Nat.{suc-mul}
use lib.Dec.{ltb}
use lib.ListN.{length, get_or, take, drop, get_or-eq_default, length-map, length-append}
use borrow.Author.Tests.{ltb-true, ltb-false}
use Rattle.rules.specs.Lists.{up_to, padded}
use Rattle.rules.specs.Cells.{empty, stage_size, rooms}
use Rattle.rules.specs.Graph.{Node, own_bit}
use Rattle.rules.specs.Build.{Stage, cells_of}
use Rattle.rules.specs.Coded.{cell_bits, load_of, fold_stages, fold_cells}
use Rattle.rules.proofs.Lists.Members.{split}
use Rattle.rules.proofs.Lists.Lengths.{length-up_to}
use Rattle.rules.proofs.Stage.Puts.{cell}
use Rattle.rules.proofs.Build.Lengths.{length_padded}
use Rattle.checks.proofs.Laws.Passed.{passed}
use Rattle.coded.specs.Inputs.{Input, graph}
use Rattle.coded.proofs.Passing.{counted}
use Rattle.coded.proofs.Bits.{length-cell_bits}
use Rattle.replay_form.specs.Clocks.{is_one, ones, pin_bits, Circuit, plain_run}
use Rattle.replay_form.specs.Plans.{written_at, bit_in, plan_bits, plan_run}
use Rattle.replay_form.specs.Accepted.{Accepted}
use Rattle.replay_form.specs.Tape.{slot_bit, run_tape, first_slot, made, made_from, slot_in, tape_bits, tape_run}
use Rattle.replay_form.proofs.Same.{run_same}
use Rattle.replay_form.proofs.Tape.{Gives, tape_folds}
use Rattle.replay_form.proofs.Calls.{circuit_for, accepted_plain}

-- what the first stage loads is in its slots
module _ (bits : List ℕ) (zeroth : get_or bits 0 0 ≡ 0) (some : 1 ≤ length bits) where
  zero_gives : Gives bits [] 0 false
  unfolding run_tape slot_bit is_one
  zero_gives = record { inside = omega arith; bit = rw zeroth }

  own : (n : ℕ) → slot_bit bits n ≡ own_bit bits n
  unfolding slot_bit is_one own_bit
  own zero = rw zeroth
  own (suc n) = refl

  own_past : (n : ℕ) → length bits ≤ n → own_bit bits n ≡ false
  unfolding own_bit
  own_past zero h = refl
  own_past (suc n) h = rw (get_or-eq_default bits 0 h)

  first_gives : (n : ℕ) → Gives bits [] (first_slot (length bits) n) (own_bit bits n)
  unfolding first_slot run_tape
  first_gives n = split (ltb n (length bits))
      (λ t. rw (t, first_slot) (record { inside = omega (arith, ltb-true n (length bits) t); bit = own n }))
      (λ t. rw (t, first_slot, own_past n (ltb-false n (length bits) t)) zero_gives)

-- a bit for each pin and for pin 0
pub length_pins : (g : List Node) → 1 ≤ length g → (driven line state : List ℕ) → length (pin_bits g driven line state) ≡ length g
unfolding pin_bits
length_pins g h driven line state = ap suc (length-map (up_to (length g - 1) 1) _ ∙ length-up_to (length g - 1) 1) ∙ omega arith

length_fold : (n K : ℕ) (load : ℕ → Bool) (plan : List ℕ) → length (fold_stages n K load plan) ≡ n * 2 ^ (K + 1)
unfolding fold_stages
length_fold zero K load plan = omega arith
length_fold (suc n) K load plan =
    let cl = take (2 ^ (K + 1)) plan in
    length-append (cell_bits K cl load) (fold_stages n K (load_of K cl load) (drop (2 ^ (K + 1)) plan))
    ∙ omega (arith, length-cell_bits K cl load, length_fold n K (load_of K cl load) (drop (2 ^ (K + 1)) plan), suc-mul n (2 ^ (K + 1)))

module _ (K L : ℕ) (ss : List Stage) (fits : length (cells_of ss) ≤ L) where
  -- for any bits of the pins: the tape's bit is the fold's
  pub tape_bit : (bits : List ℕ) → 1 ≤ length bits → get_or bits 0 0 ≡ 0 → (q : ℕ) → tape_bits K (length bits) L ss bits q ≡ plan_bits K L ss bits q
  unfolding tape_bits plan_bits slot_in bit_in made fold_cells is_one
  tape_bit bits some zeroth q =
      let plan = padded L empty (cells_of ss) in
      let Z = zero_gives bits zeroth some in
      let F = tape_folds bits K (rooms K L) (own_bit bits) (first_slot (length bits)) plan [] Z (first_gives bits zeroth some) in
      let r = made_from (rooms K L) (length bits) K (first_slot (length bits)) [] plan in
      let f = fold_stages (rooms K L) K (own_bit bits) plan in
      let past : (c : ℕ) → rooms K L * 2 ^ (K + 1) ≤ c → slot_bit (run_tape r.tape bits) (get_or r.slots c 0) ≡ is_one (get_or f c 0) =
      λ c h. rw (get_or-eq_default r.slots 0 {n = c} (omega (arith, F.len)), get_or-eq_default f 0 {n = c} (omega (arith, length_fold (rooms K L) K (own_bit bits) plan))) (F.grows 0 false Z).bit in
      rw (length_padded L empty (cells_of ss) fits)
      (cell (written_at (stage_size K) 0 q ss) (λ d. rw d)
      (λ c d. rw d (split (ltb c (rooms K L * 2 ^ (K + 1))) (λ b. (F.each c (ltb-true c _ b)).bit) (λ b. past c (ltb-false c _ b)))))

  -- Whatever the plan, its run by its tape is the run that folds the plan at each clock.
  pub tape_plan : (C : Circuit) → 1 ≤ length C.graph → (n : ℕ) (recording starting : List ℕ) → tape_run K (length C.graph) L ss C n recording starting ≡ plan_run K L ss C n recording starting
  unfolding tape_run plan_run pin_bits
  tape_plan C some n recording starting =
      run_same _ _ _
      (λ line state q i.
      let bits = pin_bits C.graph C.driven line state in
      let l : length bits ≡ length C.graph = length_pins C.graph some C.driven line state in
      ap (λ (m : ℕ). tape_bits K m L ss bits q) (sym l) ∙ tape_bit bits (omega arith) refl q)
      n recording (ones starting)

-- For a plan that the check accepts it is the plain graph's, in any plan area with room.
pub tape_plain : (I : Input) → I.given ≡ [] → (driven : List ℕ) (n : ℕ) (recording starting : List ℕ) (ss : List Stage) → Accepted I.K I.gates I.given I.records ss → (L : ℕ) → length (cells_of ss) ≤ L →
    tape_run I.K (length (graph I)) L ss (circuit_for I driven) n recording starting ≡ plain_run (circuit_for I driven) n recording starting
tape_plain I free driven n recording starting ss A L fits =
    tape_plan I.K L ss fits (circuit_for I driven) (omega (arith, counted I, (passed I.K I.sized I.gates I.given I.records I.passes).some)) n recording starting
    ∙ accepted_plain I free driven n recording starting ss A L fits
