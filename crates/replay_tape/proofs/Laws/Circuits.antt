-- A clock over slots is a clock of the definitions. Assumes nothing.
use Prim.Native.Nat.{ℕ, zero, suc, ◌+◌, ◌-◌, ◌≤◌, ◌<◌}
use mathlib.Core.Path.{◌≡◌, refl, sym, ◌∙◌, ap, ap₂}
use mathlib.Core.Bool.{false}
use mathlib.Core.List.{List, [], ◌∷◌, ◌++◌}
use native.Mathlib.Omega.{arith}
use lib.Dec.{eqb, ltb}
use lib.ListN.{length, get_or, set, take, drop, length-map, length-append, length-take, get_or-append, get_or-eq_default}
use lib.Seq.{get_or-set_same, get_or-set_other, get_or-take, length-take-le, ext_get_or}
use Rattle.rules.specs.Lists.{Found, nothing, found, mem, up_to, laid_over, padded}
use Rattle.rules.specs.Cells.{empty, stage_size}
use Rattle.rules.specs.Build.{Stage, cells_of}
use Rattle.rules.specs.Graph.{Node}
use Rattle.rules.specs.Fold.{as_number}
use borrow.Author.Tests.{ltb-true, ltb-false}
use Rattle.rules.proofs.Lists.Lengths.{length-up_to}
use Rattle.rules.proofs.Lists.Members.{split, true_false, eqb_true, eqb_false, mem_other}
use Rattle.replay_form.specs.Clocks.{is_one, beside, line_leaves, pin_bits, handed_out, next_bits, Circuit, Valuation, clock}
use Rattle.replay_form.specs.Plans.{written_at}
use Rattle.replay_form.specs.Tape.{slot_bit, entry_bit, run_tape, slot_in, Made, made, tape_bits}
use Rattle.replay_form.proofs.Pins.{map-up_to}
use Rattle.replay_form.proofs.Tape.{length_run}
use Rattle.replay_tape.specs.Running.{entries_of}
use Rattle.replay_tape.specs.Stages.{made_of}
use Rattle.replay_tape.specs.Plans.{PlanMade}
use Rattle.replay_tape.specs.Clocks.{put_bits, handed, datas, bits_at, ClockOut, places_of, flips_from, read_slot}
use Rattle.replay_tape.proofs.Laws.Running.{length_entries}
use Rattle.replay_tape.proofs.Laws.Clocks.{length_put, places_hand, flips_next}

-- ---- the bits of the pins

-- bits put in two parts
pub put_append : (ds ls st ln b : List ℕ) → length st ≡ length ds → put_bits (ds ++ ls) (st ++ ln) b ≡ put_bits ds st (put_bits ls ln b)
unfolding put_bits
put_append [] ls [] ln b e = refl
put_append [] ls (s ∷ st) ln b e = absurd (omega arith)
put_append (d ∷ ds) ls [] ln b e = absurd (omega arith)
put_append (d ∷ ds) ls (s ∷ st) ln b e = ap (λ (l : List ℕ). set l d (as_number (is_one s))) (put_append ds ls st ln b (omega arith))

-- a pin that is not put keeps its bit
pub put_out : (ps vs b : List ℕ) (p : ℕ) → mem p ps ≡ false → get_or (put_bits ps vs b) p 0 ≡ get_or b p 0
unfolding put_bits mem
put_out [] vs b p o = refl
put_out (q ∷ qs) vs b p o = split (eqb p q)
    (λ t. true_false (rw (t, mem)) o)
    (λ t. get_or-set_other (put_bits qs (drop 1 vs) b) q p _ 0 (eqb_false p q t) ∙ put_out qs (drop 1 vs) b p (sym (mem_other p q qs (eqb_false p q t)) ∙ o))

put_beside : (ps vs b : List ℕ) (p : ℕ) → p < length b → (mem p ps ≡ false → get_or b p 0 ≡ 0) → get_or (put_bits ps vs b) p 0 ≡ as_number (is_one (beside p ps vs))
unfolding put_bits beside mem is_one as_number
put_beside [] vs b p l h = h refl
put_beside (q ∷ qs) vs b p l h = split (eqb p q)
    (λ t. let e = eqb_true p q t in rw (t, beside) (ap (λ (i : ℕ). get_or (set (put_bits qs (drop 1 vs) b) q (as_number (is_one (get_or vs 0 0)))) i 0) e ∙ get_or-set_same (put_bits qs (drop 1 vs) b) q _ 0 (omega (arith, length_put qs (drop 1 vs) b))))
    (λ t. rw (t, beside) (get_or-set_other (put_bits qs (drop 1 vs) b) q p _ 0 (eqb_false p q t) ∙ put_beside qs (drop 1 vs) b p l (λ o. h (mem_other p q qs (eqb_false p q t) ∙ o))))

-- the area's bits at pins that no leaf is are 0
pub record Resting (g : List Node) (driven bits : List ℕ) : Type 0 where
  pub one : 1 ≤ length g
  pub room : length g ≤ length bits
  pub none : mem 0 (driven ++ line_leaves g driven) ≡ false
  pub rest : (p : ℕ) → p < length g → mem p (driven ++ line_leaves g driven) ≡ false → get_or bits p 0 ≡ 0

module _ (g : List Node) (driven line state bits : List ℕ) (len : length state ≡ length driven) (R : Resting g driven bits) where
  abbrev put : List ℕ
  put = put_bits driven state (put_bits (line_leaves g driven) line bits)

  put_length : length put ≡ length bits
  put_length = length_put driven state _ ∙ length_put (line_leaves g driven) line bits

  -- a bit for each pin
  pub length_pins : length (pin_bits g driven line state) ≡ length g
  unfolding pin_bits
  length_pins = ap suc (length-map (up_to (length g - 1) 1) _ ∙ length-up_to (length g - 1) 1) ∙ omega (arith, R.one)

  pin_bit : (p : ℕ) → p < length g → get_or put p 0 ≡ get_or (pin_bits g driven line state) p 0
  unfolding pin_bits
  pin_bit zero h = ap (λ (l : List ℕ). get_or l 0 0) (sym (put_append driven (line_leaves g driven) state line bits len)) ∙ put_out (driven ++ line_leaves g driven) (state ++ line) bits 0 R.none ∙ R.rest 0 h R.none
  pin_bit (suc p) h =
      ap (λ (l : List ℕ). get_or l (suc p) 0) (sym (put_append driven (line_leaves g driven) state line bits len))
      ∙ put_beside (driven ++ line_leaves g driven) (state ++ line) bits (suc p) (omega (arith, R.room)) (R.rest (suc p) h)
      ∙ sym (map-up_to (λ q. as_number (is_one (beside q (driven ++ line_leaves g driven) (state ++ line)))) (length g - 1) 1 p 0 (omega arith) ∙ ap (λ (q : ℕ). as_number (is_one (beside q (driven ++ line_leaves g driven) (state ++ line)))) (omega arith))

  -- the pins' bits in the area are those of the definitions
  pub pins_put : take (length g) put ≡ pin_bits g driven line state
  pins_put =
      let t : length (take (length g) put) ≡ length g = length-take-le (length g) put (omega (arith, put_length, R.room)) in
      ext_get_or 0 (take (length g) put) (pin_bits g driven line state) (t ∙ sym length_pins)
      (λ p h. get_or-take (length g) put p 0 (omega arith) ∙ pin_bit p (omega arith))

-- ---- a clock

module _ (C : Circuit) (B : Valuation) (tape : List ℕ) (n : ℕ) (read : ℕ → ℕ) (inside : (q : ℕ) → read q < length C.graph + n) (line bits state : List ℕ)
    (len : length state ≡ length C.driven) (small : (i : ℕ) → get_or state i 0 ≤ 1) (R : Resting C.graph C.driven bits)
    (W : (q : ℕ) → slot_bit (run_tape (entries_of n tape) (pin_bits C.graph C.driven line state)) (read q) ≡ B (pin_bits C.graph C.driven line state) q) where
  abbrev pins : List ℕ
  pins = pin_bits C.graph C.driven line state

  abbrev slots : List ℕ
  slots = bits_at tape C.driven (line_leaves C.graph C.driven) line bits state (length C.graph) n

  slot_bit_lem : (q : ℕ) → slot_bit slots (read q) ≡ B pins q
  unfolding slot_bit bits_at laid_over
  slot_bit_lem q =
      let r = run_tape (entries_of n tape) pins in
      let l : length r ≡ length C.graph + n = length_run (entries_of n tape) pins ∙ omega (arith, length_entries n tape, length_pins C.graph C.driven line state bits len R) in
      rw (pins_put C.graph C.driven line state bits len R) (ap is_one (get_or-append r _ 0 (read q) (omega (arith, inside q)))) ∙ W q

  -- What one clock of the code leaves is what one clock of the definitions gives.
  pub clock_is : (bits' state' out' : List ℕ) →
      ClockOut tape (places_of read C.groups) (flips_from 0 C.groups) C.driven (line_leaves C.graph C.driven) line bits state (length C.graph) n bits' state' out' →
      clock C B line state ≡ record { out = out'; end = state' }
  unfolding clock
  clock_is bits' state' out' O =
      let h : handed (places_of read C.groups) slots ≡ handed_out (B pins) C.groups = places_hand (B pins) slots read slot_bit_lem C.groups in
      let e : out' ≡ handed_out (B pins) C.groups = O.hands ∙ h in
      let s : state' ≡ next_bits (B pins) C.groups state = O.next ∙ ap (λ (o : List ℕ). datas (flips_from 0 C.groups) o state) h ∙ sym (flips_next (B pins) C.groups [] state small) in
      ap₂ (λ (a b : List ℕ). record { out = a; end = b }) (sym e) (sym s)

-- ---- the tape of a plan

-- running keeps the bits that were there
pub run_keeps : (xs : List Node) (bits : List ℕ) (s : ℕ) → s < length bits → get_or (run_tape xs bits) s 0 ≡ get_or bits s 0
unfolding run_tape
run_keeps [] bits s h = refl
run_keeps (x ∷ xs) bits s h = run_keeps xs (bits ++ _) s (omega (arith, length-append bits (as_number (entry_bit bits x) ∷ []))) ∙ get_or-append bits _ 0 s h

module _ (K m : ℕ) (plan w l t w' l' t' : List ℕ) (e : ℕ) (P : PlanMade K m plan w l t w' l' t' e) where
  -- every slot that is read is there
  pub read_inside : 1 ≤ m → (f : Found) → read_slot (take (length plan) w') f < m + e
  unfolding read_slot
  read_inside one nothing = omega arith
  read_inside one (found p) = split (ltb p (length plan))
      (λ k. let h = ltb-true p (length plan) k in rw (get_or-take (length plan) w' p 0 h) (P.slots p h))
      (λ k. rw (get_or-eq_default (take (length plan) w') 0 {n = p} (omega (arith, length-take (length plan) w', ltb-false p (length plan) k))) (omega arith))

  module _ (ss : List Stage) (ep : plan ≡ padded (length plan) empty (cells_of ss)) where
    made_is : made K m (length plan) ss ≡ made_of (take (length plan) w') (entries_of e t')
    unfolding made
    made_is = rw (← ep) P.made

    -- The tape that the code made gives the pins the bits of the definitions' tape.
    pub tape_read : (bits : List ℕ) → 1 ≤ length bits → get_or bits 0 0 ≡ 0 → (q : ℕ) →
        slot_bit (run_tape (entries_of e t') bits) (read_slot (take (length plan) w') (written_at (stage_size K) 0 q ss)) ≡ tape_bits K m (length plan) ss bits q
    unfolding tape_bits read_slot slot_in slot_bit is_one
    tape_read bits one z q = read_slot_lem (written_at (stage_size K) 0 q ss) ∙ ap (λ (c : Made). slot_in (run_tape c.tape bits) c.slots (written_at (stage_size K) 0 q ss)) (sym made_is)
      where
        read_slot_lem : (f : Found) → slot_bit (run_tape (entries_of e t') bits) (read_slot (take (length plan) w') f) ≡ slot_in (run_tape (entries_of e t') bits) (take (length plan) w') f
        read_slot_lem nothing = rw (run_keeps (entries_of e t') bits 0 (omega arith), z)
        read_slot_lem (found p) = refl
