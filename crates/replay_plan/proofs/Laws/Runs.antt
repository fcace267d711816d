-- The run of a plan that the check accepts is the plain graph's. Assumes nothing.
use Prim.Native.Nat.{ℕ, zero, suc, ◌+◌, ◌-◌, ◌*◌, ◌/◌, ◌%◌, ◌^◌, ◌≤◌, ◌<◌}
use mathlib.Core.Path.{◌≡◌, refl, sym, ◌∙◌, ap, ap₂}
use mathlib.Core.Bool.{Bool, true, false, not, ◌&&◌}
use mathlib.Core.List.{List, [], ◌∷◌, ◌++◌, map, append-nil}
use mathlib.Core.Logic.{⊎_elim}
use native.Mathlib.Omega.{arith}
use native.Mathlib.Nat.{mul-mod_left, mul_comm}
use lib.Dec.{leb, ltb}
use lib.Pow.{pow_pos, pow_mono}
use lib.ListN.{length, get_or, take, drop, replicate, length-append, length-drop, length-replicate, get_or-replicate, get_or-append, get_or-eq_default}
use lib.Seq.{length-take-le, get_or-take, take_all}
use borrow.Author.Tests.{leb-true, ltb-true, ltb-false}
use Rattle.rules.specs.Lists.{mem, every, up_to, sum, padded, laid_over, In}
use Rattle.rules.specs.Cells.{is_height, empty, filled, stage_size}
use Rattle.rules.specs.Graph.{Node, leaf, pin_of, inversion_of, literal_of, graph_of, pin_count}
use Rattle.rules.specs.Records.{Group, output, flip_flop, memory, staged_pin, groups_of}
use Rattle.rules.specs.Fold.{is_leaf, as_number}
use Rattle.rules.specs.Build.{Stage, cells_of, words_of, counts_of}
use Rattle.rules.specs.Coded.{cell_pin}
use Rattle.rules.proofs.Lists.Members.{split, and_true, true_false, every_in, keep_in, in_get_or, in_append, in_append_left}
use Rattle.rules.proofs.Stage.Staged.{two_step}
use Rattle.graph.proofs.Gates.{graph_length}
use Rattle.checks.specs.Passed.{Passed}
use Rattle.checks.proofs.Laws.Passed.{passed}
use Rattle.coded.specs.Inputs.{Input}
use Rattle.replay_form.specs.Clocks.{is_one, ones, leaf_pin, line_leaves, Circuit, Ran, plain_bits, plain_run}
use Rattle.replay_form.specs.Tape.{tape_bits, tape_run}
use Rattle.replay_form.specs.Plans.{written_at}
use Rattle.replay_form.specs.Calls.{once, driven_right}
use Rattle.replay_form.proofs.Lengths.{length_ones, length_end}
use Rattle.replay_form.proofs.Accepted.{cells_sized, accepted_named}
use Rattle.replay_form.proofs.Taped as taped
use Rattle.replay_tape.specs.Clocks.{record_places, places_of, flips_from, read_slot}
use Rattle.replay_tape.proofs.Laws.Circuits.{Resting, read_inside, tape_read}
use Rattle.replay_run.specs.Slots.{written_by}
use Rattle.replay_run.specs.Places.{read_in}
use Rattle.replay_run.specs.Leaves.{mark_or}
use Rattle.replay_run.specs.Lines.{LinesIn, LinesOut, lines_run}
use Rattle.replay_run.proofs.Laws.Slots.{written_is, slot_read}
use Rattle.replay_run.proofs.Laws.Counts.{length_flips, length_places, flips_inside, places_agree}
use Rattle.replay_run.proofs.Laws.Lines.{lines_run_lem}
use Rattle.replay_plan.specs.declared.tape.Lists.{Lists}
use Rattle.replay_plan.specs.Tape.{TapeIn, TapeOut, ListsIn, ListsOut}
use Rattle.replay_plan.specs.Runs.{RunIn, RunOut, circuit}

-- ---- places name slots that are there

-- every place names a slot below s
record Below (s : ℕ) (xs : List ℕ) : Type 0 where
  each : (i : ℕ) → i < length xs → pin_of (get_or xs i 0) < s

module _ (r : ℕ → ℕ) (s : ℕ) (small : (q : ℕ) → r q < s) where
  place_below : (q i : ℕ) → i < 2 → pin_of (literal_of (r q) i) < s
  unfolding pin_of literal_of
  place_below q i h = let e : (2 * r q + i) / 2 ≡ r q = omega arith in rw e (small q)

  literal_below : (l : ℕ) → pin_of (literal_of (r (pin_of l)) (inversion_of l)) < s
  unfolding inversion_of
  literal_below l = place_below (pin_of l) (l % 2) (omega arith)

  below_nil : Below s []
  below_nil = record { each = λ i h. absurd (omega arith) }

  below_cons : (x : ℕ) (xs : List ℕ) → pin_of x < s → Below s xs → Below s (x ∷ xs)
  below_cons x xs h B = record { each = at }
    where
      at : (i : ℕ) → i < suc (length xs) → pin_of (get_or (x ∷ xs) i 0) < s
      at zero b = h
      at (suc i) b = B.each i (omega arith)

  below_append : (xs ys : List ℕ) → Below s xs → Below s ys → Below s (xs ++ ys)
  below_append [] ys A B = B
  below_append (x ∷ xs) ys A B = below_cons x (xs ++ ys) (A.each 0 (omega arith)) (below_append xs ys (record { each = λ i h. A.each (suc i) (omega arith) }) B)

  below_map : (ls : List ℕ) → Below s (map (λ l. literal_of (r (pin_of l)) (inversion_of l)) ls)
  below_map [] = below_nil
  below_map (l ∷ ls) = below_cons _ _ (literal_below l) (below_map ls)

  below_record : (x : Group) → Below s (record_places r x)
  unfolding record_places
  below_record (output l) = below_cons _ _ (literal_below l) below_nil
  below_record (flip_flop e d) = below_cons _ _ (literal_below e) (below_cons _ _ (literal_below d) below_nil)
  below_record (memory ls) = below_map ls
  below_record (staged_pin p) = below_cons _ _ (place_below p 0 (omega arith)) below_nil

  places_below : (gs : List Group) → Below s (places_of r gs)
  unfolding places_of
  places_below [] = below_nil
  places_below (x ∷ gs) = below_append (record_places r x) (places_of r gs) (below_record x) (places_below gs)

counts_many : (ss : List Stage) → length (counts_of ss) ≡ length ss
unfolding counts_of
counts_many [] = refl
counts_many (s ∷ ss) = ap suc (counts_many ss)

counts_sum : (ss : List Stage) → sum (counts_of ss) ≡ length (words_of ss)
unfolding sum counts_of words_of
counts_sum [] = refl
counts_sum (s ∷ ss) = ap (λ (n : ℕ). length s.words + n) (counts_sum ss) ∙ sym (length-append s.words (words_of ss))

mark_small : (b : Bool) → mark_or b 0 ≤ 1
unfolding mark_or
mark_small true = omega arith
mark_small false = omega arith

ones_small : (bs : List ℕ) (i : ℕ) → get_or (ones bs) i 0 ≤ 1
unfolding ones
ones_small [] i = omega arith
ones_small (b ∷ bs) zero = number (is_one b)
  where
    number : (c : Bool) → as_number c ≤ 1
    number c = split c (λ e. rw e (unfold as_number in omega arith)) (λ e. rw e (unfold as_number in omega arith))
ones_small (b ∷ bs) (suc i) = ones_small bs i

module _ (K : ℕ) (gates records driven starting : List ℕ) (lines : ℕ) (recording plan words counts : List ℕ) (total : ℕ) (work tape slots bits out end : List ℕ)
    (A : RunIn K gates records driven starting lines recording plan words counts total work tape slots bits out end) where
  abbrev g : List Node
  g = graph_of gates

  abbrev gs : List Group
  gs = groups_of records

  abbrev I : Input
  I = record { K = K; sized = A.sized; gates = gates; given = []; records = records; passes = A.passes }

  P : Passed K A.sized gates [] records
  P = passed K A.sized gates [] records A.passes

  cells_size : length (cells_of A.ss) ≡ length A.ss * 2 ^ (K + 1)
  cells_size = cells_sized (2 ^ (K + 1)) A.ss A.accepted.sized

  cells : length plan ≡ length A.ss * 2 ^ (K + 1)
  cells = ap length A.cells ∙ cells_size

  high : 2 ^ K ≤ 8192
  high = pow_mono {i = K} {j = 13} (top K P.height)
    where
      top : (k : ℕ) → is_height k ≡ true → k ≤ 13
      top k e = unfold is_height in leb-true k 13 (and_true (leb 6 k) (leb k 13) e).1

  named_in : (p : ℕ) → filled (get_or plan p empty) ≡ true → cell_pin (get_or plan p empty) < length g
  named_in = rw A.cells (accepted_named K gates [] records A.ss A.accepted)

  -- what is asked to make the tape
  pub tape_in : (n : ℕ) → n ≡ pin_count gates → TapeIn K n plan words counts total (take (length plan - 0) slots) (take (n - 0) work) tape
  tape_in n en =
      let w : length (take (length plan - 0) slots) ≡ length plan = length-take-le (length plan - 0) slots (omega (arith, A.slots_room)) ∙ omega arith in
      let c : length counts ≡ length A.ss = ap length A.counted ∙ counts_many A.ss in
      record {
        made = record {
          passed = record { height = P.height; low = pow_pos K; high = high; double = two_step K; whole = rw cells (mul-mod_left (length A.ss) (2 ^ (K + 1))); room = omega arith };
          named = record { small = λ p f. rw (en, ← P.pins) (named_in p f) };
          pins = length-take-le (n - 0) work (omega (arith, A.work_room)) ∙ omega arith;
          few = omega (arith, P.few);
          one = omega (arith, P.some);
          space = A.tape_room;
          fits = omega (arith, A.fits);
        };
        readable = record {
          room = rw c (omega (arith, cells, mul_comm (2 ^ (K + 1)) (length A.ss)));
          slotted = omega arith;
          written = omega (arith, A.all, ap length A.written, length-append (words_of A.ss) A.more);
          counted = A.all ∙ sym (ap sum A.counted ∙ counts_sum A.ss);
        };
      }

  module _ (n : ℕ) (en : n ≡ pin_count gates) (w' l' t' : List ℕ) (e : ℕ) (T : TapeOut K n plan words counts (take (length plan - 0) slots) (take (n - 0) work) tape w' l' t' e) where
    slots_length : length w' ≡ length plan
    slots_length = T.made.wlen ∙ length-take-le (length plan - 0) slots (omega (arith, A.slots_room)) ∙ omega arith

    looks_length : length l' ≡ pin_count gates
    looks_length = T.llen ∙ length-take-le (n - 0) work (omega (arith, A.work_room)) ∙ omega arith

    -- the slot that a pin is read from
    abbrev read : ℕ → ℕ
    read q = read_slot (take (length plan) w') (written_at (stage_size K) 0 q A.ss)

    inside : (q : ℕ) → read q < pin_count gates + e
    inside q = omega (arith, read_inside K n plan _ _ tape w' T.between t' e T.made (omega (arith, P.some)) (written_at (stage_size K) 0 q A.ss))

    written : (q : ℕ) → written_by (2 ^ (K + 1)) 0 q plan words counts ≡ written_at (stage_size K) 0 q A.ss
    written q = rw (A.cells, A.written, A.counted, ← append-nil (cells_of A.ss)) (written_is (2 ^ (K + 1)) A.ss A.accepted.sized 0 q [] A.more)

    reads : (q : ℕ) → q < pin_count gates → get_or l' q 0 ≡ read q
    reads q h = T.reads q (omega arith) ∙ slot_read w' _ ∙ ap₂ read_slot (sym (take_all (length plan) w' (omega (arith, slots_length)))) (written q)

    entries_few : 2 * e ≤ length plan
    entries_few = T.made.count

    abbrev work1 : List ℕ
    work1 = l' ++ drop (n - 0) work

    abbrev slots1 : List ℕ
    slots1 = w' ++ drop (length plan - 0) slots

    work1_length : length work1 ≡ length work
    work1_length = length-append l' (drop (n - 0) work) ∙ omega (arith, looks_length, length-drop (n - 0) work, A.work_room)

    slots1_length : length slots1 ≡ length slots
    slots1_length = length-append w' (drop (length plan - 0) slots) ∙ omega (arith, slots_length, length-drop (length plan - 0) slots, A.slots_room)

    -- what is asked to make the lists
    pub lists_in : (b : List ℕ) → b ≡ replicate (length bits) 0 → ListsIn gates records work1 slots1 b
    lists_in b eb = record {
      few = P.few;
      readable = P.readable;
      short = P.short;
      named = P.named;
      small = λ q h. rw (get_or-append l' (drop (n - 0) work) 0 q (omega (arith, looks_length)), reads q h)
          (omega (arith, inside q, entries_few, P.few, (tape_in n en).made.fits));
      work = omega (arith, work1_length, A.work_room);
      slots = omega (arith, slots1_length, A.slots_room);
      marks = rw (eb, length-replicate {A = ℕ} (length bits) 0) (omega (arith, A.bits_room));
      none = λ p. rw eb (split (ltb p (length bits))
          (λ t. get_or-replicate (length bits) p 0 0 (ltb-true p (length bits) t))
          (λ t. get_or-eq_default (replicate (length bits) 0) 0 {n = p} (rw (length-replicate {A = ℕ} (length bits) 0) (ltb-false p (length bits) t))));
    }

    module _ (b : List ℕ) (eb : b ≡ replicate (length bits) 0) (work2 slots2 bits2 : List ℕ) (r : Lists) (Q : ListsOut gates records driven work1 slots1 b work2 slots2 bits2 r) where
      read_here : (q : ℕ) → q < pin_count gates → read_in (take (pin_count gates) work1) q ≡ read q
      read_here q h = get_or-take (pin_count gates) work1 q 0 h ∙ get_or-append l' (drop (n - 0) work) 0 q (omega (arith, looks_length)) ∙ reads q h

      places_are : take (r.places - 0) slots2 ≡ places_of read gs
      places_are = let z : r.places - 0 ≡ r.places = omega arith in rw z (Q.places ∙ places_agree _ _ gs (λ q i. read_here q (P.named q i)))

      leaves_are : take (r.leaves - 0) work2 ≡ line_leaves g driven
      leaves_are = let z : r.leaves - 0 ≡ r.leaves = omega arith in rw z Q.leaves

      flips_are : (last : ℕ) → last ≡ n + r.flips → take (last - n) (drop n work2) ≡ flips_from 0 gs
      flips_are last el = let z : last - n ≡ r.flips = omega arith in rw (z, en) Q.flips

      b_length : length b ≡ length bits
      b_length = ap length eb ∙ length-replicate {A = ℕ} (length bits) 0

      bits_length : length bits2 ≡ length bits
      bits_length = Q.marks.len ∙ b_length

      marked : (p : ℕ) → p < length g → get_or bits2 p 0 ≡ mark_or (mem p driven) 0
      marked p h = Q.marks.each p (omega (arith, b_length, P.pins, A.bits_room)) ∙ ap (mark_or (mem p driven)) ((lists_in b eb).none p)

      -- leaves are pins of the graph, and not pin 0
      leaf_inside : (p : ℕ) → leaf_pin g p ≡ true → (0 < p) × (p < length g)
      unfolding leaf_pin
      leaf_inside p e =
          let t = and_true (ltb 0 p) (ltb p (length g)) (and_true (ltb 0 p && ltb p (length g)) (is_leaf (get_or g p leaf)) e).0 in
          (ltb-true 0 p t.0, ltb-true p (length g) t.1)

      driven_leaf : (p : ℕ) → In p driven → leaf_pin g p ≡ true
      unfolding driven_right
      driven_leaf p i = every_in (leaf_pin g) p driven (and_true (every (leaf_pin g) driven) (once driven) A.drives).0 i

      line_leaf_lem : (p : ℕ) → In p (line_leaves g driven) → leaf_pin g p ≡ true
      unfolding line_leaves
      line_leaf_lem p i = (and_true (leaf_pin g p) (not (mem p driven)) (keep_in (λ q. leaf_pin g q && not (mem q driven)) p (up_to (length g) 0) i).1).0

      both_leaf : (p : ℕ) → In p (driven ++ line_leaves g driven) → leaf_pin g p ≡ true
      both_leaf p i = ⊎_elim (driven_leaf p) (line_leaf_lem p) (in_append p driven (line_leaves g driven) i)

      resting : Resting g driven bits2
      unfolding mark_or
      resting = record {
        one = omega (arith, P.pins, P.some);
        room = omega (arith, bits_length, P.pins, A.bits_room);
        none = split (mem 0 (driven ++ line_leaves g driven)) (λ e. absurd (omega (arith, (leaf_inside 0 (both_leaf 0 e)).0))) (λ e. e);
        rest = λ p h o. marked p h ∙ split (mem p driven) (λ e. true_false (in_append_left p driven (line_leaves g driven) e) o) (λ e. rw e);
      }

      abbrev C : Circuit
      C = circuit gates records driven

      flops : length (flips_from 0 gs) ≡ length driven
      flops = length_flips 0 gs ∙ sym A.flops

      plan_padded : plan ≡ padded (length plan) empty (cells_of A.ss)
      unfolding padded
      plan_padded = let z : length plan - length (cells_of A.ss) ≡ 0 = omega (arith, ap length A.cells) in rw z (A.cells ∙ sym (append-nil (cells_of A.ss)))

      tape_plain : tape_run K (length g) (length plan) A.ss C lines recording starting ≡ plain_run C lines recording starting
      tape_plain = taped.tape_plain I refl driven lines recording starting A.ss A.accepted (length plan) (omega (arith, ap length A.cells))

      ran : lines_run t' (places_of read gs) (flips_from 0 gs) driven (line_leaves g driven) n e lines recording bits2 (ones starting) ≡ plain_run C lines recording starting
      unfolding tape_run
      ran =
          let z : length g ≡ n = graph_length gates ∙ sym en in
          rw (← z) (lines_run_lem C (tape_bits K n (length plan) A.ss) t' e read (λ q. omega (arith, inside q, graph_length gates))
          (λ bs one zero q. tape_read K n plan _ _ tape w' T.between t' e T.made A.ss plan_padded bs one zero q)
          flops lines recording bits2 (ones starting) (length_ones starting ∙ A.starts ∙ sym A.flops) (ones_small starting) resting ∙ ap (λ (m : ℕ). tape_run K m (length plan) A.ss C lines recording starting) (sym z) ∙ tape_plain)

      -- the areas keep their lengths
      pub work_kept : length work2 ≡ length work
      work_kept = Q.wlen ∙ work1_length

      -- so do the slots
      pub slots_kept : length slots2 ≡ length slots
      slots_kept = Q.slen ∙ slots1_length

      -- and the bits
      pub bits_kept : length bits2 ≡ length bits
      bits_kept = bits_length

      -- places, leaves and indexes stand in their areas
      pub places_fit : r.places ≤ length slots2
      places_fit = omega (arith, Q.places_few, slots_kept, A.slots_room)

      -- the leaves
      pub leaves_fit : r.leaves ≤ length work2
      leaves_fit = omega (arith, Q.leaves_few, work_kept, A.work_room)

      -- the indexes
      pub flips_fit : n + r.flips ≤ length work2
      flips_fit = omega (arith, Q.flips_few, work_kept, A.work_room)

      -- as numbers they are small
      pub flips_small : n + r.flips ≤ 131072
      flips_small = omega (arith, Q.flips_few, P.few, P.short)

      -- what is asked to run the lines
      pub lines_in : (last : ℕ) → last ≡ n + r.flips → (st : List ℕ) → st ≡ ones starting →
          LinesIn t' (take (r.places - 0) slots2) (take (last - n) (drop n work2)) driven (take (r.leaves - 0) work2) recording bits2 st out n e lines
      lines_in last el st es = rw (places_are, flips_are last el, leaves_are, es) (record {
        run = record {
          there = omega (arith, entries_few, T.made.tlen, A.tape_room);
          room = omega (arith, entries_few, bits_length, A.bits_room);
          below = T.made.below;
          bit = λ s h. rw (marked s (omega (arith, P.pins))) (mark_small (mem s driven));
        };
        drives = omega (arith, length_ones starting, A.starts, A.flops);
        driven_in = λ i h. omega (arith, (leaf_inside (get_or driven i 0) (driven_leaf (get_or driven i 0) (in_get_or driven i 0 h))).1, P.pins, bits_length, A.bits_room);
        leaves_in = λ i h. omega (arith, (leaf_inside (get_or (line_leaves g driven) i 0) (line_leaf_lem (get_or (line_leaves g driven) i 0) (in_get_or (line_leaves g driven) i 0 h))).1, P.pins, bits_length, A.bits_room);
        named = (places_below read (n + e) (λ q. omega (arith, inside q)) gs).each;
        flops = length_ones starting ∙ A.starts ∙ sym (length_flips 0 gs);
        flips_in = λ i h. omega (arith, flips_inside 0 gs i h, length_places read gs);
        recorded = omega (arith, A.recorded);
        room = rw (length_places read gs) A.out_room;
      })

      -- and what they leave
      pub run_out : (last : ℕ) → last ≡ n + r.flips → (st : List ℕ) → st ≡ ones starting → (bits3 st' out' : List ℕ) →
          LinesOut t' (take (r.places - 0) slots2) (take (last - n) (drop n work2)) driven (take (r.leaves - 0) work2) recording bits2 st out n e lines bits3 st' out' →
          RunOut gates records driven starting lines recording work tape slots bits out work2 t' slots2 bits3 out' st'
      run_out last el st es bits3 st' out' R =
          let M : LinesOut t' (places_of read gs) (flips_from 0 gs) driven (line_leaves g driven) recording bits2 (ones starting) out n e lines bits3 st' out' = rw (places_are, flips_are last el, leaves_are, es) at R in
          record {
            work_kept = work_kept;
            tape_kept = T.made.tlen;
            slots_kept = slots_kept;
            bits_kept = M.slots ∙ bits_length;
            hands = M.hands ∙ ap (λ (x : Ran). laid_over x.out out) ran;
            ends = M.end ∙ ap (λ (x : Ran). x.end) ran;
          }

      -- a bit for each flip-flop
      pub end_kept : (bits3 st' out' : List ℕ) → RunOut gates records driven starting lines recording work tape slots bits out work2 t' slots2 bits3 out' st' → length st' ≡ length end
      unfolding plain_run
      end_kept bits3 st' out' R = ap length R.ends ∙ length_end C (plain_bits g) lines recording (ones starting) (length_ones starting ∙ A.starts) ∙ sym A.end_room
