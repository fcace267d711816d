-- A job that no check refuses, and a plan without a fault: the parts that the run is lent, and what it leaves. Assumes nothing.
use Prim.Native.Nat.{ℕ, zero, suc, ◌+◌, ◌-◌, ◌*◌, ◌/◌, ◌^◌, ◌≤◌}
use mathlib.Core.Path.{◌≡◌, refl, sym, ◌∙◌, ap}
use mathlib.Core.Bool.{true, ◌&&◌}
use mathlib.Core.List.{List, [], ◌++◌}
use native.Mathlib.Omega.{arith}
use lib.Dec.{leb}
use lib.ListN.{length, take, drop, replicate, take-append-drop}
use lib.Seq.{length-take-le}
use borrow.Author.Tests.{leb-true}
use Rattle.rules.specs.Lists.{sum, laid_over}
use Rattle.rules.specs.Cells.{is_height, empty, word_limit, rooms}
use Rattle.rules.specs.Graph.{graph_of, pin_count}
use Rattle.rules.specs.Records.{groups_of}
use Rattle.rules.specs.Reservation.{reserved}
use Rattle.rules.specs.Checks.{plan_sized, refusal_of}
use Rattle.rules.specs.Build.{Stage, cells_of, words_of}
use Rattle.rules.specs.Faults.{faultless, first_may, fault_from, cut, fault}
use Rattle.rules.proofs.Lists.Members.{and_true, true_false}
use Rattle.rules.proofs.Lists.Parts.{part_laid}
use Rattle.checks.specs.Passed.{Passed}
use Rattle.checks.proofs.Laws.Passed as checks
use Rattle.cells.specs.Answers.{or_zero}
use Rattle.fold.proofs.Laws.Stages.{size_there}
use Rattle.placer.proofs.Laws.Course.{limit_small}
use Rattle.coded.specs.Inputs.{Input}
use Rattle.coded.proofs.Reading.{accepted_parts}
use Rattle.replay_form.specs.Clocks.{Ran, ones, line_leaves, bits_out, flip_flops, plain_bits, plain_run}
use Rattle.replay_form.specs.Accepted.{Accepted}
use Rattle.replay_form.specs.Calls as form
use Rattle.replay_form.specs.Calls.{slots_size, bits_size, out_right}
use Rattle.replay_form.proofs.Lengths.{length_ones, length_end}
use Rattle.replay_form.proofs.Accepted.{cut_accepted}
use Rattle.replay_form.proofs.Cut.{words_few, cut_cells, cut_counts, cut_many, cut_words, words_there}
use Rattle.replay_form.proofs.Calls as calls
use Rattle.replay_plan.specs.Runs.{circuit}
use Rattle.replay.specs.Answers.{job, FinishIn, Finished}
use Rattle.replay.specs.Sizes.{lists_sized}
use Rattle.replay.proofs.Laws.Built.{free}
use Rattle.replay.proofs.Laws.Finish.{cleared}
use Rattle.plan_check.specs.Answers.{plan_fits}
use Rattle.replay_finished.specs.Calls.{Plan, Lent, used, places_size, slots_fit, finished_sized, finished_right, finished_refusal, stages_in, finished_run, ran_lent}
use Rattle.replay_finished.specs.Answers.{handed, lent, AcceptedIn}
use Rattle.replay_finished.proofs.Laws.Sizes.{stages_there}

-- none of 1 to 5, 23 and 17 to 20 applies
pub passed : (J : form.Job) (p : Plan) (a : Lent) → finished_refusal J p a ≡ 0 → (refusal_of J.height (finished_right J p a) J.gates J.given J.records ≡ 0)
    × calls.Later J.gates J.given J.records J.driven (length J.starting) J.lines (length J.recording) (length a.out) (length a.end)
unfolding finished_refusal
passed J p a e = number (refusal_of J.height (finished_right J p a) J.gates J.given J.records) refl
  where
    number : (n : ℕ) → refusal_of J.height (finished_right J p a) J.gates J.given J.records ≡ n → (refusal_of J.height (finished_right J p a) J.gates J.given J.records ≡ 0)
        × calls.Later J.gates J.given J.records J.driven (length J.starting) J.lines (length J.recording) (length a.out) (length a.end)
    number zero d = (d, calls.later _ _ _ _ _ _ _ _ _ (rw (d, finished_refusal) at e))
    number (suc n) d = absurd (let z : suc n ≡ 0 = rw (d, finished_refusal) at e in omega arith)

-- the plan area has its stages
pub stages_in_lem : (J : form.Job) (p : Plan) (a : Lent) → finished_refusal J p a ≡ 0 → p.stages ≤ rooms J.height (length p.plan)
unfolding finished_right finished_sized plan_fits
stages_in_lem J p a e =
    let K = J.height in
    let P = checks.passed K (finished_right J p a) J.gates J.given J.records (passed J p a e).0 in
    let fits = (and_true (plan_fits K (length p.plan) (length p.counts) p.stages) _ (and_true _ _ P.areas).0).0 in
    let x = and_true (plan_sized K (length p.plan) && leb p.stages (rooms K (length p.plan))) (leb p.stages (length p.counts)) fits in
    leb-true _ _ (and_true (plan_sized K (length p.plan)) (leb p.stages (rooms K (length p.plan))) x.0).1

module _ (K : ℕ) (gates given records driven starting : List ℕ) (lines : ℕ) (recording plan words counts : List ℕ) (n : ℕ) (work tape slots bits out end : List ℕ)
    (A : AcceptedIn K gates given records driven starting lines recording plan words counts n work tape slots bits out end) where
  abbrev J : form.Job
  J = record { height = K; gates = gates; given = given; records = records; driven = driven; starting = starting; lines = lines; recording = recording }

  abbrev p : Plan
  p = record { plan = plan; words = words; counts = counts; stages = n }

  abbrev a : Lent
  a = record { work = work; tape = tape; slots = slots; bits = bits; out = out; end = end }

  both : (refusal_of K (finished_right J p a) gates given records ≡ 0) × calls.Later gates given records driven (length starting) lines (length recording) (length out) (length end)
  unfolding job handed lent
  both = passed J p a A.passes

  P : Passed K (finished_right J p a) gates given records
  P = checks.passed K (finished_right J p a) gates given records both.0

  given_none : given ≡ []
  given_none = calls.given_nil given records both.1.plain

  abbrev size : ℕ
  size = n * 2 ^ (K + 1)

  record Sizes : Type 0 where
    fits : plan_fits K (length plan) (length counts) n ≡ true
    literals : 2 * pin_count gates + size ≤ 4294967296
    work_room : pin_count gates + length records ≤ length work
    tape_room : size ≤ length tape
    slots_room : size + length records ≤ length slots
    bits_room : pin_count gates + size / 2 ≤ length bits

  sizes : Sizes
  unfolding finished_right finished_sized slots_fit lists_sized places_size slots_size bits_size used
  sizes =
      let F = plan_fits K (length plan) (length counts) n in
      let x = and_true (F && (leb (2 * pin_count gates + size) 4294967296 && leb (pin_count gates + length records) (length work))) _ P.areas in
      let y = and_true F _ x.0 in
      let z = and_true (leb (2 * pin_count gates + size) 4294967296) _ y.1 in
      let v = and_true (leb size (length tape) && leb (size + length records) (length slots)) _ x.1 in
      let u = and_true (leb size (length tape)) _ v.0 in
      record { fits = y.0; literals = leb-true _ _ z.0; work_room = leb-true _ _ z.1; tape_room = leb-true _ _ u.0; slots_room = leb-true _ _ u.1; bits_room = leb-true _ _ v.1 }

  there : (size ≤ length plan) × (n ≤ length counts)
  there = stages_there K (length plan) (length counts) n sizes.fits

  lengths : (length driven ≡ flip_flops (groups_of records)) × (length starting ≡ flip_flops (groups_of records)) × (length recording ≡ lines * length (line_leaves (graph_of gates) driven))
  lengths = calls.lengths_are _ _ _ _ _ _ both.1.lengths

  room : (lines * bits_out (groups_of records) ≤ length out) × (flip_flops (groups_of records) ≤ length end)
  unfolding out_right
  room = let t = and_true (leb (lines * bits_out (groups_of records)) (length out)) (leb (flip_flops (groups_of records)) (length end)) both.1.room in (leb-true _ _ t.0, leb-true _ _ t.1)

  abbrev I : Input
  I = record { K = K; sized = finished_right J p a; gates = gates; given = given; records = records; passes = both.0 }

  abbrev ss : List Stage
  ss = cut n K plan words counts

  area : n ≤ rooms K (length plan)
  unfolding job handed lent
  area = stages_in_lem J p a A.passes

  accepted : Accepted K gates given records ss
  accepted = cut_accepted I plan words counts n area A.right

  stages_right : fault_from K (graph_of gates) given (first_may (graph_of gates) given) (word_limit K - reserved (groups_of records)) 1 ss ≡ faultless
  unfolding fault
  stages_right = (accepted_parts K (graph_of gates) given (groups_of records) ss A.right).0

  few_words : (word_limit K ≤ 256) × (word_limit K ≤ empty)
  unfolding word_limit is_height empty
  few_words = let b = limit_small K (leb-true K 13 (and_true (leb 6 K) (leb K 13) P.height).1) in (b, omega arith)

  -- the words that the counts say are there, and few
  pub words_are : (sum (take n counts) ≤ length words) × (sum (take n counts) ≤ 256)
  words_are = (
    words_there K few_words.1 (graph_of gates) given (first_may (graph_of gates) given) (word_limit K - reserved (groups_of records)) 1 n plan words counts there.1 stages_right,
    omega (arith, cut_many K n plan words counts there.1, words_few K (graph_of gates) given (first_may (graph_of gates) given) (word_limit K - reserved (groups_of records)) 1 ss stages_right, few_words.0),
  )

  -- so their sum is taken without overflow
  pub total_fits : sum (take (n - 0) counts) ≤ 4294967295
  total_fits = let z : n - 0 ≡ n = omega arith in rw z (omega (arith, words_are.1))

  -- the sizes that the call computes
  pub record Parts (pins u : ℕ) : Type 0 where
    pub pins_are : pins ≡ pin_count gates
    pub used_is : u ≡ n * 2 ^ (K + 1)
    pub pins_few : pins ≤ 65536
    pub records_few : length records ≤ 65536
    pub used_few : u ≤ 4294967296
    pub plan_part : u ≤ length plan
    pub counts_part : n ≤ length counts
    pub work_part : pins + length records ≤ length work
    pub tape_part : u ≤ length tape
    pub slots_part : u + length records ≤ length slots
    pub bits_part : pins + u / 2 ≤ length bits
    pub end_part : length starting ≤ length end

  -- stand in their areas
  pub parts : (pins s u : ℕ) → pins ≡ pin_count gates → s ≡ or_zero (is_height K) (2 ^ (K + 1)) → u ≡ n * s → Parts pins u
  parts pins s u ep es eu =
      let e : u ≡ size = eu ∙ ap (λ (x : ℕ). n * x) (size_there K s P.height es) in
      record {
        pins_are = ep;
        used_is = e;
        pins_few = omega (arith, P.few);
        records_few = P.short;
        used_few = omega (arith, sizes.literals);
        plan_part = omega (arith, there.0);
        counts_part = there.1;
        work_part = rw ep sizes.work_room;
        tape_part = rw e sizes.tape_room;
        slots_part = rw e sizes.slots_room;
        bits_part = rw (ep, e) sizes.bits_room;
        end_part = omega (arith, lengths.1, room.1);
      }

  module _ (m u c h l f : ℕ) (Q : Parts m u) (ec : c ≡ m + length records) (eh : h ≡ u + length records) (el : l ≡ m + u / 2) (ef : f ≡ length starting) where
    work_length : length (take (c - 0) work) ≡ pin_count gates + length records
    work_length = length-take-le (c - 0) work (omega (arith, Q.work_part)) ∙ omega (arith, Q.pins_are)

    tape_length : length (take (u - 0) tape) ≡ size
    tape_length = length-take-le (u - 0) tape (omega (arith, Q.tape_part)) ∙ omega (arith, Q.used_is)

    slots_length : length (take (h - 0) slots) ≡ size + length records
    slots_length = length-take-le (h - 0) slots (omega (arith, Q.slots_part)) ∙ omega (arith, Q.used_is)

    bits_length : length (take (l - 0) bits) ≡ pin_count gates + size / 2
    bits_length = let e : l ≡ pin_count gates + size / 2 = rw (el, Q.pins_are, Q.used_is) in length-take-le (l - 0) bits (omega (arith, Q.bits_part)) ∙ omega arith

    end_length : length (take (f - 0) end) ≡ flip_flops (groups_of records)
    end_length = length-take-le (f - 0) end (omega (arith, Q.end_part)) ∙ omega (arith, lengths.1)

    cells_are : take (u - 0) plan ≡ cells_of ss
    cells_are = let e : u - 0 ≡ size = omega (arith, Q.used_is) in ap (λ (i : ℕ). take i plan) e ∙ sym (cut_cells K n plan words counts)

    cells_many : length (take (u - 0) plan) ≡ size
    cells_many = length-take-le (u - 0) plan (omega (arith, Q.plan_part)) ∙ omega (arith, Q.used_is)

    -- the run may begin
    pub finish_in : (all : ℕ) → all ≡ sum (take (n - 0) counts) → FinishIn true K gates records driven starting lines recording (take (u - 0) plan) words (take (n - 0) counts) all (take (c - 0) work) (take (u - 0) tape) (take (h - 0) slots) (take (l - 0) bits) out (take (f - 0) end)
    finish_in all ea =
        let z : n - 0 ≡ n = omega arith in
        let w : words_of ss ≡ take (sum (take n counts)) words = cut_words K n plan words counts there.1 words_are.0 in
        record {
          run = λ d. record {
            ss = ss;
            sized = finished_right J p a;
            passes = ap (λ (x : List ℕ). refusal_of K (finished_right J p a) gates x records) (sym given_none) ∙ both.0;
            accepted = free K gates given records ss given_none accepted;
            cells = cells_are;
            fits = rw cells_many sizes.literals;
            more = drop (sum (take n counts)) words;
            written = sym (ap (λ (x : List ℕ). x ++ drop (sum (take n counts)) words) w ∙ take-append-drop (sum (take n counts)) words);
            counted = rw z (sym (cut_counts K n plan words counts there.1));
            all = ea ∙ rw z (sym (cut_many K n plan words counts there.1));
            drives = both.1.drives;
            flops = lengths.0;
            starts = lengths.1;
            recorded = lengths.2;
            out_room = room.0;
            end_room = end_length;
            work_room = omega (arith, work_length);
            tape_room = omega (arith, tape_length, cells_many);
            slots_room = omega (arith, slots_length, cells_many);
            bits_room = rw (cells_many, bits_length) (omega arith);
          };
          clear = λ d. true_false refl d;
        }

    module _ (w t q v o e : List ℕ) (F : Finished true gates records driven starting lines recording (take (c - 0) work) (take (u - 0) tape) (take (h - 0) slots) (take (l - 0) bits) out (take (f - 0) end) w t q v o e) where
      plain : finished_run J p ≡ plain_run (circuit gates records driven) lines recording starting
      unfolding finished_run stages_in form.ran_of form.circuit_of
      plain = calls.faultless_plain I given_none driven lines recording starting plan words counts n area A.right

      work_is : w ++ drop (c - 0) work ≡ laid_over (replicate (places_size gates records) 0) work
      unfolding places_size
      work_is = cleared (c - 0) (pin_count gates + length records) work w (omega (arith, Q.work_part)) work_length F.work_cleared

      tape_is : t ++ drop (u - 0) tape ≡ laid_over (replicate (used K n) 0) tape
      unfolding used
      tape_is = cleared (u - 0) size tape t (omega (arith, Q.tape_part)) tape_length F.tape_cleared

      slots_is : q ++ drop (h - 0) slots ≡ laid_over (replicate (slots_size records (used K n)) 0) slots
      unfolding used slots_size
      slots_is = cleared (h - 0) (size + length records) slots q (omega (arith, Q.slots_part)) slots_length F.slots_cleared

      bits_is : v ++ drop (l - 0) bits ≡ laid_over (replicate (bits_size gates (used K n)) 0) bits
      unfolding used bits_size
      bits_is = cleared (l - 0) (pin_count gates + size / 2) bits v (omega (arith, Q.bits_part)) bits_length F.bits_cleared

      out_is : o ≡ laid_over (finished_run J p).out out
      out_is = F.out_bits refl ∙ ap (λ (y : Ran). laid_over y.out out) (sym plain)

      end_is : e ++ drop (f - 0) end ≡ laid_over (finished_run J p).end end
      unfolding plain_run
      end_is =
          let y = F.end_bits refl in
          let k : length e ≡ length (take (f - 0) end) = ap length y ∙ length_end (circuit gates records driven) (plain_bits (graph_of gates)) lines recording (ones starting) (length_ones starting ∙ lengths.1) ∙ sym end_length in
          part_laid (f - 0) end e (omega (arith, Q.end_part)) k ∙ ap (λ (x : List ℕ). laid_over x end) y ∙ ap (λ (x : Ran). laid_over x.end end) (sym plain)

      -- the areas are those of the definition
      pub lent_ran : lent (w ++ drop (c - 0) work) (t ++ drop (u - 0) tape) (q ++ drop (h - 0) slots) (v ++ drop (l - 0) bits) o (e ++ drop (f - 0) end)
          ≡ ran_lent (job K gates given records driven starting lines recording) (handed plan words counts n) (lent work tape slots bits out end)
      unfolding job handed lent ran_lent
      lent_ran = (λ i. record { work = work_is i; tape = tape_is i; slots = slots_is i; bits = bits_is i; out = out_is i; end = end_is i })
