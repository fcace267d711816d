-- A job that no check refuses, its build, and what follows it. Assumes nothing.
use Prim.Native.Nat.{ℕ, ◌+◌, ◌-◌, ◌*◌, ◌/◌, ◌^◌, ◌≤◌}
use mathlib.Core.Path.{◌≡◌, refl, sym, ◌∙◌, ap, ap₂}
use mathlib.Core.Bool.{Bool, true, false, ◌&&◌}
use mathlib.Core.Logic.{◌≢◌}
use mathlib.Core.List.{List, [], ◌++◌, append_assoc}
use native.Mathlib.Omega.{arith}
use native.Mathlib.Nat.{mul-le-mul_right}
use lib.Dec.{leb}
use lib.Pow.{pow_mono}
use lib.ListN.{length, take, drop, replicate, length-append, length-drop, length-replicate, take-append-drop}
use lib.Seq.{take_at, length-take-le}
use borrow.Author.Tests.{leb-true}
use Rattle.rules.specs.Lists.{padded, laid_over}
use Rattle.rules.specs.Cells.{is_height, empty, word_limit, rooms}
use Rattle.rules.specs.Graph.{graph_of, pin_count}
use Rattle.rules.specs.Records.{groups_of}
use Rattle.rules.specs.Traversal.{needed_runs}
use Rattle.rules.specs.Checks.{plan_sized, work_size, areas_sized, refusal_of}
use Rattle.rules.specs.Build as rules
use Rattle.rules.proofs.Lists.Members.{and_true}
use Rattle.rules.proofs.Lists.Parts.{part_laid}
use Rattle.rules.proofs.Stage.Staged.{two_step}
use Rattle.rules.proofs.Stage.Refusals.{refused_some}
use Rattle.rules.proofs.Build.Lengths.{length_padded}
use Rattle.rules.proofs.Build.Bounds.{Few}
use Rattle.rules.proofs.Build.Coding.{stages_coded, words_coded, counts_coded}
use Rattle.rules.proofs.Demand.{whole_sizes, build_few}
use Rattle.checks.specs.Passed.{Passed}
use Rattle.checks.proofs.Laws.Passed.{passed}
use Rattle.cells.specs.Answers.{or_zero}
use Rattle.fold.proofs.Laws.Stages.{size_there}
use Rattle.std.specs.Prelude.{Result, Ok, Err, is_ok}
use Rattle.refusals.proofs.Numbers.{number_is}
use Rattle.placer.specs.declared.Built.{Built}
use Rattle.placer.specs.declared.Refused.{Refused}
use Rattle.placer.specs.Answers.{told, areas}
use Rattle.placer.specs.Answers as placer
use Rattle.coded.specs.Inputs.{Input}
use Rattle.coded.proofs.Passing.{tall, valid, small, named}
use Rattle.replay_form.specs.Clocks.{Ran, Circuit, ones, line_leaves, bits_out, flip_flops, plain_bits, plain_run}
use Rattle.replay_form.proofs.Lengths.{length_ones, length_end}
use Rattle.replay_form.specs.Accepted.{Accepted}
use Rattle.replay_form.proofs.Accepted.{cells_sized, coded_accepted, coded_fits}
use Rattle.replay_form.specs.Calls as form
use Rattle.replay_form.specs.Calls.{replay_sized, slots_size, bits_size, out_right}
use Rattle.replay_form.proofs.Calls as calls
use Rattle.replay_plan.specs.Runs.{RunIn, circuit}
use Rattle.replay.specs.Answers.{job, lent, outcome, FinishIn, Finished, BuiltIn}
use Rattle.replay.proofs.Laws.Finish.{cleared}

high_at : (K : ℕ) → is_height K ≡ true → 2 ^ K ≤ 8192
unfolding is_height
high_at K e = pow_mono {i = K} {j = 13} (leb-true K 13 (and_true (leb 6 K) (leb K 13) e).1)

-- a whole plan is told with 0
ok_zero : (r : Result Built Refused) → is_ok r ≡ true → (told r).number ≡ 0
unfolding told
ok_zero (Ok x) e = refl
ok_zero (Err x) e = absurd (cc)

-- and nothing else is
zero_ok : (r : Result Built Refused) → (told r).number ≡ 0 → is_ok r ≡ true
unfolding told
zero_ok (Ok x) e = refl
zero_ok (Err x) e = absurd (number_is x.why e)

some_err : (r : Result Built Refused) → (told r).number ≢ 0 → is_ok r ≡ false
unfolding told
some_err (Ok x) n = absurd (n refl)
some_err (Err x) n = refl

-- with no given pin
pub free : (K : ℕ) (gates given records : List ℕ) (ss : List rules.Stage) → given ≡ [] → Accepted K gates given records ss → Accepted K gates [] records ss
free K gates given records ss e A = rw e at A

module _ (K : ℕ) (gates given records driven starting : List ℕ) (lines : ℕ) (recording plan words counts work tape slots bits out end : List ℕ)
    (A : BuiltIn K gates given records driven starting lines recording plan words counts work tape slots bits out end) where
  abbrev J : form.Job
  J = record { height = K; gates = gates; given = given; records = records; driven = driven; starting = starting; lines = lines; recording = recording }

  abbrev a : form.Lent
  a = record { build = record { plan = plan; words = words; counts = counts; work = work }; tape = tape; slots = slots; bits = bits; out = out; end = end }

  passes : form.replay_refusal J a ≡ 0
  unfolding job lent areas
  passes = A.passes

  both : (refusal_of K (form.areas_right J a) gates given records ≡ 0) × calls.LaterOf J a
  both = calls.passed J a passes

  P : Passed K (form.areas_right J a) gates given records
  P = passed K (form.areas_right J a) gates given records both.0

  given_none : given ≡ []
  given_none = calls.given_nil given records both.1.plain

  record Sizes : Type 0 where
    sized : areas_sized K (work_size gates records) (length plan) (length words) (length counts) (length work) ≡ true
    tape_room : length plan ≤ length tape
    slots_room : length plan + length records ≤ length slots
    bits_room : pin_count gates + length plan / 2 ≤ length bits

  sizes : Sizes
  unfolding form.areas_right replay_sized slots_size bits_size
  sizes =
      let L = length plan in
      let S = areas_sized K (work_size gates records) L (length words) (length counts) (length work) in
      let x = and_true (S && leb L (length tape) && leb (L + length records) (length slots)) (leb (pin_count gates + L / 2) (length bits)) P.areas in
      let y = and_true (S && leb L (length tape)) (leb (L + length records) (length slots)) x.0 in
      let z = and_true S (leb L (length tape)) y.0 in
      record { sized = z.0; tape_room = leb-true _ _ z.1; slots_room = leb-true _ _ y.1; bits_room = leb-true _ _ x.1 }

  work_room : work_size gates records ≤ length work
  unfolding areas_sized
  work_room = leb-true _ _ (and_true (plan_sized K (length plan) && leb (word_limit K) (length words) && leb (rooms K (length plan)) (length counts)) (leb (work_size gates records) (length work)) sizes.sized).1

  lengths : (length driven ≡ flip_flops (groups_of records)) × (length starting ≡ flip_flops (groups_of records)) × (length recording ≡ lines * length (line_leaves (graph_of gates) driven))
  lengths = calls.lengths_are _ _ _ _ _ _ both.1.lengths

  room : (lines * bits_out (groups_of records) ≤ length out) × (flip_flops (groups_of records) ≤ length end)
  unfolding out_right
  room = let t = and_true (leb (lines * bits_out (groups_of records)) (length out)) (leb (flip_flops (groups_of records)) (length end)) both.1.room in (leb-true _ _ t.0, leb-true _ _ t.1)

  -- the sizes that the call computes
  pub record Parts (pins : ℕ) : Type 0 where
    pub pins_are : pins ≡ pin_count gates
    pub pins_few : pins ≤ 65536
    pub records_few : length records ≤ 65536
    pub work_part : 16 * pins + 8 * length records + 512 ≤ length work
    pub tape_part : length plan ≤ length tape
    pub slots_part : length plan + length records ≤ length slots
    pub bits_part : pins + length plan / 2 ≤ length bits
    pub end_part : length starting ≤ length end

  -- stand in their areas
  pub parts : (pins : ℕ) → pins ≡ pin_count gates → Parts pins
  unfolding work_size
  parts pins ep = record {
    pins_are = ep;
    pins_few = omega (arith, P.few);
    records_few = P.short;
    work_part = rw ep work_room;
    tape_part = sizes.tape_room;
    slots_part = sizes.slots_room;
    bits_part = rw ep sizes.bits_room;
    end_part = omega (arith, lengths.1, room.1);
  }

  module _ (r : Result Built Refused) (plan1 words1 counts1 work1 : List ℕ) (E : placer.outcome r plan1 words1 counts1 work1 ≡ rules.placer needed_runs K gates given records (areas plan words counts work)) where
    checked0 : refusal_of K (rules.sizes_right K gates records (areas plan words counts work)) gates given records ≡ 0
    unfolding rules.sizes_right areas
    checked0 = ap (λ (b : Bool). refusal_of K b gates given records) (sizes.sized ∙ sym P.areas) ∙ both.0

    abbrev I : Input
    I = record { K = K; sized = form.areas_right J a; gates = gates; given = given; records = records; passes = both.0 }

    abbrev b : rules.Answer
    b = rules.build needed_runs K (graph_of gates) given (groups_of records) (rooms K (length plan))

    -- the stages as they are left: cells
    abbrev S : rules.Answer → List rules.Stage
    S x = rules.coded_stages K (graph_of gates) (rules.stages_of x)

    -- what the build tells, and leaves
    record Told (x : rules.Answer) : Type 0 where
      reply : told r ≡ rules.reply x
      plan_told : plan1 ≡ padded (length plan) empty (rules.cells_of (S x))
      words_told : words1 ≡ laid_over (padded (word_limit K) empty (rules.words_of (S x))) words
      counts_told : counts1 ≡ laid_over (padded (rooms K (length plan)) 0 (rules.counts_of (S x))) counts
      work_told : work1 ≡ laid_over (replicate (work_size gates records) 0) work

    T : Told b
    unfolding placer.outcome areas rules.placer rules.answer_of rules.areas_after
    T =
        let e = rw (checked0, rules.placer) at E in
        record {
          reply = ap (λ (o : rules.Outcome). o.reply) e;
          plan_told = ap (λ (o : rules.Outcome). o.areas.plan) e;
          words_told = ap (λ (o : rules.Outcome). o.areas.words) e;
          counts_told = ap (λ (o : rules.Outcome). o.areas.counts) e;
          work_told = ap (λ (o : rules.Outcome). o.areas.work) e;
        }

    work_after : work1 ≡ laid_over (replicate (work_size gates records) 0) work
    work_after = T.work_told

    number_of_lem : (x : rules.Answer) → b ≡ x → (told r).number ≡ (rules.reply x).number
    unfolding told
    number_of_lem x d = ap (λ (y : rules.Reply). y.number) (rw d at T.reply)

    -- a number of 0 stands for a whole plan
    whole_of : (told r).number ≡ 0 → (ss : List rules.Stage) × (b ≡ rules.whole ss)
    unfolding rules.reply rules.refuse
    whole_of z = cases b refl
      where
        cases : (x : rules.Answer) → b ≡ x → (ss : List rules.Stage) × (b ≡ rules.whole ss)
        cases (rules.refusal n k) d = absurd (refused_some needed_runs K (graph_of gates) given (groups_of records) (rooms K (length plan)) n k d (sym (number_of_lem (rules.refusal n k) d) ∙ z))
        cases (rules.whole ss) d = (ss, d)

    module _ (ss : List rules.Stage) (d : b ≡ rules.whole ss) where
      abbrev cs : List rules.Stage
      cs = rules.coded_stages K (graph_of gates) ss

      accepted : Accepted K gates given records cs
      accepted = coded_accepted needed_runs I (length plan) ss d

      fit : length (rules.cells_of cs) ≤ length plan
      fit = coded_fits needed_runs I (length plan) ss d

      stages_many : length cs ≡ length ss
      stages_many = stages_coded K (graph_of gates) ss

      cells_many : length (rules.cells_of cs) ≡ length ss * 2 ^ (K + 1)
      cells_many = cells_sized (2 ^ (K + 1)) cs accepted.sized ∙ ap (λ (k : ℕ). k * 2 ^ (K + 1)) stages_many

      counts_many : length (rules.counts_of cs) ≡ length ss
      counts_many = ap length (counts_coded K (graph_of gates) ss) ∙ (whole_sizes needed_runs K (graph_of gates) (valid I) (tall I) (small I) given [] (groups_of records) (named I) (rooms K (length plan)) ss d).counts

      -- no more stages than pins, so that every slot's literal fits in 32 bits
      literals_fit : 2 * pin_count gates + length (rules.cells_of cs) ≤ 4294967296
      unfolding rules.reply
      literals_fit =
          let F : Few K (graph_of gates) (rules.whole ss) = rw d at (build_few needed_runs K (graph_of gates) (valid I) (tall I) (small I) given [] (groups_of records) (named I) (rooms K (length plan))) in
          let most : length ss ≤ length (graph_of gates) = F.stages_most in
          let many : length ss * 2 ^ (K + 1) ≤ 65536 * 2 ^ (K + 1) = mul-le-mul_right {m = length ss} {n = 65536} (2 ^ (K + 1)) (omega (arith, P.pins, P.few)) in
          omega (arith, cells_many, P.few, two_step K, high_at K P.height)

    cells_of_lem : (x : rules.Answer) → b ≡ x → length (rules.cells_of (S x)) ≤ length plan
    unfolding rules.stages_of rules.coded_stages rules.cells_of
    cells_of_lem (rules.refusal n k) d = omega arith
    cells_of_lem (rules.whole ss) d = fit ss d

    -- the plan area keeps its length
    pub plan_length : length plan1 ≡ length plan
    plan_length = ap length T.plan_told ∙ length_padded (length plan) empty _ (cells_of_lem b refl)

    -- so does the work area
    pub work_length : length work1 ≡ length work
    unfolding laid_over
    work_length =
        let n = work_size gates records in
        let zs : List ℕ = replicate n 0 in
        let l : length zs ≡ n = length-replicate {A = ℕ} n 0 in
        ap length work_after ∙ length-append zs (drop (length zs) work) ∙ omega (arith, l, length-drop (length zs) work, work_room)

    -- how many stages and words are told
    module _ (g t : ℕ) (eg : g ≡ (told r).stages) (et : t ≡ (told r).words) where
      counts_of_lem : (x : rules.Answer) → b ≡ x → (g * 2 ^ (K + 1) ≤ length plan) × (g ≤ length counts1)
      unfolding told rules.reply rules.refuse rules.stages_of padded laid_over
      counts_of_lem (rules.refusal n k) d =
          let z : g ≡ 0 = eg ∙ ap (λ (q : rules.Reply). q.stages) (rw d at T.reply) in
          (rw z (omega arith), omega arith)
      counts_of_lem (rules.whole ss) d =
          let z : g ≡ length ss = eg ∙ ap (λ (q : rules.Reply). q.stages) (rw d at T.reply) in
          let cs : List ℕ = rules.counts_of (rules.coded_stages K (graph_of gates) ss) in
          let zs : List ℕ = replicate (rooms K (length plan) - length cs) 0 in
          let f : counts1 ≡ (cs ++ zs) ++ drop (length (cs ++ zs)) counts = rw d at T.counts_told in (
            rw z (omega (arith, cells_many ss d, fit ss d)),
            omega (arith, ap length f, length-append (cs ++ zs) (drop (length (cs ++ zs)) counts), length-append cs zs, counts_many ss d),
          )

      -- the stages built are in plan and counts
      pub used_fits : (u s : ℕ) → s ≡ or_zero (is_height K) (2 ^ (K + 1)) → u ≡ g * s → u ≤ length plan1
      used_fits u s es eu = let z = size_there K s P.height es in omega (arith, plan_length, eu ∙ ap (λ (x : ℕ). g * x) z, (counts_of_lem b refl).0)

      -- as a product that fits
      pub used_small : (s : ℕ) → s ≡ or_zero (is_height K) (2 ^ (K + 1)) → g * s ≤ length plan1
      used_small s es = used_fits (g * s) s es refl

      -- a count for each stage
      pub stages_fit : g ≤ length counts1
      stages_fit = (counts_of_lem b refl).1

      module _ (s u m z n h l f : ℕ) (es : s ≡ or_zero (is_height K) (2 ^ (K + 1))) (eu : u ≡ g * s) (em : m ≡ pin_count gates) (ez : z ≡ length plan1) (en : n ≡ 16 * m + 8 * length records + 512)
          (eh : h ≡ z + length records) (el : l ≡ m + z / 2) (ef : f ≡ length starting) (ok : Bool) (eo : ok ≡ is_ok r) where
        need_is : n ≡ work_size gates records
        unfolding work_size
        need_is = rw (← em) en

        front : take (n - 0) work1 ≡ replicate n 0
        unfolding laid_over
        front =
            let zs : List ℕ = replicate n 0 in
            let k : length zs ≡ n - 0 = length-replicate {A = ℕ} n 0 ∙ omega arith in
            ap (take (n - 0)) (rw (← need_is) at work_after) ∙ take_at zs _ (n - 0) k

        tape_length : length (take (z - 0) tape) ≡ length plan
        tape_length = length-take-le (z - 0) tape (omega (arith, plan_length, sizes.tape_room)) ∙ omega (arith, plan_length)

        slots_length : length (take (h - 0) slots) ≡ length plan + length records
        slots_length = length-take-le (h - 0) slots (omega (arith, plan_length, sizes.slots_room)) ∙ omega (arith, plan_length)

        bits_length : length (take (l - 0) bits) ≡ pin_count gates + length plan / 2
        bits_length = let e : l ≡ pin_count gates + length plan / 2 = rw (el, em, ez, plan_length) in length-take-le (l - 0) bits (omega (arith, sizes.bits_room)) ∙ omega arith

        end_length : length (take (f - 0) end) ≡ flip_flops (groups_of records)
        end_length = length-take-le (f - 0) end (omega (arith, lengths.1, room.1)) ∙ omega (arith, lengths.1)

        run_in : ok ≡ true → RunIn K gates records driven starting lines recording (take (u - 0) plan1) words1 (take (g - 0) counts1) t (take (n - 0) work1) (take (z - 0) tape) (take (h - 0) slots) (take (l - 0) bits) out (take (f - 0) end)
        unfolding told rules.reply rules.stages_of padded laid_over
        run_in zero0 =
            let W = whole_of (ok_zero r (sym eo ∙ zero0)) in
            let ss = W.0 in
            let d = W.1 in
            let S = rules.coded_stages K (graph_of gates) ss in
            let N : Told (rules.whole ss) = rw d at T in
            let g0 : g ≡ length ss = eg ∙ ap (λ (q : rules.Reply). q.stages) N.reply in
            let w0 : t ≡ length (rules.words_of ss) = et ∙ ap (λ (q : rules.Reply). q.words) N.reply in
            let k : length (rules.cells_of S) ≡ u - 0 = omega (arith, cells_many ss d, (eu ∙ ap₂ (λ (x y : ℕ). x * y) g0 (size_there K s P.height es))) in
            let c : take (u - 0) plan1 ≡ rules.cells_of S = ap (take (u - 0)) N.plan_told ∙ take_at (rules.cells_of S) _ (u - 0) k in
            let zs : List ℕ = replicate (rooms K (length plan) - length (rules.counts_of S)) 0 in
            let o : counts1 ≡ rules.counts_of S ++ (zs ++ drop (length (rules.counts_of S ++ zs)) counts) = N.counts_told ∙ append_assoc (rules.counts_of S) zs _ in
            record {
              ss = S;
              sized = form.areas_right J a;
              passes = ap (λ (x : List ℕ). refusal_of K (form.areas_right J a) gates x records) (sym given_none) ∙ both.0;
              accepted = free K gates given records S given_none (accepted ss d);
              cells = c;
              fits = rw c (literals_fit ss d);
              more = _;
              written = N.words_told ∙ append_assoc (rules.words_of S) _ _;
              counted = ap (take (g - 0)) o ∙ take_at (rules.counts_of S) _ (g - 0) (omega (arith, counts_many ss d));
              all = w0 ∙ ap length (sym (words_coded K (graph_of gates) ss));
              drives = both.1.drives;
              flops = lengths.0;
              starts = lengths.1;
              recorded = lengths.2;
              out_room = room.0;
              end_room = end_length;
              work_room = rw front (rw (length-replicate {A = ℕ} n 0) (omega arith));
              tape_room = omega (arith, ap length c, tape_length, fit ss d);
              slots_room = omega (arith, ap length c, slots_length, fit ss d);
              bits_room = omega (arith, ap length c, bits_length, fit ss d);
            }

        -- what is asked of what follows the build
        pub finish_in : FinishIn ok K gates records driven starting lines recording (take (u - 0) plan1) words1 (take (g - 0) counts1) t (take (n - 0) work1) (take (z - 0) tape) (take (h - 0) slots) (take (l - 0) bits) out (take (f - 0) end)
        finish_in = record { run = run_in; clear = λ d. rw front (ap (λ (k : ℕ). replicate k 0) (sym (length-replicate {A = ℕ} n 0))) }

        module _ (w tp q v o e : List ℕ) (F : Finished ok gates records driven starting lines recording (take (n - 0) work1) (take (z - 0) tape) (take (h - 0) slots) (take (l - 0) bits) out (take (f - 0) end) w tp q v o e) where
          work_is : w ++ drop (n - 0) work1 ≡ laid_over (replicate (work_size gates records) 0) work
          work_is =
              let k : take (n - 0) work1 ≡ replicate (length (take (n - 0) work1)) 0 = rw front (ap (λ (i : ℕ). replicate i 0) (sym (length-replicate {A = ℕ} n 0))) in
              ap (λ (x : List ℕ). x ++ drop (n - 0) work1) (F.work_cleared ∙ sym k) ∙ take-append-drop (n - 0) work1 ∙ work_after

          tape_is : tp ++ drop (z - 0) tape ≡ laid_over (replicate (length plan) 0) tape
          tape_is = cleared (z - 0) (length plan) tape tp (omega (arith, plan_length, sizes.tape_room)) tape_length F.tape_cleared

          slots_is : q ++ drop (h - 0) slots ≡ laid_over (replicate (slots_size records (length plan)) 0) slots
          unfolding slots_size
          slots_is = cleared (h - 0) (length plan + length records) slots q (omega (arith, plan_length, sizes.slots_room)) slots_length F.slots_cleared

          bits_is : v ++ drop (l - 0) bits ≡ laid_over (replicate (bits_size gates (length plan)) 0) bits
          unfolding bits_size
          bits_is = let k : l ≡ pin_count gates + length plan / 2 = rw (el, em, ez, plan_length) in cleared (l - 0) (pin_count gates + length plan / 2) bits v (omega (arith, sizes.bits_room)) bits_length F.bits_cleared

          abbrev D : Circuit
          D = circuit gates records driven

          plain : (ss : List rules.Stage) → b ≡ rules.whole ss → form.ran_of J (length plan) (form.cell_stages J ss) ≡ plain_run D lines recording starting
          unfolding form.ran_of form.cell_stages form.circuit_of
          plain ss d = calls.plan_plain I given_none driven lines recording starting needed_runs (length plan) ss d

          out_is : (x : rules.Answer) → b ≡ x → o ≡ (form.built_lent J a x).out
          unfolding form.built_lent rules.reply rules.refuse
          out_is (rules.refusal i k) d = F.out_kept (eo ∙ some_err r (λ y. refused_some needed_runs K (graph_of gates) given (groups_of records) (rooms K (length plan)) i k d (sym (number_of_lem (rules.refusal i k) d) ∙ y)))
          out_is (rules.whole ss) d = F.out_bits (eo ∙ zero_ok r (number_of_lem (rules.whole ss) d)) ∙ ap (λ (y : Ran). laid_over y.out out) (sym (plain ss d))

          end_is : (x : rules.Answer) → b ≡ x → e ++ drop (f - 0) end ≡ (form.built_lent J a x).end
          unfolding form.built_lent rules.reply rules.refuse plain_run
          end_is (rules.refusal i k) d =
              ap (λ (y : List ℕ). y ++ drop (f - 0) end) (F.end_kept (eo ∙ some_err r (λ y. refused_some needed_runs K (graph_of gates) given (groups_of records) (rooms K (length plan)) i k d (sym (number_of_lem (rules.refusal i k) d) ∙ y))))
              ∙ take-append-drop (f - 0) end
          end_is (rules.whole ss) d =
              let y = F.end_bits (eo ∙ zero_ok r (number_of_lem (rules.whole ss) d)) in
              let k : length e ≡ length (take (f - 0) end) = ap length y ∙ length_end D (plain_bits (graph_of gates)) lines recording (ones starting) (length_ones starting ∙ lengths.1) ∙ sym end_length in
              part_laid (f - 0) end e (omega (arith, lengths.1, room.1)) k ∙ ap (λ (c : List ℕ). laid_over c end) y ∙ ap (λ (c : Ran). laid_over c.end end) (sym (plain ss d))

          replayed : form.replay needed_runs J a ≡ record { reply = rules.reply b; lent = form.built_lent J a b }
          unfolding form.replay form.built_of rules.answer_of
          replayed = rw (passes, form.replay)

          -- the work area keeps its length
          pub work_kept : length (w ++ drop (n - 0) work1) ≡ length work
          work_kept =
              let k : length w ≡ length (take (n - 0) work1) = ap length F.work_cleared ∙ length-replicate {A = ℕ} (length (take (n - 0) work1)) 0 in
              length-append w (drop (n - 0) work1) ∙ omega (arith, length-append (take (n - 0) work1) (drop (n - 0) work1), ap length (take-append-drop (n - 0) work1), work_length)

          -- answer and areas are those of the definition
          pub outcome_built : outcome r plan1 words1 counts1 (w ++ drop (n - 0) work1) (tp ++ drop (z - 0) tape) (q ++ drop (h - 0) slots) (v ++ drop (l - 0) bits) o (e ++ drop (f - 0) end)
              ≡ form.replay needed_runs (job K gates given records driven starting lines recording) (lent plan words counts work tape slots bits out end)
          unfolding outcome lent areas job form.built_lent form.cell_stages rules.areas_after
          outcome_built =
              (λ i. record {
                reply = T.reply i;
                lent = record {
                  build = record { plan = T.plan_told i; words = T.words_told i; counts = T.counts_told i; work = work_is i };
                  tape = tape_is i;
                  slots = slots_is i;
                  bits = bits_is i;
                  out = out_is b refl i;
                  end = end_is b refl i;
                };
              })
              ∙ sym replayed
