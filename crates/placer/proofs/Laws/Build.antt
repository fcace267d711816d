-- The build around its stages: from the checks to the first stage, and from the last one to the areas at exit. Assumes nothing.
use Rattle.std.specs.Prelude.{Option, Some, None, Result, Ok, Err, is_ok}
use Prim.Native.Nat.{ℕ, ◌-◌, ◌*◌, ◌^◌, ◌≤◌, ◌<◌}
use mathlib.Core.Bool.{Bool, true, false}
use mathlib.Core.List.{List, [], ◌++◌, append-nil}
use mathlib.Core.Path.{◌≡◌, refl, sym, ap, ◌∙◌}
use native.Mathlib.Omega.{arith}
use lib.Dec.{ltb}
use lib.ListN.{length, drop, replicate, length-replicate, drop_of_length-le}
use borrow.Author.Tests.{ltb-true}
use Rattle.rules.specs.Lists.{padded, laid_over}
use Rattle.rules.specs.Cells.{empty, word_limit, row_at, stage_size, rooms}
use Rattle.rules.specs.Graph.{graph_of, pin_count}
use Rattle.rules.specs.Records.{Group, groups_of, waiting_of}
use Rattle.rules.specs.Reservation.{reserved, reservable}
use Rattle.rules.specs.Checks.{work_size}
use Rattle.rules.specs.States.{after_from}
use Rattle.rules.specs.Build as rules
use Rattle.rules.specs.Traversal.{needed_runs}
use Rattle.rules.proofs.Lists.Members.{split, and_true}
use Rattle.checks.specs.Passed.{Passed}
use Rattle.placer_start.specs.declared.Opening.{Opening}
use Rattle.placer_start.specs.Reservation.{reservation_of}
use Rattle.placer_start.specs.Opening.{BeginAt, First, Begins, reservation_for}
use Rattle.placer_start.proofs.Laws.First.{begin_at, first_ready, first_low, first_high}
use Rattle.refusals.specs.declared.Refusal.TheVariants.{OverReserved}
use Rattle.refusals.specs.Numbers.{number_of}
use Rattle.refusals.proofs.Numbers.{number_above}
use Rattle.placer.specs.declared.Built.{Built}
use Rattle.placer.specs.declared.Refused.{Refused}
use Rattle.placer.specs.Answers.{told}
use Rattle.placer.specs.Stages.{Course, answer, StagesAt, Whole, Ran, Underway}
use Rattle.placer.specs.Build.{PlaceAt, Emptied, Blank, TryAt, Filled, Tried, Tidied, Laid}
use Rattle.placer.proofs.Laws.Laying.{padded_none}

-- ---- the reservation's answer

over_refused : (K : ℕ) (gs : List Group) → None ≡ reservation_of K gs → reservable K gs ≡ false
unfolding reservation_of
over_refused K gs e = split (reservable K gs) (λ t. let d : None ≡ Some (reserved gs) = rw (t, reservation_of) at e in cc) (λ t. t)

words_reserved : (K : ℕ) (gs : List Group) (n : ℕ) → Some n ≡ reservation_of K gs → (reservable K gs ≡ true) × (n ≡ reserved gs)
unfolding reservation_of
words_reserved K gs n e = split (reservable K gs)
    (λ t. (t, let d : Some n ≡ Some (reserved gs) = rw (t, reservation_of) at e in cc))
    (λ t. let d : Some n ≡ None = rw (t, reservation_of) at e in cc)

reserved_less : (K : ℕ) (gs : List Group) → reservable K gs ≡ true → reserved gs < word_limit K
unfolding reservable
reserved_less K gs e = ltb-true _ _ (and_true (ltb (reserved gs) (word_limit K)) _ e).0

laid_self : (n : ℕ) (w : List ℕ) → length w ≡ n → w ≡ replicate (length w) 0 → w ≡ laid_over (replicate n 0) w
unfolding laid_over
laid_self n w l e =
    let z : List ℕ = replicate n 0 in
    let d : drop (length z) w ≡ [] = drop_of_length-le w {i = length z} (omega (arith, length-replicate {A = ℕ} n 0)) in
    e ∙ ap (λ (i : ℕ). replicate i 0) l ∙ sym (append-nil z) ∙ ap (λ (r : List ℕ). z ++ r) (sym d)

-- ---- the build of some groups, from its opening on

module _ {K : ℕ} {sized : Bool} {gates given records : List ℕ} (P : Passed K sized gates given records) {pl ws cs : List ℕ} (A : Blank K pl ws cs) {m : ℕ} (pins : m ≡ pin_count gates) {limit : ℕ} (lim : limit ≡ length ws)
    {far : ℕ} {gs : List Group} {w : List ℕ} {r : Option Opening} {w₁ : List ℕ} (B : Begins m limit far given gs w r w₁) where
  -- the limit is the height's
  pub limit_is : limit ≡ word_limit K
  limit_is = lim ∙ A.words_size

  -- where the opening is over the reservation is
  pub built_full : r ≡ None → reservable K gs ≡ false
  unfolding reservation_for
  built_full e = over_refused K gs (ap reservation_for (sym e) ∙ B.answer K limit_is)

  -- a reservation that is over answers 6, with plan, words and counts as they were
  pub built_over : r ≡ None → Tried (rules.build needed_runs K (graph_of gates) given gs (rooms K (length pl))) pl ws cs w (Err (record { why = OverReserved; stage = 0 })) pl ws cs w₁
  unfolding rules.build told rules.reply rules.refuse
  built_over e =
      let f = built_full e in
      record {
        kept = record { plan = refl; words = refl; counts = refl; work = B.frame.len };
        reply = rw (f, rules.build, rules.reply);
        whole = tt;
      }

  module _ {o : Opening} (ready : r ≡ Some o) where
    -- else it is not, and the words set aside are the reserved ones
    pub known : (reservable K gs ≡ true) × (o.words ≡ reserved gs)
    unfolding reservation_for
    known = words_reserved K gs o.words (ap reservation_for (sym ready) ∙ B.answer K limit_is)

    -- the reserved words are within the limit
    pub built_room : o.words ≤ limit
    built_room = omega (arith, known.1, reserved_less K gs known.0, limit_is)

    -- in an area that may be a part of the one at the opening
    module _ {v : List ℕ} (M : First m o.waiting given gs v) where
      -- what the first stage starts from, by the graph's own count of pins
      pub F : First (pin_count gates) o.waiting given gs v
      F = rw (← pins) M

      -- what the stages of this build start from
      abbrev pub course : Course
      course = record {
        rule = needed_runs;
        K = K;
        g = graph_of gates;
        given = given;
        waiting = waiting_of gs [];
        rooms = rooms K (length pl);
        room = word_limit K - reserved gs;
        low = first_low P F;
        high = first_high P F;
        valid = P.valid;
        small = omega (arith, P.pins, P.few);
        ready = first_ready P F;
        limit = omega arith;
      }

      built : rules.build needed_runs K (graph_of gates) given gs (rooms K (length pl)) ≡ answer course
      unfolding rules.build answer
      built = rw (known.0, rules.build)

      same : answer course ≡ rules.before [] (rules.stages needed_runs K (graph_of gates) (rooms K (length pl) - 0) 1 given (waiting_of gs []) (word_limit K - reserved gs - 0))
      unfolding answer rules.before
      same =
          let d : rooms K (length pl) - 0 ≡ rooms K (length pl) = omega arith in
          let e : word_limit K - reserved gs - 0 ≡ word_limit K - reserved gs = omega arith in
          rw (d, e)

      plan_blank : pl ≡ padded (rooms K (length pl) * stage_size K) empty []
      plan_blank = A.plan ∙ ap (λ (i : ℕ). replicate i empty) A.plan_size ∙ sym (padded_none (rooms K (length pl) * stage_size K) empty)

      words_blank : ws ≡ padded (word_limit K) empty []
      words_blank = A.words ∙ ap (λ (i : ℕ). replicate i empty) A.words_size ∙ sym (padded_none (word_limit K) empty)

      counts_blank : cs ≡ padded (rooms K (length pl)) 0 []
      counts_blank = A.counts ∙ ap (λ (i : ℕ). replicate i 0) A.counts_size ∙ sym (padded_none (rooms K (length pl)) 0)

      first : Underway course m 0 0 o.waiting pl ws cs v
      unfolding rules.cells_of rules.words_of rules.counts_of after_from
      first = record {
        ss = [];
        done = given;
        waiting = waiting_of gs [];
        reached = let e : word_limit K - reserved gs - 0 ≡ word_limit K - reserved gs = omega arith in rw e refl;
        same = same;
        ready = first_ready P F;
        count = refl;
        few = omega arith;
        cells = omega arith;
        counted = refl;
        spent = refl;
        fits = omega arith;
        plan = plan_blank;
        words = words_blank;
        counts = counts_blank;
        work = record { area = M.area; done = M.done; waiting = M.waiting; fresh = M.fresh; cells = M.cells; marks = M.marks; tail = λ j h. M.zeros j (omega arith) };
      }

      module _ {rms room : ℕ} (all : rms ≡ length cs) (left : room ≡ limit - o.words) (short : length cs < 2 ^ 63) where
        -- with the first stage's start there the stages may run
        pub built_stages : StagesAt course m K (row_at K 1) rms 0 0 o.waiting room gates pl ws cs v
        built_stages = record {
          known = record { ruled = refl; height = refl; row = refl; graph = refl; size = P.pins ∙ sym pins; pair = P.even ∙ ap (λ (i : ℕ). 2 * i) (sym pins) };
          now = first;
          all = all ∙ A.counts_size;
          short = omega arith;
          left = left ∙ (omega (arith, limit_is, known.1));
        }

      abbrev ss : List rules.Stage
      ss = rules.stages_of (answer course)

      filled : {pl' ws' cs' : List ℕ} → Whole course ss pl' ws' cs' → Filled (length pl) (length ws) (length cs) ss pl' ws' cs'
      filled W = record {
        plan = W.plan ∙ ap (λ (i : ℕ). padded i empty (rules.cells_of ss)) (sym A.plan_size);
        words = W.words ∙ ap (λ (i : ℕ). padded i empty (rules.words_of ss)) (sym A.words_size);
        counts = W.counts ∙ ap (λ (i : ℕ). padded i 0 (rules.counts_of ss)) (sym A.counts_size);
      }

      -- what the stages answer is the build's answer
      pub built_ran : (a : Result Built Refused) {pl' ws' cs' w' : List ℕ} → Ran course pl ws cs v a pl' ws' cs' w' → Tried (rules.build needed_runs K (graph_of gates) given gs (rooms K (length pl))) pl ws cs v a pl' ws' cs' w'
      built_ran (Ok x) R = rw built (record { kept = R.kept; reply = R.reply; whole = filled R.whole })
      built_ran (Err x) R = rw built (record { kept = R.kept; reply = R.reply; whole = tt })

-- ---- the build of all records

module _ {K : ℕ} {gates given records pl ws cs w : List ℕ} (A : TryAt K gates given records pl ws cs w) where
  -- the areas to be built in are empty
  pub try_blank : Blank K pl ws cs
  try_blank = record { plan_size = A.at.plan; words_size = A.at.words; counts_size = A.at.counts; plan = A.plan; words = A.words; counts = A.counts }

  -- the build may be opened
  pub try_begin : {m : ℕ} → m ≡ pin_count gates → BeginAt m given records w
  try_begin pins = rw pins (begin_at A.at.passed w (omega (arith, A.at.work)) (laid_self (work_size gates records) w A.at.work A.work))

  -- it is the build of the records' groups
  pub tried : {a : Result Built Refused} {u pl' ws' cs' w' : List ℕ} → length u ≡ length w → Tried (rules.build needed_runs K (graph_of gates) given (groups_of records) (rooms K (length pl))) pl ws cs u a pl' ws' cs' w' → Tried (rules.answer_of needed_runs K gates given records (length pl)) pl ws cs w a pl' ws' cs' w'
  unfolding rules.answer_of
  tried e T = record { kept = record { plan = T.kept.plan; words = T.kept.words; counts = T.kept.counts; work = T.kept.work ∙ e }; reply = T.reply; whole = T.whole }

-- ---- from the last stage to the areas at exit

module _ {K : ℕ} {gates given records pl ws cs w pl₁ ws₁ cs₁ w₁ : List ℕ} (A : PlaceAt K gates given records pl ws cs w) (E : Emptied pl ws cs w pl₁ ws₁ cs₁ w₁) where
  plan_same : length pl₁ ≡ length pl
  plan_same = ap length E.plan ∙ length-replicate (length pl) empty

  words_same : length ws₁ ≡ length ws
  words_same = ap length E.words ∙ length-replicate (length ws) empty

  counts_same : length cs₁ ≡ length cs
  counts_same = ap length E.counts ∙ length-replicate (length cs) 0

  work_same : length w₁ ≡ length w
  work_same = ap length E.work ∙ length-replicate (length w) 0

  -- emptied areas may be built in
  pub place_try : TryAt K gates given records pl₁ ws₁ cs₁ w₁
  place_try = record {
    at = record { sized = A.sized; passed = A.passed; plan = rw plan_same A.plan; words = words_same ∙ A.words; counts = counts_same ∙ rw plan_same A.counts; work = work_same ∙ A.work };
    plan = rw plan_same E.plan;
    words = rw words_same E.words;
    counts = rw counts_same E.counts;
    work = rw work_same E.work;
  }

  no_stages : (b : rules.Answer) (r : Refused) → told (Err r) ≡ rules.reply b → rules.stages_of b ≡ []
  unfolding rules.stages_of rules.reply told
  no_stages (rules.refusal n k) r e = refl
  no_stages (rules.whole ss) r e = let z : number_of r.why ≡ 0 = ap (λ (x : rules.Reply). x.number) e in absurd (omega (arith, number_above r.why))

  -- emptied, built and tidied: the areas are as the rules leave them
  module _ {pl₂ ws₂ cs₂ w₂ pl₃ ws₃ cs₃ w₃ : List ℕ} where
    so : (b : rules.Answer) (a : Result Built Refused) → Tried b pl₁ ws₁ cs₁ w₁ a pl₂ ws₂ cs₂ w₂ → Tidied (is_ok a) pl₂ ws₂ cs₂ w₂ pl₃ ws₃ cs₃ w₃ → Laid b pl ws cs w a pl₃ ws₃ cs₃ w₃
    unfolding rules.cells_of rules.words_of rules.counts_of
    so b (Ok x) T D =
        let W = T.whole in
        record {
          reply = T.reply;
          filled = record {
            plan = D.plan refl ∙ W.plan ∙ ap (λ (i : ℕ). padded i empty (rules.cells_of (rules.stages_of b))) plan_same;
            words = D.words refl ∙ W.words ∙ ap (λ (i : ℕ). padded i empty (rules.words_of (rules.stages_of b))) words_same;
            counts = D.counts refl ∙ W.counts ∙ ap (λ (i : ℕ). padded i 0 (rules.counts_of (rules.stages_of b))) counts_same;
          };
          work = D.work ∙ ap (λ (i : ℕ). replicate i 0) (T.kept.work ∙ work_same);
        }
    so b (Err x) T D =
        let N = D.none refl in
        record {
          reply = T.reply;
          filled = rw (no_stages b x T.reply) (record {
            plan = N.plan ∙ ap (λ (i : ℕ). replicate i empty) (T.kept.plan ∙ plan_same) ∙ sym (padded_none (length pl) empty);
            words = N.words ∙ ap (λ (i : ℕ). replicate i empty) (T.kept.words ∙ words_same) ∙ sym (padded_none (length ws) empty);
            counts = N.counts ∙ ap (λ (i : ℕ). replicate i 0) (T.kept.counts ∙ counts_same) ∙ sym (padded_none (length cs) 0);
          });
          work = D.work ∙ ap (λ (i : ℕ). replicate i 0) (T.kept.work ∙ work_same);
        }

    pub laid : {a : Result Built Refused} → Tried (rules.answer_of needed_runs K gates given records (length pl₁)) pl₁ ws₁ cs₁ w₁ a pl₂ ws₂ cs₂ w₂ → {ok : Bool} → ok ≡ is_ok a → Tidied ok pl₂ ws₂ cs₂ w₂ pl₃ ws₃ cs₃ w₃ →
        Laid (rules.answer_of needed_runs K gates given records (length pl)) pl ws cs w a pl₃ ws₃ cs₃ w₃
    laid {a} T e D = so _ a (rw plan_same at T) (rw e at D)
