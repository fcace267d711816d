-- What request Q-6 promises of a run of any plan that the check accepts, and of the whole call. Assumes nothing.
use Prim.Native.Nat.{ℕ, zero, suc, ◌+◌, ◌*◌, ◌≤◌}
use mathlib.Core.Path.{◌≡◌, refl, sym, ◌∙◌, ap}
use mathlib.Core.Logic.{◌≢◌}
use mathlib.Core.Bool.{Bool, true, false, ◌&&◌}
use mathlib.Core.List.{List, [], ◌∷◌, ◌++◌}
use native.Mathlib.Omega.{arith}
use lib.Dec.{eqb}
use lib.ListN.{length, take}
use lib.Seq.{take_at}
use Rattle.rules.specs.Lists.{is_nil, laid_over}
use Rattle.rules.specs.Cells.{rooms}
use Rattle.rules.specs.Graph.{graph_of}
use Rattle.rules.specs.Records.{groups_of}
use Rattle.rules.specs.Reservation.{memories}
use Rattle.rules.specs.Checks.{refusal_of}
use Rattle.rules.specs.Traversal.{WordRule}
use Rattle.rules.specs.Build.{Stage, Answer, refusal, whole, reply, refuse, refuse_checked, cells_of, coded_stages, answer_of}
use Rattle.rules.proofs.Lists.Members.{split, and_true, eqb_true, true_false}
use Rattle.rules.proofs.Stage.Refusals.{refused_some}
use Rattle.rules.specs.Records.{Ends}
use Rattle.rules.specs.Faults.{faultless, cut, fault}
use Rattle.coded.specs.Inputs.{Input, graph, groups, built}
use Rattle.replay_form.specs.Clocks.{Circuit, Ran, ones, pin_bits, line_leaves, bits_out, flip_flops, line_size, and_then, plain_bits, plain_run}
use Rattle.replay_form.specs.Plans.{plan_bits, plan_run}
use Rattle.replay_form.specs.Accepted.{Accepted}
use Rattle.replay_form.specs.Calls.{Job, Lent, Outcome, circuit_of, areas_right, plain, driven_right, lengths_right, out_right, later_refusal, later_of, replay_refusal, ran_of, cell_stages, built_lent, built_of, replay}
use Rattle.replay_form.proofs.Cutting.{ones_ones, ones_run, run_cut}
use Rattle.replay_form.proofs.Same.{run_same}
use Rattle.replay_form.proofs.Lengths.{length_ones, length_out, length_end}
use Rattle.replay_form.proofs.Accepted.{cut_accepted, cut_fits, coded_accepted, coded_fits}
use Rattle.replay_form.proofs.Reading.{read_bit}

-- ---- plans

-- the circuit of an input
abbrev pub circuit_for : Input → (driven : List ℕ) → Circuit
circuit_for I driven = record { graph = graph I; groups = groups I; driven = driven }

module _ (I : Input) (free : I.given ≡ []) (driven : List ℕ) (n : ℕ) (recording starting : List ℕ) where
  -- At every clock the bits of a plan that the check accepts are those of the plain graph run the same way, and so are the end bits.
  pub accepted_plain : (ss : List Stage) → Accepted I.K I.gates I.given I.records ss → (L : ℕ) → length (cells_of ss) ≤ L →
      plan_run I.K L ss (circuit_for I driven) n recording starting ≡ plain_run (circuit_for I driven) n recording starting
  unfolding plan_run plain_run plain_bits
  accepted_plain ss A L fits =
      let agree : (bits : List ℕ) (q : ℕ) → Ends q (groups I) → plan_bits I.K L ss bits q ≡ plain_bits (graph I) bits q = λ bits q i. rw free at (read_bit I ss A L fits bits q i) in
      run_same _ _ _ (λ line state. agree (pin_bits (graph I) driven line state)) n recording (ones starting)

  -- So are those of a plan that is handed in, where the check finds no fault.
  pub faultless_plain : (plan words counts : List ℕ) (k : ℕ) → k ≤ rooms I.K (length plan) → fault I.K I.gates I.given I.records plan words counts k ≡ faultless →
      plan_run I.K (length plan) (cut k I.K plan words counts) (circuit_for I driven) n recording starting ≡ plain_run (circuit_for I driven) n recording starting
  faultless_plain plan words counts k area e = accepted_plain (cut k I.K plan words counts) (cut_accepted I plan words counts k area e) (length plan) (cut_fits I plan words counts k area)

  -- And those of a whole plan that the placer builds.
  pub plan_plain : (rule : WordRule) (L : ℕ) (ss : List Stage) → built rule I (rooms I.K L) ≡ whole ss →
      plan_run I.K L (coded_stages I.K (graph I) ss) (circuit_for I driven) n recording starting ≡ plain_run (circuit_for I driven) n recording starting
  plan_plain rule L ss e = accepted_plain (coded_stages I.K (graph I) ss) (coded_accepted rule I L ss e) L (coded_fits rule I L ss e)

-- Whatever the plan, its run of n + m lines is one of n lines and then one of m that starts with the first one's end bits.
pub plan_cut : (K L : ℕ) (ss : List Stage) (C : Circuit) (n m : ℕ) (first second starting : List ℕ) → length first ≡ n * line_size C →
    plan_run K L ss C (n + m) (first ++ second) starting ≡ and_then (plan_run K L ss C n first starting) (plan_run K L ss C m second (plan_run K L ss C n first starting).end)
unfolding plan_run
plan_cut K L ss C n m first second starting e =
    let B = plan_bits K L ss in
    rw (ones_run C B n first (ones starting) (ones_ones starting)) (run_cut C B n m first second (ones starting) e)

-- ---- calls

-- the plain graph's run of a job
abbrev pub plain_of : Job → Ran
plain_of J = plain_run (circuit_of J) J.lines J.recording J.starting

-- none of 18, 19, 20 and 17 applies
pub record Later (gates given records driven : List ℕ) (starting lines recording out end : ℕ) : Type 0 where
  pub plain : plain given records ≡ true
  pub drives : driven_right (graph_of gates) driven ≡ true
  pub lengths : lengths_right (flip_flops (groups_of records)) (length (line_leaves (graph_of gates) driven)) (length driven) starting lines recording ≡ true
  pub room : out_right (flip_flops (groups_of records)) (bits_out (groups_of records)) lines out end ≡ true

some_number : {P : Type 0} {n : ℕ} → suc n ≡ 0 → P
some_number e = absurd (omega arith)

-- a later refusal of 0 tells all four
pub later : (gates given records driven : List ℕ) (starting lines recording out end : ℕ) → later_refusal gates given records driven starting lines recording out end ≡ 0 → Later gates given records driven starting lines recording out end
unfolding later_refusal
later gates given records driven starting lines recording out end e =
    let gs = groups_of records in
    split (plain given records)
    (λ p. split (driven_right (graph_of gates) driven)
    (λ d. split (lengths_right (flip_flops gs) (length (line_leaves (graph_of gates) driven)) (length driven) starting lines recording)
    (λ l. split (out_right (flip_flops gs) (bits_out gs) lines out end)
    (λ r. record { plain = p; drives = d; lengths = l; room = r })
    (λ r. some_number (rw (p, d, l, r, later_refusal) at e)))
    (λ l. some_number (rw (p, d, l, later_refusal) at e)))
    (λ d. some_number (rw (p, d, later_refusal) at e)))
    (λ p. some_number (rw (p, later_refusal) at e))

-- the same of a job
abbrev pub LaterOf : Job → Lent → Type 0
LaterOf J a = Later J.gates J.given J.records J.driven (length J.starting) J.lines (length J.recording) (length a.out) (length a.end)

-- no given pin is left
pub given_nil : (given records : List ℕ) → plain given records ≡ true → given ≡ []
unfolding plain is_nil
given_nil given records e = nil given (and_true (eqb (memories (groups_of records)) 0) (is_nil given) e).1
  where
    nil : (xs : List ℕ) → is_nil xs ≡ true → xs ≡ []
    nil [] e = refl
    nil (x ∷ xs) e = absurd (let y : ◌≡◌ {A = Bool} true false = sym e in true_false refl y)

-- the lengths are as stated
pub lengths_are : (flips leaves driven starting lines recording : ℕ) → lengths_right flips leaves driven starting lines recording ≡ true → (driven ≡ flips) × (starting ≡ flips) × (recording ≡ lines * leaves)
unfolding lengths_right
lengths_are flips leaves driven starting lines recording e =
    let t = and_true (eqb driven flips && eqb starting flips) (eqb recording (lines * leaves)) e in
    let u = and_true (eqb driven flips) (eqb starting flips) t.0 in
    (eqb_true _ _ u.0, eqb_true _ _ u.1, eqb_true _ _ t.1)

-- a plain run's bits laid over the areas for them, of a job whose lengths are as stated
pub record Hands (J : Job) (o e o2 e2 : List ℕ) : Type 0 where
  pub out : o2 ≡ laid_over (plain_of J).out o
  pub end : e2 ≡ laid_over (plain_of J).end e
  pub starts : length J.starting ≡ flip_flops (groups_of J.records)
  pub recorded : length J.recording ≡ J.lines * line_size (circuit_of J)

module _ {J : Job} {o e o2 e2 : List ℕ} (H : Hands J o e o2 e2) where
  -- the bits of all the clocks
  pub out_bits : take (J.lines * bits_out (groups_of J.records)) o2 ≡ (plain_of J).out
  unfolding laid_over plain_run circuit_of
  out_bits = rw H.out (take_at (plain_of J).out _ _ (length_out (circuit_of J) (plain_bits (graph_of J.gates)) J.lines J.recording (ones J.starting)))

  -- and the end bits, as many as there are flip-flops
  pub end_bits : take (flip_flops (groups_of J.records)) e2 ≡ (plain_of J).end
  unfolding laid_over plain_run circuit_of
  end_bits = rw H.end (take_at (plain_of J).end _ _ (length_end (circuit_of J) (plain_bits (graph_of J.gates)) J.lines J.recording (ones J.starting) (length_ones J.starting ∙ H.starts)))

module _ (J : Job) (a : Lent) where
  abbrev checked : ℕ
  checked = refusal_of J.height (areas_right J a) J.gates J.given J.records

  -- none of 1 to 5 and of 17 to 20 applies
  pub passed : replay_refusal J a ≡ 0 → (checked ≡ 0) × LaterOf J a
  unfolding replay_refusal later_of
  passed e = number checked refl
    where
      number : (n : ℕ) → checked ≡ n → (checked ≡ 0) × LaterOf J a
      number zero d = (d, later _ _ _ _ _ _ _ _ _ (rw (d, replay_refusal) at e))
      number (suc n) d = some_number (rw (d, replay_refusal) at e)

module _ (rule : WordRule) (J : Job) (a : Lent) where
  -- a call answered with 0
  pub record Answered : Type 0 where
    pub passes : replay_refusal J a ≡ 0
    pub ss : List Stage
    pub built : built_of rule J a ≡ whole ss

  -- a number of 0 stands for a whole plan of the rules
  pub answered : (replay rule J a).reply.number ≡ 0 → Answered
  unfolding replay refuse refuse_checked reply built_of answer_of
  answered z = number (replay_refusal J a) refl
    where
      of_build : (b : Answer) → built_of rule J a ≡ b → (reply b).number ≡ 0 → replay_refusal J a ≡ 0 → Answered
      of_build (refusal n k) d y e = absurd (refused_some rule J.height (graph_of J.gates) J.given (groups_of J.records) _ n k d y)
      of_build (whole ss) d y e = record { passes = e; ss = ss; built = d }

      number : (n : ℕ) → replay_refusal J a ≡ n → Answered
      number zero e = of_build (built_of rule J a) refl (rw (e, replay) at z) e
      number (suc n) e = some_number (rw (e, replay) at z)

-- Answered with 0, a call hands out the bits of the plain graph's run, clock by clock, and then its end bits; numbers past them are as they were.
module _ (rule : WordRule) (J : Job) (a : Lent) (z : (replay rule J a).reply.number ≡ 0) where
  given_none : J.given ≡ []
  given_none = given_nil J.given J.records (passed J a (answered rule J a z).passes).1.plain

  ran_plain : ran_of J (length a.build.plan) (cell_stages J (answered rule J a z).ss) ≡ plain_of J
  unfolding ran_of cell_stages circuit_of built_of answer_of
  ran_plain =
      let I : Input = record { K = J.height; sized = areas_right J a; gates = J.gates; given = J.given; records = J.records; passes = (passed J a (answered rule J a z).passes).0 } in
      plan_plain I given_none J.driven J.lines J.recording J.starting rule (length a.build.plan) (answered rule J a z).ss (answered rule J a z).built

  lent_built : (replay rule J a).lent ≡ built_lent J a (whole (answered rule J a z).ss)
  unfolding replay
  lent_built = rw ((answered rule J a z).passes, replay) (ap (built_lent J a) (answered rule J a z).built)

  -- the bits handed out are the plain graph's, clock by clock
  pub replay_out : (replay rule J a).lent.out ≡ laid_over (plain_of J).out a.out
  unfolding built_lent
  replay_out = ap (λ (l : Lent). l.out) lent_built ∙ ap (λ (r : Ran). laid_over r.out a.out) ran_plain

  -- and so are the end bits
  pub replay_end : (replay rule J a).lent.end ≡ laid_over (plain_of J).end a.end
  unfolding built_lent
  replay_end = ap (λ (l : Lent). l.end) lent_built ∙ ap (λ (r : Ran). laid_over r.end a.end) ran_plain

  -- so a call hands out what a plain run does
  pub replay_hands : Hands J a.out a.end (replay rule J a).lent.out (replay rule J a).lent.end
  unfolding circuit_of line_size
  replay_hands = let t = lengths_are _ _ _ _ _ _ (passed J a (answered rule J a z).passes).1.lengths in record { out = replay_out; end = replay_end; starts = t.1; recorded = t.2 }

-- No bit is written by any refusal.
pub replay_refused : (rule : WordRule) (J : Job) (a : Lent) → (replay rule J a).reply.number ≢ 0 → ((replay rule J a).lent.out ≡ a.out) × ((replay rule J a).lent.end ≡ a.end)
unfolding replay reply built_lent
replay_refused rule J a z = number (replay_refusal J a) refl
  where
    of_build : (b : Answer) → built_of rule J a ≡ b → replay_refusal J a ≡ 0 → ((replay rule J a).lent.out ≡ a.out) × ((replay rule J a).lent.end ≡ a.end)
    of_build (refusal n k) d e = (rw (e, replay, d), rw (e, replay, d))
    of_build (whole ss) d e = absurd (z (rw (e, replay, d)))

    number : (n : ℕ) → replay_refusal J a ≡ n → ((replay rule J a).lent.out ≡ a.out) × ((replay rule J a).lent.end ≡ a.end)
    number zero e = of_build (built_of rule J a) refl e
    number (suc n) e = (rw (e, replay), rw (e, replay))

-- ---- a recording cut into two runs

-- a job with another recording
abbrev pub over : Job → ℕ → (recording starting : List ℕ) → Job
over J n recording starting = record { height = J.height; gates = J.gates; given = J.given; records = J.records; driven = J.driven; starting = starting; lines = n; recording = recording }

-- The plain graph's run of n + m lines is one of n lines and then one of m that starts with the first one's end bits.
pub plain_cut : (C : Circuit) (n m : ℕ) (first second starting : List ℕ) → length first ≡ n * line_size C →
    plain_run C (n + m) (first ++ second) starting ≡ and_then (plain_run C n first starting) (plain_run C m second (plain_run C n first starting).end)
unfolding plain_run
plain_cut C n m first second starting e =
    let B = plain_bits C.graph in
    rw (ones_run C B n first (ones starting) (ones_ones starting)) (run_cut C B n m first second (ones starting) e)

-- The same of calls that hand out a plain run's bits, whatever is lent to each: the bits of both, one after the other, are those of the one run, and
-- the end bits are the second's.
module _ (J : Job) (n m : ℕ) (first second starting : List ℕ) where
  abbrev bits : ℕ
  bits = bits_out (groups_of J.records)

  abbrev flops : ℕ
  flops = flip_flops (groups_of J.records)

  pub hands_cut : {o e o2 e2 p d p2 d2 q c q2 c2 : List ℕ} → Hands (over J (n + m) (first ++ second) starting) o e o2 e2 → Hands (over J n first starting) p d p2 d2 → Hands (over J m second (take flops d2)) q c q2 c2 →
      (take ((n + m) * bits) o2 ≡ take (n * bits) p2 ++ take (m * bits) q2) × (take flops e2 ≡ take flops c2)
  unfolding circuit_of and_then
  hands_cut {d2} H H1 H2 =
      let J1 = over J n first starting in
      let J2 = over J m second (take flops d2) in
      let k = plain_cut (circuit_of J) n m first second starting H1.recorded in
      let s : plain_of J2 ≡ plain_run (circuit_of J) m second (plain_of J1).end = ap (λ (u : List ℕ). plain_run (circuit_of J) m second u) (end_bits H1) in (
        out_bits H ∙ ap (λ (r : Ran). r.out) (k ∙ ap (and_then (plain_of J1)) (sym s)) ∙ sym (rw (out_bits H1, out_bits H2)),
        end_bits H ∙ ap (λ (r : Ran). r.end) (k ∙ ap (and_then (plain_of J1)) (sym s)) ∙ sym (end_bits H2),
      )

-- So of calls of `replay`.
module _ (rule : WordRule) (J : Job) (n m : ℕ) (first second starting : List ℕ) (a a1 a2 : Lent) where
  abbrev o : Outcome
  o = replay rule (over J (n + m) (first ++ second) starting) a

  abbrev o1 : Outcome
  o1 = replay rule (over J n first starting) a1

  abbrev o2 : Outcome
  o2 = replay rule (over J m second (take (flip_flops (groups_of J.records)) o1.lent.end)) a2

  pub replay_cut : o.reply.number ≡ 0 → o1.reply.number ≡ 0 → o2.reply.number ≡ 0 →
      (take ((n + m) * bits_out (groups_of J.records)) o.lent.out ≡ take (n * bits_out (groups_of J.records)) o1.lent.out ++ take (m * bits_out (groups_of J.records)) o2.lent.out)
      × (take (flip_flops (groups_of J.records)) o.lent.end ≡ take (flip_flops (groups_of J.records)) o2.lent.end)
  replay_cut z z1 z2 = hands_cut J n m first second starting (replay_hands rule _ a z) (replay_hands rule _ a1 z1) (replay_hands rule _ a2 z2)
