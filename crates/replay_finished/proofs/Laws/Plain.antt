-- What an answer of a call means: with 0 the bits are those of the plain graph, run the same way; a refusal changes nothing. Assumes nothing.
use Prim.Native.Nat.{ℕ, zero, suc, ◌+◌, ◌*◌}
use mathlib.Core.Path.{◌≡◌, refl, ◌∙◌, ap}
use mathlib.Core.Logic.{◌≢◌}
use mathlib.Core.List.{List, ◌++◌}
use native.Mathlib.Omega.{arith}
use lib.ListN.{take}
use Rattle.rules.specs.Lists.{laid_over}
use Rattle.rules.specs.Records.{groups_of}
use Rattle.rules.specs.Faults.{Fault, faultless, fault_at, fault}
use Rattle.replay_form.specs.Clocks.{Ran, bits_out, flip_flops, line_size}
use Rattle.replay_form.specs.Calls.{Job, circuit_of, ran_of}
use Rattle.replay_form.proofs.Calls as calls
use Rattle.replay_form.proofs.Calls.{plain_of, Hands, hands_cut, over}
use Rattle.coded.specs.Inputs.{Input}
use Rattle.plan_check.specs.Answers.{judged}
use Rattle.replay_finished.specs.Calls.{Plan, Lent, Outcome, finished_right, finished_refusal, stages_in, finished_run, ran_lent, judged_run, finished_replay}
use Rattle.replay_finished.proofs.Laws.Accepted.{passed, stages_in_lem}

module _ (J : Job) (p : Plan) (a : Lent) where
  abbrev wrong : Fault
  wrong = fault J.height J.gates J.given J.records p.plan p.words p.counts p.stages

  -- a call answered with 0
  record Answered : Type 0 where
    passes : finished_refusal J p a ≡ 0
    right : wrong ≡ faultless

  by_number : (n : ℕ) → finished_refusal J p a ≡ n → (finished_replay J p a).reply.number ≡ 0 → Answered
  unfolding finished_replay judged_run judged
  by_number zero e z = by_fault wrong refl z
    where
      by_fault : (f : Fault) → wrong ≡ f → (finished_replay J p a).reply.number ≡ 0 → Answered
      by_fault faultless d y = record { passes = e; right = d }
      by_fault (fault_at k q) d y = absurd (let x : 22 ≡ 0 = rw (e, finished_replay, d) at y in omega arith)
  by_number (suc n) e z = absurd (let x : suc n ≡ 0 = rw (e, finished_replay) at z in omega arith)

  -- Answered with 0, a call over a plan, whoever made it, hands out the bits of the plain graph's run, clock by clock, and then its end bits; numbers
  -- past them are as they were.
  pub finished_hands : (finished_replay J p a).reply.number ≡ 0 → Hands J a.out a.end (finished_replay J p a).lent.out (finished_replay J p a).lent.end
  unfolding circuit_of line_size ran_lent finished_run stages_in ran_of judged_run finished_replay
  finished_hands z =
      let A = by_number (finished_refusal J p a) refl z in
      let b = passed J p a A.passes in
      let t = calls.lengths_are _ _ _ _ _ _ b.1.lengths in
      let I : Input = record { K = J.height; sized = finished_right J p a; gates = J.gates; given = J.given; records = J.records; passes = b.0 } in
      let r : finished_run J p ≡ plain_of J = calls.faultless_plain I (calls.given_nil J.given J.records b.1.plain) J.driven J.lines J.recording J.starting p.plan p.words p.counts p.stages (stages_in_lem J p a A.passes) A.right in
      let l : (finished_replay J p a).lent ≡ ran_lent J p a = rw (A.passes, finished_replay, A.right) in
      record {
        out = ap (λ (x : Lent). x.out) l ∙ ap (λ (x : Ran). laid_over x.out a.out) r;
        end = ap (λ (x : Lent). x.end) l ∙ ap (λ (x : Ran). laid_over x.end a.end) r;
        starts = t.1;
        recorded = t.2;
      }

  -- No refusal changes anything lent.
  pub finished_refused : (finished_replay J p a).reply.number ≢ 0 → (finished_replay J p a).lent ≡ a
  unfolding finished_replay judged_run judged
  finished_refused z = number (finished_refusal J p a) refl
    where
      by_fault : (f : Fault) → wrong ≡ f → finished_refusal J p a ≡ 0 → (finished_replay J p a).lent ≡ a
      by_fault faultless d e = absurd (z (rw (e, finished_replay, d)))
      by_fault (fault_at k q) d e = rw (e, finished_replay, d)

      number : (n : ℕ) → finished_refusal J p a ≡ n → (finished_replay J p a).lent ≡ a
      number zero e = by_fault wrong refl e
      number (suc n) e = rw (e, finished_replay)

-- A recording cut into two runs, over the same plan or another accepted one, gives the same bits.
module _ (J : Job) (p p1 p2 : Plan) (n m : ℕ) (first second starting : List ℕ) (a a1 a2 : Lent) where
  abbrev o : Outcome
  o = finished_replay (over J (n + m) (first ++ second) starting) p a

  abbrev o1 : Outcome
  o1 = finished_replay (over J n first starting) p1 a1

  abbrev o2 : Outcome
  o2 = finished_replay (over J m second (take (flip_flops (groups_of J.records)) o1.lent.end)) p2 a2

  pub finished_cut : o.reply.number ≡ 0 → o1.reply.number ≡ 0 → o2.reply.number ≡ 0 →
      (take ((n + m) * bits_out (groups_of J.records)) o.lent.out ≡ take (n * bits_out (groups_of J.records)) o1.lent.out ++ take (m * bits_out (groups_of J.records)) o2.lent.out)
      × (take (flip_flops (groups_of J.records)) o.lent.end ≡ take (flip_flops (groups_of J.records)) o2.lent.end)
  finished_cut z z1 z2 = hands_cut J n m first second starting (finished_hands _ p a z) (finished_hands _ p1 a1 z1) (finished_hands _ p2 a2 z2)
