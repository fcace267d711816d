-- The build around its stages: 6 with its line, or the stages with theirs. Assumes nothing.
use Rattle.std.specs.Prelude.{Option, Some, None}
use Prim.Native.Nat.{ℕ, ◌+◌, ◌-◌, ◌*◌, ◌^◌, ◌≤◌, ◌<◌}
use mathlib.Core.Path.{◌≡◌, refl, sym, ap, ◌∙◌}
use mathlib.Core.Bool.{false}
use mathlib.Core.List.{List, [], ◌∷◌}
use native.Mathlib.Omega.{arith}
use native.Mathlib.Nat.{one-le-pow}
use lib.ListN.{length}
use Rattle.rules.specs.Cells.{word_limit, row_at, rooms}
use Rattle.rules.specs.Graph.{graph_of, pin_count}
use Rattle.rules.specs.Records.{groups_of, waiting_of}
use Rattle.rules.specs.Reservation.{reserved, reservable}
use Rattle.rules.specs.States.{state, after_from}
use Rattle.rules.specs.Build as rules
use Rattle.rules.specs.Traversal.{needed_runs}
use Rattle.cells.proofs.Heights.{tall_height}
use Rattle.placer_start.specs.declared.Opening.{Opening}
use Rattle.placer_start.specs.Opening.{First, Begins}
use Rattle.stage_notes.proofs.Noting.{notes_at}
use Rattle.std.specs.Prelude.{Bool, Err}
use Rattle.std.specs.Result.{is_ok}
use Rattle.refusals.specs.declared.Refusal.TheVariants.{OverReserved}
use Rattle.placer.specs.Stages.{Course}
use Rattle.placer.specs.Build.{PlaceAt, Emptied, TryAt, Tidied}
use Rattle.placer.proofs.Laws.Course.{limit_small}
use Rattle.placer.proofs.Laws.Build.{limit_is, built_full, built_over, known, course, built_stages, built_ran, try_blank, tried, laid}
use Rattle.why_form.specs.Why.{Line, sixth, why, why_of}
use Rattle.explain_lines.specs.Lines.{put_lines}
use Rattle.explain_stages.specs.declared.Explanation.{Explanation}
use Rattle.explain_stages.specs.Telling.{lines_after, AllAt, AllTold}
use Rattle.explain_stages.proofs.Laws.Telling.{after_lines}
use Rattle.explain_build.specs.Six.{TellAt, Told}
use Rattle.explain_build.specs.Call.{Attempted, Explained}

-- ---- 6

-- where every word limit is at least 1 and at most 256
limit_within : (K : ℕ) → K ≤ 13 → (1 ≤ word_limit K) × (word_limit K ≤ 256)
unfolding word_limit
limit_within K h = (one-le-pow (K - 5) 2 (omega arith), limit_small K h)

module _ {K : ℕ} {gates given records pl ws cs w : List ℕ} (A : TryAt K gates given records pl ws cs w) where
  -- a reservation that is over may be told
  pub six_tells : {limit : ℕ} → limit ≡ length ws → TellAt limit gates records
  six_tells e =
      let P = A.at.passed in
      let l = limit_within K (tall_height K P.height).high in
      record { room = record { right = record { short = P.short; readable = P.readable; named = P.named }; few = P.few }; low = omega (arith, e, A.at.words, l.0); high = omega (arith, e, A.at.words, l.1) }

  module _ {m : ℕ} (pins : m ≡ pin_count gates) {limit : ℕ} (lim : limit ≡ length ws) {far : ℕ} {r : Option Opening} {w₁ : List ℕ} (B : Begins m limit far given (groups_of records) w r w₁) where
    -- 6, and its line
    pub attempt_over : r ≡ None → {list list' : List ℕ} → Told limit records list list' →
        Attempted (rules.answer_of needed_runs K gates given records (length pl)) (why_of needed_runs K gates given records (length pl)) pl ws cs w list (record { answer = Err (record { why = OverReserved; stage = 0 }); lines = 1 }) pl ws cs w₁ list'
    unfolding why_of why
    attempt_over e {list} {list'} S =
        let f : reservable K (groups_of records) ≡ false = built_full A.at.passed (try_blank A) pins lim B e in
        let l : why needed_runs K (graph_of gates) given (groups_of records) (rooms K (length pl)) ≡ sixth K (groups_of records) ∷ [] = rw (f, why) refl in
        record {
          tried = tried A refl (built_over A.at.passed (try_blank A) pins lim B e);
          lines = S.is K (limit_is A.at.passed (try_blank A) pins lim B) ∙ ap (λ (ls : List Line). put_lines 0 ls list) (sym l);
          count = sym (ap length l);
        }

    -- ---- the stages

    module _ {o : Opening} (ready : r ≡ Some o) where
      abbrev M : First m o.waiting given (groups_of records) w₁
      M = B.first o ready

      abbrev pub C : Course
      C = course A.at.passed (try_blank A) pins lim B ready (B.first o ready)

      -- the stages may be told
      pub all_at : (list : List ℕ) {rms room : ℕ} → rms ≡ length cs → room ≡ limit - o.words → length cs < 2 ^ 63 → AllAt C m K (row_at K 1) rms 0 0 o.waiting room 0 list gates pl ws cs w₁ list
      all_at list all left short = record {
        stands = built_stages A.at.passed (try_blank A) pins lim B ready M all left short;
        bare = record { none = λ i a b. notes_at m w₁ (4 * i + 3) (omega arith) ∙ M.zeros (260 + (4 * i + 3)) (omega arith) };
        few = omega arith;
        same = refl;
        count = omega arith;
      }

      lines_are : lines_after C 0 ≡ why_of needed_runs K gates given records (length pl)
      unfolding why_of why after_from
      lines_are =
          let k = known A.at.passed (try_blank A) pins lim B ready in
          let z : rooms K (length pl) - 0 ≡ rooms K (length pl) = omega arith in
          let e : after_from needed_runs K (graph_of gates) 0 given (waiting_of (groups_of records) []) (word_limit K - reserved (groups_of records)) ≡ state given (waiting_of (groups_of records) []) (word_limit K - reserved (groups_of records)) = refl in
          after_lines C 0 e ∙ rw (z, k.0, why) refl

      -- what they tell is what the rules say
      pub attempt_ran : {list : List ℕ} {e : Explanation} {pl' ws' cs' w' list' : List ℕ} → AllTold C pl ws cs w₁ list e pl' ws' cs' w' list' →
          Attempted (rules.answer_of needed_runs K gates given records (length pl)) (why_of needed_runs K gates given records (length pl)) pl ws cs w list e pl' ws' cs' w' list'
      attempt_ran {list} R = record {
        tried = tried A B.frame.len (built_ran A.at.passed (try_blank A) pins lim B ready M _ (record { kept = R.kept; reply = R.reply; whole = R.whole }));
        lines = R.lines ∙ ap (λ (ls : List Line). put_lines 0 ls list) lines_are;
        count = R.count ∙ ap length lines_are;
      }

-- ---- the areas around it

module _ {K : ℕ} {gates given records pl ws cs w pl₁ ws₁ cs₁ w₁ : List ℕ} (A : PlaceAt K gates given records pl ws cs w) (E : Emptied pl ws cs w pl₁ ws₁ cs₁ w₁) where
  -- emptied, told and tidied
  pub explained : {list list' : List ℕ} {e : Explanation} {pl₂ ws₂ cs₂ w₂ pl₃ ws₃ cs₃ w₃ : List ℕ} →
      Attempted (rules.answer_of needed_runs K gates given records (length pl₁)) (why_of needed_runs K gates given records (length pl₁)) pl₁ ws₁ cs₁ w₁ list e pl₂ ws₂ cs₂ w₂ list' → {ok : Bool} → ok ≡ is_ok e.answer → Tidied ok pl₂ ws₂ cs₂ w₂ pl₃ ws₃ cs₃ w₃ → length pl₁ ≡ length pl →
      Explained (rules.answer_of needed_runs K gates given records (length pl)) (why_of needed_runs K gates given records (length pl)) pl ws cs w list e pl₃ ws₃ cs₃ w₃ list'
  explained {list} T o D l = record {
    laid = laid A E T.tried o D;
    lines = T.lines ∙ ap (λ (i : ℕ). put_lines 0 (why_of needed_runs K gates given records i) list) l;
    count = T.count ∙ ap (λ (i : ℕ). length (why_of needed_runs K gates given records i)) l;
  }
