-- The answer of reading, by the two walks. Assumes nothing.
use mathlib.Core.Path.{◌≡◌, sym, ◌∙◌}
use mathlib.Core.Bool.{Bool, true, false, ◌&&◌}
use mathlib.Core.List.{List}
use Prim.Native.Nat.{ℕ, ◌+◌, ◌*◌, ◌<◌, ◌≤◌}
use native.Mathlib.Omega.{arith}
use lib.Dec.{leb}
use lib.ListN.{length, drop}
use lib.Seq.{sets, sets-eq}
use borrow.Author.Tests.{le-leb, lt-leb, leb-true, leb-false}
use Rattle.rules.specs.Lists.{laid_over}
use Rattle.rules.specs.Graph.{pin_count}
use Rattle.rules.specs.Job.{Job, Job?, no_job, job, got, read_fields, is_padding, fits_program, accept, read_job}
use Rattle.rules.proofs.Lists.Members.{split, and_true}
use Rattle.rules.proofs.Job.Fields.{no_cut}
use Rattle.bits.specs.Fields.{bits_in}
use Rattle.job.specs.Walk.{Met, Measured, MeasuredIn, Walked, sized, accepts}
use Rattle.job.specs.Answers.{Outcome, refused, room_for, laid, read_into}

-- ---- is it a job

-- more than 8,192 bytes are no job
pub too_long : (xs : List ℕ) → 8192 < length xs → read_job xs ≡ no_job
unfolding read_job
too_long xs h = rw (lt-leb (length xs) 8192 h, read_job)

fits_sized : {xs : List ℕ} {at K ng nv nc : ℕ} (m : Met xs at K ng nv nc) → fits_program m.J ≡ sized K ng nc
unfolding fits_program pin_count
fits_sized m = rw (← m.height, ← m.gates, ← m.records)

module _ {xs : List ℕ} {at K ng nv nc : ℕ} (small : length xs ≤ 8192) (M : Measured xs at K ng nv nc) where
  opened : read_job xs ≡ accept (read_fields (bits_in xs))
  unfolding read_job bits_in
  opened = rw (le-leb (length xs) 8192 small, read_job)

  met : (h : at ≤ 8 * length xs) {b : Bool} → is_padding (drop at (bits_in xs)) && sized K ng nc ≡ b → accept (read_fields (bits_in xs)) ≡ elim b [ true ↦ job (M.read h).J | false ↦ no_job ]
  unfolding accept
  met h e = rw ((M.read h).is, accept, fits_sized (M.read h), e)

  -- what the measure does not accept is no job
  pub no_job_lem : accepts xs at K ng nc ≡ false → read_job xs ≡ no_job
  unfolding accepts accept
  no_job_lem e = opened ∙ split (leb at (8 * length xs))
      (λ t. met (leb-true at (8 * length xs) t) (rw t at e))
      (λ t. rw (M.lost (leb-false at (8 * length xs) t)))

  -- what is cut is no job
  pub cut_job : 8 * length xs < at → read_job xs ≡ no_job
  unfolding accept
  cut_job h = opened ∙ rw (M.lost h)

  -- the bytes are the job that was measured
  pub record Is : Type 0 where
    pub inside : at ≤ 8 * length xs
    pub is : read_job xs ≡ job (M.read inside).J

  -- what the measure accepts is the job that it met
  pub a_job : accepts xs at K ng nc ≡ true → Is
  unfolding accepts
  a_job e =
      let a = and_true (leb at (8 * length xs) && is_padding (drop at (bits_in xs))) (sized K ng nc) e in
      let b = and_true (leb at (8 * length xs)) (is_padding (drop at (bits_in xs))) a.0 in
      let h = leb-true at (8 * length xs) b.0 in
      let t : is_padding (drop at (bits_in xs)) && sized K ng nc ≡ true = rw (b.1, a.1) in
      record { inside = h; is = opened ∙ met h t }

-- ---- the refusals

-- measuring changed no area
pub as_before : {xs g v c g₁ v₁ c₁ : List ℕ} {at K ng nv nc : ℕ} → MeasuredIn xs g v c g₁ v₁ c₁ at K ng nv nc → (o : Outcome) (j : Job?) → o ≡ read_into j g₁ v₁ c₁ → o ≡ read_into j g v c
as_before M o j e = rw (← M.gates, ← M.given, ← M.records) e

-- bytes that are no job are refused with 11, the areas unchanged
pub refuses_bytes : (xs g v c : List ℕ) → read_job xs ≡ no_job → refused 11 g v c ≡ read_into (read_job xs) g v c
unfolding read_into
refuses_bytes xs g v c e = rw e

module _ {xs : List ℕ} {at K ng nv nc : ℕ} (small : length xs ≤ 8192) (M : Measured xs at K ng nv nc) (e : accepts xs at K ng nc ≡ true) (g v c : List ℕ) where
  room_is : {b : Bool} → leb ng (length g) && leb nv (length v) && leb nc (length c) ≡ b → room_for (M.read (a_job small M e).inside).J g v c ≡ b
  unfolding room_for
  room_is d = let m = M.read (a_job small M e).inside in rw (← m.gates, ← m.given, ← m.records) d

  -- areas too short for the job are refused with 2, unchanged
  pub refuses_room : leb ng (length g) && leb nv (length v) && leb nc (length c) ≡ false → refused 2 g v c ≡ read_into (read_job xs) g v c
  unfolding read_into
  refuses_room d = rw ((a_job small M e).is, read_into, room_is d)

-- ---- the second walk

laid_over_lem : (vs l : List ℕ) → length vs ≤ length l → sets l 0 vs ≡ laid_over vs l
unfolding laid_over
laid_over_lem vs l h = let e : 0 + length vs ≡ length vs = omega arith in sets-eq vs l 0 (omega arith) ∙ rw e

record Fits (J : Job) (g v c : List ℕ) : Type 0 where
  gates : length J.gates ≤ length g
  given : length J.given ≤ length v
  records : length J.records ≤ length c

fits : (J : Job) (g v c : List ℕ) → room_for J g v c ≡ true → Fits J g v c
unfolding room_for
fits J g v c e =
    let a = and_true (leb (length J.gates) (length g) && leb (length J.given) (length v)) (leb (length J.records) (length c)) e in
    let b = and_true (leb (length J.gates) (length g)) (leb (length J.given) (length v)) a.0 in
    record { gates = leb-true _ _ b.0; given = leb-true _ _ b.1; records = leb-true _ _ a.1 }

module _ {xs g v c g₁ v₁ c₁ : List ℕ} {at K ng nv nc : ℕ} (W : Walked xs g v c g₁ v₁ c₁ at K ng nv nc) where
  whole : {J : Job} {rest : List ℕ} → read_fields (bits_in xs) ≡ got J rest → at ≤ 8 * length xs
  whole e = split (leb at (8 * length xs)) (λ t. leb-true at (8 * length xs) t) (λ t. no_cut (sym (W.measured.lost (leb-false at (8 * length xs) t)) ∙ e))

  abbrev now : Outcome
  now = record { number = 0; height = K; gates = ng; given = nv; records = nc; gates_area = g₁; given_area = v₁; records_area = c₁ }

  laid_now : (h : at ≤ 8 * length xs) → room_for (W.measured.read h).J g v c ≡ true → now ≡ laid (W.measured.read h).J g v c
  unfolding laid
  laid_now h r =
      let m = W.measured.read h in
      let s = W.stored h in
      let f = fits m.J g v c r in
      rw (← laid_over_lem m.J.gates g f.gates, ← laid_over_lem m.J.given v f.given, ← laid_over_lem m.J.records c f.records, ← s.gates, ← s.given, ← s.records, ← m.height, ← m.gates, ← m.given, ← m.records)

  -- a file that is a job is not cut
  pub never_cut : {at₀ K₀ ng₀ nv₀ nc₀ : ℕ} (M : Measured xs at₀ K₀ ng₀ nv₀ nc₀) → at₀ ≤ 8 * length xs → 8 * length xs < at → ⊥
  never_cut M h k = no_cut (sym (W.measured.lost k) ∙ (M.read h).is)

  -- the second walk leaves the job's lists over the front of the areas
  pub reads : {at₀ K₀ ng₀ nv₀ nc₀ : ℕ} (small : length xs ≤ 8192) (M : Measured xs at₀ K₀ ng₀ nv₀ nc₀) → accepts xs at₀ K₀ ng₀ nc₀ ≡ true →
      leb ng₀ (length g) && leb nv₀ (length v) && leb nc₀ (length c) ≡ true → now ≡ read_into (read_job xs) g v c
  unfolding read_into
  reads small M e d =
      let I = a_job small M e in
      let m = M.read I.inside in
      let h = whole m.is in
      let n = W.measured.read h in
      let same : n.J ≡ m.J = let q = sym n.is ∙ m.is in cc in
      let r = room_is small M e g v c d in
      rw (I.is, read_into, r, ← same) (laid_now h (rw same r))
