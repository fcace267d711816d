-- The last tests, the sizes, and the answer. Assumes nothing.
use Prim.Native.Nat.{ℕ, zero, suc, ◌+◌, ◌-◌, ◌*◌, ◌/◌, ◌^◌, ◌≤◌, ◌<◌}
use mathlib.Core.Path.{◌≡◌, refl, sym, ◌∙◌, ap}
use mathlib.Core.Logic.{inl, inr}
use mathlib.Core.Bool.{Bool, true, false, not, ◌&&◌}
use mathlib.Core.List.{List, [], ◌∷◌}
use native.Mathlib.Omega.{arith}
use native.Mathlib.Nat.{mul-le-mul_right, div-mul-le_self, mod-eq_of_lt}
use lib.Dec.{leb, ltb}
use lib.ListN.{length, get_or, take, drop, replicate, length-replicate, get_or-replicate}
use lib.Seq.{length-take-le}
use borrow.Author.Tests.{le-leb, lt-leb, leb-true, ltb-true, ltb-false, not-true, not-false}
use Rattle.std.specs.Prelude.{Result, Ok, Err}
use Rattle.rules.specs.Lists.{mem, every, In}
use Rattle.rules.specs.Cells.{is_height, rooms, word_limit}
use Rattle.rules.specs.Graph.{graph_of, pin_count}
use Rattle.rules.specs.Records.{groups_of, waiting_of}
use Rattle.rules.specs.Reservation.{reserved, reservable}
use Rattle.rules.specs.Checks.{plan_sized, refusal_of, pin_shown}
use Rattle.rules.specs.Build.{Stage}
use Rattle.rules.specs.Coded.{cell_pin, pins}
use Rattle.rules.specs.Faults.{faultless, fault_at, first_may, fault_from, written_in, last_right, fault_of, cut, fault}
use Rattle.rules.proofs.Lists.Members.{split, and_true, in_nil, in_here, in_there}
use Rattle.rules.proofs.Demand.{wait_ends}
use Rattle.cells.specs.Answers.{or_zero}
use Rattle.cells.proofs.Heights.{or_zero_true}
use Rattle.refusals.specs.declared.Refusal.{Refusal}
use Rattle.refusals.specs.declared.Refusal.TheVariants.{WrongPlan}
use Rattle.refusals.specs.Numbers.{number_of}
use Rattle.refusals.proofs.Numbers.{number_is}
use Rattle.checks.specs.Values.{Says}
use Rattle.checks.specs.Passed.{Passed}
use Rattle.checks.proofs.Laws.Passed.{passed}
use Rattle.coded.proofs.Cells.{small_filled}
use Rattle.placer_start.specs.declared.reservation.Count.{Count}
use Rattle.placer_start.specs.Waiting.{Readable}
use Rattle.placer_start.specs.Reservation.{SetAside, Judged}
use Rattle.reservation_count.specs.Counts.{CountAt}
use Rattle.plan_check_stage.specs.Marks.{marked, Marks}
use Rattle.plan_check_stage.specs.Cells.{Gives}
use Rattle.plan_check_stage.proofs.Laws.Marks.{mark_past, mark_in, mark_out}
use Rattle.plan_check.specs.declared.stages.Place.{Place}
use Rattle.plan_check.specs.Room.{RoomAt, InAt, RoomCounted}
use Rattle.plan_check.specs.Ends.{EndsWritten}
use Rattle.plan_check.specs.Stages.{fault_for, PlanHere, FirstAt, FirstSays, LastAt, LastSays, MarkedAt, MarkedSays, PlanAt, PlanSays}
use Rattle.plan_check.specs.Answers.{plan_fits, judged, plan_checker, outcome}
use Rattle.plan_check.proofs.Laws.Loads.{high}
use Rattle.plan_check.proofs.Laws.Stages.{at_place}
use Rattle.plan_check.proofs.Laws.Ends.{every_same}

-- ---- last of all

module _ (K : ℕ) (records marks : List ℕ) (count : Count) (A : LastAt K records count) (limit : ℕ) (el : limit ≡ or_zero (is_height K) (word_limit K)) (t : Bool) (J : Judged count limit t) where
  limit_is : limit ≡ word_limit K
  limit_is = rw (A.tall.height, or_zero_true (word_limit K)) at el

  judge : t ≡ not (reservable K (groups_of records))
  judge = J.is K (groups_of records) limit_is A.counts

  -- the reservation is over
  pub last_over : t ≡ true → LastSays K records marks (at_place 0 0)
  unfolding last_right fault_for
  last_over e = record { is = λ ss W m few R. let d : reservable K (groups_of records) ≡ false = not-true (reservable K (groups_of records)) (sym judge ∙ e) in rw d }

  module _ (fits : t ≡ false) (b : Bool) (E : EndsWritten records marks b) where
    reserves : reservable K (groups_of records) ≡ true
    reserves = not-false (reservable K (groups_of records)) (sym judge ∙ fits)

    written : (ss : List Stage) → ((q : ℕ) → q < 65536 → written_in q ss ≡ marked marks q) → (m : ℕ) → m ≤ 65536 → Readable m records → every (λ q. written_in q ss) (waiting_of (groups_of records) []) ≡ b
    written ss W m few R = every_same (λ q. written_in q ss) (marked marks) (waiting_of (groups_of records) [])
        (λ q i. elim (wait_ends q (groups_of records) [] i) [
          | inl z ↦ in_nil q z
          | inr z ↦ W q (omega (arith, R.named q z))
        ]) ∙ sym E.is

    -- an endpoint is missing
    pub last_missing : b ≡ false → LastSays K records marks (at_place 0 0)
    unfolding last_right fault_for
    last_missing e = record { is = λ ss W m few R. let d : every (λ q. written_in q ss) (waiting_of (groups_of records) []) ≡ false = written ss W m few R ∙ e in rw (reserves, d) }

    -- all is right
    pub last_right_lem : b ≡ true → LastSays K records marks (Ok tt)
    unfolding last_right fault_for
    last_right_lem e = record { is = λ ss W m few R. let d : every (λ q. written_in q ss) (waiting_of (groups_of records) []) ≡ true = written ss W m few R ∙ e in rw (reserves, d) }

-- ---- the whole plan

module _ (K : ℕ) (gates marks records plan words counts : List ℕ) (n : ℕ) (count : Count) (looks written : List ℕ) (A : MarkedAt K gates records plan counts n count looks written) where
  -- the stages may be checked
  pub first_at : FirstAt K gates plan counts n looks written
  first_at = record { here = A.here; held = A.held; size = A.size; none = A.none }

  -- and the end
  pub last_at : LastAt K records count
  last_at = record { tall = A.here.tall; ends = record { readable = A.right.readable; short = A.right.short }; counts = A.counted; few = A.few }

  module _ (limit aside room : ℕ) (el : limit ≡ or_zero (is_height K) (word_limit K)) (S : SetAside count aside) (er : room ≡ limit - aside) where
    room_is : room ≡ word_limit K - reserved (groups_of records)
    room_is = let e : limit ≡ word_limit K = rw (A.here.tall.height, or_zero_true (word_limit K)) at el in er ∙ rw (e, S.is (groups_of records) A.counted)

    module _ (written' : List ℕ) (r : Result (Unit {0}) Place) (F : FirstSays K (graph_of gates) marks plan words counts n room written' r) where
      first : (given : List ℕ) → Gives given marks → fault_from K (graph_of gates) given (first_may (graph_of gates) given) (word_limit K - reserved (groups_of records)) 1 (cut n K plan words counts) ≡ fault_for r
      first given G = rw (← room_is) (F.is given G)

      -- a stage has a fault
      pub marked_wrong : (p : Place) → r ≡ Err p → MarkedSays K gates marks records plan words counts n r
      unfolding fault fault_of fault_for
      marked_wrong p t = record { is = λ given G. let f : fault_from K (graph_of gates) given (first_may (graph_of gates) given) (word_limit K - reserved (groups_of records)) 1 (cut n K plan words counts) ≡ fault_at p.stage p.position = first given G ∙ rw t in rw (f, t, fault_of) }

      -- none has
      pub marked_last : r ≡ Ok tt → (q : Result (Unit {0}) Place) → LastSays K records written' q → MarkedSays K gates marks records plan words counts n q
      unfolding fault fault_of fault_for
      marked_last t q L = record {
        is = λ given G.
            let f : fault_from K (graph_of gates) given (first_may (graph_of gates) given) (word_limit K - reserved (groups_of records)) 1 (cut n K plan words counts) ≡ faultless = first given G ∙ rw t in
            L.is (cut n K plan words counts) (rw t at F.each) (pin_count gates) A.here.pins A.right ∙ rw (f, fault_of);
      }

-- zeros have no mark
zero_mark : (n q : ℕ) → marked (replicate n 0) q ≡ false
unfolding marked
zero_mark n q = split (ltb q n)
    (λ t. let e : ◌≡◌ {A = ℕ} (get_or (replicate n 0) q 0) 0 = get_or-replicate n q 0 0 (ltb-true q n t) in rw e)
    (λ t. sym (mark_past (replicate n 0) q q refl (omega (arith, length-replicate {A = ℕ} n 0, ltb-false q n t))))

module _ (K : ℕ) (gates given records plan words counts : List ℕ) (n : ℕ) (count : Count) (A : PlanAt K gates given records plan counts n count) where
  -- with areas of zeros
  pub zeros_at : (looks written : List ℕ) → looks ≡ replicate 65536 0 → written ≡ replicate 65536 0 → MarkedAt K gates records plan counts n count looks written
  zeros_at looks written el ew = record {
    here = A.here;
    right = A.right;
    counted = A.counted;
    few = A.few;
    held = record { size = ap length el ∙ length-replicate {A = ℕ} 65536 0; none = λ e q. rw el (zero_mark 65536 q); some = λ e. absurd (e refl) };
    size = ap length ew ∙ length-replicate {A = ℕ} 65536 0;
    none = λ q. rw ew (zero_mark 65536 q);
  }

  own : (c : ℕ) → c < 65536 → cell_pin c ≡ c
  unfolding cell_pin
  own c b = rw (small_filled c (omega arith), cell_pin) (mod-eq_of_lt b)

  -- the given pins are their own cells
  own_pins : (xs : List ℕ) → ((q : ℕ) → In q xs → q < 65536) → pins xs ≡ xs
  unfolding pins
  own_pins [] h = refl
  own_pins (x ∷ xs) h = (λ i. own x (h x (in_here x xs)) i ∷ own_pins xs (λ q j. h q (in_there q x xs j)) i)

  -- their marks
  pub gives : (zeros marks : List ℕ) → zeros ≡ replicate 65536 0 → Marks (pins given) 1 zeros marks → Gives given marks
  gives zeros marks ez M = record {
    says = λ q. split (ltb q 65536)
        (λ t.
        let b : q < length zeros = omega (arith, ltb-true q 65536 t, ap length ez ∙ length-replicate {A = ℕ} 65536 0) in
        split (mem q given)
        (λ i. mark_in (pins given) 1 zeros marks M q b (rw p i) ∙ sym i)
        (λ i. mark_out (pins given) 1 zeros marks M q b (rw p i) ∙ rw ez (zero_mark 65536 q) ∙ sym i))
        (λ t.
        let b : 65536 ≤ q = ltb-false q 65536 t in
        sym (mark_past marks q q refl (omega (arith, M.len, ap length ez ∙ length-replicate {A = ℕ} 65536 0)))
        ∙ sym (split (mem q given) (λ i. absurd (omega (arith, A.named q i, A.here.pins))) (λ i. i)));
  }
    where
      p : pins given ≡ given
      p = own_pins given (λ q i. omega (arith, A.named q i, A.here.pins))

  -- the first fault
  pub plan_says : (marks : List ℕ) → Gives given marks → (r : Result (Unit {0}) Place) → MarkedSays K gates marks records plan words counts n r → PlanSays K gates given records plan words counts n r
  plan_says marks G r M = record { is = M.is given G }

-- ---- sizes

module _ (K plan counts n : ℕ) (t : Bool) (et : t ≡ is_height K && plan_sized K plan) where
  -- no plan of whole stages
  pub fits_plan : t ≡ false → false ≡ is_height K && plan_fits K plan counts n
  unfolding plan_fits
  fits_plan e = split (is_height K) (λ h. let d : plan_sized K plan ≡ false = rw h at (sym et ∙ e) in rw (h, d)) (λ h. rw h)

  module _ (e : t ≡ true) (m : ℕ) (em : m ≡ or_zero (is_height K) (rooms K plan)) where
    parts : (is_height K ≡ true) × (plan_sized K plan ≡ true)
    parts = and_true (is_height K) (plan_sized K plan) (sym et ∙ e)

    rooms_are : m ≡ rooms K plan
    rooms_are = rw (parts.0, or_zero_true (rooms K plan)) at em

    -- too few rooms
    pub fits_rooms : m < n → false ≡ is_height K && plan_fits K plan counts n
    unfolding plan_fits
    fits_rooms h = rw (parts.0, parts.1, lt-leb n (rooms K plan) (omega (arith, rooms_are)))

    -- the counts decide
    pub fits_counts : n ≤ m → leb n counts ≡ is_height K && plan_fits K plan counts n
    unfolding plan_fits
    fits_counts h = rw (parts.0, parts.1, le-leb n (rooms K plan) (omega (arith, rooms_are)))

-- ---- the answer

-- where no check refuses the reservation may be counted
pub room_at : (K : ℕ) (s : Bool) (gates given records : List ℕ) {u : Unit {0}} → Says (refusal_of K s gates given records) gates (Ok u) → RoomAt gates records
room_at K s gates given records S =
    let P = passed K s gates given records (sym S.number) in
    record { right = record { short = P.short; readable = P.readable; named = P.named }; few = P.few }

-- the height is looked at first
pub height_first : (K : ℕ) (b : Bool) (gates given records : List ℕ) → refusal_of K (is_height K && b) gates given records ≡ refusal_of K b gates given records
unfolding refusal_of
height_first K b gates given records = split (is_height K) (λ h. let z : (is_height K && b) ≡ b = rw h in rw z) (λ h. rw (h, refusal_of))

module _ (K : ℕ) (gates given records plan words counts : List ℕ) (n : ℕ) (s : Bool) (es : s ≡ is_height K && plan_fits K (length plan) (length counts) n) where
  abbrev refused : ℕ
  refused = refusal_of K (plan_fits K (length plan) (length counts) n) gates given records

  is_refused : refusal_of K s gates given records ≡ refused
  is_refused = ap (λ (b : Bool). refusal_of K b gates given records) es ∙ height_first K (plan_fits K (length plan) (length counts) n) gates given records

  checker_refused : (m : ℕ) → refused ≡ m → (m ≡ 0 → ⊥) → plan_checker K gates given records plan words counts n ≡ record { number = m; stage = 0; position = 0; pin = pin_shown m gates }
  unfolding plan_checker
  checker_refused zero e d = absurd (d refl)
  checker_refused (suc m) e d = rw (e, plan_checker)

  checker_judged : refused ≡ 0 → plan_checker K gates given records plan words counts n ≡ judged (fault K gates given records plan words counts n)
  unfolding plan_checker
  checker_judged e = rw (e, plan_checker)

  -- one of 1 to 5 and 23
  pub answer_refused : (w : Refusal) → Says {A = Unit {0}} (refusal_of K s gates given records) gates (Err w) → outcome (Err (record { why = w; stage = 0; position = 0 })) ≡ plan_checker K gates given records plan words counts n
  unfolding outcome
  answer_refused w S = sym (checker_refused (number_of w) (sym (S.number ∙ is_refused)) (number_is w) ∙ (λ i. record { number = number_of w; stage = 0; position = 0; pin = sym (S.pin ∙ ap (λ (m : ℕ). pin_shown m gates) (sym S.number)) i }))

  module _ {u : Unit {0}} (S : Says (refusal_of K s gates given records) gates (Ok u)) where
    none : refused ≡ 0
    none = sym (S.number ∙ is_refused)

    P : Passed K (plan_fits K (length plan) (length counts) n) gates given records
    P = passed K (plan_fits K (length plan) (length counts) n) gates given records none

    readable : Readable (pin_count gates) records
    readable = record { short = P.short; readable = P.readable; named = P.named }

    here : PlanHere K gates plan counts n
    unfolding plan_fits rooms
    here =
        let a = and_true (plan_sized K (length plan) && leb n (rooms K (length plan))) (leb n (length counts)) P.areas in
        let b = and_true (plan_sized K (length plan)) (leb n (rooms K (length plan))) a.0 in
        let m : n * 2 ^ (K + 1) ≤ length plan / 2 ^ (K + 1) * 2 ^ (K + 1) = mul-le-mul_right (2 ^ (K + 1)) (leb-true n (length plan / 2 ^ (K + 1)) b.1) in
        record { tall = high K P.height; pins = P.few; stages = omega (arith, div-mul-le_self (length plan) (2 ^ (K + 1))); counted = leb-true _ _ a.1 }

    -- the plan may be checked
    pub plan_at : (count : Count) → RoomCounted records count → PlanAt K gates given records plan counts n count
    plan_at count R = record { here = here; right = readable; counted = R.counts; few = R.few; named = P.given_named }

    -- a fault
    pub answer_fault : (p : Place) → PlanSays K gates given records plan words counts n (Err p) → outcome (Err (record { why = WrongPlan; stage = p.stage; position = p.position })) ≡ plan_checker K gates given records plan words counts n
    unfolding outcome judged fault_for
    answer_fault p L = sym (checker_judged none ∙ ap judged (sym L.is))

    -- none
    pub answer_none : {v : Unit {0}} → PlanSays K gates given records plan words counts n (Ok v) → outcome (Ok tt) ≡ plan_checker K gates given records plan words counts n
    unfolding outcome judged fault_for
    answer_none L = sym (checker_judged none ∙ ap judged (sym L.is))

-- ---- the reservation

-- in arrays of zeros
pub arrays_at : (gates records : List ℕ) → RoomAt gates records → (pins : ℕ) → pins ≡ pin_count gates → (heads links stamps : List ℕ) → heads ≡ replicate 65536 0 → links ≡ replicate 65536 0 → stamps ≡ replicate 65536 0 →
    InAt records heads links stamps pins
arrays_at gates records A pins e heads links stamps eh el es = record {
  right = rw e A.right;
  few = omega (arith, A.few);
  head = omega (arith, A.few, ap length eh ∙ length-replicate {A = ℕ} 65536 0);
  link = omega (arith, A.right.short, ap length el ∙ length-replicate {A = ℕ} 65536 0);
  stamp = omega (arith, A.few, ap length es ∙ length-replicate {A = ℕ} 65536 0);
}

module _ (records heads links stamps : List ℕ) (pins : ℕ) (A : InAt records heads links stamps pins) where
  -- the parts that are lent
  pub count_at : (e f : ℕ) → e ≡ pins → f ≡ pins → CountAt records (take (e - 0) (drop 0 heads)) links (take (f - 0) (drop 0 stamps))
  count_at e f ee ef =
      let a : length (take (e - 0) (drop 0 heads)) ≡ pins = length-take-le (e - 0) heads (omega (arith, A.head)) ∙ omega arith in
      let b : length (take (f - 0) (drop 0 stamps)) ≡ pins = length-take-le (f - 0) stamps (omega (arith, A.stamp)) ∙ omega arith in
      record { right = rw a A.right; pins = omega (arith, A.few); same = omega arith; room = A.link }
