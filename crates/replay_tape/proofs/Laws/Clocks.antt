-- One clock over slots, number by number, and what it is of the definitions. Assumes nothing.
use Prim.Native.Nat.{ℕ, zero, suc, ◌+◌, ◌-◌, ◌*◌, ◌/◌, ◌%◌, ◌≤◌, ◌<◌}
use mathlib.Core.Path.{◌≡◌, refl, sym, ◌∙◌, ap, ap₂}
use mathlib.Core.Bool.{Bool, true, false, not}
use mathlib.Core.List.{List, [], ◌∷◌, ◌++◌, map, append_assoc}
use native.Mathlib.Omega.{arith}
use lib.Dec.{eqb}
use lib.ListN.{length, get_or, set, take, drop, length-set, length-append, length-drop, length-map, get_or-append}
use lib.Seq.{get_or-set_same, get_or-set_other, get_or-drop, drop-cons, drop-length, drop-drop, ext_get_or, get_or-append-add, get_or-append_seam}
use borrow.Author.Tests.{eq-eqb, ne_eqb}
use Rattle.rules.specs.Graph.{pin_of, inversion_of, literal_of, literal_bit}
use Rattle.rules.specs.Records.{Group, output, flip_flop, memory, staged_pin}
use Rattle.rules.specs.Fold.{as_number}
use Rattle.rules.proofs.Lists.Members.{split, eqb_true, eqb_false}
use Rattle.replay_form.specs.Clocks.{is_one, literal_out, record_out, handed_out, taken, next_bits}
use Rattle.replay_form.specs.Tape.{slot_bit, run_tape}
use Rattle.rules.specs.Lists.{laid_over}
use Rattle.replay_tape.specs.Running.{entries_of, RunAt}
use Rattle.replay_tape.specs.Clocks.{put_bits, PinsAt, ClockIn, ClockOut, bits_at, place_bit, handed, PlacesAt, pick, datas, FlipsAt, record_places, places_of, flips_from}
use Rattle.replay_tape.proofs.Laws.Running.{literal_number, number_small, length_ran, ran_small}

-- ---- bits to their pins

-- as many bits
pub length_put : (ps vs bits : List ℕ) → length (put_bits ps vs bits) ≡ length bits
unfolding put_bits
length_put [] vs bits = refl
length_put (p ∷ ps) vs bits = length-set (put_bits ps (drop 1 vs) bits) p _ ∙ length_put ps (drop 1 vs) bits

-- the pins from the i-th on have their bits
pub record PutFrom (pins values bits : List ℕ) (i : ℕ) (now : List ℕ) : Type 0 where
  pub upto : i ≤ length pins
  pub len : length now ≡ length bits
  pub done : now ≡ put_bits (drop i pins) (drop i values) bits

module _ (pins values bits : List ℕ) (A : PinsAt pins values bits) where
  -- none at the beginning
  pub put_none : PutFrom pins values bits (length pins) bits
  unfolding put_bits
  put_none = record { upto = omega arith; len = refl; done = rw (drop-length pins) }

  module _ (i : ℕ) (now : List ℕ) (R : PutFrom pins values bits i now) (h : 0 < i) (p : ℕ) (ep : p ≡ get_or pins (i - 1) 0) where
    -- the pin is there
    pub put_inside : p < length now
    put_inside = omega (arith, A.inside (i - 1) (omega (arith, R.upto)), R.len)

    -- one pin more
    pub put_more : (v : ℕ) → v ≡ as_number (is_one (get_or values (i - 1) 0)) → PutFrom pins values bits (i - 1) (set now p v)
    unfolding put_bits
    put_more v ev =
        let s : suc (i - 1) ≡ i = omega arith in
        let z : i - 1 + 0 ≡ i - 1 = omega arith in
        let o : i - 1 + 1 ≡ i = omega arith in
        let d : drop (i - 1) pins ≡ p ∷ drop i pins = drop-cons pins (i - 1) 0 (omega (arith, R.upto)) ∙ rw (s, ep) in
        record {
          upto = omega (arith, R.upto);
          len = length-set now p v ∙ R.len;
          done = rw (d, drop-drop 1 (i - 1) values, o, get_or-drop (i - 1) values 0 0, z, ← ev, ← R.done);
        }

  -- all pins
  pub put_done : (i : ℕ) (now : List ℕ) → PutFrom pins values bits i now → i ≤ 0 → now ≡ put_bits pins values bits
  put_done i now R h = let e : i ≡ 0 = omega arith in R.done ∙ rw e

-- ---- bits handed out

-- a bit for each place
pub length_handed : (ls bits : List ℕ) → length (handed ls bits) ≡ length ls
unfolding handed
length_handed [] bits = refl
length_handed (a ∷ ls) bits = ap suc (length_handed ls bits)

-- the bit of a place
pub get_or_handed : (ls bits : List ℕ) (i : ℕ) → i < length ls → get_or (handed ls bits) i 0 ≡ place_bit bits (get_or ls i 0)
unfolding handed
get_or_handed [] bits i h = absurd (omega arith)
get_or_handed (a ∷ ls) bits zero h = refl
get_or_handed (a ∷ ls) bits (suc i) h = get_or_handed ls bits i (omega arith)

-- the first i places have handed out their bits
pub record HandedTo (places bits out : List ℕ) (i : ℕ) (now : List ℕ) : Type 0 where
  pub upto : i ≤ length places
  pub len : length now ≡ length out
  pub each : (k : ℕ) → k < i → get_or now k 0 ≡ place_bit bits (get_or places k 0)

module _ (places bits out : List ℕ) (A : PlacesAt places bits out) where
  -- none at the beginning
  pub handed_none : HandedTo places bits out 0 out
  handed_none = record { upto = omega arith; len = refl; each = λ k h. absurd (omega arith) }

  module _ (i : ℕ) (h : i < length places) (a : ℕ) (ea : a ≡ get_or places i 0) where
    -- the place's slot is there
    pub place_inside : a / 2 < length bits
    unfolding pin_of
    place_inside = rw ea (A.inside i h)

    -- its bit is a bit
    pub place_small : get_or bits (a / 2) 0 ≤ 1
    unfolding pin_of
    place_small = rw ea (A.bit i h)

    -- one place more
    pub handed_more : (now : List ℕ) → HandedTo places bits out i now → (x : ℕ) → x ≡ get_or bits (a / 2) 0 → HandedTo places bits out (i + 1) (set now i ((a + x) % 2))
    unfolding place_bit slot_bit pin_of
    handed_more now R x ex = record {
      upto = omega arith;
      len = length-set now i _ ∙ R.len;
      each = λ k b. split (eqb k i)
          (λ t. let e = eqb_true k i t in
          rw (e, get_or-set_same now i ((a + x) % 2) 0 (omega (arith, R.len, A.room)), ex, ← ea) (literal_number a (get_or bits (a / 2) 0) place_small))
          (λ t. let e = eqb_false k i t in get_or-set_other now i k _ 0 e ∙ R.each k (omega (arith, e)));
    }

  -- all places
  pub handed_done : (i : ℕ) (now : List ℕ) → HandedTo places bits out i now → length places ≤ i → now ≡ handed places bits
  handed_done i now R h = ext_get_or 0 now (handed places bits) (R.len ∙ A.room ∙ sym (length_handed places bits))
      (λ k b. let l : k < length places = omega (arith, R.len, A.room) in R.each k (omega arith) ∙ sym (get_or_handed places bits k l))

-- ---- the next bits

-- without enable the bit stays
pub pick_old : (e d b : ℕ) → e ≡ 0 → b ≡ pick e d b
unfolding pick
pick_old e d b h = rw (eq-eqb e 0 h, pick)

-- with it the data is taken
pub pick_data : (e d b : ℕ) → (e ≡ 0 → ⊥) → d ≡ pick e d b
unfolding pick
pick_data e d b h = rw (ne_eqb e 0 h, pick)

-- a bit for each flip-flop
pub length_datas : (js out state : List ℕ) → length (datas js out state) ≡ length js
unfolding datas
length_datas [] out state = refl
length_datas (j ∷ js) out state = ap suc (length_datas js out (drop 1 state))

-- a flip-flop's next bit
pub get_or_datas : (js out state : List ℕ) (i : ℕ) → i < length js → get_or (datas js out state) i 0 ≡ pick (get_or out (get_or js i 0) 0) (get_or out (get_or js i 0 + 1) 0) (get_or state i 0)
unfolding datas
get_or_datas [] out state i h = absurd (omega arith)
get_or_datas (j ∷ js) out state zero h = refl
get_or_datas (j ∷ js) out state (suc i) h =
    let e : 1 + i ≡ suc i = omega arith in
    get_or_datas js out (drop 1 state) i (omega arith) ∙ ap (λ (b : ℕ). pick (get_or out (get_or js i 0) 0) (get_or out (get_or js i 0 + 1) 0) b) (get_or-drop 1 state i 0 ∙ ap (λ (n : ℕ). get_or state n 0) e)

-- the first i flip-flops have their next bits
pub record TakenTo (flips out state : List ℕ) (i : ℕ) (now : List ℕ) : Type 0 where
  pub upto : i ≤ length flips
  pub len : length now ≡ length state
  pub each : (k : ℕ) → k < i → get_or now k 0 ≡ pick (get_or out (get_or flips k 0) 0) (get_or out (get_or flips k 0 + 1) 0) (get_or state k 0)
  pub rest : (k : ℕ) → i ≤ k → get_or now k 0 ≡ get_or state k 0

module _ (flips out state : List ℕ) (A : FlipsAt flips out state) where
  -- none at the beginning
  pub taken_none : TakenTo flips out state 0 state
  taken_none = record { upto = omega arith; len = refl; each = λ k h. absurd (omega arith); rest = λ k h. refl }

  module _ (i : ℕ) (h : i < length flips) (j : ℕ) (ej : j ≡ get_or flips i 0) where
    -- a flip-flop's bits were handed out
    pub flip_inside : j + 1 < length out
    flip_inside = rw ej (A.inside i h)

    -- one flip-flop more
    pub taken_more : (now : List ℕ) → TakenTo flips out state i now → (v : ℕ) → v ≡ pick (get_or out j 0) (get_or out (j + 1) 0) (get_or now i 0) → TakenTo flips out state (i + 1) (set now i v)
    taken_more now R v ev = record {
      upto = omega arith;
      len = length-set now i v ∙ R.len;
      each = λ k b. split (eqb k i)
          (λ t. let e = eqb_true k i t in rw (e, get_or-set_same now i v 0 (omega (arith, R.len, A.room)), ← ej, ← R.rest i (omega arith)) ev)
          (λ t. let e = eqb_false k i t in get_or-set_other now i k v 0 e ∙ R.each k (omega (arith, e)));
      rest = λ k b. get_or-set_other now i k v 0 (λ d. omega arith) ∙ R.rest k (omega arith);
    }

  -- all flip-flops
  pub taken_done : (i : ℕ) (now : List ℕ) → TakenTo flips out state i now → length flips ≤ i → now ≡ datas flips out state
  taken_done i now R h = ext_get_or 0 now (datas flips out state) (R.len ∙ A.room ∙ sym (length_datas flips out state))
      (λ k b. let l : k < length flips = omega (arith, R.len, A.room) in R.each k (omega arith) ∙ sym (get_or_datas flips out state k l))

-- 0 is the bit 0
pub bit_zero : (x : ℕ) → x ≡ 0 → 0 ≡ as_number (is_one x)
unfolding as_number is_one
bit_zero x e = rw (eq-eqb x 0 e)

-- anything else the bit 1
pub bit_one : (x : ℕ) → (x ≡ 0 → ⊥) → 1 ≡ as_number (is_one x)
unfolding as_number is_one
bit_one x e = rw (ne_eqb x 0 e)

-- ---- what these are of the definitions

handed_append : (xs ys bits : List ℕ) → handed (xs ++ ys) bits ≡ handed xs bits ++ handed ys bits
unfolding handed
handed_append [] ys bits = refl
handed_append (x ∷ xs) ys bits = ap (λ (l : List ℕ). place_bit bits x ∷ l) (handed_append xs ys bits)

place_literal : (bits : List ℕ) (s a : ℕ) → place_bit bits (literal_of s (inversion_of a)) ≡ as_number (literal_bit a (slot_bit bits s))
unfolding place_bit literal_bit literal_of inversion_of pin_of
place_literal bits s a =
    let i : (2 * s + a % 2) % 2 ≡ a % 2 = omega arith in
    let p : (2 * s + a % 2) / 2 ≡ s = omega arith in
    ap₂ (λ (x y : ℕ). as_number (elim (eqb x 0) as (λ z. Bool) [ true ↦ slot_bit bits y | false ↦ not (slot_bit bits y) ])) i p

place_pin : (bits : List ℕ) (s : ℕ) → place_bit bits (literal_of s 0) ≡ as_number (slot_bit bits s)
unfolding place_bit literal_bit literal_of inversion_of pin_of
place_pin bits s =
    let i : (2 * s + 0) % 2 ≡ 0 = omega arith in
    let p : (2 * s + 0) / 2 ≡ s = omega arith in
    ap₂ (λ (x y : ℕ). as_number (elim (eqb x 0) as (λ z. Bool) [ true ↦ slot_bit bits y | false ↦ not (slot_bit bits y) ])) i p

module _ (v : ℕ → Bool) (bits : List ℕ) (read : ℕ → ℕ) (R : (q : ℕ) → slot_bit bits (read q) ≡ v q) where
  literal_place : (l : ℕ) → place_bit bits (literal_of (read (pin_of l)) (inversion_of l)) ≡ as_number (literal_out v l)
  unfolding literal_out
  literal_place l = place_literal bits (read (pin_of l)) l ∙ ap (λ (b : Bool). as_number (literal_bit l b)) (R (pin_of l))

  memory_places : (ls : List ℕ) → handed (map (λ l. literal_of (read (pin_of l)) (inversion_of l)) ls) bits ≡ map (λ l. as_number (literal_out v l)) ls
  unfolding handed
  memory_places [] = refl
  memory_places (l ∷ ls) = ap₂ (λ (x : ℕ) (xs : List ℕ). x ∷ xs) (literal_place l) (memory_places ls)

  record_places_lem : (x : Group) → handed (record_places read x) bits ≡ record_out v x
  unfolding handed record_places record_out
  record_places_lem (output l) = ap (λ (n : ℕ). n ∷ []) (literal_place l)
  record_places_lem (flip_flop e d) = ap₂ (λ (x y : ℕ). x ∷ y ∷ []) (literal_place e) (literal_place d)
  record_places_lem (memory ls) = memory_places ls
  record_places_lem (staged_pin p) = ap (λ (n : ℕ). n ∷ []) (place_pin bits (read p) ∙ ap as_number (R p))

  -- the places' bits are those that the records hand out
  pub places_hand : (gs : List Group) → handed (places_of read gs) bits ≡ handed_out v gs
  unfolding handed places_of handed_out
  places_hand [] = refl
  places_hand (x ∷ xs) = handed_append (record_places read x) (places_of read xs) bits ∙ ap₂ (λ (a b : List ℕ). a ++ b) (record_places_lem x) (places_hand xs)

module _ (v : ℕ → Bool) where
  number_bit : (b : ℕ) → b ≤ 1 → b ≡ as_number (is_one b)
  unfolding as_number is_one
  number_bit zero h = refl
  number_bit (suc zero) h = refl
  number_bit (suc (suc b)) h = absurd (omega arith)

  pick_taken : (e d b : ℕ) → b ≤ 1 → as_number (taken v e d b) ≡ pick (as_number (literal_out v e)) (as_number (literal_out v d)) b
  unfolding taken pick as_number
  pick_taken e d b h = split (literal_out v e) (λ t. rw (t, taken)) (λ t. rw (t, taken) (sym (number_bit b h)))

  -- the next bits, by the bits handed out
  pub flips_next : (gs : List Group) (pre state : List ℕ) → ((i : ℕ) → get_or state i 0 ≤ 1) → next_bits v gs state ≡ datas (flips_from (length pre) gs) (pre ++ handed_out v gs) state
  unfolding next_bits flips_from datas handed_out record_out
  flips_next [] pre state b = refl
  flips_next (output l ∷ xs) pre state b =
      let x = as_number (literal_out v l) ∷ [] in
      flips_next xs (pre ++ x) state b ∙ rw (length-append pre x, append_assoc pre x (handed_out v xs))
  flips_next (flip_flop e d ∷ xs) pre state b =
      let x = as_number (literal_out v e) ∷ as_number (literal_out v d) ∷ [] in
      let n = flips_next xs (pre ++ x) (drop 1 state) (λ i. rw (get_or-drop 1 state i 0) (b (1 + i))) in
      ap₂ (λ (y : ℕ) (ys : List ℕ). y ∷ ys)
      (pick_taken e d (get_or state 0 0) (b 0) ∙ sym (ap₂ (λ (y z : ℕ). pick y z (get_or state 0 0)) (get_or-append_seam pre _ _ 0) (get_or-append-add pre (x ++ handed_out v xs) 1 0)))
      (n ∙ rw (length-append pre x, append_assoc pre x (handed_out v xs)))
  flips_next (memory ls ∷ xs) pre state b =
      let x = map (λ l. as_number (literal_out v l)) ls in
      flips_next xs (pre ++ x) state b ∙ rw (length-append pre x, length-map ls (λ l. as_number (literal_out v l)), append_assoc pre x (handed_out v xs))
  flips_next (staged_pin p ∷ xs) pre state b =
      let x = as_number (v p) ∷ [] in
      flips_next xs (pre ++ x) state b ∙ rw (length-append pre x, append_assoc pre x (handed_out v xs))

-- ---- one clock

-- a bit that is put is a bit
pub put_small : (ps vs bits : List ℕ) (s : ℕ) → s < length bits → get_or bits s 0 ≤ 1 → get_or (put_bits ps vs bits) s 0 ≤ 1
unfolding put_bits
put_small [] vs bits s l h = h
put_small (p ∷ ps) vs bits s l h = split (eqb s p)
    (λ t. let e = eqb_true s p t in rw (e, get_or-set_same (put_bits ps (drop 1 vs) bits) p (as_number (is_one (get_or vs 0 0))) 0 (omega (arith, length_put ps (drop 1 vs) bits))) (number_small (is_one (get_or vs 0 0))))
    (λ t. rw (get_or-set_other (put_bits ps (drop 1 vs) bits) p s (as_number (is_one (get_or vs 0 0))) 0 (eqb_false s p t)) (put_small ps (drop 1 vs) bits s l h))

-- pins stay where they are
pub pins_kept : (pins values bits u : List ℕ) → length u ≡ length bits → PinsAt pins values bits → PinsAt pins values u
pins_kept pins values bits u e A = record { enough = A.enough; inside = λ i h. omega (arith, A.inside i h) }

module _ (tape places flips driven leaves line bits state out : List ℕ) (pins n : ℕ) (C : ClockIn tape places flips driven leaves line bits state out pins n) where
  module _ (u : List ℕ) (eu : u ≡ put_bits leaves line bits) where
    -- the line's bits are put
    pub line_length : length u ≡ length bits
    line_length = ap length eu ∙ length_put leaves line bits

    module _ (w : List ℕ) (ew : w ≡ put_bits driven state u) where
      -- and those of the flip-flops
      pub put_length : length w ≡ length bits
      put_length = ap length ew ∙ length_put driven state u ∙ line_length

      -- the tape can be run
      pub clock_run : RunAt pins n tape w
      clock_run = record {
        there = C.run.there;
        room = omega (arith, put_length, C.run.room);
        below = C.run.below;
        bit = λ s h.
            let l : s < length bits = omega (arith, C.run.room) in
            rw (ew, eu) (put_small driven state (put_bits leaves line bits) s (omega (arith, length_put leaves line bits)) (put_small leaves line bits s l (C.run.bit s h)));
      }

      module _ (x : List ℕ) (ex : x ≡ laid_over (run_tape (entries_of n tape) (take pins w)) w) where
        -- a slot's bit is the tape's
        pub slot_there : (s : ℕ) → s < pins + n → get_or x s 0 ≡ get_or (run_tape (entries_of n tape) (take pins w)) s 0
        unfolding laid_over
        slot_there s h = rw ex (get_or-append (run_tape (entries_of n tape) (take pins w)) _ 0 s (omega (arith, length_ran pins n tape w clock_run n)))

        -- as many bits
        pub slots_length : length x ≡ length bits
        unfolding laid_over
        slots_length =
            let r = run_tape (entries_of n tape) (take pins w) in
            ap length ex ∙ length-append r (drop (length r) w) ∙ omega (arith, length-drop (length r) w, length_ran pins n tape w clock_run n, put_length, C.run.room)

        -- the places can hand out
        pub clock_places : PlacesAt places x out
        clock_places = record {
          room = C.room;
          inside = λ i h. omega (arith, C.named i h, slots_length, C.run.room);
          bit = λ i h. rw (slot_there (pin_of (get_or places i 0)) (C.named i h)) (ran_small pins n tape w clock_run n (pin_of (get_or places i 0)) (C.named i h));
        }

        -- the bits of all slots
        pub clock_bits : x ≡ bits_at tape driven leaves line bits state pins n
        unfolding bits_at
        clock_bits = ex ∙ rw (ew, eu)

        -- the flip-flops can take theirs
        pub clock_flips : (y : List ℕ) → y ≡ handed places x → FlipsAt flips y state
        clock_flips y e = record { room = C.takes.room; inside = λ i h. omega (arith, C.takes.inside i h, ap length e, length_handed places x, C.room) }

        -- what a clock leaves
        pub clock_out : (y z : List ℕ) → y ≡ handed places x → z ≡ datas flips y state → ClockOut tape places flips driven leaves line bits state pins n x z y
        clock_out y z ey ez = record { slots = clock_bits; hands = ey ∙ ap (handed places) clock_bits; next = ez ∙ ap (λ (o : List ℕ). datas flips o state) (ey ∙ ap (handed places) clock_bits) }
