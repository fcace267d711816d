-- Lines of a recording over slots, clock by clock, and what they are of the definitions. Assumes nothing.
use Prim.Native.Nat.{ℕ, zero, suc, ◌+◌, ◌-◌, ◌*◌, ◌≤◌, ◌<◌}
use mathlib.Core.Path.{◌≡◌, refl, sym, ◌∙◌, ap}
use mathlib.Core.List.{List, [], ◌∷◌, ◌++◌, append_assoc, append-nil}
use native.Mathlib.Omega.{arith}
use native.Mathlib.Nat.{suc-mul}
use lib.Dec.{eqb}
use lib.ListN.{length, get_or, take, drop, length-append, length-drop, take-append-drop, get_or-append}
use lib.Seq.{get_or-take, get_or-drop, length-take-le, drop-drop, take_at, drop_at}
use Rattle.rules.specs.Lists.{laid_over}
use Rattle.rules.specs.Graph.{Node}
use Rattle.rules.proofs.Lists.Members.{split}
use Rattle.replay_form.specs.Clocks.{line_leaves, pin_bits, Circuit, Valuation, Ran, clock, line_size, and_then, run}
use Rattle.replay_form.specs.Tape.{slot_bit, run_tape}
use Rattle.replay_form.proofs.Tape.{length_run}
use Rattle.replay_tape.specs.Running.{entries_of}
use Rattle.replay_tape.specs.Clocks.{put_bits, handed, place_bit, pick, datas, bits_at, ClockIn, ClockOut, places_of, flips_from}
use Rattle.replay_tape.proofs.Laws.Running.{number_small, ran_small}
use Rattle.replay_tape.proofs.Laws.Clocks.{length_put, length_handed, length_datas, clock_run, slot_there, slots_length}
use Rattle.replay_tape.proofs.Laws.Circuits.{put_append, put_out, run_keeps, Resting, length_pins, clock_is}
use Rattle.replay_run.specs.Lines.{lines_run, LinesIn, LinesOut}

one_more : (left m : ℕ) → 0 < left → left * m ≡ (left - 1) * m + m
one_more zero m h = absurd (omega arith)
one_more (suc l) m h = let p : suc l - 1 ≡ l = omega arith in rw p (suc-mul l m)

then_assoc : (a b c : Ran) → and_then a (and_then b c) ≡ and_then (and_then a b) c
unfolding and_then
then_assoc a b c = ap (λ (o : List ℕ). record { out = o; end = c.end }) (sym (append_assoc a.out b.out c.out))

-- `left` lines are left: what was handed out stands before `to`, and nothing behind it is changed
pub record Clocked (tape places flips driven leaves recording bits₀ state₀ out₀ : List ℕ) (pins n k left from to : ℕ) (bits state out : List ℕ) : Type 0 where
  pub blen : length bits ≡ length bits₀
  pub slen : length state ≡ length state₀
  pub olen : length out ≡ length out₀
  pub bit : (s : ℕ) → s < pins → get_or bits s 0 ≤ 1
  pub ahead : from + left * length leaves ≤ length recording
  pub room : to + left * length places ≤ length out
  pub rest : drop to out ≡ drop to out₀
  pub done : lines_run tape places flips driven leaves pins n k recording bits₀ state₀
      ≡ and_then (record { out = take to out; end = state }) (lines_run tape places flips driven leaves pins n left (drop from recording) bits state)

module _ (tape places flips driven leaves recording bits₀ state₀ out₀ : List ℕ) (pins n k : ℕ) (A : LinesIn tape places flips driven leaves recording bits₀ state₀ out₀ pins n k) where
  -- no line at the beginning
  pub clocked_none : Clocked tape places flips driven leaves recording bits₀ state₀ out₀ pins n k k 0 0 bits₀ state₀ out₀
  unfolding and_then
  clocked_none = record {
    blen = refl;
    slen = refl;
    olen = refl;
    bit = A.run.bit;
    ahead = omega (arith, A.recorded);
    room = omega (arith, A.room);
    rest = refl;
    done = refl;
  }

  module _ (left from to : ℕ) (bits state out : List ℕ) (R : Clocked tape places flips driven leaves recording bits₀ state₀ out₀ pins n k left from to bits state out) (h : 0 < left)
      (e s : ℕ) (ee : e ≡ from + length leaves) (es : s ≡ to + length places) where
    -- the next line is in the recording
    pub line_there : e ≤ length recording
    line_there = omega (arith, R.ahead, one_more left (length leaves) h)

    -- and its bits have room
    pub part_there : s ≤ length out
    part_there = omega (arith, R.room, one_more left (length places) h)

    abbrev line : List ℕ
    line = take (e - from) (drop from recording)

    line_length : length line ≡ length leaves
    line_length = length-take-le (e - from) (drop from recording) (omega (arith, length-drop from recording, line_there)) ∙ omega arith

    part_length : length (take (s - to) (drop to out)) ≡ length places
    part_length = length-take-le (s - to) (drop to out) (omega (arith, length-drop to out, part_there)) ∙ omega arith

    -- what is asked of a clock
    pub clock_in : ClockIn tape places flips driven leaves line bits state (take (s - to) (drop to out)) pins n
    clock_in = record {
      run = record { there = A.run.there; room = omega (arith, R.blen, A.run.room); below = A.run.below; bit = R.bit };
      drives = record { enough = omega (arith, R.slen, A.drives); inside = λ i b. omega (arith, A.driven_in i b, R.blen) };
      lines = record { enough = omega (arith, line_length); inside = λ i b. omega (arith, A.leaves_in i b, R.blen) };
      room = part_length;
      named = A.named;
      takes = record { room = R.slen ∙ A.flops; inside = λ i b. omega (arith, A.flips_in i b, part_length) };
    }

    module _ (bits' state' y : List ℕ) (O : ClockOut tape places flips driven leaves line bits state pins n bits' state' y) where
      abbrev put : List ℕ
      put = put_bits driven state (put_bits leaves line bits)

      slots : bits' ≡ laid_over (run_tape (entries_of n tape) (take pins put)) put
      unfolding bits_at
      slots = O.slots

      kept_bit : (i : ℕ) → i < pins → get_or bits' i 0 ≤ 1
      kept_bit i b =
          let l : i < pins + n = omega arith in
          rw (slot_there tape places flips driven leaves line bits state (take (s - to) (drop to out)) pins n clock_in (put_bits leaves line bits) refl put refl bits' slots i l)
          (ran_small pins n tape put (clock_run tape places flips driven leaves line bits state (take (s - to) (drop to out)) pins n clock_in (put_bits leaves line bits) refl put refl) n i l)

      y_length : length y ≡ length places
      y_length = ap length O.hands ∙ length_handed places _

      abbrev out' : List ℕ
      out' = take to out ++ (y ++ drop (s - to) (drop to out))

      to_length : length (take to out) ≡ to
      to_length = length-take-le to out (omega (arith, part_there))

      head_length : length (take to out ++ y) ≡ s
      head_length = length-append (take to out) y ∙ omega (arith, to_length, y_length)

      out_there : out' ≡ (take to out ++ y) ++ drop s out
      out_there =
          let d : to + (s - to) ≡ s = omega arith in
          rw (drop-drop (s - to) to out, d) (sym (append_assoc (take to out) y (drop s out)))

      left_run : (left : ℕ) → 0 < left → (r b t : List ℕ) → lines_run tape places flips driven leaves pins n left r b t
          ≡ (let b₂ = bits_at tape driven leaves (take (length leaves) r) b t pins n in
          let o = handed places b₂ in
          and_then (record { out = o; end = datas flips o t }) (lines_run tape places flips driven leaves pins n (left - 1) (drop (length leaves) r) b₂ (datas flips o t)))
      unfolding lines_run
      left_run zero z r b t = absurd (omega arith)
      left_run (suc l) z r b t = let p : suc l - 1 ≡ l = omega arith in rw p

      more_done : lines_run tape places flips driven leaves pins n k recording bits₀ state₀
          ≡ and_then (record { out = take s out'; end = state' }) (lines_run tape places flips driven leaves pins n (left - 1) (drop e recording) bits' state')
      unfolding and_then
      more_done =
          let f : e - from ≡ length leaves = omega arith in
          let b : bits_at tape driven leaves (take (length leaves) (drop from recording)) bits state pins n ≡ bits' = ap (λ (m : ℕ). bits_at tape driven leaves (take m (drop from recording)) bits state pins n) (sym f) ∙ sym O.slots in
          let o : handed places bits' ≡ y = ap (handed places) O.slots ∙ sym O.hands in
          let t : datas flips y state ≡ state' = ap (λ (z : List ℕ). datas flips z state) O.hands ∙ sym O.next in
          let d : drop (length leaves) (drop from recording) ≡ drop e recording = drop-drop (length leaves) from recording ∙ ap (λ (m : ℕ). drop m recording) (sym ee) in
          let q : take s out' ≡ take to out ++ y = ap (take s) out_there ∙ take_at (take to out ++ y) (drop s out) s head_length in
          R.done ∙ rw (left_run left h (drop from recording) bits state, b, o, t, d, q)
          (then_assoc (record { out = take to out; end = state }) (record { out = y; end = state' }) (lines_run tape places flips driven leaves pins n (left - 1) (drop e recording) bits' state'))

      -- one line more
      pub clocked_more : (m : ℕ) → m ≡ left - 1 → Clocked tape places flips driven leaves recording bits₀ state₀ out₀ pins n k m e s bits' state' out'
      clocked_more m em = rw em one
        where
          one : Clocked tape places flips driven leaves recording bits₀ state₀ out₀ pins n k (left - 1) e s bits' state' out'
          one =
              let l : length out' ≡ length out = ap length out_there ∙ length-append (take to out ++ y) (drop s out) ∙ omega (arith, head_length, length-drop s out, part_there) in
              let sl : length state' ≡ length flips = ap length O.next ∙ length_datas flips _ state in
              record {
                blen = slots_length tape places flips driven leaves line bits state (take (s - to) (drop to out)) pins n clock_in (put_bits leaves line bits) refl put refl bits' slots ∙ R.blen;
                slen = sl ∙ sym A.flops;
                olen = l ∙ R.olen;
                bit = kept_bit;
                ahead = omega (arith, R.ahead, one_more left (length leaves) h);
                room = omega (arith, R.room, one_more left (length places) h, l);
                rest =
                    ap (drop s) out_there ∙ drop_at (take to out ++ y) (drop s out) s head_length
                    ∙ ap (λ (m : ℕ). drop m out) es ∙ sym (drop-drop (length places) to out) ∙ ap (drop (length places)) R.rest ∙ drop-drop (length places) to out₀ ∙ ap (λ (m : ℕ). drop m out₀) (sym es);
                done = more_done;
              }

  -- all lines
  pub clocked_done : (left from to : ℕ) (bits state out : List ℕ) → Clocked tape places flips driven leaves recording bits₀ state₀ out₀ pins n k left from to bits state out → left ≤ 0 →
      LinesOut tape places flips driven leaves recording bits₀ state₀ out₀ pins n k bits state out
  unfolding lines_run and_then laid_over
  clocked_done left from to bits state out R h =
      let z : left ≡ 0 = omega arith in
      let t : length (take to out) ≡ to = length-take-le to out (omega (arith, R.room)) in
      let r : lines_run tape places flips driven leaves pins n k recording bits₀ state₀ ≡ record { out = take to out ++ []; end = state } = R.done ∙ rw z in
      let v : take to out ++ [] ≡ take to out = append-nil (take to out) in
      record {
        slots = R.blen;
        end = sym (ap (λ (x : Ran). x.end) r);
        hands = rw (r, v, t, ← R.rest) (sym (take-append-drop to out));
      }

-- ---- what lines are of the definitions

handed_small : (ls bits : List ℕ) (i : ℕ) → get_or (handed ls bits) i 0 ≤ 1
unfolding handed place_bit
handed_small [] bits i = omega arith
handed_small (a ∷ ls) bits zero = number_small _
handed_small (a ∷ ls) bits (suc i) = handed_small ls bits i

pick_small : (e d b : ℕ) → d ≤ 1 → b ≤ 1 → pick e d b ≤ 1
unfolding pick
pick_small e d b hd hb = split (eqb e 0) (λ t. rw (t, pick) hb) (λ t. rw (t, pick) hd)

datas_small : (js out state : List ℕ) → ((i : ℕ) → get_or out i 0 ≤ 1) → ((i : ℕ) → get_or state i 0 ≤ 1) → (i : ℕ) → get_or (datas js out state) i 0 ≤ 1
unfolding datas
datas_small [] out state o s i = omega arith
datas_small (j ∷ js) out state o s zero = pick_small _ _ _ (o (j + 1)) (s 0)
datas_small (j ∷ js) out state o s (suc i) = datas_small js out (drop 1 state) o (λ m. rw (get_or-drop 1 state m 0) (s (1 + m))) i

module _ (g : List Node) (driven tape line state bits : List ℕ) (n : ℕ) (len : length state ≡ length driven) (R : Resting g driven bits) where
  abbrev put₂ : List ℕ
  put₂ = put_bits driven state (put_bits (line_leaves g driven) line bits)

  abbrev ran₂ : List ℕ
  ran₂ = run_tape (entries_of n tape) (take (length g) put₂)

  -- a clock leaves the bits of pins that no leaf is
  pub resting_kept : Resting g driven (bits_at tape driven (line_leaves g driven) line bits state (length g) n)
  unfolding bits_at laid_over
  resting_kept =
      let p : length put₂ ≡ length bits = length_put driven state _ ∙ length_put (line_leaves g driven) line bits in
      let t : length (take (length g) put₂) ≡ length g = length-take-le (length g) put₂ (omega (arith, p, R.room)) in
      let l : length g ≤ length ran₂ = omega (arith, length_run (entries_of n tape) (take (length g) put₂), t) in
      record {
        one = R.one;
        room = omega (arith, length-append ran₂ (drop (length ran₂) put₂), l);
        none = R.none;
        rest = λ q h o.
            get_or-append ran₂ _ 0 q (omega (arith, l)) ∙ run_keeps (entries_of n tape) (take (length g) put₂) q (omega (arith, t)) ∙ get_or-take (length g) put₂ q 0 h
            ∙ ap (λ (b : List ℕ). get_or b q 0) (sym (put_append driven (line_leaves g driven) state line bits len)) ∙ put_out (driven ++ line_leaves g driven) (state ++ line) bits q o ∙ R.rest q h o;
      }

zero_bit : (g : List Node) (driven line state : List ℕ) → get_or (pin_bits g driven line state) 0 0 ≡ 0
unfolding pin_bits
zero_bit g driven line state = refl

module _ (C : Circuit) (B : Valuation) (tape : List ℕ) (n : ℕ) (read : ℕ → ℕ) (inside : (q : ℕ) → read q < length C.graph + n)
    (W : (bits : List ℕ) → 1 ≤ length bits → get_or bits 0 0 ≡ 0 → (q : ℕ) → slot_bit (run_tape (entries_of n tape) bits) (read q) ≡ B bits q)
    (flops : length (flips_from 0 C.groups) ≡ length C.driven) where
  -- What the lines of the code hand out and leave is a run of the definitions.
  pub lines_run_lem : (k : ℕ) (recording bits state : List ℕ) → length state ≡ length C.driven → ((i : ℕ) → get_or state i 0 ≤ 1) → Resting C.graph C.driven bits →
      lines_run tape (places_of read C.groups) (flips_from 0 C.groups) C.driven (line_leaves C.graph C.driven) (length C.graph) n k recording bits state ≡ run C B k recording state
  unfolding lines_run run line_size
  lines_run_lem zero recording bits state len small R = refl
  lines_run_lem (suc k) recording bits state len small R =
      let leaves = line_leaves C.graph C.driven in
      let line = take (length leaves) recording in
      let pins = pin_bits C.graph C.driven line state in
      let b = bits_at tape C.driven leaves line bits state (length C.graph) n in
      let o = handed (places_of read C.groups) b in
      let s = datas (flips_from 0 C.groups) o state in
      let w : (q : ℕ) → slot_bit (run_tape (entries_of n tape) pins) (read q) ≡ B pins q = W pins (omega (arith, length_pins C.graph C.driven line state bits len R, R.one)) (zero_bit C.graph C.driven line state) in
      let c : clock C B line state ≡ record { out = o; end = s } = clock_is C B tape n read inside line bits state len small R w b s o (record { slots = refl; hands = refl; next = refl }) in
      let i = lines_run_lem k (drop (length leaves) recording) b s (length_datas (flips_from 0 C.groups) o state ∙ flops) (datas_small (flips_from 0 C.groups) o state (handed_small (places_of read C.groups) b) small) (resting_kept C.graph C.driven tape line state bits n len R) in
      rw (c, i)
