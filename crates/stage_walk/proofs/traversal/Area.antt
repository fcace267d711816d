-- The stack in its columns: what each step of the code makes of the area, the order and the stack. Assumes nothing.
use mathlib.Core.Path.{◌≡◌, refl, sym, ◌∙◌, ap}
use mathlib.Core.Bool.{true, false, not}
use mathlib.Core.List.{List, [], ◌∷◌, reverse, reverse-append}
use Prim.Native.Nat.{ℕ, zero, suc, ◌+◌, ◌*◌, ◌<◌, ◌≤◌}
use native.Mathlib.Omega.{arith}
use native.Mathlib.Numerals.{add-one}
use lib.Dec.{eqb}
use lib.ListN.{length, get_or, set, drop, length-set, drop_of_length-le}
use lib.Seq.{drop-cons, get_or-set_same, get_or-set_other}
use Rattle.rules.specs.Lists.{mem, insert, In, Out}
use Rattle.rules.specs.Graph.{below}
use Rattle.rules.proofs.Lists.Members.{in_reverse, reverse_in, in_get_or}
use Rattle.rules.proofs.Needed.Lacks.{same_truth}
use Rattle.columns.specs.Area.{Frame}
use Rattle.columns.specs.Fields.{ORDER, LISTED, STACK, PHASE}
use Rattle.columns.specs.Lists.{list, Marked}
use Rattle.columns.proofs.Area.Frames.{frame_then, frame_set, frame_more}
use Rattle.columns.proofs.Lists.Swap.{insert_new}
use Rattle.columns.proofs.Lists.Entries.{holds_room, frame_list}
use Rattle.columns.proofs.Lists.Marks.{marks_test, marked_self, marked_frame, marked_push}
use Rattle.stage_walk.specs.Stands.{Context}
use Rattle.stage_walk.specs.Machine.{Item, item, phases, above, Top, Stack, some, items, seen_in, Going, NextAt, to_go, walked, Stepped}
use Rattle.stage_walk.proofs.Gates.{kth_none, kth_some, follow_pin, follow_rank, two_most, reads_frame}
use Rattle.stage_walk.proofs.traversal.Moves.{finish_seen, finish_list, finish_on, chain_few, chain_list, pop, phases_most}

-- areas that agree on the two columns have the same stack
pub items_same : (m : ℕ) (w w' : List ℕ) (d : ℕ) →
    ((i : ℕ) → i < d → (get_or w' (STACK * m + i) 0 ≡ get_or w (STACK * m + i) 0) × (get_or w' (PHASE * m + i) 0 ≡ get_or w (PHASE * m + i) 0)) → items m w' d ≡ items m w d
unfolding items
items_same m w w' zero h = refl
items_same m w w' (suc d) h = rw ((h d (omega arith)).0, (h d (omega arith)).1, items_same m w w' d (λ i l. h i (omega arith)))

length_items : (m : ℕ) (w : List ℕ) (d : ℕ) → length (items m w d) ≡ d
unfolding items
length_items m w zero = refl
length_items m w (suc d) = ap suc (length_items m w d)

-- one item more is the one at the top
pub items_one : (m : ℕ) (w : List ℕ) (d : ℕ) → items m w (d + 1) ≡ item (get_or w (STACK * m + d) 0) (get_or w (PHASE * m + d) 0) ∷ items m w d
unfolding items
items_one m w d = rw (add-one d)

top_of : (C : Context) {seen : List ℕ} {p k : ℕ} {s : List Item} → Stack C.X.g C.X.done C.r seen (item p k ∷ s) → Top C.X.g C.X.done C.r seen p k s
top_of C (some t) = t

mem-reverse : (p : ℕ) (xs : List ℕ) → mem p (reverse xs) ≡ mem p xs
mem-reverse p xs = same_truth (mem p (reverse xs)) (mem p xs) (reverse_in p xs) (in_reverse p xs)

-- a pin's mark tells whether it is listed
pub listed_test : {C : Context} {m : ℕ} {gates w : List ℕ} {d n : ℕ} → Going C m gates w d n → (x : ℕ) → x < m → not (eqb (get_or w (LISTED * m + x) 0) 0) ≡ mem x (seen_in m n w)
listed_test {m = m} {w = w} {n = n} G x h = marks_test G.listed.marks x h ∙ sym (mem-reverse x (list ORDER m n w))

-- p and k are the top's pin and phase
pub record TopAt (C : Context) (m : ℕ) (gates w : List ℕ) (top n p k : ℕ) : Type 0 where
  pub going : Going C m gates w (top + 1) n
  pub pin : p ≡ get_or w (STACK * m + top) 0
  pub phase : k ≡ get_or w (PHASE * m + top) 0

module _ (C : Context) {m : ℕ} {gates w : List ℕ} {top n p k : ℕ} (A : TopAt C m gates w top n p k) where
  abbrev G : Going C m gates w (top + 1) n
  G = A.going

  abbrev xs : List ℕ
  xs = list ORDER m n w

  abbrev S : List Item
  S = items m w top

  here : items m w (top + 1) ≡ item p k ∷ S
  here = rw (A.pin, A.phase) (items_one m w top)

  T : Top C.X.g C.X.done C.r (seen_in m n w) p k S
  T = top_of C (rw here at G.stack)

  -- the top's pin is a pin of the area
  pub pin_in : p < m
  pin_in = omega (arith, T.pin, G.reads.base.size)

  -- the top is in its column
  pub top_in : top < m
  top_in = omega (arith, chain_few C.X.g C.X.done C.r T.rank T.under, length_items m w top, G.reads.base.size)

  phase_most : k ≤ 2
  phase_most = omega (arith, T.opened.most, two_most C p)

  under_most : phases S ≤ 2 * top
  under_most = omega (arith, phases_most C.X.g C.X.done C.r (two_most C) T.under, length_items m w top)

  phases_here : phases (items m w (top + 1)) ≡ k + phases S
  unfolding phases
  phases_here = ap phases here

  -- what is followed from the top's pin may be asked for
  pub next_at : NextAt C m gates w p k
  next_at = record { reads = G.reads; pin = pin_in; most = T.opened.most }

  out : Out p xs
  out = sym (mem-reverse p xs) ∙ T.opened.fresh

  -- a pin that is not listed finds room in the order
  pub room : n < m
  room = holds_room G.listed.held G.listed.once p pin_in out

  module _ (q : ℕ) (eq : q ≡ get_or (below C.X.g C.X.done p) k m) where
    abbrev bs : List ℕ
    bs = below C.X.g C.X.done p

    pins : (x : ℕ) → In x bs → x < m
    pins x i = omega (arith, follow_pin C p x i, G.reads.base.size)

    -- no more is followed: the pin is listed
    pub step_list : (w' : List ℕ) → q ≡ m → w' ≡ set (set w (ORDER * m + n) p) (LISTED * m + p) 1 → Stepped C m gates w (top + 1) n w' top (n + 1)
    unfolding to_go
    step_list w' z ew = rw ew (record {
      went = record {
        frame = frame;
        going = record {
          reads = reads_frame C G.reads frame refl;
          listed = marked_self now;
          stack = rw (seen_is, under_is) (pop C.X.g C.X.done C.r (chain_list C.X.g C.X.done C.r p (omega arith) T.under));
        };
        same = rw (here, seen_is, under_is) (finish_list C.X.g C.X.done C.r C.S.ranked _ p k S (seen_in m n w) T.rank (λ _. T.opened.fresh) (drop_of_length-le bs (kth_none bs m k pins (sym eq ∙ z))));
      };
      less = omega (arith, phases_here, ap phases under_is, phase_most, under_most, top_in, room);
    })
      where
        w₂ : List ℕ
        w₂ = set (set w (ORDER * m + n) p) (LISTED * m + p) 1

        frame : Frame walked m w w₂
        frame = frame_then (frame_set ORDER n p room (omega arith) refl) (frame_set LISTED p 1 pin_in (omega arith) refl)

        now : Marked ORDER LISTED m (n + 1) (insert p xs) w₂
        now = marked_push G.listed p pin_in out (λ d. omega arith) (omega (arith, G.reads.base.area.room)) (omega (arith, G.reads.base.area.room))

        seen_is : seen_in m (n + 1) w₂ ≡ p ∷ seen_in m n w
        seen_is = ap reverse (now.held.is ∙ insert_new p xs out) ∙ reverse-append xs (p ∷ [])

        under_is : items m w₂ top ≡ S
        under_is = items_same m w w₂ top (λ i h. (
          get_or-set_other (set w (ORDER * m + n) p) (LISTED * m + p) (STACK * m + i) 1 0 (λ d. omega (
            arith,
            top_in,
            pin_in,
          )) ∙ get_or-set_other w (ORDER * m + n) (STACK * m + i) p 0 (λ d. omega (arith, room)),
          get_or-set_other (set w (ORDER * m + n) p) (LISTED * m + p) (PHASE * m + i) 1 0 (λ d. omega (
            arith,
            pin_in,
          )) ∙ get_or-set_other w (ORDER * m + n) (PHASE * m + i) p 0 (λ d. omega (arith, room)),
        ))

    -- pin q is next
    module _ (ne : q ≡ m → ⊥) where
      more : k < length bs
      more = kth_some bs m k (λ d. ne (eq ∙ d))

      next : drop k bs ≡ q ∷ drop (suc k) bs
      next = drop-cons bs k m more ∙ ap (λ (x : ℕ). x ∷ drop (suc k) bs) (sym eq)

      in_bs : In q bs
      in_bs = rw eq (in_get_or bs k m more)

      -- the next pin followed is a pin of the area
      pub next_in : q < m
      next_in = pins q in_bs

      -- a phase more is at most 2
      pub next_phase : k < 2
      next_phase = omega (arith, more, two_most C p)

      -- the next pin is listed already: only the phase moves on, as if it had been put on and taken off
      pub step_skip : (w' : List ℕ) → not (eqb (get_or w (LISTED * m + q) 0) 0) ≡ true → w' ≡ set w (PHASE * m + top) (k + 1) → Stepped C m gates w (top + 1) n w' (top + 1) n
      unfolding to_go phases
      step_skip w' t ew = rw ew (record {
        went = record {
          frame = frame_more refl frame;
          going = record {
            reads = reads_frame C G.reads frame refl;
            listed = marked_self (marked_frame G.listed frame refl refl (omega arith) (omega arith));
            stack = rw (seen_is, stack_is) (some (record { pin = T.pin; rank = T.rank; opened = record { most = more; fresh = T.opened.fresh }; under = T.under }));
          };
          same = rw (here, seen_is, stack_is) (finish_seen C.X.g C.X.done C.r C.S.ranked _ q 0 (item p (suc k) ∷ S) (seen_in m n w) refl (sym (listed_test G q next_in) ∙ t)
              ∙ finish_on C.X.g C.X.done C.r C.S.ranked _ p k S (seen_in m n w) T.rank (λ _. T.opened.fresh) q next);
        };
        less = omega (arith, phases_here, ap phases stack_is, next_phase, under_most, top_in);
      })
        where
          w₁ : List ℕ
          w₁ = set w (PHASE * m + top) (k + 1)

          frame : Frame (PHASE ∷ []) m w w₁
          frame = frame_set PHASE top (k + 1) top_in (omega arith) refl

          seen_is : seen_in m n w₁ ≡ seen_in m n w
          seen_is = ap reverse (frame_list frame ORDER n refl (omega arith))

          under_is : items m w₁ top ≡ S
          under_is = items_same m w w₁ top (λ i h. (get_or-set_other w _ _ (k + 1) 0 (λ d. omega (arith, top_in)), get_or-set_other w _ _ (k + 1) 0 (λ d. omega arith)))

          p_is : get_or w₁ (STACK * m + top) 0 ≡ p
          p_is = get_or-set_other w _ _ (k + 1) 0 (λ d. omega (arith, top_in)) ∙ sym A.pin

          k_is : get_or w₁ (PHASE * m + top) 0 ≡ suc k
          k_is = get_or-set_same w _ (k + 1) 0 (omega (arith, top_in, G.reads.base.area.room)) ∙ add-one k

          stack_is : items m w₁ (top + 1) ≡ item p (suc k) ∷ S
          stack_is = rw (items_one m w₁ top, p_is, k_is, under_is)

      -- the next pin is not listed: it is put on the stack
      module _ (t : not (eqb (get_or w (LISTED * m + q) 0) 0) ≡ false) where
        abbrev C₂ : Type 0
        C₂ = Top C.X.g C.X.done C.r (seen_in m n w) q 0 (item p (suc k) ∷ S)

        top₂ : C₂
        top₂ = record {
          pin = follow_pin C p q in_bs;
          rank = omega (arith, follow_rank C p q in_bs, T.rank);
          opened = record { most = omega arith; fresh = sym (listed_test G q next_in) ∙ t };
          under = above {k = suc k} (follow_rank C p q in_bs) (T.pin, T.rank) (record { most = more; fresh = T.opened.fresh }) T.under;
        }

        -- the stack has room for it
        pub next_room : top + 1 < m
        next_room = omega (arith, chain_few C.X.g C.X.done C.r top₂.rank top₂.under, length_items m w top, G.reads.base.size)

        -- three stores put it on the stack
        pub step_on : (w' : List ℕ) → w' ≡ set (set (set w (PHASE * m + top) (k + 1)) (STACK * m + (top + 1)) q) (PHASE * m + (top + 1)) 0 → Stepped C m gates w (top + 1) n w' (top + 2) n
        unfolding to_go phases
        step_on w' ew = rw ew (record {
          went = record {
            frame = frame_more refl frame;
            going = record {
              reads = reads_frame C G.reads frame refl;
              listed = marked_self (marked_frame G.listed frame refl refl (omega arith) (omega arith));
              stack = rw (seen_is, stack_is) (some top₂);
            };
            same = rw (here, seen_is, stack_is) (finish_on C.X.g C.X.done C.r C.S.ranked _ p k S (seen_in m n w) T.rank (λ _. T.opened.fresh) q next);
          };
          less = omega (arith, phases_here, phases_next, next_phase, under_most, top_in);
        })
          where
            w₁ : List ℕ
            w₁ = set w (PHASE * m + top) (k + 1)

            w₂ : List ℕ
            w₂ = set w₁ (STACK * m + (top + 1)) q

            w₃ : List ℕ
            w₃ = set w₂ (PHASE * m + (top + 1)) 0

            frame : Frame (STACK ∷ PHASE ∷ []) m w w₃
            frame = frame_then (frame_set PHASE top (k + 1) top_in (omega arith) refl)
                (frame_then (frame_set STACK (top + 1) q next_room (omega arith) refl) (frame_set PHASE (top + 1) 0 next_room (omega arith) refl))

            seen_is : seen_in m n w₃ ≡ seen_in m n w
            seen_is = ap reverse (frame_list frame ORDER n refl (omega arith))

            long : 16 * m + 512 ≤ length w
            long = G.reads.base.area.room

            q_is : get_or w₃ (STACK * m + (top + 1)) 0 ≡ q
            q_is = get_or-set_other w₂ _ _ 0 0 (λ d. omega (arith, next_room)) ∙ get_or-set_same w₁ _ q 0 (simp length-set (omega (arith, next_room)))

            zero_is : get_or w₃ (PHASE * m + (top + 1)) 0 ≡ 0
            zero_is = get_or-set_same w₂ _ 0 0 (simp length-set (omega (arith, next_room)))

            p_is : get_or w₃ (STACK * m + top) 0 ≡ p
            p_is = get_or-set_other w₂ _ _ 0 0 (λ d. omega (arith, next_room)) ∙ get_or-set_other w₁ _ _ q 0 (λ d. omega arith) ∙ get_or-set_other w _ _ (k + 1) 0 (λ d. omega (
              arith,
              top_in,
            )) ∙ sym A.pin

            k_is : get_or w₃ (PHASE * m + top) 0 ≡ suc k
            k_is = get_or-set_other w₂ _ _ 0 0 (λ d. omega arith) ∙ get_or-set_other w₁ _ _ q 0 (λ d. omega (arith, next_room)) ∙ get_or-set_same w _ (k + 1) 0 (omega (arith, top_in)) ∙ add-one k

            under_is : items m w₃ top ≡ S
            under_is = items_same m w w₃ top (λ i h. (
              get_or-set_other w₂ _ _ 0 0 (λ d. omega (arith, next_room)) ∙ get_or-set_other w₁ _ _ q 0 (λ d. omega arith) ∙ get_or-set_other w _ _ (k + 1) 0 (λ d. omega (arith, top_in)),
              get_or-set_other w₂ _ _ 0 0 (λ d. omega arith) ∙ get_or-set_other w₁ _ _ q 0 (λ d. omega (arith, next_room)) ∙ get_or-set_other w _ _ (k + 1) 0 (λ d. omega arith),
            ))

            stack_is : items m w₃ (top + 2) ≡ item q 0 ∷ item p (suc k) ∷ S
            stack_is =
                let t : top + 2 ≡ top + 1 + 1 = omega arith in
                ap (items m w₃) t ∙ rw (items_one m w₃ (top + 1), items_one m w₃ top, q_is, zero_is, p_is, k_is, under_is)

            phases_next : phases (items m w₃ (top + 2)) ≡ 0 + (suc k + phases S)
            phases_next = ap phases stack_is

-- a stack under way has its top in the column
pub top_at : (C : Context) {m : ℕ} {gates w : List ℕ} {n : ℕ} (top : ℕ) → Going C m gates w (top + 1) n → top < m
top_at C top G = top_in C (record { going = G; pin = refl; phase = refl })
