-- Running the tape of a plan gives the bits of its fold. Assumes nothing.
use Prim.Native.Nat.{ℕ, zero, suc, ◌+◌, ◌-◌, ◌*◌, ◌/◌, ◌%◌, ◌^◌, ◌≤◌, ◌<◌}
use mathlib.Core.Path.{◌≡◌, refl, sym, ◌∙◌, ap, ap₂}
use mathlib.Core.Bool.{Bool, true, false, not, ◌&&◌}
use mathlib.Core.List.{List, [], ◌∷◌, ◌++◌}
use native.Mathlib.Omega.{arith}
use native.Mathlib.Nat.{suc-mul}
use lib.Dec.{leb, ltb, eqb}
use lib.Pow.{pow_pos}
use lib.ListN.{length, get_or, take, drop, length-append, get_or-append}
use lib.Seq.{get_or-append_seam, get_or-append-add}
use borrow.Author.Tests.{leb-true, leb-false, ltb-true, ltb-false}
use Rattle.rules.specs.Cells.{empty, filled, first_lower, second_lower}
use Rattle.rules.specs.Graph.{Node, pin_of, inversion_of, literal_of, literal_bit}
use Rattle.rules.specs.Fold.{as_number, lowest}
use Rattle.rules.specs.Coded.{cell_pin, ands, first_inversion, second_inversion, pins, bit_of, load_of, cell_bits, fold_stages}
use Rattle.rules.proofs.Lists.Members.{split, and_true}
use Rattle.rules.proofs.Stage.Puts.{cell}
use Rattle.rules.proofs.Stage.Staged.{two_step}
use Rattle.rules.proofs.Fold.Bits.{lower_cells, lowest_stands}
use Rattle.coded.proofs.Bits.{bit_empty, bit_load, bit_copies, bit_lacks, bit_ands, load_none, load_found, length-cell_bits, get_or-cell_bits}
use Rattle.replay_form.specs.Clocks.{is_one}
use Rattle.replay_form.specs.Tape.{slot_bit, entry_bit, run_tape, Source, old, new, and_source, source_at, Made, put, scan, stage_made, later_slot, made_from}
use Rattle.replay_form.proofs.Cutting.{is_one_number}

-- ---- a longer tape keeps the slots filled

-- running a tape adds a bit an entry
pub length_run : (xs : List Node) (bits : List ℕ) → length (run_tape xs bits) ≡ length bits + length xs
unfolding run_tape
length_run [] bits = omega arith
length_run (x ∷ xs) bits = length_run xs _ ∙ omega (arith, length-append bits (as_number (entry_bit bits x) ∷ []))

-- a tape runs part after part
pub run_append : (xs ys : List Node) (bits : List ℕ) → run_tape (xs ++ ys) bits ≡ run_tape ys (run_tape xs bits)
unfolding run_tape
run_append [] ys bits = refl
run_append (x ∷ xs) ys bits = run_append xs ys _

module _ (bits : List ℕ) where
  -- slot s is there, and has the bit b once the tape has run
  pub record Gives (tape : List Node) (s : ℕ) (b : Bool) : Type 0 where
    pub inside : s < length bits + length tape
    pub bit : slot_bit (run_tape tape bits) s ≡ b

  gives_more : (tape : List Node) (x : Node) (s : ℕ) (b : Bool) → Gives tape s b → Gives (tape ++ (x ∷ [])) s b
  unfolding slot_bit run_tape
  gives_more tape x s b G = record {
    inside = omega (arith, G.inside, length-append tape (x ∷ []));
    bit = rw (run_append tape (x ∷ []) bits) (ap is_one (get_or-append (run_tape tape bits) _ 0 s (omega (arith, G.inside, length_run tape bits))) ∙ G.bit);
  }

  gives_new : (tape : List Node) (x : Node) → Gives (tape ++ (x ∷ [])) (length bits + length tape) (entry_bit (run_tape tape bits) x)
  unfolding slot_bit run_tape
  gives_new tape x = record {
    inside = omega (arith, length-append tape (x ∷ []));
    bit = rw (run_append tape (x ∷ []) bits, ← length_run tape bits) (ap is_one (get_or-append_seam (run_tape tape bits) _ [] 0) ∙ is_one_number _);
  }

  -- ---- one cell

  abbrev SourceGives : List Node → Source → Bool → Type 0
  SourceGives tape (old s) b = Gives tape s b
  SourceGives tape (new x) b = entry_bit (run_tape tape bits) x ≡ b

  literal_slot : (s i : ℕ) (b : List ℕ) → i < 2 → literal_bit (literal_of s i) (slot_bit b (pin_of (literal_of s i))) ≡ literal_bit i (slot_bit b s)
  unfolding literal_bit literal_of inversion_of pin_of
  literal_slot s i b h =
      let e : (2 * s + i) % 2 ≡ i % 2 = omega arith in
      let p : (2 * s + i) / 2 ≡ s = omega arith in
      ap₂ (λ (x y : ℕ). elim (eqb x 0) as (λ z. Bool) [ true ↦ slot_bit b y | false ↦ not (slot_bit b y) ]) e p

  and_gives : (tape : List Node) (c s t : ℕ) (x y : Bool) → Gives tape s x → Gives tape t y → SourceGives tape (and_source c s t) (literal_bit (first_inversion c) x && literal_bit (second_inversion c) y)
  unfolding and_source entry_bit first_inversion second_inversion
  and_gives tape c s t x y S U =
      let b = run_tape tape bits in
      rw (literal_slot s (first_inversion c) b (omega arith), literal_slot t (second_inversion c) b (omega arith))
      (ap₂ (λ (u w : Bool). literal_bit (first_inversion c) u && literal_bit (second_inversion c) w) S.bit U.bit)

  module _ (K : ℕ) (cl : List ℕ) (load : ℕ → Bool) (slot_of : ℕ → ℕ) where
    module _ (tape : List Node) (slot : ℕ → ℕ) (Z : Gives tape 0 false) (L : (n : ℕ) → Gives tape (slot_of n) (load n)) (p : ℕ) (low : 1 ≤ p) (high : p < 2 ^ (K + 1))
        (H : (q : ℕ) → p < q → q < 2 ^ (K + 1) → Gives tape (slot q) (bit_of K cl load q)) where
      source_gives : SourceGives tape (source_at K cl slot_of slot p) (bit_of K cl load p)
      unfolding source_at
      source_gives = split (filled (get_or cl p empty))
          (λ k. split (leb (2 ^ K) p)
          (λ t. rw (k, t, source_at, bit_load K cl load p (leb-true (2 ^ K) p t) high k) (L (cell_pin (get_or cl p empty))))
          (λ t.
          let h : p < 2 ^ K = leb-false (2 ^ K) p t in
          let l = lower_cells K p low h in
          let A = H (first_lower p) l.above (omega (arith, l.next, l.inside)) in
          let B = H (second_lower p) (omega (arith, l.above, l.next)) l.inside in
          split (ands (get_or cl p empty))
          (λ e. split (filled (get_or cl (first_lower p) empty) && filled (get_or cl (second_lower p) empty))
          (λ f.
          let b = and_true (filled (get_or cl (first_lower p) empty)) (filled (get_or cl (second_lower p) empty)) f in
          rw (k, t, e, f, source_at, bit_ands K cl load p low h k e b.0 b.1) (and_gives tape (get_or cl p empty) _ _ _ _ A B))
          (λ f. rw (k, t, e, f, source_at, bit_lacks K cl load p low h k e f) Z))
          (λ e. rw (k, t, e, source_at, bit_copies K cl load p low h k e) A)))
          (λ k. rw (k, source_at, bit_empty K cl load p k) Z)

    -- ---- one stage

    -- the slots of the n highest positions give their bits
    record Scanned (tape : List Node) (n : ℕ) (r : Made) : Type 0 where
      pub len : length r.slots ≡ n
      pub grows : (s : ℕ) (b : Bool) → Gives tape s b → Gives r.tape s b
      pub each : (k : ℕ) → k < n → Gives r.tape (get_or r.slots k 0) (bit_of K cl load (2 ^ (K + 1) - n + k))

    here : (n : ℕ) → 2 ^ (K + 1) - suc n + 0 ≡ 2 ^ (K + 1) - suc n
    here n = omega arith

    there : (n k : ℕ) → n < 2 ^ (K + 1) → 2 ^ (K + 1) - suc n + suc k ≡ 2 ^ (K + 1) - n + k
    there n k h = omega arith

    put_scanned : (tape : List Node) (n : ℕ) (r : Made) → n < 2 ^ (K + 1) → Scanned tape n r → (x : Source) → SourceGives r.tape x (bit_of K cl load (2 ^ (K + 1) - suc n)) → Scanned tape (suc n) (put (length bits) r x)
    unfolding put
    put_scanned tape n r h S (old s) G = record { len = ap suc S.len; grows = S.grows; each = each }
      where
        each : (k : ℕ) → k < suc n → Gives r.tape (get_or (s ∷ r.slots) k 0) (bit_of K cl load (2 ^ (K + 1) - suc n + k))
        each zero b = rw (here n) G
        each (suc k) b = rw (there n k h) (S.each k (omega arith))
    put_scanned tape n r h S (new x) G = record { len = ap suc S.len; grows = λ s b t. gives_more r.tape x s b (S.grows s b t); each = each }
      where
        each : (k : ℕ) → k < suc n → Gives (r.tape ++ (x ∷ [])) (get_or ((length bits + length r.tape) ∷ r.slots) k 0) (bit_of K cl load (2 ^ (K + 1) - suc n + k))
        each zero b = rw (here n, ← G) (gives_new r.tape x)
        each (suc k) b = rw (there n k h) (gives_more r.tape x _ _ (S.each k (omega arith)))

    module _ (tape : List Node) (Z : Gives tape 0 false) (L : (n : ℕ) → Gives tape (slot_of n) (load n)) where
      scanned : (n : ℕ) → n < 2 ^ (K + 1) → Scanned tape n (scan n (length bits) K cl slot_of tape)
      unfolding scan
      scanned zero h = record { len = refl; grows = λ s b t. t; each = λ k b. absurd (omega arith) }
      scanned (suc n) h =
          let r = scan n (length bits) K cl slot_of tape in
          let S = scanned n (omega arith) in
          let above : (q : ℕ) → 2 ^ (K + 1) - suc n < q → q < 2 ^ (K + 1) → Gives r.tape (get_or r.slots (q - (2 ^ (K + 1) - n)) 0) (bit_of K cl load q) =
          λ q a b. let e : 2 ^ (K + 1) - n + (q - (2 ^ (K + 1) - n)) ≡ q = omega arith in rw e at (S.each (q - (2 ^ (K + 1) - n)) (omega arith)) in
          put_scanned tape n r (omega arith) S _
          (source_gives r.tape _ (S.grows 0 false Z) (λ m. S.grows _ _ (L m)) (2 ^ (K + 1) - suc n) (omega arith) (omega arith) above)

      -- a stage's slots give its bits
      record Staged (r : Made) : Type 0 where
        pub len : length r.slots ≡ 2 ^ (K + 1)
        pub grows : (s : ℕ) (b : Bool) → Gives tape s b → Gives r.tape s b
        pub each : (p : ℕ) → p < 2 ^ (K + 1) → Gives r.tape (get_or r.slots p 0) (bit_of K cl load p)

      staged : Staged (stage_made (length bits) K cl slot_of tape)
      unfolding stage_made bit_of
      staged = record { len = omega (arith, S.len, pow_pos (K + 1)); grows = S.grows; each = each }
        where
          r : Made
          r = scan (2 ^ (K + 1) - 1) (length bits) K cl slot_of tape

          S : Scanned tape (2 ^ (K + 1) - 1) r
          S = scanned (2 ^ (K + 1) - 1) (omega (arith, pow_pos (K + 1)))

          each : (p : ℕ) → p < 2 ^ (K + 1) → Gives r.tape (get_or (0 ∷ r.slots) p 0) (bit_of K cl load p)
          each zero b = S.grows 0 false Z
          each (suc p) b = let e : 2 ^ (K + 1) - (2 ^ (K + 1) - 1) + p ≡ suc p = omega arith in rw e at (S.each p (omega arith))

      -- and what the next stage loads
      later_gives : (n : ℕ) → let r = stage_made (length bits) K cl slot_of tape in Gives r.tape (later_slot K cl r.slots n) (load_of K cl load n)
      unfolding later_slot
      later_gives n = cell (lowest K (pins cl) n)
          (λ e. rw (e, later_slot, load_none K cl load n e) (staged.grows 0 false Z))
          (λ p e. rw (e, later_slot, load_found K cl load n p e) (staged.each p (omega (arith, (lowest_stands K (pins cl) n p e).high, two_step K))))

  -- ---- all the stages

  module _ (K : ℕ) where
    -- number c of the slots gives number c of the fold
    pub record Folds (n : ℕ) (load : ℕ → Bool) (plan : List ℕ) (tape : List Node) (r : Made) : Type 0 where
      pub len : length r.slots ≡ n * 2 ^ (K + 1)
      pub grows : (s : ℕ) (b : Bool) → Gives tape s b → Gives r.tape s b
      pub each : (c : ℕ) → c < n * 2 ^ (K + 1) → Gives r.tape (get_or r.slots c 0) (is_one (get_or (fold_stages n K load plan) c 0))

    -- Running the tape gives every position of any plan its folded bit, where the slots of the loads do.
    pub tape_folds : (n : ℕ) (load : ℕ → Bool) (slot_of : ℕ → ℕ) (plan : List ℕ) (tape : List Node) → Gives tape 0 false → ((k : ℕ) → Gives tape (slot_of k) (load k)) →
        Folds n load plan tape (made_from n (length bits) K slot_of tape plan)
    unfolding made_from fold_stages
    tape_folds zero load slot_of plan tape Z L = record { len = omega arith; grows = λ s b t. t; each = λ c b. absurd (omega arith) }
    tape_folds (suc n) load slot_of plan tape Z L =
        let cl = take (2 ^ (K + 1)) plan in
        let s = stage_made (length bits) K cl slot_of tape in
        let S = staged K cl load slot_of tape Z L in
        let r = made_from n (length bits) K (later_slot K cl s.slots) s.tape (drop (2 ^ (K + 1)) plan) in
        let R = tape_folds n (load_of K cl load) (later_slot K cl s.slots) (drop (2 ^ (K + 1)) plan) s.tape (S.grows 0 false Z) (later_gives K cl load slot_of tape Z L) in
        let f = fold_stages n K (load_of K cl load) (drop (2 ^ (K + 1)) plan) in
        let m = length-cell_bits K cl load in
        let first : (c : ℕ) → c < 2 ^ (K + 1) → Gives r.tape (get_or (s.slots ++ r.slots) c 0) (is_one (get_or (cell_bits K cl load ++ f) c 0)) =
        λ c h.
        let a : get_or (s.slots ++ r.slots) c 0 ≡ get_or s.slots c 0 = get_or-append s.slots r.slots 0 c (omega (arith, S.len)) in
        let b : is_one (get_or (cell_bits K cl load ++ f) c 0) ≡ bit_of K cl load c = ap is_one (get_or-append (cell_bits K cl load) f 0 c (omega arith) ∙ get_or-cell_bits K cl load c h) ∙ is_one_number _ in
        rw (a, b) (R.grows _ _ (S.each c h)) in
        let rest : (c : ℕ) → c < n * 2 ^ (K + 1) → Gives r.tape (get_or (s.slots ++ r.slots) (2 ^ (K + 1) + c) 0) (is_one (get_or (cell_bits K cl load ++ f) (2 ^ (K + 1) + c) 0)) =
        λ c h.
        let a : get_or (s.slots ++ r.slots) (2 ^ (K + 1) + c) 0 ≡ get_or r.slots c 0 = ap (λ (u : ℕ). get_or (s.slots ++ r.slots) (u + c) 0) (sym S.len) ∙ get_or-append-add s.slots r.slots c 0 in
        let b : get_or (cell_bits K cl load ++ f) (2 ^ (K + 1) + c) 0 ≡ get_or f c 0 = ap (λ (u : ℕ). get_or (cell_bits K cl load ++ f) (u + c) 0) (sym m) ∙ get_or-append-add (cell_bits K cl load) f c 0 in
        rw (a, b) (R.each c h) in
        record {
          len = length-append s.slots r.slots ∙ omega (arith, S.len, R.len, suc-mul n (2 ^ (K + 1)));
          grows = λ x b t. R.grows x b (S.grows x b t);
          each = λ c h. split (ltb c (2 ^ (K + 1))) (λ t. first c (ltb-true c (2 ^ (K + 1)) t))
              (λ t.
              let l : 2 ^ (K + 1) ≤ c = ltb-false c (2 ^ (K + 1)) t in
              let e : 2 ^ (K + 1) + (c - 2 ^ (K + 1)) ≡ c = omega arith in
              rw e at (rest (c - 2 ^ (K + 1)) (omega (arith, suc-mul n (2 ^ (K + 1))))));
        }
