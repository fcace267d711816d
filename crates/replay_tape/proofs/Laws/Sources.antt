-- A cell's source by what the code tests. Assumes nothing.
use Prim.Native.Nat.{ℕ, ◌+◌, ◌*◌, ◌/◌, ◌%◌, ◌^◌, ◌≤◌, ◌<◌}
use mathlib.Core.Path.{◌≡◌, sym, ◌∙◌, ap, ap₂}
use mathlib.Core.Bool.{true, false, ◌&&◌}
use mathlib.Core.List.{List}
use native.Mathlib.Omega.{arith}
use lib.ListN.{length, get_or, get_or-eq_default}
use borrow.Author.Tests.{le-leb, lt-leb}
use Rattle.rules.specs.Cells.{empty, filled, first_lower, second_lower}
use Rattle.rules.specs.Graph.{leaf, gate, pin_of, literal_of}
use Rattle.rules.specs.Coded.{cell_pin, ands, first_inversion, second_inversion}
use Rattle.rules.proofs.Lists.Members.{split}
use Rattle.rules.proofs.Fold.Bits.{lower_cells}
use Rattle.fold_stage.proofs.Laws.Cells.{get_or_inside}
use Rattle.replay_form.specs.Tape.{Source, old, new, and_source, source_at}
use Rattle.replay_tape.specs.Sources.{load_in, AboveAt, SourceIs}

-- ---- loads

module _ (l : List ℕ) (n p : ℕ) (e : p ≡ n) where
  -- a pin past the numbers loads slot 0
  pub load_past : length l ≤ p → 0 ≡ load_in l n
  unfolding load_in
  load_past h = sym (get_or-eq_default l 0 {n = n} (omega arith))

  -- another what stands at it
  pub load_there : get_or l p 0 ≡ load_in l n
  unfolding load_in
  load_there = rw e

-- ---- sources

module _ (s i c : ℕ) (h : s < 2147483648) where
  -- a slot's literal fits in 32 bits, with a cell's first inversion
  pub first_fits : i ≡ first_inversion c → 2 * s + i < 4294967296
  unfolding first_inversion
  first_fits e = omega arith

  -- and with its second
  pub second_fits : i ≡ second_inversion c → 2 * s + i < 4294967296
  unfolding second_inversion
  second_fits e = omega arith

module _ (cells w : List ℕ) (p : ℕ) (C : AboveAt cells w p) where
  here : get_or cells p 0 ≡ get_or cells p empty
  here = get_or_inside cells p 0 empty C.here

  -- an empty cell has slot 0
  pub source_empty : filled (get_or cells p 0) ≡ false → SourceIs cells w p (old 0)
  unfolding source_at
  source_empty e = record { all = λ K load h. let d : filled (get_or cells p empty) ≡ false = ap filled (sym here) ∙ e in rw (d, source_at) }

  module _ (full : filled (get_or cells p 0) ≡ true) (a : ℕ) (ea : a ≡ first_lower p) where
    held : filled (get_or cells p empty) ≡ true
    held = ap filled (sym here) ∙ full

    first : get_or cells a 0 ≡ get_or cells (first_lower p) empty
    first = rw ea (get_or_inside cells (first_lower p) 0 empty C.first)

    -- a cell that copies has the slot of its first lower cell
    pub source_copies : ands (get_or cells p 0) ≡ false → SourceIs cells w p (old (get_or w a 0))
    unfolding source_at
    source_copies e = record { all = λ K load h. let d : ands (get_or cells p empty) ≡ false = ap ands (sym here) ∙ e in rw (held, lt-leb (2 ^ K) p h, d, source_at, ea) }

    module _ (joins : ands (get_or cells p 0) ≡ true) where
      ands_here : ands (get_or cells p empty) ≡ true
      ands_here = ap ands (sym here) ∙ joins

      lacks : filled (get_or cells (first_lower p) empty) && filled (get_or cells (second_lower p) empty) ≡ false → SourceIs cells w p (old 0)
      unfolding source_at
      lacks e = record { all = λ K load h. rw (held, lt-leb (2 ^ K) p h, ands_here, e, source_at) }

      -- an AND whose first lower cell is empty has slot 0
      pub source_first_lacks : filled (get_or cells a 0) ≡ false → SourceIs cells w p (old 0)
      source_first_lacks e = lacks (let d : filled (get_or cells (first_lower p) empty) ≡ false = ap filled (sym first) ∙ e in rw d)

      module _ (there : filled (get_or cells a 0) ≡ true) (b : ℕ) (eb : b ≡ second_lower p) where
        first_there : filled (get_or cells (first_lower p) empty) ≡ true
        first_there = ap filled (sym first) ∙ there

        second : get_or cells b 0 ≡ get_or cells (second_lower p) empty
        second = rw eb (get_or_inside cells (second_lower p) 0 empty C.second)

        -- so has one whose second is
        pub source_second_lacks : filled (get_or cells b 0) ≡ false → SourceIs cells w p (old 0)
        source_second_lacks e = lacks (let d : filled (get_or cells (second_lower p) empty) ≡ false = ap filled (sym second) ∙ e in rw (first_there, d))

        -- another is an entry over both
        pub source_and : filled (get_or cells b 0) ≡ true → (r : Source) → r ≡ and_source (get_or cells p 0) (get_or w a 0) (get_or w b 0) → SourceIs cells w p r
        unfolding source_at
        source_and e r er = record {
          all = λ K load h.
              let d : filled (get_or cells (second_lower p) empty) ≡ true = ap filled (sym second) ∙ e in
              let both : filled (get_or cells (first_lower p) empty) && filled (get_or cells (second_lower p) empty) ≡ true = rw (first_there, d) in
              rw (held, lt-leb (2 ^ K) p h, ands_here, both, source_at, er, ea, eb, here);
        }

-- ---- slots that are there

-- a source names slots below s
abbrev pub SourceBelow : ℕ → Source → Type 0
SourceBelow s (old x) = x < s
SourceBelow s (new leaf) = Unit {0}
SourceBelow s (new (gate a b)) = (pin_of a < s) × (pin_of b < s)

and_below : (s c x y : ℕ) → x < s → y < s → SourceBelow s (and_source c x y)
unfolding and_source pin_of literal_of first_inversion second_inversion
and_below s c x y a b =
    let e : (2 * x + c / 131072 % 2) / 2 ≡ x = omega arith in
    let d : (2 * y + c / 262144 % 2) / 2 ≡ y = omega arith in
    (rw e a, rw d b)

module _ (K : ℕ) (cells : List ℕ) (load slot : ℕ → ℕ) (p : ℕ) (low : 1 ≤ p) where
  -- a source names slots that are there
  pub source_below : (s : ℕ) → p < 2 ^ K → 0 < s → ((q : ℕ) → p < q → q < 2 ^ (K + 1) → slot q < s) → SourceBelow s (source_at K cells load slot p)
  unfolding source_at
  source_below s high z small =
      let l = lower_cells K p low high in
      let a = small (first_lower p) l.above (omega (arith, l.next, l.inside)) in
      let b = small (second_lower p) (omega (arith, l.above, l.next)) l.inside in
      let t = lt-leb (2 ^ K) p high in
      split (filled (get_or cells p empty))
      (λ k. split (ands (get_or cells p empty))
      (λ e. split (filled (get_or cells (first_lower p) empty) && filled (get_or cells (second_lower p) empty))
      (λ f. rw (k, t, e, f, source_at) (and_below s (get_or cells p empty) _ _ a b))
      (λ f. rw (k, t, e, f, source_at) z))
      (λ e. rw (k, t, e, source_at) a))
      (λ k. rw (k, source_at) z)

  -- it looks at the slots of higher positions alone
  pub source_same : (slot' : ℕ → ℕ) → p < 2 ^ K → ((q : ℕ) → p < q → q < 2 ^ (K + 1) → slot q ≡ slot' q) → source_at K cells load slot p ≡ source_at K cells load slot' p
  unfolding source_at
  source_same slot' high same =
      let l = lower_cells K p low high in
      let a = same (first_lower p) l.above (omega (arith, l.next, l.inside)) in
      let b = same (second_lower p) (omega (arith, l.above, l.next)) l.inside in
      let t = lt-leb (2 ^ K) p high in
      split (filled (get_or cells p empty))
      (λ k. split (ands (get_or cells p empty))
      (λ e. split (filled (get_or cells (first_lower p) empty) && filled (get_or cells (second_lower p) empty))
      (λ f. rw (k, t, e, f, source_at) (ap₂ (λ (x y : ℕ). and_source (get_or cells p empty) x y) a b))
      (λ f. rw (k, t, e, f, source_at)))
      (λ e. rw (k, t, e, source_at) (ap old a)))
      (λ k. rw (k, source_at))

  -- level 0
  pub source_row : 2 ^ K ≤ p → (v : ℕ) → v ≡ load (cell_pin (get_or cells p empty)) → (filled (get_or cells p empty) ≡ false → v ≡ 0) → source_at K cells load slot p ≡ old v
  unfolding source_at
  source_row high v e z = split (filled (get_or cells p empty))
      (λ k. rw (k, le-leb (2 ^ K) p high, source_at, e))
      (λ k. rw (k, source_at, z k))
