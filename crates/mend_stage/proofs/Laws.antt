-- A cell by what the code tests, and a stage as far as it is mended. Assumes nothing.
use Prim.Native.Nat.{ℕ, zero, suc, ◌+◌, ◌≤◌, ◌<◌}
use mathlib.Core.Path.{◌≡◌, refl, sym, ◌∙◌, ap}
use mathlib.Core.Logic.{◌⊎◌, inl, inr}
use mathlib.Core.Bool.{true, false}
use mathlib.Core.List.{List, [], ◌∷◌, ◌++◌, append_assoc, append-nil}
use native.Mathlib.Omega.{arith}
use native.Mathlib.Numerals.{add-one}
use lib.ListN.{length, get_or, set, take, drop, length-set, replicate, length-replicate, drop_of_length-le}
use lib.Seq.{drop-cons, take-suc-set, drop-set-lt, take_all}
use borrow.Author.Tests.{lt-ltb, le-ltb, eq-eqb, ne_eqb}
use Rattle.rules.specs.Cells.{empty, level_of, first_lower, second_lower}
use Rattle.rules.specs.Graph.{Node, leaf, gate, pin_of, inversion_of, graph_of, pin_count}
use Rattle.rules.specs.Coded.{cell_pin, and_of, and_cell}
use Rattle.rules.proofs.Lists.Members.{split}
use Rattle.graph.specs.declared.Pin.{Pin}
use Rattle.graph.proofs.Gates.{graph_length}
use Rattle.cell.proofs.Cells.{mark_empty, other_filled}
use Rattle.coded.proofs.InPlace.{default_same}
use Rattle.mending.specs.Mend as rules
use Rattle.mending.specs.Mend.{level_in, kept, stands, copies, joins, same, fitting, pin_for, in_graph, pin_deed, deed, mended, fixing, mend_from, nothing_fixed, mend_stage}
use Rattle.mend_levels.specs.Levels.{Tells}
use Rattle.mending.proofs.Deeds.{in_graph_lem, graph_in, deed_kept, for_fixed, for_free}
use Rattle.mend_stage.specs.declared.Deed.{Deed}
use Rattle.mend_stage.specs.declared.Deed.TheVariants.{Kept, Copies}
use Rattle.mend_stage.specs.Stages.{deed_for, deed_pin, DeedAt, DeedSays, StageAt, StageSays}

-- ---- a cell's pin

-- nothing is fixed
pub pin_own : (c f r : ℕ) → f ≡ 4294967295 → r ≡ cell_pin c → r ≡ pin_for c f
pin_own c f r e d = d ∙ sym (for_free c f (mark_empty f e))

-- something is
pub pin_fixed : (c f : ℕ) → (f ≡ 4294967295 → ⊥) → f ≡ pin_for c f
pin_fixed c f e = sym (for_fixed c f (other_filled f e))

-- ---- at its own level

module _ (g : List Node) (h n : ℕ) where
  pub level_zero : h ≡ 0 → stands n ≡ same h (get_or g n leaf) n
  unfolding same
  level_zero e = rw e

  pub level_leaf : (h ≡ 0 → ⊥) → leaf ≡ get_or g n leaf → kept ≡ same h (get_or g n leaf) n
  unfolding same
  level_leaf z l = rw (← l) (by h z)
    where
      by : (k : ℕ) → (k ≡ 0 → ⊥) → kept ≡ same k leaf n
      by zero z = absurd (z refl)
      by (suc k) z = refl

  pub level_gate : (h ≡ 0 → ⊥) → (a b : ℕ) → gate a b ≡ get_or g n leaf → joins n a b ≡ same h (get_or g n leaf) n
  unfolding same
  level_gate z a b l = rw (← l) (by h z)
    where
      by : (k : ℕ) → (k ≡ 0 → ⊥) → joins n a b ≡ same k (gate a b) n
      by zero z = absurd (z refl)
      by (suc k) z = refl

  same_small : n < 65536 → deed_pin (same h (get_or g n leaf) n) < 65536
  unfolding same deed_pin
  same_small k = by h (get_or g n leaf)
    where
      by : (i : ℕ) (x : Node) → deed_pin (same i x n) < 65536
      by zero x = k
      by (suc i) leaf = omega arith
      by (suc i) (gate a b) = k

-- ---- at any position

-- no level is above the top
level_low : (K p : ℕ) → level_of K p ≤ K
unfolding level_of
level_low K p = omega arith

module _ (K : ℕ) (g : List Node) (stop : List ℕ) (p n : ℕ) (i : in_graph g n ≡ true) where
  fits_below : level_in g stop n < level_of K p → copies n ≡ pin_deed K g stop p n
  unfolding pin_deed fitting
  fits_below a = rw (pin_deed, i, fitting, lt-ltb (level_in g stop n) (level_of K p) a)

  fits_same : level_in g stop n ≡ level_of K p → same (level_of K p) (get_or g n leaf) n ≡ pin_deed K g stop p n
  unfolding pin_deed fitting
  fits_same a = rw (pin_deed, i, fitting, le-ltb (level_in g stop n) (level_of K p) (omega arith), eq-eqb (level_in g stop n) (level_of K p) a)

  fits_not : level_of K p < level_in g stop n → kept ≡ pin_deed K g stop p n
  unfolding pin_deed fitting
  fits_not a = rw (pin_deed, i, fitting, le-ltb (level_in g stop n) (level_of K p) (omega arith), ne_eqb (level_in g stop n) (level_of K p) (λ e. omega arith))

module _ (K : ℕ) (gates levels : List ℕ) (p n : ℕ) (A : DeedAt gates) where
  says_kept : in_graph (graph_of gates) n ≡ false → DeedSays K (graph_of gates) levels p n Kept
  unfolding deed_for deed_pin
  says_kept e = record { is = λ stop T. sym (deed_kept K (graph_of gates) stop p n e); small = omega arith }

  not_in : (n ≡ 0) ⊎ (length (graph_of gates) ≤ n) → in_graph (graph_of gates) n ≡ false
  not_in (inl e) = split (in_graph (graph_of gates) n) (λ t. absurd (omega (arith, (in_graph_lem (graph_of gates) n t).0))) (λ t. t)
  not_in (inr e) = split (in_graph (graph_of gates) n) (λ t. absurd (omega (arith, (in_graph_lem (graph_of gates) n t).1))) (λ t. t)

  module _ (i : ℕ) (ei : i ≡ n) where
    -- pin 0
    pub deed_zero : i ≡ 0 → DeedSays K (graph_of gates) levels p n Kept
    deed_zero e = says_kept (not_in (inl (omega arith)))

    module _ (m : ℕ) (em : m ≡ pin_count gates) where
      -- no pin of the graph
      pub deed_past : m ≤ i → DeedSays K (graph_of gates) levels p n Kept
      deed_past e = says_kept (not_in (inr (omega (arith, graph_length gates))))

      module _ (some : i ≡ 0 → ⊥) (inside : i < m) (h l : ℕ) (eh : h ≡ level_of K p) (el : l ≡ get_or levels n 0) where
        here : in_graph (graph_of gates) n ≡ true
        here = graph_in (graph_of gates) n (omega arith) (omega (arith, graph_length gates))

        few : n < 65536
        few = omega (arith, A.pins)

        -- of a lower level
        pub deed_lower : l < h → (x : Pin) → x.0 ≡ n → DeedSays K (graph_of gates) levels p n (Copies x)
        unfolding deed_for deed_pin
        deed_lower e x z = record { is = λ stop T. rw z (fits_below K (graph_of gates) stop p n here (omega (arith, level_low K p, T.each n))); small = rw z few }

        -- deeper than the cell
        pub deed_deeper : h < l → DeedSays K (graph_of gates) levels p n Kept
        unfolding deed_for deed_pin
        deed_deeper e = record { is = λ stop T. fits_not K (graph_of gates) stop p n here (omega (arith, level_low K p, T.each n)); small = omega arith }

        -- of the cell's level
        pub deed_same : h ≤ l → l ≤ h → (r : Deed) → deed_for r ≡ same h (get_or (graph_of gates) n leaf) n → DeedSays K (graph_of gates) levels p n r
        deed_same a b r e = record {
          is = λ stop T. e ∙ ap (λ (k : ℕ). same k (get_or (graph_of gates) n leaf) n) eh ∙ fits_same K (graph_of gates) stop p n here (omega (arith, level_low K p, T.each n));
          small = rw e (same_small (graph_of gates) h n few);
        }

-- ---- the cell that comes of a deed, and what it fixes

-- an inversion is 0 or 1
pub inversion_small : (l i : ℕ) → i ≡ inversion_of l → i < 2
unfolding inversion_of
inversion_small l i e = omega arith

pub cell_joins : (n a b c i j r : ℕ) → i ≡ inversion_of a → j ≡ inversion_of b → r ≡ and_of n i j → r ≡ mended (joins n a b) c
unfolding mended and_cell
cell_joins n a b c i j r d e f = f ∙ (λ k. and_of n (d k) (e k))

pub fixes_copies : (p n x : ℕ) (fx fx' : List ℕ) → x ≡ first_lower p → fx' ≡ set fx x n → fx' ≡ fixing p (copies n) fx
unfolding fixing
fixes_copies p n x fx fx' e d = d ∙ rw e

pub fixes_joins : (p n a b x y u v : ℕ) (fx fx' fx'' : List ℕ) → x ≡ first_lower p → u ≡ pin_of a → fx' ≡ set fx x u → y ≡ second_lower p → v ≡ pin_of b → fx'' ≡ set fx' y v → fx'' ≡ fixing p (joins n a b) fx
unfolding fixing
fixes_joins p n a b x y u v fx fx' fx'' ex eu e ey ev d = d ∙ rw (e, ex, eu, ey, ev)

-- ---- the stage

-- the cells before p are mended
pub record MendedTo (K : ℕ) (g : List Node) (levels cells : List ℕ) (p : ℕ) (now fx : List ℕ) : Type 0 where
  pub one : 1 ≤ p
  pub len : length now ≡ length cells
  pub room : length fx ≡ length cells
  pub is : (stop : List ℕ) → Tells K g stop levels → mend_stage K g stop cells ≡ take p now ++ mend_from K g stop p fx (drop p now)

mend_none : (K : ℕ) (g : List Node) (stop cells : List ℕ) → 1 ≤ length cells → mend_stage K g stop cells ≡ take 1 cells ++ mend_from K g stop 1 (nothing_fixed K) (drop 1 cells)
unfolding mend_stage
mend_none K g stop [] h = absurd (omega arith)
mend_none K g stop (c ∷ cs) h = refl

mend_end : (K : ℕ) (g : List Node) (stop : List ℕ) (p : ℕ) (fx xs : List ℕ) → xs ≡ [] → mend_from K g stop p fx xs ≡ []
unfolding mend_from
mend_end K g stop p fx xs e = rw e

length_fixing : (p : ℕ) (d : rules.Deed) (fx : List ℕ) → length (fixing p d fx) ≡ length fx
unfolding fixing
length_fixing p kept fx = refl
length_fixing p (stands n) fx = refl
length_fixing p (copies n) fx = length-set fx (first_lower p) n
length_fixing p (joins n a b) fx = simp length-set

mend_step : (K : ℕ) (g : List Node) (stop : List ℕ) (p c f : ℕ) (fx cs : List ℕ) → get_or fx p empty ≡ f → mend_from K g stop p fx (c ∷ cs) ≡ mended (pin_deed K g stop p (pin_for c f)) c ∷ mend_from K g stop (suc p) (fixing p (pin_deed K g stop p (pin_for c f)) fx) cs
unfolding mend_from deed
mend_step K g stop p c f fx cs e = rw (mend_from, e)

module _ (K : ℕ) (gates levels cells fixed : List ℕ) (A : StageAt K gates cells fixed) where
  -- position 0 is no cell
  pub mended_none : (fx : List ℕ) → fx ≡ replicate (length fixed) 4294967295 → MendedTo K (graph_of gates) levels cells 1 cells fx
  unfolding nothing_fixed empty
  mended_none fx e = record {
    one = omega arith;
    len = refl;
    room = omega (arith, ap length e ∙ length-replicate (length fixed) 4294967295, A.size, A.room);
    is = λ stop T. mend_none K (graph_of gates) stop cells (omega (arith, A.some, A.size)) ∙ rw (e, A.room);
  }

  module _ (p : ℕ) (now fx : List ℕ) (R : MendedTo K (graph_of gates) levels cells p now fx) where
    -- the cell is there
    pub cell_here : p < length cells → (p < 16384) × (p < length fx)
    cell_here h = omega (arith, R.len, R.room, A.size, A.high)

    module _ (h : p < length cells) (n : ℕ) (en : n ≡ pin_for (get_or now p 0) (get_or fx p 0)) (d : Deed) (D : DeedSays K (graph_of gates) levels p n d) (v : ℕ) (ev : v ≡ mended (deed_for d) (get_or now p 0)) (fx' : List ℕ) (ef : fx' ≡ fixing p (deed_for d) fx) where
      -- it is mended, and what it fixes is fixed
      pub mended_more : MendedTo K (graph_of gates) levels cells (p + 1) (set now p v) fx'
      mended_more = record {
        one = omega arith;
        len = length-set now p v ∙ R.len;
        room = ap length ef ∙ length_fixing p (deed_for d) fx ∙ R.room;
        is = λ stop T.
            let e : pin_deed K (graph_of gates) stop p (pin_for (get_or now p 0) (get_or fx p 0)) ≡ deed_for d = sym (D.is stop T ∙ ap (pin_deed K (graph_of gates) stop p) en) in
            let f : get_or fx p empty ≡ get_or fx p 0 = default_same fx p empty 0 (cell_here h).1 in
            let s = mend_step K (graph_of gates) stop p (get_or now p 0) (get_or fx p 0) fx (drop (suc p) now) f in
            R.is stop T
            ∙ ap (λ (x : List ℕ). take p now ++ mend_from K (graph_of gates) stop p fx x) (drop-cons now p 0 (omega (arith, R.len)))
            ∙ ap (λ (x : List ℕ). take p now ++ x) (s
            ∙ (λ k. mended (e k) (get_or now p 0) ∷ mend_from K (graph_of gates) stop (suc p) (fixing p (e k) fx) (drop (suc p) now))
            ∙ (λ k. sym ev k ∷ mend_from K (graph_of gates) stop (suc p) (sym ef k) (drop (suc p) now)))
            ∙ rw (add-one p, take-suc-set now p v (omega (arith, R.len)), drop-set-lt (suc p) now p v (omega arith)) (sym (append_assoc (take p now) (v ∷ []) (mend_from K (graph_of gates) stop (suc p) fx' (drop (suc p) now))));
      }

    pub mended_all : length cells ≤ p → StageSays K (graph_of gates) levels cells now
    mended_all e =
        let h : length now ≤ p = omega (arith, R.len) in
        record {
          len = R.len;
          is = λ stop T. sym (R.is stop T ∙ ap (λ (x : List ℕ). take p now ++ x) (mend_end K (graph_of gates) stop p fx (drop p now) (drop_of_length-le now h)) ∙ append-nil (take p now) ∙ take_all p now h);
        }
