-- The pins that the program's loop takes back are those of rules 2 to 7, with their counts. Assumes nothing.
use Prim.Native.Nat.{ℕ, zero, suc, ◌+◌, ◌-◌, ◌^◌, ◌≤◌, min}
use mathlib.Core.Path.{◌≡◌, refl, sym, ◌∙◌, ap, subst}
use mathlib.Core.Logic.{inl, inr}
use mathlib.Core.Bool.{true, false}
use mathlib.Core.List.{List, [], ◌∷◌, ◌++◌, map}
use native.Mathlib.Omega.{arith}
use native.Mathlib.Nat.{mul-le-mul_left, one-le-pow}
use lib.ListN.{length}
use Rattle.rules.specs.Lists.{mem, nothing, found, In}
use Rattle.rules.specs.Cells.{empty, row, row_at}
use Rattle.rules.specs.Traversal.{Setting, level_at, greatest}
use Rattle.rules.specs.Placing.{place, placed, tree_of, reverse_of, cell_at, pin_at, roomy}
use Rattle.rules.specs.Inside.Lean.{blank, candidates, first_free, wanted, recount, sweep}
use Rattle.stage_notes.specs.Taken.{Taken, counted, took, taken_back}
use Rattle.stage_notes.specs.Notes.{weighed, sweep_back, lean_back, lean_backs}
use Rattle.rules.specs.Inside.Walks.{Sound, Work}
use Rattle.rules.specs.Inside.Plans.{Placeable, Fair, Going}
use Rattle.rules.proofs.Lists.Members.{split, in_here, in_append_right}
use Rattle.rules.proofs.Needed.Lacks.{same_needed}
use Rattle.rules.proofs.Stage.Puts.{cell}
use Rattle.rules.proofs.Stage.Lengths.{len_place}
use Rattle.rules.proofs.Stage.Fuel.{vacant, count-length, row_length, one_filled, turns, down}
use Rattle.rules.proofs.Tree.Loads.{rows}
use Rattle.rules.proofs.Tree.Invariant.{row_empty, choose_good}
use Rattle.rules.proofs.Tree.Fair.{fair_first, fair_kept, listed_filled}
use Rattle.rules.proofs.Lean.Pick.{candidate}
use Rattle.rules.proofs.Lean.Lean.{recount_none, recount_found, at_cell, going_first, choice, going_skip, fewer_needed, going_placed, Swept, swept}

module _ (W : Work) where
  abbrev X : Setting
  X = W.X

  abbrev r : ℕ → ℕ
  r = W.r

  abbrev f : ℕ
  f = W.f

  abbrev S : Sound X r f
  S = W.S

  abbrev small : length X.g ≤ empty
  small = W.small

  -- ---- fuel

  took_more : (t h : ℕ) (pl : List ℕ) → h ≤ X.K → length pl ≡ 2 ^ (X.K + 1) → turns X r f S small h pl ≤ t → took X (suc t) h pl ≡ took X t h pl
  unfolding took placed cell_at pin_at
  took_more zero zero pl b l m = refl
  took_more zero (suc h) pl b l m = absurd (omega arith)
  took_more (suc t) zero pl b l m = refl
  took_more (suc t) (suc zero) pl b l m = refl
  took_more (suc t) (suc (suc h)) pl b l m = cell (cell_at X (suc (suc h)) pl)
      (λ e. rw (e, took) (took_more t (suc h) pl (omega arith) l (omega (arith, down X r f S small h pl b l))))
      (λ p e. cell (pin_at X (suc (suc h)) pl) (λ d. rw (e, d, took) (took_more t (suc h) pl (omega arith) l (omega (arith, down X r f S small h pl b l))))
      (λ n d. split (roomy X (placed X (suc (suc h)) p n pl))
      (λ q.
      let c = row_empty X.K (suc (suc h)) pl p e in
      let o : In n X.order = elim (choose_good X (tree_of X pl) (reverse_of X pl) (suc (suc h)) X.order 0 nothing n d) [ inl z ↦ absurd (let y : ◌≡◌ {A = ℕ} 0 1 = cc in omega arith) | inr z ↦ z.0 ] in
      let v = one_filled X r f S small (suc (suc h)) p n pl b l c.0 c.1 c.2 (listed_filled W n (S.listed n o)) in
      rw (e, d, q, took) (took_more t (suc (suc h)) (place X (suc (suc h)) (row_at X.K (suc (suc h))) p n pl) b (len_place X (suc (suc h)) (row_at X.K (suc (suc h))) p n pl ∙ l) (omega (arith, v))))
      (λ q. rw (e, d, q, took) (ap (λ (ts : List Taken). counted X n (placed X (suc (suc h)) p n pl) ∷ ts) (took_more t (suc h) pl (omega arith) l (omega (arith, down X r f S small h pl b l)))))))

  took_any : (k t h : ℕ) (pl : List ℕ) → h ≤ X.K → length pl ≡ 2 ^ (X.K + 1) → turns X r f S small h pl ≤ t → took X (k + t) h pl ≡ took X t h pl
  took_any zero t h pl b l m = let z : 0 + t ≡ t = omega arith in rw z
  took_any (suc k) t h pl b l m = let z : suc k + t ≡ suc (k + t) = omega arith in rw z (took_more (k + t) h pl b l (omega arith) ∙ took_any k t h pl b l m)

  -- what is taken back from level h and a plan on: fuel left out
  abbrev backs : ℕ → List ℕ → List Taken
  backs h pl = took X (turns X r f S small h pl) h pl

  any_fuel : (t h : ℕ) (pl : List ℕ) → h ≤ X.K → length pl ≡ 2 ^ (X.K + 1) → turns X r f S small h pl ≤ t → took X t h pl ≡ backs h pl
  any_fuel t h pl b l m =
      let n : ℕ = turns X r f S small h pl in
      let z : t ≡ (t - n) + n = omega arith in
      subst (λ (x : ℕ). took X x h pl ≡ backs h pl) (sym z) (took_any (t - n) n h pl b l (omega arith))

  backs_low : (t h : ℕ) (pl : List ℕ) → h ≤ 1 → took X t h pl ≡ []
  unfolding took
  backs_low zero h pl b = refl
  backs_low (suc t) zero pl b = refl
  backs_low (suc t) (suc zero) pl b = refl
  backs_low (suc t) (suc (suc h)) pl b = absurd (omega arith)

  -- ---- the turns of the loop

  module _ (l : ℕ) (high : suc (suc l) ≤ X.K) (pl : List ℕ) (F : Fair X (suc (suc l)) pl) where
    abbrev h : ℕ
    h = suc (suc l)

    one_more : backs h pl ≡ took X (suc (turns X r f S small h pl)) h pl
    one_more = sym (took_more (turns X r f S small h pl) h pl high F.len (omega arith))

    next : took X (turns X r f S small h pl) (suc l) pl ≡ backs (suc l) pl
    next = any_fuel (turns X r f S small h pl) (suc l) pl (omega arith) F.len (omega (arith, down X r f S small l pl high F.len))

    turn_no_pin : pin_at X h pl ≡ nothing → backs h pl ≡ backs (suc l) pl
    unfolding took
    turn_no_pin d = one_more ∙ cell (cell_at X h pl) (λ e. rw (e, took) next) (λ p e. rw (e, d, took) next)

    turn_no_cell : cell_at X h pl ≡ nothing → backs h pl ≡ backs (suc l) pl
    unfolding took
    turn_no_cell e = one_more ∙ rw (e, took) next

    turn_no_room : (p n : ℕ) → cell_at X h pl ≡ found p → pin_at X h pl ≡ found n → roomy X (placed X h p n pl) ≡ false → backs h pl ≡ counted X n (placed X h p n pl) ∷ backs (suc l) pl
    unfolding took
    turn_no_room p n e d q = one_more ∙ rw (e, d, q, took) (ap (λ (ts : List Taken). counted X n (placed X h p n pl) ∷ ts) next)

    turn_placed : (p n : ℕ) → cell_at X h pl ≡ found p → pin_at X h pl ≡ found n → In n X.seen → level_at X n ≡ h → roomy X (placed X h p n pl) ≡ true → backs h pl ≡ backs h (placed X h p n pl)
    unfolding took placed
    turn_placed p n e d i v q =
        let a : Placeable X pl h p n = at_cell W l high pl F p n e i v in
        let o = one_filled X r f S small h p n pl high F.len a.row a.end a.free (listed_filled W n i) in
        one_more ∙ rw (e, d, q, took) (any_fuel (turns X r f S small h pl) h (placed X h p n pl) high (fair_kept W h p n F a).len (omega (arith, o)))

  -- the counts
  same_counts : {h : ℕ} {pl : List ℕ} → Fair X h pl → (n : ℕ) → counted X n pl ≡ weighed X n pl
  unfolding counted weighed
  same_counts F n = rw (same_needed W F)

  -- ---- one level

  swept_back : (l : ℕ) → suc (suc l) ≤ X.K → (ns : List ℕ) (b : ℕ) (pl : List ℕ) → Going X (suc (suc l)) ns b pl →
      backs (suc (suc l)) pl ≡ sweep_back X (suc (suc l)) ns b pl ++ backs (suc l) (sweep X (suc (suc l)) ns b pl).plan
  unfolding sweep sweep_back first_free
  swept_back l high [] b pl G = turn_no_pin l high pl G.fair (choice W G (omega arith))
  swept_back l high (n ∷ ns) b pl G = split (mem n (tree_of X pl))
      (λ i. rw (i, sweep, sweep_back) (swept_back l high ns b pl (going_skip W G i)))
      (λ o. cell (cell_at X (suc (suc l)) pl)
      (λ e. rw (o, e, sweep, sweep_back) (turn_no_cell l high pl G.fair e))
      (λ p e.
      let d : pin_at X (suc (suc l)) pl ≡ found n = choice W G (omega arith) ∙ rw (o, first_free) in
      let i = candidate W (suc (suc l)) n (rw G.whole (in_append_right n G.before (n ∷ ns) (in_here n ns))) in
      let a : Placeable X pl (suc (suc l)) p n = at_cell W l high pl G.fair p n e i.0 i.1 in
      let F2 : Fair X (suc (suc l)) (placed X (suc (suc l)) p n pl) = fair_kept W (suc (suc l)) p n G.fair a in
      let m : length (wanted X (placed X (suc (suc l)) p n pl)) ≤ b = omega (arith, fewer_needed W G.fair a, G.enough) in
      cell (recount X b (placed X (suc (suc l)) p n pl))
      (λ c. rw (o, e, c, sweep, sweep_back) (turn_no_room l high pl G.fair p n e d (recount_none W F2 b c) ∙ ap (λ (t : Taken). t ∷ backs (suc l) pl) (same_counts F2 n)))
      (λ k c.
      let q = recount_found W F2 b k m c in
      rw (o, e, c, sweep, sweep_back) (turn_placed l high pl G.fair p n e d i.0 i.1 q.0 ∙ swept_back l high ns k (placed X (suc (suc l)) p n pl) (going_placed W G p k a q.1)))))

  -- ---- level by level

  lean_back_lem : (h : ℕ) → h ≤ X.K → (b : ℕ) (pl : List ℕ) → Fair X h pl → length (wanted X pl) ≤ b → lean_back X h b pl ≡ backs h pl
  unfolding lean_back
  lean_back_lem zero high b pl F m = sym (backs_low (turns X r f S small 0 pl) 0 pl (omega arith))
  lean_back_lem (suc zero) high b pl F m = sym (backs_low (turns X r f S small 1 pl) 1 pl (omega arith))
  lean_back_lem (suc (suc l)) high b pl F m =
      let G : Going X (suc (suc l)) (candidates X (suc (suc l))) b pl = going_first W (suc (suc l)) b pl F m in
      let s : Swept W l pl (sweep X (suc (suc l)) (candidates X (suc (suc l))) b pl) = swept W l high (candidates X (suc (suc l))) b pl G in
      let k = lean_back_lem (suc l) (omega arith) (sweep X (suc (suc l)) (candidates X (suc (suc l))) b pl).most (sweep X (suc (suc l)) (candidates X (suc (suc l))) b pl).plan s.fair s.enough in
      ap (λ (ts : List Taken). sweep_back X (suc (suc l)) (candidates X (suc (suc l))) b pl ++ ts) k ∙ sym (swept_back l high (candidates X (suc (suc l))) b pl G)

  abbrev top : ℕ
  top = min (greatest (map (level_at X) X.order) 0) X.K

  -- the pins taken back, with their counts
  pub lean_taken : lean_backs X ≡ taken_back X
  unfolding lean_backs taken_back blank
  lean_taken =
      let F : Fair X top (blank X) = fair_first W top in
      let e : lean_back X top (length (wanted X (blank X))) (blank X) ≡ backs top (blank X) = lean_back_lem top (omega arith) (length (wanted X (blank X))) (blank X) F (omega arith) in
      e ∙ sym (any_fuel (2 ^ X.K + X.K) top (blank X) (omega arith) F.len
      (omega (
        arith,
        count-length vacant (row X.K top (blank X)),
        row_length X r f S small top (blank X) (omega arith) F.len,
        rows X.K top (omega arith),
        mul-le-mul_left (row_at X.K top) (one-le-pow top 2 (omega arith)),
      )))
