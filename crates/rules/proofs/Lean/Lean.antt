-- The lean loop fills the plan of rules 2 to 7, turn by turn. Assumes nothing.
use Prim.Native.Nat.{ℕ, zero, suc, ◌+◌, ◌-◌, ◌^◌, ◌≤◌, max, min}
use mathlib.Core.Path.{◌≡◌, refl, sym, ◌∙◌, subst}
use mathlib.Core.Logic.{inl, inr}
use mathlib.Core.Bool.{true, false}
use mathlib.Core.List.{List, [], ◌∷◌, ◌++◌, map, append_assoc}
use native.Mathlib.Omega.{arith}
use native.Mathlib.Nat.{mul-le-mul_left, one-le-pow}
use lib.ListN.{length}
use borrow.Author.Tests.{ltb-true}
use Rattle.rules.specs.Lists.{mem, count, nothing, found, In, Sub}
use Rattle.rules.specs.Cells.{empty, filled, row, row_at}
use Rattle.rules.specs.Traversal.{Setting, level_at, greatest}
use Rattle.rules.specs.Placing.{tree_of, roomy, cell_at, pin_at, placed, fill, filled_plan}
use Rattle.rules.specs.Inside.Lean.{blank, candidates, first_free, wanted, room_for, recount, Filling, sweep, lean, lean_plan}
use Rattle.rules.proofs.Lists.Members.{split, in_here, in_append, in_append_right, in_cons, in_nil}
use Rattle.rules.specs.Inside.Walks.{Sound, Marked, Work}
use Rattle.rules.proofs.Stage.Puts.{cell}
use Rattle.rules.proofs.Tree.Loads.{rows}
use Rattle.rules.specs.Inside.Plans.{Placeable, Fair, Going}
use Rattle.rules.proofs.Tree.Invariant.{row_empty}
use Rattle.rules.proofs.Stage.Fuel.{vacant, count-length, row_length, one_filled, turns, down, fill_more, fill_any}
use Rattle.rules.proofs.Tree.Fair.{fair_first, fair_down, fair_kept, grows, joins, listed_filled}
use Rattle.rules.proofs.Needed.Lacks.{fewer, same_needed, true_ltb}
use Rattle.rules.proofs.Lean.Pick.{candidate, pin_first, free_past}

-- a plan that has room for more needed pins has room for fewer
room_mono : (X : Setting) (m n : ℕ) (pl : List ℕ) → m ≤ n → room_for X n pl ≡ true → room_for X m pl ≡ true
unfolding room_for
room_mono X m n pl h e =
    let k : ℕ = max (count filled (row X.K 1 pl)) (length (tree_of X pl)) in
    true_ltb (m + k) (2 ^ (X.K - 1)) (omega (arith, ltb-true (n + k) (2 ^ (X.K - 1)) e))

module _ (W : Work) where
  abbrev X : Setting
  X = W.X

  abbrev r : ℕ → ℕ
  r = W.r

  abbrev f : ℕ
  f = W.f

  abbrev S : Sound X r f
  S = W.S

  abbrev M : Marked X
  M = W.M

  abbrev small : length X.g ≤ empty
  small = W.small

  -- rule 7 by the count, and by a bound
  pub same_room : {h : ℕ} {pl : List ℕ} → Fair X h pl → roomy X pl ≡ room_for X (length (wanted X pl)) pl
  unfolding roomy room_for
  same_room k = rw (same_needed W k)

  -- a plan for which no number is found has no room
  pub recount_none : {h : ℕ} {pl : List ℕ} → Fair X h pl → (b : ℕ) → recount X b pl ≡ nothing → roomy X pl ≡ false
  unfolding recount
  recount_none {h} {pl} k b e = split (room_for X b pl)
      (λ d. absurd (let c : found b ≡ nothing = rw (d, recount) at e in let z : ◌≡◌ {A = ℕ} 0 1 = cc in omega arith))
      (λ d. split (room_for X (length (wanted X pl)) pl)
      (λ c. absurd (let a : found (length (wanted X pl)) ≡ nothing = rw (d, c, recount) at e in let z : ◌≡◌ {A = ℕ} 0 1 = cc in omega arith))
      (λ c. same_room k ∙ c))

  -- a plan for which one is found has room, and no more needed pins than that
  pub recount_found : {h : ℕ} {pl : List ℕ} → Fair X h pl → (b c : ℕ) → length (wanted X pl) ≤ b → recount X b pl ≡ found c → (roomy X pl ≡ true) × (length (wanted X pl) ≤ c)
  unfolding recount
  recount_found {h} {pl} k b c m e = split (room_for X b pl)
      (λ d. let a : found b ≡ found c = rw (d, recount) at e in let z : b ≡ c = cc in (same_room k ∙ room_mono X (length (wanted X pl)) b pl m d, omega arith))
      (λ d. split (room_for X (length (wanted X pl)) pl)
      (λ a. let y : found (length (wanted X pl)) ≡ found c = rw (d, a, recount) at e in let z : length (wanted X pl) ≡ c = cc in (same_room k ∙ a, omega arith))
      (λ a. absurd (let y : nothing ≡ found c = rw (d, a, recount) at e in let z : ◌≡◌ {A = ℕ} 0 1 = cc in omega arith)))

  -- the plan that rules 2 to 7 come to from level h and a plan: fuel left out
  abbrev pub ends : ℕ → List ℕ → List ℕ
  ends h pl = fill X (turns X r f S small h pl) h pl

  -- fuel for the turns that are left always comes to that plan
  pub any_fuel : (t h : ℕ) (pl : List ℕ) → h ≤ X.K → length pl ≡ 2 ^ (X.K + 1) → turns X r f S small h pl ≤ t → fill X t h pl ≡ ends h pl
  any_fuel t h pl b l m =
      let n : ℕ = turns X r f S small h pl in
      let z : t ≡ (t - n) + n = omega arith in
      subst (λ (x : ℕ). fill X x h pl ≡ ends h pl) (sym z) (fill_any X r f S small (t - n) n h pl b l (omega arith))

  -- at level 1 and 0 nothing more is placed
  pub ends_low : (h : ℕ) (pl : List ℕ) → h ≤ 1 → ends h pl ≡ pl
  unfolding fill
  ends_low h pl b = low (turns X r f S small h pl) h b
    where
      low : (t h : ℕ) → h ≤ 1 → fill X t h pl ≡ pl
      low zero h b = refl
      low (suc t) zero b = refl
      low (suc t) (suc zero) b = refl
      low (suc t) (suc (suc h)) b = absurd (omega arith)

  module _ (l : ℕ) (high : suc (suc l) ≤ X.K) (pl : List ℕ) (F : Fair X (suc (suc l)) pl) where
    abbrev h : ℕ
    h = suc (suc l)

    one_more : ends h pl ≡ fill X (suc (turns X r f S small h pl)) h pl
    one_more = sym (fill_more X r f S small (turns X r f S small h pl) h pl high F.len (omega arith))

    next : fill X (turns X r f S small h pl) (suc l) pl ≡ ends (suc l) pl
    next = any_fuel (turns X r f S small h pl) (suc l) pl (omega arith) F.len (omega (arith, down X r f S small l pl high F.len))

    -- the turns of the loop: no pin, no cell, no room, a pin placed
    pub turn_no_pin : pin_at X h pl ≡ nothing → ends h pl ≡ ends (suc l) pl
    unfolding fill
    turn_no_pin d = one_more ∙ cell (cell_at X h pl) (λ e. rw (e, fill) next) (λ p e. rw (e, d, fill) next)

    -- no empty cell: one level down
    pub turn_no_cell : cell_at X h pl ≡ nothing → ends h pl ≡ ends (suc l) pl
    unfolding fill
    turn_no_cell e = one_more ∙ rw (e, fill) next

    -- no room with the pin placed: one level down, without it
    pub turn_no_room : (p n : ℕ) → cell_at X h pl ≡ found p → pin_at X h pl ≡ found n → roomy X (placed X h p n pl) ≡ false → ends h pl ≡ ends (suc l) pl
    unfolding fill
    turn_no_room p n e d q = one_more ∙ rw (e, d, q, fill) next

    -- a listed pin of the level may be placed at the level's lowest empty cell
    pub at_cell : (p n : ℕ) → cell_at X h pl ≡ found p → In n X.seen → level_at X n ≡ h → Placeable X pl h p n
    unfolding cell_at
    at_cell p n e i v = let c = row_empty X.K h pl p e in record { low = omega arith; high = high; row = c.0; end = c.1; free = c.2; listed = i; level = omega arith }

    -- room left: the pin stays placed, and the level goes on
    pub turn_placed : (p n : ℕ) → cell_at X h pl ≡ found p → pin_at X h pl ≡ found n → In n X.seen → level_at X n ≡ h → roomy X (placed X h p n pl) ≡ true → ends h pl ≡ ends h (placed X h p n pl)
    unfolding fill placed
    turn_placed p n e d i v q =
        let a : Placeable X pl h p n = at_cell p n e i v in
        let o = one_filled X r f S small h p n pl high F.len a.row a.end a.free (listed_filled W n i) in
        one_more ∙ rw (e, d, q, fill) (any_fuel (turns X r f S small h pl) h (placed X h p n pl) high (fair_kept W h p n F a).len (omega (arith, o)))

  -- when a level begins, all its candidates are still to try
  pub going_first : (h b : ℕ) (pl : List ℕ) → Fair X h pl → length (wanted X pl) ≤ b → Going X h (candidates X h) b pl
  going_first h b pl F m = record { fair = F; before = []; whole = refl; gone = λ q e. in_nil q e; enough = m }

  -- rule 4 takes the first unplaced of the candidates that are still to try
  pub choice : {h b : ℕ} {ns pl : List ℕ} → Going X h ns b pl → 1 ≤ h → pin_at X h pl ≡ first_free (tree_of X pl) ns
  choice {h} {b} {ns} {pl} G low = pin_first W G.fair h low ∙ rw G.whole (free_past (tree_of X pl) G.before ns G.gone)

  head_in : {h b n : ℕ} {ns pl : List ℕ} → Going X h (n ∷ ns) b pl → In n X.seen × (level_at X n ≡ h)
  head_in {h} {b} {n} {ns} G = candidate W h n (rw G.whole (in_append_right n G.before (n ∷ ns) (in_here n ns)))

  longer : {h b n : ℕ} {ns pl : List ℕ} (G : Going X h (n ∷ ns) b pl) → candidates X h ≡ (G.before ++ (n ∷ [])) ++ ns
  longer {h} {b} {n} {ns} G = G.whole ∙ sym (append_assoc G.before (n ∷ []) ns)

  all_gone : (before : List ℕ) (n : ℕ) (tr : List ℕ) → Sub before tr → In n tr → Sub (before ++ (n ∷ [])) tr
  all_gone before n tr h i q e = elim (in_append q before (n ∷ []) e) [ inl d ↦ h q d | inr d ↦ elim (in_cons q n [] d) [ inl c ↦ rw c i | inr c ↦ in_nil q c ] ]

  -- a placed candidate is passed over
  pub going_skip : {h b n : ℕ} {ns pl : List ℕ} → Going X h (n ∷ ns) b pl → In n (tree_of X pl) → Going X h ns b pl
  going_skip {h} {b} {n} {ns} {pl} G i = record { fair = G.fair; before = G.before ++ (n ∷ []); whole = longer G; gone = all_gone G.before n (tree_of X pl) G.gone i; enough = G.enough }

  -- placing takes nothing out and adds no needed pin
  pub fewer_needed : {h p n : ℕ} {pl : List ℕ} → Fair X h pl → Placeable X pl h p n → length (wanted X (placed X h p n pl)) ≤ length (wanted X pl)
  fewer_needed {h} {p} {n} {pl} F a = fewer X pl (placed X h p n pl) (grows W h p n F a)

  -- a candidate is placed
  pub going_placed : {h b n : ℕ} {ns pl : List ℕ} → Going X h (n ∷ ns) b pl → (p c : ℕ) → Placeable X pl h p n → length (wanted X (placed X h p n pl)) ≤ c → Going X h ns c (placed X h p n pl)
  going_placed {h} {b} {n} {ns} {pl} G p c a m = record {
    fair = fair_kept W h p n G.fair a;
    before = G.before ++ (n ∷ []);
    whole = longer G;
    gone = all_gone G.before n (tree_of X (placed X h p n pl)) (λ q e. grows W h p n G.fair a q (G.gone q e)) (joins W h p n G.fair a);
    enough = m;
  }

  -- what one level comes to
  pub record Swept (l : ℕ) (pl : List ℕ) (s : Filling) : Type 0 where
    pub same : ends (suc (suc l)) pl ≡ ends (suc l) s.plan
    pub fair : Fair X (suc l) s.plan
    pub enough : length (wanted X s.plan) ≤ s.most

  stops : (l b : ℕ) (ns pl : List ℕ) → Going X (suc (suc l)) ns b pl → ends (suc (suc l)) pl ≡ ends (suc l) pl → Swept l pl (record { most = b; plan = pl })
  stops l b ns pl G e = record { same = e; fair = fair_down W (suc l) G.fair; enough = G.enough }

  -- one level's candidates come to what the rules' turns at that level come to
  pub swept : (l : ℕ) → suc (suc l) ≤ X.K → (ns : List ℕ) (b : ℕ) (pl : List ℕ) → Going X (suc (suc l)) ns b pl → Swept l pl (sweep X (suc (suc l)) ns b pl)
  unfolding sweep first_free
  swept l high [] b pl G = stops l b [] pl G (turn_no_pin l high pl G.fair (choice G (omega arith)))
  swept l high (n ∷ ns) b pl G = split (mem n (tree_of X pl))
      (λ i. rw (i, sweep) (swept l high ns b pl (going_skip G i)))
      (λ o. cell (cell_at X (suc (suc l)) pl)
      (λ e. rw (o, e, sweep) (stops l b (n ∷ ns) pl G (turn_no_cell l high pl G.fair e)))
      (λ p e.
      let d : pin_at X (suc (suc l)) pl ≡ found n = choice G (omega arith) ∙ rw (o, first_free) in
      let i = head_in G in
      let a : Placeable X pl (suc (suc l)) p n = at_cell l high pl G.fair p n e i.0 i.1 in
      let F2 : Fair X (suc (suc l)) (placed X (suc (suc l)) p n pl) = fair_kept W (suc (suc l)) p n G.fair a in
      let m : length (wanted X (placed X (suc (suc l)) p n pl)) ≤ b = omega (arith, fewer_needed G.fair a, G.enough) in
      cell (recount X b (placed X (suc (suc l)) p n pl))
      (λ c. rw (o, e, c, sweep) (stops l b (n ∷ ns) pl G (turn_no_room l high pl G.fair p n e d (recount_none F2 b c))))
      (λ k c.
      let q = recount_found F2 b k m c in
      let s : Swept l (placed X (suc (suc l)) p n pl) (sweep X (suc (suc l)) ns k (placed X (suc (suc l)) p n pl)) = swept l high ns k (placed X (suc (suc l)) p n pl) (going_placed G p k a q.1) in
      rw (o, e, c, sweep) (record { same = turn_placed l high pl G.fair p n e d i.0 i.1 q.0 ∙ s.same; fair = s.fair; enough = s.enough }))))

  -- level by level
  pub lean_ends : (h : ℕ) → h ≤ X.K → (b : ℕ) (pl : List ℕ) → Fair X h pl → length (wanted X pl) ≤ b → (lean X h b pl ≡ ends h pl) × Fair X 0 (lean X h b pl)
  unfolding lean
  lean_ends zero high b pl F m = (sym (ends_low 0 pl (omega arith)), F)
  lean_ends (suc zero) high b pl F m = (sym (ends_low 1 pl (omega arith)), fair_down W 0 F)
  lean_ends (suc (suc l)) high b pl F m =
      let s : Swept l pl (sweep X (suc (suc l)) (candidates X (suc (suc l))) b pl) = swept l high (candidates X (suc (suc l))) b pl (going_first (suc (suc l)) b pl F m) in
      let k = lean_ends (suc l) (omega arith) (sweep X (suc (suc l)) (candidates X (suc (suc l))) b pl).most (sweep X (suc (suc l)) (candidates X (suc (suc l))) b pl).plan s.fair s.enough in
      (k.0 ∙ sym s.same, k.1)

  abbrev top : ℕ
  top = min (greatest (map (level_at X) X.order) 0) X.K

  -- the plan of rules 2 to 7
  pub lean_plan_lem : lean_plan X ≡ filled_plan X
  unfolding lean_plan filled_plan blank
  lean_plan_lem =
      let F : Fair X top (blank X) = fair_first W top in
      let e : lean X top (length (wanted X (blank X))) (blank X) ≡ ends top (blank X) = (lean_ends top (omega arith) (length (wanted X (blank X))) (blank X) F (omega arith)).0 in
      e ∙ sym (any_fuel (2 ^ X.K + X.K) top (blank X) (omega arith) F.len
      (omega (arith, count-length vacant (row X.K top (blank X)), row_length X r f S small top (blank X) (omega arith) F.len, rows X.K top (omega arith), mul-le-mul_left (row_at X.K top) (one-le-pow top 2 (omega arith)))))

  -- level 1 is still fair, for rules 8 and 9
  lean_one : (h : ℕ) → 1 ≤ h → h ≤ X.K → (b : ℕ) (pl : List ℕ) → Fair X h pl → length (wanted X pl) ≤ b → Fair X 1 (lean X h b pl)
  unfolding lean
  lean_one zero low high b pl F m = absurd (omega arith)
  lean_one (suc zero) low high b pl F m = F
  lean_one (suc (suc l)) low high b pl F m =
      let s : Swept l pl (sweep X (suc (suc l)) (candidates X (suc (suc l))) b pl) = swept l high (candidates X (suc (suc l))) b pl (going_first (suc (suc l)) b pl F m) in
      lean_one (suc l) (omega arith) (omega arith) (sweep X (suc (suc l)) (candidates X (suc (suc l))) b pl).most (sweep X (suc (suc l)) (candidates X (suc (suc l))) b pl).plan s.fair s.enough

  lean_any : (h : ℕ) → h ≤ X.K → (b : ℕ) → length (wanted X (blank X)) ≤ b → Fair X 1 (lean X h b (blank X))
  unfolding lean
  lean_any zero high b m = fair_first W 1
  lean_any (suc h) high b m = lean_one (suc h) (omega arith) high b (blank X) (fair_first W (suc h)) m

  -- under an empty cell of level 1 the lean plan is empty too
  pub lean_tidy : Fair X 1 (lean_plan X)
  unfolding lean_plan
  lean_tidy = lean_any top (omega arith) (length (wanted X (blank X))) (omega arith)
