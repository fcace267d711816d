-- The areas that a sheet is read into. Assumes nothing.
use mathlib.Core.Path.{◌≡◌, refl, sym, ap, ◌∙◌}
use mathlib.Core.Bool.{true, false, ◌&&◌}
use mathlib.Core.List.{List, ◌++◌, append_assoc, append-nil}
use Prim.Native.Nat.{ℕ, ◌+◌, ◌-◌, ◌*◌, ◌^◌, ◌<◌, ◌≤◌}
use native.Mathlib.Nat.{mul-le-mul_right, le-div_iff_mul-le}
use native.Mathlib.Omega.{arith}
use lib.Dec.{leb}
use lib.ListN.{length, take, drop, replicate, length-append, length-drop, length-replicate}
use lib.Pow.{pow_pos}
use lib.Seq.{sets, sets-eq, take_at, drop_at, drop-drop, length-take-le}
use borrow.Author.Tests.{le-leb, lt-leb, leb-true, leb-false}
use Rattle.rules.specs.Lists.{padded, laid_over}
use Rattle.rules.specs.Cells.{empty, is_height, stage_size, word_limit, rooms}
use Rattle.rules.specs.Build.{cells_of, words_of, counts_of}
use Rattle.rules.proofs.Lists.Members.{split, and_true}
use Rattle.rules.proofs.Bools.{and_none}
use Rattle.rules.proofs.Job.Fields.{no_cut, same_got}
use Rattle.cells.specs.Answers.{or_zero}
use Rattle.sheet_form.specs.Sheets.{Sheet}
use Rattle.sheet_form.specs.Calls.{areas_with}
use Rattle.sheet_read.specs.Walk.{Stored, Walked, WalkedAs}
use Rattle.std.specs.Prelude.{Option, Some, None}
use Rattle.sheet_read.specs.declared.walk.Extent.{Extent}
use Rattle.sheet_read.specs.Areas.{room_for, Padded, FillAt, Filled}

is_height_lem : (K x : ℕ) {n : ℕ} → is_height K ≡ true → n ≡ or_zero (is_height K) x → n ≡ x
unfolding or_zero
is_height_lem K x h e = e ∙ rw h

-- ---- has it room

module _ (K n total plan words counts : ℕ) (h : is_height K ≡ true) {R : ℕ} (e : R ≡ or_zero (is_height K) (rooms K plan)) where
  -- fewer rooms than stages
  pub room_stages : R < n → false ≡ room_for K n total plan words counts
  unfolding room_for
  room_stages k = sym (rw (lt-leb n (rooms K plan) (omega (arith, is_height_lem K (rooms K plan) h e))))

  -- fewer counts than rooms
  pub room_counts : counts < R → false ≡ room_for K n total plan words counts
  unfolding room_for
  room_counts k = sym (rw (lt-leb (rooms K plan) counts (omega (arith, is_height_lem K (rooms K plan) h e)), and_none (leb n (rooms K plan))))

  module _ {W : ℕ} (d : W ≡ or_zero (is_height K) (word_limit K)) where
    -- fewer words than W
    pub room_words : words < W → false ≡ room_for K n total plan words counts
    unfolding room_for
    room_words k = sym (rw (lt-leb (word_limit K) words (omega (arith, is_height_lem K (word_limit K) h d)), and_none (leb n (rooms K plan) && leb (rooms K plan) counts)))

    -- else the sheet's words decide
    pub room_total : n ≤ R → R ≤ counts → W ≤ words → leb total words ≡ room_for K n total plan words counts
    unfolding room_for
    room_total a b c =
        let r = is_height_lem K (rooms K plan) h e in
        sym (rw (le-leb n (rooms K plan) (omega (arith, r)), le-leb (rooms K plan) counts (omega (arith, r)), le-leb (word_limit K) words (omega (arith, is_height_lem K (word_limit K) h d))))

-- ---- filled up

laid_front : (ys zs : List ℕ) (room x : ℕ) → room ≤ length ys → laid_over ys zs ≡ laid_over (padded room x ys) zs
unfolding laid_over padded
laid_front ys zs room x h =
    let z : room - length ys ≡ 0 = omega arith in
    let e : ys ++ replicate (room - length ys) x ≡ ys = rw z (append-nil ys) in
    rw e

-- nothing to fill
pub pad_none : {used room x : ℕ} {xs : List ℕ} → room ≤ used → Padded used room x xs xs
pad_none {used} {room} {x} h = record { len = refl; is = λ ys zs l b e. e ∙ laid_front ys zs room x (omega arith) }

pad_there : {used room x : ℕ} {xs part : List ℕ} → used < room → room ≤ length xs → part ≡ replicate (length (take (room - used) (drop used xs))) x → Padded used room x xs (take used xs ++ (part ++ drop room xs))
unfolding laid_over padded
pad_there {used} {room} {x} {xs} {part} h k q =
    let m : length (take (room - used) (drop used xs)) ≡ room - used = length-take-le (room - used) (drop used xs) (omega (arith, length-drop used xs)) in
    let v : part ≡ replicate (room - used) x = rw m at q in
    let w : length part ≡ room - used = ap length v ∙ length-replicate (room - used) x in
    record {
      len = omega (arith, length-append (take used xs) (part ++ drop room xs), length-append part (drop room xs), length-drop room xs, length-take-le used xs (omega arith), w);
      is = λ ys zs l b e.
          let t : take used xs ≡ ys = rw e (take_at ys (drop (length ys) zs) used l) in
          let s : used + (room - used) ≡ room = omega arith in
          let r : drop room xs ≡ drop room zs = rw (← s, ← drop-drop (room - used) used xs, e, drop_at ys (drop (length ys) zs) used l, l, drop-drop (room - used) used zs) in
          let n : length (ys ++ replicate (room - used) x) ≡ room = omega (arith, length-append ys (replicate (room - used) x), length-replicate (room - used) x, l) in
          rw (t, v, r, l, n) (sym (append_assoc ys (replicate (room - used) x) (drop room zs)));
    }

-- the numbers from `used` up to `room` filled
pub pad_part : {used room x : ℕ} {xs part : List ℕ} → used < room → room ≤ length xs → part ≡ replicate (length (take (room - used) (drop used xs))) x → Padded used room x xs (take used xs ++ (part ++ drop (room - used) (drop used xs)))
pad_part {used} {room} {x} {xs} h k q =
    let s : used + (room - used) ≡ room = omega arith in
    let d : drop (room - used) (drop used xs) ≡ drop room xs = drop-drop (room - used) used xs ∙ ap (λ (n : ℕ). drop n xs) s in
    rw d (pad_there h k q)

laid_over_lem : (vs l : List ℕ) → length vs ≤ length l → sets l 0 vs ≡ laid_over vs l
unfolding laid_over
laid_over_lem vs l h = let e : 0 + length vs ≡ length vs = omega arith in sets-eq vs l 0 (omega arith) ∙ rw e

-- ---- the second walk

record Room (K n total plan words counts : ℕ) : Type 0 where
  stages : n ≤ rooms K plan
  counted : rooms K plan ≤ counts
  limit : word_limit K ≤ words
  all : total ≤ words

room_is : (K n total plan words counts : ℕ) → room_for K n total plan words counts ≡ true → Room K n total plan words counts
unfolding room_for
room_is K n total plan words counts e =
    let x = and_true (leb n (rooms K plan) && leb (rooms K plan) counts && leb (word_limit K) words) (leb total words) e in
    let y = and_true (leb n (rooms K plan) && leb (rooms K plan) counts) (leb (word_limit K) words) x.0 in
    let z = and_true (leb n (rooms K plan)) (leb (rooms K plan) counts) y.0 in
    record { stages = leb-true _ _ z.0; counted = leb-true _ _ z.1; limit = leb-true _ _ y.1; all = leb-true _ _ x.1 }

rooms_most : (K size : ℕ) → rooms K size * 2 ^ (K + 1) ≤ size
unfolding rooms
rooms_most K size = (le-div_iff_mul-le (pow_pos (K + 1))).0 (omega arith)

module _ {number : ℕ} {gates xs : List ℕ} {K n total : ℕ} {p w c : List ℕ} (A : FillAt number gates xs K n total p w c) where
  R : Room K n total (length p) (length w) (length c)
  R = room_is K n total (length p) (length w) (length c) A.room

  module _ {p₁ w₁ c₁ : List ℕ} {at K₁ n₁ t₁ : ℕ} (W : Walked number gates xs p w c p₁ w₁ c₁ at K₁ n₁ t₁) where
    -- the areas keep their lengths
    pub plan_length : length p₁ ≡ length p
    plan_length = W.kept.plan

    module _ {r s : ℕ} (er : r ≡ or_zero (is_height K) (rooms K (length p₁))) (es : s ≡ or_zero (is_height K) (stage_size K)) where
      h : is_height K ≡ true
      h = A.known.height

      is_rooms : r ≡ rooms K (length p)
      is_rooms = is_height_lem K (rooms K (length p₁)) h er ∙ ap (rooms K) plan_length

      is_size : s ≡ stage_size K
      is_size = is_height_lem K (stage_size K) h es

      -- the rooms are in the plan area, and no product wraps
      pub rooms_there : (r * s ≤ length p₁) × (n * s ≤ length p₁)
      rooms_there =
          let a = rooms_most K (length p) in
          let m : n * stage_size K ≤ rooms K (length p) * stage_size K = mul-le-mul_right (stage_size K) R.stages in
          rw (is_rooms, is_size, plan_length) (a, omega (arith, a, m))

      -- the rooms are in the count area
      pub counts_there : r ≤ length c₁
      counts_there = omega (arith, R.counted, is_rooms, W.kept.counts)

      module _ {l : ℕ} (el : l ≡ or_zero (is_height K) (word_limit K)) where
        -- the limit is in the word area
        pub limit_there : l ≤ length w₁
        limit_there = omega (arith, R.limit, is_height_lem K (word_limit K) h el, W.kept.words)

        -- stages and filling are what reading leaves
        pub filled : {p₂ w₂ c₂ : List ℕ} → Padded (n * s) (r * s) 4294967295 p₁ p₂ → Padded total l 4294967295 w₁ w₂ → Padded n r 0 c₁ c₂ → Filled number gates xs K n total p w c p₂ w₂ c₂
        unfolding areas_with empty
        filled P Q S = record {
          plan = P.len ∙ plan_length;
          words = Q.len ∙ W.kept.words;
          counts = S.len ∙ W.kept.counts;
          is = λ k.
              let inside : at ≤ 8 * length xs = split (leb at (8 * length xs)) (λ t. leb-true at (8 * length xs) t) (λ t. no_cut (sym (W.measured.lost (leb-false at (8 * length xs) t)) ∙ k.body)) in
              let M = W.measured.read inside in
              let same : M.ss ≡ k.ss = same_got (λ (Z : Sheet) (r : List ℕ). M.ss ≡ Z.stages) (sym M.is ∙ k.body) refl in
              let T : Stored k.ss p w c p₁ w₁ c₁ = rw same at (W.stored inside) in
              let a = rooms_there in
              let fp : length (cells_of k.ss) ≤ length p = omega (arith, k.size, rw (is_size, plan_length) at a.1) in
              let fw : length (words_of k.ss) ≤ length w = omega (arith, k.sum, R.all) in
              let fc : length (counts_of k.ss) ≤ length c = omega (arith, k.count, R.stages, R.counted) in
              let ep = P.is (cells_of k.ss) p (k.size ∙ ap (λ (x : ℕ). n * x) (sym is_size)) fp (T.plan ∙ laid_over_lem (cells_of k.ss) p fp) in
              let ew = Q.is (words_of k.ss) w (sym k.sum) fw (T.words ∙ laid_over_lem (words_of k.ss) w fw) in
              let ec = S.is (counts_of k.ss) c k.count fc (T.counts ∙ laid_over_lem (counts_of k.ss) c fc) in
              let il = is_height_lem K (word_limit K) h el in
              rw (ep, ew, ec, is_rooms, is_size, il);
        }

-- the second walk, whatever it says
pub record Again (number : ℕ) (gates xs p w c p' w' c' : List ℕ) : Type 0 where
  pub at : ℕ
  pub height : ℕ
  pub stages : ℕ
  pub total : ℕ
  pub is : Walked number gates xs p w c p' w' c' at height stages total

pub again : (number : ℕ) (gates xs p w c p' w' c' : List ℕ) (r : Option Extent) → WalkedAs (Walked number gates xs p w c p' w' c') xs r → Again number gates xs p w c p' w' c'
again number gates xs p w c p' w' c' None W = record { at = _; height = _; stages = _; total = _; is = W }
again number gates xs p w c p' w' c' (Some e) W = record { at = _; height = _; stages = _; total = _; is = W.0 }
