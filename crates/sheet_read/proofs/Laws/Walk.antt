-- The walk through a whole sheet. Assumes nothing.
use mathlib.Core.Path.{◌≡◌, refl, sym, ap, ◌∙◌}
use mathlib.Core.Logic.{◌⊎◌, inl, inr}
use mathlib.Core.Bool.{true, false, ◌&&◌}
use mathlib.Core.List.{List, [], ◌∷◌}
use Prim.Native.Nat.{ℕ, ◌+◌, ◌-◌, ◌*◌, ◌^◌, ◌<◌, ◌≤◌}
use native.Mathlib.Omega.{arith}
use lib.Dec.{leb, ltb, eqb}
use lib.ListN.{length, get_or, take, drop, length-drop}
use lib.Pow.{pow_mono}
use lib.Seq.{drop_at, length-take-le}
use borrow.Author.Tests.{le-leb, lt-leb, leb-true, leb-false, ltb-true, eq-eqb, eqb-true}
use Rattle.rules.specs.Lists.{gather}
use Rattle.rules.specs.Cells.{is_height, stage_size}
use Rattle.rules.specs.Graph.{Node, graph_of}
use Rattle.rules.specs.Job.{bits_of, number_of, Read, cut, got, next, field, is_padding}
use Rattle.rules.proofs.Lists.Members.{split, and_true}
use Rattle.rules.proofs.Job.Bits.{width, Bytes}
use Rattle.cells.specs.Answers.{or_zero}
use Rattle.cells.proofs.Heights.{or_zero_true}
use Rattle.bits.specs.Fields.{bits_in, FieldIs}
use Rattle.bits.proofs.Laws.Fields.{field_there, bits_length}
use Rattle.sheet_form.specs.Forms.{form}
use Rattle.sheet_form.specs.Sheets.{Sheet, read_height, read_body, refused, sheet, accept, read_sheet}
use Rattle.sheet_form.specs.Lifting.{lift, read_either}
use Rattle.sheet_form.proofs.Stages.{tall}
use Rattle.sheet_form.proofs.Either.{as_two, as_one, either_most}
use Rattle.sheet_read.specs.Stages.{StagesAt, StagesTook, Kept}
use Rattle.sheet_read.specs.Walk.{body_with, known_number, WalkAt, WalkTook, SheetAt, Measured, Walked, Begins, Known}
use Rattle.std.specs.Prelude.{Option, Some, None}
use Rattle.sheet_read.specs.declared.steps.Step.{Step}
use Rattle.sheet_read.specs.Steps.{TookAs}
use Rattle.sheet_read.proofs.Laws.Stages.{kept_all}
use Rattle.sheet_read.proofs.Laws.Either.{body_one, body_two}

field_short : (w : ℕ) (bs : List ℕ) → length bs < w → field w bs ≡ cut
unfolding field
field_short w bs h = rw (lt-leb w (length bs) h, field)

field_long : (w : ℕ) (bs : List ℕ) → w ≤ length bs → field w bs ≡ got (number_of (take w bs) 0) (drop w bs)
unfolding field
field_long w bs h = rw (le-leb w (length bs) h, field)

-- fewer than 20 bits are no height and stage count
body_short : (number : ℕ) (g : List Node) (bs : List ℕ) → length bs < 20 → body_with number g bs ≡ cut
unfolding body_with read_height next
body_short number g bs h = split (leb 4 (length bs))
    (λ t.
    let n = number_of (take 4 bs) 0 in
    let f = field_long 4 bs (leb-true 4 (length bs) t) in
    let g = field_short 16 (drop 4 bs) (omega (arith, length-drop 4 bs)) in
    split (is_height n) (λ u. rw (f, next, u, g)) (λ u. rw (f, next, u)))
    (λ t. rw (field_short 4 bs (omega (arith, leb-false 4 (length bs) t))))

module _ {xs : List ℕ} (A : SheetAt xs) (number : ℕ) (gates : List ℕ) {p w c : List ℕ} where
  -- too few bits for height and stage count
  pub head_lost : 8 * length xs < 28 → {K n total : ℕ} → Walked number gates xs p w c p w c (8 * length xs + 1) K n total
  head_lost h = record {
    kept = kept_all;
    measured = record { lost = λ _. body_short number (graph_of gates) (drop 8 (bits_in xs)) (omega (arith, length-drop 8 (bits_in xs), bits_length xs, A.some)); read = λ k. absurd (omega arith) };
    stored = λ k. absurd (omega arith);
  }

module _ {xs : List ℕ} (h : 28 ≤ 8 * length xs) {K : ℕ} (F : FieldIs 8 4 xs K) (number : ℕ) (gates : List ℕ) where
  first : field 4 (drop 8 (bits_in xs)) ≡ got K (drop 12 (bits_in xs))
  first = field_there 8 4 xs K F (omega arith)

  -- a height outside 6..13
  pub height_lost : is_height K ≡ false → {p w c : List ℕ} {K' n total : ℕ} → Walked number gates xs p w c p w c (8 * length xs + 1) K' n total
  unfolding body_with read_height next
  height_lost e = record {
    kept = kept_all;
    measured = record { lost = λ _. rw (first, next, e); read = λ k. absurd (omega arith) };
    stored = λ k. absurd (omega arith);
  }

  module _ (t : is_height K ≡ true) {m n : ℕ} (G : FieldIs 12 16 xs m) (q : n ≡ m) where
    second : field 16 (drop 12 (bits_in xs)) ≡ got n (drop 28 (bits_in xs))
    second = rw q (field_there 12 16 xs m G (omega arith))

    -- behind the stage count the stages may be read
    pub stages_asks : length xs ≤ 2 ^ 40 → WalkAt K n xs
    stages_asks s = record { height = t; few = omega (arith, G.below); small = s; inside = h }

    -- stages that are refused refuse the sheet
    pub stages_lost : {p w c p' w' c' : List ℕ} {at total : ℕ} → 8 * length xs < at → WalkTook number K gates n xs p w c p' w' c' at total → {K' n' total' : ℕ} → Walked number gates xs p w c p' w' c' at K' n' total'
    unfolding body_with read_height next
    stages_lost k T = record {
      kept = T.kept;
      measured = record { lost = λ _. rw (first, next, t, second, next, T.lost k); read = λ l. absurd (omega arith) };
      stored = λ l. absurd (omega arith);
    }

    -- the stages behind the head are the sheet
    pub walked : {p w c p' w' c' : List ℕ} {at total : ℕ} → WalkTook number K gates n xs p w c p' w' c' at total → Walked number gates xs p w c p' w' c' at K n total
    unfolding body_with read_height next
    walked T = record {
      kept = T.kept;
      measured = record {
        lost = λ k. rw (first, next, t, second, next, T.lost k);
        read = λ k. let R = T.read k in record { ss = R.ss; height = t; few = omega (arith, G.below); is = rw (first, next, t, second, next, R.is); sum = R.sum; size = R.size; count = R.count };
      };
      stored = λ k. let R = T.read k in record { plan = R.plan; words = R.words; counts = R.counts };
    }

-- ---- the stages, by way of an area of 16,384

module _ {K n : ℕ} {xs : List ℕ} (A : WalkAt K n xs) {size : ℕ} (e : size ≡ or_zero (is_height K) (stage_size K)) where
  is_size : size ≡ stage_size K
  is_size = rw (A.height, or_zero_true (stage_size K)) at e

  -- it holds a stage
  pub size_most : size ≤ 16384
  size_most = rw is_size (pow_mono {i = K + 1} {j = 14} (omega (arith, (tall K A.height).1)))

  -- the stages may be read
  pub area_asks : (cells : List ℕ) → length cells ≡ 16384 → StagesAt K n xs (take (size - 0) (drop 0 cells))
  area_asks cells l =
      let z : size - 0 ≡ size = omega arith in
      record { height = A.height; few = A.few; small = A.small; inside = A.inside; size = rw z (length-take-le size cells (omega (arith, size_most)) ∙ is_size) }

module _ (number K : ℕ) (gates : List ℕ) (n : ℕ) (xs p w c p' w' c' : List ℕ) where
  -- what is left of the area does not matter
  pub area_took : (cells cells' : List ℕ) (r : Option Step) → TookAs (StagesTook number K gates n xs cells p w c cells' p' w' c') xs r → TookAs (WalkTook number K gates n xs p w c p' w' c') xs r
  area_took cells cells' None T = record { kept = T.kept; lost = T.lost; read = T.read }
  area_took cells cells' (Some s) T = (record { kept = T.0.kept; lost = T.0.lost; read = T.0.read }, T.1)

  -- the areas keep their lengths
  pub area_kept : (cells cells' : List ℕ) (r : Option Step) → TookAs (StagesTook number K gates n xs cells p w c cells' p' w' c') xs r → Kept p w c p' w' c'
  area_kept cells cells' None T = T.kept
  area_kept cells cells' (Some s) T = T.0.kept

-- ---- which sheet

-- the number that the first byte names
pub record Names (number : ℕ) (gates xs : List ℕ) : Type 0 where
  pub which : ((number ≡ 2) × (get_or xs 0 0 ≡ 2)) ⊎ ((number ≡ 1) × (get_or xs 0 0 ≡ 1) × (0 < length gates))

names : {number : ℕ} {gates xs : List ℕ} → Begins number gates xs → Names number gates xs
unfolding known_number
names {number} {gates} {xs} B = let b = get_or xs 0 0 in record {
  which = split (eqb b 2)
      (λ t. inl (B.is ∙ rw (t, known_number), eqb-true b 2 t))
      (λ t. split (eqb b 1 && ltb 0 (length gates))
      (λ u. let d = and_true (eqb b 1) (ltb 0 (length gates)) u in inr (B.is ∙ rw (t, u, known_number), eqb-true b 1 d.0, ltb-true 0 (length gates) d.1))
      (λ u. absurd (B.known (B.is ∙ rw (t, u, known_number)))));
}

opened_as : (number : ℕ) → number < 256 → (xs : List ℕ) → 1 ≤ length xs → get_or xs 0 0 ≡ number → read_sheet (form number) xs ≡ accept (read_body (form number) (drop 8 (bits_in xs)))
unfolding read_sheet bits_in gather
opened_as number h [] s e = absurd (omega arith)
opened_as number h (b ∷ bs) s e =
    let f : eqb b number ≡ true = eq-eqb b number e in
    rw (f, read_sheet, drop_at (bits_of 8 b) (gather (bits_of 8) bs) 8 (width 8 b))

-- behind the sheet number the body decides
opened : {number : ℕ} {gates xs : List ℕ} → Begins number gates xs → read_either gates xs ≡ accept (body_with number (graph_of gates) (drop 8 (bits_in xs)))
opened {number} {gates} {xs} B = elim (names B).which [
  | inl t ↦ as_two gates xs (λ z. omega (arith, t.1)) ∙ opened_as 2 (omega arith) xs B.some t.1 ∙ ap accept (sym (body_two (graph_of gates) (drop 8 (bits_in xs)))) ∙ (let e = t.0 in rw e)
  | inr t ↦ as_one gates xs t.1 t.2 ∙ ap (lift (graph_of gates)) (opened_as 1 (omega arith) xs B.some t.1) ∙ sym (body_one (graph_of gates) (drop 8 (bits_in xs))) ∙ (let e = t.0 in rw e)
]

accept_cases : (r : Read Sheet) → (accept r ≡ refused 15) ⊎ ((T : Sheet) × (accept r ≡ sheet T))
unfolding accept
accept_cases cut = inl refl
accept_cases (got T rest) = split (is_padding rest) (λ t. inr (T, rw (t, accept))) (λ t. inl (rw (t, accept)))

module _ {number : ℕ} {gates xs : List ℕ} (A : Begins number gates xs) where
  -- more than 2^40 bytes are no sheet
  pub too_long : Bytes xs → 2 ^ 40 < length xs → read_either gates xs ≡ refused 15
  too_long B h = opened A ∙ elim (accept_cases (body_with number (graph_of gates) (drop 8 (bits_in xs)))) [
    | inl e ↦ e
    | inr e ↦ absurd (omega (arith, either_most gates xs e.0 B (opened A ∙ e.1)))
  ]

  module _ {at K n total : ℕ} (M : Measured number gates xs at K n total) where
    -- what the walk refuses is no sheet
    pub walk_no : 8 * length xs < at → read_either gates xs ≡ refused 15
    unfolding accept
    walk_no k = opened A ∙ rw (M.lost k)

    -- nor is what has more behind it than padding
    pub padding_no : at ≤ 8 * length xs → is_padding (drop at (bits_in xs)) ≡ false → read_either gates xs ≡ refused 15
    unfolding accept
    padding_no k e = opened A ∙ rw ((M.read k).is, accept, e)

    -- all else is a sheet
    pub known : length xs ≤ 2 ^ 40 → at ≤ 8 * length xs → is_padding (drop at (bits_in xs)) ≡ true → Known number gates xs K n total
    unfolding accept
    known s k e = let R = M.read k in record {
      ss = R.ss;
      some = A.some;
      small = s;
      height = R.height;
      few = R.few;
      at = at;
      body = R.is;
      is = opened A ∙ rw (R.is, accept, e);
      sum = R.sum;
      size = R.size;
      count = R.count;
    }
