-- The answer of reading. Assumes nothing.
use mathlib.Core.Path.{◌≡◌, refl, sym, ◌∙◌}
use mathlib.Core.Bool.{true, false, ◌&&◌}
use mathlib.Core.List.{List, [], ◌∷◌}
use Prim.Native.Nat.{ℕ, ◌<◌}
use native.Mathlib.Omega.{arith}
use lib.Dec.{ltb, eqb}
use lib.ListN.{length, get_or}
use borrow.Author.Tests.{lt-ltb, le-ltb, eq-eqb, ne_eqb, eqb-true, eqb-false}
use Rattle.rules.proofs.Lists.Members.{split}
use Rattle.sheet_form.specs.Sheets.{refused, read_sheet}
use Rattle.sheet_form.specs.Lifting.{read_either}
use Rattle.sheet_form.specs.Calls.{Areas, areas, loaded, unread, roomy, from, reader}
use Rattle.sheet_form.proofs.Calls.{counts_length}
use Rattle.sheet_form.specs.Kinds.{number_for}
use Rattle.sheet_form.specs.declared.SheetKind.{SheetKind}
use Rattle.sheet_form.specs.declared.SheetKind.TheVariants.{Pins, Cells}
use Rattle.sheet_read.specs.Walk.{known_number, sheet_with, Known}
use Rattle.sheet_read.specs.Areas.{room_for, Filled}

-- no byte at all
pub none_read : (gates xs : List ℕ) → length xs ≡ 0 → (b : Areas) → loaded 15 0 0 0 b ≡ reader gates xs b
unfolding reader read_either from unread
none_read gates [] h b = refl
none_read gates (x ∷ xs) h b = absurd (omega arith)

module _ (b n : ℕ) where
  -- sheet 2
  pub known_two : b ≡ 2 → known_number b n ≡ 2
  unfolding known_number
  known_two e = rw (eq-eqb b 2 e, known_number)

  module _ (h : b ≡ 2 → ⊥) where
    -- neither
    pub known_other : (b ≡ 1 → ⊥) → known_number b n ≡ 0
    unfolding known_number
    known_other k = rw (ne_eqb b 2 h, ne_eqb b 1 k, known_number)

    -- sheet 1 without a graph
    pub known_none : b ≡ 1 → n ≡ 0 → known_number b n ≡ 0
    unfolding known_number
    known_none e z = rw (ne_eqb b 2 h, eq-eqb b 1 e, le-ltb 0 n (omega arith), known_number)

    -- and with one
    pub known_one : b ≡ 1 → (n ≡ 0 → ⊥) → known_number b n ≡ 1
    unfolding known_number
    known_one e z = let p : 0 < n = split (eqb n 0) (λ t. absurd (z (eqb-true n 0 t))) (λ t. let k = eqb-false n 0 t in omega arith) in rw (ne_eqb b 2 h, eq-eqb b 1 e, lt-ltb 0 n p, known_number)

-- every kind of sheet has a number above 0
pub kind_some : (k : SheetKind) → number_for k ≡ 0 → ⊥
kind_some Pins e = omega arith
kind_some Cells e = omega arith

-- an unknown sheet number
pub other_read : (gates xs : List ℕ) → (length xs ≡ 0 → ⊥) → known_number (get_or xs 0 0) (length gates) ≡ 0 → (b : Areas) → loaded 16 0 0 0 b ≡ reader gates xs b
unfolding reader read_either read_sheet from unread known_number
other_read gates [] h z b = absurd (h refl)
other_read gates (x ∷ xs) h z b = split (eqb x 2)
    (λ t. absurd (let q : ◌≡◌ {A = ℕ} 0 2 = sym z ∙ rw (t, known_number) in omega arith))
    (λ t. split (eqb x 1 && ltb 0 (length gates))
    (λ u. absurd (let q : ◌≡◌ {A = ℕ} 0 1 = sym z ∙ rw (t, u, known_number) in omega arith))
    (λ u. rw (u, read_either, t, read_sheet)))

-- bytes that are no sheet
pub no_read : (gates xs : List ℕ) → read_either gates xs ≡ refused 15 → (b : Areas) → loaded 15 0 0 0 b ≡ reader gates xs b
unfolding reader from unread
no_read gates xs z b = rw z

module _ {number : ℕ} {gates xs : List ℕ} {K n total : ℕ} (k : Known number gates xs K n total) (p w c : List ℕ) where
  stages_are : length k.ss ≡ n
  stages_are = sym (counts_length k.ss) ∙ k.count

  room_are : roomy (sheet_with K k.ss) (areas p w c) ≡ room_for K n total (length p) (length w) (length c)
  unfolding roomy room_for
  room_are = rw (stages_are, k.sum)

  -- an area that is too short
  pub short_read : room_for K n total (length p) (length w) (length c) ≡ false → loaded 17 0 0 0 (areas p w c) ≡ reader gates xs (areas p w c)
  unfolding reader from unread
  short_read e = let r = room_are ∙ e in rw (k.is, from, r)

  -- a sheet that is read
  pub is_read : {p₂ w₂ c₂ : List ℕ} → room_for K n total (length p) (length w) (length c) ≡ true → Filled number gates xs K n total p w c p₂ w₂ c₂ → loaded 0 K n total (areas p₂ w₂ c₂) ≡ reader gates xs (areas p w c)
  unfolding reader from
  is_read e F =
      let r = room_are ∙ e in
      let f = F.is k in
      let m = k.sum in
      rw (k.is, from, r) (rw (f, stages_are, m))
