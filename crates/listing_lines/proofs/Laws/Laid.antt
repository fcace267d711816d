-- Laying a text: one behind the other. Assumes nothing.
use mathlib.Core.Path.{◌≡◌, refl, sym, ◌∙◌, ap}
use mathlib.Core.List.{List, [], ◌∷◌, ◌++◌}
use Prim.Native.Nat.{ℕ, suc, ◌+◌, ◌≤◌, ◌<◌}
use native.Mathlib.Numerals.{add-one}
use native.Mathlib.Omega.{arith}
use lib.Dec.{leb, ltb}
use lib.ListN.{length, take, drop, get_or, set, length-set}
use lib.Seq.{sets, sets-eq, take-suc, take_all}
use borrow.Author.Tests.{ltb-true, ltb-false, leb-true, leb-false, lt-ltb, le-ltb, le-leb}
use Rattle.rules.specs.Lists.{laid_over}
use Rattle.rules.proofs.Lists.Members.{split}
use Rattle.listing_lines.specs.Laid.{step, along, over, Laid}

-- below the limit the cursor goes one on
pub step_in : (limit at : ℕ) → at < limit → step limit at ≡ suc at
unfolding step
step_in limit at h = rw (lt-ltb at limit h, step)

-- at the limit the cursor stays
pub step_out : (limit at : ℕ) → limit ≤ at → step limit at ≡ at
unfolding step
step_out limit at h = rw (le-ltb at limit h, step)

-- ---- one text behind the other

along_append : (limit at : ℕ) (xs ys : List ℕ) → along limit at (xs ++ ys) ≡ along limit (along limit at xs) ys
unfolding along
along_append limit at [] ys = refl
along_append limit at (x ∷ xs) ys = along_append limit (step limit at) xs ys

over_append : (limit at : ℕ) (xs ys o : List ℕ) → over limit at (xs ++ ys) o ≡ over limit (along limit at xs) ys (over limit at xs o)
unfolding along over
over_append limit at [] ys o = refl
over_append limit at (x ∷ xs) ys o = over_append limit (step limit at) xs ys (set o at x)

over_length : (limit at : ℕ) (xs o : List ℕ) → length (over limit at xs o) ≡ length o
unfolding over
over_length limit at [] o = refl
over_length limit at (x ∷ xs) o = over_length limit (step limit at) xs (set o at x) ∙ length-set o at x

module _ {limit at : ℕ} {o : List ℕ} where
  -- laying a text keeps the area's length
  pub laid_size : {xs : List ℕ} {r : ℕ} {o' : List ℕ} → Laid limit at xs o r o' → length o' ≡ length o
  laid_size {xs} l = ap length l.area ∙ over_length limit at xs o

  -- no text leaves cursor and area
  pub laid_none : Laid limit at [] o at o
  unfolding along over
  laid_none = record { cursor = refl; area = refl }

  -- one byte is laid at the cursor
  pub laid_one : {b r : ℕ} {o' : List ℕ} → r ≡ step limit at → o' ≡ set o at b → Laid limit at (b ∷ []) o r o'
  unfolding along over
  laid_one p q = record { cursor = p; area = q }

  -- one text laid behind the other is both laid
  pub laid_more : {xs ys : List ℕ} {r r2 : ℕ} {o' o2 : List ℕ} → Laid limit at xs o r o' → Laid limit r ys o' r2 o2 → Laid limit at (xs ++ ys) o r2 o2
  laid_more {xs} {ys} a b = record {
    cursor = b.cursor ∙ (rw a.cursor (sym (along_append limit at xs ys)));
    area = b.area ∙ (rw (a.cursor, a.area) (sym (over_append limit at xs ys o)));
  }

  -- a text is laid by any other name for it
  pub laid_as : {xs ys : List ℕ} {r : ℕ} {o' : List ℕ} → Laid limit at xs o r o' → xs ≡ ys → Laid limit at ys o r o'
  laid_as l e = rw e at l

-- a text byte after byte: after i bytes, and all of them
module _ {limit at : ℕ} {o : List ℕ} (text : List ℕ) where
  -- one byte more of a text is laid
  pub laid_byte : (i : ℕ) {r r2 : ℕ} {o' o2 : List ℕ} → i < length text → Laid limit at (take i text) o r o' → Laid limit r (get_or text i 0 ∷ []) o' r2 o2 → Laid limit at (take (i + 1) text) o r2 o2
  laid_byte i h a b = laid_as (laid_more a b) (rw (add-one i) (sym (take-suc text i 0 h)))

  -- after its last byte the whole text is laid
  pub laid_bytes : (i : ℕ) {r : ℕ} {o' : List ℕ} → length text ≤ i → Laid limit at (take i text) o r o' → Laid limit at text o r o'
  laid_bytes i h a = laid_as a (take_all i text h)
