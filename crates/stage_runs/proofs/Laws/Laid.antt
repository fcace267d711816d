-- Words laid over a lent area. Assumes nothing.
use mathlib.Core.Path.{◌≡◌, refl, sym, ap, ◌∙◌}
use mathlib.Core.List.{List, [], ◌∷◌, ◌++◌, append_assoc}
use Prim.Native.Nat.{ℕ, suc, ◌+◌, ◌-◌, ◌<◌, ◌≤◌}
use native.Mathlib.Omega.{arith}
use lib.Dec.{ltb}
use lib.ListN.{length, get_or, set, take, drop, length-append, length-drop, take-append-drop, get_or-append}
use lib.Seq.{drop-cons, set_at, get_or-take, get_or-drop, get_or-append-add, length-take-le, ext_get_or}
use borrow.Author.Tests.{ltb-true, ltb-false}
use Rattle.rules.proofs.Lists.Members.{split}
use Rattle.rules.specs.Lists.{laid_at}

-- no words laid change nothing
pub laid_none : (at : ℕ) (words : List ℕ) → laid_at at [] words ≡ words
unfolding laid_at
laid_none at words = let z : at + 0 ≡ at = omega arith in rw z (take-append-drop at words)

module _ (at : ℕ) (words ws : List ℕ) where
  -- a word stored behind those laid is laid too
  pub laid_more : (x : ℕ) → at + length ws < length words → set (laid_at at ws words) (at + length ws) x ≡ laid_at at (ws ++ (x ∷ [])) words
  unfolding laid_at
  laid_more x h =
      let n : length (ws ++ (x ∷ [])) ≡ suc (length ws) = length-append ws (x ∷ []) ∙ omega arith in
      let y : at + suc (length ws) ≡ suc (at + length ws) = omega arith in
      let l : length (take at words ++ ws) ≡ at + length ws = rw (length-append, length-take-le at words (omega arith)) refl in
      rw (
        n,
        y,
        drop-cons words (at + length ws) 0 h,
        ← append_assoc (take at words) ws,
        set_at (take at words ++ ws) (get_or words (at + length ws) 0) (drop (suc (at + length ws)) words) x (at + length ws) l,
        append_assoc,
        append_assoc,
      ) refl

  module _ (fits : at + length ws ≤ length words) where
    -- laying words keeps the area's length
    pub laid_length : length (laid_at at ws words) ≡ length words
    unfolding laid_at
    laid_length = rw (
      length-append (take at words) (ws ++ drop (at + length ws) words),
      length-append ws (drop (at + length ws) words),
      length-drop,
      length-take-le at words (omega arith),
    ) (omega arith)

    abbrev behind : List ℕ
    behind = ws ++ drop (at + length ws) words

    front : length (take at words) ≡ at
    front = length-take-le at words (omega arith)

    -- before the words the area is as it was
    pub laid_below : (i : ℕ) → i < at → get_or (laid_at at ws words) i 0 ≡ get_or words i 0
    unfolding laid_at
    laid_below i b = get_or-append (take at words) behind 0 i (rw front b) ∙ get_or-take at words i 0 b

    laid_behind : (k : ℕ) → get_or (laid_at at ws words) (at + k) 0 ≡ get_or behind k 0
    unfolding laid_at
    laid_behind k = rw front at (get_or-append-add (take at words) behind k 0)

    -- the words stand from their place on
    pub laid_at_lem : (k : ℕ) → k < length ws → get_or (laid_at at ws words) (at + k) 0 ≡ get_or ws k 0
    laid_at_lem k b = laid_behind k ∙ get_or-append ws (drop (at + length ws) words) 0 k b

    -- behind the words the area is as it was
    pub laid_past : (i : ℕ) → at + length ws ≤ i → get_or (laid_at at ws words) i 0 ≡ get_or words i 0
    laid_past i h =
        let k : ℕ = i - at - length ws in
        let y : i ≡ at + (length ws + k) = omega arith in
        let z : at + (length ws + k) ≡ at + length ws + k = omega arith in
        rw y (laid_behind (length ws + k) ∙ get_or-append-add ws (drop (at + length ws) words) k 0 ∙ get_or-drop (at + length ws) words k 0 ∙ ap (λ (j : ℕ). get_or words j 0) (sym z))

    -- what the three parts say
    pub laid_is : (out : List ℕ) → length out ≡ length words → ((i : ℕ) → i < at → get_or out i 0 ≡ get_or words i 0) → ((k : ℕ) → k < length ws → get_or out (at + k) 0 ≡ get_or ws k 0) →
        ((i : ℕ) → at + length ws ≤ i → get_or out i 0 ≡ get_or words i 0) → out ≡ laid_at at ws words
    laid_is out l a b c = ext_get_or 0 out (laid_at at ws words) (l ∙ sym laid_length) (λ i h. split (ltb i at)
        (λ t. let d = ltb-true i at t in a i d ∙ sym (laid_below i d))
        (λ t. let y : i ≡ at + (i - at) = omega (arith, ltb-false i at t) in split (ltb (i - at) (length ws))
        (λ u. let d = ltb-true (i - at) (length ws) u in rw y (b (i - at) d ∙ sym (laid_at_lem (i - at) d)))
        (λ u. let d : at + length ws ≤ i = omega (arith, ltb-false (i - at) (length ws) u) in c i d ∙ sym (laid_past i d))))

-- words laid over fewer that were laid there
pub laid_over_lem : (at : ℕ) (words ws xs : List ℕ) → at + length ws ≤ length words → length xs ≤ length ws → laid_at at ws (laid_at at xs words) ≡ laid_at at ws words
laid_over_lem at words ws xs h l =
    let n : length (laid_at at xs words) ≡ length words = laid_length at words xs (omega arith) in
    let f : at + length ws ≤ length (laid_at at xs words) = omega arith in
    laid_is at words ws h (laid_at at ws (laid_at at xs words)) (laid_length at (laid_at at xs words) ws f ∙ n)
    (λ i b. laid_below at (laid_at at xs words) ws f i b ∙ laid_below at words xs (omega arith) i b)
    (laid_at_lem at (laid_at at xs words) ws f)
    (λ i b. laid_past at (laid_at at xs words) ws f i b ∙ laid_past at words xs (omega arith) i (omega arith))

-- words laid behind others
pub laid_then : (at : ℕ) (words xs ys : List ℕ) → at + (length xs + length ys) ≤ length words → laid_at (at + length xs) ys (laid_at at xs words) ≡ laid_at at (xs ++ ys) words
laid_then at words xs ys h =
    let one : List ℕ = laid_at at xs words in
    let n : length one ≡ length words = laid_length at words xs (omega arith) in
    let f : at + length xs + length ys ≤ length one = omega arith in
    let m : length (xs ++ ys) ≡ length xs + length ys = length-append xs ys in
    laid_is at words (xs ++ ys) (omega arith) (laid_at (at + length xs) ys one) (laid_length (at + length xs) one ys f ∙ n)
    (λ i b. laid_below (at + length xs) one ys f i (omega arith) ∙ laid_below at words xs (omega arith) i b)
    (λ k b. split (ltb k (length xs))
    (λ t. let d = ltb-true k (length xs) t in laid_below (at + length xs) one ys f (at + k) (omega arith) ∙ laid_at_lem at words xs (omega arith) k d ∙ sym (get_or-append xs ys 0 k d))
    (λ t. let d = ltb-false k (length xs) t in
    let j : ℕ = k - length xs in
    let y : k ≡ length xs + j = omega arith in
    let z : at + (length xs + j) ≡ at + length xs + j = omega arith in
    rw (y, z) (laid_at_lem (at + length xs) one ys f j (omega arith) ∙ sym (get_or-append-add xs ys j 0))))
    (λ i b. laid_past (at + length xs) one ys f i (omega arith) ∙ laid_past at words xs (omega arith) i (omega arith))
