-- What every step keeps, and the groups of a slot as a part of the indices. Assumes nothing.
use Prim.Native.Nat.{ℕ, zero, suc, ◌+◌, ◌-◌, ◌*◌, ◌<◌, ◌≤◌}
use mathlib.Core.List.{List, [], ◌∷◌, ◌++◌}
use mathlib.Core.Logic.{◌⊎◌, inl, inr}
use mathlib.Core.Path.{◌≡◌, refl, ◌∙◌}
use native.Mathlib.Omega.{arith}
use lib.Dec.{ltb}
use lib.ListN.{length, take, drop, length-drop, take-append-drop}
use lib.Seq.{length-take-le, drop-drop, take-take}
use borrow.Author.Tests.{ltb-true}
use Rattle.rules.specs.Lists.{sum, In}
use Rattle.rules.specs.Records.{groups_of}
use Rattle.rules.specs.Merge.{split_by}
use Rattle.rules.proofs.Lists.Members.{every_in, in_nil, in_append_left, in_append_right}
use Rattle.placer_start.specs.Opening.{Idle}
use Rattle.rules.specs.Traversal.{WordRule}
use Rattle.placer.specs.declared.Built.{Built}
use Rattle.placer.specs.declared.Refused.{Refused}
use Rattle.std.specs.Prelude.{Result}
use Rattle.merge_unions.specs.Unions.{UnionAt, Leaves, UnionBuilt}
use Rattle.merge_unions.proofs.Laws.Table.{located_same}
use Rattle.merge_unions.proofs.Laws.Parts.{idle_part}
use Rattle.merge_slots.specs.Moves.{StartAt}
use Rattle.merge_slots.proofs.Laws.Sums.{sum_part}
use Rattle.merge_layout.specs.Layout.{owned}
use Rattle.merge_trials.specs.Ranks.{groups_at, Stands, Stays}
use Rattle.merge_layout.proofs.Laws.Owned.{part_length, part_below, part_above, owned_same}

-- ---- a slot's groups

-- slot s's part of the indices is its groups
pub slot_part : (ls xs : List ℕ) (s : ℕ) → sum ls ≡ length xs → s < length ls → take (sum (take (s + 1) ls) - sum (take s ls)) (drop (sum (take s ls)) xs) ≡ groups_at ls xs s
unfolding split_by sum
slot_part [] xs s e h = absurd (omega arith)
slot_part (l ∷ ls) xs zero e h = let z : l + 0 - 0 ≡ l = omega arith in rw z refl
slot_part (l ∷ ls) xs (suc s) e h =
    let y : suc s + 1 ≡ suc (s + 1) = omega arith in
    let z : l + sum (take (s + 1) ls) - (l + sum (take s ls)) ≡ sum (take (s + 1) ls) - sum (take s ls) = omega arith in
    rw (y, z, ← drop-drop (sum (take s ls)) l xs) (slot_part ls (drop l xs) s (rw length-drop (omega arith)) (omega arith))

-- they are among the indices
pub slot_in_lem : (q : ℕ) (ls xs : List ℕ) (s : ℕ) → In q (groups_at ls xs s) → In q xs
unfolding split_by
slot_in_lem q [] xs s i = in_nil q i
slot_in_lem q (l ∷ ls) xs zero i = let z = take-append-drop l xs in rw z at (in_append_left q (take l xs) (drop l xs) i)
slot_in_lem q (l ∷ ls) xs (suc s) i = let z = take-append-drop l xs in rw z at (in_append_right q (take l xs) (drop l xs) (slot_in_lem q ls (drop l xs) s i))

-- a later slot starts no earlier
pub sum_below : (ls : List ℕ) (a b : ℕ) → a ≤ b → sum (take a ls) ≤ sum (take b ls)
sum_below ls a b h = rw (take-take a b ls h) at (sum_part (take b ls) a)

-- ---- what is kept

module _ {K m table base : ℕ} {gates given records xs ls w : List ℕ} (S : Stands K m table base gates given records xs ls w) where
  -- what every step finds it finds again after a change that keeps the table
  pub stands_stays : {w' : List ℕ} → Stays m table base w w' → Stands K m table base gates given records xs ls w'
  stands_stays T = record {
    sized = S.sized;
    passed = S.passed;
    pins = S.pins;
    idle = T.idle;
    located = located_same S.located T.len (λ i h. T.kept (table + i) (omega arith) (omega (arith, S.behind)));
    inside = S.inside;
    all = S.all;
    short = S.short;
    few = S.few;
    spare = S.spare;
    behind = S.behind;
    room = omega (arith, T.len, S.room);
  }

  -- what a union's call leaves is such a change: it keeps the table
  pub stays_leaves : {w' : List ℕ} → Leaves m table w w' → Stays m table base w w'
  stays_leaves L = record { len = L.len; idle = L.idle; kept = λ j h l. L.past j h }

  -- a union's call leaves the own numbers
  pub leaves_owned : {w' : List ℕ} → Leaves m table w w' → owned base (length ls) w' ≡ owned base (length ls) w
  leaves_owned {w'} L = owned_same base (length ls) w w' S.room L.len (λ j h. L.past j (omega (arith, S.behind)))

  -- a slot's start may be added up
  pub start_at : (s : ℕ) → s ≤ length ls → StartAt ls s
  start_at s h = record { inside = h; few = omega (arith, S.all, S.short) }

-- a change from a to e, behind a build's numbers and not in the table
module _ (m table base a e : ℕ) (w : List ℕ) (I : Idle m w) (order : a ≤ e) (inside : e ≤ length w) (front : 16 * m + 512 ≤ a) (ys : List ℕ) (l : length ys ≡ length (take (e - a) (drop a w))) where
  abbrev now : List ℕ
  now = take a w ++ (ys ++ drop (e - a) (drop a w))

  -- a change of free numbers, or of own ones, keeps the table
  pub part_stays : (e ≤ table) ⊎ (base ≤ a) → Stays m table base w now
  part_stays o =
      let n : length now ≡ length w = part_length a e w order inside ys l in
      record {
        len = n;
        idle = idle_part w now (λ j h. part_below a e w order inside ys l j (omega arith)) (record { small = I.area.small; room = omega (arith, I.area.room) }) I;
        kept = λ j h b. elim o [ inl z ↦ part_above a e w order inside ys l j (omega arith) | inr z ↦ part_below a e w order inside ys l j (omega arith) ];
      }

-- two such changes are one
pub stays_more : {m table base : ℕ} {w w₁ w₂ : List ℕ} → Stays m table base w w₁ → Stays m table base w₁ w₂ → Stays m table base w w₂
stays_more A B = record { len = B.len ∙ A.len; idle = B.idle; kept = λ j h l. B.kept j h l ∙ A.kept j h l }

-- ---- the union of two slots

module _ {K m table base i s : ℕ} {gates given records xs ls w : List ℕ} (S : Stands K m table base gates given records xs ls w) (order : i < s) (second : s < length ls)
    {a b c d : ℕ} (ea : a ≡ sum (take i ls)) (eb : b ≡ sum (take (i + 1) ls)) (ec : c ≡ sum (take s ls)) (ed : d ≡ sum (take (s + 1) ls)) where
  -- both slots' parts lie in the indices
  pub pair_order : (a ≤ b) × (b ≤ length xs) × (c ≤ d) × (d ≤ length xs)
  pair_order = (
    omega (arith, sum_below ls i (i + 1) (omega arith)),
    omega (arith, sum_part ls (i + 1), S.all),
    omega (arith, sum_below ls s (s + 1) (omega arith)),
    omega (arith, sum_part ls (s + 1), S.all),
  )

  -- the first part is slot i's groups
  pub first_is : take (b - a) (drop a xs) ≡ groups_at ls xs i
  first_is = rw (ea, eb) (slot_part ls xs i S.all (omega arith))

  -- the second part is slot s's groups
  pub second_is : take (d - c) (drop c xs) ≡ groups_at ls xs s
  second_is = rw (ec, ed) (slot_part ls xs s S.all second)

  -- the union of the two slots may be built and measured
  pub union_at : UnionAt K m table gates given records (take (b - a) (drop a xs)) (take (d - c) (drop c xs)) w
  union_at =
      let o = pair_order in
      let p : b ≤ c = omega (arith, sum_below ls (i + 1) s (omega arith)) in
      let la : length (take (b - a) (drop a xs)) ≡ b - a = length-take-le (b - a) (drop a xs) (rw length-drop (omega arith)) in
      let lb : length (take (d - c) (drop c xs)) ≡ d - c = length-take-le (d - c) (drop c xs) (rw length-drop (omega arith)) in
      record {
        sized = S.sized;
        passed = S.passed;
        pins = S.pins;
        idle = S.idle;
        located = S.located;
        first_inside = λ q h. ltb-true q (length (groups_of records)) (every_in (λ i. ltb i (length (groups_of records))) q xs S.inside (slot_in_lem q ls xs i (rw first_is at h)));
        second_inside = λ q h. ltb-true q (length (groups_of records)) (every_in (λ i. ltb i (length (groups_of records))) q xs S.inside (slot_in_lem q ls xs s (rw second_is at h)));
        room = omega (arith, S.spare);
        few = omega (arith, S.short);
      }

  -- what is built is the two slots' union
  pub pair_built : {rule : WordRule} {pl ws cs : List ℕ} {r : Result Built Refused} {pl' ws' cs' w' : List ℕ} → UnionBuilt rule K m table gates given records (take (b - a) (drop a xs)) (take (d - c) (drop c xs)) pl ws cs w r pl' ws' cs' w' → UnionBuilt rule K m table gates given records (groups_at ls xs i) (groups_at ls xs s) pl ws cs w r pl' ws' cs' w'
  pair_built B = rw (first_is, second_is) at B
