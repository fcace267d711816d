-- Named groups, one after the other. Assumes nothing.
use mathlib.Core.Path.{◌≡◌, refl, sym, ap, ◌∙◌}
use mathlib.Core.Bool.{true}
use mathlib.Core.List.{List, [], ◌∷◌, ◌++◌, map-append}
use Prim.Native.Nat.{ℕ, zero, suc, ◌+◌, ◌<◌, ◌≤◌}
use native.Mathlib.Omega.{arith}
use native.Mathlib.Numerals.{add-one}
use lib.ListN.{length, get_or, take, drop, take-append-drop}
use lib.Seq.{take-suc, take_all}
use Rattle.rules.specs.Records.{Group, output, group_at, whole_at, endpoints_of, groups_of, waiting_of, Ends, first, later}
use Rattle.rules.specs.Lists.{In}
use Rattle.rules.proofs.Lists.Members.{in_get_or}
use Rattle.merge_unions.specs.Names.{picked, Names}
use Rattle.merge_unions.proofs.Laws.Table.{located_kept}

-- no names pick no groups
pub picked_none : (gs : List Group) → picked gs [] ≡ []
unfolding picked
picked_none gs = refl

-- names behind names pick groups behind groups
pub picked_append : (gs : List Group) (is js : List ℕ) → picked gs (is ++ js) ≡ picked gs is ++ picked gs js
unfolding picked
picked_append gs is js = map-append (λ (i : ℕ). get_or gs i (output 0)) is js

-- the groups behind others wait behind theirs
pub waiting_append : (xs ys : List Group) (ws : List ℕ) → waiting_of (xs ++ ys) ws ≡ waiting_of ys (waiting_of xs ws)
unfolding waiting_of
waiting_append [] ys ws = refl
waiting_append (x ∷ xs) ys ws = waiting_append xs ys _

-- a group's pins are pins of all groups
pub group_ends : (gs : List Group) (i q : ℕ) → i < length gs → In q (endpoints_of (get_or gs i (output 0))) → Ends q gs
group_ends [] i q h e = absurd (omega arith)
group_ends (g ∷ gs) zero q h e = first e
group_ends (g ∷ gs) (suc i) q h e = later (group_ends gs i q (omega arith) e)

module _ {m table : ℕ} {records names w : List ℕ} (N : Names m table records names w) where
  -- names stay good where the table does not change
  pub names_kept : {w' : List ℕ} → length w' ≡ length w → ((j : ℕ) → table ≤ j → get_or w' j 0 ≡ get_or w j 0) → Names m table records names w'
  names_kept l e = record { located = located_kept N.located l e; behind = N.behind; inside = N.inside; pins = N.pins }

  module _ {i : ℕ} (h : i < length names) where
    in_range : get_or names i 0 < length (groups_of records)
    in_range = N.inside (get_or names i 0) (in_get_or names i 0 h)

    -- a name's place in the table lies in the area
    pub name_there : table + get_or names i 0 < length w
    name_there = omega (arith, in_range, N.located.room)

    module _ {at : ℕ} (e : at ≡ get_or w (table + get_or names i 0) 0) where
      -- a whole record stands where a name leads
      pub name_whole : whole_at (drop at records) ≡ true
      name_whole = rw e (N.located.whole (get_or names i 0) in_range)

      name_group : group_at (drop at records) ≡ get_or (groups_of records) (get_or names i 0) (output 0)
      name_group = rw e (N.located.group (get_or names i 0) in_range)

      -- the pins of a named record are below m
      pub name_pins : (q : ℕ) → In q (endpoints_of (group_at (drop at records))) → q < m
      name_pins q k = N.pins q (group_ends (groups_of records) (get_or names i 0) q in_range (rw name_group at k))

      -- one name more picks the group of its record
      pub name_more : picked (groups_of records) (take (i + 1) names) ≡ picked (groups_of records) (take i names) ++ (group_at (drop at records) ∷ [])
      unfolding picked
      name_more = rw (add-one i, take-suc names i 0 h, name_group) (picked_append (groups_of records) (take i names) (get_or names i 0 ∷ []))

-- past the last name all are picked
pub picked_all : (gs : List Group) (names : List ℕ) (i : ℕ) → length names ≤ i → picked gs (take i names) ≡ picked gs names
picked_all gs names i h = ap (picked gs) (take_all i names h)

-- those picked and those left are all
pub picked_rest : (gs : List Group) (names : List ℕ) (i : ℕ) → picked gs (take i names) ++ picked gs (drop i names) ≡ picked gs names
picked_rest gs names i = sym (picked_append gs (take i names) (drop i names)) ∙ ap (picked gs) (take-append-drop i names)
