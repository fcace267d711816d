-- Records and graphs as the lists of numbers that they are lent as. Assumes nothing.
use Prim.Native.Nat.{ℕ, zero, suc, ◌+◌, ◌%◌, ◌<◌}
use mathlib.Core.Path.{◌≡◌, refl, ap, ◌∙◌}
use mathlib.Core.Logic.{inl, inr}
use mathlib.Core.Bool.{true, false}
use mathlib.Core.List.{List, [], ◌∷◌, ◌++◌}
use native.Mathlib.Omega.{arith}
use lib.Dec.{eqb}
use lib.ListN.{length, get_or, drop, take-append-drop}
use borrow.Author.Tests.{eqb-true, ne_eqb}
use Rattle.rules.specs.Lists.{gather, up_to, In}
use Rattle.rules.specs.Cells.{empty}
use Rattle.rules.specs.Graph.{Node, leaf, pin_of, node_of, graph_of}
use Rattle.rules.specs.Records.{Group, output, flip_flop, memory, staged_pin, groups, size_of, group_at, whole_at, read_from, read, endpoints_of, Ends, first, later}
use Rattle.rules.proofs.Lists.Members.{split, in_here, in_there, in_cons, in_nil}
use Rattle.rules.proofs.Job.Kinds.{kinds, whole, not_groups, and_then_lem}
use Rattle.aiger_form.specs.Aag.{node_numbers, Ends?, no_ends, ends, with_output, with_data, ends_of}

-- ---- records

group_numbers : Group → List ℕ
group_numbers (output l) = 1 ∷ l ∷ []
group_numbers (flip_flop e d) = 2 ∷ e ∷ d ∷ []
group_numbers (memory ls) = 3 ∷ ls
group_numbers (staged_pin p) = 4 ∷ p ∷ []

-- the numbers of records
pub groups_numbers : List Group → List ℕ
groups_numbers [] = []
groups_numbers (x ∷ xs) = group_numbers x ++ groups_numbers xs

record_one : (ys : List ℕ) → size_of 1 < length (1 ∷ ys) → group_numbers (group_at (1 ∷ ys)) ++ drop (size_of 1) ys ≡ 1 ∷ ys
record_one [] h = absurd (unfold size_of in (omega arith))
record_one (y ∷ ys) h = unfold group_numbers group_at size_of in refl

record_two : (ys : List ℕ) → size_of 2 < length (2 ∷ ys) → group_numbers (group_at (2 ∷ ys)) ++ drop (size_of 2) ys ≡ 2 ∷ ys
record_two [] h = absurd (unfold size_of in (omega arith))
record_two (y ∷ []) h = absurd (unfold size_of in (omega arith))
record_two (y ∷ z ∷ ys) h = unfold group_numbers group_at size_of in refl

record_three : (ys : List ℕ) → group_numbers (group_at (3 ∷ ys)) ++ drop (size_of 3) ys ≡ 3 ∷ ys
record_three ys = unfold group_numbers group_at size_of in (ap (λ (r : List ℕ). 3 ∷ r) (take-append-drop 91 ys))

record_four : (ys : List ℕ) → size_of 4 < length (4 ∷ ys) → group_numbers (group_at (4 ∷ ys)) ++ drop (size_of 4) ys ≡ 4 ∷ ys
record_four [] h = absurd (unfold size_of in (omega arith))
record_four (y ∷ ys) h = unfold group_numbers group_at size_of in refl

record_numbers : (k : ℕ) (xs : List ℕ) → whole_at (k ∷ xs) ≡ true → group_numbers (group_at (k ∷ xs)) ++ drop (size_of k) xs ≡ k ∷ xs
record_numbers k xs t =
    let W = whole (k ∷ xs) t in
    kinds k
    (λ e. rw e (record_one xs (rw e at W.inside)))
    (λ e. rw e (record_two xs (rw e at W.inside)))
    (λ e. rw e (record_three xs))
    (λ e. rw e (record_four xs (rw e at W.inside)))
    (λ e. absurd (let h = W.some in omega arith))

from_numbers : (f : ℕ) (xs : List ℕ) (gs : List Group) → read_from f xs ≡ groups gs → groups_numbers gs ≡ xs
unfolding read_from groups_numbers
from_numbers zero [] gs e = let z : gs ≡ [] = cc in rw z
from_numbers zero (x ∷ xs) gs e = not_groups e
from_numbers (suc f) [] gs e = let z : gs ≡ [] = cc in rw z
from_numbers (suc f) (k ∷ xs) gs e = split (whole_at (k ∷ xs))
    (λ t.
    let N = and_then_lem (group_at (k ∷ xs)) (read_from f (drop (size_of k) xs)) (rw (t, read_from) at e) in
    rw (N.all, from_numbers f (drop (size_of k) xs) N.rest N.read) (record_numbers k xs t))
    (λ t. not_groups (rw (t, read_from) at e))

-- records that are read are their numbers
pub read_numbers : (xs : List ℕ) (gs : List Group) → read xs ≡ groups gs → groups_numbers gs ≡ xs
unfolding read
read_numbers xs gs e = from_numbers (length xs) xs gs e

-- ---- flip-flops, and outputs behind them

-- a flip-flop's numbers
abbrev pub data_numbers : ℕ → List ℕ
data_numbers d = 2 ∷ 1 ∷ d ∷ []

-- an output's
abbrev pub out_numbers : ℕ → List ℕ
out_numbers l = 1 ∷ l ∷ []

-- flip-flops and the outputs behind them, as numbers
pub record EndsAre (gs : List Group) (ds os : List ℕ) : Type 0 where
  pub flat : groups_numbers gs ≡ gather data_numbers ds ++ gather out_numbers os
  pub inside : (n : ℕ) → ((q : ℕ) → Ends q gs → q < n) → (l : ℕ) → In l ds → pin_of l < n
  pub outside : (n : ℕ) → ((q : ℕ) → Ends q gs → q < n) → (l : ℕ) → In l os → pin_of l < n

-- records that are not so have none
pub no_ends_lem : {P : Type 0} {ds os : List ℕ} → no_ends ≡ ends ds os → P
no_ends_lem e = absurd (let z : ◌≡◌ {A = ℕ} 0 1 = cc in omega arith)

-- an output in front
pub record OutputEnds (l : ℕ) (r : Ends?) (ds os : List ℕ) : Type 0 where
  pub rest : List ℕ
  pub is : r ≡ ends [] rest
  pub none : ds ≡ []
  pub all : os ≡ l ∷ rest

-- it has no flip-flop behind it
pub with_output_lem : (l : ℕ) (r : Ends?) {ds os : List ℕ} → with_output l r ≡ ends ds os → OutputEnds l r ds os
unfolding with_output
with_output_lem l no_ends e = no_ends_lem e
with_output_lem l (ends [] ys) e = record { rest = ys; is = refl; none = cc; all = cc }
with_output_lem l (ends (x ∷ xs) ys) e = let z : eqb (suc (length xs)) 0 ≡ false = ne_eqb (suc (length xs)) 0 (λ q. omega arith) in no_ends_lem (rw (z, with_output) at e)

-- a flip-flop in front
pub record DataEnds (n d : ℕ) (r : Ends?) (ds os : List ℕ) : Type 0 where
  pub rest : List ℕ
  pub is : r ≡ ends rest os
  pub one : n ≡ 1
  pub all : ds ≡ d ∷ rest

-- its enable literal is 1
pub with_data_lem : (n d : ℕ) (r : Ends?) {ds os : List ℕ} → with_data n d r ≡ ends ds os → DataEnds n d r ds os
unfolding with_data
with_data_lem n d no_ends e = no_ends_lem e
with_data_lem n d (ends xs ys) {ds} {os} e = split (eqb n 1)
    (λ t. let q : ends (d ∷ xs) ys ≡ ends ds os = rw (t, with_data) at e in let z : ys ≡ os = cc in record { rest = xs; is = rw z refl; one = eqb-true n 1 t; all = cc })
    (λ t. no_ends_lem (rw (t, with_data) at e))

-- what is found of records is what they say
pub ends_are : (gs : List Group) {ds os : List ℕ} → ends_of gs ≡ ends ds os → EndsAre gs ds os
unfolding ends_of groups_numbers group_numbers gather endpoints_of
ends_are [] {ds} {os} e =
    let a : ds ≡ [] = cc in
    let b : os ≡ [] = cc in
    rw (a, b) (record { flat = refl; inside = λ n h l i. in_nil l i; outside = λ n h l i. in_nil l i })
ends_are (output l ∷ gs) {ds} {os} e =
    let O = with_output_lem l (ends_of gs) e in
    let E = ends_are gs O.is in
    rw (O.none, O.all) (record {
      flat = ap (λ (r : List ℕ). 1 ∷ l ∷ r) E.flat;
      inside = λ n h k i. in_nil k i;
      outside = λ n h k i. elim (in_cons k l O.rest i) [
        | inl z ↦ rw z (h (pin_of l) (first (in_here (pin_of l) [])))
        | inr z ↦ E.outside n (λ q j. h q (later j)) k z
      ];
    })
ends_are (flip_flop m d ∷ gs) {ds} {os} e =
    let D = with_data_lem m d (ends_of gs) e in
    let E = ends_are gs D.is in
    rw D.all (record {
      flat = ap (λ (x : ℕ). 2 ∷ x ∷ d ∷ groups_numbers gs) D.one ∙ ap (λ (r : List ℕ). 2 ∷ 1 ∷ d ∷ r) E.flat;
      inside = λ n h k i. elim (in_cons k d D.rest i) [
        | inl z ↦ rw z (h (pin_of d) (first (in_there (pin_of d) (pin_of m) (pin_of d ∷ []) (in_here (pin_of d) []))))
        | inr z ↦ E.inside n (λ q j. h q (later j)) k z
      ];
      outside = λ n h k i. E.outside n (λ q j. h q (later j)) k i;
    })
ends_are (memory ls ∷ gs) e = no_ends_lem e
ends_are (staged_pin p ∷ gs) e = no_ends_lem e

-- ---- graphs

flat : List Node → List ℕ
flat [] = []
flat (x ∷ g) = node_numbers x ++ flat g

node_numbers_lem : (a b : ℕ) → node_numbers (node_of a b) ≡ a ∷ b ∷ []
unfolding node_numbers node_of
node_numbers_lem a b = split (eqb a empty)
    (λ t. split (eqb b empty) (λ u. rw (t, node_of, u) (rw (eqb-true a empty t, eqb-true b empty u) refl)) (λ u. rw (t, node_of, u)))
    (λ t. rw (t, node_of))

flat_graph : (xs : List ℕ) → length xs % 2 ≡ 0 → flat (graph_of xs) ≡ xs
unfolding flat graph_of
flat_graph [] e = refl
flat_graph (a ∷ []) e = absurd (omega arith)
flat_graph (a ∷ b ∷ xs) e = rw (node_numbers_lem a b, flat_graph xs (omega arith))

gather_flat : (g : List Node) (f : ℕ → Node) (i : ℕ) → ((k : ℕ) → k < length g → f (i + k) ≡ get_or g k leaf) → gather (λ p. node_numbers (f p)) (up_to (length g) i) ≡ flat g
unfolding gather up_to flat
gather_flat [] f i h = refl
gather_flat (x ∷ g) f i h =
    let e : f i ≡ x = ap f (omega arith) ∙ h 0 (omega arith) in
    rw (e, gather_flat g f (suc i) (λ k b. ap f (omega arith) ∙ h (suc k) (omega arith)))

-- a graph's numbers, pin by pin
pub graph_numbers : (xs : List ℕ) → length xs % 2 ≡ 0 → (f : ℕ → Node) → ((k : ℕ) → k < length (graph_of xs) → f k ≡ get_or (graph_of xs) k leaf) → gather (λ p. node_numbers (f p)) (up_to (length (graph_of xs)) 0) ≡ xs
graph_numbers xs e f h = gather_flat (graph_of xs) f 0 (λ k b. ap f (omega arith) ∙ h k b) ∙ flat_graph xs e
