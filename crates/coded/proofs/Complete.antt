-- Whatever the placer builds is accepted. Assumes nothing.
use Prim.Native.Nat.{ℕ, zero, suc, ◌+◌, ◌-◌, ◌*◌, ◌/◌, ◌%◌, ◌^◌, ◌≤◌, ◌<◌}
use mathlib.Core.Path.{◌≡◌, refl, sym, ◌∙◌, ap}
use mathlib.Core.Logic.{◌⊎◌, inl, inr}
use mathlib.Core.Bool.{Bool, true, not}
use mathlib.Core.List.{List, [], ◌∷◌, ◌++◌, map, append_assoc}
use native.Mathlib.Omega.{arith}
use lib.Dec.{leb, le→leb}
use lib.ListN.{length, get_or, take, drop, length-take, length-drop, length-map, get_or-append, get_or-map}
use lib.Seq.{ext_get_or, get_or-take, get_or-drop, take-append_seam, drop-append_seam}
use Rattle.rules.specs.Lists.{mem, every, padded, up_to, In}
use Rattle.rules.specs.Cells.{filled, empty, stage_size, word_limit, rooms}
use Rattle.rules.specs.Graph.{Node, leaf}
use Rattle.rules.specs.Records.{waiting_of}
use Rattle.rules.specs.Reservation.{reservable, reserved}
use Rattle.rules.specs.Placing.{tree}
use Rattle.rules.specs.Traversal.{WordRule}
use Rattle.rules.specs.Build.{Stage, refusal, whole, build, cells_of, words_of, counts_of, coded_stages}
use Rattle.rules.specs.Fold.{is_leaf}
use Rattle.rules.proofs.Lists.Members.{split, T→true, in_here, in_there, in_cons, in_nil, in_get_or}
use Rattle.rules.proofs.Lists.Lengths.{length-up_to}
use Rattle.rules.proofs.Stage.Staged.{two_step}
use Rattle.rules.proofs.Written.Words.{Stands}
use Rattle.rules.proofs.Written.Writes.{Written, here, there}
use Rattle.rules.specs.Loops.{Valid}
use Rattle.rules.proofs.Demand.{whole_written, wait_ends}
use Rattle.rules.proofs.Build.Above.{waits_above}
use Rattle.coded.specs.Inputs.{Input, graph, groups, built}
use Rattle.coded.proofs.Passing.{tall, small, few, valid, above, named}
use Rattle.rules.specs.Coded.{coded, pins}
use Rattle.rules.specs.Faults.{faultless, right_at, end_right, first_may, held_in, fault_from, holds_in, written_in, last_right, fault_of, cut, fault}
use Rattle.rules.proofs.Fold.Bits.{get_or-up_to}
use Rattle.coded.proofs.Tests.{and_both, found_is, all_pass, fits_right, Passes}
use Rattle.coded.proofs.Shapes.{Shape, Shapes, whole_shapes}
use Rattle.rules.proofs.Build.Coding.{length_coded}
use Rattle.coded.proofs.Coding.{pins_coded, filled_same, fits, free_coded, held_coded}

in_every : (f : ℕ → Bool) (xs : List ℕ) → ((x : ℕ) → In x xs → f x ≡ true) → every f xs ≡ true
unfolding every
in_every f [] h = refl
in_every f (x ∷ xs) h = rw (h x (in_here x xs), every) (in_every f xs (λ y i. h y (in_there y x xs i)))

-- ---- the stages

module _ (K : ℕ) (g : List Node) (ok : Valid g) (count : length g ≤ 65536) (given : List ℕ) where
  module _ (may : ℕ → Bool) (held : ℕ → Type 0) (room : ℕ) (s : Stage) (H : Shape K g given held room s) (right : (n : ℕ) → held n → may n ≡ true) where
    cells_pass : (p : ℕ) → 1 ≤ p → p < 1 + (stage_size K - 1) → right_at K g given may (coded K g s.plan) p ≡ true
    unfolding right_at
    cells_pass p a b = split (filled (get_or (coded K g s.plan) p empty))
        (λ k. fits_right K g count given may (coded K g s.plan) p k (fits K g ok count given held room s H (Passes may) right p a (omega arith) k))
        (λ k. rw (k, right_at))

    end_passes_lem : end_right K room (record { plan = coded K g s.plan; words = s.words }) ≡ true
    unfolding end_right
    end_passes_lem = and_both (ap not (filled_same K g ok count given held room s H 0 ∙ H.zeroth))
        (and_both (let c = free_coded K g ok count given held room s H in found_is _ c.0 c.1)
        (and_both H.words (T→true _ (le→leb (length s.words) room H.fits))))

  none_at_fault : (may : ℕ → Bool) (held : ℕ → Type 0) → ((n : ℕ) → held n → may n ≡ true) → (room k : ℕ) (ss : List Stage) → Shapes K g given held room ss → fault_from K g given may room k (coded_stages K g ss) ≡ faultless
  unfolding fault_from coded_stages
  none_at_fault may held right room k [] H = refl
  none_at_fault may held right room k (s ∷ ss) H =
      rw (all_pass (right_at K g given may (coded K g s.plan)) (stage_size K - 1) 1 (cells_pass may held room s H.0 right), end_passes_lem may held room s H.0 right, fault_from)
      (none_at_fault (held_in K (coded K g s.plan)) (λ n. In n (tree K s.plan)) (held_coded K g ok count given held room s H.0) (room - length s.words) (suc k) ss H.1)

  -- ---- written words

  in_holds : (q w : ℕ) (cl ws : List ℕ) → In w ws → In q (take 32 (drop (32 * w) (pins cl))) → holds_in q cl ws ≡ true
  unfolding holds_in
  in_holds q w cl [] i h = in_nil w i
  in_holds q w cl (v ∷ ws) i h = elim (in_cons w v ws i) [
    | inl e ↦ let z : mem q (take 32 (drop (32 * v) (pins cl))) ≡ true = rw e at h in rw z
    | inr e ↦ split (mem q (take 32 (drop (32 * v) (pins cl)))) (λ d. rw d) (λ d. rw d (in_holds q w cl ws e h))
  ]

  stands_holds : (q : ℕ) (held : ℕ → Type 0) (room : ℕ) (s : Stage) → Shape K g given held room s → Stands K s.plan s.words q → holds_in q (coded K g s.plan) s.words ≡ true
  stands_holds q held room s H t =
      let i : ℕ = t.0 in
      let w : ℕ = i / 32 in
      let z : 32 * w + i % 32 ≡ i = omega arith in
      let l : i % 32 < length (take 32 (drop (32 * w) s.plan)) = simp (length-take, length-drop) (omega (arith, t.1, H.size, two_step K)) in
      let e : get_or (take 32 (drop (32 * w) s.plan)) (i % 32) empty ≡ q = get_or-take 32 (drop (32 * w) s.plan) (i % 32) empty (omega arith) ∙ get_or-drop (32 * w) s.plan (i % 32) empty ∙ ap (λ (x : ℕ). get_or s.plan x empty) z ∙ t.2 in
      let m : In q (take 32 (drop (32 * w) s.plan)) = rw e at (in_get_or (take 32 (drop (32 * w) s.plan)) (i % 32) empty l) in
      in_holds q w (coded K g s.plan) s.words t.4 (rw (pins_coded K g ok count given held room s H) m)

  written_shown : (q : ℕ) (held : ℕ → Type 0) (room : ℕ) {ss : List Stage} → Shapes K g given held room ss → Written K q ss → written_in q (coded_stages K g ss) ≡ true
  unfolding written_in coded_stages
  written_shown q held room H (here {s = s} t) = rw (stands_holds q held room s H.0 t)
  written_shown q held room H (there {s = s} {ss = ss} w) = split (holds_in q (coded K g s.plan) s.words) (λ d. rw d) (λ d. rw d (written_shown q (λ x. In x (tree K s.plan)) _ H.1 w))

-- ---- the lent areas

same_words : (ws more : List ℕ) → map (λ i. get_or (ws ++ more) i empty) (up_to (length ws) 0) ≡ ws
same_words ws more =
    let l : length (map (λ i. get_or (ws ++ more) i empty) (up_to (length ws) 0)) ≡ length ws = length-map (up_to (length ws) 0) (λ i. get_or (ws ++ more) i empty) ∙ length-up_to (length ws) 0 in
    ext_get_or (get_or (ws ++ more) 0 empty) (map (λ i. get_or (ws ++ more) i empty) (up_to (length ws) 0)) ws l
    (λ i h.
    let b : i < length ws = omega (arith, l) in
    let e : get_or (up_to (length ws) 0) i 0 ≡ i = get_or-up_to (length ws) 0 i 0 b ∙ omega arith in
    get_or-map (λ (k : ℕ). get_or (ws ++ more) k empty) (up_to (length ws) 0) i 0 ∙ ap (λ (k : ℕ). get_or (ws ++ more) k empty) e ∙ get_or-append ws more empty i b ∙ default_same ws i b)
  where
    default_same : (xs : List ℕ) (i : ℕ) → i < length xs → get_or xs i empty ≡ get_or xs i (get_or (ws ++ more) 0 empty)
    default_same [] i h = absurd (omega arith)
    default_same (x ∷ xs) zero h = refl
    default_same (x ∷ xs) (suc i) h = default_same xs i (omega arith)

module _ (K : ℕ) (g : List Node) where
  cut_back : (ss : List Stage) (more more' more'' : List ℕ) → cut (length ss) K (cells_of (coded_stages K g ss) ++ more) (words_of ss ++ more') (counts_of ss ++ more'') ≡ coded_stages K g ss
  unfolding cut coded_stages cells_of words_of counts_of
  cut_back [] more more' more'' = refl
  cut_back (s ∷ ss) more more' more'' =
      let cl : List ℕ = coded K g s.plan in
      let rest : List ℕ = cells_of (coded_stages K g ss) ++ more in
      let l : length cl ≡ 2 ^ (K + 1) = length_coded K g s.plan in
      let t : take (2 ^ (K + 1)) (cl ++ rest) ≡ cl = ap (λ (k : ℕ). take k (cl ++ rest)) (sym l) ∙ take-append_seam cl rest in
      let d : drop (2 ^ (K + 1)) (cl ++ rest) ≡ rest = ap (λ (k : ℕ). drop k (cl ++ rest)) (sym l) ∙ drop-append_seam cl rest in
      rw (append_assoc, append_assoc, t, d, drop-append_seam s.words (words_of ss ++ more'), same_words s.words (words_of ss ++ more'), cut_back ss more more' more'')

-- ---- the theorem

module _ (rule : WordRule) (I : Input) where
  -- the shape of its stages
  pub built_shapes : (rooms : ℕ) (ss : List Stage) → built rule I rooms ≡ whole ss → Shapes I.K (graph I) I.given (λ n. In n I.given ⊎ (get_or (graph I) n leaf ≡ leaf)) (word_limit I.K - reserved (groups I)) ss
  built_shapes rooms ss e = whole_shapes rule I.K (graph I) (valid I) (above I) (tall I) (small I) I.given (groups I) (named I) rooms ss e

  may_load : (n : ℕ) → In n I.given ⊎ (get_or (graph I) n leaf ≡ leaf) → first_may (graph I) I.given n ≡ true
  unfolding first_may is_leaf
  may_load n (inl i) = rw i
  may_load n (inr e) = split (mem n I.given) (λ d. rw d) (λ d. rw (d, e))

  reserves : (rooms : ℕ) (ss : List Stage) → built rule I rooms ≡ whole ss → reservable I.K (groups I) ≡ true
  unfolding build
  reserves rooms ss e = split (reservable I.K (groups I)) (λ c. c) (λ c. absurd (let d : refusal 6 0 ≡ whole ss = rw (c, build) at e in let z : ◌≡◌ {A = ℕ} 0 1 = cc in omega arith))

  -- its coded stages have no fault
  pub built_right : (rooms : ℕ) (ss : List Stage) → built rule I rooms ≡ whole ss → fault_of I.K (graph I) I.given (groups I) (coded_stages I.K (graph I) ss) ≡ faultless
  unfolding fault_of last_right
  built_right rooms ss e =
      let H = built_shapes rooms ss e in
      let a : fault_from I.K (graph I) I.given (first_may (graph I) I.given) (word_limit I.K - reserved (groups I)) 1 (coded_stages I.K (graph I) ss) ≡ faultless =
      none_at_fault I.K (graph I) (valid I) (few I) I.given (first_may (graph I) I.given) (λ n. In n I.given ⊎ (get_or (graph I) n leaf ≡ leaf)) may_load (word_limit I.K - reserved (groups I)) 1 ss H in
      let b : last_right I.K (groups I) (coded_stages I.K (graph I) ss) ≡ true =
      and_both (reserves rooms ss e)
      (in_every (λ q. written_in q (coded_stages I.K (graph I) ss)) (waiting_of (groups I) [])
      (λ q i. elim (wait_ends q (groups I) [] i) [
        | inl z ↦ in_nil q z
        | inr z ↦ written_shown I.K (graph I) (valid I) (few I) I.given q _ _ H
            (whole_written rule I.K (graph I) (valid I) (tall I) (small I) I.given [] (groups I) (named I) rooms ss e q (waits_above (groups I) [] (λ x j. in_nil x j) q i) z)
      ])) in
      rw (a, b, fault_of)

  -- Whatever the placer builds is accepted, coded, with its words and counts, whatever follows them in their areas.
  pub built_accepted : (L : ℕ) (ss : List Stage) → built rule I (rooms I.K L) ≡ whole ss → (more more' : List ℕ) →
      fault I.K I.gates I.given I.records (padded L empty (cells_of (coded_stages I.K (graph I) ss))) (words_of ss ++ more) (counts_of ss ++ more') (length ss) ≡ faultless
  unfolding fault padded
  built_accepted L ss e more more' = rw cut_back (built_right (rooms I.K L) ss e)
