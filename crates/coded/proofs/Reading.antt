-- An accepted plan folds every endpoint to its graph value, and its words show it. Assumes nothing.
use Prim.Native.Nat.{ℕ, zero, suc, ◌+◌, ◌-◌, ◌*◌, ◌/◌, ◌^◌, ◌≤◌, ◌<◌, min}
use mathlib.Core.Path.{◌≡◌, refl, sym, ◌∙◌, ap}
use mathlib.Core.Logic.{inl, inr}
use mathlib.Core.Bool.{Bool, true}
use mathlib.Core.List.{List, [], ◌∷◌, map}
use native.Mathlib.Omega.{arith}
use native.Mathlib.Nat.{suc-mul}
use lib.ListN.{length, get_or, take, drop, length-map, length-take, get_or-map}
use lib.Seq.{get_or-take, get_or-drop}
use Rattle.rules.specs.Lists.{sum, mem, every, up_to, In}
use Rattle.rules.specs.Cells.{filled, empty, stage_size, word_limit, rooms}
use Rattle.rules.specs.Graph.{Node, own_bit}
use Rattle.rules.specs.Records.{Group, waiting_of, Ends}
use Rattle.rules.specs.Reservation.{reservable, reserved}
use Rattle.rules.specs.Build.{Stage}
use Rattle.rules.specs.Fold.{as_number}
use Rattle.rules.proofs.Lists.Members.{split, and_true, or_true, every_in, get_or_in, in_here, in_there}
use Rattle.rules.proofs.Lists.Lengths.{length-up_to}
use Rattle.rules.proofs.Stage.Staged.{two_step}
use Rattle.rules.proofs.Fold.Whole.{above_zero}
use Rattle.rules.specs.Loops.{Valid}
use Rattle.rules.proofs.Demand.{ends_wait}
use Rattle.coded.specs.Inputs.{Input, graph, groups, graph_value}
use Rattle.coded.specs.Reading.{Read}
use Rattle.coded.proofs.Passing.{tall, valid, few, named}
use Rattle.rules.specs.Coded.{cell_pin, pins, load_of, fold_cells}
use Rattle.rules.specs.Faults.{Fault, faultless, fault_at, first_may, fault_from, holds_in, written_in, last_right, fault_of, cut, fault}
use Rattle.coded.proofs.Cells.{small_filled, filled_pin}
use Rattle.rules.proofs.Fold.Bits.{get_or-up_to}
use Rattle.coded.proofs.Bits.{pin_at}
use Rattle.coded.proofs.Sound.{first_right}
use Rattle.coded.proofs.Stages.{Folded, all_folded, folded_bit}

-- words are of level 1 upward
words_wide : (K : ℕ) → 6 ≤ K → 32 * word_limit K ≡ 2 ^ K
unfolding word_limit
words_wide K h = let e : K ≡ suc (suc (suc (suc (suc (K - 5))))) = omega arith in ap (λ (x : ℕ). 32 * 2 ^ (x - 5)) e ∙ (let d : suc (suc (suc (suc (suc (K - 5))))) - 5 ≡ K - 5 = omega arith in rw d (sym (ap (λ (x : ℕ). 2 ^ x) e ∙ omega arith)))

-- ---- a written word that holds a pin

record Shows (q : ℕ) (cl ws : List ℕ) : Type 0 where
  pub position : ℕ
  pub word : In (position / 32) ws
  pub pin : get_or (pins cl) position empty ≡ q

holds_shows : (q : ℕ) (cl ws : List ℕ) → holds_in q cl ws ≡ true → Shows q cl ws
unfolding holds_in
holds_shows q cl [] e = absurd (let z : ◌≡◌ {A = ℕ} 0 1 = cc in omega arith)
holds_shows q cl (w ∷ ws) e = elim (or_true (mem q (take 32 (drop (32 * w) (pins cl)))) (holds_in q cl ws) e) [
  | inl a ↦
      let t = get_or_in (take 32 (drop (32 * w) (pins cl))) empty q a in
      let l : t.0 < min 32 (length (drop (32 * w) (pins cl))) = rw length-take at t.1 in
      let z : (32 * w + t.0) / 32 ≡ w = omega arith in
      record {
        position = 32 * w + t.0;
        word = rw z (in_here w ws);
        pin = sym (get_or-take 32 (drop (32 * w) (pins cl)) t.0 empty (omega arith) ∙ get_or-drop (32 * w) (pins cl) t.0 empty) ∙ t.2;
      }
  | inr a ↦ let t = holds_shows q cl ws a in record { position = t.position; word = in_there (t.position / 32) w ws t.word; pin = t.pin }
]

-- ---- a word's number

word_number : (words : List ℕ) (c w : ℕ) → In w (map (λ i. get_or words i empty) (up_to c 0)) → (k : ℕ) × (k < c) × (get_or words k empty ≡ w)
word_number words c w i =
    let t = get_or_in (map (λ i. get_or words i empty) (up_to c 0)) (get_or words 0 empty) w i in
    let l : t.0 < c = omega (arith, t.1, length-map (up_to c 0) (λ i. get_or words i empty), length-up_to c 0) in
    let e : get_or (up_to c 0) t.0 0 ≡ t.0 = get_or-up_to c 0 t.0 0 l ∙ omega arith in
    (t.0, l, ap (λ (x : ℕ). get_or words x empty) (sym e) ∙ sym (get_or-map (λ (i : ℕ). get_or words i empty) (up_to c 0) t.0 0) ∙ t.2)

sum-take : (i : ℕ) (counts : List ℕ) → sum (take (suc i) counts) ≡ get_or counts 0 0 + sum (take i (drop 1 counts))
unfolding sum
sum-take zero [] = refl
sum-take (suc i) [] = refl
sum-take i (c ∷ cs) = refl

-- ---- where a pin is read in the lent areas

record Spot (K n : ℕ) (plan words counts : List ℕ) (q : ℕ) : Type 0 where
  pub stage : ℕ
  pub at : ℕ
  pub position : ℕ
  pub room : stage < n
  pub from : sum (take stage counts) ≤ at
  pub to : at < sum (take (suc stage) counts)
  pub word : get_or words at empty ≡ position / 32
  pub low : 1 ≤ position
  pub high : position < 2 ^ K
  pub cell : cell_pin (get_or plan (stage * 2 ^ (K + 1) + position) empty) ≡ q

module _ (K : ℕ) (tall : 6 ≤ K) (g : List Node) (ok : Valid g) (few : length g ≤ 65536) (given bits : List ℕ) (q : ℕ) (named : q < length g) where
  spot : (n : ℕ) (load : ℕ → Bool) (plan words counts : List ℕ) → Folded K g ok few given bits load (cut n K plan words counts) → written_in q (cut n K plan words counts) ≡ true → Spot K n plan words counts q
  unfolding cut written_in sum
  spot zero load plan words counts F e = absurd (let z : ◌≡◌ {A = ℕ} 0 1 = cc in omega arith)
  spot (suc n) load plan words counts F e =
      let c : ℕ = get_or counts 0 0 in
      let cl : List ℕ = take (2 ^ (K + 1)) plan in
      let ws : List ℕ = map (λ i. get_or words i empty) (up_to c 0) in
      elim (or_true (holds_in q cl ws) (written_in q (cut n K (drop (2 ^ (K + 1)) plan) (drop c words) (drop 1 counts))) e) [
        | inl a ↦
            let s = holds_shows q cl ws a in
            let w = word_number words c (s.position / 32) s.word in
            let b : s.position / 32 < word_limit K = F.1.words (s.position / 32) s.word in
            let h : s.position < 2 ^ K = omega (arith, words_wide K tall) in
            let p : cell_pin (get_or cl s.position empty) ≡ q = sym (pin_at cl s.position) ∙ s.pin in
            let f : filled (get_or cl s.position empty) ≡ true = sym (filled_pin (get_or cl s.position empty)) ∙ rw p (small_filled q (omega arith)) in
            let z : 0 * 2 ^ (K + 1) + s.position ≡ s.position = omega arith in
            record {
              stage = 0;
              at = w.0;
              position = s.position;
              room = omega arith;
              from = omega arith;
              to = rw sum-take (omega (arith, w.1));
              word = w.2;
              low = above_zero cl s.position (get_or cl s.position empty) F.1.zeroth refl f;
              high = h;
              cell = rw z (ap cell_pin (sym (get_or-take (2 ^ (K + 1)) plan s.position empty (omega (arith, two_step K)))) ∙ p);
            }
        | inr a ↦
            let t = spot n (load_of K cl load) (drop (2 ^ (K + 1)) plan) (drop c words) (drop 1 counts) F.2 a in
            let y : suc t.stage * 2 ^ (K + 1) + t.position ≡ 2 ^ (K + 1) + (t.stage * 2 ^ (K + 1) + t.position) = omega (arith, suc-mul t.stage (2 ^ (K + 1))) in
            record {
              stage = suc t.stage;
              at = c + t.at;
              position = t.position;
              room = omega (arith, t.room);
              from = rw sum-take (omega (arith, t.from));
              to = rw sum-take (omega (arith, t.to));
              word = sym (get_or-drop c words t.at empty) ∙ t.word;
              low = t.low;
              high = t.high;
              cell = ap (λ (x : ℕ). cell_pin (get_or plan x empty)) y ∙ ap cell_pin (sym (get_or-drop (2 ^ (K + 1)) plan (t.stage * 2 ^ (K + 1) + t.position) empty)) ∙ t.cell;
            }
      ]

-- ---- an accepted plan

-- a plan has no fault, or a first one
pub fault_cases : {P : Type 0} (x : Fault) → (x ≡ faultless → P) → ((k p : ℕ) → x ≡ fault_at k p → P) → P
fault_cases faultless a f = a refl
fault_cases (fault_at k p) a f = f k p refl

-- no fault: none in the stages, and none last of all
pub accepted_parts : (K : ℕ) (g : List Node) (given : List ℕ) (gs : List Group) (ss : List Stage) → fault_of K g given gs ss ≡ faultless →
    (fault_from K g given (first_may g given) (word_limit K - reserved gs) 1 ss ≡ faultless) × (last_right K gs ss ≡ true)
unfolding fault_of
accepted_parts K g given gs ss e = fault_cases (fault_from K g given (first_may g given) (word_limit K - reserved gs) 1 ss)
    (λ a. split (last_right K gs ss) (λ t. (a, t)) (λ t. absurd (let z : fault_at 0 0 ≡ faultless = rw (a, t, fault_of) at e in let y : ◌≡◌ {A = ℕ} 0 1 = cc in omega arith)))
    (λ k p a. absurd (let z : fault_at k p ≡ faultless = rw (a, fault_of) at e in let y : ◌≡◌ {A = ℕ} 0 1 = cc in omega arith))

module _ (I : Input) where
  module _ (plan words counts : List ℕ) (n : ℕ) (area : n ≤ rooms I.K (length plan)) (e : fault I.K I.gates I.given I.records plan words counts n ≡ faultless) (bits : List ℕ) where
    folded : Folded I.K (graph I) (valid I) (few I) I.given bits (own_bit bits) (cut n I.K plan words counts)
    unfolding fault
    folded = all_folded I.K (graph I) (valid I) (few I) I.given bits (first_may (graph I) I.given) (own_bit bits) (first_right I.K (graph I) (valid I) (few I) I.given bits) _ 1 _
        (accepted_parts I.K (graph I) I.given (groups I) (cut n I.K plan words counts) e).0

    -- In an accepted plan, for any leaf and given bits, every filled cell of every stage folds to its pin's graph value.
    pub accepted_folds : (i p : ℕ) → i < n → 1 ≤ p → p < stage_size I.K → filled (get_or plan (i * stage_size I.K + p) empty) ≡ true →
        get_or (fold_cells I.K plan bits) (i * stage_size I.K + p) 0 ≡ as_number (graph_value I bits (cell_pin (get_or plan (i * stage_size I.K + p) empty)))
    unfolding fold_cells
    accepted_folds i p b low high f = folded_bit I.K (graph I) (valid I) (few I) I.given bits n (rooms I.K (length plan)) (own_bit bits) plan words counts folded area i p b low high f

    -- And reading its written words gives every endpoint's graph value, as of a plan of the placer.
    pub accepted_read : (q : ℕ) → 0 < q → Ends q (groups I) → Read I.K n plan words counts (fold_cells I.K plan bits) q (as_number (graph_value I bits q))
    unfolding fault last_right
    accepted_read q b i =
        let ss : List Stage = cut n I.K plan words counts in
        let l = and_true (reservable I.K (groups I)) (every (λ q. written_in q ss) (waiting_of (groups I) [])) (accepted_parts I.K (graph I) I.given (groups I) ss e).1 in
        let w : written_in q ss ≡ true = every_in (λ q. written_in q ss) q (waiting_of (groups I) []) l.1 (ends_wait q b i []) in
        let t = spot I.K (tall I) (graph I) (valid I) (few I) I.given bits q (named I q i) n (own_bit bits) plan words counts folded w in
        let h : t.position < stage_size I.K = omega (arith, t.high, two_step I.K) in
        let f : filled (get_or plan (t.stage * stage_size I.K + t.position) empty) ≡ true = sym (filled_pin _) ∙ rw t.cell (small_filled q (omega (arith, named I q i, few I))) in
        record {
          stage = t.stage;
          at = t.at;
          position = t.position;
          room = t.room;
          from = t.from;
          to = t.to;
          word = t.word;
          low = t.low;
          high = t.high;
          cell = t.cell;
          bit = accepted_folds t.stage t.position t.room t.low h f ∙ ap (λ (x : ℕ). as_number (graph_value I bits x)) t.cell;
        }
