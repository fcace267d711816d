-- The words of the cells that pass a test are rule 10's words of the pins that pass it. Assumes nothing.
use mathlib.Core.Path.{◌≡◌, refl}
use mathlib.Core.Bool.{Bool, true}
use mathlib.Core.List.{List, [], ◌∷◌}
use Prim.Native.Nat.{ℕ, zero, suc, ◌*◌, ◌/◌, ◌<◌}
use Rattle.rules.specs.Lists.{mem, insert, In, Out}
use Rattle.rules.specs.Cells.{empty, filled, row_at, row}
use Rattle.rules.specs.Ending.{words_in, words_up}
use Rattle.rules.proofs.Lists.Members.{split, in_here, in_there}
use Rattle.rules.proofs.Stage.Branches.{words_in_lem, words_out}
use Rattle.rules.proofs.Tree.Back.{not_filled}
use Rattle.stage_ending.specs.Words.{Pins, words_at, words_from}
use Rattle.stage_ending.proofs.Laws.Words.{part_in, pins_in, row_part}

-- ps are the pins below m that pass
module _ (f : ℕ → Bool) (ps : List ℕ) {m : ℕ} (tests : (c : ℕ) → c < m → f c ≡ mem c ps) (pins : Out empty ps) where
  words_same : (p : ℕ) (cs ws : List ℕ) → ((c : ℕ) → In c cs → filled c ≡ true → c < m) → words_at f p cs ws ≡ words_in ps p cs ws
  unfolding words_at words_in
  words_same p [] ws h = refl
  words_same p (c ∷ cs) ws h =
      let more : (vs : List ℕ) → words_at f (suc p) cs vs ≡ words_in ps (suc p) cs vs = λ vs. words_same (suc p) cs vs (λ x i. h x (in_there x c cs i)) in
      split (filled c)
      (λ e. let d : f c ≡ mem c ps = tests c (h c (in_here c cs) e) in split (mem c ps)
      (λ i. rw (e, d, i, words_at, words_in_lem ps p c cs ws i) (more (insert (p / 32) ws)))
      (λ o. rw (e, d, o, words_at, words_out ps p c cs ws o) (more ws)))
      (λ e. let o : Out c ps = rw (not_filled c e) pins in rw (e, words_at, words_out ps p c cs ws o) (more ws))

  module _ (K : ℕ) {pl : List ℕ} (P : Pins m pl) where
    -- the words found by the columns' test are rule 10's, level after level
    pub words_up_lem : (n h : ℕ) (ws : List ℕ) → words_from f K n h pl ws ≡ words_up K n h ps pl ws
    unfolding words_from words_up
    words_up_lem zero h ws = refl
    words_up_lem (suc n) h ws =
        let r : (c : ℕ) → In c (row K h pl) → filled c ≡ true → c < m = λ c i e. pins_in P c (part_in (row_at K h) (2 * row_at K h) pl c (rw (row_part K h (row_at K h) pl refl) i)) e in
        rw (words_same (row_at K h) (row K h pl) ws r) (words_up_lem n (suc h) (words_in ps (row_at K h) (row K h pl) ws))
