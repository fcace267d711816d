-- For the code's proofs: rules 8 to 11 one branch at a time. Assumes nothing.
use Prim.Native.Nat.{ℕ, zero, suc, ◌+◌, ◌/◌}
use mathlib.Core.Path.{◌≡◌, refl, ap, ◌∙◌}
use mathlib.Core.Bool.{Bool, true, false, ◌&&◌, ◌||◌}
use mathlib.Core.List.{List, [], ◌∷◌, ◌++◌}
use lib.Dec.{ltb, leb}
use lib.ListN.{length, get_or}
use Rattle.rules.specs.Lists.{nothing, found, mem, keep, insert, insert_all, In, Out}
use Rattle.rules.specs.Cells.{empty, filled, row_at, row, first_empty}
use Rattle.rules.specs.Traversal.{Setting}
use Rattle.rules.specs.Placing.{tree, place}
use Rattle.rules.specs.Ending.{Sparse, Put, meet, fill_in, put_cell, put_cells, put_run, goes_on, put_runs, full, plan, put_rest, words_in, refused, close, in_tree, last_stage, written, rest, more_words, ending, finish}

module _ (X : Setting) where
  -- ---- 8. one cell

  module _ (p : ℕ) (s : Put) where
    -- what the pins left and the cell decide
    turn : List ℕ → Put
    turn l = elim l [ [] ↦ s | e ∷ es ↦ elim (filled (get_or s.plan p empty)) [ true ↦ meet X p s | false ↦ fill_in X p e es s ] ]

    -- no pin left: nothing happens
    pub put_none : s.left ≡ [] → put_cell X p s ≡ s
    unfolding put_cell turn
    put_none e = ap turn e

    -- an empty cell takes the next pin
    pub put_fill : (e : ℕ) (es : List ℕ) → s.left ≡ e ∷ es → filled (get_or s.plan p empty) ≡ false → put_cell X p s ≡ fill_in X p e es s
    unfolding put_cell turn
    put_fill e es l k = ap turn l ∙ rw (k, turn) refl

    -- a filled cell is met
    pub put_met : (e : ℕ) (es : List ℕ) → s.left ≡ e ∷ es → filled (get_or s.plan p empty) ≡ true → put_cell X p s ≡ meet X p s
    unfolding put_cell turn
    put_met e es l k = ap turn l ∙ rw (k, turn) refl

    -- the cell's pin waits, or not
    met : ℕ → Put
    met c = record { plan = s.plan; left = s.left; real = insert_all (keep (λ q. mem q X.waiting) (c ∷ [])) s.real; words = s.words }

    -- a waiting pin met is realised
    pub meet_waits : (c : ℕ) → get_or s.plan p empty ≡ c → In c X.waiting → meet X p s ≡ record { plan = s.plan; left = s.left; real = insert c s.real; words = s.words }
    unfolding meet met keep insert_all
    meet_waits c e i = ap met e ∙ rw (i, keep) refl

    -- a pin met that doesn't wait changes nothing
    pub meet_not : (c : ℕ) → get_or s.plan p empty ≡ c → Out c X.waiting → meet X p s ≡ s
    unfolding meet met keep insert_all
    meet_not c e o = ap met e ∙ rw (o, keep) refl

  -- one cell, then those behind it
  pub cells_more : (n p : ℕ) (s : Put) → put_cells X (suc n) p s ≡ put_cells X n (suc p) (put_cell X p s)
  unfolding put_cells
  cells_more n p s = refl

  -- with no pin left nothing happens
  pub cells_idle : (n p : ℕ) (s : Put) → s.left ≡ [] → put_cells X n p s ≡ s
  unfolding put_cells
  cells_idle zero p s e = refl
  cells_idle (suc n) p s e = rw (put_none p s e) (cells_idle n (suc p) s e)

  -- ---- 8. one run

  module _ (last : Bool) (s : Put) where
    -- no run left
    pub runs_end : put_runs X last [] s ≡ s
    unfolding put_runs
    runs_end = refl

    module _ (r : Sparse) (rs : List Sparse) where
      -- a run is written, and the others follow
      pub runs_go : goes_on X.rule last r.filled (length s.left) ≡ true → put_runs X last (r ∷ rs) s ≡ put_runs X last rs (put_run X r s)
      unfolding put_runs
      runs_go e = rw (e, put_runs) refl

      -- a run that isn't written is the end
      pub runs_stop : goes_on X.rule last r.filled (length s.left) ≡ false → put_runs X last (r ∷ rs) s ≡ s
      unfolding put_runs
      runs_stop e = rw (e, put_runs) refl

  -- ---- 9. one needed pin

  module _ (p : ℕ) (ps real pl : List ℕ) where
    -- a needed pin that is realised or in the tree is passed over
    pub rest_skip : mem p real || mem p (tree X.K pl) ≡ true → put_rest X (p ∷ ps) real pl ≡ put_rest X ps real pl
    unfolding put_rest
    rest_skip e = rw (e, put_rest) refl

    -- another one that finds no empty cell at level 1: full
    pub rest_full : mem p real || mem p (tree X.K pl) ≡ false → first_empty (row_at X.K 1) (row X.K 1 pl) ≡ nothing → put_rest X (p ∷ ps) real pl ≡ full
    unfolding put_rest
    rest_full e d = rw (e, d, put_rest) refl

    -- else it goes into the lowest empty one
    pub rest_put : (c : ℕ) → mem p real || mem p (tree X.K pl) ≡ false → first_empty (row_at X.K 1) (row X.K 1 pl) ≡ found c → put_rest X (p ∷ ps) real pl ≡ put_rest X ps real (place X 1 (row_at X.K 1) c p pl)
    unfolding put_rest
    rest_put c e d = rw (e, d, put_rest) refl

  -- ---- tests 7 and 8, rule 10

  module _ (room : ℕ) (pl : List ℕ) where
    -- 7: the words of rule 8 are more than are left
    pub finish_seven : ltb room (length (written X pl).words) ≡ true → finish X room pl ≡ refused 7
    unfolding finish
    finish_seven e = rw (e, finish) refl

    module _ (fits : ltb room (length (written X pl).words) ≡ false) where
      -- 8: level 1 has no cell for a needed pin
      pub finish_full : rest X pl ≡ full → finish X room pl ≡ refused 8
      unfolding finish
      finish_full r = rw (fits, r, finish) refl

      module _ (pl2 : List ℕ) (r : rest X pl ≡ plan pl2) where
        -- 8: no cell of level 1 stays empty
        pub finish_none : first_empty 0 (row X.K 1 pl2) ≡ nothing → finish X room pl ≡ refused 8
        unfolding finish
        finish_none e = rw (fits, r, e, finish) refl

        module _ (c : ℕ) (free : first_empty 0 (row X.K 1 pl2) ≡ found c) where
          finish_ending : finish X room pl ≡ ending X room pl pl2
          unfolding finish
          finish_ending = rw (fits, r, free, finish) refl

          -- nothing is untouched and all words fit: rule 10 writes them and realises the tree endpoints
          pub finish_last : last_stage X pl && leb (length (written X pl).words + length (more_words X pl pl2)) room ≡ true →
              finish X room pl ≡ close X pl2 ((written X pl).words ++ more_words X pl pl2) (insert_all (in_tree X pl) (written X pl).real)
          unfolding ending
          finish_last d = finish_ending ∙ rw (d, ending) refl

          -- else rule 10 writes none and realises none
          pub finish_more : last_stage X pl && leb (length (written X pl).words + length (more_words X pl pl2)) room ≡ false →
              finish X room pl ≡ close X pl2 (written X pl).words (written X pl).real
          unfolding ending
          finish_more d = finish_ending ∙ rw (d, ending) refl

-- ---- 10. one cell

-- a cell that holds one of the pins gives its word
pub words_in_lem : (ps : List ℕ) (p c : ℕ) (cs ws : List ℕ) → In c ps → words_in ps p (c ∷ cs) ws ≡ words_in ps (suc p) cs (insert (p / 32) ws)
unfolding words_in
words_in_lem ps p c cs ws i = rw (i, words_in) refl

-- another cell gives none
pub words_out : (ps : List ℕ) (p c : ℕ) (cs ws : List ℕ) → Out c ps → words_in ps p (c ∷ cs) ws ≡ words_in ps (suc p) cs ws
unfolding words_in
words_out ps p c cs ws o = rw (o, words_in) refl
