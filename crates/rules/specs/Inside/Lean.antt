-- Rules 2 to 7 as the program runs them: reverse levels and level lists once a stage, needed pins counted again only where an earlier count
-- leaves no room. The plan is that of `filled_plan` (proofs/Lean/Lean.antt). Assumes nothing.
use Rattle.std.specs.Prelude.{ℕ, zero, suc, ◌+◌, min, max, Bool, true, false, not, ◌&&◌, List, [], ◌∷◌, ◌++◌, map, leb, ltb, eqb, length, get_or, take, replicate}
use Rattle.rules.specs.Lists.{Found, nothing, found, mem, keep, distinct, count, is_nil, gather}
use Rattle.rules.specs.Cells.{empty, filled, width, level_one_size, stage_size, row}
use Rattle.rules.specs.Traversal.{Setting, level_at, greatest, reverse_levels}
use Rattle.rules.specs.Placing.{asked, tree_of, cell_at, placed}

-- the plan before anything is placed
unfoldable pub blank : Setting → List ℕ
blank X = replicate (stage_size X.K) empty

-- 3. the reverse levels before anything is placed
unfoldable pub start_levels : Setting → List ℕ
start_levels X = reverse_levels X []

-- 4. some pins by falling reverse level, on a tie in their order
unfoldable pub rank_in : List ℕ → ℕ → List ℕ → List ℕ
rank_in rl p [] = p ∷ []
rank_in rl p (x ∷ xs) = elim (ltb (get_or rl p 0) (get_or rl x 0)) [ true ↦ x ∷ rank_in rl p xs | false ↦ p ∷ x ∷ xs ]

unfoldable pub rank : List ℕ → List ℕ → List ℕ
rank rl [] = []
rank rl (p ∷ ps) = rank_in rl p (rank rl ps)

-- the same by counting: the pins of each reverse level in order, the greatest first
unfoldable pub buckets : List ℕ → List ℕ → ℕ → List ℕ
buckets rl ps zero = []
buckets rl ps (suc k) = keep (λ p. eqb (get_or rl p 0) k) ps ++ buckets rl ps k

-- the pins of level h in order, and ranked
unfoldable pub level_list : Setting → ℕ → List ℕ
level_list X h = keep (λ p. eqb (level_at X p) h) X.order

unfoldable pub candidates : Setting → ℕ → List ℕ
candidates X h = rank (start_levels X) (level_list X h)

-- the unplaced pin with the greatest reverse level: by a scan, and in a ranked list
unfoldable pub scan : List ℕ → List ℕ → List ℕ → ℕ → Found → Found
scan tr rl [] top best = best
scan tr rl (p ∷ ps) top best = elim (ltb top (get_or rl p 0) && not (mem p tr)) [ true ↦ scan tr rl ps (get_or rl p 0) (found p) | false ↦ scan tr rl ps top best ]

unfoldable pub first_free : List ℕ → List ℕ → Found
first_free tr [] = nothing
first_free tr (p ∷ ps) = elim (mem p tr) [ true ↦ first_free tr ps | false ↦ found p ]

-- 6. the needed pins: an unplaced pin asks whether or not it has a reverse level
unfoldable pub lacks : Setting → List ℕ → ℕ → List ℕ
lacks X tr p = elim (mem p tr) [ true ↦ [] | false ↦ asked X tr p (level_at X p) ]

unfoldable pub wanted : Setting → List ℕ → List ℕ
wanted X pl = distinct (gather (lacks X (tree_of X pl)) X.order)

-- the pins of the order that lack something before anything is placed: none other ever does
unfoldable pub lacking : Setting → ℕ → Bool
lacking X p = not (is_nil (lacks X [] p))

unfoldable pub noted : Setting → List ℕ
noted X = keep (lacking X) X.order

-- 7. room at level 1 for b needed pins
unfoldable pub room_for : Setting → ℕ → List ℕ → Bool
room_for X b pl = ltb (b + max (count filled (row X.K 1 pl)) (length (tree_of X pl))) (level_one_size X.K)

-- if the plan has room, a number that its needed pins don't exceed: b if that will do, else their count
unfoldable pub recount : Setting → ℕ → List ℕ → Found
recount X b pl =
    elim (room_for X b pl) [
      | true ↦ found b
      | false ↦ elim (room_for X (length (wanted X pl)) pl) [ true ↦ found (length (wanted X pl)) | false ↦ nothing ]
    ]

-- a plan, and a number that its needed pins don't exceed
pub record Filling : Type 0 where
  pub most : ℕ
  pub plan : List ℕ

-- one level, down its candidates
unfoldable pub sweep : Setting → ℕ → List ℕ → ℕ → List ℕ → Filling
sweep X h [] b pl = record { most = b; plan = pl }
sweep X h (n ∷ ns) b pl =
    elim (mem n (tree_of X pl)) [
      | true ↦ sweep X h ns b pl
      | false ↦ elim (cell_at X h pl) [
        | nothing ↦ record { most = b; plan = pl }
        | found p ↦ elim (recount X b (placed X h p n pl)) [
          | nothing ↦ record { most = b; plan = pl }
          | found c ↦ sweep X h ns c (placed X h p n pl)
        ]
      ]
    ]

-- from level h down to 2
unfoldable pub lean : Setting → ℕ → ℕ → List ℕ → List ℕ
lean X zero b pl = pl
lean X (suc zero) b pl = pl
lean X (suc (suc l)) b pl =
    let s = sweep X (suc (suc l)) (candidates X (suc (suc l))) b pl in
    lean X (suc l) s.most s.plan

-- what is left to do at level l + 1 with the candidates ns still to try
unfoldable pub onward : Setting → ℕ → List ℕ → ℕ → List ℕ → List ℕ
onward X l ns b pl =
    let s = sweep X (suc l) ns b pl in
    lean X l s.most s.plan

unfoldable pub lean_plan : Setting → List ℕ
lean_plan X = lean X (min (greatest (map (level_at X) X.order) 0) X.K) (length (wanted X (blank X))) (blank X)

-- how many cells above level 0 hold pin x
unfoldable pub cells_holding : ℕ → List ℕ → ℕ → ℕ
cells_holding K pl x = count (λ c. eqb c x) (take (width K) pl)

-- 8. the waiting pins that are needed, and those untouched
unfoldable pub low_waiting : Setting → List ℕ → List ℕ
low_waiting X pl = keep (λ p. not (mem p (tree_of X pl)) && leb (level_at X p) 1) X.waiting

unfoldable pub high_waiting : Setting → List ℕ → List ℕ
high_waiting X pl = keep (λ p. not (mem p (tree_of X pl)) && ltb 1 (level_at X p)) X.waiting
