-- Rules 1 to 3: traversal, levels, reverse levels; and what a stage starts from. Assumes nothing.
use Rattle.std.specs.Prelude.{ℕ, zero, suc, max, List, [], ◌∷◌, ◌++◌, reverse, true, false, length, get_or, set, replicate}
use Rattle.rules.specs.Lists.{mem}
use Rattle.rules.specs.Graph.{Node, below}

-- 1. depth first: a walk over some pins in order
unfoldable pub thread : (ℕ → List ℕ → List ℕ) → List ℕ → List ℕ → List ℕ
thread v [] seen = seen
thread v (p ∷ ps) seen = thread v ps (v p seen)

-- a pin after its operands, once; given and realised pins (`done`) are listed but not followed. The list has its last pin first.
-- A pin's rank falls along operands, so N + 1 is fuel enough and the first case is never reached
unfoldable pub visit : ℕ → List Node → List ℕ → ℕ → List ℕ → List ℕ
visit zero g done p seen = seen
visit (suc f) g done p seen = elim (mem p seen) [ true ↦ seen | false ↦ p ∷ thread (visit f g done) (below g done p) seen ]

unfoldable pub traverse : ℕ → List Node → List ℕ → List ℕ → List ℕ
traverse f g done waiting = thread (visit f g done) waiting []

-- one more than the greatest of some pins' numbers, 0 if there are none
unfoldable pub over : (ℕ → ℕ) → List ℕ → ℕ
over n [] = 0
over n (p ∷ ps) = max (suc (n p)) (over n ps)

-- 2. levels by pin, for a traversal with its last pin first
unfoldable pub levels : List Node → List ℕ → List ℕ → List ℕ
levels g done [] = replicate (length g) 0
levels g done (p ∷ ps) =
    let lv = levels g done ps in
    set lv p (over (λ q. get_or lv q 0) (below g done p))

unfoldable pub greatest : List ℕ → ℕ → ℕ
greatest [] m = m
greatest (x ∷ xs) m = greatest xs (max x m)

-- which sparse runs rule 8 writes once nothing is untouched: every one, idle runs too, as the Rust does; or none after the last needed waiting pin
pub data WordRule : Type 0 where
  every_run : WordRule
  needed_runs : WordRule

-- what does not change in a stage: the word rule, the height, the graph, given and realised pins, waiting pins, the traversal (last pin first, and in order) and the levels
pub record Setting : Type 0 where
  pub rule : WordRule
  pub K : ℕ
  pub g : List Node
  pub done : List ℕ
  pub waiting : List ℕ
  pub seen : List ℕ
  pub order : List ℕ
  pub lv : List ℕ

unfoldable pub setting : WordRule → ℕ → List Node → List ℕ → List ℕ → Setting
setting rule K g done waiting =
    let s = traverse (length g) g done waiting in
    record { rule = rule; K = K; g = g; done = done; waiting = waiting; seen = s; order = reverse s; lv = levels g done s }

unfoldable pub level_at : Setting → ℕ → ℕ
level_at X p = get_or X.lv p 0

-- 3. reverse levels by pin: 0 for none, else one more than the reverse level, so that raising one is `max`
unfoldable pub raise : ℕ → List ℕ → List ℕ → List ℕ
raise r [] rl = rl
raise r (p ∷ ps) rl = raise r ps (set rl p (max r (get_or rl p 0)))

unfoldable pub lift : List Node → List ℕ → ℕ → List ℕ → List ℕ
lift g stop p rl = elim (get_or rl p 0) [ zero ↦ rl | suc k ↦ raise (suc (suc k)) (below g stop p) rl ]

-- 0 at waiting pins, raised along operands; a pin that is given, realised or placed (`tr`) hands nothing down
unfoldable pub reverse_levels : Setting → List ℕ → List ℕ
reverse_levels X tr = thread (lift X.g (tr ++ X.done)) X.seen (raise 1 X.waiting (replicate (length X.g) 0))
