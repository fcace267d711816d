-- What a traversal leaves and a stage's work rests on, by a rank of the pins that falls along operands. Assumes nothing.
use Rattle.std.specs.Prelude.{ℕ, ◌<◌, ◌≤◌, ◌≡◌, ◌⊎◌, true, List, [], ◌∷◌, length, get_or}
use Rattle.rules.specs.Lists.{In, Out, Sub, Once}
use Rattle.rules.specs.Cells.{filled, empty}
use Rattle.rules.specs.Graph.{Node, leaf, gate, pin_of, below}
use Rattle.rules.specs.Loops.{under, From}
use Rattle.rules.specs.Traversal.{Setting, level_at}
use Rattle.rules.specs.Depth.{depth}

-- a list, last pin first: no pin twice, and what is followed from a pin comes before it
pub data Topo (g : List Node) (done : List ℕ) : List ℕ → Type 0 where
  none : Topo g done []
  more : {p : ℕ} {s : List ℕ} → Out p s → ((x : ℕ) → In x (below g done p) → In x s) → Topo g done s → Topo g done (p ∷ s)

-- a rank that falls along what is followed
abbrev pub Ranked : List Node → List ℕ → (ℕ → ℕ) → Type 0
Ranked g done r = (p x : ℕ) → In x (below g done p) → r x < r p

-- how many pins are under a pin
unfoldable pub rank : List Node → ℕ → ℕ
rank g p = length (under g p)

-- t is s with all that is reached from ps
pub record Visited (g : List Node) (done ps s t : List ℕ) : Type 0 where
  pub topo : Topo g done t
  pub has : (q : ℕ) → In q ps → In q t
  pub kept : (q : ℕ) → In q s → In q t
  pub new : (q : ℕ) → In q t → In q s ⊎ From g done ps q

-- the graph's rule: operands are pins of the graph, of a lower rank
pub record Graph (g : List Node) (r : ℕ → ℕ) : Type 0 where
  pub falls : Ranked g [] r
  pub inside : (p x : ℕ) → In x (below g [] p) → x < length g

-- what is known of a stage's work, with ranks r and more fuel f than any listed pin's rank
pub record Sound (X : Setting) (r : ℕ → ℕ) (f : ℕ) : Type 0 where
  pub ranked : Ranked X.g X.done r
  pub visited : Visited X.g X.done X.waiting [] X.seen
  pub ordered : Sub X.seen X.order
  pub listed : Sub X.order X.seen
  pub bound : (x : ℕ) → In x X.seen → x < length X.g
  pub fuel : (x : ℕ) → In x X.seen → r x < f
  pub level : (x : ℕ) → In x X.seen → level_at X x ≡ depth f X.g X.done x

-- operands of gates are no empty marks
abbrev pub Marked : Setting → Type 0
Marked X = (n a b : ℕ) → get_or X.g n leaf ≡ gate a b → (filled (pin_of a) ≡ true) × (filled (pin_of b) ≡ true)

-- a state between stages
pub record Ready (g : List Node) (r : ℕ → ℕ) (waiting : List ℕ) : Type 0 where
  pub once : Once waiting
  pub bounded : (x : ℕ) → In x waiting → (x < length g) × (r x < length g)

-- all that laws ask of a stage's work: the setting, a rank, fuel above it, and pins that are no empty marks
pub record Work : Type 0 where
  pub X : Setting
  pub r : ℕ → ℕ
  pub f : ℕ
  pub S : Sound X r f
  pub M : Marked X
  pub small : length X.g ≤ empty
