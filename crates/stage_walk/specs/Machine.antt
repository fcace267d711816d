-- Rule 1 with a stack. An item is a pin that is not listed yet and its phase: of the pins followed from it, the first k are listed or put on the stack. Assumes nothing.
use Rattle.std.specs.Prelude.{◌≡◌, List, [], ◌∷◌, reverse, ℕ, zero, suc, ◌+◌, ◌-◌, ◌*◌, ◌<◌, ◌≤◌, length, get_or, drop}
use Rattle.rules.specs.Graph.{Node, below}
use Rattle.rules.specs.Traversal.{thread, visit}
use Rattle.rules.specs.Lists.{Out}
use Rattle.columns.specs.Area.{Frame}
use Rattle.columns.specs.Fields.{ORDER, LISTED, STACK, PHASE}
use Rattle.columns.specs.Lists.{list, Holds, Marks, Clear, Marked}
use Rattle.stage_walk.specs.Stands.{Context, Begun, Reads}

pub data Item : Type 0 where
  item : ℕ → ℕ → Item

-- what is left to do of a pin in a phase, and of a stack, its top first; f is fuel
unfoldable pub rest : ℕ → List Node → List ℕ → ℕ → ℕ → List ℕ → List ℕ
rest f g done p zero seen = visit f g done p seen
rest f g done p (suc k) seen = p ∷ thread (visit f g done) (drop (suc k) (below g done p)) seen

unfoldable pub finish : ℕ → List Node → List ℕ → List Item → List ℕ → List ℕ
finish f g done [] seen = seen
finish f g done (item p k ∷ s) seen = finish f g done s (rest f g done p k seen)

unfoldable pub phases : List Item → ℕ
phases [] = 0
phases (item p k ∷ s) = k + phases s

-- pin p is under way: in phase k, and not listed
pub record Open (g : List Node) (done seen : List ℕ) (p k : ℕ) : Type 0 where
  pub most : k ≤ length (below g done p)
  pub fresh : Out p seen

-- under the top: pins under way of rising rank, above b
pub data Chain (g : List Node) (done : List ℕ) (r : ℕ → ℕ) (seen : List ℕ) : ℕ → List Item → Type 0 where
  bottom : {b : ℕ} → Chain g done r seen b []
  above : {b p k : ℕ} {s : List Item} → b < r p → (p < length g) × (r p < length g) → Open g done seen p k → Chain g done r seen (r p) s → Chain g done r seen b (item p k ∷ s)

pub record Top (g : List Node) (done : List ℕ) (r : ℕ → ℕ) (seen : List ℕ) (p k : ℕ) (s : List Item) : Type 0 where
  pub pin : p < length g
  pub rank : r p < length g
  pub opened : Open g done seen p k
  pub under : Chain g done r seen (r p) s

pub data Stack (g : List Node) (done : List ℕ) (r : ℕ → ℕ) (seen : List ℕ) : List Item → Type 0 where
  none : Stack g done r seen []
  some : {p k : ℕ} {s : List Item} → Top g done r seen p k s → Stack g done r seen (item p k ∷ s)

-- ---- in the columns

-- the d lowest items, top first
unfoldable pub items : ℕ → List ℕ → ℕ → List Item
items m w zero = []
items m w (suc d) = item (get_or w (STACK * m + d) 0) (get_or w (PHASE * m + d) 0) ∷ items m w d

-- the n listed pins, the last first
abbrev pub seen_in : ℕ → ℕ → List ℕ → List ℕ
seen_in m n w = reverse (list ORDER m n w)

-- the traversal under way: a stack of d items, n pins listed
pub record Going (C : Context) (m : ℕ) (gates w : List ℕ) (d n : ℕ) : Type 0 where
  pub reads : Reads C m gates w
  pub listed : Marked ORDER LISTED m n (list ORDER m n w) w
  pub stack : Stack C.X.g C.X.done C.r (seen_in m n w) (items m w d)

-- pin p in phase k: past phase 0 it is a gate that is followed
pub record NextAt (C : Context) (m : ℕ) (gates w : List ℕ) (p k : ℕ) : Type 0 where
  pub reads : Reads C m gates w
  pub pin : p < m
  pub most : k ≤ length (below C.X.g C.X.done p)

-- a listing falls by 4 and may free two phases; a phase more puts an item on
unfoldable pub to_go : ℕ → List ℕ → ℕ → ℕ → ℕ
to_go m w d n = 4 * (m - n) + (4 * m - 2 * phases (items m w d)) + d

-- what is left to do
abbrev pub to_list : Context → ℕ → List ℕ → ℕ → ℕ → List ℕ
to_list C m w d n = finish (length C.X.g) C.X.g C.X.done (items m w d) (seen_in m n w)

abbrev pub walked : List ℕ
walked = ORDER ∷ LISTED ∷ STACK ∷ PHASE ∷ []

-- one step, or many
pub record Went (C : Context) (m : ℕ) (gates w : List ℕ) (d n : ℕ) (w' : List ℕ) (d' n' : ℕ) : Type 0 where
  pub frame : Frame walked m w w'
  pub going : Going C m gates w' d' n'
  pub same : to_list C m w' d' n' ≡ to_list C m w d n

pub record Stepped (C : Context) (m : ℕ) (gates w : List ℕ) (d n : ℕ) (w' : List ℕ) (d' n' : ℕ) : Type 0 where
  pub went : Went C m gates w d n w' d' n'
  pub less : to_go m w' d' n' < to_go m w d n

-- pin p with all below it is listed
pub record VisitAt (C : Context) (m : ℕ) (gates w : List ℕ) (n p : ℕ) : Type 0 where
  pub going : Going C m gates w 0 n
  pub pin : p < m
  pub rank : C.r p < m

pub record Visited (C : Context) (m : ℕ) (gates w : List ℕ) (n p : ℕ) (w' : List ℕ) (n' : ℕ) : Type 0 where
  pub frame : Frame walked m w w'
  pub going : Going C m gates w' 0 n'
  pub lists : seen_in m n' w' ≡ visit (length C.X.g) C.X.g C.X.done p (seen_in m n w)

-- no pin is marked yet
pub record TraverseAt (C : Context) (m n : ℕ) (gates w : List ℕ) : Type 0 where
  pub begun : Begun C m n gates w
  pub clear : Clear LISTED m w

-- the waiting pins before `from` are visited, and the k pins that they list are marked
pub record GoOnAt (C : Context) (m n from k : ℕ) (gates w : List ℕ) : Type 0 where
  pub begun : Begun C m n gates w
  pub upto : from ≤ n
  pub listed : Marked ORDER LISTED m k (list ORDER m k w) w
  pub same : thread (visit (length C.X.g) C.X.g C.X.done) (drop from C.X.waiting) (seen_in m k w) ≡ C.X.seen

-- the waiting pins from i on are still to be visited
pub record Swept (C : Context) (m n : ℕ) (gates w : List ℕ) (i : ℕ) (w' : List ℕ) (k : ℕ) : Type 0 where
  pub frame : Frame walked m w w'
  pub begun : Begun C m n gates w'
  pub going : Going C m gates w' 0 k
  pub same : thread (visit (length C.X.g) C.X.g C.X.done) (drop i C.X.waiting) (seen_in m k w') ≡ C.X.seen

-- the contract: the order, its length, each pin once, and marks at exactly its pins
pub record WentOn (C : Context) (m : ℕ) (w w' : List ℕ) (k : ℕ) : Type 0 where
  pub frame : Frame walked m w w'
  pub listed : Marked ORDER LISTED m k C.X.order w'

-- what others ask of it
pub record Traversed (C : Context) (m : ℕ) (w w' : List ℕ) (k : ℕ) : Type 0 where
  pub frame : Frame walked m w w'
  pub order : Holds ORDER m k C.X.order w'
  pub marks : Marks LISTED m C.X.order w'
