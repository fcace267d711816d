-- How the columns stand for what a stage starts from and for the counts of its plan. Assumes nothing.
use Rattle.std.specs.Prelude.{◌≡◌, List, ℕ, ◌+◌, ◌-◌, ◌*◌, ◌<◌, ◌≤◌, length, get_or, take, drop}
use Rattle.rules.specs.Lists.{count}
use Rattle.rules.specs.Cells.{filled, row}
use Rattle.rules.specs.Graph.{graph_of}
use Rattle.rules.specs.Traversal.{Setting, setting}
use Rattle.rules.specs.Placing.{tree_of}
use Rattle.rules.specs.Inside.Lean.{start_levels, candidates, cells_holding}
use Rattle.rules.specs.Inside.Some.{Some, Every}
use Rattle.rules.specs.Inside.Walks.{Graph, Sound, Marked, Ready}
use Rattle.columns.specs.Area.{Room, col}
use Rattle.columns.specs.Fields.{ORDER, DONE, LEVEL, WAITING, CELLS, RANKED, STARTS, ENDS, REVERSE, PLACE, ONES, PINS, FILLED, LISTED, SPARE}
use Rattle.columns.specs.Lists.{Holds, Marks, Placed, Clear}

-- a stage's setting, with what is known of it. The graph's rank falls along operands
pub record Context : Type 0 where
  pub X : Setting
  pub r : ℕ → ℕ
  pub G : Graph X.g r
  pub R : Ready X.g r X.waiting
  pub S : Sound X r (length X.g)
  pub M : Marked X
  pub is : X ≡ setting X.rule X.K X.g X.done X.waiting
  pub low : 6 ≤ X.K
  pub high : X.K ≤ 13
  pub small : length X.g ≤ 65536

-- contracts that speak of a plan too: it is no argument of the code, which reads its counts
pub record Planned : Type 0 where
  pub C : Context
  pub pl : List ℕ

abbrev pub SomePlan : (Context → List ℕ → Type 0) → Type 0
SomePlan P = Some (λ (x : Planned). P x.C x.pl)

abbrev pub EveryPlan : (P Q : Context → List ℕ → Type 0) → Type 0
EveryPlan P Q = Every (λ (x : Planned). P x.C x.pl) (λ (x : Planned). Q x.C x.pl)

-- the area, and the lent numbers of the graph
pub record Base (C : Context) (m : ℕ) (gates w : List ℕ) : Type 0 where
  pub area : Room m w
  pub size : length C.X.g ≡ m
  pub graph : C.X.g ≡ graph_of gates
  pub pair : length gates ≡ 2 * m

-- what a stage starts from: given and realised pins are marked, the n waiting pins listed
pub record Begun (C : Context) (m n : ℕ) (gates w : List ℕ) : Type 0 where
  pub base : Base C m gates w
  pub done : Marks DONE m C.X.done w
  pub waiting : Placed WAITING PLACE m n C.X.waiting w

-- the traversal's order, k pins
pub record Ordered (C : Context) (m k : ℕ) (w : List ℕ) : Type 0 where
  pub order : Holds ORDER m k C.X.order w

pub record Levelled (C : Context) (m : ℕ) (w : List ℕ) : Type 0 where
  pub levels : col LEVEL m w ≡ C.X.lv

pub record Reversed (C : Context) (m : ℕ) (w : List ℕ) : Type 0 where
  pub reverse : col REVERSE m w ≡ start_levels C.X

-- the entries i to e of the ranked lists
unfoldable pub ranked : ℕ → List ℕ → ℕ → ℕ → List ℕ
ranked m w i e = take (e - i) (drop (RANKED * m + i) w)

-- level h's ranked list stands from STARTS to ENDS
pub record Listed (C : Context) (m : ℕ) (w : List ℕ) : Type 0 where
  pub lists : (h : ℕ) → 2 ≤ h → h ≤ C.X.K → h < m → ranked m w (get_or w (STARTS * m + h) 0) (get_or w (ENDS * m + h) 0) ≡ candidates C.X h
  pub spans : (h : ℕ) → 2 ≤ h → h ≤ C.X.K → h < m → (get_or w (STARTS * m + h) 0 ≤ get_or w (ENDS * m + h) 0) × (get_or w (ENDS * m + h) 0 ≤ m)

-- the setting as the loop of rules 2 to 7 and the rest of a stage read it
pub record Set (C : Context) (m n k : ℕ) (gates w : List ℕ) : Type 0 where
  pub begun : Begun C m n gates w
  pub ordered : Ordered C m k w
  pub levelled : Levelled C m w
  pub listed : Listed C m w

-- the counts of a plan: cells by pin; in the tail the filled cells of level 1, the pins in the tree and the filled cells of all levels
pub record Tally (C : Context) (m : ℕ) (pl w : List ℕ) : Type 0 where
  pub cells : (x : ℕ) → x < m → get_or w (CELLS * m + x) 0 ≡ cells_holding C.X.K pl x
  pub ones : get_or w (16 * m + ONES) 0 ≡ count filled (row C.X.K 1 pl)
  pub pins : get_or w (16 * m + PINS) 0 ≡ length (tree_of C.X pl)
  pub total : get_or w (16 * m + FILLED) 0 ≡ count filled pl

-- what is read of the graph: the lent numbers, and the marks of pins to stop at
pub record Reads (C : Context) (m : ℕ) (gates w : List ℕ) : Type 0 where
  pub base : Base C m gates w
  pub done : Marks DONE m C.X.done w

-- what the walks find empty, and leave so at the stage's end
pub record Fresh (m : ℕ) (w : List ℕ) : Type 0 where
  pub listed : Clear LISTED m w
  pub levels : Clear LEVEL m w
  pub reverse : Clear REVERSE m w
  pub starts : Clear STARTS m w
  pub ends : Clear ENDS m w
  pub spare : Clear SPARE m w
