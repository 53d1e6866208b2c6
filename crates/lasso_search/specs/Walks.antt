-- The product that the code walks through: its graph, what its methods read of a node, and a walk along a node's edges. Assumes nothing:
-- these are definitions.
use Rattle.std.specs.Prelude.{◌≡◌, List, Option, Some, None, ◌⊎◌, ℕ, zero, suc, ◌+◌, ◌-◌, ◌%◌, ◌≤◌, ◌<◌}
use Rattle.tables.specs.Table.{m_of, head_of}
use Rattle.lasso_search.specs.Graph.{Graph}
use Rattle.lasso_search.specs.Product.{ChainTo, product_graph, node_letter, node_base}
use Rattle.lasso_search.specs.Search.{colour}
use Rattle.lasso_search.specs.Width.{Width, white, grey}
use Rattle.lasso_search.specs.declared.edges.Edges.{Edges}
use Rattle.lasso_search.specs.declared.product.Product.{Product}

-- its graph
abbrev pub graph : Product → Graph
graph p = product_graph p.table.words.now p.prefix.now p.cycle.now

-- the letter that a node's edges are on
abbrev pub letter_at : Product → (node : ℕ) → ℕ
letter_at p x = node_letter p.table.states p.prefix.now p.cycle.now x

-- the first node of the position that they lead to
abbrev pub base_at : Product → (node : ℕ) → ℕ
base_at p x = node_base p.table.states p.prefix.now p.cycle.now x

-- the first record of a node's chain
abbrev pub first_at : Product → (node : ℕ) → ℕ
first_at p x = head_of p.table.words.now (x % p.table.states)

-- A WALK along the edges of a node, from one of its records on
pub record EdgesOf (p : Product) (node number : ℕ) (e : Edges) : Type 0 where
  pub product : e.product ≡ p
  pub letter : e.letter ≡ letter_at p node
  pub base : e.base ≡ base_at p node
  pub at : e.at ≡ number

-- a target that is ahead
abbrev pub AheadOf : Edges → (target : ℕ) → Type 0
AheadOf e y = ChainTo e.product.table.words.now e.letter e.base y e.at

-- the walk goes on: what is ahead now was ahead
pub record GoesOn (e e_now : Edges) : Type 0 where
  pub product : e_now.product ≡ e.product
  pub letter : e_now.letter ≡ e.letter
  pub base : e_now.base ≡ e.base
  pub was_ahead : (y : ℕ) → AheadOf e_now y → AheadOf e y

-- a step of it leads to a target that was ahead
pub record StepTo (e : Edges) (target : ℕ) (e_now : Edges) : Type 0 where
  pub goes_on : GoesOn e e_now
  pub from_base : e.base ≤ target
  pub to_state : target < e.base + e.product.table.states
  pub ahead : AheadOf e target

-- to the first one
pub record Stepped (e : Edges) (target : ℕ) (e_now : Edges) : Type 0 where
  pub step : StepTo e target e_now
  pub others : (y : ℕ) → AheadOf e y → (y ≡ target) ⊎ AheadOf e_now y

-- or its end, where none is
pub record NoneAhead (e : Edges) : Type 0 where
  pub none : (y : ℕ) → AheadOf e y → ⊥

-- how many records there can be from this one on
abbrev pub from_record : (records number : ℕ) → ℕ
from_record m zero = 0
from_record m (suc x) = m - x

-- and so ahead of a walk
abbrev pub records_ahead : Edges → ℕ
records_ahead e = from_record (m_of e.product.table.words.now) e.at

-- or to the first one that is white: those before it are visited
pub record WhiteAt (wd : Width) (w : List ℕ) (e : Edges) (target : ℕ) (e_now : Edges) : Type 0 where
  pub step : StepTo e target e_now
  pub to_white : colour wd w target ≡ white
  pub others : (y : ℕ) → AheadOf e y → (grey ≤ colour wd w y) ⊎ ((y ≡ target) ⊎ AheadOf e_now y)

-- which there may be
pub data NextWhite (wd : Width) (w : List ℕ) (e e_now : Edges) : (r : Option ℕ) → Type 0 where
  no_white : ((y : ℕ) → AheadOf e y → grey ≤ colour wd w y) → NextWhite wd w e e_now None
  white_at : {x : ℕ} → WhiteAt wd w e x e_now → NextWhite wd w e e_now (Some x)
