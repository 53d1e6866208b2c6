-- Finite graphs whose edges hang on chains of records, ways through them, and accepting nodes on a cycle.
-- Assumes nothing: these are definitions.
use Rattle.std.specs.Prelude.{◌≡◌, Bool, true, ℕ, ◌<◌}
use Rattle.basics.specs.Star.{Star}

-- nodes are the numbers below size; the edges of a node hang on a chain of records, which begins at its first
pub record Graph : Type 1 where
  pub size : ℕ
  -- the largest record number
  pub last : ℕ
  pub starts : (node : ℕ) → Bool
  pub accepts : (node : ℕ) → Bool
  pub first : (node : ℕ) → ℕ
  -- some record from this one on is an edge from the node to the target
  pub Ahead : (node number target : ℕ) → Type 0

-- an edge
abbrev pub Arc : (g : Graph) → (x y : ℕ) → Type 0
Arc g x y = g.Ahead x (g.first x) y

-- every edge and every start stays inside
pub record Bounded (g : Graph) : Type 0 where
  pub edge : (x y : ℕ) → x < g.size → Arc g x y → y < g.size
  pub start : (x : ℕ) → g.starts x ≡ true → x < g.size

-- no edge, or several one behind the other
abbrev pub Way : (g : Graph) → (x y : ℕ) → Type 0
Way g x y = Star (Arc g) x y

pub record NodeReached (g : Graph) (x : ℕ) : Type 0 where
  pub start : ℕ
  pub begins : g.starts start ≡ true
  pub way : Way g start x

-- the node lies on a cycle
pub record Cycle (g : Graph) (x : ℕ) : Type 0 where
  pub behind : ℕ
  pub leaves : Arc g x behind
  pub returns : Way g behind x

-- an accepting node that is reached and lies on a cycle
pub record Found (g : Graph) : Type 0 where
  pub node : ℕ
  pub reached : NodeReached g node
  pub accepts : g.accepts node ≡ true
  pub cycle : Cycle g node
