-- The product of a table's states with a lasso's positions, as a graph: node x is position x / n with state x % n.
-- Assumes nothing: these are definitions.
use Rattle.std.specs.Prelude.{◌≡◌, ◌&&◌, List, ℕ, ◌+◌, ◌*◌, ◌/◌, ◌%◌, ◌≤◌, ltb}
use Rattle.automata.specs.Lasso.{positions, position_letter, next_position}
use Rattle.tables.specs.Table.{n_of, m_of, head_of, letter_of, target_of, next_of, is_initial, is_accepting}
use Rattle.lasso_search.specs.Graph.{Graph}

-- a record of the chain from this one on has the letter, and its state at the position that begins at `base` is the target node
pub data ChainTo (t : List ℕ) (letter base target : ℕ) : (number : ℕ) → Type 0 where
  here : {r : ℕ} → 1 ≤ r → letter_of t r ≡ letter → base + target_of t r ≡ target → ChainTo t letter base target r
  later : {r : ℕ} → 1 ≤ r → ChainTo t letter base target (next_of t r) → ChainTo t letter base target r

-- of a node, among n states: the letter that its edges are on, and the first node of the position that they lead to
unfoldable pub node_letter : (n : ℕ) → (u v : List ℕ) → (node : ℕ) → ℕ
node_letter n u v x = position_letter u v (x / n)

unfoldable pub node_base : (n : ℕ) → (u v : List ℕ) → (node : ℕ) → ℕ
node_base n u v x = next_position u v (x / n) * n

unfoldable pub product_graph : (t u v : List ℕ) → Graph
product_graph t u v =
    record {
      size = positions u v * n_of t;
      last = m_of t;
      starts = λ x. ltb x (n_of t) && is_initial t x;
      accepts = λ x. is_accepting t (x % n_of t);
      first = λ x. head_of t (x % n_of t);
      Ahead = λ x r y. ChainTo t (node_letter (n_of t) u v x) (node_base (n_of t) u v x) y r;
    }
