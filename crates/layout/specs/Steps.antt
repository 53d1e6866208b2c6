-- What laying out asks, and what its steps do to the words. Assumes nothing: these are definitions.
use Rattle.std.specs.Prelude.{◌≡◌, ◌&&◌, cond, List, ◌∷◌, ℕ, suc, ◌+◌, ◌*◌, ◌/◌, ◌%◌, ◌≤◌, ◌<◌, ltb, eqb, length, get_or, drop}
use Rattle.basics.specs.Tabulate.{tabulate}
use Rattle.basics.specs.Words.{largest_word}
use Rattle.automata.specs.System.{Edge, an_edge}
use Rattle.tables.specs.Table.{table_words}
use Rattle.layout.specs.Chained.{first_record, next_record}

-- the words of a table with so many states and records are there, and its counts fit words of so many bits
pub record TableRoom (bits : ℕ) (w : List ℕ) (states edges : ℕ) : Type 0 where
  pub room : table_words states edges ≤ length w
  pub states_fit : states ≤ largest_word bits
  pub edges_fit : edges ≤ largest_word bits

-- edges stand in the words as triples, their sources are states, and beyond the table's words all is zero
pub record LayOutAsks (bits : ℕ) (w : List ℕ) (states letters edges : ℕ) : Type 0 where
  pub room : TableRoom bits w states edges
  pub letters_fit : letters ≤ largest_word bits
  pub source : (e : ℕ) → e < edges → get_or w (5 + 3 * e) 0 < states
  pub beyond : (i : ℕ) → table_words states edges ≤ i → get_or w i 0 ≡ 0

-- the edges whose letters, targets and sources these words are
unfoldable pub edges_in : (words : List ℕ) → (count : ℕ) → List Edge
edges_in w m = tabulate m (λ r. an_edge (get_or w (2 + 3 * r) 0) (get_or w (3 * r) 0) (get_or w (1 + 3 * r) 0))

-- the next of record r + 1: the record behind it, if that has the same source
unfoldable pub behind : (r : ℕ) → (edges : List ℕ) → ℕ
behind r e = cond (ltb (3 * r + 5) (length e) && eqb (get_or e (3 * r + 5) 0) (get_or e (3 * r + 2) 0)) (suc (suc r)) 0

-- the words of states and of edges: three for each edge, their sources are states, no state has a head, and the edges' numbers fit words
pub record LinkAsks (bits : ℕ) (states edges : List ℕ) : Type 0 where
  pub whole : length edges % 3 ≡ 0
  pub fit : length edges / 3 ≤ largest_word bits
  pub source : (r : ℕ) → r < length edges / 3 → 2 * get_or edges (3 * r + 2) 0 + 1 < length states
  pub empty : (q : ℕ) → 2 * q + 1 < length states → get_or states (2 * q + 1) 0 ≡ 0

-- the first edges, those below a count, are linked: heads and nexts are those of docs/RULES.md, and every other word is as it was
pub record Linked (count : ℕ) (states edges states_now edges_now : List ℕ) : Type 0 where
  pub heads : (q : ℕ) → 2 * q + 1 < length states → get_or states_now (2 * q + 1) 0 ≡ first_record q (edges_in edges count)
  pub nexts : (r : ℕ) → r < count → get_or edges_now (3 * r + 2) 0 ≡ next_record (edges_in edges (length edges / 3)) r
  pub flags : (i : ℕ) → ((q : ℕ) → i ≡ 2 * q + 1 → ⊥) → get_or states_now i 0 ≡ get_or states i 0
  pub others : (i : ℕ) → ((r : ℕ) → r < count → i ≡ 3 * r + 2 → ⊥) → get_or edges_now i 0 ≡ get_or edges i 0

-- three words that fit so many bits
pub record CountsAsk (bits : ℕ) (w : List ℕ) (states letters edges : ℕ) : Type 0 where
  pub room : 3 ≤ length w
  pub states_fit : states ≤ largest_word bits
  pub letters_fit : letters ≤ largest_word bits
  pub edges_fit : edges ≤ largest_word bits

-- the three counts before all else
unfoldable pub with_counts : (states letters edges : ℕ) → (w : List ℕ) → List ℕ
with_counts n k m w = n ∷ k ∷ m ∷ drop 3 w
