-- Edges as they stand in the words while a system is explored: letter, target and source of each, from word 3 on. Assumes nothing: these are
-- definitions.
use Rattle.std.specs.Prelude.{false, List, ℕ, ◌+◌, ◌*◌, get_or}
use Rattle.basics.specs.Tabulate.{tabulate}
use Rattle.automata.specs.Automaton.{Automaton}
use Rattle.automata.specs.System.{Edge, an_edge}

unfoldable pub triple_at : (words : List ℕ) → (e : ℕ) → Edge
triple_at w e = an_edge (get_or w (5 + 3 * e) 0) (get_or w (3 + 3 * e) 0) (get_or w (4 + 3 * e) 0)

-- the first so many edges
abbrev pub triples_of : (words : List ℕ) → (count : ℕ) → List Edge
triples_of w m = tabulate m (triple_at w)

-- an automaton with so many states and letters whose flags are not known yet
unfoldable pub plain : (states letters : ℕ) → Automaton
plain n k =
    record {
      states = n;
      letters = k;
      initial = λ q. false;
      accepting = λ q. false;
      edge = λ p c q. false;
    }
