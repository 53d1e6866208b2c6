-- Q2, semi-determinism, and what the construction reads (docs/RULES.md, "Semi-determinism"), of any automaton. Assumes nothing: these are definitions.
use Rattle.std.specs.Prelude.{Bool, ◌&&◌, ◌||◌, not, ℕ, zero, suc, ltb}
use Rattle.std.specs.Int.Bits.{bit_and}
use Rattle.basics.specs.Bounded.{each, any}
use Rattle.automata.specs.Automaton.{Automaton}
use Rattle.sets.specs.Sets.{has, size, set_of}
use Rattle.ncsb.specs.Moves.{Moves}

-- the targets of a state on a letter, repeats counted once
unfoldable pub targets_of : Automaton → (state letter : ℕ) → ℕ
targets_of a q c = set_of a.states (a.edge q c)

-- I and F
unfoldable pub initial_states : Automaton → ℕ
initial_states a = set_of a.states a.initial

unfoldable pub accepting_states : Automaton → ℕ
accepting_states a = set_of a.states a.accepting

-- a set joined with all that an edge from it leads to
unfoldable pub grown : Automaton → (set : ℕ) → ℕ
grown a s =
    set_of a.states (λ q. has s q || any a.states (λ p. has s p && any a.letters (λ c. a.edge p c q)))

unfoldable pub reached_in : Automaton → (rounds set : ℕ) → ℕ
reached_in a zero s = s
reached_in a (suc r) s = grown a (reached_in a r s)

-- Q2: the accepting states and all states that they reach; n rounds reach all
unfoldable pub inner_of : Automaton → ℕ
inner_of a = reached_in a a.states (accepting_states a)

-- F in Q2
unfoldable pub marks_of : Automaton → ℕ
marks_of a = bit_and (accepting_states a) (inner_of a)

-- a state of Q2 that has two targets on one letter
unfoldable pub forks : Automaton → (state letter : ℕ) → Bool
forks a q c = has (inner_of a) q && ltb 1 (size a.states (targets_of a q c))

-- each state of Q2 has at most one target for each letter
unfoldable pub semi_deterministic : Automaton → Bool
semi_deterministic a = each a.states (λ q. each a.letters (λ c. not (forks a q c)))

-- what the step reads
unfoldable pub moves : Automaton → Moves
moves a =
    record {
      states = a.states;
      letters = a.letters;
      move = targets_of a;
      starts = initial_states a;
      marks = marks_of a;
      inner = inner_of a;
    }
