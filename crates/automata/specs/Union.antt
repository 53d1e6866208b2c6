-- The disjoint union of two automata: one beside the other, with no edge between them (docs/RULES.md, "Two patterns made into one"). Assumes nothing:
-- these are definitions.
use Rattle.std.specs.Prelude.{Bool, ◌&&◌, ℕ, ◌+◌, ◌-◌, ltb, leb}
use Rattle.basics.specs.Joined.{numbered_on}
use Rattle.automata.specs.Automaton.{Automaton}

-- an edge leads from a state of either side to one of the same side
unfoldable pub union_edge : (a b : Automaton) → (source letter target : ℕ) → Bool
union_edge a b p c q =
    numbered_on a.states
    (λ p. ltb q a.states && a.edge p c q)
    (λ p. leb a.states q && b.edge p c (q - a.states))
    p

-- THE UNION: the states of the second are numbered on from those of the first. Its letters are those of the first: it is asked for where both
-- have as many
unfoldable pub disjoint_union : (a b : Automaton) → Automaton
disjoint_union a b =
    record {
      states = a.states + b.states;
      letters = a.letters;
      initial = numbered_on a.states a.initial b.initial;
      accepting = numbered_on a.states a.accepting b.accepting;
      edge = union_edge a b;
    }
