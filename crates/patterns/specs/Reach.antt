-- Which states an automaton's states reach, by edges on any letters. Assumes nothing: these are definitions.
use Rattle.std.specs.Prelude.{◌≡◌, true, ℕ, ◌<◌}
use Rattle.basics.specs.Star.{Star}
use Rattle.automata.specs.Automaton.{Automaton}

-- an edge on some letter leads from the first state to the second
abbrev pub SomeEdge : (a : Automaton) → (p q : ℕ) → Type 0
SomeEdge a p q = (c : ℕ) × (a.edge p c q ≡ true)

-- edges lead from the first state to the second: none, or several one behind the other
abbrev pub Reaches : (a : Automaton) → (p q : ℕ) → Type 0
Reaches a p q = Star (SomeEdge a) p q

-- some accepting state is this one or reaches it
pub record FromAccepting (a : Automaton) (q : ℕ) : Type 0 where
  pub source : ℕ
  pub inside : source < a.states
  pub accepting : a.accepting source ≡ true
  pub reaches : Reaches a source q
