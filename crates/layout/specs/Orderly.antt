-- What lists of edges have to be for their words to be a table that means them. Assumes nothing: these are definitions.
use Rattle.std.specs.Prelude.{◌≡◌, false, List, ℕ, suc, ◌≤◌, ◌<◌, length}
use Rattle.automata.specs.Automaton.{Automaton}
use Rattle.automata.specs.System.{Edge, edge_at, listed}

-- edges in the order of their sources, between states of the automaton and on its letters
pub record Orderly (a : Automaton) (es : List Edge) : Type 0 where
  pub rise : (e : ℕ) → suc e < length es → (edge_at es e).source ≤ (edge_at es (suc e)).source
  pub source : (e : ℕ) → e < length es → (edge_at es e).source < a.states
  pub letter : (e : ℕ) → e < length es → (edge_at es e).letter < a.letters
  pub target : (e : ℕ) → e < length es → (edge_at es e).target < a.states

-- the automaton has exactly the edges listed, and only its states are initial or accepting
pub record HasEdges (a : Automaton) (es : List Edge) : Type 0 where
  pub initial : (q : ℕ) → a.states ≤ q → a.initial q ≡ false
  pub accepting : (q : ℕ) → a.states ≤ q → a.accepting q ≡ false
  pub edge : (i c j : ℕ) → a.edge i c j ≡ listed i c j es
