-- Büchi automata and their runs over endless words (docs/RULES.md, "Runs, and what the third demand compares"). Assumes nothing: these are definitions.
use Rattle.std.specs.Prelude.{◌≡◌, Bool, true, ℕ, suc, ◌≤◌, ◌<◌}

-- what a table of any width means: states 0 to states − 1, letters 0 to letters − 1
pub record Automaton : Type 0 where
  pub states : ℕ
  pub letters : ℕ
  pub initial : ℕ → Bool
  pub accepting : ℕ → Bool
  pub edge : (source letter target : ℕ) → Bool

-- a run over a word: an endless sequence of states; the first is initial, and from each an edge leads to the next
pub record Run (a : Automaton) (w run : ℕ → ℕ) : Type 0 where
  pub inside : (i : ℕ) → run i < a.states
  pub begins : a.initial (run 0) ≡ true
  pub goes_on : (i : ℕ) → a.edge (run i) (w i) (run (suc i)) ≡ true

-- an accepting run: accepting states stand at infinitely many of its places
pub record AcceptingRun (a : Automaton) (w run : ℕ → ℕ) : Type 0 where
  pub is_run : Run a w run
  pub accepting : (i : ℕ) → (j : ℕ) × (i ≤ j) × (a.accepting (run j) ≡ true)

-- the automaton takes the word: it has an accepting run over it
pub record Takes (a : Automaton) (w : ℕ → ℕ) : Type 0 where
  pub run : ℕ → ℕ
  pub accepting_run : AcceptingRun a w run

-- exactly one accepting run: two runs differ if some place holds different states
pub record SingleRun (a : Automaton) (w : ℕ → ℕ) : Type 0 where
  pub run : ℕ → ℕ
  pub accepting_run : AcceptingRun a w run
  pub only : (other : ℕ → ℕ) → AcceptingRun a w other → (i : ℕ) → other i ≡ run i

-- two automata that differ in nothing
pub record Same (a b : Automaton) : Type 0 where
  pub states : a.states ≡ b.states
  pub letters : a.letters ≡ b.letters
  pub initial : (q : ℕ) → a.initial q ≡ b.initial q
  pub accepting : (q : ℕ) → a.accepting q ≡ b.accepting q
  pub edge : (p c q : ℕ) → a.edge p c q ≡ b.edge p c q

-- initial states and both ends of each edge are states: then every run stays inside
pub record Closed (a : Automaton) : Type 0 where
  pub initial : (q : ℕ) → a.initial q ≡ true → q < a.states
  pub edge : (p c q : ℕ) → a.edge p c q ≡ true → (p < a.states) × (c < a.letters) × (q < a.states)
