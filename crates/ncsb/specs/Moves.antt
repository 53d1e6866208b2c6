-- A pattern spread out into sets, and the laws of Q2 that the construction rests on. Assumes nothing: these are definitions.
use Rattle.std.specs.Prelude.{◌≡◌, true, ℕ, ◌<◌, ◌^◌}
use Rattle.automata.specs.Automaton.{Automaton, Run}
use Rattle.sets.specs.Sets.{has}

-- all that the step reads of a pattern
pub record Moves : Type 0 where
  pub states : ℕ
  pub letters : ℕ
  -- the targets of a state on a letter
  pub move : (state letter : ℕ) → ℕ
  -- I, the initial states
  pub starts : ℕ
  -- F within Q2, the accepting states of the deterministic part
  pub marks : ℕ
  -- Q2, the deterministic part
  pub inner : ℕ

-- the sets say what the automaton says
pub record Spread (a : Automaton) (d : Moves) : Type 0 where
  pub states : d.states ≡ a.states
  pub letters : d.letters ≡ a.letters
  pub move : (p c q : ℕ) → has (d.move p c) q ≡ a.edge p c q
  pub starts : (q : ℕ) → has d.starts q ≡ a.initial q
  pub move_small : (p c : ℕ) → d.move p c < 2 ^ d.states
  pub starts_small : d.starts < 2 ^ d.states
  pub marks_small : d.marks < 2 ^ d.states

-- the laws of Q2, and nothing else of it
pub record Split (a : Automaton) (d : Moves) : Type 0 where
  -- edges from Q2 stay in Q2
  pub closed : (p c q : ℕ) → has d.inner p ≡ true → a.edge p c q ≡ true → has d.inner q ≡ true
  -- in Q2 there is at most one target for each letter
  pub single : (p c q r : ℕ) → has d.inner p ≡ true → a.edge p c q ≡ true → a.edge p c r ≡ true → q ≡ r
  -- marks lie in Q2 and accept
  pub within : (q : ℕ) → has d.marks q ≡ true → (has d.inner q ≡ true) × (a.accepting q ≡ true)
  -- an accepting state that a path meets is a mark
  pub met :
      (w run : ℕ → ℕ) → Run a w run → (i : ℕ) → a.accepting (run i) ≡ true → has d.marks (run i) ≡ true
