-- Where a pattern forks (docs/RULES.md, "Refusals": the place of refusal 10): the smallest state of Q2 that has two targets on one letter, and
-- the smallest such letter. Assumes nothing: these are definitions.
use Rattle.std.specs.Prelude.{◌≡◌, Bool, true, cond, ℕ, Option, Some, None, ◌<◌}
use Rattle.basics.specs.Bounded.{any}
use Rattle.basics.specs.Least.{least}
use Rattle.basics.specs.declared.Place.{Place}
use Rattle.automata.specs.Automaton.{Automaton}
use Rattle.patterns.specs.Pattern.{forks}
use Rattle.patterns.specs.Reach.{FromAccepting}

-- the smallest state that has a letter of which a test holds, and the smallest such letter; asked for only where there is one
unfoldable pub smallest_pair : (states letters : ℕ) → (test : (state letter : ℕ) → Bool) → Place
smallest_pair n k f = let q = least n (λ s. any k (f s)) in record { state = q; letter = least k (f q) }

-- that pair, where there is one
unfoldable pub first_pair : (states letters : ℕ) → (test : (state letter : ℕ) → Bool) → Option Place
first_pair n k f = cond (any n (λ s. any k (f s))) (Some (smallest_pair n k f)) None

-- THE PLACE where an automaton forks: the first pair of a state and a letter of it at which it does
unfoldable pub fork_place : Automaton → Option Place
fork_place a = first_pair a.states a.letters (forks a)

-- WHAT IT MEANS, by edges. Two edges lead from a state on a letter to different states
pub record TwoTargets (a : Automaton) (state letter : ℕ) : Type 0 where
  pub one : ℕ
  pub other : ℕ
  pub apart : one < other
  pub to_one : a.edge state letter one ≡ true
  pub to_other : a.edge state letter other ≡ true

-- a state of Q2 forks on a letter: it has two targets there
pub record Forks (a : Automaton) (state letter : ℕ) : Type 0 where
  pub inner : FromAccepting a state
  pub targets : TwoTargets a state letter

-- some state forks on some letter
abbrev pub SomeFork : Automaton → Type 0
SomeFork a = (state : ℕ) × (letter : ℕ) × Forks a state letter

-- it forks there, no smaller state forks on any letter, and that state on no smaller letter
pub record ForksFirst (a : Automaton) (p : Place) : Type 0 where
  pub here : Forks a p.state p.letter
  pub no_state : (q c : ℕ) → q < p.state → Forks a q c → ⊥
  pub no_letter : (c : ℕ) → c < p.letter → Forks a p.state c → ⊥
