-- Lassos: a prefix u, then a loop v for ever; the product of an automaton with a lasso's positions.
-- Assumes nothing: these are definitions.
use Rattle.std.specs.Prelude.{◌≡◌, Bool, true, cond, List, ℕ, zero, suc, ◌+◌, ◌-◌, ◌%◌, ◌≤◌, ltb, length, get_or}
use Rattle.basics.specs.Bounded.{each}
use Rattle.automata.specs.Automaton.{Automaton}

-- the letter of u·v·v·v… at a place
unfoldable pub letter_at : (u v : List ℕ) → (place : ℕ) → ℕ
letter_at u v i = cond (ltb i (length u)) (get_or u i 0) (get_or v ((i - length u) % length v) 0)

-- each letter of a part is below k
unfoldable pub all_below : (k : ℕ) → List ℕ → Bool
all_below k u = each (length u) (λ i. ltb (get_or u i 0) k)

-- a lasso over k letters: the loop has at least one letter
pub record Lasso (k : ℕ) (u v : List ℕ) : Type 0 where
  pub prefix : all_below k u ≡ true
  pub loop : all_below k v ≡ true
  pub endless : 1 ≤ length v

-- POSITIONS: those of u, then those of v; behind the last one comes the first of v again
unfoldable pub positions : (u v : List ℕ) → ℕ
positions u v = length u + length v

unfoldable pub position_letter : (u v : List ℕ) → (position : ℕ) → ℕ
position_letter u v i = cond (ltb i (length u)) (get_or u i 0) (get_or v (i - length u) 0)

unfoldable pub next_position : (u v : List ℕ) → (position : ℕ) → ℕ
next_position u v i = cond (ltb (suc i) (positions u v)) (suc i) (length u)

-- the position at a place of the endless word
unfoldable pub position_at : (u v : List ℕ) → (place : ℕ) → ℕ
position_at u v zero = 0
position_at u v (suc i) = next_position u v (position_at u v i)

-- a finite walk in the product of the automaton with the positions: from position i and state p to position j and state q
pub data Walk (a : Automaton) (u v : List ℕ) (i p : ℕ) : (j q : ℕ) → Type 0 where
  stay : Walk a u v i p i p
  onward :
      {j q : ℕ} (r : ℕ) → Walk a u v i p j q → a.edge q (position_letter u v j) r ≡ true →
      Walk a u v i p (next_position u v j) r

-- a node of the product that is reached, accepts, and lies on a cycle
pub record AcceptingCycle (a : Automaton) (u v : List ℕ) : Type 0 where
  pub start : ℕ
  pub position : ℕ
  pub state : ℕ
  pub behind : ℕ
  pub begins : a.initial start ≡ true
  pub reached : Walk a u v 0 start position state
  pub accepts : a.accepting state ≡ true
  pub leaves : a.edge state (position_letter u v position) behind ≡ true
  pub returns : Walk a u v (next_position u v position) behind position state
