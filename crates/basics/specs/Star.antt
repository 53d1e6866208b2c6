-- The reflexive and transitive closure of a relation between numbers. Assumes nothing: these are definitions.
use Rattle.std.specs.Prelude.{ℕ}

-- no step, or several one behind the other
pub data Star (E : ℕ → ℕ → Type 0) (x : ℕ) : (y : ℕ) → Type 0 where
  stay : Star E x x
  onward : {y : ℕ} (z : ℕ) → Star E x y → E y z → Star E x z
