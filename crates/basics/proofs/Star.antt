-- What each step of a relation keeps holds at the end of any number of steps. Assumes nothing.
use Prim.Native.Nat.{ℕ}
use Rattle.basics.specs.Star.{Star, stay, onward}

-- it holds at the start, and each step keeps it
pub star_keeps :
    {E : ℕ → ℕ → Type 0} {x y : ℕ} (P : ℕ → Type 0) → ((y z : ℕ) → E y z → P y → P z) → P x → Star E x y → P y
star_keeps P keeps p stay = p
star_keeps P keeps p (onward {y} z way e) = keeps y z e (star_keeps P keeps p way)

-- one way behind the other
pub star_star : {E : ℕ → ℕ → Type 0} {x y z : ℕ} → Star E x y → Star E y z → Star E x z
star_star {E} {x} p q = star_keeps (Star E x) (λ y z e way. onward z way e) p q
