-- A list of the values of a function. Assumes nothing: these are definitions.
use Rattle.std.specs.Prelude.{List, [], ◌∷◌, ℕ, zero, suc}

-- f 0, f 1, … to the limit, computed once
unfoldable pub tabulate : {A : Type 0} → (limit : ℕ) → (ℕ → A) → List A
tabulate zero f = []
tabulate (suc k) f = f 0 ∷ tabulate k (λ i. f (suc i))
