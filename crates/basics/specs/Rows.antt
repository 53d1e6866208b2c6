-- Rows of words, one behind the other. Assumes nothing: these are definitions.
use Rattle.std.specs.Prelude.{List, [], ◌++◌, ℕ, zero, suc}

-- rows 0 to count − 1
unfoldable pub rows : (count : ℕ) → (ℕ → List ℕ) → List ℕ
rows zero f = []
rows (suc i) f = rows i f ++ f i
