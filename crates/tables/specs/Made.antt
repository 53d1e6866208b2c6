-- A table made of its rows (docs/RULES.md, "The chained table"). Assumes nothing: these are definitions.
use Rattle.std.specs.Prelude.{List, [], ◌∷◌, ◌++◌, ℕ}
use Rattle.basics.specs.Rows.{rows}

-- n, k, m; flags and head of each state; letter, target and next of each record
unfoldable pub table_of : (states letters records : ℕ) → (state_row record_row : ℕ → List ℕ) → List ℕ
table_of n k m f g = (n ∷ k ∷ m ∷ []) ++ (rows n f ++ rows m g)
