-- The edges spread out by state and by letter (docs/RULES.md, "Semi-determinism": "a table by state and by letter of target sets"): 32 rows
-- of 16 sets, and what is computed over them. Assumes nothing: these are definitions.
use Rattle.std.specs.Prelude.{List, [], ℕ, zero, suc, get_or}
use Rattle.std.specs.Int.Bits.{bit_or}
use Rattle.basics.specs.Tabulate.{tabulate}
use Rattle.sets.specs.Sets.{set_states, row_letters, union}
use Rattle.ncsb.specs.Moves.{Moves}

-- a state's targets for each letter; a letter that the pattern lacks has none
unfoldable pub row_of : Moves → (state : ℕ) → List ℕ
row_of d q = tabulate row_letters (d.move q)

-- the rows of all states; what is no state has no target
unfoldable pub masks_of : Moves → List (List ℕ)
masks_of d = tabulate set_states (row_of d)

-- a set, joined with its targets on each letter
unfoldable pub joined : (letters : ℕ) → (masks : List (List ℕ)) → (set : ℕ) → ℕ
joined zero m s = s
joined (suc c) m s = bit_or (joined c m s) (union set_states s (λ q. get_or (get_or m q []) c 0))

unfoldable pub joined_in : (rounds letters : ℕ) → (masks : List (List ℕ)) → (set : ℕ) → ℕ
joined_in zero k m s = s
joined_in (suc r) k m s = joined k m (joined_in r k m s)
