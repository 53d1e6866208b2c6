-- The words of two tables made into one (docs/RULES.md, "Two patterns made into one"). Assumes nothing: these are definitions.
use Rattle.std.specs.Prelude.{cond, List, [], ◌∷◌, ℕ, suc, ◌+◌, eqb}
use Rattle.basics.specs.Joined.{numbered_on}
use Rattle.tables.specs.Made.{table_of}
use Rattle.tables.specs.Table.{n_of, k_of, m_of, flags_of, head_of, letter_of, target_of, next_of}

-- a link to a record, where records are numbered on from so many; zero ends a chain as before
unfoldable pub link_on : (records link : ℕ) → ℕ
link_on m x = cond (eqb x 0) 0 (m + x)

-- the words of a state, and those of record i + 1, where states and records are numbered on from so many
unfoldable pub state_row : (records : ℕ) → List ℕ → (state : ℕ) → List ℕ
state_row m t q = flags_of t q ∷ link_on m (head_of t q) ∷ []

unfoldable pub record_row : (states records : ℕ) → List ℕ → (i : ℕ) → List ℕ
record_row n m t i = letter_of t (suc i) ∷ (n + target_of t (suc i)) ∷ link_on m (next_of t (suc i)) ∷ []

-- THE MERGED WORDS: the second table's states are numbered on from the first's, its records likewise, zeros and everything else kept
unfoldable pub merged_words : (first second : List ℕ) → List ℕ
merged_words t s =
    table_of (n_of t + n_of s) (k_of t) (m_of t + m_of s)
    (numbered_on (n_of t) (state_row 0 t) (state_row (m_of t) s))
    (numbered_on (m_of t) (record_row 0 0 t) (record_row (n_of t) (m_of t) s))
