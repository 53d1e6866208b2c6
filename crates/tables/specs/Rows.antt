-- Trial tables with the refusal that each meets, zero where it passes 2 to 9 (docs/RULES.md, "Trial pieces"). Assumes nothing: these are definitions.
use Rattle.std.specs.Prelude.{List, [], ◌∷◌, ℕ, replicate}
use Rattle.tables.specs.Table.{Limits, pattern_range, wide_range}

-- pattern A
unfoldable pub pattern_A : List ℕ
pattern_A = 2 ∷ 2 ∷ 4 ∷ 1 ∷ 1 ∷ 2 ∷ 4 ∷ 0 ∷ 0 ∷ 2 ∷ 1 ∷ 0 ∷ 3 ∷ 0 ∷ 1 ∷ 0 ∷ 0 ∷ 1 ∷ 0 ∷ []

-- pattern B: from either state, letter 0 leads to state 0 and letter 1 to state 1
unfoldable pub pattern_B : List ℕ
pattern_B = 2 ∷ 2 ∷ 4 ∷ 1 ∷ 1 ∷ 2 ∷ 3 ∷ 0 ∷ 0 ∷ 2 ∷ 1 ∷ 1 ∷ 0 ∷ 0 ∷ 0 ∷ 4 ∷ 1 ∷ 1 ∷ 0 ∷ []

-- one state, which is not initial, and no edge
unfoldable pub no_initial : List ℕ
no_initial = 1 ∷ 1 ∷ 0 ∷ 0 ∷ 0 ∷ []

-- an accepting state with two targets on one letter, which passes 2 to 9
unfoldable pub forked : List ℕ
forked = 2 ∷ 1 ∷ 2 ∷ 1 ∷ 0 ∷ 2 ∷ 1 ∷ 0 ∷ 0 ∷ 2 ∷ 0 ∷ 1 ∷ 0 ∷ []

-- one edge twice
unfoldable pub doubled : List ℕ
doubled = 1 ∷ 1 ∷ 2 ∷ 3 ∷ 1 ∷ 0 ∷ 0 ∷ 2 ∷ 0 ∷ 0 ∷ 0 ∷ []

-- a table of a range and what it meets there
pub record Row : Type 0 where
  pub range : Limits
  pub words : List ℕ
  pub answer : ℕ

unfoldable pub pattern : (answer : ℕ) → List ℕ → Row
pattern x t = record { range = pattern_range; words = t; answer = x }

unfoldable pub wide : (answer : ℕ) → List ℕ → Row
wide x t = record { range = wide_range; words = t; answer = x }

unfoldable pub table_rows : List Row
table_rows =
    pattern 0 pattern_A
    ∷ pattern 0 pattern_B
    ∷ pattern 0 no_initial
    ∷ pattern 0 forked
    ∷ pattern 0 doubled
    -- 32 states, 16 letters
    ∷ pattern 0 (32 ∷ 1 ∷ 0 ∷ replicate 64 0)
    ∷ pattern 0 (1 ∷ 16 ∷ 0 ∷ 0 ∷ 0 ∷ [])
    -- no word, two words
    ∷ pattern 2 []
    ∷ pattern 2 (1 ∷ 1 ∷ [])
    -- no state, 33 states; a wide table may have 33
    ∷ pattern 3 (0 ∷ 1 ∷ 0 ∷ [])
    ∷ pattern 3 (33 ∷ 1 ∷ 0 ∷ replicate 66 0)
    ∷ wide 0 (33 ∷ 1 ∷ 0 ∷ replicate 66 0)
    -- no letter, 17 letters
    ∷ pattern 4 (1 ∷ 0 ∷ 0 ∷ 0 ∷ 0 ∷ [])
    ∷ pattern 4 (1 ∷ 17 ∷ 0 ∷ 0 ∷ 0 ∷ [])
    -- 4,097 and 65,535 records; a wide table may have as many, and is too short
    ∷ pattern 5 (1 ∷ 1 ∷ 4097 ∷ [])
    ∷ pattern 5 (1 ∷ 1 ∷ 65535 ∷ 0 ∷ 0 ∷ [])
    ∷ wide 6 (1 ∷ 1 ∷ 65535 ∷ 0 ∷ 0 ∷ [])
    -- a word too few, a word too many
    ∷ pattern 6 (1 ∷ 1 ∷ 0 ∷ 0 ∷ [])
    ∷ pattern 6 (1 ∷ 1 ∷ 0 ∷ 0 ∷ 0 ∷ 0 ∷ [])
    -- flags 4, and 65,535 in the last state
    ∷ pattern 7 (1 ∷ 1 ∷ 0 ∷ 4 ∷ 0 ∷ [])
    ∷ pattern 7 (2 ∷ 1 ∷ 0 ∷ 3 ∷ 0 ∷ 65535 ∷ 0 ∷ [])
    -- letter k, target n
    ∷ pattern 8 (1 ∷ 1 ∷ 1 ∷ 3 ∷ 1 ∷ 1 ∷ 0 ∷ 0 ∷ [])
    ∷ pattern 8 (1 ∷ 1 ∷ 1 ∷ 3 ∷ 1 ∷ 0 ∷ 1 ∷ 0 ∷ [])
    -- a head above m, a next above m
    ∷ pattern 9 (1 ∷ 1 ∷ 0 ∷ 0 ∷ 1 ∷ [])
    ∷ pattern 9 (1 ∷ 1 ∷ 1 ∷ 0 ∷ 1 ∷ 0 ∷ 0 ∷ 2 ∷ [])
    -- a next equal to its own number, a next that leads back
    ∷ pattern 9 (1 ∷ 1 ∷ 1 ∷ 0 ∷ 0 ∷ 0 ∷ 0 ∷ 1 ∷ [])
    ∷ pattern 9 (1 ∷ 1 ∷ 2 ∷ 0 ∷ 2 ∷ 0 ∷ 0 ∷ 0 ∷ 0 ∷ 0 ∷ 1 ∷ [])
    -- a record that nothing names, one named by two heads, one named by a head and a next
    ∷ pattern 9 (1 ∷ 1 ∷ 1 ∷ 0 ∷ 0 ∷ 0 ∷ 0 ∷ 0 ∷ [])
    ∷ pattern 9 (2 ∷ 1 ∷ 1 ∷ 0 ∷ 1 ∷ 0 ∷ 1 ∷ 0 ∷ 0 ∷ 0 ∷ [])
    ∷ pattern 9 (2 ∷ 1 ∷ 2 ∷ 0 ∷ 1 ∷ 0 ∷ 2 ∷ 0 ∷ 0 ∷ 2 ∷ 0 ∷ 0 ∷ 0 ∷ [])
    ∷ []
