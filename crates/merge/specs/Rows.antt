-- Trial merges with what a call answers and leaves, worked out by hand. Assumes nothing: these are definitions.
use Rattle.std.specs.Prelude.{List, [], ◌∷◌, ◌++◌, ℕ, ◌*◌, length, replicate}
use Rattle.basics.specs.declared.Written.{Written}
use Rattle.tables.specs.Rows.{pattern_A, pattern_B, no_initial, forked}

-- A MERGE: two tables, how many words are lent; number and count, and the words left
pub record MergeRow : Type 0 where
  pub first : List ℕ
  pub second : List ℕ
  pub room : ℕ
  pub answer : Written
  pub left : List ℕ

-- merged into so many words: all that are left stand in the row
unfoldable pub merges : (count : ℕ) → (left : List ℕ) → (first second : List ℕ) → MergeRow
merges n a t s = record { first = t; second = s; room = length a; answer = record { number = 0; count = n }; left = a }

-- refused, so many words lent: all of them are zero
unfoldable pub refuses : (number room : ℕ) → (first second : List ℕ) → MergeRow
refuses x b t s =
    record { first = t; second = s; room = b; answer = record { number = x; count = 0 }; left = replicate b 0 }

-- pattern A, and pattern B behind it: its states from 2 on, its records from 5 on
unfoldable pub A_with_B : List ℕ
A_with_B =
    4 ∷ 2 ∷ 8
    ∷ 1 ∷ 1 ∷ 2 ∷ 4 ∷ 1 ∷ 5 ∷ 2 ∷ 7
    ∷ 0 ∷ 0 ∷ 2 ∷ 1 ∷ 0 ∷ 3 ∷ 0 ∷ 1 ∷ 0 ∷ 0 ∷ 1 ∷ 0
    ∷ 0 ∷ 2 ∷ 6 ∷ 1 ∷ 3 ∷ 0 ∷ 0 ∷ 2 ∷ 8 ∷ 1 ∷ 3 ∷ 0
    ∷ []

-- pattern B, and pattern A behind it
unfoldable pub B_with_A : List ℕ
B_with_A =
    4 ∷ 2 ∷ 8
    ∷ 1 ∷ 1 ∷ 2 ∷ 3 ∷ 1 ∷ 5 ∷ 2 ∷ 8
    ∷ 0 ∷ 0 ∷ 2 ∷ 1 ∷ 1 ∷ 0 ∷ 0 ∷ 0 ∷ 4 ∷ 1 ∷ 1 ∷ 0
    ∷ 0 ∷ 2 ∷ 6 ∷ 1 ∷ 2 ∷ 7 ∷ 0 ∷ 3 ∷ 0 ∷ 0 ∷ 3 ∷ 0
    ∷ []

-- pattern A twice
unfoldable pub A_with_A : List ℕ
A_with_A =
    4 ∷ 2 ∷ 8
    ∷ 1 ∷ 1 ∷ 2 ∷ 4 ∷ 1 ∷ 5 ∷ 2 ∷ 8
    ∷ 0 ∷ 0 ∷ 2 ∷ 1 ∷ 0 ∷ 3 ∷ 0 ∷ 1 ∷ 0 ∷ 0 ∷ 1 ∷ 0
    ∷ 0 ∷ 2 ∷ 6 ∷ 1 ∷ 2 ∷ 7 ∷ 0 ∷ 3 ∷ 0 ∷ 0 ∷ 3 ∷ 0
    ∷ []

-- so many states, none initial or accepting, and no edge
unfoldable pub bare : (states letters : ℕ) → List ℕ
bare n k = n ∷ k ∷ 0 ∷ replicate (2 * n) 0

unfoldable pub merge_rows : List MergeRow
merge_rows =
    -- the example of docs/RULES.md
    merges 18 (3 ∷ 2 ∷ 3 ∷ 3 ∷ 1 ∷ 3 ∷ 2 ∷ 0 ∷ 3 ∷ 1 ∷ 0 ∷ 0 ∷ 0 ∷ 2 ∷ 0 ∷ 1 ∷ 1 ∷ 0 ∷ []) (1 ∷ 2 ∷ 1 ∷ 3 ∷ 1 ∷ 1 ∷ 0 ∷ 0 ∷ [])
    (2 ∷ 2 ∷ 2 ∷ 3 ∷ 1 ∷ 0 ∷ 2 ∷ 0 ∷ 1 ∷ 0 ∷ 1 ∷ 0 ∷ 0 ∷ [])
    -- as many words as it needs, two more, one too few
    ∷ merges 35 A_with_B pattern_A pattern_B
    ∷ merges 35 (A_with_B ++ (0 ∷ 0 ∷ [])) pattern_A pattern_B
    ∷ refuses 22 34 pattern_A pattern_B
    -- the other one first; one and the same twice
    ∷ merges 35 B_with_A pattern_B pattern_A
    ∷ merges 35 A_with_A pattern_A pattern_A
    -- no record, so that every head stays zero
    ∷ merges 7 (2 ∷ 1 ∷ 0 ∷ 0 ∷ 0 ∷ 0 ∷ 0 ∷ []) no_initial no_initial
    ∷ refuses 22 0 no_initial no_initial
    -- one letter and two, also where the words are too few
    ∷ refuses 19 40 no_initial pattern_A
    ∷ refuses 19 0 pattern_A no_initial
    -- 32 states, and 33 of them; 19 comes before 20, and that before 22
    ∷ merges 67 (bare 32 1) (bare 16 1) (bare 16 1)
    ∷ refuses 20 3 (bare 32 1) no_initial
    ∷ refuses 19 3 (bare 17 1) (bare 16 2)
    -- the first table is refused, whatever the second is
    ∷ refuses 2 3 [] pattern_A
    ∷ refuses 9 3 (1 ∷ 1 ∷ 0 ∷ 0 ∷ 1 ∷ []) pattern_A
    ∷ refuses 10 3 forked pattern_A
    ∷ refuses 10 3 forked []
    -- the second one, behind one that passes
    ∷ refuses 10 3 pattern_A forked
    ∷ []
