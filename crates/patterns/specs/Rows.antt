-- Trial tables with what the check answers (docs/RULES.md, "Trial pieces"). Assumes nothing: these are definitions.
use Rattle.std.specs.Prelude.{List, [], ◌∷◌, ℕ, get_or}
use Rattle.tables.specs.Rows.{pattern_A, pattern_B, no_initial, forked, doubled}
use Rattle.patterns.specs.Check.{no_place}
use Rattle.patterns.specs.declared.Checked.{Checked}
use Rattle.patterns.specs.declared.Checked.TheVariants.{Passed, Refused}

-- a table, and the answer that it gets
pub record CheckRow : Type 0 where
  pub words : List ℕ
  pub answer : Checked

unfoldable pub passes : List ℕ → CheckRow
passes t = record { words = t; answer = Passed }

-- refused by a number other than 10
unfoldable pub refused : (number : ℕ) → List ℕ → CheckRow
refused r t = record { words = t; answer = Refused r no_place }

-- refused by 10
unfoldable pub forks_at : (state letter : ℕ) → List ℕ → CheckRow
forks_at q c t = record { words = t; answer = Refused 10 (record { state = q; letter = c }) }

unfoldable pub check_rows : List CheckRow
check_rows =
    passes pattern_A
    ∷ passes pattern_B
    ∷ passes no_initial
    -- an accepting state that is never reached has two targets on one letter
    ∷ forks_at 1 0 forked
    -- one edge twice is one target
    ∷ passes doubled
    -- a fork outside Q2: no accepting state reaches it
    ∷ passes (2 ∷ 1 ∷ 2 ∷ 1 ∷ 1 ∷ 2 ∷ 0 ∷ 0 ∷ 0 ∷ 2 ∷ 0 ∷ 1 ∷ 0 ∷ [])
    -- a fork at a state that accepts not, two edges after one that does
    ∷ forks_at 2 0 (3 ∷ 1 ∷ 4 ∷ 3 ∷ 1 ∷ 0 ∷ 2 ∷ 0 ∷ 3 ∷ 0 ∷ 1 ∷ 0 ∷ 0 ∷ 2 ∷ 0 ∷ 0 ∷ 0 ∷ 4 ∷ 0 ∷ 1 ∷ 0 ∷ [])
    -- three forks: of state 0 outside Q2, of state 1 on letter 1, and of state 2 on letter 0; the smaller state comes before the smaller letter
    ∷ forks_at 1 1
    (3 ∷ 2 ∷ 6 ∷ 1 ∷ 1 ∷ 2 ∷ 3 ∷ 0 ∷ 5 ∷ 0 ∷ 0 ∷ 2 ∷ 0 ∷ 1 ∷ 0 ∷ 1 ∷ 1 ∷ 4 ∷ 1 ∷ 2 ∷ 0 ∷ 0 ∷ 1 ∷ 6 ∷ 0 ∷ 2 ∷ 0 ∷ [])
    -- two forks of one state, the larger letter's first in its chain
    ∷ forks_at 0 0 (2 ∷ 2 ∷ 4 ∷ 3 ∷ 1 ∷ 0 ∷ 0 ∷ 1 ∷ 0 ∷ 2 ∷ 1 ∷ 1 ∷ 3 ∷ 0 ∷ 1 ∷ 4 ∷ 0 ∷ 0 ∷ 0 ∷ [])
    -- the refusals before it come first
    ∷ refused 9 (2 ∷ 1 ∷ 2 ∷ 1 ∷ 0 ∷ 2 ∷ 1 ∷ 0 ∷ 0 ∷ 0 ∷ 0 ∷ 1 ∷ 0 ∷ [])
    ∷ []

unfoldable pub check_row : (i : ℕ) → CheckRow
check_row i = get_or check_rows i (refused 2 [])
