-- What the pattern check answers (docs/RULES.md, "Refusals": the check uses 2 to 10). Assumes nothing: these are definitions.
use Rattle.std.specs.Prelude.{cond, List, ℕ, zero, suc, Option, Some, None, eqb}
use Rattle.basics.specs.Buffers.{or_else}
pub use Rattle.basics.specs.Refusals.{no_place}
use Rattle.basics.specs.declared.Place.{Place}
use Rattle.tables.specs.Table.{pattern_range, table_refusal, meaning}
use Rattle.ncsb.specs.declared.Shape.{Shape}
use Rattle.patterns.specs.Forks.{fork_place}
use Rattle.patterns.specs.Masks.{masks_of}
use Rattle.patterns.specs.Pattern.{semi_deterministic, moves}
use Rattle.patterns.specs.Reading.{Reading}
use Rattle.patterns.specs.Reading as read
use Rattle.patterns.specs.Shape.{shape_of}
use Rattle.patterns.specs.declared.Checked.{Checked}
use Rattle.patterns.specs.declared.Checked.TheVariants.{Passed, Refused}

-- 2 to 9 in the pattern's range, then 10; zero where the pattern passes
unfoldable pub check_refusal : List ℕ → ℕ
check_refusal t = or_else (table_refusal pattern_range t) (cond (semi_deterministic (meaning t)) 0 10)

-- the place of a fork, or none
unfoldable pub place_of_fork : Option Place → Place
place_of_fork None = no_place
place_of_fork (Some p) = p

-- THE PLACE in the check's answer: with 10 where the pattern forks, and with every other number none
unfoldable pub check_place : List ℕ → Place
check_place t = cond (eqb (check_refusal t) 10) (place_of_fork (fork_place (meaning t))) no_place

-- the answer for each number and place
unfoldable pub as_checked : (number : ℕ) → Place → Checked
as_checked zero p = Passed
as_checked (suc r) p = Refused (suc r) p

-- what the check answers
unfoldable pub checked : List ℕ → Checked
checked t = as_checked (check_refusal t) (check_place t)

-- the reading for each number and place: the pattern's shape where no refusal is met
unfoldable pub as_reading : (number : ℕ) → Place → Shape → Reading
as_reading zero p s = read.Pattern s
as_reading (suc r) p s = read.Refused (suc r) p

-- what a reading answers
unfoldable pub reading : List ℕ → Reading
reading t = as_reading (check_refusal t) (check_place t) (shape_of (moves (meaning t)))

-- what a reading leaves in the masks: the pattern's target sets where refusals 2 to 9 have passed, and else what they held
unfoldable pub masks_read : List ℕ → (before : List (List ℕ)) → List (List ℕ)
masks_read t before = cond (eqb (table_refusal pattern_range t) 0) (masks_of (moves (meaning t))) before
