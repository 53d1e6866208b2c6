-- The construction as the code takes it: over an array by state and by letter of target sets, and by numbered choices. Assumes nothing:
-- these are definitions.
use Rattle.std.specs.Prelude.{List, [], ℕ, get_or}
use Rattle.sets.specs.Sets.{set_states, row_letters, nth_subset}
use Rattle.ncsb.specs.Moves.{Moves}
use Rattle.ncsb.specs.Successors.{initial_for, initial_free, successor_by}
use Rattle.ncsb.specs.declared.Asked.{Asked}
use Rattle.ncsb.specs.declared.Quadruple.{Quadruple}

-- what a table by state and by letter of target sets stands for
unfoldable pub from_array : (rows : List (List ℕ)) → (starts marks inner : ℕ) → Moves
from_array rows i f q2 =
    record {
      states = set_states;
      letters = row_letters;
      move = λ q c. get_or (get_or rows q []) c 0;
      starts = i;
      marks = f;
      inner = q2;
    }

-- the initial quadruple for a choice
unfoldable pub nth_initial : Moves → (choice : ℕ) → Quadruple
nth_initial d i = initial_for d (nth_subset (initial_free d) i)

-- the successor for a numbered choice
unfoldable pub nth_successor : Quadruple → Asked → (choice : ℕ) → Quadruple
nth_successor x a i = successor_by x a (nth_subset a.free i)
