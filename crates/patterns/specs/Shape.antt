-- What the step reads of a pattern beside its masks, and where a pattern forks, over both. Assumes nothing: these are definitions.
use Rattle.std.specs.Prelude.{Bool, ◌&&◌, List, [], ℕ, Option, ◌≤◌, ltb, get_or}
use Rattle.basics.specs.declared.Place.{Place}
use Rattle.sets.specs.Sets.{set_states, row_letters, has, size}
use Rattle.ncsb.specs.Moves.{Moves}
use Rattle.ncsb.specs.declared.Shape.{Shape}
use Rattle.patterns.specs.Forks.{first_pair}

-- the state and letter counts, I, F in Q2, and Q2
unfoldable pub shape_of : Moves → Shape
shape_of d =
    record { states = d.states; letters = d.letters; starts = d.starts; marks = d.marks; inner = d.inner }

-- a set of targets has more than one
unfoldable pub two_targets : (set : ℕ) → Bool
two_targets s = ltb 1 (size set_states s)

-- a state of Q2 has two targets on a letter
unfoldable pub mask_forks : (masks : List (List ℕ)) → (inner state letter : ℕ) → Bool
mask_forks m i q c = has i q && two_targets (get_or (get_or m q []) c 0)

-- where the pattern of these masks forks first
unfoldable pub masks_place : (masks : List (List ℕ)) → Shape → Option Place
masks_place m s = first_pair s.states s.letters (mask_forks m s.inner)

-- no more states and letters than the masks have rows and columns
pub record SmallShape (s : Shape) : Type 0 where
  pub states : s.states ≤ set_states
  pub letters : s.letters ≤ row_letters
