-- Flags of the states, by a test of which accept (docs/RULES.md, "The chained table": 1 initial, 2 accepting). Assumes nothing: these are
-- definitions.
use Rattle.std.specs.Prelude.{Bool, List, ℕ, zero, suc, ◌+◌, ◌*◌, ◌≤◌, ltb, length, set}
use Rattle.tables.specs.Table.{flags}
use Rattle.ncsb.specs.Successors.{accepting}
use Rattle.record_words.specs.Record.{full_records, quadruple_at}
use Rattle.complement.specs.Build.{Lent}

-- the flags of a state, where so many states are initial and come first
unfoldable pub state_flags : (accepts : ℕ → Bool) → (initial state : ℕ) → ℕ
state_flags accepts k i = flags (ltb i k) (accepts i)

-- the words once so many states have their flags
unfoldable pub with_flags : (accepts : ℕ → Bool) → (initial states : ℕ) → (words : List ℕ) → List ℕ
with_flags accepts k zero w = w
with_flags accepts k (suc i) w = set (with_flags accepts k i w) (3 + 2 * i) (state_flags accepts k i)

-- the test that the records make: a state accepts where its quadruple does
unfoldable pub record_accepts : (sets_words : List ℕ) → (state : ℕ) → Bool
record_accepts s i = accepting (quadruple_at s i)

-- the buffers have room for so many states
pub record FlagsAsk (l : Lent) (states : ℕ) : Type 0 where
  pub words_room : 3 + 2 * states ≤ length l.words
  pub sets_room : states ≤ full_records l.sets
