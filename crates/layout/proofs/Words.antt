-- The rows of a chained table have two words for each state and three for each record, and so many words are in it. Assumes nothing.
use mathlib.Core.Path.{◌≡◌, refl}
use mathlib.Core.List.{List}
use Prim.Native.Nat.{ℕ, ◌<◌}
use lib.ListN.{length}
use Rattle.automata.specs.Automaton.{Automaton}
use Rattle.automata.specs.System.{Edge}
use Rattle.tables.specs.Table.{table_words}
use Rattle.tables.proofs.Made.{made_length}
use Rattle.layout.specs.Chained.{state_row, record_row, chained_words}

module _ (a : Automaton) (es : List Edge) where
  pub states_width : (i : ℕ) → i < a.states → length (state_row a es i) ≡ 2
  unfolding state_row
  states_width i l = refl

  pub records_width : (r : ℕ) → r < length es → length (record_row es r) ≡ 3
  unfolding record_row
  records_width r l = refl

  pub chained_length : length (chained_words a es) ≡ table_words a.states (length es)
  unfolding chained_words
  chained_length =
      made_length a.states a.letters (length es) (state_row a es) (record_row es) states_width records_width
