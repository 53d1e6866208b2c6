-- The records of the states found so far: the room for them, and looking a quadruple up among them. Assumes nothing: these are definitions.
use Rattle.std.specs.Prelude.{List, ℕ, min}
use Rattle.automata.specs.System.{number_of}
use Rattle.tables.specs.Table.{Limits}
use Rattle.ncsb.specs.Successors.{same}
use Rattle.ncsb.specs.declared.Quadruple.{Quadruple}
use Rattle.record_words.specs.Record.{full_records, records_of}

-- how many states there is room for: the full records, but no more than a table can have
unfoldable pub capacity : Limits → (words : List ℕ) → ℕ
capacity limits w = min (full_records w) limits.states

-- the place of a quadruple among the first records, or their count where it is none of them
unfoldable pub looked_up : (words : List ℕ) → (count : ℕ) → Quadruple → ℕ
looked_up w n x = number_of same x (records_of w n)
