-- The reachable NCSB complement of a table, and its words (docs/RULES.md, "Numbering and result"). Assumes nothing: these are definitions.
use Rattle.std.specs.Prelude.{List, ℕ, length}
use Rattle.basics.specs.Rows.{rows}
use Rattle.automata.specs.Automaton.{Automaton}
use Rattle.automata.specs.System.{System, Built, explore, state_at, numbered}
use Rattle.tables.specs.Table.{meaning}
use Rattle.ncsb.specs.Bound.{bound}
use Rattle.ncsb.specs.Successors.{ncsb}
use Rattle.ncsb.specs.declared.Quadruple.{Quadruple}
use Rattle.patterns.specs.Pattern.{moves}
use Rattle.layout.specs.Chained.{chained_words}
use Rattle.record_words.specs.Record.{words_of}

-- the system of quadruples of a pattern
unfoldable pub system_of : List ℕ → System Quadruple
system_of t = ncsb (moves (meaning t))

-- all that is reached of it: at most `bound` quadruples, 2^p·3^a·4^r
unfoldable pub complement : List ℕ → Built Quadruple
complement t = explore (bound (moves (meaning t))) (system_of t)

-- the complement as an automaton over state numbers
unfoldable pub complement_automaton : List ℕ → Automaton
complement_automaton t = numbered (system_of t) (complement t)

-- its wide table: flags and chains
unfoldable pub complement_words : List ℕ → List ℕ
complement_words t = chained_words (complement_automaton t) (complement t).edges

-- its sets: the records of the states, by number
unfoldable pub sets_words : List ℕ → List ℕ
sets_words t = rows (length (complement t).states) (λ i. words_of (state_at (system_of t) (complement t).states i))
