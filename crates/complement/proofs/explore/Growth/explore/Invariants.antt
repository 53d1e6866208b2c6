-- `explore` steps from the states in number order. The invariant: what the buffers keep is what exploring has found before this
-- state. Assumes nothing.
use Rattle.std.proofs.Common.{ℕ, ◌-◌, List}
use Rattle.tables.specs.Table.{wide_range}
use Rattle.complement.specs.Found.{ReadOff, SameBuffers}
use Rattle.complement.proofs.Numbering.{Exploring}
use Rattle.complement.proofs.explore.Growth.explore.Given as goal

abbrev pub invariant-loop-number : goal.invariant-loop-number
invariant-loop-number l = record {
  same : SameBuffers l.initial.self l.self;
  exploring : (t : List ℕ) → ReadOff t l.masks l.shape → Exploring wide_range t l.self l.number;
}

abbrev pub decreases-loop-number : goal.decreases-loop-number
decreases-loop-number l = wide_range.states - l.number
