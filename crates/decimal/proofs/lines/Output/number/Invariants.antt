-- `Output::number` writes a number's digits from the last to the first. The invariant: the digits before place `i` are still to come.
-- Assumes nothing.
use Rattle.std.proofs.Common.{◌≡◌}
use Rattle.decimal.proofs.Placing.{Writing}
use Rattle.decimal.proofs.lines.Output.number.Given as goal

abbrev pub invariant-loop-i : goal.invariant-loop-i
invariant-loop-i l = record {
  writing : Writing l.n l.initial.self.buffer.now l.initial.self.at l.end l.i l.left l.self.buffer.now;
  same_buffer : l.self.buffer.ghost_name ≡ l.initial.self.buffer.ghost_name;
}
