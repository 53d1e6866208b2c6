-- `Output::line` writes one field behind the other. The invariant: the fields passed are written. Assumes nothing.
use Rattle.std.proofs.Common.{◌*◌}
use lib.ListN.{take}
use Rattle.std.specs.List.{flat_map}
use Rattle.decimal.specs.Lines.{field_bytes, Appended}
use Rattle.decimal.proofs.Placing.{spaced}
use Rattle.decimal.proofs.lines.Output.line.Given as goal

abbrev pub invariant-loop-field : goal.invariant-loop-field
invariant-loop-field l = Appended l.initial.self (field_bytes * l.field-index) (flat_map spaced (take l.field-index l.field-items)) l.self
