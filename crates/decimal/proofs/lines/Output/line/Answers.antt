use Rattle.std.proofs.Common.{ℕ, length-take, arith}
use Rattle.decimal.specs.Lines.{field_bytes}
use Rattle.decimal.proofs.Placing.{appended_room, line_turn, line_end}
use Rattle.decimal.proofs.lines.Output.line.Goals as goal

pub field-requires : goal.field-requires
field-requires c = appended_room field_bytes c.loop-field.invariant (omega (arith, length-take {A = ℕ}))

pub loop-field-preserved : goal.loop-field-preserved
loop-field-preserved c = line_turn _ c.loop-field.field-index c.loop-field-test.true c.loop-field.invariant c.field.ensures

pub field-requires-2 : goal.field-requires-2
field-requires-2 c = appended_room field_bytes c.loop-field.invariant (omega (arith, length-take {A = ℕ}))

pub returns : goal.returns
returns c = line_end _ c.loop-field.field-index c.requires.some_field (omega arith) c.loop-field.invariant c.field-2.ensures
