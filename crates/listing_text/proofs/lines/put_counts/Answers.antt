-- `put_counts` writes both counts with their names. Assumes nothing.
use native.Mathlib.Omega.{arith}
use Rattle.decimal.specs.Lines.{field_bytes, ascii}
use Rattle.decimal.proofs.Placing.{then_appended, appended_room}
use Rattle.listing_text.proofs.Printing.{counts_appended}
use Rattle.listing_text.proofs.lines.put_counts.Goals as goal

pub text-requires-2 : goal.text-requires-2
text-requires-2 c = appended_room 6 (then_appended c.text.ensures c.field.ensures) (omega (arith, c.requires))

pub field-requires-2 : goal.field-requires-2
field-requires-2 c =
    appended_room field_bytes (then_appended (then_appended c.text.ensures c.field.ensures) c.text-2.ensures)
    (omega (arith, c.requires))

pub returns : goal.returns
unfolding ascii
returns c = counts_appended c.args.states c.args.edges c.text.ensures c.field.ensures c.text-2.ensures c.field-2.ensures
