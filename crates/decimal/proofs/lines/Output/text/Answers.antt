-- `Output::text` copies a text. Assumes nothing.
use mathlib.Core.Path.{refl}
use Rattle.decimal.proofs.Placing.{text_put}
use Rattle.decimal.proofs.lines.Output.text.Goals as goal

pub returns : goal.returns
returns c = record { put = rw c.copy_from_slice.ensures.after (text_put c.requires); same_buffer = refl }
