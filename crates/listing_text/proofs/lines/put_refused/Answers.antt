-- `put_refused` writes "refused" and a number. Assumes nothing.
use Rattle.decimal.specs.Lines.{ascii}
use Rattle.listing_text.proofs.Printing.{refused_appended}
use Rattle.listing_text.proofs.lines.put_refused.Goals as goal

pub returns : goal.returns
unfolding ascii
returns c = refused_appended c.args.refusal (cc) c.text.ensures c.field.ensures
