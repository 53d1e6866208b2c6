-- `Output::field` writes one byte behind a number. Assumes nothing.
use native.Mathlib.Omega.{arith}
use Rattle.decimal.proofs.Placing.{same_length, field_appended}
use Rattle.decimal.proofs.lines.Output.field.Goals as goal

pub bounds-self-self : goal.bounds-self-self
bounds-self-self c = let p = c.number.ensures.put in let e = same_length p in let near = p.near in omega (arith, c.requires)

pub returns : goal.returns
returns c = field_appended c.args.n c.args.behind c.requires c.number.ensures
