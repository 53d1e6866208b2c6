use Rattle.std.proofs.Common.{refl, arith}
use Rattle.tables.proofs.word_at.Goals as goal

pub returns : goal.returns
returns c = record { is = refl; small = omega (arith, c.type_inv.words c.args.i) }
