-- `copy_letters` meets its contract: a word that is no letter below k ends it, and else all are copied. Assumes nothing.
use Rattle.std.proofs.Common.{◌≡◌, false}
use Rattle.automata.specs.Lasso.{all_below}
use Rattle.trays.proofs.Bytes.{copying_below, not_below}
use Rattle.trays.proofs.copy_letters.Goals as goal

pub returns-then-letter-k-clause-refusal : goal.returns-then-letter-k-clause-refusal
returns-then-letter-k-clause-refusal c =
    let large : all_below c.args.k c.args.words.now ≡ false = not_below _ _ _ c.loop-i-test.true c.if-letter-k.true in rw large

pub returns-clause-refusal : goal.returns-clause-refusal
returns-clause-refusal c = rw (copying_below c.loop-i.invariant c.loop-i-test.false)
