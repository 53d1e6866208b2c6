use mathlib.Core.Path.{refl}
use borrow.Author.Rules.{rules}
use Rattle.lasso_search.proofs.Walks.{next_to, next_less, skip_less, skip_turn, skip_step}
use Rattle.lasso_search.proofs.edges.EdgesIterator.next.Goals as goal

pub invariant_of-self : goal.invariant_of-self
invariant_of-self c =
    record { fits = c.loop-self.self.fits; number_to = next_to c.loop-self.self c.loop-self-test.true c.next-self.ensures.is }

pub returns-then-letter-self-clause-steps : goal.returns-then-letter-self-clause-steps
returns-then-letter-self-clause-steps c =
    skip_step c.loop-self.invariant c.loop-self-test.true
    (record { product = refl; letter = refl; base = refl; at = c.next-self.ensures.is })
    c.letter.ensures.is c.if-letter-self.true c.target.ensures.is

pub returns-then-letter-self-clause-goes : goal.returns-then-letter-self-clause-goes
returns-then-letter-self-clause-goes c =
    let less = skip_less c.loop-self.invariant c.loop-self-test.true c.next-self.ensures.is in search rules

pub loop-self-smaller : goal.loop-self-smaller
loop-self-smaller c = next_less c.loop-self.self c.loop-self-test.true c.next-self.ensures.is

pub loop-self-preserved : goal.loop-self-preserved
loop-self-preserved c =
    skip_turn c.loop-self.invariant c.loop-self-test.true
    (record { product = refl; letter = refl; base = refl; at = c.next-self.ensures.is })
    c.letter.ensures.is c.if-letter-self.false
