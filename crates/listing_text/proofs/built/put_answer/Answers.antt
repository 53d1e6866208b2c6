-- `put_answer` writes the refusal or the whole text. Assumes nothing.
use mathlib.Core.Path.{refl}
use native.Mathlib.Omega.{arith}
use Rattle.std.proofs.Common.{Ok, Err}
use Rattle.basics.proofs.Refusals.{numbered}
use Rattle.complement.specs.Build.{counted}
use Rattle.listing_text.proofs.Printing.{answer_accepted, answer_refused}
use Rattle.listing_text.proofs.built.put_answer.Goals as goal

pub returns-in-Err : goal.returns-in-Err
returns-in-Err c =
    let from_one = (numbered c.in-Err.refusal).from_one in
    rw c.in-Err.is
    (answer_refused (counted (Err c.in-Err.refusal)) _ _ (λ none. omega (arith, from_one, none)) c.put_refused.ensures)

pub put_accepted-requires-clause-printable : goal.put_accepted-requires-clause-printable
put_accepted-requires-clause-printable c =
    let answer = rw c.in-Ok.is at c.requires.printable_answer in (answer.accepted refl).printable

pub returns-in-Ok : goal.returns-in-Ok
returns-in-Ok c =
    let answer = rw c.in-Ok.is at c.requires.printable_answer in
    rw c.in-Ok.is (answer_accepted (counted (Ok c.in-Ok.size)) _ _ refl (answer.accepted refl) c.put_accepted.ensures)
