use Rattle.std.proofs.Common.{refl, arith}
use Rattle.basics.specs.Tabulate.{tabulate}
use Rattle.automata.specs.System.{add_all}
use Rattle.automata.proofs.Exploring.{add_all_more}
use Rattle.automata.proofs.Growth.{grows_all}
use Rattle.tables.specs.Table.{wide_range}
use Rattle.ncsb.specs.Successors.{same}
use Rattle.ncsb.proofs.Choices.{choices_fit}
use Rattle.complement.proofs.Letters.{letter_blocked, letter_full, letter_end}
use Rattle.complement.proofs.Reaching.{reach_start, reach_asks, reach_turn}
use Rattle.complement.proofs.explore.Growth.add_successors.Goals as goal

pub returns-then-blocked : goal.returns-then-blocked
returns-then-blocked c =
    let args = c.args in
    letter_blocked wide_range args.masks.now args.shape args.x args.source args.letter c.on_letter-asked.ensures
    c.blocked.ensures c.if-blocked.true

pub loop-choice-init : goal.loop-choice-init
unfolding add_all tabulate
loop-choice-init c = reach_start (λ b. refl)

pub overflow_cast-choice : goal.overflow_cast-choice
overflow_cast-choice c =
    let l = c.loop-choice-test.true in
    let e = c.choices-choice-end.ensures in
    let h = choices_fit c.on_letter-asked.result.free in omega arith

pub meet-requires : goal.meet-requires
meet-requires c =
    let asked = c.requires in
    reach_asks c.loop-choice.invariant asked.shows (grows_all same _ _ _ _) asked.inside asked.letter_inside

pub returns-in_err-meet : goal.returns-in_err-meet
returns-in_err-meet c =
    let args = c.args in
    rw c.from_residual.ensures
    (letter_full wide_range args.masks.now args.shape args.x args.source args.letter
    c.on_letter-asked.ensures c.blocked.ensures c.if-blocked.false
    c.choices-choice-end.ensures c.loop-choice.invariant c.successor.ensures c.in_err-meet.ensures c.loop-choice-test.true)

pub loop-choice-preserved : goal.loop-choice-preserved
loop-choice-preserved c =
    reach_turn c.loop-choice.invariant (add_all_more same _ _ _ _) (rw c.successor.ensures at c.in_ok-meet.ensures)

pub returns : goal.returns
returns c =
    let args = c.args in
    letter_end wide_range args.masks.now args.shape args.x args.source args.letter
    c.on_letter-asked.ensures c.blocked.ensures c.if-blocked.false c.choices-choice-end.ensures
    c.loop-choice.invariant (omega arith)
