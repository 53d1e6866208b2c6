use Rattle.std.proofs.Common.{refl, ◌<◌, arith}
use Rattle.sets.specs.Sets.{row_letters}
use Rattle.automata.specs.System.{by_letters}
use Rattle.automata.proofs.Exploring.{grows_spelled}
use Rattle.automata.proofs.Growth.{grows_letters}
use Rattle.ncsb.specs.Successors.{ncsb}
use Rattle.complement.specs.Found.{array_moves}
use Rattle.complement.proofs.Kept.{shows_room}
use Rattle.complement.proofs.Reaching.{reach_start, reach_asks, reach_turn, reach_full, reach_end}
use Rattle.complement.proofs.explore.Growth.step.Goals as goal

pub load-x-requires : goal.load-x-requires
load-x-requires c = let inside = c.requires.inside in let room = shows_room c.requires.shows in omega arith

pub loop-letter-init : goal.loop-letter-init
unfolding by_letters
loop-letter-init c = reach_start (λ b. refl)

pub add_successors-requires : goal.add_successors-requires
add_successors-requires c =
    let asked = c.requires in
    let more = c.loop-letter-test.true in
    let few : c.loop-letter.letter < row_letters = let most = asked.letters_inside in omega arith in
    reach_asks c.loop-letter.invariant asked.shows (grows_spelled _ _ _ _ _) asked.inside few

pub returns-in_err-add_successors : goal.returns-in_err-add_successors
unfolding by_letters ncsb
returns-in_err-add_successors c =
    rw (← c.load-x.ensures, c.from_residual.ensures)
    (reach_full c.loop-letter.invariant (λ b. refl) c.in_err-add_successors.ensures c.args.shape.letters
    (λ b. grows_letters (ncsb (array_moves c.args.masks c.args.shape)) _ _ _ _ b c.loop-letter-test.true))

pub loop-letter-preserved : goal.loop-letter-preserved
unfolding by_letters ncsb
loop-letter-preserved c = reach_turn c.loop-letter.invariant (λ b. refl) c.in_ok-add_successors.ensures

pub returns : goal.returns
returns c = rw (← c.load-x.ensures) (reach_end c.loop-letter.invariant c.args.shape.letters (omega arith))
