use Rattle.std.proofs.Common.{refl, arith}
use Rattle.tables.specs.Table.{wide_range}
use Rattle.complement.proofs.Kept.{shows_limit}
use Rattle.complement.proofs.Numbering.{begin_full, begin_within, expand_asks, expand_full, expand_turn, explore_end}
use Rattle.complement.proofs.Reaching.{same_self, same_then}
use Rattle.complement.proofs.explore.Growth.explore.Goals as goal

pub returns-in_err-states-clause-explored : goal.returns-in_err-states-clause-explored
returns-in_err-states-clause-explored c =
    rw c.from_residual.ensures
    (record { ends = λ t read. begin_full t read.passed read.masked read.shaped c.in_err-states.ensures })

pub loop-number-init : goal.loop-number-init
loop-number-init c =
    record {
      same = same_self;
      exploring = λ t read. begin_within t read.passed read.masked read.shaped c.requires.words_clear c.in_ok-states.ensures refl;
    }

pub step-requires : goal.step-requires
step-requires c =
    let of = c.requires.of_pattern in
    let read = of.read_off in
    expand_asks of.table read.passed read.masked read.shaped (c.loop-number.invariant.exploring of.table read) c.loop-number-test.true

pub returns-in_err-step-clause-explored : goal.returns-in_err-step-clause-explored
returns-in_err-step-clause-explored c =
    rw c.from_residual-in_err-step.ensures
    (record {
      ends = λ t read.
          expand_full t read.passed read.masked read.shaped (c.loop-number.invariant.exploring t read) c.loop-number-test.true
          c.in_err-step.ensures;
    })

pub overflow_add-number : goal.overflow_add-number
unfolding wide_range
overflow_add-number c =
    let of = c.requires.of_pattern in
    let most = shows_limit (c.loop-number.invariant.exploring of.table of.read_off).shows in
    let l = c.loop-number-test.true in omega arith

pub loop-number-smaller : goal.loop-number-smaller
loop-number-smaller c =
    let of = c.requires.of_pattern in
    let most = shows_limit (c.loop-number.invariant.exploring of.table of.read_off).shows in
    let l = c.loop-number-test.true in omega arith

pub loop-number-preserved : goal.loop-number-preserved
loop-number-preserved c =
    record {
      same = same_then c.loop-number.invariant.same c.in_ok-step.ensures.same;
      exploring = λ t read.
          expand_turn t read.passed read.masked read.shaped (c.loop-number.invariant.exploring t read) c.loop-number-test.true
          c.in_ok-step.ensures;
    }

pub returns-clause-explored : goal.returns-clause-explored
returns-clause-explored c =
    record { ends = λ t read. explore_end t read.passed (c.loop-number.invariant.exploring t read) c.loop-number-test.false }
