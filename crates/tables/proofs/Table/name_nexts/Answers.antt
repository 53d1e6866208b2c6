use Rattle.std.proofs.Common.{arith, add-one, ◌≤◌}
use Rattle.basics.proofs.Booleans.{not_true, not_false}
use Rattle.basics.proofs.Scans.{scan_start, scan_more}
use Rattle.tables.specs.Table.{m_of, next_good}
use Rattle.tables.proofs.Checks.{next_fails, next_passes, next_small}
use Rattle.tables.proofs.Marking.{markable, marked_start, marked_few, mark_most, marked_more, marked_twice, names_wrong, names_all}
use Rattle.tables.proofs.Table.name_nexts.Goals as goal
use Rattle.tables.proofs.Table.name_nexts.Goals.{Else-not-next_good}

-- a next that passed is in range
inside : (c : Else-not-next_good) → c.next-next.result ≤ m_of c.args.self.words.now
inside c =
    next_small c.args.self.words.now c.loop-i.i c.records-m.ensures.is
    c.next-next.ensures.is
    c.next_good.ensures
    (not_true c.if-not-next_good.false)

pub loop-i-init : goal.loop-i-init
loop-i-init c = (scan_start, marked_start _ _ _ _)

pub returns-then-not-next_good : goal.returns-then-not-next_good
returns-then-not-next_good c =
    let t = c.args.self.words.now in
    names_wrong (next_good t) c.loop-i.i (omega arith)
    (next_fails t c.loop-i.i c.records-m.ensures.is c.next-next.ensures.is c.next_good.ensures
    (not_false c.if-not-next_good.true))

pub mark-requires : goal.mark-requires
mark-requires c = markable c.next-next.ensures c.requires c.loop-i.invariant.1.kept

pub returns-in_err-names : goal.returns-in_err-names
returns-in_err-names c =
    rw c.from_residual.ensures
    (marked_twice c.loop-i.invariant.1 (rw add-one at c.next-next.ensures.is) c.mark.ensures c.in_err-names.was
    (next_good c.args.self.words.now)
    _
    (omega arith)
    (inside (goal.at.returns-in_err-names c).Else-not-next_good))

pub overflow_add-names : goal.overflow_add-names
overflow_add-names c = let few = marked_few c.loop-i.invariant.1 in let more = mark_most c.mark.ensures c.in_ok-names.was in omega arith

pub loop-i-preserved : goal.loop-i-preserved
loop-i-preserved c =
    let few = c.records-m.ensures.small in (
      scan_more c.loop-i.invariant.0 (omega arith)
          (next_passes c.args.self.words.now c.loop-i.i c.records-m.ensures.is c.next-next.ensures.is
          c.next_good.ensures
          (not_true c.if-not-next_good.false)),
      marked_more c.loop-i.invariant.1 (rw add-one at c.next-next.ensures.is) c.mark.ensures c.in_ok-names.was
          (markable c.next-next.ensures c.requires c.loop-i.invariant.1.kept)
          (omega arith)
          (inside (goal.at.loop-i-preserved c).Else-not-next_good),
    )

pub returns : goal.returns
returns c = names_all c.loop-i.invariant.0 c.loop-i.invariant.1 (omega arith)
