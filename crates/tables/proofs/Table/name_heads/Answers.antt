use Rattle.std.proofs.Common.{arith}
use Rattle.basics.proofs.Scans.{scan_start, scan_more, read_le, read_gt}
use Rattle.tables.specs.Table.{head_good}
use Rattle.tables.proofs.Marking.{markable, marked_start, marked_few, mark_most, marked_more, marked_twice, names_wrong, names_all}
use Rattle.tables.proofs.Table.name_heads.Goals as goal

pub loop-q-init : goal.loop-q-init
loop-q-init c = (scan_start, marked_start _ _ _ _)

pub returns-then-head-m : goal.returns-then-head-m
returns-then-head-m c =
    names_wrong (head_good c.args.self.words.now) c.loop-q.q (omega arith)
    (read_gt c.head-head.ensures.is c.records-m.ensures.is c.if-head-m.true)

pub mark-requires : goal.mark-requires
mark-requires c = markable c.head-head.ensures c.requires c.loop-q.invariant.1.kept

pub returns-in_err-names : goal.returns-in_err-names
returns-in_err-names c =
    rw c.from_residual.ensures
    (marked_twice c.loop-q.invariant.1 c.head-head.ensures.is c.mark.ensures c.in_err-names.was
    (head_good c.args.self.words.now)
    _
    (omega arith)
    (omega arith))

pub overflow_add-names : goal.overflow_add-names
overflow_add-names c = let few = marked_few c.loop-q.invariant.1 in let more = mark_most c.mark.ensures c.in_ok-names.was in omega arith

pub loop-q-preserved : goal.loop-q-preserved
loop-q-preserved c =
    let few = c.records-m.ensures.small in (
      scan_more c.loop-q.invariant.0 (omega arith)
          (read_le c.head-head.ensures.is c.records-m.ensures.is c.if-head-m.false),
      marked_more c.loop-q.invariant.1 c.head-head.ensures.is c.mark.ensures c.in_ok-names.was
          (markable c.head-head.ensures c.requires c.loop-q.invariant.1.kept)
          (omega arith)
          (omega arith),
    )

pub returns : goal.returns
returns c = names_all c.loop-q.invariant.0 c.loop-q.invariant.1 (omega arith)
