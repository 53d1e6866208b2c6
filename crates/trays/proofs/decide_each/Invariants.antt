-- `decide_each` meets its contract. The invariant: the bytes of the lassos that were passed are filled. Assumes nothing.
use lib.ListN.{length}
use Rattle.tables.specs.Table.{wide_range}
use Rattle.trays.specs.Answers.{byte_of}
use Rattle.trays.proofs.Walking.{Deciding}
use Rattle.trays.proofs.decide_each.Given as goal

abbrev pub invariant-loop-i : goal.invariant-loop-i
invariant-loop-i l =
    (goal.iterator-loop-i).can_next l.i-iterator
    × (goal.iterator-loop-i).is_finite l.i-iterator
    × Deciding (byte_of wide_range l.wide.table.words.now (length l.initial.work)) l.list l.initial.answers (length l.initial.work) l.answers l.work
    l.i-iterator.iter.list.now l.i-iterator.count
