-- `copy_letters` meets its contract. The invariant: the words so far are letters below k, and they are copied. Assumes nothing.
use Rattle.trays.proofs.Bytes.{Copying}
use Rattle.trays.proofs.copy_letters.Given as goal

abbrev pub invariant-loop-i : goal.invariant-loop-i
invariant-loop-i l = Copying l.words l.k l.initial.room l.room l.i
