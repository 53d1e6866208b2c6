-- `tables::mark` meets its contract: three ways out, one for each case. Assumes nothing.
use mathlib.Core.Path.{refl}
use Prim.Native.Nat.{◌%◌}
use native.Mathlib.Omega.{arith}
use Rattle.tables.specs.Marks.{mark_words, nothing, first, again}
use Rattle.tables.proofs.Marking.{bit_clear, bit_set, bit_fits, bit_raised}
use Rattle.tables.proofs.mark.Goals as goal

pub returns-then-link-eq0 : goal.returns-then-link-eq0
returns-then-link-eq0 c = nothing c.if-link-eq0.true refl

pub returns-then-word-link-ne0 : goal.returns-then-word-link-ne0
returns-then-word-link-ne0 c = again (omega arith) (bit_set c.requires c.if-word-link-ne0.true) refl

pub overflow_add-seen : goal.overflow_add-seen
overflow_add-seen c =
    record { fits = bit_fits c.requires (c.items_fit (c.args.link % mark_words)).fits c.if-word-link-ne0.false }

pub returns : goal.returns
returns c =
    first (omega arith) (bit_clear c.requires c.if-word-link-ne0.false) (bit_raised c.requires)
