-- `set_flags` sets the flags state by state. The invariant: those of the states before are set. Assumes nothing.
use Rattle.std.proofs.Common.{◌≡◌}
use Rattle.complement.specs.Flags.{with_flags, record_accepts}
use Rattle.complement.proofs.flags.set_flags.Given as goal

abbrev pub invariant-loop-state : goal.invariant-loop-state
invariant-loop-state l = l.words ≡ with_flags (record_accepts l.sets) l.initial' l.state l.initial.words
