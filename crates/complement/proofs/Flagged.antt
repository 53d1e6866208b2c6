-- Setting flags by a test of which states accept, state by state; and what words come of it. Assumes nothing.
use mathlib.Core.Path.{◌≡◌}
use mathlib.Core.Bool.{Bool}
use mathlib.Core.List.{List}
use Prim.Native.Nat.{ℕ, zero, suc, ◌+◌, ◌*◌, ◌≤◌, ◌<◌}
use native.Mathlib.Numerals.{add-one}
use native.Mathlib.Omega.{arith}
use lib.ListN.{length}
use Rattle.automata.specs.Automaton.{Automaton}
use Rattle.layout.specs.Chained.{flags_word}
use Rattle.layout.proofs.Indexed.{Flagging, flagging_start, flagging_turn}
use Rattle.complement.specs.Flags.{state_flags, with_flags}

-- where the test says the automaton's flags, these are set
pub flags_flagging :
    (a : Automaton) (accepts : ℕ → Bool) (k : ℕ) (w : List ℕ) → 3 + 2 * a.states ≤ length w →
    ((i : ℕ) → i < a.states → state_flags accepts k i ≡ flags_word a i) → (n : ℕ) → n ≤ a.states →
    Flagging a n w (with_flags accepts k n w)
unfolding with_flags
flags_flagging a accepts k w room same zero l = flagging_start a w
flags_flagging a accepts k w room same (suc i) l =
    rw (← add-one i, same i (omega arith)) (flagging_turn room (flags_flagging a accepts k w room same i (omega arith)) (omega arith))
