-- `sets::targets` meets its contract. The loop's invariant: what was joined so far, joined with the union over the members left,
-- is the union over the set. The measure is the set of the members left, as a number. Assumes nothing.
use mathlib.Core.Path.{◌≡◌}
use mathlib.Core.List.{[]}
use Prim.Native.Nat.{◌^◌, ◌<◌}
use lib.Bits.{bit_or}
use lib.ListN.{get_or}
use Rattle.sets.specs.Sets.{set_states, union}
use Rattle.sets.proofs.targets.Given as goal

abbrev pub invariant-loop-left : goal.invariant-loop-left
invariant-loop-left l =
    (l.left < 2 ^ set_states)
    × (bit_or l.all (union set_states l.left (λ q. get_or (get_or l.moves q []) l.letter 0))
    ≡ union set_states l.set (λ q. get_or (get_or l.moves q []) l.letter 0))

abbrev pub decreases-loop-left : goal.decreases-loop-left
decreases-loop-left l = l.left
