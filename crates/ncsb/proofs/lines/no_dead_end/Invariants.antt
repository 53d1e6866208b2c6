-- `lines::no_dead_end` meets its contract. The loop's invariant: a member left has no target exactly if one of the set has none.
-- The measure is the set of the members left, as a number. Assumes nothing.
use mathlib.Core.Path.{◌≡◌}
use mathlib.Core.Bool.{Bool}
use mathlib.Core.List.{List, []}
use Prim.Native.Nat.{ℕ, ◌^◌, ◌<◌}
use lib.Dec.{eqb}
use lib.ListN.{get_or}
use Rattle.sets.specs.Sets.{set_states}
use Rattle.sets.proofs.Walk.{some_member}
use Rattle.ncsb.proofs.lines.no_dead_end.Given as goal

-- the state has no target on the letter
abbrev pub idle : List (List ℕ) → ℕ → ℕ → Bool
idle moves letter q = eqb (get_or (get_or moves q []) letter 0) 0

abbrev pub invariant-loop-left : goal.invariant-loop-left
invariant-loop-left l =
    (l.left < 2 ^ set_states)
    × (some_member set_states l.left (idle l.moves l.letter) ≡ some_member set_states l.initial.left (idle l.moves l.letter))

abbrev pub decreases-loop-left : goal.decreases-loop-left
decreases-loop-left l = l.left
