-- `sets::nth_subset` meets its contract. The loop's invariant: the part so far, with what the digits left choose of the members
-- left, is what the choice chooses of the set. The measure is the set of the members left, as a number. Assumes nothing.
use mathlib.Core.Path.{◌≡◌}
use Prim.Native.Nat.{◌+◌, ◌^◌, ◌<◌}
use Rattle.sets.specs.Sets.{set_states}
use Rattle.sets.proofs.Subsets.{spread}
use Rattle.sets.proofs.nth_subset.Given as goal

abbrev pub invariant-loop-members : goal.invariant-loop-members
invariant-loop-members l =
    (l.members < 2 ^ set_states) × (l.part + spread set_states l.members l.digits ≡ spread set_states l.set l.choice)

abbrev pub decreases-loop-members : goal.decreases-loop-members
decreases-loop-members l = l.members
