-- The step as the code takes it is the step of the construction: choices 0, 1, … give the successors in their order. Assumes nothing.
use mathlib.Core.Path.{◌≡◌}
use Prim.Native.Nat.{ℕ, ◌^◌, ◌<◌}
use lib.ListN.{get_or}
use Rattle.sets.specs.Sets.{set_states, size, subsets}
use Rattle.sets.proofs.Subsets.{nth_subset_at}
use Rattle.ncsb.specs.Array.{nth_initial, nth_successor}
use Rattle.ncsb.specs.Moves.{Moves}
use Rattle.ncsb.specs.Successors.{initial_free, initial_for, free, asks, successor_for}
use Rattle.ncsb.specs.declared.Quadruple.{Quadruple}

module _ (d : Moves) where
  pub nth_initial_at :
      (i : ℕ) → i < 2 ^ size set_states (initial_free d) → nth_initial d i ≡ initial_for d (get_or (subsets set_states (initial_free d)) i 0)
  unfolding nth_initial
  nth_initial_at i l = rw (nth_subset_at (initial_free d) i l)

  pub nth_successor_at :
      (x : Quadruple) (c i : ℕ) → i < 2 ^ size set_states (free d x c) →
      nth_successor x (asks d x c) i ≡ successor_for d x c (get_or (subsets set_states (free d x c)) i 0)
  unfolding nth_successor asks successor_for
  nth_successor_at x c i l = rw (nth_subset_at (free d x c) i l)
