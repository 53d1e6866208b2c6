-- The fork test over the masks, of one state and letter; and that it is the test over the edges. Assumes nothing.
use mathlib.Core.Path.{◌≡◌, sym, ◌∙◌, ap, fun_ext}
use mathlib.Core.Bool.{Bool, false, ◌&&◌}
use mathlib.Core.List.{List, []}
use Prim.Native.Nat.{ℕ, ◌/◌, ◌%◌, ◌^◌, ◌<◌}
use native.Mathlib.Omega.{arith}
use lib.Dec.{ltb}
use lib.Count.{ones}
use lib.ListN.{get_or}
use Rattle.basics.specs.Bounded.{any}
use Rattle.basics.proofs.Bounded.{any_none}
use Rattle.automata.specs.Automaton.{Automaton}
use Rattle.sets.specs.Sets.{set_states, has, size}
use Rattle.sets.proofs.Size.{size_ones, size_past}
use Rattle.patterns.specs.Forks.{first_pair, fork_place}
use Rattle.patterns.specs.Masks.{masks_of}
use Rattle.patterns.specs.Pattern.{targets_of, inner_of, forks, moves}
use Rattle.patterns.specs.Shape.{shape_of, two_targets, mask_forks, masks_place}
use Rattle.patterns.proofs.Masks.{FitsMasks, mask_right, targets_lt}

-- a set has more than one member exactly if its number has more than one digit 1
pub two_ones : (set : ℕ) → set < 2 ^ set_states → ltb 1 (ones set) ≡ two_targets set
unfolding two_targets
two_ones set l = ap (ltb 1) (sym (size_ones set_states set l))

module _ (masks : List (List ℕ)) (inner state : ℕ) where
  -- a state that is not in Q2 forks on no letter
  pub outer_even : (k : ℕ) → (inner / 2 ^ state % 2 ≡ 1 → ⊥) → any k (mask_forks masks inner state) ≡ false
  unfolding mask_forks has
  outer_even k h =
      let e : inner / 2 ^ state % 2 ≡ 0 = omega arith in any_none k (mask_forks masks inner state) (λ c l. rw e)

  -- one that is forks on a letter exactly where it has two targets there
  pub inner_forks :
      (letter : ℕ) {b c : Bool} → inner / 2 ^ state % 2 ≡ 1 → b ≡ two_targets (get_or (get_or masks state []) letter 0) → b ≡ c →
      mask_forks masks inner state letter ≡ c
  unfolding mask_forks has
  inner_forks letter h e f = rw h (sym e ∙ f)

-- THE TEST OVER THE MASKS IS THE TEST OVER THE EDGES
module _ (a : Automaton) (f : FitsMasks a) where
  mask_right_size : (q c : ℕ) → size set_states (get_or (get_or (masks_of (moves a)) q []) c 0) ≡ size a.states (targets_of a q c)
  mask_right_size q c =
      ap (size set_states) (mask_right a f q c)
      ∙ size_past a.states set_states (targets_of a q c) (targets_lt a q c) f.states

  mask_test : (q c : ℕ) → mask_forks (masks_of (moves a)) (inner_of a) q c ≡ forks a q c
  unfolding mask_forks two_targets forks
  mask_test q c = ap (λ (n : ℕ). has (inner_of a) q && ltb 1 n) (mask_right_size q c)

  -- so both find the same place
  pub masks_right : masks_place (masks_of (moves a)) (shape_of (moves a)) ≡ fork_place a
  unfolding masks_place shape_of moves fork_place
  masks_right = ap (first_pair a.states a.letters) (fun_ext (λ q. fun_ext (mask_test q)))
