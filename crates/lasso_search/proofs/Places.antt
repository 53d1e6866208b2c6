-- Laws of nodes as places: position and state of a node, its letter, and where the next position begins. Assumes nothing.
use mathlib.Core.Path.{◌≡◌}
use mathlib.Core.List.{List}
use Prim.Native.Nat.{ℕ, suc, ◌+◌, ◌*◌, ◌-◌, ◌/◌, ◌≤◌, ◌<◌}
use native.Mathlib.Omega.{arith}
use native.Mathlib.Nat.{div-lt_iff_lt-mul}
use native.Mathlib.Numerals.{add-one}
use lib.ListN.{length, get_or}
use Rattle.basics.proofs.Booleans.{lt_ltb, ge_ltb}
use Rattle.automata.specs.Lasso.{positions, position_letter, next_position}
use Rattle.lasso_search.specs.Product.{node_letter, node_base}

-- a node's position is one of the lasso's
pub position_inside : (u v : List ℕ) {n x : ℕ} → 1 ≤ n → x < positions u v * n → x / n < length u + length v
unfolding positions
position_inside u v some l = (div-lt_iff_lt-mul some).1 l

module _ (u v : List ℕ) (n x : ℕ) where
  pub letter_prefix : x / n < length u → get_or u (x / n) 0 ≡ node_letter n u v x
  unfolding node_letter position_letter
  letter_prefix l = rw (lt_ltb l)

  pub letter_loop : length u ≤ x / n → get_or v (x / n - length u) 0 ≡ node_letter n u v x
  unfolding node_letter position_letter
  letter_loop l = rw (ge_ltb l)

  pub base_next : x / n + 1 < length u + length v → (x / n + 1) * n ≡ node_base n u v x
  unfolding node_base next_position positions
  base_next l = let m : suc (x / n) < length u + length v = omega arith in rw (lt_ltb m, add-one)

  pub base_back : length u + length v ≤ x / n + 1 → length u * n ≡ node_base n u v x
  unfolding node_base next_position positions
  base_back l = let m : length u + length v ≤ suc (x / n) = omega arith in rw (ge_ltb m)
