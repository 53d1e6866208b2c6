-- Loops that test each number below a limit. One that leaves at the first that fails computes `each`, one that leaves at the first that
-- passes computes `any`. Assumes nothing.
use mathlib.Core.Path.{◌≡◌, sym}
use mathlib.Core.Bool.{Bool, true, false}
use Prim.Native.Nat.{ℕ, ◌+◌, ◌≤◌, ◌<◌}
use native.Mathlib.Omega.{arith}
use borrow.Author.Count.{below_more}
use lib.Dec.{leb, ltb}
use Rattle.basics.specs.Bounded.{each, any}
use Rattle.basics.proofs.Booleans.{clash, not_both, le_leb, gt_leb, lt_ltb, ge_ltb}
use Rattle.basics.proofs.Bounded.{each_all, each_make, any_none}

-- the test answers b of every number passed
pub record Scan (b : Bool) (f : ℕ → Bool) (limit i : ℕ) : Type 0 where
  pub upto : i ≤ limit
  pub passed : (j : ℕ) → j < i → f j ≡ b

module _ {b : Bool} {f : ℕ → Bool} {limit : ℕ} where
  pub scan_start : Scan b f limit 0
  scan_start = record { upto = omega arith; passed = λ j l. absurd (omega arith) }

  pub scan_more : {i : ℕ} → Scan b f limit i → i < limit → f i ≡ b → Scan b f limit (i + 1)
  scan_more {i} s l e = record { upto = omega arith; passed = below_more (λ j. f j ≡ b) i s.passed e }

-- to the end: it holds of each, or of none
module _ {f : ℕ → Bool} {limit i : ℕ} where
  pub scan_done : Scan true f limit i → limit ≤ i → true ≡ each limit f
  scan_done s l = sym (each_make limit f (λ j m. s.passed j (omega arith)))

  pub scan_none : Scan false f limit i → limit ≤ i → any limit f ≡ false
  scan_none s l = any_none limit f (λ j m. s.passed j (omega arith))

-- one that fails
pub scan_fails : (f : ℕ → Bool) (limit i : ℕ) → i < limit → f i ≡ false → false ≡ each limit f
scan_fails f limit i l e = sym (not_both (each limit f) (λ h. clash (each_all limit f h i l) e))

-- a test of what was read, as the test of the words themselves
module _ {a b x y : ℕ} (p : a ≡ x) (q : b ≡ y) where
  pub read_le : a ≤ b → leb x y ≡ true
  read_le l = rw (← p, ← q) (le_leb l)

  pub read_gt : b < a → leb x y ≡ false
  read_gt l = rw (← p, ← q) (gt_leb l)

  pub read_lt : a < b → ltb x y ≡ true
  read_lt l = rw (← p, ← q) (lt_ltb l)

  pub read_ge : b ≤ a → ltb x y ≡ false
  read_ge l = rw (← p, ← q) (ge_ltb l)
