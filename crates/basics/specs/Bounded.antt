-- Tests over all numbers below a limit. Assumes nothing: these are definitions.
use Rattle.std.specs.Prelude.{Bool, true, false, ◌&&◌, ◌||◌, cond, ℕ, zero, suc, ◌+◌}

-- the test holds of each number below the limit
unfoldable pub each : (limit : ℕ) → (ℕ → Bool) → Bool
each zero f = true
each (suc k) f = each k f && f k

-- the test holds of some number below the limit
unfoldable pub any : (limit : ℕ) → (ℕ → Bool) → Bool
any zero f = false
any (suc k) f = any k f || f k

-- of how many numbers below the limit the test holds
unfoldable pub count : (limit : ℕ) → (ℕ → Bool) → ℕ
count zero f = 0
count (suc k) f = count k f + cond (f k) 1 0
