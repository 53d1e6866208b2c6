-- The least number of which a test holds. Assumes nothing: these are definitions.
use Rattle.std.specs.Prelude.{Bool, cond, ℕ, zero, suc, ◌+◌, ◌-◌}

-- the least number below the limit of which the test holds, or the limit
unfoldable pub least : (limit : ℕ) → (ℕ → Bool) → ℕ
least zero f = 0
least (suc k) f = cond (f 0) 0 (suc (least k (λ i. f (suc i))))

-- the least from a number on; the limit, or that number where it is no less, if there is none
unfoldable pub least_from : (limit from : ℕ) → (ℕ → Bool) → ℕ
least_from n i f = i + least (n - i) (λ q. f (i + q))
