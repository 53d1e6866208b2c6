-- What keeps the sums of a plan from wrapping. Assumes nothing: this is a definition.
use Rattle.std.specs.Prelude.{ℕ, ◌≤◌}

-- a plan of few states and records, the inner states among them
pub record SmallPlan (states records inner : ℕ) : Type 0 where
  pub few_states : states ≤ 7
  pub few_records : records ≤ 43
  pub within : inner ≤ states
