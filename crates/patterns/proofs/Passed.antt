-- What a passed check says: the table is a pattern, so one of every wider range too; it is semi-deterministic; and its sets and its Q2 are as the
-- construction asks. Assumes nothing.
use mathlib.Core.Path.{◌≡◌, refl}
use mathlib.Core.Bool.{Bool, true, false, cond}
use mathlib.Core.List.{List}
use Prim.Native.Nat.{ℕ}
use native.Mathlib.Omega.{arith}
use Rattle.basics.proofs.Refusing.{or_else_none}
use Rattle.automata.specs.Automaton.{Closed}
use Rattle.tables.specs.Table.{Limits, Wider, pattern_range, table_refusal, meaning}
use Rattle.tables.proofs.Laws.{valid, meaning_closed, passes_wider}
use Rattle.ncsb.specs.Moves.{Spread, Split}
use Rattle.patterns.specs.Pattern.{semi_deterministic, moves}
use Rattle.patterns.specs.Check.{check_refusal}
use Rattle.patterns.proofs.Split.{spread, split}

ten_none : (b : Bool) → ◌≡◌ {A = ℕ} (cond b 0 10) 0 → b ≡ true
ten_none true h = refl
ten_none false h = absurd (omega arith)

module _ (t : List ℕ) (passed : check_refusal t ≡ 0) where
  both : (table_refusal pattern_range t ≡ 0) × (◌≡◌ {A = ℕ} (cond (semi_deterministic (meaning t)) 0 10) 0)
  unfolding check_refusal
  both = or_else_none (table_refusal pattern_range t) (cond (semi_deterministic (meaning t)) 0 10) passed

  -- it is a pattern
  pub checked_table : table_refusal pattern_range t ≡ 0
  checked_table = both.0

  -- so it is a table of every range that allows what a pattern may have
  pub checked_wider : {r : Limits} → Wider pattern_range r → table_refusal r t ≡ 0
  checked_wider {r} w = passes_wider pattern_range r t w checked_table

  pub checked_closed : Closed (meaning t)
  checked_closed = meaning_closed (valid pattern_range t checked_table)

  pub checked_semi : semi_deterministic (meaning t) ≡ true
  checked_semi = ten_none (semi_deterministic (meaning t)) both.1

  -- what the construction asks of a pattern
  pub checked_split : Spread (meaning t) (moves (meaning t)) × Split (meaning t) (moves (meaning t))
  checked_split = (spread (meaning t) checked_closed, split (meaning t) checked_closed checked_semi)
