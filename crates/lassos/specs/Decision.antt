-- What the lasso decision answers and leaves. Assumes nothing: these are definitions.
use Rattle.std.specs.Prelude.{◌≡◌, Bool, true, false, List, Result, Ok, Err, ℕ, zero, suc, length}
use Rattle.basics.specs.Buffers.{zeros}
use Rattle.basics.specs.Refusals.{number}
use Rattle.basics.specs.declared.Refusal.{Refusal}
use Rattle.automata.specs.Decision.{takes?}
use Rattle.tables.specs.Table.{Limits, meaning}
use Rattle.lassos.specs.Refusals.{lasso_refusal}

-- WHAT THE DECISION ANSWERS: taken, not taken, or the number of the refusal
pub data Decision : Type 0 where
  Taken : Decision
  NotTaken : Decision
  Refused : (number : ℕ) → Decision

-- the same of what a call gives: whether the lasso is taken, or a refusal
abbrev pub decided : Result Bool Refusal → Decision
decided (Ok true) = Taken
decided (Ok false) = NotTaken
decided (Err r) = Refused (number r)

-- the answer for a refusal's number, zero where nothing is refused, and for whether the lasso is taken
unfoldable pub as_decision : (number : ℕ) → (taken : Bool) → Decision
as_decision zero true = Taken
as_decision zero false = NotTaken
as_decision (suc r) taken = Refused (suc r)

-- the decision on a table t of a range, a prefix u and a loop v, with so many work words
unfoldable pub decision : Limits → (t u v : List ℕ) → (work : ℕ) → Decision
decision r t u v w = as_decision (lasso_refusal r t u v w) (takes? (meaning t) u v)

-- what a call answers, and that the work words are all zero after it
pub record LassoSays (range : Limits) (t u v : List ℕ) (d : Decision) (w w_now : List ℕ) : Type 0 where
  pub answer : d ≡ decision range t u v (length w)
  pub work : w_now ≡ zeros w

-- what the search asks: neither the table nor the lasso is refused
pub record TakesAsks (r : Limits) (t u v w : List ℕ) : Type 0 where
  pub accepted : lasso_refusal r t u v (length w) ≡ 0
