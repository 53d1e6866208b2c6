-- What the check and the lasso call for C answer, and what the latter leaves. Assumes nothing: these are definitions.
use Rattle.std.specs.Prelude.{◌≡◌, List, ℕ, length}
use Rattle.basics.specs.Buffers.{zeros}
use Rattle.basics.specs.Refusals.{no_place}
use Rattle.tables.specs.Table.{Limits}
use Rattle.patterns.specs.declared.Checked.{Checked}
use Rattle.patterns.specs.declared.Checked.TheVariants as checks
use Rattle.lassos.specs.Decision.{Decision, Taken, NotTaken, Refused, decision}
use Rattle.tubochre.specs.declared.Answer.{Answer}
use Rattle.tubochre.specs.declared.CheckAnswer.{CheckAnswer}

-- what the check answers in numbers: 0 and no place where the pattern passes, or the refusal's number and its place
unfoldable pub as_check_answer : Checked → CheckAnswer
as_check_answer checks.Passed = record { number = 0; place = no_place }
as_check_answer (checks.Refused r p) = record { number = r; place = p }

-- a decision in numbers: 0 and 1 taken, 0 and 0 not taken, or the refusal's number and 0; only `number` tells a refusal
unfoldable pub as_answer : Decision → Answer
as_answer Taken = record { number = 0; taken = 1 }
as_answer NotTaken = record { number = 0; taken = 0 }
as_answer (Refused r) = record { number = r; taken = 0 }

-- what the lasso call answers and leaves, for tables of a range
pub record LassoAnswers (range : Limits) (t u v : List ℕ) (r : Answer) (w w_now : List ℕ) : Type 0 where
  pub answer : r ≡ as_answer (decision range t u v (length w))
  pub work : w_now ≡ zeros w
