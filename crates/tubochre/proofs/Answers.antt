-- The second demand, of lassos; and a decision that does not refuse meets no refusal. Assumes nothing.
use mathlib.Core.Path.{◌≡◌, refl}
use mathlib.Core.Bool.{Bool}
use mathlib.Core.List.{List}
use Prim.Native.Nat.{ℕ, zero, suc}
use lib.ListN.{length}
use Rattle.automata.specs.Decision.{takes?}
use Rattle.tables.specs.Table.{Limits, meaning}
use Rattle.lassos.specs.Decision.{Decision, as_decision, decision, LassoSays}
use Rattle.lassos.specs.Refusals.{lasso_refusal}
use Rattle.lassos.proofs.Answers.{says_taken, says_not_taken, says_refused}
use Rattle.lassos.proofs.Parts.{accepted}
use Rattle.tubochre.specs.Demand.{LassoDemand, NotRefused}

-- an answer that refuses nothing has number zero
number_zero : (number : ℕ) (taken : Bool) → NotRefused (as_decision number taken) → number ≡ 0
unfolding NotRefused as_decision
number_zero zero taken h = refl
number_zero (suc r) taken h = absurd (h (suc r) refl)

-- so nothing is met where a decision does not refuse
pub not_refused :
    {range : Limits} {t u v : List ℕ} {d : Decision} {w w_now : List ℕ} → LassoSays range t u v d w w_now → NotRefused d →
    lasso_refusal range t u v (length w) ≡ 0
unfolding decision
not_refused {range} {t} {u} {v} {w = w} says h =
    number_zero (lasso_refusal range t u v (length w)) (takes? (meaning t) u v) (rw says.answer at h)

-- THE SECOND DEMAND, of lassos
pub lasso_demand : (range : Limits) → LassoDemand range
unfolding LassoDemand
lasso_demand range t u v d w w_now says =
    record {
      refused = says_refused says;
      over = λ none. let a = accepted range t u v (length w) none in (a.valid, a.lasso);
      taken = says_taken says;
      not_taken = says_not_taken says;
    }
