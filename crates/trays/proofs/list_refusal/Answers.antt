-- `list_refusal` meets its contract: where no lasso follows, those of the list are counted. Assumes nothing.
use borrow.Author.Tests.{eqb-true, eqb-false}
use mathlib.Core.Path.{◌≡◌, sym, ◌∙◌}
use native.Mathlib.Omega.{arith}
use lib.ListN.{length}
use Rattle.trays.specs.Tray.{tray}
use Rattle.trays.proofs.Refusals.{list_17, list_18, list_passes}
use Rattle.trays.proofs.Walking.{counting_few, counting_turn, counting_all, counting_left}
use Rattle.trays.proofs.list_refusal.Goals as goal
use Rattle.trays.proofs.list_refusal.Goals.{After-is_empty}

pub loop-count-preserved : goal.loop-count-preserved
loop-count-preserved c = counting_turn c.loop-count.invariant _ _ c.in-Some.ensures.steps

pub overflow_add-count : goal.overflow_add-count
overflow_add-count c =
    record { fits = omega (arith, counting_few (counting_turn c.loop-count.invariant _ _ c.in-Some.ensures.steps)) }

-- where no lasso follows: what is left, and that all are counted
module _ (c : After-is_empty) where
  left : length c.next.new.self.list.now ≡ length (tray c.args.list.now).left
  left = let (none, same) = c.in_default.ensures.steps in rw same (counting_left c.loop-count.invariant none)

  all : c.loop-count.count ≡ length (tray c.args.list.now).lassos
  all = let (none, same) = c.in_default.ensures.steps in counting_all c.loop-count.invariant none

pub returns-then-not-is_empty : goal.returns-then-not-is_empty
returns-then-not-is_empty c =
    list_17 _ _
    (λ z. eqb-false _ _ (sym c.if-not-is_empty.ensures) (left (goal.at.returns-then-not-is_empty c).After-is_empty ∙ z))

pub returns-then-count-bytes : goal.returns-then-count-bytes
returns-then-count-bytes c =
    let at = (goal.at.returns-then-count-bytes c).After-is_empty in
    list_18 _ _ (sym (left at) ∙ eqb-true _ _ (sym c.if-not-is_empty.ensures)) (all at) c.if-count-bytes.true

pub returns : goal.returns
returns c =
    let at = (goal.at.returns c).After-is_empty in
    list_passes _ _ (sym (left at) ∙ eqb-true _ _ (sym c.if-not-is_empty.ensures)) (all at) c.if-count-bytes.false
