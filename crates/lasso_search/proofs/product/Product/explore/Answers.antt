use Prim.Native.Nat.{◌+◌, ◌-◌}
use lib.ListN.{get_or}
use Rattle.lasso_search.specs.Walks.{graph}
use Rattle.lasso_search.specs.Width.{width_16}
use Rattle.lasso_search.proofs.Explores.{exploring_top, exploring_deeper, exploring_end, Finishing, finishing_start, finishing_same, finishing_asks, finishing_found, finishing_left, finishing_less}
use Rattle.lasso_search.proofs.product.Product.explore.Goals as goal
use Rattle.lasso_search.proofs.product.Product.explore.Goals.{Else-descend}

pub descend-requires : goal.descend-requires
descend-requires c = exploring_top c.args.self.given c.loop-depth.invariant c.loop-depth-test.true

pub loop-depth-preserved-then-descend : goal.loop-depth-preserved-then-descend
loop-depth-preserved-then-descend c =
    exploring_deeper c.args.self.given c.loop-depth.invariant c.descend.ensures
    c.if-descend.true

-- all targets of the top are visited
module _ (c : Else-descend) where
  finishing :
      Finishing width_16 (graph c.args.self) c.args.work.now c.descend.new.work
      (get_or c.loop-depth.work (c.args.self.size + (c.loop-depth.depth - 1)) 0)
      c.loop-depth.depth
  finishing =
      finishing_start c.args.self.given c.loop-depth.invariant c.loop-depth-test.true c.descend.ensures c.if-descend.false

pub finish-requires : goal.finish-requires
finish-requires c = finishing_asks c.args.self.given (finishing (goal.at.finish-requires c).Else-descend)

pub returns-then-finish : goal.returns-then-finish
returns-then-finish c =
    finishing_found c.args.self.given (finishing (goal.at.returns-then-finish c).Else-descend) c.finish.ensures c.if-finish.true

pub loop-depth-smaller : goal.loop-depth-smaller
loop-depth-smaller c =
    finishing_less c.args.self.given (finishing (goal.at.loop-depth-smaller c).Else-descend) (finishing_same c.descend.ensures c.if-descend.false)
    c.finish.ensures
    c.if-finish.false

pub loop-depth-preserved : goal.loop-depth-preserved
loop-depth-preserved c =
    finishing_left c.args.self.given (finishing (goal.at.loop-depth-preserved c).Else-descend) c.finish.ensures
    c.if-finish.false

pub returns : goal.returns
returns c = exploring_end c.args.self.given c.loop-depth.invariant c.loop-depth-test.false
