-- `lasso_search::product::Product::new` meets its contract: the number of nodes fits a work word. Assumes nothing.
use native.Mathlib.Omega.{arith}
use Rattle.tables.specs.Table.{wide_range}
use Rattle.tables.proofs.Laws.{valid}
use Rattle.lasso_search.proofs.Given.{new_small, new_given}
use Rattle.lasso_search.proofs.product.Product.new.Goals as goal

pub invariant_of-table : goal.invariant_of-table
invariant_of-table c =
    let v = valid wide_range _ c.requires.valid in
    let whole = v.whole in record { counted = c.states_of.ensures.is; sized = omega arith }

pub overflow_mul-result : goal.overflow_mul-result
overflow_mul-result c =
    let k = new_small _ _ _ c.requires.small c.states_of.ensures.is in record { fits = omega arith }

pub invariant_of-result : goal.invariant_of-result
invariant_of-result c =
    let v = valid wide_range _ c.requires.valid in
    let from = v.states_from in
    let is = c.states_of.ensures.is in
    record {
      some = omega arith;
      given = new_given c.requires.valid c.requires.endless c.requires.small c.states_of.ensures.is;
    }
