-- `lasso_search::colouring::turn` meets its contract: a colour that stays below four does not overflow its word. Assumes nothing.
use borrow.Author.Rules.{rules}
use Rattle.lasso_search.proofs.Stores.{turn_fits, turn_is}
use Rattle.lasso_search.proofs.Width.{width_16_fits}
use Rattle.lasso_search.proofs.colouring.turn.Goals as goal

pub overflow_add-work : goal.overflow_add-work
overflow_add-work c =
    rw (c.from.ensures, c.from-2.ensures) (record { fits = turn_fits width_16_fits c.requires (search rules) })

pub returns : goal.returns
returns c =
    rw (c.from.ensures, c.from-2.ensures) (turn_is width_16_fits c.requires (search rules))
