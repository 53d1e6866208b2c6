-- `records::find` meets its contract: the first record that is x has the place asked for, and where none is, their count is.
-- Assumes nothing.
use Rattle.std.proofs.Common.{rules, ◌≡◌, ◌∙◌, position}
use Rattle.std.proofs.lemmas.Iterator.{YieldsList-from_slice}
use Rattle.std.proofs.lemmas.Iterator.Search.{position_from_yields_List}
use borrow.Author.Tests.{tests}
use Rattle.ncsb.specs.Successors.{same}
use Rattle.ncsb.proofs.Same.{equals_same}
use Rattle.records.proofs.First.{number_first}
use Rattle.records.proofs.find.Goals as goal

pub returns : goal.returns
returns c =
    let first : c.position.result ≡ position (same c.args.x) c.args.records.now =
    position_from_yields_List (same c.args.x) _ _ c.position.result c.position.ensures.ran (YieldsList-from_slice c.args.records.now cc)
    (λ y b q k. search (rules, tests, equals_same)) in
    c.unwrap_or.ensures ∙ rw first (number_first _ _)
