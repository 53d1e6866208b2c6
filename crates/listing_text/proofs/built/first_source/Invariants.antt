-- `first_source` passes over the states without a chain. The invariant: what is looked for lies from `state` on. Assumes nothing.
use mathlib.Core.Path.{◌≡◌}
use Rattle.basics.specs.Least.{least_from}
use Rattle.tables.specs.Table.{n_of}
use Rattle.listing_text.specs.Built.{has_chain, first_source}
use Rattle.listing_text.proofs.built.first_source.Given as goal

abbrev pub invariant-loop-state : goal.invariant-loop-state
invariant-loop-state l = least_from (n_of l.table.words.now) l.state (has_chain l.table.words.now) ≡ first_source l.table.words.now l.from
