-- `put_state` writes a state's number, sets and flags. Assumes nothing.
use Rattle.listing_text.proofs.Printing.{state_appended}
use Rattle.listing_text.proofs.built.put_state.Goals as goal

pub returns : goal.returns
returns c = state_appended _ _ c.args.state c.load-x.ensures c.flags-flags.ensures.is c.line.ensures
