-- `list_read` writes the listing of what was read. Assumes nothing.
use Rattle.std.proofs.Common.{rules}
use Rattle.listing_text.proofs.Whole.{listed_failed, listed_read}
use Rattle.listing_text.proofs.list_read.Goals as goal

pub returns-then-eq : goal.returns-then-eq
returns-then-eq c =
    record { ended_table = c.ended-read.ensures.words; text = listed_failed _ c.ended-read.ensures (search rules) c.put_refused.ensures }

pub returns : goal.returns
returns c =
    record { ended_table = c.ended-read.ensures.words; text = listed_read _ c.ended-read.ensures (search rules) c.list_table.ensures }
