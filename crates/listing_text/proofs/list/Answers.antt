-- `list` writes the listing of whatever input was read. Assumes nothing.
use native.Mathlib.Omega.{arith}
use Rattle.listing_text.proofs.Whole.{listing_right}
use Rattle.tables.specs.Table.{pattern_range}
use Rattle.listing_text.specs.Listing.{listing_bounds}
use Rattle.listing_text.proofs.list.Goals as goal

pub returns : goal.returns
unfolding listing_bounds pattern_range
returns c =
    let made = c.new-listing.ensures in
    let read = c.list_read.ensures in
    record {
      listed = record { ended_table = read.ended_table; text = rw (made.as_lent, made.at_start) at read.text.put };
      of_input = listing_right (omega arith);
    }
