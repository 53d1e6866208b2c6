-- `places` counts a number's digits by its largest power of ten. Assumes nothing.
use Rattle.decimal.proofs.Digits.{places_of}
use Rattle.decimal.proofs.lines.places.Goals as goal

pub returns : goal.returns
returns c = let h = c.checked_ilog10.ensures in rw c.unwrap_or.ensures (places_of c.args.n _ h.none h.power_le h.next_power_gt h.bound)
