-- `Quadruple::successor` meets its contract: S' is d2 of S and the choice, C' is what line 2 leaves, and B' what line 6 says.
-- Assumes nothing.
use Rattle.std.proofs.Common.{◌≡◌, ℕ, refl}
use Rattle.std.specs.Int.Bits.{bit_or}
use Rattle.sets.specs.Sets.{nth_subset}
use Rattle.ncsb.specs.Array.{nth_successor}
use Rattle.ncsb.specs.Lines.{breakpoint, disjoint}
use Rattle.ncsb.specs.Successors.{quadruple, successor_by}
use Rattle.ncsb.specs.declared.Asked.{Asked}
use Rattle.ncsb.specs.declared.Quadruple.{Quadruple}
use Rattle.ncsb.proofs.Quadruple.successor.Goals as goal

made :
    (x : Quadruple) (a : Asked) (i : ℕ) {part rest b : ℕ} →
    part ≡ nth_subset a.free i → rest ≡ disjoint a.tracked (bit_or a.safe part) → b ≡ breakpoint x a.followed rest →
    quadruple a.outer rest (bit_or a.safe part) b ≡ nth_successor x a i
unfolding nth_successor successor_by
made x a i p r b = rw (b, r, p) refl

pub returns : goal.returns
unfolding quadruple
returns c =
    let args = c.args in
    made args.self args.asked args.choice c.nth_subset.ensures c.disjoint-rest.ensures c.breakpoint.ensures
