-- `Quadruple::initial` meets its contract: its sets are those of the initial quadruple. Assumes nothing.
use Rattle.std.proofs.Common.{◌≡◌, [], ℕ, refl}
use Rattle.std.specs.Int.Bits.{bit_and}
use Rattle.sets.specs.Sets.{nth_subset, without}
use Rattle.ncsb.specs.Array.{from_array, nth_initial}
use Rattle.ncsb.specs.Moves.{Moves}
use Rattle.ncsb.specs.Successors.{initial_for, initial_free, quadruple}
use Rattle.ncsb.proofs.Quadruple.initial.Goals as goal

begun :
    (d : Moves) (i : ℕ) {free safe rest outer : ℕ} →
    free ≡ initial_free d → safe ≡ nth_subset free i → rest ≡ without (bit_and d.starts d.inner) safe →
    outer ≡ without d.starts d.inner → quadruple outer rest safe rest ≡ nth_initial d i
unfolding nth_initial initial_for
begun d i f s r n = rw (r, s, f, n) refl

pub returns : goal.returns
unfolding from_array initial_free quadruple
returns c =
    let args = c.args in
    begun (from_array [] args.shape.starts args.shape.marks args.shape.inner) args.choice c.without.ensures
    c.nth_subset-safe.ensures c.without-rest.ensures c.without-2.ensures
