-- `lines::reachable` meets its contract: its sets are those of line 1, and of lines 3 and 4. Assumes nothing.
use Rattle.std.proofs.Common.{◌≡◌, List, ℕ}
use Rattle.std.specs.Int.Bits.{bit_and, bit_or}
use Rattle.ncsb.specs.Array.{from_array}
use Rattle.ncsb.specs.Lines.{entering, not_leaving, reachable_CS, reachable_N, safe_stays, targets}
use Rattle.ncsb.specs.Successors.{leaving}
use Rattle.ncsb.specs.declared.Quadruple.{Quadruple}
use Rattle.ncsb.proofs.Free.{tracked_parts}
use Rattle.ncsb.proofs.lines.reachable.Goals as goal

-- dt of N joined with the parts of d2 of C and S
joined :
    (m : List (List ℕ)) (f q2 : ℕ) (x : Quadruple) (c : ℕ) {n l t s : ℕ} →
    n ≡ targets (from_array m 0 f q2) x.N c → l ≡ leaving (from_array m 0 f q2) x c →
    t ≡ not_leaving (from_array m 0 f q2) x c → s ≡ safe_stays (from_array m 0 f q2) x c →
    bit_or (bit_and n q2) (bit_or (bit_or l t) s) ≡ reachable_CS (from_array m 0 f q2) x c
unfolding from_array entering
joined m f q2 x c n l t s = rw (n, l, t, s) (tracked_parts (from_array m 0 f q2) x c)

pub returns-clause-N : goal.returns-clause-N
unfolding from_array reachable_N targets
returns-clause-N c = rw c.targets-from_N.ensures at c.without.ensures

pub returns-clause-CS : goal.returns-clause-CS
unfolding from_array leaving not_leaving safe_stays targets
returns-clause-CS c =
    let args = c.args in
    joined args.moves.now args.shape.marks args.shape.inner args.x args.letter c.targets-from_N.ensures
    c.targets-leaving.ensures c.not_leaving-staying.ensures c.safe_stays-safe.ensures

pub returns-clause-safe : goal.returns-clause-safe
unfolding from_array safe_stays targets
returns-clause-safe c = c.safe_stays-safe.ensures

pub returns-clause-staying : goal.returns-clause-staying
unfolding from_array not_leaving targets
returns-clause-staying c = c.not_leaving-staying.ensures
