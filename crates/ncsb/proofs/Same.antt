-- The `==` of quadruples, which their derive gives: it answers true if all four sets are the same. Assumes nothing.
use Rattle.std.proofs.Common.{◌≡◌, ◌&&◌, nat_eq, sym}
use Rattle.std.proofs.Math.Bool.{and_assoc}
use Rattle.ncsb.specs.Successors.{same}
use Rattle.ncsb.specs.contracts.QuadruplePartialEq.TheImpl as derived
use Rattle.ncsb.specs.declared.Quadruple.{Quadruple}

pub equals_same : (x y : Quadruple) → (derived.ghosts).eq x y ≡ same x y
unfolding same
equals_same x y = sym (and_assoc (nat_eq x.N y.N) (nat_eq x.C y.C) (nat_eq x.S y.S && nat_eq x.B y.B))
