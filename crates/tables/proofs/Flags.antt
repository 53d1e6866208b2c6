-- A state's flags are at most 3, and tell whether it is initial and whether it accepts. Assumes nothing.
use mathlib.Core.Path.{◌≡◌, refl}
use mathlib.Core.Bool.{Bool, true, false}
use Prim.Native.Nat.{◌%◌, ◌≤◌}
use native.Mathlib.Omega.{arith}
use lib.Dec.{leb, eqb}
use Rattle.tables.specs.Table.{flags}

-- whether it is initial
pub flags_initial : (x y : Bool) → eqb (flags x y % 2) 1 ≡ x
unfolding flags
flags_initial true true = refl
flags_initial true false = refl
flags_initial false true = refl
flags_initial false false = refl

-- whether it accepts
pub flags_accepting : (x y : Bool) → leb 2 (flags x y) ≡ y
unfolding flags
flags_accepting true true = refl
flags_accepting true false = refl
flags_accepting false true = refl
flags_accepting false false = refl

-- no flags are above 3
pub flags_small : (x y : Bool) → flags x y ≤ 3
unfolding flags
flags_small true true = omega arith
flags_small true false = omega arith
flags_small false true = omega arith
flags_small false false = omega arith
