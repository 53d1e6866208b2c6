-- A scan of records from the first on finds the number of a quadruple among them, as exploring has it; a run that is filled from records
-- begins with them. Assumes nothing.
use mathlib.Core.Path.{◌≡◌, ◌∙◌, ap}
use mathlib.Core.Logic.{inl, inr}
use mathlib.Core.List.{List, [], ◌∷◌}
use Prim.Native.Nat.{ℕ, zero, suc, ◌≤◌, min}
use native.Mathlib.Omega.{arith}
use lib.ListN.{length, take}
use lib.Dec.{ltb}
use Rattle.std.proofs.Common.{refl, unwrap_or, position}
use Rattle.std.proofs.lemmas.List.{take_min}
use Rattle.std.specs.List.{position_or_len}
use Rattle.basics.specs.Tabulate.{tabulate}
use Rattle.basics.proofs.Booleans.{either, ltb_ge}
use Rattle.automata.specs.System.{number_of}
use Rattle.automata.proofs.Members.{number_le}
use Rattle.ncsb.specs.Successors.{same}
use Rattle.ncsb.specs.declared.Quadruple.{Quadruple}
use Rattle.records.specs.Records.{fitted}

-- the first place where a quadruple stands, or how many there are, is its number
first_number : (x : Quadruple) (ys : List Quadruple) → position_or_len (same x) ys ≡ number_of same x ys
unfolding number_of
first_number x [] = refl
first_number x (y ∷ ys) = let h = first_number x ys in elim (either (same x y)) [ inl e ↦ rw e refl | inr e ↦ rw e (omega arith) ]

pub number_first : (x : Quadruple) (ys : List Quadruple) → unwrap_or (position (same x) ys) (length ys) ≡ number_of same x ys
number_first x ys =
    let most = number_le same x ys in
    elim (either (ltb (number_of same x ys) (length ys))) [
      | inl l ↦ rw (first_number x ys, l) refl
      | inr l ↦ let ge = ltb_ge (number_of same x ys) (length ys) l in rw (first_number x ys, l) (omega arith)
    ]

-- AMONG THE FIRST k RECORDS ys: in a run of k that is filled from them, as many as there are
take_fitted : (m k : ℕ) (ys : List Quadruple) → m ≤ k → m ≤ length ys → take m (fitted k ys) ≡ take m ys
unfolding fitted tabulate
take_fitted zero k ys l h = refl
take_fitted (suc m) zero ys l h = absurd (omega arith)
take_fitted (suc m) (suc k) [] l h = absurd (omega arith)
take_fitted (suc m) (suc k) (y ∷ ys) l h = ap (λ (zs : List Quadruple). y ∷ zs) (take_fitted m k ys (omega arith) (omega arith))

pub held_first : (m k : ℕ) (ys : List Quadruple) → m ≡ min (length ys) k → take m (fitted k ys) ≡ take k ys
held_first m k ys e =
    let same : m ≡ min k (length ys) = omega arith in take_fitted m k ys (omega arith) (omega arith) ∙ rw same (take_min k ys)
