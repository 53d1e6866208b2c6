-- Laying records down one after the other gives the fitted run. Assumes nothing.
use mathlib.Core.Path.{◌≡◌, refl, sym, ◌∙◌}
use mathlib.Core.List.{List}
use mathlib.Core.Logic.{inl, inr}
use Prim.Native.Nat.{ℕ, zero, suc, ◌≤◌, ◌<◌}
use native.Mathlib.Omega.{arith}
use lib.ListN.{length, get_or, set, length-set}
use lib.Seq.{get_or-set_same, get_or-set_other, ext_get_or}
use Rattle.basics.proofs.Booleans.{same_or}
use Rattle.basics.proofs.Tabulate.{tabulate_length, tabulate_at}
use Rattle.ncsb.specs.declared.Quadruple.{Quadruple}
use Rattle.records.specs.Records.{blank, fitted}

-- the run once the first k records are laid down
abbrev pub laid : (xs ys : List Quadruple) → (k : ℕ) → List Quadruple
laid xs ys zero = ys
laid xs ys (suc k) = set (laid xs ys k) k (get_or xs k blank)

module _ (xs ys : List Quadruple) where
  pub laid_length : (k : ℕ) → length (laid xs ys k) ≡ length ys
  laid_length zero = refl
  laid_length (suc k) = length-set (laid xs ys k) k (get_or xs k blank) ∙ laid_length k

  laid_at : (k i : ℕ) → k ≤ length ys → i < k → get_or (laid xs ys k) i blank ≡ get_or xs i blank
  laid_at zero i l m = absurd (omega arith)
  laid_at (suc k) i l m =
      elim (same_or i k) [
        | inl e ↦ let h : k < length (laid xs ys k) = rw (laid_length k) (omega arith) in
            rw e (get_or-set_same (laid xs ys k) k (get_or xs k blank) blank h)
        | inr ne ↦ get_or-set_other (laid xs ys k) k i (get_or xs k blank) blank ne ∙ laid_at k i (omega arith) (omega arith)
      ]

  -- all of them: the fitted run
  pub laid_all : (k : ℕ) → k ≡ length ys → laid xs ys k ≡ fitted (length ys) xs
  unfolding fitted
  laid_all k e =
      ext_get_or blank (laid xs ys k) (fitted (length ys) xs) (laid_length k ∙ sym (tabulate_length (length ys) (λ i. get_or xs i blank)))
      (λ i l.
      let h = laid_length k in
      let m : i < length ys = omega arith in
      laid_at k i (omega arith) (omega arith) ∙ sym (tabulate_at (length ys) (λ i. get_or xs i blank) i blank m))
