-- Laws of the list of a function's values. Assumes nothing.
use mathlib.Core.Path.{◌≡◌, refl, ap}
use mathlib.Core.List.{List, [], ◌∷◌, ◌++◌}
use Prim.Native.Nat.{ℕ, zero, suc, ◌<◌}
use native.Mathlib.Omega.{arith}
use lib.ListN.{length, get_or}
use Rattle.basics.specs.Tabulate.{tabulate}

-- the value with a number
pub tabulate_at : {A : Type 0} (k : ℕ) (f : ℕ → A) (i : ℕ) (d : A) → i < k → get_or (tabulate k f) i d ≡ f i
unfolding tabulate
tabulate_at zero f i d l = absurd (omega arith)
tabulate_at (suc k) f zero d l = refl
tabulate_at (suc k) f (suc i) d l = tabulate_at k (λ j. f (suc j)) i d (omega arith)

-- as many as the limit says
pub tabulate_length : {A : Type 0} (k : ℕ) (f : ℕ → A) → length (tabulate k f) ≡ k
unfolding tabulate
tabulate_length zero f = refl
tabulate_length (suc k) f = ap suc (tabulate_length k (λ i. f (suc i)))

-- one more at the end
pub tabulate_snoc : {A : Type 0} (k : ℕ) (f : ℕ → A) → tabulate (suc k) f ≡ tabulate k f ++ (f k ∷ [])
unfolding tabulate
tabulate_snoc zero f = refl
tabulate_snoc {A} (suc k) f = ap (λ (l : List A). f 0 ∷ l) (tabulate_snoc k (λ i. f (suc i)))

-- what is the same below the limit
pub tabulate_same :
    {A : Type 0} (k : ℕ) (f g : ℕ → A) → ((i : ℕ) → i < k → f i ≡ g i) → tabulate k f ≡ tabulate k g
unfolding tabulate
tabulate_same zero f g h = refl
tabulate_same (suc k) f g h =
    let first = h 0 (omega arith) in
    let others = tabulate_same k (λ i. f (suc i)) (λ i. g (suc i)) (λ i l. h (suc i) (omega arith)) in cc

-- a list's own items
pub tabulate_items : {A : Type 0} (xs : List A) (d : A) → tabulate (length xs) (λ i. get_or xs i d) ≡ xs
unfolding tabulate
tabulate_items [] d = refl
tabulate_items {A} (x ∷ xs) d = ap (λ (l : List A). x ∷ l) (tabulate_items xs d)
