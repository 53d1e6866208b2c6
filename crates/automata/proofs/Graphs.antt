-- Reaching in a finite graph: as many rounds as there are nodes find exactly the nodes that edges lead to. Assumes nothing.
use mathlib.Core.Path.{◌≡◌, sym, ◌∙◌}
use mathlib.Core.Bool.{Bool, true, false, ◌&&◌, ◌||◌}
use mathlib.Core.List.{List}
use mathlib.Core.Logic.{inl, inr, ◌↔◌}
use Prim.Native.Nat.{ℕ, suc, ◌<◌}
use Rattle.basics.specs.Bounded.{any}
use Rattle.basics.specs.Star.{Star}
use Rattle.basics.specs.Tabulate.{tabulate}
use Rattle.basics.proofs.Booleans.{and_l, and_r, and_make, or_l, or_r, or_true}
use Rattle.basics.proofs.Bounded.{any_find, any_make}
use Rattle.basics.proofs.Growing.{grown_star}
use Rattle.basics.proofs.Tabulate.{tabulate_at}
use Rattle.automata.specs.Decision.{marked, row, grow, grown_nodes}

pub tabulate_marked : (k : ℕ) (f : ℕ → Bool) (i : ℕ) → i < k → marked (tabulate k f) i ≡ f i
unfolding marked
tabulate_marked k f i l = tabulate_at k f i false l

-- an edge between nodes below n
abbrev pub Joined : (n : ℕ) → (g : List (List Bool)) → (x y : ℕ) → Type 0
Joined n g x y = (x < n) × (y < n) × (marked (row g x) y ≡ true)

module _ (n : ℕ) (g : List (List Bool)) (s : List Bool) where
  -- the set after so many rounds, and whether an edge leads from its node x to y
  abbrev after : (rounds : ℕ) → List Bool
  after k = grown_nodes k n g s

  abbrev hit : (rounds x y : ℕ) → Bool
  hit k x y = marked (after k) x && marked (row g x) y

  -- a node of the grown set was there, or an edge leads to it from the set
  after_marked : (k y : ℕ) → y < n → marked (after (suc k)) y ≡ (marked (after k) y || any n (λ x. hit k x y))
  unfolding grown_nodes grow
  after_marked k y l = tabulate_marked n (λ y. marked (after k) y || any n (λ x. hit k x y)) y l

  -- as many rounds as nodes mark exactly the nodes that edges lead to
  pub grown_right :
      (y : ℕ) → ((y < n) × (marked (after n) y ≡ true)) ↔ ((x : ℕ) × (x < n) × (marked s x ≡ true) × Star (Joined n g) x y)
  unfolding grown_nodes
  grown_right =
      grown_star n (λ k y. marked (after k) y) (λ k y l e. after_marked k y l ∙ or_l (any n (λ x. hit k x y)) e)
      (Joined n g) (λ x y (_, l, _). l)
      (λ k x y m e (_, l, f).
      after_marked k y l ∙ or_r (marked (after k) y) (any_make n (λ x. hit k x y) x m (and_make e f)))
      (λ k y l e.
      elim (or_true (marked (after k) y) (any n (λ x. hit k x y)) (sym (after_marked k y l) ∙ e)) [
        | inl h ↦ inl h
        | inr h ↦
            let (x, m, f) = any_find n (λ x. hit k x y) h in
            inr (x, m, and_l (marked (row g x) y) f, (m, l, and_r (marked (after k) x) f))
      ])
