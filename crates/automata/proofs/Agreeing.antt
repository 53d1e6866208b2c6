-- Two systems that tell states apart alike give the same edges wherever their successors agree. Assumes nothing.
use mathlib.Core.Path.{◌≡◌, refl}
use mathlib.Core.List.{List, [], ◌∷◌}
use Prim.Native.Nat.{ℕ, zero, suc, ◌<◌}
use native.Mathlib.Omega.{arith}
use Rattle.automata.specs.System.{System, Built, number_of, with_state, add_edge, add_all, by_letters}

module _ {X : Type 0} (s s' : System X) (same : (x y : X) → s.same x y ≡ s'.same x y) where
  number_agrees : (x : X) (xs : List X) → number_of s.same x xs ≡ number_of s'.same x xs
  unfolding number_of
  number_agrees x [] = refl
  number_agrees x (y ∷ ys) = rw (same x y, number_agrees x ys) refl

  edge_agrees : (i c : ℕ) (y : X) (b : Built X) → add_edge s.same i c y b ≡ add_edge s'.same i c y b
  unfolding add_edge with_state
  edge_agrees i c y b = rw (number_agrees y b.states) refl

  all_agrees : (i c : ℕ) (ys : List X) (b : Built X) → add_all s.same i c ys b ≡ add_all s'.same i c ys b
  unfolding add_all
  all_agrees i c [] b = refl
  all_agrees i c (y ∷ ys) b = rw (edge_agrees i c y b) (all_agrees i c ys (add_edge s'.same i c y b))

  pub letters_agree :
      (limit i : ℕ) (x : X) → ((c : ℕ) → c < limit → s.nexts x c ≡ s'.nexts x c) → (b : Built X) →
      by_letters s limit i x b ≡ by_letters s' limit i x b
  unfolding by_letters
  letters_agree zero i x nexts b = refl
  letters_agree (suc c) i x nexts b =
      rw (nexts c (omega arith), letters_agree c i x (λ d l. nexts d (omega arith)) b)
      (all_agrees i c (s'.nexts x c) (by_letters s' c i x b))
