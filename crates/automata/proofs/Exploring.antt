-- Exploring as its loops see it: a successor is known or new, the rest of exploring only adds, and what the loop over the states carries as
-- its invariant, its turn and its end. Assumes nothing.
use mathlib.Core.Path.{◌≡◌, refl, sym, ◌∙◌}
use mathlib.Core.Bool.{Bool}
use mathlib.Core.List.{List, [], ◌∷◌, ◌++◌}
use mathlib.Core.Logic.{inl, inr}
use Prim.Native.Nat.{ℕ, zero, suc, ◌+◌, ◌≤◌, ◌<◌}
use native.Mathlib.Omega.{arith}
use lib.Dec.{leb}
use lib.ListN.{length}
use Rattle.basics.specs.Tabulate.{tabulate}
use Rattle.basics.proofs.Booleans.{either, leb_le, leb_gt}
use Rattle.basics.proofs.Tabulate.{tabulate_snoc}
use Rattle.basics.proofs.Upward.{upward}
use Rattle.automata.specs.System.{System, Decides, state_at, Distinct, AtMost}
use Rattle.automata.specs.System.{an_edge, Built, built, number_of}
use Rattle.automata.specs.System.{add_edge, add_all, by_letters, expand, explore_from, begin, explore}
use Rattle.automata.proofs.Growth.{Grows, grows_self, grows_then, grows_edge, grows_letters}
use Rattle.automata.proofs.Members.{with_known, with_new}
use Rattle.automata.proofs.Explore.{Explored, explore_step, explore_end, sound_at_most, explored_step, explored_begin}

module _ {X : Type 0} (same : X → X → Bool) where
  -- SUCCESSORS one by one: a known one and a new one
  pub add_edge_known :
      (i c : ℕ) (y : X) (b : Built X) → number_of same y b.states < length b.states →
      add_edge same i c y b ≡ built b.states (b.edges ++ (an_edge i c (number_of same y b.states) ∷ []))
  unfolding add_edge
  add_edge_known i c y b l = rw (with_known same y b.states l)

  pub add_edge_new :
      (i c : ℕ) (y : X) (b : Built X) → number_of same y b.states ≡ length b.states →
      add_edge same i c y b ≡ built (b.states ++ (y ∷ [])) (b.edges ++ (an_edge i c (length b.states) ∷ []))
  unfolding add_edge
  add_edge_new i c y b e = rw (with_new same y b.states (omega arith), e)

  add_all_append :
      (i c : ℕ) (ys zs : List X) (b : Built X) → add_all same i c (ys ++ zs) b ≡ add_all same i c zs (add_all same i c ys b)
  unfolding add_all
  add_all_append i c [] zs b = refl
  add_all_append i c (y ∷ ys) zs b = add_all_append i c ys zs (add_edge same i c y b)

  -- of successors given by number, one more and several more
  pub add_all_more :
      (y : ℕ → X) (i c k : ℕ) (b : Built X) →
      add_all same i c (tabulate (suc k) y) b ≡ add_edge same i c (y k) (add_all same i c (tabulate k y) b)
  unfolding add_all
  add_all_more y i c k b = rw (tabulate_snoc k y) (add_all_append i c (tabulate k y) (y k ∷ []) b)

  pub grows_more :
      (y : ℕ → X) (i c j k : ℕ) (b : Built X) → j ≤ k →
      Grows (add_all same i c (tabulate j y) b) (add_all same i c (tabulate k y) b)
  grows_more y i c j k b l =
      upward (λ k. Grows (add_all same i c (tabulate j y) b) (add_all same i c (tabulate k y) b)) j
      (grows_self (add_all same i c (tabulate j y) b))
      (λ k _ h. rw (add_all_more y i c k b) (grows_then h (grows_edge same i c (y k) (add_all same i c (tabulate k y) b)))) k l

module _ {X : Type 0} (s : System X) where
  -- by the letters of a state, by all its edges, and to the end of exploring, what was found only grows
  pub grows_spelled : (d i : ℕ) (x : X) (b : Built X) → Grows b (by_letters s d i x b)
  unfolding by_letters
  grows_spelled d i x b = grows_letters s 0 d i x b (omega arith)

  grows_expand : (i : ℕ) (b : Built X) → Grows b (expand s i b)
  unfolding expand
  grows_expand i b = grows_spelled s.letters i (state_at s b.states i) b

  pub grows_explore : (f i : ℕ) (b : Built X) → Grows b (explore_from f s i b)
  unfolding explore_from
  grows_explore zero i b = grows_self b
  grows_explore (suc f) i b =
      elim (either (leb (length b.states) i)) [
        | inl e ↦ rw (explore_end s (suc f) i b (leb_le (length b.states) i e)) (grows_self b)
        | inr e ↦
            rw (explore_step s f i b (leb_gt (length b.states) i e))
            (grows_then (grows_expand i b) (grows_explore f (suc i) (expand s i b)))
      ]

-- THE LOOP over the states: where it stands in exploring with this fuel before the state with number i, and what was found so far
pub record AtState {X : Type 0} (s : System X) (fuel i : ℕ) (b : Built X) : Type 0 where
  pub explored : Explored s i b
  pub left : ℕ
  pub enough : fuel ≤ i + left
  pub rest : explore_from left s i b ≡ explore fuel s

module _ {X : Type 0} (s : System X) (decides : Decides s) {fuel : ℕ} (most : AtMost s fuel) where
  pub state_begin : Distinct s s.starts → AtState s fuel 0 (begin s)
  unfolding explore
  state_begin distinct =
      record { explored = explored_begin s decides distinct; left = fuel; enough = omega arith; rest = refl }

  pub state_step : {i : ℕ} {b : Built X} → i < length b.states → AtState s fuel i b → AtState s fuel (suc i) (expand s i b)
  state_step {i} {b} l h = go h.left h.enough h.rest
    where
      go : (left : ℕ) → fuel ≤ i + left → explore_from left s i b ≡ explore fuel s → AtState s fuel (suc i) (expand s i b)
      go zero enough rest = absurd (let g = sound_at_most s b fuel h.explored.sound most in omega arith)
      go (suc left) enough rest =
          record {
            explored = explored_step s decides i b l h.explored;
            left = left;
            enough = omega arith;
            rest = sym (explore_step s left i b l) ∙ rest;
          }

  pub state_end : {i : ℕ} {b : Built X} → length b.states ≤ i → AtState s fuel i b → b ≡ explore fuel s
  state_end {i} {b} l h = sym (explore_end s h.left i b l) ∙ h.rest

  pub state_grows : {i : ℕ} {b : Built X} → AtState s fuel i b → Grows b (explore fuel s)
  state_grows {i} {b} h = rw (← h.rest) (grows_explore s h.left i b)
