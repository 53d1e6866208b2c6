-- The targets of a set on a letter: a state is among them exactly if an edge leads to it from the set; and those of a set in two parts are
-- those of the parts. Assumes nothing.
use mathlib.Core.Path.{◌≡◌, sym, ◌∙◌}
use mathlib.Core.Bool.{true, ◌&&◌, ◌||◌}
use Prim.Native.Nat.{ℕ, ◌<◌, ◌^◌}
use lib.Bits.{bit_and, bit_or}
use Rattle.basics.proofs.Booleans.{and_l, and_r, and_make}
use Rattle.basics.proofs.Bounded.{any_find, any_make}
use Rattle.automata.specs.Automaton.{Automaton}
use Rattle.sets.specs.Sets.{has, without}
use Rattle.sets.proofs.Members.{has_union, has_union_or, has_lt, union_lt, within_or_without}
use Rattle.ncsb.specs.Lines.{targets}
use Rattle.ncsb.specs.Moves.{Moves, Spread}
use Rattle.ncsb.specs.Step.{Leads}

module _ {a : Automaton} {d : Moves} (sp : Spread a d) where
  pub targets_small : (s c : ℕ) → targets d s c < 2 ^ d.states
  unfolding targets
  targets_small s c = union_lt d.states d.states s (λ q. d.move q c) (λ q. sp.move_small q c)

  pub targets_lead : (s c q : ℕ) → has (targets d s c) q ≡ true → Leads a s c q
  unfolding targets Leads
  targets_lead s c q h =
      let r =
      any_find d.states (λ p. has s p && has (d.move p c) q)
      (sym (has_union d.states s (λ p. d.move p c) q) ∙ h) in (
        r.0,
        and_l (has (d.move r.0 c) q) r.2,
        sym (sp.move r.0 c q) ∙ and_r (has s r.0) r.2,
      )

  pub lead_targets : (s c p q : ℕ) → s < 2 ^ d.states → has s p ≡ true → a.edge p c q ≡ true → has (targets d s c) q ≡ true
  unfolding targets
  lead_targets s c p q small h e =
      has_union d.states s (λ p. d.move p c) q
      ∙ any_make d.states (λ p. has s p && has (d.move p c) q) p (has_lt d.states s p small h)
      (and_make h (sp.move p c q ∙ e))

-- A SET IN TWO PARTS
module _ (d : Moves) (c q : ℕ) where
  pub targets_or : (s t : ℕ) → has (targets d (bit_or s t) c) q ≡ (has (targets d s c) q || has (targets d t c) q)
  unfolding targets
  targets_or s t = has_union_or d.states s t (λ p. d.move p c) q

  pub targets_parts :
      (s f : ℕ) → has (targets d s c) q ≡ (has (targets d (bit_and s f) c) q || has (targets d (without s f) c) q)
  targets_parts s f = rw (within_or_without s f) at (targets_or (bit_and s f) (without s f))
