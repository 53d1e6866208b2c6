-- The sets that a letter asks for, by edges: where they lead from, and that all of them are sets of states. Assumes nothing.
use mathlib.Core.Path.{◌≡◌, sym, ◌∙◌}
use mathlib.Core.Bool.{true, false, ◌&&◌, ◌||◌, not}
use mathlib.Core.Logic.{◌⊎◌, inl, inr}
use Prim.Native.Nat.{ℕ, ◌<◌, ◌^◌}
use native.Mathlib.Nat.{lt_of_le_of_lt}
use lib.Bits.{bit_or, and_le_l, or_lt}
use Rattle.basics.proofs.Booleans.{and_l, and_r, and_make, or_l, or_r, or_true, not_false, true_not}
use Rattle.automata.specs.Automaton.{Automaton}
use Rattle.sets.specs.Sets.{has, without}
use Rattle.sets.proofs.Members.{has_and, has_or, has_without, without_lt}
use Rattle.ncsb.specs.Lines.{targets, entering, reachable_CS, safe_stays, not_leaving}
use Rattle.ncsb.specs.Moves.{Moves, Spread}
use Rattle.ncsb.specs.Step.{Small, Leads}
use Rattle.ncsb.specs.declared.Quadruple.{Quadruple}
use Rattle.ncsb.proofs.Targets.{targets_small, targets_lead, lead_targets}

-- THE SETS BY EDGES
module _ {a : Automaton} {d : Moves} (sp : Spread a d) {x : Quadruple} (small : Small d.states x) (c q : ℕ) where
  pub safe_lead : has (safe_stays d x c) q ≡ true → Leads a x.S c q
  unfolding safe_stays
  safe_lead h = targets_lead sp x.S c q h

  pub lead_safe : Leads a x.S c q → has (safe_stays d x c) q ≡ true
  unfolding safe_stays Leads
  lead_safe l = lead_targets sp x.S c l.0 q small.small_S l.1 l.2

  pub staying_lead :
      has (not_leaving d x c) q ≡ true →
      (p : ℕ) × (has x.C p ≡ true) × (has d.marks p ≡ false) × (a.edge p c q ≡ true)
  unfolding not_leaving Leads
  staying_lead h =
      let l = targets_lead sp (without x.C d.marks) c q h in
      let m = sym (has_without x.C d.marks l.0) ∙ l.1 in (
        l.0,
        and_l (not (has d.marks l.0)) m,
        true_not (has d.marks l.0) (and_r (has x.C l.0) m),
        l.2,
      )

  pub lead_staying :
      (p : ℕ) → has x.C p ≡ true → has d.marks p ≡ false → a.edge p c q ≡ true →
      has (not_leaving d x c) q ≡ true
  unfolding not_leaving
  lead_staying p h m e =
      lead_targets sp (without x.C d.marks) c p q
      (without_lt d.states x.C d.marks small.small_C)
      (has_without x.C d.marks p ∙ and_make h (not_false m)) e

  has_entering : has (entering d x c) q ≡ (has (targets d x.N c) q && has d.inner q)
  unfolding entering
  has_entering = has_and (targets d x.N c) d.inner q

  -- what is tracked: an edge leads to it from N into Q2, or from C, or from S
  unfoldable pub TrackedBy : Type 0
  TrackedBy =
      ((has d.inner q ≡ true) × Leads a x.N c q) ⊎ (Leads a x.C c q ⊎ Leads a x.S c q)

  entering_lead : has (entering d x c) q ≡ true → (has d.inner q ≡ true) × Leads a x.N c q
  entering_lead h =
      let m = sym has_entering ∙ h in
      (and_r (has (targets d x.N c) q) m, targets_lead sp x.N c q (and_l (has d.inner q) m))

  has_reachable : has (reachable_CS d x c) q ≡ (has (entering d x c) q || has (targets d (bit_or x.C x.S) c) q)
  unfolding reachable_CS
  has_reachable = has_or (entering d x c) (targets d (bit_or x.C x.S) c) q

  pub tracked_lead : has (reachable_CS d x c) q ≡ true → TrackedBy
  unfolding Leads TrackedBy
  tracked_lead h =
      elim (or_true (has (entering d x c) q) (has (targets d (bit_or x.C x.S) c) q) (sym has_reachable ∙ h)) [
        | inl e ↦ inl (entering_lead e)
        | inr t ↦
            let (p, m, e) = targets_lead sp (bit_or x.C x.S) c q t in
            elim (or_true (has x.C p) (has x.S p) (sym (has_or x.C x.S p) ∙ m)) [
              | inl n ↦ inr (inl (p, n, e))
              | inr n ↦ inr (inr (p, n, e))
            ]
      ]

  lead_joined : (p : ℕ) → has (bit_or x.C x.S) p ≡ true → a.edge p c q ≡ true → has (reachable_CS d x c) q ≡ true
  lead_joined p m e =
      let both = or_lt d.states x.C x.S small.small_C small.small_S in
      has_reachable ∙ or_r (has (entering d x c) q) (lead_targets sp (bit_or x.C x.S) c p q both m e)

  pub lead_tracked : TrackedBy → has (reachable_CS d x c) q ≡ true
  unfolding TrackedBy Leads
  lead_tracked t =
      elim t [
        | inl (inside, (p, m, e)) ↦
            has_reachable
            ∙ or_l (has (targets d (bit_or x.C x.S) c) q)
            (has_entering ∙ and_make (lead_targets sp x.N c p q small.small_N m e) inside)
        | inr (inl (p, m, e)) ↦ lead_joined p (has_or x.C x.S p ∙ or_l (has x.S p) m) e
        | inr (inr (p, m, e)) ↦ lead_joined p (has_or x.C x.S p ∙ or_r (has x.C p) m) e
      ]

-- all of them are sets of states
module _ {a : Automaton} {d : Moves} (sp : Spread a d) (x : Quadruple) (c : ℕ) where
  pub safe_small : safe_stays d x c < 2 ^ d.states
  unfolding safe_stays
  safe_small = targets_small sp x.S c

  pub tracked_small : reachable_CS d x c < 2 ^ d.states
  unfolding reachable_CS entering
  tracked_small =
      or_lt d.states (entering d x c) (targets d (bit_or x.C x.S) c)
      (lt_of_le_of_lt (and_le_l (targets d x.N c) d.inner) (targets_small sp x.N c))
      (targets_small sp (bit_or x.C x.S) c)
