-- The table by state and by letter gives the same quadruples as the pattern: the step over as many states as a set has room for and the step over
-- the pattern's own agree on sets of its states. Assumes nothing.
use mathlib.Core.Path.{◌≡◌, refl, ◌∙◌, ap, fun_ext}
use mathlib.Core.Bool.{◌&&◌, not, cond}
use mathlib.Core.List.{[], map}
use Prim.Native.Nat.{ℕ, ◌^◌, ◌≤◌, ◌<◌}
use native.Mathlib.Nat.{lt_of_le_of_lt}
use lib.Bits.{bit_and, bit_or, or_lt, and_le_l}
use lib.Dec.{eqb}
use Rattle.basics.proofs.Booleans.{and_false_l}
use Rattle.basics.proofs.Bounded.{any_same, any_past}
use Rattle.automata.specs.Automaton.{Automaton}
use Rattle.sets.specs.Sets.{has, without, union, subsets}
use Rattle.sets.proofs.Members.{has_out, without_lt, union_past}
use Rattle.sets.proofs.Subsets.{subsets_past}
use Rattle.ncsb.specs.Lines.{targets, entering, reachable_N, reachable_CS, safe_stays, not_leaving, no_dead_end, followed}
use Rattle.ncsb.specs.Moves.{Moves, Spread}
use Rattle.ncsb.specs.Step.{Small}
use Rattle.ncsb.specs.Successors.{initial_for, initial_free, initials, leaving, free, asks, blocked_by, blocked, successor_by, successor_for, successors}
use Rattle.ncsb.specs.declared.Quadruple.{Quadruple}
use Rattle.ncsb.proofs.Targets.{targets_small}

-- the second reading of a pattern has the first's sets, and room for more states: for the step, and for initial quadruples
pub record Widens (d e : Moves) : Type 0 where
  pub states : d.states ≤ e.states
  pub move : (q c : ℕ) → e.move q c ≡ d.move q c
  pub marks : e.marks ≡ d.marks
  pub inner : e.inner ≡ d.inner

pub record WidensStarts (d e : Moves) : Type 0 where
  pub states : d.states ≤ e.states
  pub starts : e.starts ≡ d.starts
  pub marks : e.marks ≡ d.marks
  pub inner : e.inner ≡ d.inner

-- THE STEP from a quadruple of sets of states
module _ {a : Automaton} {d e : Moves} (sp : Spread a d) (w : Widens d e) (x : Quadruple) (small : Small d.states x) (c : ℕ) where
  targets_same : (s : ℕ) → s < 2 ^ d.states → targets e s c ≡ targets d s c
  unfolding targets
  targets_same s l =
      union_past d.states e.states s (λ q. e.move q c) l w.states
      ∙ ap (union d.states s) (fun_ext (λ q. w.move q c))

  reachable_N_same : reachable_N e x c ≡ reachable_N d x c
  unfolding reachable_N
  reachable_N_same = rw (targets_same x.N small.small_N, w.inner) refl

  entering_same : entering e x c ≡ entering d x c
  unfolding entering
  entering_same = rw (targets_same x.N small.small_N, w.inner) refl

  safe_same : safe_stays e x c ≡ safe_stays d x c
  unfolding safe_stays
  safe_same = targets_same x.S small.small_S

  staying_same : not_leaving e x c ≡ not_leaving d x c
  unfolding not_leaving targets
  staying_same =
      rw w.marks (targets_same (without x.C d.marks) (without_lt d.states x.C d.marks small.small_C))

  leaving_same : leaving e x c ≡ leaving d x c
  unfolding leaving targets
  leaving_same =
      rw w.marks
      (targets_same (bit_and x.C d.marks) (lt_of_le_of_lt (and_le_l x.C d.marks) small.small_C))

  tracked_same : reachable_CS e x c ≡ reachable_CS d x c
  unfolding reachable_CS
  tracked_same =
      let both = or_lt d.states x.C x.S small.small_C small.small_S in
      rw (entering_same, targets_same (bit_or x.C x.S) both) refl

  free_same : free e x c ≡ free d x c
  unfolding free
  free_same = rw (entering_same, leaving_same, staying_same, safe_same, w.marks) refl

  free_small : free d x c < 2 ^ d.states
  unfolding free entering leaving
  free_small =
      without_lt d.states (bit_or (entering d x c) (leaving d x c)) (bit_or d.marks (bit_or (safe_stays d x c) (not_leaving d x c)))
      (or_lt d.states (entering d x c) (leaving d x c)
      (lt_of_le_of_lt (and_le_l (targets d x.N c) d.inner) (targets_small sp x.N c))
      (targets_small sp (bit_and x.C d.marks) c))

  no_dead_end_same : no_dead_end e x c ≡ no_dead_end d x c
  unfolding no_dead_end
  no_dead_end_same =
      let rest = without x.C d.marks in
      rw w.marks
      (ap not
      (any_past d.states e.states (λ q. has rest q && eqb (e.move q c) 0) w.states
      (λ q l. and_false_l (eqb (e.move q c) 0) (has_out d.states rest q (without_lt d.states x.C d.marks small.small_C) l))
      ∙ any_same d.states (λ q. has rest q && eqb (e.move q c) 0) (λ q. has rest q && eqb (d.move q c) 0)
      (λ q l. rw (w.move q c) refl)))

  blocked_same : blocked e x c ≡ blocked d x c
  unfolding blocked blocked_by asks
  blocked_same = rw (no_dead_end_same, safe_same, staying_same, w.marks) refl

  successor_same : (f : ℕ) → successor_for e x c f ≡ successor_for d x c f
  unfolding successor_for successor_by asks followed
  successor_same f = rw (safe_same, tracked_same, reachable_N_same, targets_same x.B small.small_B) refl

  pub successors_same : successors e x c ≡ successors d x c
  unfolding successors
  successors_same =
      rw (blocked_same, free_same, subsets_past d.states e.states (free d x c) free_small w.states)
      (ap (λ (g : ℕ → Quadruple). cond (blocked d x c) [] (map g (subsets d.states (free d x c)))) (fun_ext successor_same))

-- INITIAL QUADRUPLES
module _ {a : Automaton} {d e : Moves} (sp : Spread a d) (w : WidensStarts d e) where
  initial_free_same : initial_free e ≡ initial_free d
  unfolding initial_free
  initial_free_same = rw (w.starts, w.inner, w.marks) refl

  initial_free_small : initial_free d < 2 ^ d.states
  unfolding initial_free
  initial_free_small =
      without_lt d.states (bit_and d.starts d.inner) d.marks
      (lt_of_le_of_lt (and_le_l d.starts d.inner) sp.starts_small)

  initial_same : (f : ℕ) → initial_for e f ≡ initial_for d f
  unfolding initial_for
  initial_same f = rw (w.starts, w.inner) refl

  pub initials_same : initials e ≡ initials d
  unfolding initials
  initials_same =
      rw (initial_free_same, subsets_past d.states e.states (initial_free d) initial_free_small w.states)
      (ap (λ (g : ℕ → Quadruple). map g (subsets d.states (initial_free d))) (fun_ext initial_same))
