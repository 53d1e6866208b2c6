-- Every initial quadruple and every quadruple that follows another is fine: N in Q1, C and S apart in Q2, S without F, B in C. Assumes nothing.
use mathlib.Core.Path.{◌≡◌}
use mathlib.Core.Bool.{true, false, ◌&&◌, ◌||◌}
use mathlib.Core.Logic.{inl, inr}
use Prim.Native.Nat.{ℕ, zero, suc}
use Rattle.basics.proofs.Booleans.{or_l, or_r, same_or}
use Rattle.automata.specs.Automaton.{Automaton}
use Rattle.sets.specs.Sets.{has}
use Rattle.ncsb.specs.Moves.{Moves, Split}
use Rattle.ncsb.specs.Step.{Small, Leads, Start, Step, AcceptingNcsbRun, Fine}
use Rattle.ncsb.specs.declared.Quadruple.{Quadruple}

pub start_fine : {a : Automaton} {d : Moves} {x : Quadruple} → Start a d x → Fine d x
start_fine s =
    record {
      small = s.small;
      outer = λ q h. ((s.initial_N q).0 h).0;
      inner = λ q h. ((s.initial_CS q).0 h).0;
      disjoint = s.disjoint;
      unmarked = s.unmarked;
      tracked = λ q h. rw s.breakpoint at h;
    }

-- B is within C after each step, whether it was empty or not
pub step_tracked :
    {a : Automaton} {d : Moves} {x : Quadruple} {c : ℕ} {y : Quadruple} → Step a d x c y →
    (q : ℕ) → has y.B q ≡ true → has y.C q ≡ true
step_tracked {x} s q h =
    elim (same_or x.B 0) [
      | inl e ↦ rw (s.breakpoint_empty e) at h
      | inr e ↦ ((s.breakpoint_kept e q).0 h).0
    ]

-- C' and S' lie in Q2: an edge leads there from N, or from C or S, which lie in Q2 already
step_inner :
    {a : Automaton} {d : Moves} {x : Quadruple} {c : ℕ} {y : Quadruple} → Split a d → Fine d x → Step a d x c y →
    (q : ℕ) → (has y.C q || has y.S q) ≡ true → has d.inner q ≡ true
unfolding Leads
step_inner {x} {c} sl fine s q h =
    elim ((s.reachable_CS q).0 h) [
      | inl n ↦ n.0
      | inr (inl l) ↦ sl.closed l.0 c q (fine.inner l.0 (or_l (has x.S l.0) l.1)) l.2
      | inr (inr l) ↦ sl.closed l.0 c q (fine.inner l.0 (or_r (has x.C l.0) l.1)) l.2
    ]

pub step_fine :
    {a : Automaton} {d : Moves} {x : Quadruple} {c : ℕ} {y : Quadruple} → Split a d → Fine d x → Step a d x c y → Fine d y
step_fine sl fine s =
    record {
      small = s.small;
      outer = λ q h. ((s.reachable_N q).0 h).0;
      inner = step_inner sl fine s;
      disjoint = s.disjoint;
      unmarked = s.unmarked;
      tracked = step_tracked s;
    }

-- along a run: it holds sets of states, no safe state is a mark, and, by the laws of Q2, it is fine at each place
module _ {a : Automaton} {d : Moves} {w : ℕ → ℕ} {f : ℕ → Quadruple} (r : AcceptingNcsbRun a d w f) where
  pub run_small : (i : ℕ) → Small d.states (f i)
  run_small zero = r.begins.small
  run_small (suc i) = (r.goes_on i).small

  pub run_unmarked : (i q : ℕ) → (has (f i).S q && has d.marks q) ≡ false
  run_unmarked zero = r.begins.unmarked
  run_unmarked (suc i) = (r.goes_on i).unmarked

  pub run_fine : Split a d → (i : ℕ) → Fine d (f i)
  run_fine sl zero = start_fine r.begins
  run_fine sl (suc i) = step_fine sl (run_fine sl i) (r.goes_on i)
