-- The system of quadruples: its equality is decided, its reached states are fine, and its accepting runs are those of section 3.2.
-- Assumes nothing.
use mathlib.Core.Path.{◌≡◌}
use mathlib.Core.Bool.{true, ◌&&◌}
use Prim.Native.Nat.{ℕ, zero, suc}
use lib.Dec.{eqb}
use Rattle.basics.proofs.Booleans.{and_l, and_r, and_make, eqb_eq, eq_eqb, eqb_self}
use Rattle.automata.specs.Automaton.{Automaton}
use Rattle.automata.specs.System.{Decides, Reached, at_start, onward, AcceptingSystemRun, state_at, Distinct}
use Rattle.ncsb.specs.Moves.{Moves, Spread, Split}
use Rattle.ncsb.specs.Step.{Fine, AcceptingNcsbRun}
use Rattle.ncsb.specs.Successors.{quadruple, same, accepting, initials, ncsb}
use Rattle.ncsb.specs.declared.Quadruple.{Quadruple}
use Rattle.ncsb.proofs.Fine.{start_fine, step_fine, run_small}
use Rattle.ncsb.proofs.Initials.{initials_distinct, member_start, start_member}
use Rattle.ncsb.proofs.Parting.{same_parts}
use Rattle.ncsb.proofs.Successors.{member_step, step_member}

same_means : (x y : Quadruple) → same x y ≡ true → x ≡ y
unfolding same
same_means x y h =
    let nc = and_l (eqb x.S y.S && eqb x.B y.B) h in
    let sb = and_r (eqb x.N y.N && eqb x.C y.C) h in
    same_parts (eqb_eq x.N y.N (and_l (eqb x.C y.C) nc))
    (eqb_eq x.C y.C (and_r (eqb x.N y.N) nc)) (eqb_eq x.S y.S (and_l (eqb x.B y.B) sb))
    (eqb_eq x.B y.B (and_r (eqb x.S y.S) sb))

same_itself : (x : Quadruple) → same x x ≡ true
unfolding same
same_itself x =
    and_make (and_make (eqb_self x.N) (eqb_self x.C)) (and_make (eqb_self x.S) (eqb_self x.B))

pub decides : (d : Moves) → Decides (ncsb d)
unfolding ncsb
decides d = record { same_eq = same_means; same_self = same_itself }

-- no initial quadruple stands in its list twice
pub initials_apart : (d : Moves) → Distinct (ncsb d) (initials d)
unfolding state_at ncsb
initials_apart d = record { apart = initials_distinct d (quadruple 0 0 0 0) }

module _ {a : Automaton} {d : Moves} (sp : Spread a d) (sl : Split a d) where
  -- what the system reaches is fine
  pub reached_fine : {x : Quadruple} → Reached (ncsb d) x → Fine d x
  unfolding ncsb
  reached_fine (at_start m) = start_fine (member_start sp m)
  reached_fine (onward c r l m) = step_fine sl (reached_fine r) (member_step sp (reached_fine r).small c m)

  system_fine : {w : ℕ → ℕ} {run : ℕ → Quadruple} → AcceptingSystemRun (ncsb d) w run → (i : ℕ) → Fine d (run i)
  unfolding ncsb
  system_fine {w} r zero = start_fine (member_start sp r.begins)
  system_fine {w} r (suc i) = step_fine sl (system_fine r i) (member_step sp (system_fine r i).small (w i) (r.goes_on i))

  pub system_run→ncsb_run : {w : ℕ → ℕ} {run : ℕ → Quadruple} → AcceptingSystemRun (ncsb d) w run → AcceptingNcsbRun a d w run
  unfolding ncsb accepting
  system_run→ncsb_run {w} {run} r =
      record {
        begins = member_start sp r.begins;
        goes_on = λ i. member_step sp (system_fine r i).small (w i) (r.goes_on i);
        accepting = λ i. let k = r.accepting i in (k.0, k.1, eqb_eq (run k.0).B 0 k.2);
      }

  pub ncsb_run→system_run : {w : ℕ → ℕ} {run : ℕ → Quadruple} → AcceptingNcsbRun a d w run → AcceptingSystemRun (ncsb d) w run
  unfolding ncsb accepting
  ncsb_run→system_run {w} {run} r =
      record {
        begins = start_member sp r.begins;
        goes_on = λ i. step_member sp (run_small r i) (w i) (r.goes_on i);
        accepting = λ i. let k = r.accepting i in (k.0, k.1, eq_eqb k.2);
      }
