-- Lemma 2, section 4.3 of "Complementing Semi-Deterministic Büchi Automata", for lassos: a lasso that the pattern does not take has an accepting run of quadruples. Assumes nothing.
-- A mark that a path met after more steps than the product has nodes would lie on a cycle of the product.
use mathlib.Core.Path.{◌≡◌}
use mathlib.Core.Bool.{true, false}
use mathlib.Core.List.{List}
use Prim.Native.Nat.{ℕ, ◌≤◌}
use lib.ListN.{length}
use Rattle.basics.proofs.Booleans.{not_both}
use Rattle.automata.specs.Automaton.{Automaton, Takes, Closed}
use Rattle.automata.specs.Lasso.{letter_at}
use Rattle.automata.specs.Decision.{nodes}
use Rattle.automata.proofs.Cycles.{cycle_takes}
use Rattle.automata.proofs.Traces.{reached, trace}
use Rattle.automata.proofs.Recurring.{late_cycle}
use Rattle.sets.specs.Sets.{has}
use Rattle.sets.proofs.Members.{has_lt}
use Rattle.ncsb.specs.Moves.{Moves, Spread, Split}
use Rattle.ncsb.specs.Step.{AcceptingNcsbRun}
use Rattle.ncsb.specs.declared.Quadruple.{Quadruple}
use Rattle.ncsb.proofs.Rational.{rational, rational_run}

-- no mark stands on a path after that many steps, where the lasso is not taken
quiet :
    {a : Automaton} {d : Moves} → Spread a d → Split a d → Closed a → (u v : List ℕ) → 1 ≤ length v →
    (Takes a (letter_at u v) → ⊥) → (i q : ℕ) → reached a (letter_at u v) i q ≡ true → (k : ℕ) →
    nodes a u v ≤ k → has d.marks (trace a (letter_at u v) i q k) ≡ false
quiet {a} {d} spread split closed u v o rejects i q h k m =
    let r = trace a (letter_at u v) i q k in
    not_both (has d.marks r)
    (λ mark.
    let l = rw spread.states at (has_lt d.states d.marks r spread.marks_small mark) in
    rejects (cycle_takes closed o (late_cycle closed u v o i q k h m l (split.within r mark).1)))

-- LEMMA 2: the complement accepts a word that the pattern does not accept
pub run_exists :
    {a : Automaton} {d : Moves} → Spread a d → Split a d → Closed a → (u v : List ℕ) → 1 ≤ length v →
    (Takes a (letter_at u v) → ⊥) → (f : ℕ → Quadruple) × AcceptingNcsbRun a d (letter_at u v) f
run_exists {a} {d} spread split closed u v o rejects =
    let n = nodes a u v in (
      rational a d (letter_at u v) n,
      rational_run spread split closed (letter_at u v) n (quiet spread split closed u v o rejects),
    )
