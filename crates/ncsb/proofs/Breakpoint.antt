-- No endless path stays in C along an accepting run of quadruples: its breakpoints would cease. Assumes nothing.
use mathlib.Core.Path.{◌≡◌}
use mathlib.Core.Bool.{true}
use Prim.Native.Nat.{ℕ, suc}
use Rattle.basics.proofs.Upward.{upward}
use Rattle.automata.specs.Automaton.{Automaton}
use Rattle.sets.specs.Sets.{has}
use Rattle.sets.proofs.Members.{has_nonzero}
use Rattle.ncsb.specs.Moves.{Moves}
use Rattle.ncsb.specs.Step.{Leads, AcceptingNcsbRun}
use Rattle.ncsb.specs.declared.Quadruple.{Quadruple}

module _ {a : Automaton} {d : Moves} {w : ℕ → ℕ} {f : ℕ → Quadruple} (r : AcceptingNcsbRun a d w f) (P : (place state : ℕ) → Type 0)
    (in_C : (i q : ℕ) → P i q → has (f i).C q ≡ true)
    (next : (i p : ℕ) → P i p → (q : ℕ) × (a.edge p (w i) q ≡ true) × P (suc i) q) where
  -- once in B, always in B
  held : (i : ℕ) → ((q : ℕ) × P i q × (has (f i).B q ≡ true)) → (q : ℕ) × P (suc i) q × (has (f (suc i)).B q ≡ true)
  unfolding Leads
  held i (p, h, b) =
      let (q, e, k) = next i p h in
      (q, k, ((r.goes_on i).breakpoint_kept (has_nonzero (f i).B p b) q).1 (in_C (suc i) q k, (p, b, e)))

  -- a breakpoint puts all of C into B
  filled : (i : ℕ) → (f i).B ≡ 0 → ((q : ℕ) × P i q) → (q : ℕ) × P (suc i) q × (has (f (suc i)).B q ≡ true)
  filled i z (p, h) =
      let (q, e, k) = next i p h in
      (q, k, rw ((r.goes_on i).breakpoint_empty z) (in_C (suc i) q k))

  -- states in C, each of which an edge leads from to one at the next place: there are none
  pub never_stays : (i q : ℕ) → P i q → ⊥
  never_stays i q h =
      let (j, l, z) = r.accepting i in
      let at_j = upward (λ k. (p : ℕ) × P k p) i (q, h) (λ k _ x. let (s, e, y) = next k x.0 x.1 in (s, y)) j l in
      let (k, m, z') = r.accepting (suc j) in
      let (s, x, b) =
      upward (λ k. (p : ℕ) × P k p × (has (f k).B p ≡ true)) (suc j) (filled j z at_j) (λ k _. held k) k m in
      has_nonzero (f k).B s b z'
