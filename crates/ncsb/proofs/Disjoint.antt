-- Lemma 1, section 4.3 of "Complementing Semi-Deterministic Büchi Automata": a word that the pattern takes has no accepting run of quadruples. Assumes nothing.
use mathlib.Core.Path.{◌≡◌, refl}
use mathlib.Core.Bool.{true, ◌||◌}
use mathlib.Core.Logic.{inl, inr}
use Prim.Native.Nat.{ℕ, zero, suc}
use Rattle.basics.proofs.Booleans.{either, clash, and_make, or_l, or_r, or_true}
use Rattle.basics.proofs.Upward.{upward}
use Rattle.automata.specs.Automaton.{Automaton, Run, AcceptingRun, Takes}
use Rattle.sets.specs.Sets.{has}
use Rattle.ncsb.specs.Moves.{Moves, Split}
use Rattle.ncsb.specs.Step.{Leads, AcceptingNcsbRun}
use Rattle.ncsb.specs.declared.Quadruple.{Quadruple}
use Rattle.ncsb.proofs.Fine.{run_fine, run_unmarked}
use Rattle.ncsb.proofs.Breakpoint.{never_stays}

module _ {a : Automaton} {d : Moves} (s : Split a d) (w : ℕ → ℕ) (f : ℕ → Quadruple) (r : AcceptingNcsbRun a d w f) where
  -- a path is in N, C or S at each place
  followed :
      (run : ℕ → ℕ) → Run a w run → (i : ℕ) →
      (has (f i).N (run i) || (has (f i).C (run i) || has (f i).S (run i))) ≡ true
  unfolding Leads
  followed run p zero =
      elim (either (has d.inner (run 0))) [
        | inl e ↦ or_r (has (f 0).N (run 0)) ((r.begins.initial_CS (run 0)).1 (e, p.begins))
        | inr e ↦
            or_l (has (f 0).C (run 0) || has (f 0).S (run 0)) ((r.begins.initial_N (run 0)).1 (e, p.begins))
      ]
  followed run p (suc i) =
      let edge = p.goes_on i in
      let before = followed run p i in
      elim (either (has d.inner (run (suc i)))) [
        | inl e ↦
            or_r (has (f (suc i)).N (run (suc i)))
            (((r.goes_on i).reachable_CS (run (suc i))).1
            (elim (or_true (has (f i).N (run i)) (has (f i).C (run i) || has (f i).S (run i)) before) [
              | inl n ↦ inl (e, (run i, n, edge))
              | inr cs ↦
                  elim (or_true (has (f i).C (run i)) (has (f i).S (run i)) cs) [
                    | inl k ↦ inr (inl (run i, k, edge))
                    | inr k ↦ inr (inr (run i, k, edge))
                  ]
            ]))
        | inr e ↦
            elim (or_true (has (f i).N (run i)) (has (f i).C (run i) || has (f i).S (run i)) before) [
              | inl n ↦
                  or_l (has (f (suc i)).C (run (suc i)) || has (f (suc i)).S (run (suc i)))
                  (((r.goes_on i).reachable_N (run (suc i))).1 (e, (run i, n, edge)))
              | inr cs ↦ absurd (clash (s.closed (run i) (w i) (run (suc i)) ((run_fine r s i).inner (run i) cs) edge) e)
            ]
      ]

  -- in Q2 it is in C or S
  in_CS :
      (run : ℕ → ℕ) → Run a w run → (i : ℕ) → has d.inner (run i) ≡ true →
      (has (f i).C (run i) || has (f i).S (run i)) ≡ true
  in_CS run p i h =
      elim (or_true (has (f i).N (run i)) (has (f i).C (run i) || has (f i).S (run i)) (followed run p i)) [
        | inl n ↦ absurd (clash h ((run_fine r s i).outer (run i) n))
        | inr cs ↦ cs
      ]

  -- an accepting run is never in S
  not_safe : (run : ℕ → ℕ) → AcceptingRun a w run → (i : ℕ) → has (f i).S (run i) ≡ true → ⊥
  unfolding Leads
  not_safe run p i h =
      let (j, l, accepts) = p.accepting i in
      let mark = s.met w run p.is_run j accepts in
      let safe =
      upward (λ k. has (f k).S (run k) ≡ true) i h
      (λ k _ x. (r.goes_on k).safe_stays (run (suc k)) (run k, x, p.is_run.goes_on k)) j l in
      clash (and_make safe mark) (run_unmarked r j (run j))

  -- so it is in C from its first mark on
  in_C : (run : ℕ → ℕ) → AcceptingRun a w run → (i : ℕ) → has d.inner (run i) ≡ true → has (f i).C (run i) ≡ true
  in_C run p i h =
      elim (or_true (has (f i).C (run i)) (has (f i).S (run i)) (in_CS run p.is_run i h)) [
        | inl c ↦ c
        | inr x ↦ absurd (not_safe run p i x)
      ]

-- LEMMA 1: the complement does not accept a word that the pattern accepts
pub no_word_both :
    {a : Automaton} {d : Moves} → Split a d → (w : ℕ → ℕ) → Takes a w → (f : ℕ → Quadruple) → AcceptingNcsbRun a d w f → ⊥
no_word_both {a} {d} s w t f r =
    let run = t.run in
    let (i, l, accepts) = t.accepting_run.accepting 0 in
    let mark = s.met w run t.accepting_run.is_run i accepts in
    never_stays r (λ j q. (q ≡ run j) × (has d.inner q ≡ true))
    (λ j q h. rw h.0 (in_C s w f r run t.accepting_run j (rw h.0 at h.1)))
    (λ j p h.
    let edge : a.edge p (w j) (run (suc j)) ≡ true = rw h.0 (t.accepting_run.is_run.goes_on j) in
    (run (suc j), edge, (refl, s.closed p (w j) (run (suc j)) h.1 edge)))
    i (run i) (refl, (s.within (run i) mark).0)
