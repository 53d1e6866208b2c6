-- Lemma 3, section 4.3 of "Complementing Semi-Deterministic Büchi Automata": two accepting runs of quadruples over one word are the same at every place. Assumes nothing.
use mathlib.Core.Path.{◌≡◌, sym, ◌∙◌, subst}
use mathlib.Core.Bool.{true, ◌||◌}
use mathlib.Core.Logic.{◌⊎◌, inl, inr}
use Prim.Native.Nat.{ℕ, zero, suc}
use Rattle.basics.proofs.Booleans.{and_make, or_l, or_r, or_true, clash, not_both, same_or}
use Rattle.automata.specs.Automaton.{Automaton}
use Rattle.sets.specs.Sets.{has}
use Rattle.sets.proofs.Members.{ext_both}
use Rattle.ncsb.specs.Moves.{Moves}
use Rattle.ncsb.specs.Step.{Leads, AcceptingNcsbRun}
use Rattle.ncsb.specs.declared.Quadruple.{Quadruple}
use Rattle.ncsb.proofs.Fine.{run_small, run_unmarked}
use Rattle.ncsb.proofs.Breakpoint.{never_stays}

-- what is in a set of one run is in that of the other
module _ {a : Automaton} {d : Moves} {w : ℕ → ℕ} {f g : ℕ → Quadruple} (r : AcceptingNcsbRun a d w f) (s : AcceptingNcsbRun a d w g) where
  -- N tracks Q1 and is determined
  same_N : (i q : ℕ) → has (f i).N q ≡ true → has (g i).N q ≡ true
  unfolding Leads
  same_N zero q h = (s.begins.initial_N q).1 ((r.begins.initial_N q).0 h)
  same_N (suc i) q h =
      let (out, (p, n, e)) = ((r.goes_on i).reachable_N q).0 h in
      ((s.goes_on i).reachable_N q).1 (out, (p, same_N i p n, e))

  -- C and S together track Q2 and are determined
  same_CS : (i q : ℕ) → (has (f i).C q || has (f i).S q) ≡ true → (has (g i).C q || has (g i).S q) ≡ true
  unfolding Leads
  same_CS zero q h = (s.begins.initial_CS q).1 ((r.begins.initial_CS q).0 h)
  same_CS (suc i) q h =
      ((s.goes_on i).reachable_CS q).1
      (elim (((r.goes_on i).reachable_CS q).0 h) [
        | inl n ↦ inl (n.0, (n.1.0, same_N i n.1.0 n.1.1, n.1.2))
        | inr (inl l) ↦ same_on l.0 (same_CS i l.0 (or_l (has (f i).S l.0) l.1)) l.2
        | inr (inr l) ↦ same_on l.0 (same_CS i l.0 (or_r (has (f i).C l.0) l.1)) l.2
      ])
    where
      same_on :
          (p : ℕ) → (has (g i).C p || has (g i).S p) ≡ true → a.edge p (w i) q ≡ true →
          ((has d.inner q ≡ true) × Leads a (g i).N (w i) q) ⊎ (Leads a (g i).C (w i) q ⊎ Leads a (g i).S (w i) q)
      same_on p cs e =
          elim (or_true (has (g i).C p) (has (g i).S p) cs) [
            | inl k ↦ inr (inl (p, k, e))
            | inr k ↦ inr (inr (p, k, e))
          ]

  -- no state is in C of one run and safe in the other: there its path meets no mark, so here it would stay in C for ever
  no_split : (i q : ℕ) → has (f i).C q ≡ true → has (g i).S q ≡ true → ⊥
  unfolding Leads
  no_split i q c x =
      never_stays r (λ j p. (has (f j).C p ≡ true) × (has (g j).S p ≡ true)) (λ j p h. h.0)
      (λ j p h.
      let free = not_both (has d.marks p) (λ m. clash (and_make h.1 m) (run_unmarked s j p)) in
      let (t, e) = (r.goes_on j).no_dead_end p h.0 free in
      (t, e, ((r.goes_on j).not_leaving p t h.0 free e, (s.goes_on j).safe_stays t (p, h.1, e))))
      i q (c, x)

  same_C : (i q : ℕ) → has (f i).C q ≡ true → has (g i).C q ≡ true
  same_C i q h =
      elim (or_true (has (g i).C q) (has (g i).S q) (same_CS i q (or_l (has (f i).S q) h))) [
        | inl c ↦ c
        | inr x ↦ absurd (no_split i q h x)
      ]

module _ {a : Automaton} {d : Moves} {w : ℕ → ℕ} {f g : ℕ → Quadruple} (r : AcceptingNcsbRun a d w f) (s : AcceptingNcsbRun a d w g) where
  same_S : (i q : ℕ) → has (f i).S q ≡ true → has (g i).S q ≡ true
  same_S i q h =
      elim (or_true (has (g i).C q) (has (g i).S q) (same_CS r s i q (or_r (has (f i).C q) h))) [
        | inl c ↦ absurd (no_split s r i q c h)
        | inr x ↦ x
      ]

  -- while B is not empty, it follows what it held within C
  same_B :
      (i : ℕ) → (f i).B ≡ (g i).B → ((g i).B ≡ 0 → ⊥) → (q : ℕ) → has (f (suc i)).B q ≡ true → has (g (suc i)).B q ≡ true
  unfolding Leads
  same_B i e n q h =
      let (c, (p, b, edge)) = ((r.goes_on i).breakpoint_kept (λ z. n (sym e ∙ z)) q).0 h in
      ((s.goes_on i).breakpoint_kept n q).1 (same_C r s (suc i) q c, (p, subst (λ (b : ℕ). has b p ≡ true) e b, edge))

module _ {a : Automaton} {d : Moves} {w : ℕ → ℕ} {f g : ℕ → Quadruple} (r : AcceptingNcsbRun a d w f) (s : AcceptingNcsbRun a d w g) where
  -- so the sets are equal
  equal_N : (i : ℕ) → (f i).N ≡ (g i).N
  equal_N i =
      ext_both d.states (f i).N (g i).N (run_small r i).small_N (run_small s i).small_N (λ q _. same_N r s i q)
      (λ q _. same_N s r i q)

  equal_C : (i : ℕ) → (f i).C ≡ (g i).C
  equal_C i =
      ext_both d.states (f i).C (g i).C (run_small r i).small_C (run_small s i).small_C (λ q _. same_C r s i q)
      (λ q _. same_C s r i q)

  equal_S : (i : ℕ) → (f i).S ≡ (g i).S
  equal_S i =
      ext_both d.states (f i).S (g i).S (run_small r i).small_S (run_small s i).small_S (λ q _. same_S r s i q)
      (λ q _. same_S s r i q)

  -- and B follows from C
  equal_B : (i : ℕ) → (f i).B ≡ (g i).B
  equal_B zero = r.begins.breakpoint ∙ equal_C 0 ∙ sym s.begins.breakpoint
  equal_B (suc i) =
      let e = equal_B i in
      elim (same_or (g i).B 0) [
        | inl none ↦
            (r.goes_on i).breakpoint_empty (e ∙ none) ∙ equal_C (suc i) ∙ sym ((s.goes_on i).breakpoint_empty none)
        | inr some ↦
            ext_both d.states (f (suc i)).B (g (suc i)).B (r.goes_on i).small.small_B (s.goes_on i).small.small_B
            (λ q _. same_B r s i e some q)
            (λ q _. same_B s r i (sym e) (λ x. some (sym e ∙ x)) q)
      ]

-- LEMMA 3: the complement is unambiguous
pub one_run :
    {a : Automaton} {d : Moves} → (w : ℕ → ℕ) (f g : ℕ → Quadruple) → AcceptingNcsbRun a d w f → AcceptingNcsbRun a d w g →
    (i : ℕ) → f i ≡ g i
one_run w f g r s i k =
    record { N = equal_N r s i k; C = equal_C r s i k; S = equal_S r s i k; B = equal_B r s i k }
