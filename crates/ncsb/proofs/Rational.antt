-- The rational run of section 4.2 of "Complementing Semi-Deterministic Büchi Automata", for a word over which no path of a reached state meets a mark after a bounded
-- number of steps: N tracks Q1, S holds the states of Q2 whose path meets no mark, C the others. It is accepting. Assumes nothing.
use mathlib.Core.Path.{◌≡◌, refl, sym, ◌∙◌, ap}
use mathlib.Core.Bool.{Bool, true, false, ◌&&◌, ◌||◌, not, cond}
use mathlib.Core.Logic.{◌⊎◌, inl, inr, ◌↔◌}
use Prim.Native.Nat.{ℕ, zero, suc, ◌+◌, ◌≤◌, ◌<◌, ◌^◌}
use native.Mathlib.Omega.{arith}
use native.Mathlib.Nat.{add-zero, add-suc}
use native.Mathlib.Numerals.{add-one}
use lib.Dec.{eqb}
use Rattle.basics.specs.Bounded.{each, any}
use Rattle.basics.proofs.Booleans.{either, clash, and_l, and_r, and_make, or_l, or_r, or_true, not_false, true_not, not_both, eqb_eq, eqb_ne, eq_eqb, ne_eqb, below_or}
use Rattle.basics.proofs.Bounded.{each_all, each_make, any_find, any_make, search_to}
use Rattle.automata.specs.Automaton.{Automaton, Closed}
use Rattle.automata.proofs.Traces.{reached, next, trace, reached_back, reached_on, reached_inside, next_edge, next_found, trace_add, trace_before}
use Rattle.sets.specs.Sets.{has, set_of}
use Rattle.sets.proofs.Members.{set_of_lt, has_lt, empty, set_of_back, set_of_make}
use Rattle.ncsb.specs.Moves.{Moves, Spread, Split}
use Rattle.ncsb.specs.Step.{Small, Leads, Start, Step, AcceptingNcsbRun}
use Rattle.ncsb.specs.declared.Quadruple.{Quadruple}
use Rattle.ncsb.proofs.Fine.{step_tracked}

-- no mark stands on the path of the state within the bound
safe : Automaton → Moves → (word : ℕ → ℕ) → (bound place state : ℕ) → Bool
safe a d w n i q = each n (λ k. not (has d.marks (trace a w i q k)))

rational_N : Automaton → Moves → (word : ℕ → ℕ) → (place : ℕ) → ℕ
rational_N a d w i = set_of d.states (λ q. reached a w i q && not (has d.inner q))

rational_C : Automaton → Moves → (word : ℕ → ℕ) → (bound place : ℕ) → ℕ
rational_C a d w n i = set_of d.states (λ q. (reached a w i q && has d.inner q) && not (safe a d w n i q))

rational_S : Automaton → Moves → (word : ℕ → ℕ) → (bound place : ℕ) → ℕ
rational_S a d w n i = set_of d.states (λ q. (reached a w i q && has d.inner q) && safe a d w n i q)

-- what B holds behind a B that is not empty
followers : Automaton → Moves → (letter old_B new_C : ℕ) → ℕ
followers a d c b y = set_of d.states (λ q. has y q && any d.states (λ p. has b p && a.edge p c q))

rational_B : Automaton → Moves → (word : ℕ → ℕ) → (bound place : ℕ) → ℕ
rational_B a d w n zero = rational_C a d w n 0
rational_B a d w n (suc i) =
    let b = rational_B a d w n i in
    let c = rational_C a d w n (suc i) in cond (eqb b 0) c (followers a d (w i) b c)

pub rational : Automaton → Moves → (word : ℕ → ℕ) → (bound place : ℕ) → Quadruple
rational a d w n i =
    record {
      N = rational_N a d w i;
      C = rational_C a d w n i;
      S = rational_S a d w n i;
      B = rational_B a d w n i;
    }

followers_back :
    (a : Automaton) (d : Moves) (c b y q : ℕ) → has (followers a d c b y) q ≡ true → (has y q ≡ true) × Leads a b c q
unfolding followers Leads
followers_back a d c b y q h =
    let e = set_of_back d.states (λ q. has y q && any d.states (λ p. has b p && a.edge p c q)) q h in
    let (p, l, t) =
    any_find d.states (λ p. has b p && a.edge p c q) (and_r (has y q) e) in
    (and_l (any d.states (λ p. has b p && a.edge p c q)) e, (p, and_l (a.edge p c q) t, and_r (has b p) t))

followers_make :
    (a : Automaton) (d : Moves) (c b y q : ℕ) → q < d.states → b < 2 ^ d.states → has y q ≡ true → Leads a b c q →
    has (followers a d c b y) q ≡ true
unfolding followers Leads
followers_make a d c b y q l m h (p, x, e) =
    set_of_make d.states (λ q. has y q && any d.states (λ p. has b p && a.edge p c q)) q l
    (and_make h (any_make d.states (λ p. has b p && a.edge p c q) p (has_lt d.states b p m x) (and_make x e)))

module _ {a : Automaton} {d : Moves} (spread : Spread a d) (split : Split a d) (closed : Closed a) (w : ℕ → ℕ) (n : ℕ)
    (quiet : (i q : ℕ) → reached a w i q ≡ true → (k : ℕ) → n ≤ k → has d.marks (trace a w i q k) ≡ false) where
  -- short names for what the section speaks of
  abbrev marked : (place state steps : ℕ) → Bool
  marked i q k = has d.marks (trace a w i q k)

  abbrev safe_at : (place state : ℕ) → Bool
  safe_at = safe a d w n

  abbrev N_at : (place : ℕ) → ℕ
  N_at = rational_N a d w

  abbrev C_at : (place : ℕ) → ℕ
  C_at = rational_C a d w n

  abbrev S_at : (place : ℕ) → ℕ
  S_at = rational_S a d w n

  abbrev B_at : (place : ℕ) → ℕ
  B_at = rational_B a d w n

  below_states : (i q : ℕ) → reached a w i q ≡ true → q < d.states
  below_states i q h = rw spread.states (reached_inside closed w i q h)

  mark_inside : (q : ℕ) → has d.marks q ≡ true → q < a.states
  mark_inside q h = rw spread.states at (has_lt d.states d.marks q spread.marks_small h)

  -- in Q2 the path of a state is the path of its target
  trace_target :
      (i p q k : ℕ) → has d.inner p ≡ true → a.edge p (w i) q ≡ true → trace a w i p (suc k) ≡ trace a w (suc i) q k
  unfolding trace
  trace_target i p q k h e =
      let same = split.single p (w i) (next a (w i) p) q h (next_edge closed w (w i) p (next_found closed w (w i) p q e)) e in
      ap (λ (r : ℕ). trace a w (suc i) r k) same

  -- SAFE: the path meets no mark at all
  safe_all : (i q : ℕ) → reached a w i q ≡ true → safe_at i q ≡ true → (k : ℕ) → marked i q k ≡ false
  unfolding safe
  safe_all i q h s k =
      elim (below_or k n) [
        | inl e ↦ true_not (marked i q k) (each_all n _ s k e)
        | inr e ↦ quiet i q h k e
      ]

  safe_make : (i q : ℕ) → ((k : ℕ) → marked i q k ≡ false) → safe_at i q ≡ true
  unfolding safe
  safe_make i q h = each_make n _ (λ k l. not_false (h k))

  unsafe_find : (i q : ℕ) → safe_at i q ≡ false → (k : ℕ) × (marked i q k ≡ true)
  unfolding safe
  unsafe_find i q h =
      elim (search_to n (marked i q)) [
        | inl (k, l, e) ↦ (k, e)
        | inr none ↦ absurd (clash (each_make n _ (λ k l. not_false (none k l))) h)
      ]

  -- MEMBERS of the four sets
  N_back : (i q : ℕ) → has (N_at i) q ≡ true → (reached a w i q ≡ true) × (has d.inner q ≡ false)
  unfolding rational_N
  N_back i q h =
      let e = set_of_back d.states _ q h in
      (and_l (not (has d.inner q)) e, true_not (has d.inner q) (and_r (reached a w i q) e))

  N_make : (i q : ℕ) → reached a w i q ≡ true → has d.inner q ≡ false → has (N_at i) q ≡ true
  unfolding rational_N
  N_make i q h t = set_of_make d.states _ q (below_states i q h) (and_make h (not_false t))

  C_back :
      (i q : ℕ) → has (C_at i) q ≡ true →
      (reached a w i q ≡ true) × (has d.inner q ≡ true) × (safe_at i q ≡ false)
  unfolding rational_C
  C_back i q h =
      let e = set_of_back d.states _ q h in
      let both = and_l (not (safe_at i q)) e in (
        and_l (has d.inner q) both,
        and_r (reached a w i q) both,
        true_not (safe_at i q) (and_r (reached a w i q && has d.inner q) e),
      )

  C_make :
      (i q : ℕ) → reached a w i q ≡ true → has d.inner q ≡ true → safe_at i q ≡ false → has (C_at i) q ≡ true
  unfolding rational_C
  C_make i q h t s = set_of_make d.states _ q (below_states i q h) (and_make (and_make h t) (not_false s))

  S_back :
      (i q : ℕ) → has (S_at i) q ≡ true →
      (reached a w i q ≡ true) × (has d.inner q ≡ true) × (safe_at i q ≡ true)
  unfolding rational_S
  S_back i q h =
      let e = set_of_back d.states _ q h in
      let both = and_l (safe_at i q) e in (
        and_l (has d.inner q) both,
        and_r (reached a w i q) both,
        and_r (reached a w i q && has d.inner q) e,
      )

  S_make :
      (i q : ℕ) → reached a w i q ≡ true → has d.inner q ≡ true → safe_at i q ≡ true → has (S_at i) q ≡ true
  unfolding rational_S
  S_make i q h t s = set_of_make d.states _ q (below_states i q h) (and_make (and_make h t) s)

  CS_back :
      (i q : ℕ) → (has (C_at i) q || has (S_at i) q) ≡ true → (reached a w i q ≡ true) × (has d.inner q ≡ true)
  CS_back i q h =
      elim (or_true (has (C_at i) q) (has (S_at i) q) h) [
        | inl c ↦ let x = C_back i q c in (x.0, x.1)
        | inr s ↦ let x = S_back i q s in (x.0, x.1)
      ]

  CS_make :
      (i q : ℕ) → reached a w i q ≡ true → has d.inner q ≡ true → (has (C_at i) q || has (S_at i) q) ≡ true
  CS_make i q h t =
      elim (either (safe_at i q)) [
        | inl s ↦ or_r (has (C_at i) q) (S_make i q h t s)
        | inr s ↦ or_l (has (S_at i) q) (C_make i q h t s)
      ]

  -- together they hold the reached states
  all_make : (i q : ℕ) → reached a w i q ≡ true → (has (N_at i) q || (has (C_at i) q || has (S_at i) q)) ≡ true
  all_make i q h =
      elim (either (has d.inner q)) [
        | inl t ↦ or_r (has (N_at i) q) (CS_make i q h t)
        | inr t ↦ or_l (has (C_at i) q || has (S_at i) q) (N_make i q h t)
      ]

  rational_disjoint : (i q : ℕ) → (has (C_at i) q && has (S_at i) q) ≡ false
  rational_disjoint i q =
      not_both (has (C_at i) q && has (S_at i) q)
      (λ h. clash (S_back i q (and_r (has (C_at i) q) h)).2 (C_back i q (and_l (has (S_at i) q) h)).2)

  rational_unmarked : (i q : ℕ) → (has (S_at i) q && has d.marks q) ≡ false
  unfolding trace
  rational_unmarked i q =
      not_both (has (S_at i) q && has d.marks q)
      (λ h.
      let (x, t, s) = S_back i q (and_l (has d.marks q) h) in
      clash (and_r (has (S_at i) q) h) (safe_all i q x s 0))

  B_small : (i : ℕ) → B_at i < 2 ^ d.states
  unfolding rational_B rational_C followers
  B_small zero = set_of_lt d.states _
  B_small (suc i) =
      elim (either (eqb (B_at i) 0)) [
        | inl e ↦ rw e (set_of_lt d.states _)
        | inr e ↦ rw e (set_of_lt d.states _)
      ]

  rational_small : (i : ℕ) → Small d.states (rational a d w n i)
  unfolding rational rational_N rational_C rational_S
  rational_small i =
      record {
        small_N = set_of_lt d.states _;
        small_C = set_of_lt d.states _;
        small_S = set_of_lt d.states _;
        small_B = B_small i;
      }

  -- THE BREAKPOINT
  B_empty : (i : ℕ) → B_at i ≡ 0 → B_at (suc i) ≡ C_at (suc i)
  unfolding rational_B
  B_empty i z = let e : eqb (B_at i) 0 ≡ true = eq_eqb z in rw e

  B_kept :
      (i : ℕ) → (B_at i ≡ 0 → ⊥) → (q : ℕ) →
      (has (B_at (suc i)) q ≡ true) ↔ ((has (C_at (suc i)) q ≡ true) × Leads a (B_at i) (w i) q)
  unfolding Leads rational_B
  B_kept i z q =
      let e : eqb (B_at i) 0 ≡ false = ne_eqb (B_at i) 0 z in
      rw e (
        followers_back a d (w i) (B_at i) (C_at (suc i)) q,
        (λ h.
            followers_make a d (w i) (B_at i) (C_at (suc i)) q
            (below_states (suc i) q (C_back (suc i) q h.0).0) (B_small i) h.0 h.1),
      )

  -- THE STEP
  safe_stays :
      (i p q : ℕ) → has (S_at i) p ≡ true → a.edge p (w i) q ≡ true → has (S_at (suc i)) q ≡ true
  safe_stays i p q h e =
      let (x, t, s) = S_back i p h in
      S_make (suc i) q (reached_on closed w i p q x e) (split.closed p (w i) q t e)
      (safe_make (suc i) q (λ k. rw (trace_target i p q k t e) at (safe_all i p x s (suc k))))

  -- a state outside the marks is safe if its target is
  safe_before :
      (i p q : ℕ) → has d.inner p ≡ true → has d.marks p ≡ false → a.edge p (w i) q ≡ true →
      ((k : ℕ) → marked (suc i) q k ≡ false) → safe_at i p ≡ true
  unfolding trace
  safe_before i p q t m e h = safe_make i p go
    where
      go : (k : ℕ) → marked i p k ≡ false
      go zero = m
      go (suc k) = rw (trace_target i p q k t e) (h k)

  not_leaving :
      (i p q : ℕ) → has (C_at i) p ≡ true → has d.marks p ≡ false → a.edge p (w i) q ≡ true →
      has (C_at (suc i)) q ≡ true
  not_leaving i p q h m e =
      let (x, t, s) = C_back i p h in
      let y = reached_on closed w i p q x e in
      let r = split.closed p (w i) q t e in
      C_make (suc i) q y r (not_both (safe_at (suc i) q) (λ v. clash (safe_before i p q t m e (safe_all (suc i) q y v)) s))

  no_dead_end :
      (i p : ℕ) → has (C_at i) p ≡ true → has d.marks p ≡ false → (q : ℕ) × (a.edge p (w i) q ≡ true)
  unfolding trace
  no_dead_end i p h m = go (unsafe_find i p (C_back i p h).2)
    where
      go : (k : ℕ) × (marked i p k ≡ true) → (q : ℕ) × (a.edge p (w i) q ≡ true)
      go (zero, e) = absurd (clash e m)
      go (suc k, e) = (
        next a (w i) p,
        next_edge closed w (w i) p
            (trace_before closed w (suc i) (next a (w i) p) 0 k (omega arith) (mark_inside (trace a w (suc i) (next a (w i) p) k) e)),
      )

  rational_start : Start a d (rational a d w n 0)
  unfolding rational rational_B reached
  rational_start =
      record {
        small = rational_small 0;
        unmarked = rational_unmarked 0;
        initial_N = λ q. (
          (λ h. let (x, t) = N_back 0 q h in (t, x)),
          (λ h. N_make 0 q h.1 h.0),
        );
        initial_CS = λ q. (
          (λ h. let (x, t) = CS_back 0 q h in (t, x)),
          (λ h. CS_make 0 q h.1 h.0),
        );
        disjoint = rational_disjoint 0;
        breakpoint = refl;
      }

  rational_step : (i : ℕ) → Step a d (rational a d w n i) (w i) (rational a d w n (suc i))
  unfolding rational Leads
  rational_step i =
      record {
        small = rational_small (suc i);
        unmarked = rational_unmarked (suc i);
        reachable_N = λ q. (
          (λ h.
              let (x, t) = N_back (suc i) q h in
              let (p, y, e) = reached_back closed w i q x in
              (t, (p, N_make i p y (not_both (has d.inner p) (λ r. clash (split.closed p (w i) q r e) t)), e))),
          (λ h. let (p, x, e) = h.1 in N_make (suc i) q (reached_on closed w i p q (N_back i p x).0 e) h.0),
        );
        reachable_CS = λ q. (led_back q, led_on q);
        disjoint = rational_disjoint (suc i);
        safe_stays = λ q h. safe_stays i h.0 q h.1 h.2;
        not_leaving = not_leaving i;
        no_dead_end = no_dead_end i;
        breakpoint_empty = B_empty i;
        breakpoint_kept = B_kept i;
      }
    where
      led_back :
          (q : ℕ) → (has (C_at (suc i)) q || has (S_at (suc i)) q) ≡ true →
          ((has d.inner q ≡ true) × Leads a (N_at i) (w i) q) ⊎ (Leads a (C_at i) (w i) q ⊎ Leads a (S_at i) (w i) q)
      led_back q h =
          let (x, t) = CS_back (suc i) q h in
          let (p, y, e) = reached_back closed w i q x in
          elim (or_true (has (N_at i) p) (has (C_at i) p || has (S_at i) p) (all_make i p y)) [
            | inl n ↦ inl (t, (p, n, e))
            | inr cs ↦
                elim (or_true (has (C_at i) p) (has (S_at i) p) cs) [
                  | inl k ↦ inr (inl (p, k, e))
                  | inr k ↦ inr (inr (p, k, e))
                ]
          ]

      led_CS :
          (p q : ℕ) → (has (C_at i) p || has (S_at i) p) ≡ true → a.edge p (w i) q ≡ true →
          (has (C_at (suc i)) q || has (S_at (suc i)) q) ≡ true
      led_CS p q cs e =
          let (x, t) = CS_back i p cs in
          CS_make (suc i) q (reached_on closed w i p q x e) (split.closed p (w i) q t e)

      led_on :
          (q : ℕ) →
          ((has d.inner q ≡ true) × Leads a (N_at i) (w i) q) ⊎ (Leads a (C_at i) (w i) q ⊎ Leads a (S_at i) (w i) q) →
          (has (C_at (suc i)) q || has (S_at (suc i)) q) ≡ true
      led_on q (inl n) =
          CS_make (suc i) q (reached_on closed w i n.1.0 q (N_back i n.1.0 n.1.1).0 n.1.2) n.0
      led_on q (inr (inl l)) = led_CS l.0 q (or_l (has (S_at i) l.0) l.1) l.2
      led_on q (inr (inr l)) = led_CS l.0 q (or_r (has (C_at i) l.0) l.1) l.2

  B_in_C : (i q : ℕ) → has (B_at i) q ≡ true → has (C_at i) q ≡ true
  unfolding rational rational_B
  B_in_C zero q h = h
  B_in_C (suc i) q h = step_tracked (rational_step i) q h

  -- while B is not empty, what it holds lies on the path of what it held
  B_traced :
      (i m : ℕ) → ((k : ℕ) → k < m → B_at (i + k) ≡ 0 → ⊥) → (q : ℕ) → has (B_at (i + m)) q ≡ true →
      (p : ℕ) × (reached a w i p ≡ true) × (trace a w i p m ≡ q)
  unfolding trace Leads
  B_traced i zero some q h =
      let (x, t, s) = C_back i q (B_in_C i q (rw (add-zero i) at h)) in (q, x, refl)
  B_traced i (suc m) some q h =
      let h' : has (B_at (suc (i + m))) q ≡ true = rw (add-suc i m) at h in
      let (c, (r, b, e)) = (B_kept (i + m) (some m (omega arith)) q).0 h' in
      let (p, x, same) = B_traced i m (λ k l. some k (omega arith)) r b in
      let one : trace a w (i + m) r 1 ≡ q =
      trace_target (i + m) r q 0 (C_back (i + m) r (B_in_C (i + m) r b)).1 e in (
        p,
        x,
        (ap (λ (k : ℕ). trace a w i p k) (sym (add-one m)) ∙ trace_add closed w i p m 1
            ∙ ap (λ (s : ℕ). trace a w (i + m) s 1) same ∙ one),
      )

  -- which meets no mark after the bound: so B is empty by then
  B_empty_at :
      (i : ℕ) → ((k : ℕ) → k < n → B_at (i + k) ≡ 0 → ⊥) → (q : ℕ) → has (B_at (i + n)) q ≡ true → ⊥
  B_empty_at i some q h =
      let (p, x, same) = B_traced i n some q h in
      let (k, mark) = unsafe_find (i + n) q (C_back (i + n) q (B_in_C (i + n) q h)).2 in
      let joined : trace a w i p (n + k) ≡ trace a w (i + n) q k =
      trace_add closed w i p n k ∙ ap (λ (s : ℕ). trace a w (i + n) s k) same in
      clash mark (rw joined at (quiet i p x (n + k) (omega arith)))

  rational_accepting : (i : ℕ) → (j : ℕ) × (i ≤ j) × (B_at j ≡ 0)
  rational_accepting i =
      elim (search_to n (λ k. eqb (B_at (i + k)) 0)) [
        | inl (k, l, e) ↦ (i + k, (omega arith), eqb_eq (B_at (i + k)) 0 e)
        | inr none ↦ (
          i + n,
          (omega arith),
          empty d.states (B_at (i + n)) (B_small (i + n))
              (λ q l. not_both (has (B_at (i + n)) q)
              (B_empty_at i (λ k m. eqb_ne (B_at (i + k)) 0 (none k m)) q)),
        )
      ]

  -- LEMMA 2, but for the bound
  pub rational_run : AcceptingNcsbRun a d w (rational a d w n)
  unfolding rational
  rational_run = record { begins = rational_start; goes_on = rational_step; accepting = rational_accepting }
