-- The disjoint union of two automata: its edges are those of the two, every run of it is a run of one of them, and it takes exactly the
-- words that one of them takes. Assumes nothing.
use mathlib.Core.Path.{◌≡◌, sym, ◌∙◌, subst, fun_ext}
use mathlib.Core.Bool.{true, ◌&&◌}
use mathlib.Core.Logic.{◌⊎◌, inl, inr, ◌↔◌}
use Prim.Native.Nat.{ℕ, zero, suc, ◌+◌, ◌-◌, ◌≤◌, ◌<◌}
use native.Mathlib.Omega.{arith}
use lib.Dec.{ltb, leb}
use Rattle.basics.proofs.Booleans.{and_l, and_r, and_make, lt_ltb, ltb_lt, le_leb, leb_le, below_or}
use Rattle.basics.proofs.Joined.{on_first, on_second}
use Rattle.automata.specs.Automaton.{Automaton, Run, AcceptingRun, Takes, Closed}
use Rattle.automata.specs.Union.{union_edge, disjoint_union}

-- A COMPONENT: some states of an automaton are those of another one, numbered from some number on, and no edge joins them with the rest
pub record Component (u x : Automaton) (In : ℕ → Type 0) (at : ℕ → ℕ) : Type 0 where
  pub from : ℕ
  pub number : (q : ℕ) → In q → q ≡ from + at q
  pub here : (q : ℕ) → q < x.states → In (from + q) × (at (from + q) ≡ q)
  pub inside : (q : ℕ) → In q → (q < u.states) ↔ (at q < x.states)
  pub initial : (q : ℕ) → In q → u.initial q ≡ x.initial (at q)
  pub accepting : (q : ℕ) → In q → u.accepting q ≡ x.accepting (at q)
  pub edge : (p c q : ℕ) → In p → (u.edge p c q ≡ true) ↔ (In q × (x.edge (at p) c (at q) ≡ true))
  pub into : (p c q : ℕ) → In q → u.edge p c q ≡ true → In p

module _ {u x : Automaton} {In : ℕ → Type 0} {at : ℕ → ℕ} (k : Component u x In at) {w run : ℕ → ℕ} where
  -- a run that begins in a component stays in it
  stays : Run u w run → In (run 0) → (i : ℕ) → In (run i)
  stays r l zero = l
  stays r l (suc i) = ((k.edge (run i) (w i) (run (suc i)) (stays r l i)).0 (r.goes_on i)).0

  -- and is one of it
  component_run : In (run 0) → Run u w run ↔ (((i : ℕ) → In (run i)) × Run x w (λ i. at (run i)))
  component_run l = (
    (λ r. (
      stays r l,
      record {
        inside = λ i. (k.inside (run i) (stays r l i)).0 (r.inside i);
        begins = sym (k.initial (run 0) l) ∙ r.begins;
        goes_on = λ i. ((k.edge (run i) (w i) (run (suc i)) (stays r l i)).0 (r.goes_on i)).1;
      },
    )),
    (λ (all, r).
        record {
          inside = λ i. (k.inside (run i) (all i)).1 (r.inside i);
          begins = k.initial (run 0) l ∙ r.begins;
          goes_on = λ i. (k.edge (run i) (w i) (run (suc i)) (all i)).1 (all (suc i), r.goes_on i);
        }),
  )

  -- the same of accepting runs
  component_accepting_run :
      In (run 0) → AcceptingRun u w run ↔ (((i : ℕ) → In (run i)) × AcceptingRun x w (λ i. at (run i)))
  component_accepting_run l = (
    (λ r.
        let (all, s) = (component_run l).0 r.is_run in (
          all,
          record {
            is_run = s;
            accepting = λ i. let (j, m, e) = r.accepting i in (j, m, sym (k.accepting (run j) (all j)) ∙ e);
          },
        )),
    (λ (all, r).
        record {
          is_run = (component_run l).1 (all, r.is_run);
          accepting = λ i. let (j, m, e) = r.accepting i in (j, m, k.accepting (run j) (all j) ∙ e);
        }),
  )

module _ (a b : Automaton) where
  abbrev u : Automaton
  u = disjoint_union a b

  abbrev n : ℕ
  n = a.states

  -- EDGES from a state of the first lead to states of the first, and are the first one's
  pub union_first : (p c q : ℕ) → p < n → (u.edge p c q ≡ true) ↔ ((q < n) × (a.edge p c q ≡ true))
  unfolding disjoint_union union_edge
  union_first p c q l =
      let same : u.edge p c q ≡ (ltb q n && a.edge p c q) = on_first n _ _ p l in (
        (λ e. let h = sym same ∙ e in (ltb_lt q n (and_l (a.edge p c q) h), and_r (ltb q n) h)),
        (λ (m, e). same ∙ and_make (lt_ltb m) e),
      )

  -- and those from a state of the second lead to states of the second, and are the second one's
  pub union_second :
      (p c q : ℕ) → n ≤ p → (u.edge p c q ≡ true) ↔ ((n ≤ q) × (b.edge (p - n) c (q - n) ≡ true))
  unfolding disjoint_union union_edge
  union_second p c q l =
      let same : u.edge p c q ≡ (leb n q && b.edge (p - n) c (q - n)) = on_second n _ _ p l in (
        (λ e. let h = sym same ∙ e in (leb_le n q (and_l (b.edge (p - n) c (q - n)) h), and_r (leb n q) h)),
        (λ (m, e). same ∙ and_make (le_leb m) e),
      )

  -- there are no others
  pub union_edges :
      (p c q : ℕ) → u.edge p c q ≡ true →
      ((p < n) × (q < n) × (a.edge p c q ≡ true)) ⊎ ((n ≤ p) × (n ≤ q) × (b.edge (p - n) c (q - n) ≡ true))
  union_edges p c q e =
      elim (below_or p n) [
        | inl l ↦ let (m, f) = (union_first p c q l).0 e in inl (l, m, f)
        | inr l ↦ let (m, f) = (union_second p c q l).0 e in inr (l, m, f)
      ]

  -- each of the two is a component
  pub first_component : Component u a (λ q. q < n) (λ q. q)
  unfolding disjoint_union
  first_component =
      record {
        from = 0;
        number = λ q l. omega arith;
        here = λ q l. let e : 0 + q ≡ q = omega arith in ((omega arith), e);
        inside = λ q l. (λ _. l, λ _. omega arith);
        initial = on_first n _ _;
        accepting = on_first n _ _;
        edge = union_first;
        into = λ p c q l e. elim (union_edges p c q e) [ inl ends ↦ ends.0 | inr (_, m, _) ↦ absurd (omega arith) ];
      }

  pub second_component : Component u b (λ q. n ≤ q) (λ q. q - n)
  unfolding disjoint_union
  second_component =
      record {
        from = n;
        number = λ q l. omega arith;
        here = λ q l. ((omega arith), (omega arith));
        inside = λ q l. (λ m. omega arith, λ m. omega arith);
        initial = on_second n _ _;
        accepting = on_second n _ _;
        edge = union_second;
        into = λ p c q l e. elim (union_edges p c q e) [ inl (_, m, _) ↦ absurd (omega arith) | inr ends ↦ ends.0 ];
      }

  module _ {w : ℕ → ℕ} where
    -- RUNS STAY ON ONE SIDE: they are those of the first, and those of the second with its numbers
    pub union_run :
        {run : ℕ → ℕ} → Run u w run ↔ (Run a w run ⊎ (((i : ℕ) → n ≤ run i) × Run b w (λ i. run i - n)))
    union_run {run} = (
      (λ r.
          elim (below_or (run 0) n) [
            | inl l ↦ inl ((component_run first_component l).0 r).1
            | inr l ↦ inr ((component_run second_component l).0 r)
          ]),
      elim [
        | inl r ↦ (component_run first_component (r.inside 0)).1 (r.inside, r)
        | inr (l, r) ↦ (component_run second_component (l 0)).1 (l, r)
      ],
    )

    -- the same of accepting runs
    pub union_accepting_run :
        {run : ℕ → ℕ} →
        AcceptingRun u w run ↔ (AcceptingRun a w run ⊎ (((i : ℕ) → n ≤ run i) × AcceptingRun b w (λ i. run i - n)))
    union_accepting_run {run} = (
      (λ r.
          elim (below_or (run 0) n) [
            | inl l ↦ inl ((component_accepting_run first_component l).0 r).1
            | inr l ↦ inr ((component_accepting_run second_component l).0 r)
          ]),
      elim [
        | inl r ↦ (component_accepting_run first_component (r.is_run.inside 0)).1 (r.is_run.inside, r)
        | inr (l, r) ↦ (component_accepting_run second_component (l 0)).1 (l, r)
      ],
    )

    -- THE UNION TAKES exactly the words that one of the two takes
    pub union_takes : Takes u w ↔ (Takes a w ⊎ Takes b w)
    union_takes = (
      (λ t.
          elim (union_accepting_run.0 t.accepting_run) [
            | inl r ↦ inl (record { run = t.run; accepting_run = r })
            | inr (_, r) ↦ inr (record { run = λ i. t.run i - n; accepting_run = r })
          ]),
      elim [
        | inl t ↦ record { run = t.run; accepting_run = union_accepting_run.1 (inl t.accepting_run) }
        | inr t ↦
            let shifted : t.run ≡ (λ i. n + t.run i - n) = fun_ext (λ i. omega arith) in
            record {
              run = λ i. n + t.run i;
              accepting_run =
                  union_accepting_run.1
                  (inr ((λ i. omega arith), subst (AcceptingRun b w) shifted t.accepting_run));
            }
      ],
    )

  -- initial states and both ends of each edge of it are its states, where that is so of the two
  pub union_closed : a.letters ≡ b.letters → Closed a → Closed b → Closed u
  unfolding disjoint_union
  union_closed same ca cb =
      let first = first_component in
      let second = second_component in
      record {
        initial =
            λ q e.
            elim (below_or q n) [
              | inl l ↦ (first.inside q l).1 l
              | inr l ↦ (second.inside q l).1 (cb.initial (q - n) (sym (second.initial q l) ∙ e))
            ];
        edge =
            λ p c q e.
            elim (union_edges p c q e) [
              | inl (l, m, f) ↦ ((first.inside p l).1 l, (ca.edge p c q f).1, (first.inside q m).1 m)
              | inr (l, m, f) ↦
                  let ends = cb.edge (p - n) c (q - n) f in
                  ((second.inside p l).1 ends.0, rw same ends.1, (second.inside q m).1 ends.2)
            ];
      }
