-- The numbered automaton of what was found has the system's edges and runs, state for number. Assumes nothing.
use mathlib.Core.Path.{◌≡◌, refl, sym, ◌∙◌}
use mathlib.Core.Bool.{true, ◌&&◌, ◌||◌, or_assoc}
use mathlib.Core.List.{List, [], ◌∷◌, ◌++◌}
use mathlib.Core.Logic.{◌⊎◌, inl, inr, ◌↔◌}
use Prim.Native.Nat.{ℕ, zero, suc, ◌≤◌, ◌<◌}
use native.Mathlib.Omega.{arith}
use lib.Dec.{ltb, eqb}
use lib.ListN.{length}
use Rattle.basics.proofs.Booleans.{clash, and_l, and_r, and_make, or_l, or_r, or_true, eqb_eq, eqb_self, ltb_lt, lt_ltb, same_or}
use Rattle.automata.specs.Automaton.{AcceptingRun, Takes, SingleRun}
use Rattle.automata.specs.System.{System, Decides, Member, here, there, Reached, at_start, onward, state_at}
use Rattle.automata.specs.System.{Edge, an_edge, edge_at, Built, number_of, edges_to, edges_on, edges_of, Exactly, listed, numbered, AcceptingSystemRun}
use Rattle.automata.proofs.Members.{Prefix, prefix_same, member_at, number_found, number_first, number_at, number_member, number_prefix, state_prefix}
use Rattle.automata.proofs.Explore.{exactly_distinct}

-- EDGES that are listed
listed_append : (i c j : ℕ) (es fs : List Edge) → listed i c j (es ++ fs) ≡ (listed i c j es || listed i c j fs)
unfolding listed
listed_append i c j [] fs = refl
listed_append i c j (e ∷ es) fs =
    rw (listed_append i c j es fs)
    (sym (or_assoc (eqb e.source i && (eqb e.letter c && eqb e.target j)) (listed i c j es) (listed i c j fs)))

listed_left : (i c j : ℕ) (es fs : List Edge) → listed i c j es ≡ true → listed i c j (es ++ fs) ≡ true
listed_left i c j es fs h = rw (listed_append i c j es fs) (or_l (listed i c j fs) h)

listed_right : (i c j : ℕ) (es fs : List Edge) → listed i c j fs ≡ true → listed i c j (es ++ fs) ≡ true
listed_right i c j es fs h = rw (listed_append i c j es fs) (or_r (listed i c j es) h)

listed_cases :
    (i c j : ℕ) (es fs : List Edge) → listed i c j (es ++ fs) ≡ true → (listed i c j es ≡ true) ⊎ (listed i c j fs ≡ true)
listed_cases i c j es fs h = or_true (listed i c j es) (listed i c j fs) (sym (listed_append i c j es fs) ∙ h)

-- an edge is listed where some place holds it
pub listed_at : (es : List Edge) (e : ℕ) → e < length es → listed (edge_at es e).source (edge_at es e).letter (edge_at es e).target es ≡ true
unfolding listed edge_at
listed_at [] e l = absurd (omega arith)
listed_at (f ∷ es) zero l =
    or_l (listed f.source f.letter f.target es)
    (and_make (eqb_self f.source) (and_make (eqb_self f.letter) (eqb_self f.target)))
listed_at (f ∷ es) (suc e) l =
    let g = edge_at es e in
    or_r (eqb f.source g.source && (eqb f.letter g.letter && eqb f.target g.target))
    (listed_at es e (omega arith))

pub listed_find :
    (i c j : ℕ) (es : List Edge) → listed i c j es ≡ true →
    (e : ℕ) × (e < length es) × ((edge_at es e).source ≡ i) × ((edge_at es e).letter ≡ c) × ((edge_at es e).target ≡ j)
unfolding listed edge_at
listed_find i c j [] h = absurd (clash h refl)
listed_find i c j (f ∷ es) h =
    elim (or_true (eqb f.source i && (eqb f.letter c && eqb f.target j)) (listed i c j es) h) [
      | inl e ↦
          let after = and_r (eqb f.source i) e in (
            0,
            omega arith,
            eqb_eq f.source i (and_l (eqb f.letter c && eqb f.target j) e),
            eqb_eq f.letter c (and_l (eqb f.target j) after),
            eqb_eq f.target j (and_r (eqb f.letter c) after),
          )
      | inr e ↦ let (d, l, x, y, z) = listed_find i c j es e in (suc d, (omega arith), x, y, z)
    ]

-- an edge of the closed form: the successor that it leads to
pub record Leads {X : Type 0} (s : System X) (all : List X) (x : X) (letter number : ℕ) : Type 0 where
  pub successor : X
  pub member : Member successor (s.nexts x letter)
  pub numbers : number_of s.same successor all ≡ number

module _ {X : Type 0} (s : System X) (all : List X) where
  listed_to : {y : X} (i c : ℕ) {ys : List X} → Member y ys → listed i c (number_of s.same y all) (edges_to s.same all i c ys) ≡ true
  unfolding listed edges_to an_edge
  listed_to {y} i c (here {ys = ys}) =
      or_l (listed i c (number_of s.same y all) (edges_to s.same all i c ys))
      (and_make (eqb_self i) (and_make (eqb_self c) (eqb_self (number_of s.same y all))))
  listed_to {y} i c (there {y = z} {ys = ys} m) =
      or_r (eqb i i && (eqb c c && eqb (number_of s.same z all) (number_of s.same y all))) (listed_to i c m)

  listed_on :
      {y : X} (limit i c : ℕ) (x : X) → c < limit → Member y (s.nexts x c) →
      listed i c (number_of s.same y all) (edges_on s all limit i x) ≡ true
  unfolding edges_on
  listed_on {y} zero i c x l m = absurd (omega arith)
  listed_on {y} (suc d) i c x l m =
      let n = number_of s.same y all in
      let before = edges_on s all d i x in
      elim (same_or c d) [
        | inl q ↦
            let m' : Member y (s.nexts x d) = rw q at m in
            rw q (listed_right i d n before (edges_to s.same all i d (s.nexts x d)) (listed_to i d m'))
        | inr ne ↦
            listed_left i c n before (edges_to s.same all i d (s.nexts x d)) (listed_on d i c x (omega arith) m)
      ]

  listed_of :
      {y : X} (limit i c : ℕ) → i < limit → c < s.letters → Member y (s.nexts (state_at s all i) c) →
      listed i c (number_of s.same y all) (edges_of s all limit) ≡ true
  unfolding edges_of
  listed_of {y} zero i c l lc m = absurd (omega arith)
  listed_of {y} (suc k) i c l lc m =
      let n = number_of s.same y all in
      let last = edges_on s all s.letters k (state_at s all k) in
      elim (same_or i k) [
        | inl q ↦
            let m' : Member y (s.nexts (state_at s all k) c) = rw q at m in
            rw q (listed_right k c n (edges_of s all k) last (listed_on s.letters k c (state_at s all k) lc m'))
        | inr ne ↦
            listed_left i c n (edges_of s all k) last (listed_of k i c (omega arith) lc m)
      ]

  to_listed :
      (i c j k d : ℕ) (ys : List X) → listed i c j (edges_to s.same all k d ys) ≡ true →
      (k ≡ i) × (d ≡ c) × ((y : X) × Member y ys × (number_of s.same y all ≡ j))
  unfolding listed edges_to an_edge
  to_listed i c j k d [] h = absurd (clash h refl)
  to_listed i c j k d (y ∷ ys) h =
      elim (or_true (eqb k i && (eqb d c && eqb (number_of s.same y all) j)) (listed i c j (edges_to s.same all k d ys)) h) [
        | inl e ↦
            let r = and_r (eqb k i) e in (
              eqb_eq k i (and_l (eqb d c && eqb (number_of s.same y all) j) e),
              eqb_eq d c (and_l (eqb (number_of s.same y all) j) r),
              (y, here, eqb_eq (number_of s.same y all) j (and_r (eqb d c) r)),
            )
        | inr e ↦ let (p, q, (z, m, n)) = to_listed i c j k d ys e in (p, q, (z, there m, n))
      ]

  on_listed :
      (limit i c j k : ℕ) (x : X) → listed i c j (edges_on s all limit k x) ≡ true →
      (k ≡ i) × (c < limit) × Leads s all x c j
  unfolding listed edges_on
  on_listed zero i c j k x h = absurd (clash h refl)
  on_listed (suc d) i c j k x h =
      elim (listed_cases i c j (edges_on s all d k x) (edges_to s.same all k d (s.nexts x d)) h) [
        | inl e ↦ let (p, l, leads) = on_listed d i c j k x e in (p, (omega arith), leads)
        | inr e ↦
            let (p, q, (y, m, n)) = to_listed i c j k d (s.nexts x d) e in
            let leads : Leads s all x d j = record { successor = y; member = m; numbers = n } in
            (p, (omega arith), rw q at leads)
      ]

  of_listed :
      (limit i c j : ℕ) → listed i c j (edges_of s all limit) ≡ true →
      (i < limit) × (c < s.letters) × Leads s all (state_at s all i) c j
  unfolding listed edges_of
  of_listed zero i c j h = absurd (clash h refl)
  of_listed (suc k) i c j h =
      elim (listed_cases i c j (edges_of s all k) (edges_on s all s.letters k (state_at s all k)) h) [
        | inl e ↦ let (p, l, leads) = of_listed k i c j e in ((omega arith), l, leads)
        | inr e ↦
            let (p, l, leads) = on_listed s.letters i c j k (state_at s all k) e in ((omega arith), l, rw p at leads)
      ]

module _ {X : Type 0} (s : System X) (decides : Decides s) (b : Built X) (exactly : Exactly s b) where
  pub starts_first : Prefix s.starts b.states
  starts_first = prefix_same exactly.starts

  -- every reached state has a number
  pub reached_number : {x : X} → Reached s x → number_of s.same x b.states < length b.states
  reached_number {x} r =
      let (i, l, e) = exactly.found x r in
      let n : number_of s.same x b.states ≤ i = rw e at (number_first s decides b.states i l) in omega arith

  pub reached_state : {x : X} → Reached s x → state_at s b.states (number_of s.same x b.states) ≡ x
  reached_state {x} r = number_found s decides x b.states (reached_number r)

  -- an edge of the numbered automaton leads to the number of a successor
  pub numbered_leads :
      (i c j : ℕ) → (numbered s b).edge i c j ≡ true →
      (i < length b.states) × (c < s.letters) × (j < length b.states)
      × Member (state_at s b.states j) (s.nexts (state_at s b.states i) c)
  unfolding numbered
  numbered_leads i c j h =
      let (li, lc, leads) = of_listed s b.states (length b.states) i c j (rw exactly.edges at h) in
      let r = onward c (exactly.reached i li) lc leads.member in
      (li, lc, rw (← leads.numbers) (reached_number r), rw (← leads.numbers, reached_state r) leads.member)

  -- from state to state, by number: an edge exactly to each successor
  pub numbered_edge :
      (i c j : ℕ) → i < length b.states → c < s.letters → j < length b.states →
      ((numbered s b).edge i c j ≡ true) ↔ Member (state_at s b.states j) (s.nexts (state_at s b.states i) c)
  unfolding numbered
  numbered_edge i c j li lc lj = (
    λ h. (numbered_leads i c j h).3,
    λ m.
        let n = number_at s decides b.states (exactly_distinct s b exactly) j lj in
        rw exactly.edges (rw n at (listed_of s b.states (length b.states) i c li lc m)),
  )

  -- RUNS over a word of the system's letters
  module _ (w : ℕ → ℕ) (letters : (i : ℕ) → w i < s.letters) where
    pub run_reached : (f : ℕ → X) → AcceptingSystemRun s w f → (i : ℕ) → Reached s (f i)
    run_reached f r zero = at_start r.begins
    run_reached f r (suc i) = onward (w i) (run_reached f r i) (letters i) (r.goes_on i)

    -- a run of the system, by number, is one of the numbered automaton
    pub run_numbered :
        (f : ℕ → X) → AcceptingSystemRun s w f →
        (g : ℕ → ℕ) × AcceptingRun (numbered s b) w g × ((i : ℕ) → state_at s b.states (g i) ≡ f i)
    unfolding numbered
    run_numbered f r = (
      number,
      record {
        is_run = record { inside = inside; begins = begins; goes_on = goes_on };
        accepting = λ i. let (j, l, a) = r.accepting i in (j, l, and_make (lt_ltb (inside j)) (rw (back j) a));
      },
      back,
    )
      where
        number : ℕ → ℕ
        number i = number_of s.same (f i) b.states

        inside : (i : ℕ) → number i < length b.states
        inside i = reached_number (run_reached f r i)

        back : (i : ℕ) → state_at s b.states (number i) ≡ f i
        back i = reached_state (run_reached f r i)

        begins : ltb (number 0) (length s.starts) ≡ true
        begins =
            let l = number_member s decides r.begins in
            rw (number_prefix s.same (f 0) starts_first l) (lt_ltb l)

        goes_on : (i : ℕ) → (numbered s b).edge (number i) (w i) (number (suc i)) ≡ true
        goes_on i =
            (numbered_edge (number i) (w i) (number (suc i)) (inside i) (letters i) (inside (suc i))).1
            (rw (back i, back (suc i)) (r.goes_on i))

    -- and the other way round
    pub numbered_run : (g : ℕ → ℕ) → AcceptingRun (numbered s b) w g → AcceptingSystemRun s w (λ i. state_at s b.states (g i))
    unfolding numbered
    numbered_run g r =
        record {
          begins =
              let l = ltb_lt (g 0) (length s.starts) r.is_run.begins in
              rw (state_prefix s starts_first (g 0) l) (member_at s s.starts (g 0) l);
          goes_on = λ i. (numbered_leads (g i) (w i) (g (suc i)) (r.is_run.goes_on i)).3;
          accepting = λ i. let (j, l, a) = r.accepting i in (j, l, and_r (ltb (g j) (length b.states)) a);
        }

    -- two runs with the same states have the same numbers
    pub same_numbers :
        (g h : ℕ → ℕ) → AcceptingRun (numbered s b) w g → AcceptingRun (numbered s b) w h →
        ((i : ℕ) → state_at s b.states (g i) ≡ state_at s b.states (h i)) → (i : ℕ) → g i ≡ h i
    unfolding numbered
    same_numbers g h p q same i = exactly.once (g i) (h i) (p.is_run.inside i) (q.is_run.inside i) (same i)

    -- the numbered automaton takes the word exactly if the system has an accepting run over it
    pub numbered_takes : Takes (numbered s b) w ↔ ((f : ℕ → X) × AcceptingSystemRun s w f)
    numbered_takes = (
      λ t. ((λ i. state_at s b.states (t.run i)), numbered_run t.run t.accepting_run),
      λ r. let (g, run, back) = run_numbered r.0 r.1 in record { run = g; accepting_run = run },
    )

    -- and has exactly one accepting run, if the system has one
    pub numbered_single :
        (f : ℕ → X) → AcceptingSystemRun s w f → ((other : ℕ → X) → AcceptingSystemRun s w other → (i : ℕ) → other i ≡ f i) →
        SingleRun (numbered s b) w
    numbered_single f r only =
        let (g, run, back) = run_numbered f r in
        record {
          run = g;
          accepting_run = run;
          only =
              λ h other.
              same_numbers h g other run
              (λ i. only (λ k. state_at s b.states (h k)) (numbered_run h other) i ∙ sym (back i));
        }
