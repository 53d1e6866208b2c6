-- The disjoint union of two automata reaches what each of them reaches, its Q2 is that of the two, and it is semi-deterministic exactly if
-- both are. Assumes nothing.
use mathlib.Core.Path.{◌≡◌, refl, sym, ◌∙◌, ap, subst}
use mathlib.Core.Bool.{◌&&◌}
use mathlib.Core.Logic.{◌⊎◌, inl, inr, ◌↔◌}
use Prim.Native.Nat.{ℕ, ◌+◌, ◌-◌, ◌≤◌, ◌<◌}
use native.Mathlib.Omega.{arith}
use Rattle.basics.specs.Joined.{numbered_on}
use Rattle.basics.specs.Star.{stay, onward}
use Rattle.basics.proofs.Booleans.{and_l, and_r, and_make, same_truth, below_or}
use Rattle.basics.proofs.Joined.{on_first, on_second}
use Rattle.automata.specs.Automaton.{Automaton, Closed}
use Rattle.automata.specs.Union.{disjoint_union}
use Rattle.automata.proofs.Union.{Component, first_component, second_component, union_closed}
use Rattle.sets.specs.Sets.{has}
use Rattle.patterns.specs.Forks.{TwoTargets, Forks, SomeFork}
use Rattle.patterns.specs.Pattern.{inner_of, semi_deterministic}
use Rattle.patterns.specs.Reach.{Reaches, FromAccepting}
use Rattle.patterns.proofs.Inner.{inner_right}
use Rattle.patterns.proofs.Places.{even_right}

module _ {u x : Automaton} {In : ℕ → Type 0} {at : ℕ → ℕ} (k : Component u x In at) where
  -- REACHING: what a state of a component reaches is in it, and is reached in it
  reaches_from : {p q : ℕ} → In p → Reaches u p q → In q × Reaches x (at p) (at q)
  reaches_from l stay = (l, stay)
  reaches_from l (onward {y} z way (c, e)) =
      let (m, r) = reaches_from l way in let (o, f) = (k.edge y c z m).0 e in (o, onward (at z) r (c, f))

  -- what reaches a state of a component is in it
  pub reaches_to : {p q : ℕ} → In q → Reaches u p q → In p
  reaches_to l stay = l
  reaches_to l (onward {y} z way (c, e)) = reaches_to (k.into y c z l e) way

  -- two of its states that have one number in it are the same
  number_same : (p q : ℕ) → In p → In q → at p ≡ at q → p ≡ q
  number_same p q l m e = let f = k.number p l in let g = k.number q m in omega arith

  module _ (closed : Closed x) where
    -- what is reached in it is reached: the way is lifted, state by state
    reaches_lift : {p y : ℕ} → In p → Reaches x (at p) y → (q : ℕ) × In q × (at q ≡ y) × Reaches u p q
    reaches_lift {p} l stay = (p, l, refl, stay)
    reaches_lift l (onward {y} z way (c, e)) =
        let (q, m, f, r) = reaches_lift l way in
        let (o, g) = k.here z (closed.edge y c z e).2 in
        let t = k.from + z in (t, o, g, onward t r (c, (k.edge q c t m).1 (o, rw (f, g) e)))

    -- so a state of a component reaches exactly what it reaches in it
    pub component_reaches : {p q : ℕ} → In p → Reaches u p q ↔ (In q × Reaches x (at p) (at q))
    component_reaches {p} {q} l = (
      reaches_from l,
      (λ (m, way).
          let (t, o, e, r) = reaches_lift l way in subst (Reaches u p) (number_same t q o m e) r),
    )

    -- Q2: an accepting state reaches a state of a component exactly if one of the component does so in it
    component_from_accepting : {q : ℕ} → In q → FromAccepting u q ↔ FromAccepting x (at q)
    component_from_accepting {q} l = (
      (λ f.
          let m = reaches_to l f.reaches in
          record {
            source = at f.source;
            inside = (k.inside f.source m).0 f.inside;
            accepting = sym (k.accepting f.source m) ∙ f.accepting;
            reaches = ((component_reaches m).0 f.reaches).1;
          }),
      (λ f.
          let (m, e) = k.here f.source f.inside in
          let s = k.from + f.source in
          record {
            source = s;
            inside = (k.inside s m).1 (rw e f.inside);
            accepting = k.accepting s m ∙ ap x.accepting e ∙ f.accepting;
            reaches = (component_reaches m).1 (l, rw e f.reaches);
          }),
    )

    -- so what Q2 has of a component is the component's own Q2
    component_inner : Closed u → (q : ℕ) → In q → has (inner_of u) q ≡ has (inner_of x) (at q)
    component_inner all q l =
        same_truth (has (inner_of u) q) (has (inner_of x) (at q))
        (λ h. (inner_right x closed (at q)).1 ((component_from_accepting l).0 ((inner_right u all q).0 h)))
        (λ h. (inner_right u all q).1 ((component_from_accepting l).1 ((inner_right x closed (at q)).0 h)))

    -- FORKS: a state of a component has two targets on a letter exactly if it has two in it
    component_targets : (q c : ℕ) → In q → TwoTargets u q c ↔ TwoTargets x (at q) c
    component_targets q c l = (
      (λ two.
          let (m, e) = (k.edge q c two.one l).0 two.to_one in
          let (o, f) = (k.edge q c two.other l).0 two.to_other in
          let i = k.number two.one m in
          let j = k.number two.other o in
          let apart = two.apart in
          record { one = at two.one; other = at two.other; apart = omega arith; to_one = e; to_other = f }),
      (λ two.
          let (m, e) = k.here two.one (closed.edge (at q) c two.one two.to_one).2 in
          let (o, f) = k.here two.other (closed.edge (at q) c two.other two.to_other).2 in
          let one = k.from + two.one in
          let other = k.from + two.other in
          let apart = two.apart in
          record {
            one = one;
            other = other;
            apart = omega arith;
            to_one = (k.edge q c one l).1 (m, rw e two.to_one);
            to_other = (k.edge q c other l).1 (o, rw f two.to_other);
          }),
    )

    -- so it forks on a letter exactly if it does in it
    component_forks : (q c : ℕ) → In q → Forks u q c ↔ Forks x (at q) c
    component_forks q c l = (
      (λ f.
          record {
            inner = (component_from_accepting l).0 f.inner;
            targets = (component_targets q c l).0 f.targets;
          }),
      (λ f.
          record {
            inner = (component_from_accepting l).1 f.inner;
            targets = (component_targets q c l).1 f.targets;
          }),
    )

    -- where a component forks, the whole does
    component_fork : SomeFork x → SomeFork u
    component_fork (q, c, f) =
        let (l, e) = k.here q (closed.edge q c f.targets.one f.targets.to_one).0 in
        let p = k.from + q in (p, c, (component_forks p c l).1 (rw e f))

module _ (a b : Automaton) where
  abbrev u : Automaton
  u = disjoint_union a b

  abbrev n : ℕ
  n = a.states

  abbrev first : Component u a (λ q. q < n) (λ q. q)
  first = first_component a b

  abbrev second : Component u b (λ q. n ≤ q) (λ q. q - n)
  second = second_component a b

  module _ (ca : Closed a) (cb : Closed b) where
    -- REACHING STAYS ON ONE SIDE: by edges of the first, or by edges of the second
    pub union_reaches :
        (p q : ℕ) →
        Reaches u p q ↔ (((p < n) × (q < n) × Reaches a p q) ⊎ ((n ≤ p) × (n ≤ q) × Reaches b (p - n) (q - n)))
    union_reaches p q = (
      (λ way.
          elim (below_or p n) [
            | inl l ↦ let (m, r) = (component_reaches first ca l).0 way in inl (l, m, r)
            | inr l ↦ let (m, r) = (component_reaches second cb l).0 way in inr (l, m, r)
          ]),
      elim [
        | inl (l, m, r) ↦ (component_reaches first ca l).1 (m, r)
        | inr (l, m, r) ↦ (component_reaches second cb l).1 (m, r)
      ],
    )

    -- it forks exactly if one of the two does
    pub union_fork : SomeFork u ↔ (SomeFork a ⊎ SomeFork b)
    union_fork = (
      (λ (q, c, f).
          elim (below_or q n) [
            | inl l ↦ inl (q, c, (component_forks first ca q c l).0 f)
            | inr l ↦ inr (q - n, c, (component_forks second cb q c l).0 f)
          ]),
      elim [ inl f ↦ component_fork first ca f | inr f ↦ component_fork second cb f ],
    )

  module _ (letters : a.letters ≡ b.letters) (ca : Closed a) (cb : Closed b) where
    abbrev closed : Closed u
    closed = union_closed a b letters ca cb

    -- Q2 IS THAT OF THE PARTS
    pub union_inner : (q : ℕ) → has (inner_of u) q ≡ numbered_on n (has (inner_of a)) (has (inner_of b)) q
    union_inner q =
        elim (below_or q n) [
          | inl l ↦ component_inner first ca closed q l ∙ sym (on_first n _ _ q l)
          | inr l ↦ component_inner second cb closed q l ∙ sym (on_second n _ _ q l)
        ]

    -- SEMI-DETERMINISM IS THAT OF THE PARTS
    pub union_semi : semi_deterministic u ≡ (semi_deterministic a && semi_deterministic b)
    union_semi =
        same_truth (semi_deterministic u) (semi_deterministic a && semi_deterministic b)
        (λ e.
        let none = (even_right u closed).0 e in
        and_make ((even_right a ca).1 (λ f. none ((union_fork ca cb).1 (inl f))))
        ((even_right b cb).1 (λ f. none ((union_fork ca cb).1 (inr f)))))
        (λ e.
        (even_right u closed).1
        (λ f.
        elim ((union_fork ca cb).0 f) [
          | inl g ↦ (even_right a ca).0 (and_l (semi_deterministic b) e) g
          | inr g ↦ (even_right b cb).0 (and_r (semi_deterministic a) e) g
        ]))
