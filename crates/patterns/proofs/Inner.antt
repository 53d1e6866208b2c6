-- Q2: n rounds find exactly what the accepting states reach; so the accepting states are in Q2, and edges from Q2 stay in Q2.
-- Assumes nothing.
use mathlib.Core.Path.{◌≡◌, sym, ◌∙◌}
use mathlib.Core.Bool.{Bool, true, ◌&&◌, ◌||◌}
use mathlib.Core.Logic.{inl, inr, ◌↔◌}
use Prim.Native.Nat.{ℕ, zero, suc, ◌^◌, ◌<◌}
use lib.Dec.{ltb}
use Rattle.basics.specs.Bounded.{any}
use Rattle.basics.specs.Star.{stay, onward}
use Rattle.basics.proofs.Booleans.{and_l, and_r, and_make, or_l, or_r, or_true, lt_ltb, ltb_lt}
use Rattle.basics.proofs.Bounded.{any_make, any_find}
use Rattle.basics.proofs.Growing.{grown_star}
use Rattle.automata.specs.Automaton.{Automaton, Closed}
use Rattle.sets.specs.Sets.{has}
use Rattle.sets.proofs.Members.{has_set_of, set_of_lt, set_of_make, has_lt}
use Rattle.patterns.specs.Pattern.{accepting_states, grown, reached_in, inner_of}
use Rattle.patterns.specs.Reach.{SomeEdge, Reaches, FromAccepting}

module _ (a : Automaton) where
  -- an edge leads from the set to the state
  pub led : (s q : ℕ) → Bool
  led s q = any a.states (λ p. has s p && any a.letters (λ c. a.edge p c q))

  pub led_make : Closed a → (s p c q : ℕ) → has s p ≡ true → a.edge p c q ≡ true → led s q ≡ true
  unfolding led
  led_make closed s p c q h e =
      let ends = closed.edge p c q e in
      any_make a.states (λ p. has s p && any a.letters (λ c. a.edge p c q)) p ends.0
      (and_make h (any_make a.letters (λ c. a.edge p c q) c ends.1 e))

  pub led_find : (s q : ℕ) → led s q ≡ true → (p : ℕ) × (has s p ≡ true) × SomeEdge a p q
  unfolding led
  led_find s q h =
      let r = any_find a.states (λ p. has s p && any a.letters (λ c. a.edge p c q)) h in
      let x = any_find a.letters (λ c. a.edge r.0 c q) (and_r (has s r.0) r.2) in
      (r.0, and_l (any a.letters (λ c. a.edge r.0 c q)) r.2, (x.0, x.2))

  -- ONE ROUND
  pub has_grown : (s q : ℕ) → has (grown a s) q ≡ (ltb q a.states && (has s q || led s q))
  unfolding grown led
  has_grown s q = has_set_of a.states (λ q. has s q || led s q) q

  pub grown_lt : (s : ℕ) → grown a s < 2 ^ a.states
  unfolding grown led
  grown_lt s = set_of_lt a.states (λ q. has s q || led s q)

  -- ALL ROUNDS
  pub reached_lt : (r s : ℕ) → s < 2 ^ a.states → reached_in a r s < 2 ^ a.states
  unfolding reached_in
  reached_lt zero s l = l
  reached_lt (suc r) s l = grown_lt (reached_in a r s)

  -- Q2
  pub accepting_lt : accepting_states a < 2 ^ a.states
  unfolding accepting_states
  accepting_lt = set_of_lt a.states a.accepting

  pub accepting_has : (q : ℕ) → q < a.states → a.accepting q ≡ true → has (accepting_states a) q ≡ true
  unfolding accepting_states
  accepting_has = set_of_make a.states a.accepting

  pub has_accepting : (q : ℕ) → has (accepting_states a) q ≡ true → (q < a.states) × (a.accepting q ≡ true)
  unfolding accepting_states
  has_accepting q h =
      let e : (ltb q a.states && a.accepting q) ≡ true = sym (has_set_of a.states a.accepting q) ∙ h in
      (ltb_lt q a.states (and_l (a.accepting q) e), and_r (ltb q a.states) e)

  -- so many rounds from the accepting states
  abbrev after : (rounds : ℕ) → ℕ
  after r = reached_in a r (accepting_states a)

  -- they find states
  after_inside : (r q : ℕ) → has (after r) q ≡ true → q < a.states
  after_inside r q h = has_lt a.states (after r) q (reached_lt r (accepting_states a) accepting_lt) h

  module _ (closed : Closed a) where
    -- as many rounds as states find exactly what the accepting states reach
    inner_star :
        (q : ℕ) →
        ((q < a.states) × (has (inner_of a) q ≡ true))
        ↔ ((p : ℕ) × (p < a.states) × (has (accepting_states a) p ≡ true) × Reaches a p q)
    unfolding inner_of reached_in
    inner_star =
        grown_star a.states (λ r q. has (after r) q)
        (λ r q l h. has_grown (after r) q ∙ and_make (lt_ltb l) (or_l (led (after r) q) h))
        (SomeEdge a) (λ p q (c, e). (closed.edge p c q e).2)
        (λ r p q _ h (c, e).
        has_grown (after r) q
        ∙ and_make (lt_ltb (closed.edge p c q e).2) (or_r (has (after r) q) (led_make closed (after r) p c q h e)))
        (λ r q l h.
        elim (or_true (has (after r) q) (led (after r) q) (and_r (ltb q a.states) (sym (has_grown (after r) q) ∙ h))) [
          | inl e ↦ inl e
          | inr e ↦ let (p, f, (c, d)) = led_find (after r) q e in inr (p, (closed.edge p c q d).0, f, (c, d))
        ])

    -- Q2 is the set of accepting states and all states that they reach
    pub inner_right : (q : ℕ) → (has (inner_of a) q ≡ true) ↔ FromAccepting a q
    unfolding inner_of
    inner_right q = (
      (λ h.
          let (p, l, e, way) = (inner_star q).0 (after_inside a.states q h, h) in
          record { source = p; inside = l; accepting = (has_accepting p e).1; reaches = way }),
      (λ f. ((inner_star q).1 (f.source, f.inside, accepting_has f.source f.inside f.accepting, f.reaches)).1),
    )

    -- the accepting states are in Q2
    pub inner_accepting : (q : ℕ) → q < a.states → a.accepting q ≡ true → has (inner_of a) q ≡ true
    inner_accepting q l e = (inner_right q).1 (record { source = q; inside = l; accepting = e; reaches = stay })

    -- edges from Q2 stay in Q2
    pub inner_closed : (p c q : ℕ) → has (inner_of a) p ≡ true → a.edge p c q ≡ true → has (inner_of a) q ≡ true
    inner_closed p c q h e =
        let f = (inner_right p).0 h in
        (inner_right q).1
        (record { source = f.source; inside = f.inside; accepting = f.accepting; reaches = onward q f.reaches (c, e) })
