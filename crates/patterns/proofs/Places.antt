-- What the place says where an automaton forks: a state of Q2 with two targets on a letter, no smaller state and no smaller letter; it is the only
-- such place; and there is none exactly if the automaton is semi-deterministic. Assumes nothing.
use mathlib.Core.Path.{◌≡◌, sym}
use mathlib.Core.Bool.{true, false, not}
use mathlib.Core.Logic.{◌↔◌, inl, inr}
use Prim.Native.Nat.{ℕ, ◌<◌}
use lib.Dec.{ltb}
use Rattle.std.specs.Prelude.{Some, None}
use Rattle.basics.specs.Bounded.{each, any}
use Rattle.basics.specs.declared.Place.{Place}
use Rattle.basics.proofs.Booleans.{clash, and_l, and_r, and_make, not_false, not_both}
use Rattle.basics.proofs.Bounded.{each_make, any_none, any_no}
use Rattle.automata.specs.Automaton.{Automaton, Closed}
use Rattle.sets.specs.Sets.{has, size}
use Rattle.patterns.specs.Forks.{fork_place, Forks, SomeFork, ForksFirst}
use Rattle.patterns.specs.Pattern.{targets_of, inner_of, forks, semi_deterministic}
use Rattle.patterns.proofs.Inner.{inner_right}
use Rattle.patterns.proofs.Pairs.{some_or_none, first_is, is_first, first_none, none_first}
use Rattle.patterns.proofs.Split.{even_forks, two_right}

module _ (a : Automaton) where
  -- where no state forks on any letter it is semi-deterministic
  forks_even : ((q c : ℕ) → q < a.states → c < a.letters → forks a q c ≡ false) → semi_deterministic a ≡ true
  unfolding semi_deterministic
  forks_even none =
      each_make a.states (λ q. each a.letters (λ c. not (forks a q c)))
      (λ q l. each_make a.letters (λ c. not (forks a q c)) (λ c m. not_false (none q c l m)))

  -- there is no place exactly if it is
  pub none_right : (fork_place a ≡ None) ↔ (semi_deterministic a ≡ true)
  unfolding fork_place
  none_right = (
    λ e. forks_even (none_first a.states a.letters (forks a) e),
    λ e.
        sym (first_none a.states a.letters (forks a)
        (any_none a.states (λ q. any a.letters (forks a q))
        (λ q l. any_none a.letters (forks a q) (λ c m. even_forks a e q c l m)))),
  )

  -- and one exactly if it is not
  pub place_uneven : {p : Place} → fork_place a ≡ Some p → semi_deterministic a ≡ false
  place_uneven e = not_both (semi_deterministic a) (λ h. let none = none_right.1 h in cc)

  pub uneven_place : semi_deterministic a ≡ false → (p : Place) × (fork_place a ≡ Some p)
  uneven_place e =
      elim (some_or_none (fork_place a)) [ inl found ↦ found | inr none ↦ absurd (clash (none_right.0 none) e) ]

-- BY EDGES
module _ (a : Automaton) (closed : Closed a) where
  -- the test holds exactly if a state of Q2 has two targets on the letter
  forks_right : (q c : ℕ) → (forks a q c ≡ true) ↔ Forks a q c
  unfolding forks
  forks_right q c =
      let two = ltb 1 (size a.states (targets_of a q c)) in (
        (λ h.
            record {
              inner = (inner_right a closed q).0 (and_l two h);
              targets = (two_right a closed q c).0 (and_r (has (inner_of a) q) h);
            }),
        (λ f. and_make ((inner_right a closed q).1 f.inner) ((two_right a closed q c).1 f.targets)),
      )

  forks_inside : (q c : ℕ) → Forks a q c → (q < a.states) × (c < a.letters)
  forks_inside q c f = let ends = closed.edge q c f.targets.one f.targets.to_one in (ends.0, ends.1)

  -- THE PLACE is the one where it forks first
  pub place_right : (p : Place) → (fork_place a ≡ Some p) ↔ ForksFirst a p
  unfolding fork_place
  place_right p = (
    (λ e.
        let first = is_first a.states a.letters (forks a) p e in
        record {
          here = (forks_right p.state p.letter).0 first.holds;
          no_state =
              λ q c l f.
              let inside = forks_inside q c f in
              clash ((forks_right q c).1 f) (any_no a.letters (forks a q) (first.no_state q l) c inside.1);
          no_letter = λ c l f. clash ((forks_right p.state c).1 f) (first.no_letter c l);
        }),
    (λ first.
        let inside = forks_inside p.state p.letter first.here in
        sym (first_is a.states a.letters (forks a) p
        (record {
          state = inside.0;
          letter = inside.1;
          holds = (forks_right p.state p.letter).1 first.here;
          no_state =
              λ q l.
              any_none a.letters (forks a q)
              (λ c m. not_both (forks a q c) (λ h. first.no_state q c l ((forks_right q c).0 h)));
          no_letter =
              λ c l. not_both (forks a p.state c) (λ h. first.no_letter c l ((forks_right p.state c).0 h));
        }))),
  )

  -- and it is semi-deterministic exactly if it forks nowhere
  pub even_right : (semi_deterministic a ≡ true) ↔ (SomeFork a → ⊥)
  even_right = (
    (λ e some.
        let (q, c, f) = some in
        let inside = forks_inside q c f in clash ((forks_right q c).1 f) (even_forks a e q c inside.0 inside.1)),
    (λ none.
        forks_even a (λ q c l m. not_both (forks a q c) (λ h. none (q, c, (forks_right q c).0 h)))),
  )

  pub uneven_right : (semi_deterministic a ≡ false) ↔ SomeFork a
  uneven_right = (
    (λ e.
        let (p, at) = uneven_place a e in (p.state, p.letter, ((place_right p).0 at).here)),
    (λ some. not_both (semi_deterministic a) (λ e. even_right.0 e some)),
  )
