-- What the construction asks of a pattern: the sets say what the automaton says, two targets are two edges, and of a semi-deterministic one
-- Q2 meets the four laws of the deterministic part. Assumes nothing.
-- Only here are the laws of Q2 shown that the construction rests on: whoever builds on them cites Split, whatever Q2 is.
use mathlib.Core.Path.{◌≡◌, refl, sym, ◌∙◌}
use mathlib.Core.Bool.{true, false, not}
use mathlib.Core.Logic.{◌↔◌, inl, inr}
use Prim.Native.Nat.{ℕ, ◌<◌}
use native.Mathlib.Omega.{arith}
use lib.Dec.{ltb}
use lib.Bits.{and_le_l}
use Rattle.basics.specs.Bounded.{each}
use Rattle.basics.proofs.Booleans.{clash, and_l, and_r, and_make, true_not, lt_ltb, ltb_lt, below_or}
use Rattle.basics.proofs.Bounded.{each_all}
use Rattle.basics.proofs.Counting.{count_two, count_pair}
use Rattle.automata.specs.Automaton.{Automaton, Closed}
use Rattle.sets.specs.Sets.{has, size}
use Rattle.sets.proofs.Members.{set_of_test, set_of_lt, has_and}
use Rattle.ncsb.specs.Moves.{Spread, Split}
use Rattle.patterns.specs.Forks.{TwoTargets}
use Rattle.patterns.specs.Pattern.{targets_of, initial_states, accepting_states, inner_of, marks_of, forks, semi_deterministic, moves}
use Rattle.patterns.proofs.Inner.{accepting_has, has_accepting, accepting_lt, inner_accepting, inner_closed}

-- a semi-deterministic automaton forks nowhere
pub even_forks :
    (a : Automaton) → semi_deterministic a ≡ true → (q c : ℕ) → q < a.states → c < a.letters → forks a q c ≡ false
unfolding semi_deterministic
even_forks a e q c l m =
    let row = each_all a.states (λ q. each a.letters (λ c. not (forks a q c))) e q l in
    true_not (forks a q c) (each_all a.letters (λ c. not (forks a q c)) row c m)

module _ (a : Automaton) (closed : Closed a) where
  -- the targets of a state on a letter are where its edges on that letter lead
  pub has_targets : (p c q : ℕ) → has (targets_of a p c) q ≡ a.edge p c q
  unfolding targets_of
  has_targets p c q = set_of_test a.states (a.edge p c) (λ q h. (closed.edge p c q h).2) q

  pub has_initial : (q : ℕ) → has (initial_states a) q ≡ a.initial q
  unfolding initial_states
  has_initial q = set_of_test a.states a.initial (λ q h. closed.initial q h) q

  -- the sets say what the automaton says
  pub spread : Spread a (moves a)
  unfolding moves targets_of initial_states marks_of
  spread =
      record {
        states = refl;
        letters = refl;
        move = has_targets;
        starts = has_initial;
        move_small = λ p c. set_of_lt a.states (a.edge p c);
        starts_small = set_of_lt a.states a.initial;
        marks_small =
            let l = and_le_l (accepting_states a) (inner_of a) in let m = accepting_lt a in omega arith;
      }

  -- a state's set of targets on a letter has more than one exactly if two edges lead to different states
  pub two_right : (q c : ℕ) → (ltb 1 (size a.states (targets_of a q c)) ≡ true) ↔ TwoTargets a q c
  unfolding size
  two_right q c = (
    (λ h.
        let (i, j, l, m, e, g) =
        count_pair a.states (has (targets_of a q c)) (ltb_lt 1 (size a.states (targets_of a q c)) h) in
        record {
          one = i;
          other = j;
          apart = omega arith;
          to_one = sym (has_targets q c i) ∙ e;
          to_other = sym (has_targets q c j) ∙ g;
        }),
    (λ two.
        lt_ltb
        (count_two a.states (has (targets_of a q c)) two.one two.other
        (closed.edge q c two.one two.to_one).2 (closed.edge q c two.other two.to_other).2
        (λ same. let l = two.apart in omega arith) (has_targets q c two.one ∙ two.to_one)
        (has_targets q c two.other ∙ two.to_other))),
  )

  -- of a semi-deterministic automaton no state of Q2 has two targets on a letter
  no_two : semi_deterministic a ≡ true → (p c : ℕ) → has (inner_of a) p ≡ true → TwoTargets a p c → ⊥
  unfolding forks
  no_two even p c h two =
      let ends = closed.edge p c two.one two.to_one in
      clash (and_make h ((two_right p c).1 two)) (even_forks a even p c ends.0 ends.1)

  -- so two edges of it on one letter lead to the same state
  inner_single :
      semi_deterministic a ≡ true → (p c q r : ℕ) → has (inner_of a) p ≡ true → a.edge p c q ≡ true →
      a.edge p c r ≡ true → q ≡ r
  inner_single even p c q r h e f =
      elim (below_or q r) [
        | inl l ↦ absurd (no_two even p c h (record { one = q; other = r; apart = l; to_one = e; to_other = f }))
        | inr l ↦
            elim (below_or r q) [
              | inl m ↦ absurd (no_two even p c h (record { one = r; other = q; apart = m; to_one = f; to_other = e }))
              | inr m ↦ omega arith
            ]
      ]

  -- Q2 of a semi-deterministic automaton meets the laws of the deterministic part: closed under edges, single targets, and
  -- the accepting states that runs meet are its marks
  pub split : semi_deterministic a ≡ true → Split a (moves a)
  unfolding moves marks_of
  split even =
      record {
        closed = inner_closed a closed;
        single = inner_single even;
        within =
            λ q h.
            let e = sym (has_and (accepting_states a) (inner_of a) q) ∙ h in
            (and_r (has (accepting_states a) q) e, (has_accepting a q (and_l (has (inner_of a) q) e)).1);
        met =
            λ w run path i h.
            let l = path.inside i in
            has_and (accepting_states a) (inner_of a) (run i)
            ∙ and_make (accepting_has a (run i) l h) (inner_accepting a closed (run i) l h);
      }
