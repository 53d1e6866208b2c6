-- The choices of a step, one by one: the successor for a choice is the successor with that number, and there are as many of them. The same of
-- initial quadruples. All of it over the table by state and by letter that the code reads. Assumes nothing.
use mathlib.Core.Path.{◌≡◌, refl, sym, ◌∙◌, ap}
use mathlib.Core.Bool.{false}
use mathlib.Core.List.{List, []}
use Prim.Native.Nat.{ℕ, ◌^◌, ◌≤◌, ◌<◌}
use native.Mathlib.Omega.{arith}
use lib.ListN.{length, get_or}
use lib.Pow.{pow_mono}
use Rattle.sets.specs.Sets.{set_states, size}
use Rattle.sets.proofs.Size.{size_le}
use Rattle.ncsb.specs.Array.{from_array, nth_initial, nth_successor}
use Rattle.ncsb.specs.Lines.{no_dead_end}
use Rattle.ncsb.specs.Successors.{quadruple, initial_for, initial_free, initials, free, asks, blocked_by, blocked, successor_for, successors}
use Rattle.ncsb.specs.declared.Asked.{Asked}
use Rattle.ncsb.specs.declared.Quadruple.{Quadruple}
use Rattle.ncsb.proofs.Array.{nth_initial_at, nth_successor_at}
use Rattle.ncsb.proofs.Initials.{initials_length}
use Rattle.ncsb.proofs.Parting.{choices_length, choice_there}
use Rattle.ncsb.proofs.Successors.{successors_some, successors_length}

pub choices_fit : (s : ℕ) → 2 ^ size set_states s ≤ 2 ^ set_states
choices_fit s = pow_mono (size_le set_states s)

module _ (m : List (List ℕ)) (f q2 : ℕ) (x : Quadruple) (c : ℕ) where
  -- what stops the step
  pub blocked_same :
      {a : Asked} → a ≡ asks (from_array m 0 f q2) x c →
      blocked_by (from_array m 0 f 0) x c a ≡ blocked (from_array m 0 f q2) x c
  unfolding from_array blocked blocked_by no_dead_end
  blocked_same e = rw e refl

  pub choices_count :
      {a : Asked} → a ≡ asks (from_array m 0 f q2) x c → blocked (from_array m 0 f q2) x c ≡ false →
      length (successors (from_array m 0 f q2) x c) ≡ 2 ^ size set_states a.free
  unfolding asks from_array
  choices_count e b = successors_length (from_array m 0 f q2) x c b ∙ rw e refl

  pub choice_successor :
      {a : Asked} → a ≡ asks (from_array m 0 f q2) x c → blocked (from_array m 0 f q2) x c ≡ false →
      (j : ℕ) → j < 2 ^ size set_states a.free →
      nth_successor x a j ≡ get_or (successors (from_array m 0 f q2) x c) j (quadruple 0 0 0 0)
  unfolding asks from_array
  choice_successor e b j l =
      let d = from_array m 0 f q2 in
      let l' : j < 2 ^ size set_states (free d x c) = rw e at l in
      let long = choices_length set_states (free d x c) (successor_for d x c) in
      ap (λ (a : Asked). nth_successor x a j) e ∙ nth_successor_at d x c j l'
      ∙ sym (choice_there set_states (free d x c) (successor_for d x c) j (omega arith) (quadruple 0 0 0 0))
      ∙ ap (λ (ys : List Quadruple). get_or ys j (quadruple 0 0 0 0)) (sym (successors_some d x c b))

-- INITIAL QUADRUPLES
module _ (i f q2 : ℕ) where
  pub initials_count : length (initials (from_array [] i f q2)) ≡ 2 ^ size set_states (initial_free (from_array [] i f q2))
  unfolding from_array
  initials_count = initials_length (from_array [] i f q2)

  pub choice_initial :
      (j : ℕ) → j < 2 ^ size set_states (initial_free (from_array [] i f q2)) →
      nth_initial (from_array [] i f q2) j ≡ get_or (initials (from_array [] i f q2)) j (quadruple 0 0 0 0)
  unfolding initials from_array
  choice_initial j l =
      let d = from_array [] i f q2 in
      let long = choices_length set_states (initial_free d) (initial_for d) in
      nth_initial_at d j l
      ∙ sym (choice_there set_states (initial_free d) (initial_for d) j (omega arith) (quadruple 0 0 0 0))
