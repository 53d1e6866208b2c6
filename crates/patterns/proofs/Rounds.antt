-- The closure over the masks: a round over them is a round over the edges, so n rounds from the accepting states give Q2; and a round that
-- adds nothing ends it. Assumes nothing.
use mathlib.Core.Path.{◌≡◌, refl, sym, ◌∙◌, ap}
use mathlib.Core.Bool.{Bool, true, ◌&&◌, ◌||◌}
use mathlib.Core.List.{List, []}
use Prim.Native.Nat.{ℕ, zero, suc, ◌+◌, ◌^◌, ◌≤◌, ◌<◌}
use native.Mathlib.Omega.{arith}
use native.Mathlib.Numerals.{add-one}
use lib.Dec.{ltb}
use lib.Bits.{or_lt}
use lib.ListN.{get_or}
use Rattle.basics.specs.Bounded.{any}
use Rattle.basics.proofs.Booleans.{and_l, and_make, and_r, lt_ltb, or_assoc, or_none, same_truth}
use Rattle.basics.proofs.Bounded.{any_make, any_find, any_zero, any_suc}
use Rattle.basics.proofs.Upward.{upward}
use Rattle.automata.specs.Automaton.{Automaton}
use Rattle.sets.specs.Sets.{set_states, has, union}
use Rattle.sets.proofs.Members.{ext, has_or, has_union, union_lt}
use Rattle.patterns.specs.Pattern.{accepting_states, grown, reached_in, inner_of, moves}
use Rattle.patterns.specs.Masks.{masks_of, joined, joined_in}
use Rattle.patterns.proofs.Inner.{led, led_make, led_find, has_grown, grown_lt, reached_lt, accepting_lt}
use Rattle.patterns.proofs.Masks.{FitsMasks, mask_right, targets_lt}
use Rattle.patterns.proofs.Split.{has_targets}

-- THE LOOP OF ROUNDS
module _ (masks : List (List ℕ)) (letters : ℕ) where
  -- a round more
  pub round_turn :
      (set reached round next : ℕ) → reached ≡ joined_in round letters masks set → next ≡ joined letters masks reached →
      next ≡ joined_in (round + 1) letters masks set
  unfolding joined_in
  round_turn set reached round next e n = rw (add-one round, ← e) n

  -- once a round adds nothing, no later one does
  pub rounds_stop :
      (rounds set reached round next : ℕ) → round ≤ rounds → reached ≡ joined_in round letters masks set →
      next ≡ joined letters masks reached → next ≡ reached → reached ≡ joined_in rounds letters masks set
  unfolding joined_in
  rounds_stop rounds set reached round next l e n same =
      upward (λ k. reached ≡ joined_in k letters masks set) round e
      (λ k _ before. sym same ∙ n ∙ ap (joined letters masks) before) rounds l

-- A ROUND OVER THE MASKS IS A ROUND OVER THE EDGES
module _ (a : Automaton) (f : FitsMasks a) where
  -- some state of the set has this target on the letter; on one of the letters
  abbrev entered_on : (letter set q : ℕ) → Bool
  entered_on c s q = any set_states (λ p. has s p && has (get_or (get_or (masks_of (moves a)) p []) c 0) q)

  entered : (letters set q : ℕ) → Bool
  entered k s q = any k (λ c. entered_on c s q)

  has_joined : (k s q : ℕ) → has (joined k (masks_of (moves a)) s) q ≡ (has s q || entered k s q)
  unfolding joined entered
  has_joined zero s q = sym (ap (λ (b : Bool). has s q || b) (any_zero (λ c. entered_on c s q)) ∙ or_none (has s q))
  has_joined (suc k) s q =
      let ih = has_joined k s q in
      let j = has_or (joined k (masks_of (moves a)) s) (union set_states s (λ p. get_or (get_or (masks_of (moves a)) p []) k 0)) q in
      let u = has_union set_states s (λ p. get_or (get_or (masks_of (moves a)) p []) k 0) q in
      let one = any_suc k (λ c. entered_on c s q) in
      let assoc = or_assoc (has s q) (entered k s q) (entered_on k s q) in cc

  joined_lt : (k s : ℕ) → s < 2 ^ a.states → joined k (masks_of (moves a)) s < 2 ^ a.states
  unfolding joined
  joined_lt zero s l = l
  joined_lt (suc k) s l =
      or_lt a.states (joined k (masks_of (moves a)) s) (union set_states s (λ p. get_or (get_or (masks_of (moves a)) p []) k 0)) (joined_lt k s l)
      (union_lt a.states set_states s (λ p. get_or (get_or (masks_of (moves a)) p []) k 0) (λ p. rw (mask_right a f p k) (targets_lt a p k)))

  -- a letter and a state of the set that has this target on it, and so an edge
  entered_led : (s q : ℕ) → entered a.letters s q ≡ true → led a s q ≡ true
  unfolding entered
  entered_led s q h =
      let x = any_find a.letters (λ c. entered_on c s q) h in
      let y = any_find set_states (λ p. has s p && has (get_or (get_or (masks_of (moves a)) p []) x.0 0) q) x.2 in
      led_make a f.closed s y.0 x.0 q
      (and_l (has (get_or (get_or (masks_of (moves a)) y.0 []) x.0 0) q) y.2)
      (sym (has_targets a f.closed y.0 x.0 q) ∙ ap (λ (m : ℕ). has m q) (sym (mask_right a f y.0 x.0))
      ∙ and_r (has s y.0) y.2)

  led_entered : (s q : ℕ) → led a s q ≡ true → entered a.letters s q ≡ true
  unfolding entered
  led_entered s q h =
      let x = led_find a s q h in
      let p = x.0 in
      let c = x.2.0 in
      let ends = f.closed.edge p c q x.2.1 in
      any_make a.letters (λ c. entered_on c s q) c ends.1
      (any_make set_states (λ p. has s p && has (get_or (get_or (masks_of (moves a)) p []) c 0) q) p (let n = f.states in let l = ends.0 in omega arith)
      (and_make x.1 (ap (λ (m : ℕ). has m q) (mask_right a f p c) ∙ has_targets a f.closed p c q ∙ x.2.1)))

  joined_grown : (s : ℕ) → s < 2 ^ a.states → joined a.letters (masks_of (moves a)) s ≡ grown a s
  joined_grown s l =
      ext a.states (joined a.letters (masks_of (moves a)) s) (grown a s) (joined_lt a.letters s l) (grown_lt a s)
      (λ q m.
      let below : ltb q a.states ≡ true = lt_ltb m in
      let same = same_truth (entered a.letters s q) (led a s q) (entered_led s q) (led_entered s q) in
      cc (has_joined a.letters s q, has_grown a s q))

  joined_reached : (r s : ℕ) → s < 2 ^ a.states → joined_in r a.letters (masks_of (moves a)) s ≡ reached_in a r s
  unfolding joined_in reached_in
  joined_reached zero s l = refl
  joined_reached (suc r) s l =
      ap (joined a.letters (masks_of (moves a))) (joined_reached r s l) ∙ joined_grown (reached_in a r s) (reached_lt a r s l)

  -- n rounds over the masks give Q2
  pub inner_rounds : joined_in a.states a.letters (masks_of (moves a)) (accepting_states a) ≡ inner_of a
  unfolding inner_of
  inner_rounds = joined_reached a.states (accepting_states a) (accepting_lt a)
