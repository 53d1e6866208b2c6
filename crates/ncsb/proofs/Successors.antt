-- The successors that the construction computes, of any four sets of states, are exactly the quadruples that follow by the bulleted
-- conditions of section 3.2, each once, by rising S'. Assumes nothing.
use mathlib.Core.Path.{◌≡◌, sym, ◌∙◌, ap}
use mathlib.Core.Bool.{true, false, ◌&&◌, ◌||◌, not}
use mathlib.Core.List.{[], map}
use mathlib.Core.Logic.{◌⊎◌, inl, inr, ◌↔◌}
use Prim.Native.Nat.{ℕ, ◌+◌, ◌<◌, ◌^◌}
use native.Mathlib.Omega.{arith}
use native.Mathlib.Nat.{lt_of_le_of_lt}
use lib.Bits.{bit_and, bit_or, and_le_l, and_le_r, or_lt}
use lib.Pow.{pow_pos}
use lib.ListN.{length, get_or}
use Rattle.basics.proofs.Booleans.{either, clash, and_l, and_r, and_make, or_l, or_r, or_true, or_false, not_false, true_not, not_both, same_truth, eq_eqb, ne_eqb, same_or}
use Rattle.automata.specs.Automaton.{Automaton}
use Rattle.automata.specs.System.{Member}
use Rattle.automata.proofs.Members.{member_index, index_member}
use Rattle.sets.specs.Sets.{has, size, without, subsets}
use Rattle.sets.proofs.Members.{has_and, has_or, has_without, has_lt, has_some, has_nonzero, ext, sum_join, without_lt}
use Rattle.ncsb.specs.Lines.{targets, entering, reachable_N, reachable_CS, disjoint, safe_stays, not_leaving, followed, breakpoint}
use Rattle.ncsb.specs.Moves.{Moves, Spread}
use Rattle.ncsb.specs.Step.{Small, Leads, Step, RisingS}
use Rattle.ncsb.specs.Successors.{quadruple, leaving, free, asks, blocked, successor_by, successor_for, successors}
use Rattle.ncsb.specs.declared.Quadruple.{Quadruple}
use Rattle.ncsb.proofs.Free.{free_from, free_unmarked, free_not_safe, free_not_staying, free_make, has_tracked, Unblocked, blocked_no, no_blocked}
use Rattle.ncsb.proofs.Parting.{Choice, choices_length, choices_rising, member_choice, choice_member, parted_all, parted_apart, rest_of, same_parts}
use Rattle.ncsb.proofs.Targets.{targets_small, targets_lead, lead_targets}
use Rattle.ncsb.proofs.Tracked.{safe_lead, lead_safe, staying_lead, lead_staying, TrackedBy, tracked_lead, lead_tracked, safe_small, tracked_small}

-- THE SUCCESSOR FOR A CHOICE of free targets, one state at a time
module _ (d : Moves) (x : Quadruple) (c f q : ℕ) where
  has_new_N : has (successor_for d x c f).N q ≡ (has (targets d x.N c) q && not (has d.inner q))
  unfolding successor_for successor_by asks quadruple reachable_N
  has_new_N = has_without (targets d x.N c) d.inner q

  has_new_S : has (successor_for d x c f).S q ≡ (has (safe_stays d x c) q || has f q)
  unfolding successor_for successor_by asks quadruple
  has_new_S = has_or (safe_stays d x c) f q

  has_new_C : has (successor_for d x c f).C q ≡ (has (reachable_CS d x c) q && not (has (successor_for d x c f).S q))
  unfolding successor_for successor_by asks quadruple disjoint
  has_new_C = has_without (reachable_CS d x c) (bit_or (safe_stays d x c) f) q

module _ (d : Moves) (x : Quadruple) (c f : ℕ) where
  new_B_empty : x.B ≡ 0 → (successor_for d x c f).B ≡ (successor_for d x c f).C
  unfolding successor_for successor_by asks quadruple followed breakpoint
  new_B_empty e = rw (eq_eqb e)

  new_B_kept : (x.B ≡ 0 → ⊥) → (successor_for d x c f).B ≡ bit_and (targets d x.B c) (successor_for d x c f).C
  unfolding successor_for successor_by asks quadruple followed breakpoint
  new_B_kept n = rw (ne_eqb x.B 0 n)

-- each choice where nothing blocks is a step
module _
    {a : Automaton} {d : Moves} (sp : Spread a d) {x : Quadruple} (within : Small d.states x) (c : ℕ)
    (u : Unblocked d x c) {f : ℕ} (choice : Choice d.states (free d x c) f) where
  -- what is safe then was safe before, or was free
  choice_from :
      (q : ℕ) → has (successor_for d x c f).S q ≡ true →
      (has (safe_stays d x c) q ≡ true) ⊎ (has (free d x c) q ≡ true)
  choice_from q h =
      elim (or_true (has (safe_stays d x c) q) (has f q) (sym (has_new_S d x c f q) ∙ h)) [
        | inl s ↦ inl s
        | inr s ↦ inr (choice.within q s)
      ]

  choice_tracked : (q : ℕ) → has (successor_for d x c f).S q ≡ true → has (reachable_CS d x c) q ≡ true
  choice_tracked q h =
      elim (choice_from q h) [
        | inl s ↦
            has_tracked d x c q
            ∙ or_r (has (entering d x c) q || has (leaving d x c) q) (or_r (has (not_leaving d x c) q) s)
        | inr s ↦
            has_tracked d x c q
            ∙ or_l (has (not_leaving d x c) q || has (safe_stays d x c) q) (free_from d x c q s)
      ]

  choice_all : (q : ℕ) → (has (successor_for d x c f).C q || has (successor_for d x c f).S q) ≡ has (reachable_CS d x c) q
  choice_all q =
      let p = parted_all (has (reachable_CS d x c) q) (has (successor_for d x c f).S q) (choice_tracked q) in
      cc (has_new_C d x c f q)

  choice_unmarked : (q : ℕ) → has (successor_for d x c f).S q ≡ true → has d.marks q ≡ false
  choice_unmarked q h = elim (choice_from q h) [ inl s ↦ u.safe_unmarked q s | inr s ↦ free_unmarked d x c q s ]

  choice_not_staying : (q : ℕ) → has (successor_for d x c f).S q ≡ true → has (not_leaving d x c) q ≡ false
  choice_not_staying q h = elim (choice_from q h) [ inl s ↦ u.apart q s | inr s ↦ free_not_staying d x c q s ]

  choice_in_C : (q : ℕ) → has (not_leaving d x c) q ≡ true → has (successor_for d x c f).C q ≡ true
  choice_in_C q h =
      has_new_C d x c f q
      ∙ and_make
      (has_tracked d x c q
      ∙ or_r (has (entering d x c) q || has (leaving d x c) q) (or_l (has (safe_stays d x c) q) h))
      (not_false (not_both (has (successor_for d x c f).S q) (λ s. clash h (choice_not_staying q s))))

  choice_small_C : (successor_for d x c f).C < 2 ^ d.states
  unfolding successor_for successor_by asks quadruple disjoint
  choice_small_C = without_lt d.states (reachable_CS d x c) (bit_or (safe_stays d x c) f) (tracked_small sp x c)

  -- B' is within C', whether B was empty or not
  choice_small_B : (successor_for d x c f).B < 2 ^ d.states
  choice_small_B =
      elim (same_or x.B 0) [
        | inl e ↦ rw (new_B_empty d x c f e) choice_small_C
        | inr e ↦
            rw (new_B_kept d x c f e)
            (lt_of_le_of_lt (and_le_r (targets d x.B c) (successor_for d x c f).C) choice_small_C)
      ]

  choice_small : Small d.states (successor_for d x c f)
  unfolding successor_for successor_by asks quadruple reachable_N
  choice_small =
      record {
        small_N = without_lt d.states (targets d x.N c) d.inner (targets_small sp x.N c);
        small_C = choice_small_C;
        small_S = or_lt d.states (safe_stays d x c) f (safe_small sp x c) choice.small;
        small_B = choice_small_B;
      }

  choice_kept :
      (x.B ≡ 0 → ⊥) → (q : ℕ) →
      (has (successor_for d x c f).B q ≡ true)
      ↔ ((has (successor_for d x c f).C q ≡ true) × Leads a x.B c q)
  unfolding Leads
  choice_kept n q =
      let h : has (successor_for d x c f).B q ≡ (has (targets d x.B c) q && has (successor_for d x c f).C q) =
      rw (new_B_kept d x c f n) (has_and (targets d x.B c) (successor_for d x c f).C q) in (
        (λ g.
            let m = sym h ∙ g in (
              and_r (has (targets d x.B c) q) m,
              targets_lead sp x.B c q (and_l (has (successor_for d x c f).C q) m),
            )),
        (λ g.
            h ∙ and_make (lead_targets sp x.B c g.1.0 q within.small_B g.1.1 g.1.2) g.0),
      )

  pub choice_step : Step a d x c (successor_for d x c f)
  unfolding Leads TrackedBy
  choice_step =
      record {
        small = choice_small;
        unmarked =
            λ q.
            not_both (has (successor_for d x c f).S q && has d.marks q)
            (λ h.
            clash (and_r (has (successor_for d x c f).S q) h) (choice_unmarked q (and_l (has d.marks q) h)));
        reachable_N =
            λ q. (
              (λ h.
                  let m = sym (has_new_N d x c f q) ∙ h in (
                    true_not (has d.inner q) (and_r (has (targets d x.N c) q) m),
                    targets_lead sp x.N c q (and_l (not (has d.inner q)) m),
                  )),
              (λ h.
                  has_new_N d x c f q
                  ∙ and_make (lead_targets sp x.N c h.1.0 q within.small_N h.1.1 h.1.2)
                  (not_false h.0)),
            );
        reachable_CS =
            λ q. (
              (λ h. tracked_lead sp within c q (sym (choice_all q) ∙ h)),
              (λ h. choice_all q ∙ lead_tracked sp within c q h),
            );
        disjoint =
            λ q.
            let p = parted_apart (has (reachable_CS d x c) q) (has (successor_for d x c f).S q) in cc (has_new_C d x c f q);
        safe_stays = λ q l. has_new_S d x c f q ∙ or_l (has f q) (lead_safe sp within c q l);
        not_leaving = λ p q h m e. choice_in_C q (lead_staying sp within c q p h m e);
        no_dead_end =
            λ p h m.
            let on : has (without x.C d.marks) p ≡ true =
            has_without x.C d.marks p ∙ and_make h (not_false m) in
            let below = has_lt d.states x.C p within.small_C h in
            let r = has_some d.states (d.move p c) (sp.move_small p c) (u.no_dead_end p below on) in
            (r.0, sym (sp.move p c r.0) ∙ r.2);
        breakpoint_empty = new_B_empty d x c f;
        breakpoint_kept = choice_kept;
      }

-- EACH STEP COMES FROM A CHOICE: the free targets that it makes safe
unfoldable pub chosen : Moves → Quadruple → (letter : ℕ) → Quadruple → ℕ
chosen d x c y = bit_and y.S (free d x c)

module _
    {a : Automaton} {d : Moves} (sp : Spread a d) {x : Quadruple} (within : Small d.states x) (c : ℕ)
    {y : Quadruple} (s : Step a d x c y) where
  step_safe : (q : ℕ) → has (safe_stays d x c) q ≡ true → has y.S q ≡ true
  step_safe q h = s.safe_stays q (safe_lead sp within c q h)

  step_staying : (q : ℕ) → has (not_leaving d x c) q ≡ true → has y.C q ≡ true
  step_staying q h =
      let l = staying_lead sp within c q h in s.not_leaving l.0 q l.1 l.2 l.3

  -- a safe state is no target of C without F
  step_apart : (q : ℕ) → has y.S q ≡ true → has (not_leaving d x c) q ≡ false
  step_apart q h =
      not_both (has (not_leaving d x c) q) (λ t. clash (and_make (step_staying q t) h) (s.disjoint q))

  step_unmarked : (q : ℕ) → has y.S q ≡ true → has d.marks q ≡ false
  step_unmarked q h = not_both (has d.marks q) (λ m. clash (and_make h m) (s.unmarked q))

  pub step_unblocked : Unblocked d x c
  step_unblocked =
      record {
        no_dead_end =
            λ p l m e.
            let k = sym (has_without x.C d.marks p) ∙ m in
            let r =
            s.no_dead_end p (and_l (not (has d.marks p)) k)
            (true_not (has d.marks p) (and_r (has x.C p) k)) in
            has_nonzero (d.move p c) r.0 (sp.move p c r.0 ∙ r.1) e;
        safe_unmarked = λ q h. step_unmarked q (step_safe q h);
        apart = λ q h. step_apart q (step_safe q h);
      }

  step_all : (q : ℕ) → (has y.C q || has y.S q) ≡ has (reachable_CS d x c) q
  unfolding TrackedBy
  step_all q =
      same_truth (has y.C q || has y.S q) (has (reachable_CS d x c) q)
      (λ h. lead_tracked sp within c q ((s.reachable_CS q).0 h))
      (λ h. (s.reachable_CS q).1 (tracked_lead sp within c q h))

  has_chosen : (q : ℕ) → has (chosen d x c y) q ≡ (has y.S q && has (free d x c) q)
  unfolding chosen
  has_chosen q = has_and y.S (free d x c) q

  pub chosen_choice : Choice d.states (free d x c) (chosen d x c y)
  unfolding chosen
  chosen_choice =
      record {
        small = lt_of_le_of_lt (and_le_l y.S (free d x c)) s.small.small_S;
        within = λ q h. and_r (has y.S q) (sym (has_and y.S (free d x c) q) ∙ h);
      }

  -- what is safe and not so already was free
  step_free : (q : ℕ) → has y.S q ≡ true → has (safe_stays d x c) q ≡ false → has (free d x c) q ≡ true
  step_free q h n =
      let t = sym (has_tracked d x c q) ∙ sym (step_all q) ∙ or_r (has y.C q) h in
      let apart = step_apart q h in
      elim (or_true (has (entering d x c) q || has (leaving d x c) q) (has (not_leaving d x c) q || has (safe_stays d x c) q) t) [
        | inl e ↦ free_make d x c q e (step_unmarked q h) n apart
        | inr e ↦ absurd (clash e (or_false apart n))
      ]

  chosen_has_S : (q : ℕ) → has (successor_for d x c (chosen d x c y)).S q ≡ has y.S q
  chosen_has_S q =
      has_new_S d x c (chosen d x c y) q
      ∙ same_truth (has (safe_stays d x c) q || has (chosen d x c y) q) (has y.S q)
      (λ h.
      elim (or_true (has (safe_stays d x c) q) (has (chosen d x c y) q) h) [
        | inl e ↦ step_safe q e
        | inr e ↦ and_l (has (free d x c) q) (sym (has_chosen q) ∙ e)
      ])
      (λ h.
      elim (either (has (safe_stays d x c) q)) [
        | inl e ↦ or_l (has (chosen d x c y) q) e
        | inr e ↦ or_r (has (safe_stays d x c) q) (has_chosen q ∙ and_make h (step_free q h e))
      ])

  chosen_has_C : (q : ℕ) → has (successor_for d x c (chosen d x c y)).C q ≡ has y.C q
  chosen_has_C q =
      cc (
        has_new_C d x c (chosen d x c y) q,
        chosen_has_S q,
        step_all q,
        rest_of (has y.C q) (has y.S q) (s.disjoint q),
      )

  chosen_has_N : (q : ℕ) → has (successor_for d x c (chosen d x c y)).N q ≡ has y.N q
  unfolding Leads
  chosen_has_N q =
      has_new_N d x c (chosen d x c y) q
      ∙ same_truth (has (targets d x.N c) q && not (has d.inner q)) (has y.N q)
      (λ h.
      (s.reachable_N q).1 (
        true_not (has d.inner q) (and_r (has (targets d x.N c) q) h),
        targets_lead sp x.N c q (and_l (not (has d.inner q)) h),
      ))
      (λ h.
      let r = (s.reachable_N q).0 h in
      and_make (lead_targets sp x.N c r.1.0 q within.small_N r.1.1 r.1.2) (not_false r.0))

  chosen_kept_B : (x.B ≡ 0 → ⊥) → (q : ℕ) → (has (targets d x.B c) q && has y.C q) ≡ has y.B q
  unfolding Leads
  chosen_kept_B n q =
      same_truth (has (targets d x.B c) q && has y.C q) (has y.B q)
      (λ h.
      (s.breakpoint_kept n q).1 (
        and_r (has (targets d x.B c) q) h,
        targets_lead sp x.B c q (and_l (has y.C q) h),
      ))
      (λ h.
      let r = (s.breakpoint_kept n q).0 h in
      and_make (lead_targets sp x.B c r.1.0 q within.small_B r.1.1 r.1.2) r.0)

  pub chosen_successor : successor_for d x c (chosen d x c y) ≡ y
  chosen_successor = same_parts chosen_N chosen_C chosen_S (elim (same_or x.B 0) [ inl e ↦ empty_B e | inr e ↦ kept_B e ])
    where
      small : Small d.states (successor_for d x c (chosen d x c y))
      small = choice_small sp within c step_unblocked chosen_choice

      chosen_N : (successor_for d x c (chosen d x c y)).N ≡ y.N
      chosen_N = ext d.states (successor_for d x c (chosen d x c y)).N y.N small.small_N s.small.small_N (λ q l. chosen_has_N q)

      chosen_C : (successor_for d x c (chosen d x c y)).C ≡ y.C
      chosen_C = ext d.states (successor_for d x c (chosen d x c y)).C y.C small.small_C s.small.small_C (λ q l. chosen_has_C q)

      chosen_S : (successor_for d x c (chosen d x c y)).S ≡ y.S
      chosen_S = ext d.states (successor_for d x c (chosen d x c y)).S y.S small.small_S s.small.small_S (λ q l. chosen_has_S q)

      empty_B : x.B ≡ 0 → (successor_for d x c (chosen d x c y)).B ≡ y.B
      empty_B e = new_B_empty d x c (chosen d x c y) e ∙ chosen_C ∙ sym (s.breakpoint_empty e)

      kept_B : (x.B ≡ 0 → ⊥) → (successor_for d x c (chosen d x c y)).B ≡ y.B
      kept_B n =
          new_B_kept d x c (chosen d x c y) n ∙ ap (bit_and (targets d x.B c)) chosen_C
          ∙ ext d.states (bit_and (targets d x.B c) y.C) y.B
          (lt_of_le_of_lt (and_le_r (targets d x.B c) y.C) s.small.small_C) s.small.small_B
          (λ q l. has_and (targets d x.B c) y.C q ∙ chosen_kept_B n q)

-- THE LIST has one for each choice among what is free, where nothing blocks
module _ (d : Moves) (x : Quadruple) (c : ℕ) where
  pub successors_none : blocked d x c ≡ true → successors d x c ≡ []
  unfolding successors
  successors_none b = rw b

  pub successors_some :
      blocked d x c ≡ false → successors d x c ≡ map (successor_for d x c) (subsets d.states (free d x c))
  unfolding successors
  successors_some b = rw b

  -- the number of successors is 2 to the count of free targets
  pub successors_length : blocked d x c ≡ false → length (successors d x c) ≡ 2 ^ size d.states (free d x c)
  successors_length b =
      ap length (successors_some b) ∙ choices_length d.states (free d x c) (successor_for d x c)

  -- a list with a member was not blocked
  some_unblocked : 0 < length (successors d x c) → blocked d x c ≡ false
  some_unblocked l = not_both (blocked d x c) (λ b. let e = ap length (successors_none b) in omega arith)

  -- S' is d2 of S and the choice, apart
  choice_adds :
      {f : ℕ} → Choice d.states (free d x c) f → (successor_for d x c f).S ≡ safe_stays d x c + f
  unfolding successor_for successor_by asks quadruple
  choice_adds {f} choice =
      sym
      (sum_join (safe_stays d x c) f
      (λ q h. not_both (has f q) (λ g. clash h (free_not_safe d x c q (choice.within q g)))))

  -- successors come by rising S'
  pub successors_rising : RisingS (successors d x c)
  successors_rising blank i j l m =
      let e = successors_some (some_unblocked (omega arith)) in
      rw e
      (choices_rising d.states (free d x c) (successor_for d x c) (safe_stays d x c) (λ f h. choice_adds h) blank i j l (rw e at m))

-- SECTION 3.2: the list holds exactly the quadruples that follow x on the letter
module _
    {a : Automaton} {d : Moves} (sp : Spread a d) {x : Quadruple} (within : Small d.states x) (c : ℕ)
    {y : Quadruple} where
  pub member_step : Member y (successors d x c) → Step a d x c y
  member_step m =
      let (i, l, at) = member_index y m in
      let b = some_unblocked d x c (omega arith) in
      let (f, choice, e) =
      member_choice d.states (free d x c) (successor_for d x c) (rw (successors_some d x c b) at m) in
      rw e at (choice_step sp within c (blocked_no d x c b) choice)

  pub step_member : Step a d x c y → Member y (successors d x c)
  step_member s =
      rw (successors_some d x c (no_blocked d x c (step_unblocked sp within c s)))
      (rw (chosen_successor sp within c s)
      at (choice_member d.states (free d x c) (successor_for d x c) (chosen_choice sp within c s)))

  pub successors_right : (Member y (successors d x c)) ↔ (Step a d x c y)
  successors_right = (member_step, step_member)

-- a step is blocked exactly where no quadruple follows
pub blocked_right :
    {a : Automaton} {d : Moves} (sp : Spread a d) {x : Quadruple} (within : Small d.states x) (c : ℕ) →
    (blocked d x c ≡ true) ↔ ((y : Quadruple) → Step a d x c y → ⊥)
blocked_right {a} {d} sp {x} within c = (none, no_step)
  where
    none : blocked d x c ≡ true → (y : Quadruple) → Step a d x c y → ⊥
    none b y s = clash b (no_blocked d x c (step_unblocked sp within c s))

    no_step : ((y : Quadruple) → Step a d x c y → ⊥) → blocked d x c ≡ true
    no_step h =
        elim (either (blocked d x c)) [
          | inl b ↦ b
          | inr b ↦
              let l = successors_length d x c b in
              let p = pow_pos (size d.states (free d x c)) in
              absurd (h (get_or (successors d x c) 0 x) (member_step sp within c (index_member (successors d x c) x 0 (omega arith))))
        ]
