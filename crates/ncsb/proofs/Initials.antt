-- The initial quadruples that the construction computes are exactly those of section 3.2, each once, by rising S. Assumes nothing.
use mathlib.Core.Path.{◌≡◌, refl, sym, ◌∙◌, ap}
use mathlib.Core.Bool.{Bool, true, false, ◌&&◌, ◌||◌, not}
use mathlib.Core.Logic.{◌↔◌}
use Prim.Native.Nat.{ℕ, ◌<◌, ◌^◌}
use native.Mathlib.Omega.{arith}
use native.Mathlib.Nat.{lt_of_le_of_lt, zero-add}
use lib.Bits.{bit_and, and_le_l}
use lib.ListN.{length, get_or}
use Rattle.basics.proofs.Booleans.{clash, and_l, and_r, and_make, not_false, true_not, not_both, or_r, same_truth}
use Rattle.automata.specs.Automaton.{Automaton}
use Rattle.automata.specs.System.{Member}
use Rattle.sets.specs.Sets.{has, size}
use Rattle.sets.proofs.Members.{has_and, has_without, ext, without_lt}
use Rattle.ncsb.specs.Moves.{Moves, Spread}
use Rattle.ncsb.specs.Step.{Small, Start, RisingS}
use Rattle.ncsb.specs.Successors.{quadruple, initial_free, initial_for, initials}
use Rattle.ncsb.specs.declared.Quadruple.{Quadruple}
use Rattle.ncsb.proofs.Parting.{Choice, choices_length, choices_rising, member_choice, choice_member, same_parts, parted_all, parted_apart, rest_of}

-- ONE STATE at a time
module _ (d : Moves) (q : ℕ) where
  -- what is free: initial states of Q2 outside F
  has_initial_free : has (initial_free d) q ≡ ((has d.starts q && has d.inner q) && not (has d.marks q))
  unfolding initial_free
  has_initial_free =
      has_without (bit_and d.starts d.inner) d.marks q
      ∙ ap (λ (b : Bool). b && not (has d.marks q)) (has_and d.starts d.inner q)

  initial_free_in : has (initial_free d) q ≡ true → (has d.starts q && has d.inner q) ≡ true
  initial_free_in h = and_l (not (has d.marks q)) (sym has_initial_free ∙ h)

  initial_free_unmarked : has (initial_free d) q ≡ true → has d.marks q ≡ false
  initial_free_unmarked h =
      true_not (has d.marks q) (and_r (has d.starts q && has d.inner q) (sym has_initial_free ∙ h))

  module _ (s : ℕ) where
    has_first_N : has (initial_for d s).N q ≡ (has d.starts q && not (has d.inner q))
    unfolding initial_for quadruple
    has_first_N = has_without d.starts d.inner q

    has_first_C : has (initial_for d s).C q ≡ ((has d.starts q && has d.inner q) && not (has s q))
    unfolding initial_for quadruple
    has_first_C = cc (has_without (bit_and d.starts d.inner) s q, has_and d.starts d.inner q)

first_S : (d : Moves) (s : ℕ) → (initial_for d s).S ≡ s
unfolding initial_for quadruple
first_S d s = refl

first_B : (d : Moves) (s : ℕ) → (initial_for d s).B ≡ (initial_for d s).C
unfolding initial_for quadruple
first_B d s = refl

-- EACH CHOICE STARTS
module _ {a : Automaton} {d : Moves} (sp : Spread a d) {s : ℕ} (choice : Choice d.states (initial_free d) s) where
  first_small : Small d.states (initial_for d s)
  unfolding initial_for quadruple
  first_small =
      let l = without_lt d.states (bit_and d.starts d.inner) s (lt_of_le_of_lt (and_le_l d.starts d.inner) sp.starts_small) in
      record {
        small_N = without_lt d.states d.starts d.inner sp.starts_small;
        small_C = l;
        small_S = choice.small;
        small_B = l;
      }

  -- C and S part the initial states of Q2
  first_all : (q : ℕ) → (has (initial_for d s).C q || has (initial_for d s).S q) ≡ (has d.starts q && has d.inner q)
  first_all q =
      cc (
        has_first_C d q s,
        first_S d s,
        parted_all (has d.starts q && has d.inner q) (has s q) (λ h. initial_free_in d q (choice.within q h)),
      )

  first_start : Start a d (initial_for d s)
  first_start =
      record {
        small = first_small;
        unmarked =
            λ q.
            rw (first_S d s)
            (not_both (has s q && has d.marks q)
            (λ h.
            clash (and_r (has s q) h) (initial_free_unmarked d q (choice.within q (and_l (has d.marks q) h)))));
        initial_N =
            λ q. (
              (λ h.
                  let m = sym (has_first_N d q s) ∙ h in (
                    true_not (has d.inner q) (and_r (has d.starts q) m),
                    sym (sp.starts q) ∙ and_l (not (has d.inner q)) m,
                  )),
              (λ h. has_first_N d q s ∙ and_make (sp.starts q ∙ h.1) (not_false h.0)),
            );
        initial_CS =
            λ q. (
              (λ h.
                  let m = sym (first_all q) ∙ h in
                  (and_r (has d.starts q) m, sym (sp.starts q) ∙ and_l (has d.inner q) m)),
              (λ h. first_all q ∙ and_make (sp.starts q ∙ h.1) h.0),
            );
        disjoint =
            λ q.
            cc (has_first_C d q s, first_S d s, parted_apart (has d.starts q && has d.inner q) (has s q));
        breakpoint = first_B d s;
      }

-- EACH START COMES FROM ITS S
module _ {a : Automaton} {d : Moves} (sp : Spread a d) {x : Quadruple} (start : Start a d x) where
  start_all : (q : ℕ) → (has x.C q || has x.S q) ≡ (has d.starts q && has d.inner q)
  start_all q =
      same_truth (has x.C q || has x.S q) (has d.starts q && has d.inner q)
      (λ h. let r = (start.initial_CS q).0 h in and_make (sp.starts q ∙ r.1) r.0)
      (λ h.
      (start.initial_CS q).1
      (and_r (has d.starts q) h, sym (sp.starts q) ∙ and_l (has d.inner q) h))

  start_choice : Choice d.states (initial_free d) x.S
  start_choice =
      record {
        small = start.small.small_S;
        within =
            λ q h.
            has_initial_free d q
            ∙ and_make (sym (start_all q) ∙ or_r (has x.C q) h)
            (not_false (not_both (has d.marks q) (λ m. clash (and_make h m) (start.unmarked q))));
      }

  start_N : (q : ℕ) → has (initial_for d x.S).N q ≡ has x.N q
  start_N q =
      has_first_N d q x.S
      ∙ same_truth (has d.starts q && not (has d.inner q)) (has x.N q)
      (λ h.
      (start.initial_N q).1 (
        true_not (has d.inner q) (and_r (has d.starts q) h),
        sym (sp.starts q) ∙ and_l (not (has d.inner q)) h,
      ))
      (λ h. let r = (start.initial_N q).0 h in and_make (sp.starts q ∙ r.1) (not_false r.0))

  start_C : (q : ℕ) → has (initial_for d x.S).C q ≡ has x.C q
  start_C q =
      cc (has_first_C d q x.S, start_all q, rest_of (has x.C q) (has x.S q) (start.disjoint q))

  start_initial : initial_for d x.S ≡ x
  start_initial =
      let small = first_small sp start_choice in
      let n : (initial_for d x.S).N ≡ x.N =
      ext d.states (initial_for d x.S).N x.N small.small_N start.small.small_N (λ q l. start_N q) in
      let c : (initial_for d x.S).C ≡ x.C =
      ext d.states (initial_for d x.S).C x.C small.small_C start.small.small_C (λ q l. start_C q) in
      same_parts n c (first_S d x.S) (first_B d x.S ∙ c ∙ sym start.breakpoint)

-- THE LIST has one for each choice among what is free
module _ (d : Moves) where
  pub initials_length : length (initials d) ≡ 2 ^ size d.states (initial_free d)
  unfolding initials
  initials_length = choices_length d.states (initial_free d) (initial_for d)

  -- initial quadruples come by rising S
  pub initials_rising : RisingS (initials d)
  unfolding initials
  initials_rising =
      choices_rising d.states (initial_free d) (initial_for d) 0 (λ s _. first_S d s ∙ sym (zero-add s))

  -- so each stands there once
  pub initials_distinct :
      (blank : Quadruple) (i j : ℕ) → i < j → j < length (initials d) →
      get_or (initials d) i blank ≡ get_or (initials d) j blank → ⊥
  initials_distinct blank i j l m e =
      let up = initials_rising blank i j l m in
      let same = ap (λ (y : Quadruple). y.S) e in omega arith

-- SECTION 3.2: the list holds exactly the initial quadruples
module _ {a : Automaton} {d : Moves} (sp : Spread a d) {x : Quadruple} where
  pub member_start : Member x (initials d) → Start a d x
  unfolding initials
  member_start m =
      let (s, choice, e) = member_choice d.states (initial_free d) (initial_for d) m in rw e at (first_start sp choice)

  pub start_member : Start a d x → Member x (initials d)
  unfolding initials
  start_member s =
      rw (start_initial sp s) at (choice_member d.states (initial_free d) (initial_for d) (start_choice sp s))

  pub initials_right : (Member x (initials d)) ↔ (Start a d x)
  initials_right = (member_start, start_member)
