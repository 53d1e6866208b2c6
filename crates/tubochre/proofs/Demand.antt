-- The demands are met, whatever the calls answer: what the check and the build refuse, and the second and the third demand, for tables of
-- every range whose numbers fit their words and that allows what a pattern may have. Assumes nothing.
use mathlib.Core.Path.{◌≡◌, refl, ◌∙◌, ap}
use mathlib.Core.List.{List}
use mathlib.Core.Logic.{◌⊎◌, inl, inr}
use Prim.Native.Nat.{ℕ}
use native.Mathlib.Omega.{arith}
use lib.ListN.{length}
use Rattle.basics.proofs.Booleans.{eqb_eq, eq_eqb}
use Rattle.automata.specs.Automaton.{AcceptingRun, Takes, SingleRun}
use Rattle.automata.specs.Lasso.{letter_at, Lasso}
use Rattle.tables.specs.Table.{Limits, Wider, RangeFits, pattern_range, k_of, meaning}
use Rattle.tables.proofs.Laws.{valid, words_fit}
use Rattle.ncsb.specs.Successors.{ncsb, accepting}
use Rattle.ncsb.proofs.Initials.{initials_right, initials_rising}
use Rattle.ncsb.proofs.Reached.{reached_fine}
use Rattle.ncsb.proofs.Successors.{successors_right, successors_rising}
use Rattle.patterns.specs.Check.{check_refusal}
use Rattle.patterns.specs.Pattern.{moves}
use Rattle.patterns.proofs.Passed.{checked_split, checked_wider}
use Rattle.complement.specs.Build.{room_of}
use Rattle.complement.specs.Complement.{system_of, complement, complement_words}
use Rattle.complement.proofs.Second.{Fits, pattern_exactly, few_states, words_mean, words_letters, words_valid, build_number, build_place, build_passed, build_fits, build_states, build_edges, build_used, build_sets}
use Rattle.complement.proofs.Third.{Parted, parted_words}
use Rattle.lassos.specs.Decision.{Decision, Taken, NotTaken, Refused, decision, LassoSays}
use Rattle.lassos.proofs.Answers.{says_taken, says_not_taken, says_refused, lasso_refused}
use Rattle.tubochre.specs.Calls.{as_answer, LassoAnswers}
use Rattle.tubochre.specs.declared.Answer.{Answer}
use Rattle.tubochre.specs.Demand.{ReachedExactly, SecondDemand, RefusedBuilds, NotRefused, Compared, ThirdDemand}
use Rattle.tubochre.proofs.Answers.{not_refused}
use Rattle.tubochre.proofs.Checks.{placed_exactly}
use Rattle.tubochre.proofs.Refusals.{Met, which_refusal, refused_checked, checked_refused, refused_states, states_refused, refused_words, words_refused, refused_none, none_refused, refused_most}

-- THE COMPLEMENT of a pattern that passes is exactly what is reached
reached_exactly : (t : List ℕ) → check_refusal t ≡ 0 → ReachedExactly t
unfolding system_of ncsb accepting
reached_exactly t passed =
    let (sp, sl) = checked_split t passed in
    record {
      starts = λ x. initials_right sp;
      steps = λ x reached c y. successors_right sp (reached_fine sp sl reached).small c;
      accepting = λ x. (eqb_eq x.B 0, eq_eqb);
      starts_rise = initials_rising (moves (meaning t));
      steps_rise = successors_rising (moves (meaning t));
      exactly = pattern_exactly t passed;
    }

-- THE SECOND DEMAND: an accepted build leaves exactly the reachable NCSB complement, every state, edge and mark and no other
pub second_demand : {bits : ℕ} {range : Limits} → RangeFits bits range → SecondDemand bits range
unfolding SecondDemand
second_demand {bits} {range} fits t r before after says accepted =
    let passed = build_passed says accepted in
    let used = build_used says accepted in
    let table = words_valid t passed range (build_fits says accepted) in
    record {
      reached = reached_exactly t passed;
      states = build_states says accepted;
      edges = build_edges says accepted;
      table = used;
      valid = rw used table;
      means = rw used (words_mean t passed);
      fit = rw used (λ i l. words_fit (valid range (complement_words t) table) fits i);
      records = build_sets says accepted;
    }

-- REFUSED BUILDS: 2 to 10 as the check, 11 and 12 by the whole complement and the room, each in its case and in no other
pub refused_builds : (range : Limits) → RefusedBuilds range
unfolding RefusedBuilds
refused_builds range t r before after says =
    let met : Met range t (room_of before) r.number = rw (build_number says) (which_refusal range t (room_of before)) in
    record {
      check = λ k from to. (refused_checked met k from to, checked_refused met k from);
      states = (refused_states met, states_refused met);
      words = (refused_words met, words_refused met);
      none = (refused_none met, none_refused met);
      no_other = refused_most met;
      place =
          placed_exactly t (refused_checked met 10 (omega arith) (omega arith), checked_refused met 10 (omega arith)) (build_place says);
      reached = reached_exactly t;
    }

-- AN ANSWER IN NUMBERS stands for a decision
module _
    {range : Limits} {t u v : List ℕ} {r : Answer} {w w_now : List ℕ} (answers : LassoAnswers range t u v r w w_now) where
  abbrev pub decided : Decision
  decided = decision range t u v (length w)

  pub stands_for : LassoSays range t u v decided w w_now
  stands_for = record { answer = refl; work = answers.work }

  -- which refuses only by a number other than 0
  pub accepts : r.number ≡ 0 → NotRefused decided
  unfolding NotRefused as_answer
  accepts zero number refused =
      let (met, some) = (says_refused stands_for number).0 refused in
      let same : r.number ≡ number = ap (λ (x : Answer). x.number) (answers.answer ∙ ap as_answer refused) in
      omega arith

-- `taken` is 1 for a decision that says so, and 0 for one that does not
pub numbers_taken : {r : Answer} {d : Decision} → r ≡ as_answer d → d ≡ Taken → r.taken ≡ 1
unfolding as_answer
numbers_taken e h = ap (λ (x : Answer). x.taken) (e ∙ ap as_answer h)

numbers_not : {r : Answer} {d : Decision} → r ≡ as_answer d → d ≡ NotTaken → r.taken ≡ 0
unfolding as_answer
numbers_not e h = ap (λ (x : Answer). x.taken) (e ∙ ap as_answer h)

-- the pattern and the words of its complement
module _
    {range : Limits} (wider : Wider pattern_range range) (t : List ℕ) (passed : check_refusal t ≡ 0) (fits : Fits range t)
    (u v : List ℕ) (lasso : Lasso (k_of t) u v) where
  abbrev word : ℕ → ℕ
  word = letter_at u v

  abbrev c : List ℕ
  c = complement_words t

  -- they have the same letters
  over_complement : Lasso (k_of c) u v
  over_complement = rw (words_letters t passed) lasso

  decisions :
      Parted (meaning t) (meaning c) word → (d e : Decision) (w w_now z z_now : List ℕ) → LassoSays range t u v d w w_now →
      LassoSays range c u v e z z_now → NotRefused d → NotRefused e →
      (Takes (meaning t) word × (d ≡ Taken) × (e ≡ NotTaken)) ⊎ (Takes (meaning c) word × (d ≡ NotTaken) × (e ≡ Taken))
  decisions (inl (taken, none)) d e w w_now z z_now says other h k =
      inl
      (taken, (says_taken says).1 (not_refused says h, taken), (says_not_taken other).1 (not_refused other k, none))
  decisions (inr (none, one)) d e w w_now z z_now says other h k =
      let taken : Takes (meaning c) word = record { run = one.run; accepting_run = one.accepting_run } in
      inr
      (taken, (says_not_taken says).1 (not_refused says h, none), (says_taken other).1 (not_refused other k, taken))

  answers :
      Parted (meaning t) (meaning c) word → (d e : Answer) (w w_now z z_now : List ℕ) → LassoAnswers range t u v d w w_now →
      LassoAnswers range c u v e z z_now → d.number ≡ 0 → e.number ≡ 0 →
      (Takes (meaning t) word × (d.taken ≡ 1) × (e.taken ≡ 0)) ⊎ (Takes (meaning c) word × (d.taken ≡ 0) × (e.taken ≡ 1))
  answers both d e w w_now z z_now says other h k =
      elim (decisions both (decided says) (decided other) w w_now z z_now (stands_for says) (stands_for other) (accepts says h) (accepts other k)) [
        | inl (taken, p, q) ↦ inl (taken, numbers_taken says.answer p, numbers_not other.answer q)
        | inr (taken, p, q) ↦ inr (taken, numbers_not says.answer p, numbers_taken other.answer q)
      ]

  refusals :
      (d : Decision) (w w_now : List ℕ) (number : ℕ) → LassoSays range t u v d w w_now ⊎ LassoSays range c u v d w w_now →
      d ≡ Refused number → (number ≡ 14) ⊎ (number ≡ 16)
  refusals d w w_now number (inl says) h = lasso_refused says (checked_wider t passed wider) lasso number h
  refusals d w w_now number (inr says) h = lasso_refused says (words_valid t passed range fits) over_complement number h

  no_run : Parted (meaning t) (meaning c) word →
      (Takes (meaning t) word × ((run : ℕ → ℕ) → AcceptingRun (meaning c) word run → ⊥))
      ⊎ ((Takes (meaning t) word → ⊥) × SingleRun (meaning c) word)
  no_run (inl (taken, none)) = inl (taken, λ run r. none (record { run = run; accepting_run = r }))
  no_run (inr other) = inr other

  compared : Compared range t c u v (length (complement t).states)
  compared =
      let both = parted_words t passed u v lasso in
      record {
        parted = no_run both;
        tables = (checked_wider t passed wider, words_valid t passed range fits);
        refusals = refusals;
        decisions = decisions both;
        answers = answers both;
        few = few_states t passed;
      }

  -- and so for words and a state count that are the complement's
  compared_as : {words : List ℕ} {states : ℕ} → words ≡ c → states ≡ length (complement t).states → Compared range t words u v states
  compared_as same count = rw (same, count) compared

-- THE THIRD DEMAND: every lasso over the pattern's letters is taken by exactly one of pattern and complement, by the complement in a
-- single accepting run; the decision says which; and the states are at most 2^p·3^a·4^r
pub third_demand : (range : Limits) → Wider pattern_range range → ThirdDemand range
unfolding ThirdDemand
third_demand range wider t answer r before after u v checks passes says accepted lasso =
    compared_as wider t (build_passed says accepted) (build_fits says accepted) u v lasso (build_used says accepted)
    (build_states says accepted)
