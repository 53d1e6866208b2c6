-- The third demand at the definitions: a pattern that passes the check and its complement part the lassos over its letters, and the
-- complement takes those that are its own by a single accepting run. Assumes nothing.
use mathlib.Core.Path.{◌≡◌}
use mathlib.Core.List.{List}
use mathlib.Core.Logic.{◌⊎◌, inl, inr}
use Prim.Native.Nat.{ℕ, ◌<◌}
use Rattle.automata.specs.Automaton.{Automaton, AcceptingRun, Takes, SingleRun}
use Rattle.automata.specs.Lasso.{letter_at, Lasso}
use Rattle.automata.specs.System.{state_at}
use Rattle.automata.proofs.Decision.{takes_or_not}
use Rattle.automata.proofs.Numbered.{numbered_run, same_numbers, numbered_takes, numbered_single}
use Rattle.automata.proofs.Positions.{letter_below}
use Rattle.automata.proofs.Same.{same_back, same_takes, same_single}
use Rattle.tables.specs.Table.{k_of, meaning}
use Rattle.ncsb.specs.Successors.{ncsb}
use Rattle.ncsb.proofs.Disjoint.{no_word_both}
use Rattle.ncsb.proofs.Exists.{run_exists}
use Rattle.ncsb.proofs.Reached.{system_run→ncsb_run, ncsb_run→system_run}
use Rattle.ncsb.proofs.Unique.{one_run}
use Rattle.patterns.specs.Check.{check_refusal}
use Rattle.patterns.specs.Pattern.{moves}
use Rattle.patterns.proofs.Passed.{checked_closed, checked_split}
use Rattle.complement.specs.Complement.{system_of, complement, complement_automaton, complement_words}
use Rattle.complement.proofs.Second.{system_decides, pattern_exactly, words_mean}

-- either the first takes the word and the second has no accepting run over it, or the first does not and the second has exactly one
abbrev pub Parted : (a b : Automaton) (w : ℕ → ℕ) → Type 0
Parted a b w = (Takes a w × (Takes b w → ⊥)) ⊎ ((Takes a w → ⊥) × SingleRun b w)

module _ (t : List ℕ) (passed : check_refusal t ≡ 0) where
  module _ (w : ℕ → ℕ) (letters : (i : ℕ) → w i < k_of t) where
    -- lemma 1 of the paper, over every word: what the pattern takes, its complement does not
    pub not_both : Takes (meaning t) w → Takes (complement_automaton t) w → ⊥
    unfolding complement_automaton system_of ncsb moves meaning
    not_both taken other =
        let (sp, sl) = checked_split t passed in
        let (f, run) =
        (numbered_takes (system_of t) (system_decides t) (complement t) (pattern_exactly t passed) w letters).0 other in
        no_word_both sl w taken f (system_run→ncsb_run sp sl run)

    -- lemma 3, over every word: the complement is unambiguous
    pub unambiguous :
        (f g : ℕ → ℕ) → AcceptingRun (complement_automaton t) w f → AcceptingRun (complement_automaton t) w g → (i : ℕ) → f i ≡ g i
    unfolding complement_automaton system_of ncsb moves meaning
    unambiguous f g r q =
        let (sp, sl) = checked_split t passed in
        let e = pattern_exactly t passed in
        let run = numbered_run (system_of t) (system_decides t) (complement t) e w letters in
        same_numbers (system_of t) (system_decides t) (complement t) e w letters f g r q
        (one_run w (λ i. state_at (system_of t) (complement t).states (f i)) (λ i. state_at (system_of t) (complement t).states (g i))
        (system_run→ncsb_run sp sl (run f r)) (system_run→ncsb_run sp sl (run g q)))

  module _ (u v : List ℕ) (lasso : Lasso (k_of t) u v) where
    -- lemmas 2 and 3, over every lasso: where the pattern does not take it, its complement has exactly one accepting run
    pub one_of_both : (Takes (meaning t) (letter_at u v) → ⊥) → SingleRun (complement_automaton t) (letter_at u v)
    unfolding complement_automaton system_of ncsb moves meaning
    one_of_both rejects =
        let (sp, sl) = checked_split t passed in
        let (f, run) = run_exists sp sl (checked_closed t passed) u v lasso.endless rejects in
        numbered_single (system_of t) (system_decides t) (complement t) (pattern_exactly t passed) (letter_at u v)
        (letter_below (k_of t) lasso) f (ncsb_run→system_run sp sl run)
        (λ other r. one_run (letter_at u v) other f (system_run→ncsb_run sp sl r) run)

    -- theorem 1: every lasso over the pattern's letters is taken by exactly one of the two, and by the complement in one way
    pub parted : Parted (meaning t) (complement_automaton t) (letter_at u v)
    parted =
        elim (takes_or_not (meaning t) u v (checked_closed t passed) lasso.endless) [
          | inl taken ↦ inl (taken, not_both (letter_at u v) (letter_below (k_of t) lasso) taken)
          | inr rejects ↦ inr (rejects, one_of_both rejects)
        ]

    -- and so of the complement's words
    pub parted_words : Parted (meaning t) (meaning (complement_words t)) (letter_at u v)
    parted_words =
        elim parted [
          | inl (taken, none) ↦ inl (taken, λ other. none (same_takes (words_mean t passed) other))
          | inr (rejects, one) ↦ inr (rejects, same_single (same_back (words_mean t passed)) one)
        ]
