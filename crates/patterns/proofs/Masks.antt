-- The table by state and by letter of target sets: each entry is the targets of that state on that letter; and the loop that fills it.
-- Assumes nothing.
use mathlib.Core.Path.{◌≡◌, sym, ◌∙◌, ap}
use mathlib.Core.List.{List, []}
use mathlib.Core.Logic.{inl, inr}
use Prim.Native.Nat.{ℕ, ◌+◌, ◌^◌, ◌≤◌, ◌<◌}
use native.Mathlib.Omega.{arith}
use borrow.Author.Count.{below_more}
use lib.ListN.{length, get_or, set, replicate, length-set, length-replicate, get_or-replicate, get_or-eq_default}
use lib.Seq.{get_or-set_same, get_or-set_other, ext_get_or}
use Rattle.basics.specs.Tabulate.{tabulate}
use Rattle.basics.proofs.Booleans.{not_both, below_or}
use Rattle.basics.proofs.Clears.{zeros_at}
use Rattle.basics.proofs.Tabulate.{tabulate_at, tabulate_length}
use Rattle.sets.specs.Sets.{set_states, row_letters}
use Rattle.automata.specs.Automaton.{Automaton, Closed}
use Rattle.sets.proofs.Members.{empty, set_of_lt}
use Rattle.tables.specs.Table.{pattern_range, table_refusal, n_of, meaning}
use Rattle.tables.proofs.Laws.{valid, meaning_closed}
use Rattle.patterns.specs.Pattern.{targets_of, moves}
use Rattle.patterns.specs.Masks.{row_of, masks_of}
use Rattle.patterns.proofs.Split.{has_targets}

-- an automaton that the table has room for
pub record FitsMasks (a : Automaton) : Type 0 where
  pub closed : Closed a
  pub states : a.states ≤ set_states
  pub letters : a.letters ≤ row_letters

module _ (a : Automaton) where
  pub targets_lt : (p c : ℕ) → targets_of a p c < 2 ^ a.states
  unfolding targets_of
  targets_lt p c = set_of_lt a.states (a.edge p c)

  -- what is no state, and a letter that the automaton lacks, have no target
  targets_none : Closed a → (p c : ℕ) → ((p < a.states) × (c < a.letters) → ⊥) → targets_of a p c ≡ 0
  targets_none closed p c out =
      empty a.states (targets_of a p c) (targets_lt p c)
      (λ q l.
      has_targets a closed p c q
      ∙ not_both (a.edge p c q) (λ e. let ends = closed.edge p c q e in out (ends.0, ends.1)))

  row_none : Closed a → (p : ℕ) → a.states ≤ p → row_of (moves a) p ≡ replicate row_letters 0
  unfolding row_of moves
  row_none closed p past =
      ext_get_or 0 (tabulate row_letters (targets_of a p)) (replicate row_letters 0)
      (tabulate_length row_letters (targets_of a p) ∙ sym (length-replicate {A = ℕ} row_letters 0))
      (λ c l.
      let long = tabulate_length row_letters (targets_of a p) in
      tabulate_at row_letters (targets_of a p) c 0 (omega arith) ∙ targets_none closed p c (λ both. let x = both.0 in omega arith)
      ∙ sym (zeros_at row_letters c))

  -- each entry of the table is the targets of that state on that letter; so is each place beyond it
  pub mask_right : FitsMasks a → (p c : ℕ) → get_or (get_or (masks_of (moves a)) p []) c 0 ≡ targets_of a p c
  unfolding masks_of row_of moves
  mask_right f p c =
      elim (below_or p set_states) [
        | inl inside ↦
            ap (λ (r : List ℕ). get_or r c 0) (tabulate_at set_states (row_of (moves a)) p [] inside)
            ∙ elim (below_or c row_letters) [
              | inl l ↦ tabulate_at row_letters (targets_of a p) c 0 l
              | inr far ↦
                  let long = tabulate_length row_letters (targets_of a p) in
                  get_or-eq_default (tabulate row_letters (targets_of a p)) 0 (omega arith)
                  ∙ sym (targets_none f.closed p c (λ both. let l = both.1 in let m = f.letters in omega arith))
            ]
        | inr far ↦
            let long = tabulate_length set_states (row_of (moves a)) in
            ap (λ (r : List ℕ). get_or r c 0) (get_or-eq_default (tabulate set_states (row_of (moves a))) [] (omega arith))
            ∙ sym (targets_none f.closed p c (λ both. let l = both.0 in let m = f.states in omega arith))
      ]

  pub mask_move : FitsMasks a → (p c : ℕ) → get_or (get_or (masks_of (moves a)) p []) c 0 ≡ (moves a).move p c
  unfolding moves
  mask_move = mask_right

-- a pattern is one that the table has room for
pub pattern_fits : (t : List ℕ) → table_refusal pattern_range t ≡ 0 → FitsMasks (meaning t)
unfolding pattern_range meaning
pattern_fits t h =
    let v = valid pattern_range t h in
    record { closed = meaning_closed v; states = v.states_to; letters = v.letters_to }

-- so its states are those of a set
pub pattern_few : (t : List ℕ) → table_refusal pattern_range t ≡ 0 → n_of t ≤ set_states
unfolding meaning
pattern_few t h = (pattern_fits t h).states

-- FILLING THE TABLE: rows below `state` are filled, the others are empty
pub record Filled (t : List ℕ) (masks : List (List ℕ)) (state : ℕ) : Type 0 where
  pub whole : length masks ≡ set_states
  pub inside : state ≤ n_of t
  pub done : (q : ℕ) → q < state → get_or masks q [] ≡ row_of (moves (meaning t)) q
  pub rest : (q : ℕ) → state ≤ q → q < set_states → get_or masks q [] ≡ replicate row_letters 0

module _ (t : List ℕ) (pattern : table_refusal pattern_range t ≡ 0) where
  fits : FitsMasks (meaning t)
  fits = pattern_fits t pattern

  pub filled_start : Filled t (replicate set_states (replicate row_letters 0)) 0
  filled_start =
      record {
        whole = length-replicate set_states (replicate {A = ℕ} row_letters 0);
        inside = omega arith;
        done = λ q l. absurd (omega arith);
        rest = λ q _ l. get_or-replicate set_states q (replicate row_letters 0) [] l;
      }

  pub filled_turn :
      (masks : List (List ℕ)) (states state : ℕ) (row : List ℕ) → states ≡ n_of t → state < states →
      row ≡ row_of (moves (meaning t)) state → Filled t masks state → Filled t (set masks state row) (state + 1)
  filled_turn masks states state row counted l e f =
      record {
        whole = length-set masks state row ∙ f.whole;
        inside = omega arith;
        done =
            below_more (λ q. get_or (set masks state row) q [] ≡ row_of (moves (meaning t)) q) state
            (λ q m. get_or-set_other masks state q row [] (λ e. omega arith) ∙ f.done q m)
            (get_or-set_same masks state row [] (let a = f.whole in let n = pattern_few t pattern in omega arith) ∙ e);
        rest = λ q m k. get_or-set_other masks state q row [] (λ e. omega arith) ∙ f.rest q (omega arith) k;
      }

  pub filled_end :
      (masks : List (List ℕ)) (states state : ℕ) → states ≡ n_of t → states ≤ state → Filled t masks state →
      masks ≡ masks_of (moves (meaning t))
  unfolding masks_of meaning
  filled_end masks states state counted past f =
      ext_get_or [] masks (tabulate set_states (row_of (moves (meaning t)))) (f.whole ∙ sym (tabulate_length set_states (row_of (moves (meaning t)))))
      (λ q l.
      let below : q < set_states = let a = f.whole in omega arith in
      row_at q below ∙ sym (tabulate_at set_states (row_of (moves (meaning t))) q [] below))
    where
      row_at : (q : ℕ) → q < set_states → get_or masks q [] ≡ row_of (moves (meaning t)) q
      row_at q below =
          elim (below_or q state) [
            | inl l ↦ f.done q l
            | inr l ↦ f.rest q l below ∙ sym (row_none (meaning t) fits.closed q (omega arith))
          ]
