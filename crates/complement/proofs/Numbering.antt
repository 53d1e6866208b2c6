-- Exploring in number order within the room: the buffers keep what was found so far of the complement, until all of it is found or there are more
-- states than fit. Assumes nothing.
use mathlib.Core.Path.{◌≡◌, refl, sym, ◌∙◌, ap, subst}
use Rattle.std.proofs.Common.{Some, None}
use mathlib.Core.List.{List, []}
use Prim.Native.Nat.{ℕ, suc, ◌+◌, ◌≤◌, ◌<◌}
use native.Mathlib.Numerals.{add-one}
use native.Mathlib.Omega.{arith}
use lib.ListN.{length}
use Rattle.sets.specs.Sets.{row_letters}
use Rattle.automata.specs.System.{Built, built, state_at, by_letters, expand, begin, explore}
use Rattle.automata.proofs.Agreeing.{letters_agree}
use Rattle.automata.proofs.Explore.{begin_is}
use Rattle.automata.proofs.Exploring.{grows_explore, AtState, state_begin, state_step, state_end, state_grows}
use Rattle.tables.specs.Table.{Limits, meaning}
use Rattle.ncsb.specs.Array.{from_array}
use Rattle.ncsb.specs.Bound.{bound}
use Rattle.ncsb.specs.Step.{Small}
use Rattle.ncsb.specs.Successors.{initials, ncsb}
use Rattle.ncsb.specs.declared.Quadruple.{Quadruple}
use Rattle.ncsb.proofs.Reached.{reached_fine}
use Rattle.ncsb.proofs.Widening.{Widens, WidensStarts, successors_same, initials_same}
use Rattle.patterns.specs.Check.{check_refusal}
use Rattle.patterns.specs.Masks.{masks_of}
use Rattle.patterns.specs.Pattern.{moves}
use Rattle.patterns.specs.Shape.{shape_of}
use Rattle.ncsb.specs.declared.Shape.{Shape}
use Rattle.patterns.proofs.Masks.{pattern_fits, mask_move}
use Rattle.patterns.proofs.Passed.{checked_table, checked_split}
use Rattle.record_words.specs.Record.{quadruple_at}
use Rattle.complement.specs.Complement.{system_of, complement}
use Rattle.complement.specs.Found.{Begins, quadruples, StatesKept, Shows, held, Turns, ExpandAsks, array_moves, start_moves}
use Rattle.complement.specs.declared.explore.Growth.{Growth}
use Rattle.complement.proofs.Kept.{kept_at}
use Rattle.complement.proofs.Reaching.{over_grown}
use Rattle.complement.proofs.Second.{system_decides, few_quadruples, starts_apart}
use Rattle.complement.proofs.Starting.{started_shows}

-- so many states are expanded
pub record Exploring (limits : Limits) (t : List ℕ) (g : Growth) (i : ℕ) : Type 0 where
  pub built : Built Quadruple
  pub shows : Shows (quadruples limits) built (held g) g.found
  pub at : AtState (system_of t) (bound (moves (meaning t))) i built

module _ (t : List ℕ) (passed : check_refusal t ≡ 0) where
  module _ {masks : List (List ℕ)} {shape : Shape} (masked : masks ≡ masks_of (moves (meaning t))) (shaped : shape ≡ shape_of (moves (meaning t))) where
    -- what the code reads is the pattern's
    widens : Widens (moves (meaning t)) (array_moves masks shape)
    unfolding array_moves from_array shape_of moves
    widens =
        let fits = pattern_fits t (checked_table t passed) in
        record {
          states = fits.states;
          move = λ q c. rw masked (mask_move (meaning t) fits q c);
          marks = ap (λ (z : Shape). z.marks) shaped;
          inner = ap (λ (z : Shape). z.inner) shaped;
        }

    starts_widen : WidensStarts (moves (meaning t)) (start_moves shape)
    unfolding start_moves from_array shape_of moves
    starts_widen =
        record {
          states = (pattern_fits t (checked_table t passed)).states;
          starts = ap (λ (z : Shape). z.starts) shaped;
          marks = ap (λ (z : Shape). z.marks) shaped;
          inner = ap (λ (z : Shape). z.inner) shaped;
        }

    pub letters_all : shape.letters ≡ (system_of t).letters
    unfolding shape_of system_of ncsb
    letters_all = ap (λ (z : Shape). z.letters) shaped

    pub letters_few : shape.letters ≤ row_letters
    unfolding system_of ncsb moves
    letters_few = let e = letters_all in let l = (pattern_fits t (checked_table t passed)).letters in omega arith

    pub starts_same : initials (start_moves shape) ≡ (system_of t).starts
    unfolding system_of ncsb
    starts_same = initials_same (checked_split t passed).0 starts_widen

    -- the initial states are the beginning
    begins_with : built (initials (start_moves shape)) [] ≡ begin (system_of t)
    unfolding system_of ncsb
    begins_with =
        ap (λ (xs : List Quadruple). built xs []) starts_same ∙ sym (begin_is (system_of t) (system_decides t) (starts_apart t passed))

    pub begin_full : {room : ℕ} → room < length (initials (start_moves shape)) → room < length (complement t).states
    unfolding complement explore built
    begin_full {room} over =
        let many : room < length (begin (system_of t)).states =
        subst (λ (b : Built Quadruple). room < length b.states) begins_with over in
        over_grown (grows_explore (system_of t) (bound (moves (meaning t))) 0 (begin (system_of t))) many

    pub begin_within :
        {limits : Limits} {g : Growth} → Begins [] g.words.now →
        StatesKept (quadruples limits) (initials (start_moves shape)) g.sets.now g.found.states → g.found.edges ≡ 0 → Exploring limits t g 0
    unfolding system_of
    begin_within {limits} {g} clear h none =
        record {
          built = begin (system_of t);
          shows = rw (← begins_with, none) (started_shows shape clear h);
          at = state_begin (system_of t) (system_decides t) (few_quadruples t passed) (starts_apart t passed);
        }

    module _ {limits : Limits} {g : Growth} {i : ℕ} (h : Exploring limits t g i) (inside : i < g.found.states) where
      pub expand_asks : ExpandAsks (quadruples limits) g i shape.letters
      expand_asks = record { built = h.built; shows = h.shows; inside = inside; letters_inside = letters_few }

      listed : i < length h.built.states
      listed = let e = h.shows.states.counted in let m = inside in omega arith

      at_state : quadruple_at g.sets.now i ≡ state_at (system_of t) h.built.states i
      unfolding state_at system_of ncsb
      at_state = kept_at h.shows.states i inside

      small : Small (moves (meaning t)).states (state_at (system_of t) h.built.states i)
      unfolding system_of
      small =
          let both = checked_split t passed in
          (reached_fine both.0 both.1 (h.at.explored.sound.reached i listed)).small

      same_test : (x y : Quadruple) → (ncsb (array_moves masks shape)).same x y ≡ (system_of t).same x y
      unfolding system_of ncsb
      same_test x y = refl

      nexts :
          (c : ℕ) →
          (ncsb (array_moves masks shape)).nexts (state_at (system_of t) h.built.states i) c
          ≡ (system_of t).nexts (state_at (system_of t) h.built.states i) c
      unfolding system_of ncsb
      nexts c = successors_same (checked_split t passed).0 widens (state_at (system_of t) h.built.states i) small c

      -- a state's edges by the code are its edges in the complement
      expands : by_letters (ncsb (array_moves masks shape)) shape.letters i (quadruple_at g.sets.now i) h.built ≡ expand (system_of t) i h.built
      unfolding expand array_moves
      expands =
          rw (at_state, letters_all)
          (letters_agree (ncsb (array_moves masks shape)) (system_of t) same_test (system_of t).letters i
          (state_at (system_of t) h.built.states i) (λ c m. nexts c) h.built)

      next : AtState (system_of t) (bound (moves (meaning t))) (suc i) (expand (system_of t) i h.built)
      unfolding system_of
      next = state_step (system_of t) (system_decides t) (few_quadruples t passed) listed h.at

      module _ {g' : Growth} where
        pub expand_full :
            Turns (quadruples limits) (by_letters (ncsb (array_moves masks shape)) shape.letters i (quadruple_at g.sets.now i)) g g' None →
            (quadruples limits).capacity g'.sets.now < length (complement t).states
        unfolding complement
        expand_full turn =
            over_grown (state_grows (system_of t) (system_decides t) (few_quadruples t passed) next)
            (rw expands at (turn.from h.built h.shows))

        pub expand_turn :
            Turns (quadruples limits) (by_letters (ncsb (array_moves masks shape)) shape.letters i (quadruple_at g.sets.now i)) g g'
            (Some tt) →
            Exploring limits t g' (i + 1)
        expand_turn turn =
            rw add-one (record { built = expand (system_of t) i h.built; shows = rw expands at (turn.from h.built h.shows); at = next })

  pub explore_end :
      {limits : Limits} {g : Growth} {i : ℕ} → Exploring limits t g i → g.found.states ≤ i →
      Shows (quadruples limits) (complement t) (held g) g.found
  unfolding system_of complement
  explore_end h all_done =
      let e = h.shows.states.counted in
      let all : h.built ≡ complement t =
      state_end (system_of t) (system_decides t) (few_quadruples t passed) (omega arith) h.at in
      rw all at h.shows
