-- The second demand: what is built of a pattern that passes the check is its reachable NCSB complement, exactly; its words are a table
-- that means it, of each range that it fits; and they are what an accepted build leaves. Of any build, which number and place it answers.
-- Assumes nothing.
use mathlib.Core.Path.{◌≡◌, refl, sym, ◌∙◌, ap}
use mathlib.Core.List.{List}
use Prim.Native.Nat.{ℕ, zero, suc, ◌*◌, ◌≤◌}
use native.Mathlib.Omega.{arith}
use lib.ListN.{length}
use lib.Pow.{pow_pos}
use Rattle.basics.specs.Buffers.{filled}
use Rattle.basics.proofs.Filled.{filled_take}
use Rattle.basics.proofs.Refusing.{or_else_none, after_accepted}
use Rattle.automata.specs.Automaton.{Same}
use Rattle.automata.specs.System.{AtMost, Decides, Distinct, Exactly, state_at, numbered}
use Rattle.automata.proofs.Explore.{explore_exactly, exactly_at_most}
use Rattle.automata.proofs.Members.{prefix_length}
use Rattle.automata.proofs.Numbered.{starts_first}
use Rattle.sets.specs.Sets.{size}
use Rattle.tables.specs.Table.{Limits, table_words, k_of, meaning, pattern_range, table_refusal}
use Rattle.tables.proofs.Laws.{valid}
use Rattle.ncsb.specs.Bound.{bound}
use Rattle.ncsb.specs.Successors.{ncsb, initial_free}
use Rattle.ncsb.proofs.Bound.{few_reached}
use Rattle.ncsb.proofs.Initials.{initials_length}
use Rattle.ncsb.proofs.Reached.{decides, initials_apart}
use Rattle.basics.specs.Refusals.{no_place}
use Rattle.patterns.specs.Check.{check_refusal, check_place}
use Rattle.patterns.specs.Pattern.{moves}
use Rattle.basics.specs.declared.Place.{Place}
use Rattle.patterns.proofs.Answers.{passed_no_place}
use Rattle.patterns.proofs.Passed.{checked_table, checked_split}
use Rattle.layout.specs.Orderly.{Orderly, HasEdges}
use Rattle.layout.proofs.Meaning.{chained_meaning}
use Rattle.layout.proofs.Rising.{numbered_orderly, numbered_lists}
use Rattle.layout.proofs.Valid.{chained_valid}
use Rattle.layout.proofs.Words.{chained_length}
use Rattle.record_words.specs.Record.{record_words}
use Rattle.record_words.proofs.Laws.{rows_long}
use Rattle.complement.specs.Build.{Lent, Room, room_of, room_refusal, build_refusal, as_counts, BuildSays, used, used_sets}
use Rattle.complement.specs.Complement.{system_of, complement, complement_automaton, complement_words, sets_words}
use Rattle.complement.specs.declared.Counts.{Counts}
use Rattle.complement.proofs.Room.{states_over, table_over, all_fits, room_cases}

-- a complement whose states and edges a table of the range can have
pub record Fits (limits : Limits) (t : List ℕ) : Type 0 where
  pub states : length (complement t).states ≤ limits.states
  pub edges : length (complement t).edges ≤ limits.records

pub system_decides : (t : List ℕ) → Decides (system_of t)
unfolding system_of
system_decides t = decides (moves (meaning t))

module _ (t : List ℕ) (passed : check_refusal t ≡ 0) where
  -- the paper's bound, section 3.3: at most 2^p·3^a·4^r quadruples are reached
  pub few_quadruples : AtMost (system_of t) (bound (moves (meaning t)))
  unfolding system_of
  few_quadruples = let (sp, sl) = checked_split t passed in few_reached sp sl

  -- initial quadruples are told apart
  pub starts_apart : Distinct (system_of t) (system_of t).starts
  unfolding system_of ncsb
  starts_apart = initials_apart (moves (meaning t))

  -- THE SECOND DEMAND at the definitions: every reachable quadruple and edge and no other, once, numbered as docs/RULES.md says
  pub pattern_exactly : Exactly (system_of t) (complement t)
  unfolding complement
  pattern_exactly = explore_exactly (system_of t) (system_decides t) starts_apart few_quadruples

  -- so the complement has no more states
  pub few_states : length (complement t).states ≤ bound (moves (meaning t))
  few_states = exactly_at_most (system_of t) (complement t) (bound (moves (meaning t))) pattern_exactly few_quadruples

  -- there is always an initial state
  pub some_state : 1 ≤ length (complement t).states
  unfolding system_of ncsb
  some_state =
      let d = moves (meaning t) in
      let g = prefix_length (starts_first (system_of t) (system_decides t) (complement t) pattern_exactly) in
      let e = initials_length d in
      let p = pow_pos (size d.states (initial_free d)) in omega arith

  pub complement_orderly : Orderly (complement_automaton t) (complement t).edges
  unfolding complement_automaton
  complement_orderly = numbered_orderly (system_of t) (system_decides t) (complement t) pattern_exactly

  pub complement_lists : HasEdges (complement_automaton t) (complement t).edges
  unfolding complement_automaton
  complement_lists = numbered_lists (system_of t) (system_decides t) (complement t) pattern_exactly

  -- its words mean it
  pub words_mean : Same (meaning (complement_words t)) (complement_automaton t)
  unfolding complement_words
  words_mean = chained_meaning (complement_automaton t) (complement t).edges complement_orderly complement_lists

  -- so they have the pattern's letters
  pub words_letters : k_of (complement_words t) ≡ k_of t
  unfolding meaning complement_automaton numbered system_of ncsb moves
  words_letters = words_mean.letters

  -- and are a table of each range that it fits
  pub words_valid : (limits : Limits) → Fits limits t → table_refusal limits (complement_words t) ≡ 0
  unfolding complement_words complement_automaton numbered system_of ncsb moves meaning
  words_valid limits fits =
      let v = valid pattern_range t (checked_table t passed) in
      let o = complement_orderly in
      chained_valid limits (complement_automaton t) (complement t).edges o some_state fits.states v.letters_from
      v.letters_to fits.edges

-- THE LENGTHS of the complement's words, and of its sets
pub words_length :
    (t : List ℕ) →
    length (complement_words t) ≡ table_words (length (complement t).states) (length (complement t).edges)
unfolding complement_words complement_automaton numbered
words_length t = chained_length (complement_automaton t) (complement t).edges

pub sets_length : (t : List ℕ) → length (sets_words t) ≡ record_words * length (complement t).states
unfolding sets_words
sets_length t = rows_long (length (complement t).states) (λ i. state_at (system_of t) (complement t).states i)

-- WHAT A BUILD SAYS, and an accepted one
pub counts_number : (number : ℕ) (p : Place) (n m : ℕ) → (as_counts number p n m).number ≡ number
unfolding as_counts
counts_number zero p n m = refl
counts_number (suc r) p n m = refl

-- its place is the one handed on, if that is none where the build is accepted
counts_place : (number : ℕ) (p : Place) (n m : ℕ) → (number ≡ 0 → p ≡ no_place) → (as_counts number p n m).place ≡ p
unfolding as_counts
counts_place zero p n m none = sym (none refl)
counts_place (suc r) p n m none = refl

-- its number is the refusal
pub build_number :
    {limits : Limits} {t : List ℕ} {r : Counts} {before after : Lent} → BuildSays limits t r before after →
    r.number ≡ build_refusal limits t (room_of before)
build_number {limits} {t} {r} {before} says =
    ap (λ (c : Counts). c.number) says.answer
    ∙ counts_number (build_refusal limits t (room_of before)) (check_place t) (length (complement t).states) (length (complement t).edges)

-- it is zero only where the check passes and there is room
none_refuses :
    (limits : Limits) (t : List ℕ) (room : Room) → build_refusal limits t room ≡ 0 →
    (check_refusal t ≡ 0)
    × (room_refusal limits room (length (complement t).states) (length (complement t).edges) ≡ 0)
unfolding build_refusal
none_refuses limits t room none =
    or_else_none (check_refusal t) (room_refusal limits room (length (complement t).states) (length (complement t).edges)) none

-- its place is the check's
pub build_place :
    {limits : Limits} {t : List ℕ} {r : Counts} {before after : Lent} → BuildSays limits t r before after → r.place ≡ check_place t
build_place {limits} {t} {r} {before} says =
    ap (λ (c : Counts). c.place) says.answer
    ∙ counts_place (build_refusal limits t (room_of before)) (check_place t) (length (complement t).states) (length (complement t).edges)
    (λ none. passed_no_place t (none_refuses limits t (room_of before) none).0)

module _
    {limits : Limits} {t : List ℕ} {r : Counts} {before after : Lent} (says : BuildSays limits t r before after)
    (accepted : r.number ≡ 0) where
  -- none of 2 to 12 is met
  build_accepted : build_refusal limits t (room_of before) ≡ 0
  build_accepted = sym (build_number says) ∙ accepted

  pub build_states : r.states ≡ length (complement t).states
  unfolding as_counts
  build_states = ap (λ (c : Counts). c.states) says.answer ∙ rw build_accepted

  pub build_edges : r.edges ≡ length (complement t).edges
  unfolding as_counts
  build_edges = ap (λ (c : Counts). c.edges) says.answer ∙ rw build_accepted

  -- so the pattern passes the check, and its complement fits the range
  pub build_passed : check_refusal t ≡ 0
  build_passed = (none_refuses limits t (room_of before) build_accepted).0

  pub build_fits : Fits limits t
  build_fits =
      let none = (none_refuses limits t (room_of before) build_accepted).1 in
      elim (room_cases limits (room_of before) (length (complement t).states) (length (complement t).edges)) [
        | states_over many e ↦ absurd (omega arith)
        | table_over few fewer long e ↦ absurd (omega arith)
        | all_fits few states edges words e ↦ record { states = states; edges = edges }
      ]

  -- what is left of the words begins with the complement's table, and of the sets with its quadruples
  pub words_left : after.words ≡ filled (complement_words t) before.words
  words_left = says.words ∙ after_accepted _ build_accepted (complement_words t) before.words

  pub sets_left : after.sets ≡ filled (sets_words t) before.sets
  sets_left = says.sets ∙ after_accepted _ build_accepted (sets_words t) before.sets

  -- the used part of the words is the complement's table
  pub build_used : used r after.words ≡ complement_words t
  unfolding used
  build_used =
      rw words_left
      (filled_take (complement_words t) before.words (table_words r.states r.edges)
      (let n = build_states in let m = build_edges in let l = words_length t in cc))

  -- and that of the sets its quadruples
  pub build_sets : used_sets r after.sets ≡ sets_words t
  unfolding used_sets
  build_sets =
      rw sets_left
      (filled_take (sets_words t) before.sets (record_words * r.states) (sets_length t ∙ sym (ap (λ (n : ℕ). record_words * n) build_states)))
