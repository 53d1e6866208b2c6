-- What the lent buffers and the counts keep of what was found while exploring. All but the last part holds of any construction: of states of
-- any type, kept in any format. Assumes nothing: these are definitions.
use Rattle.std.specs.Prelude.{◌≡◌, cond, ℕ, suc, ◌+◌, ◌*◌, ◌-◌, ◌/◌, ◌≤◌, ◌<◌, min, ltb, length, get_or, take, Option, Some, None, option_map, Result, OnOk}
use mathlib.Core.List.{List, [], ◌∷◌, flat_map}
use Rattle.std.proofs.lemmas.List.Edits.{sets}
use Rattle.basics.specs.Buffers.{filled}
use Rattle.basics.specs.declared.Refusal.{Refusal}
use Rattle.sets.specs.Sets.{row_letters}
use Rattle.automata.specs.System.{Edge, Built}
use Rattle.tables.specs.Table.{Limits, wide_range, meaning}
use Rattle.ncsb.specs.Array.{from_array}
use Rattle.ncsb.specs.Moves.{Moves}
use Rattle.ncsb.specs.Successors.{initials}
use Rattle.ncsb.specs.declared.Quadruple.{Quadruple}
use Rattle.patterns.specs.Check.{check_refusal, check_place}
use Rattle.patterns.specs.Masks.{masks_of}
use Rattle.patterns.specs.Pattern.{moves}
use Rattle.patterns.specs.Shape.{shape_of}
use Rattle.ncsb.specs.declared.Shape.{Shape}
use Rattle.record_words.specs.Record.{all_words, with_quadruple}
use Rattle.complement.specs.Build.{Lent, lent, room_of, build_refusal, as_counts, counted}
use Rattle.complement.specs.Complement.{complement, complement_words, sets_words}
use Rattle.complement.specs.Records.{capacity, looked_up}
use Rattle.complement.specs.declared.Size.{Size}
use Rattle.complement.specs.declared.explore.Growth.{Growth}
use Rattle.complement.specs.declared.explore.Progress.{Progress}

-- a buffer that begins with these words, and is zero beyond them
pub record Begins (new words : List ℕ) : Type 0 where
  pub at : (i : ℕ) → get_or words i 0 ≡ get_or new i 0

-- A FORMAT of states: what a table can have, the words of states one after the other, and how many states there is room for
pub record Format (X : Type 0) : Type 0 where
  pub limits : Limits
  pub letters : ℕ
  pub state_words : List X → List ℕ
  pub capacity : (words : List ℕ) → ℕ

-- STATES: all of them, one record after the other
pub record StatesKept {X : Type 0} (f : Format X) (xs : List X) (sets_words : List ℕ) (count : ℕ) : Type 0 where
  pub counted : count ≡ length xs
  pub fits : length xs ≤ f.capacity sets_words
  pub begins : Begins (f.state_words xs) sets_words

-- EDGES: from word 3 on, three words each, as many as there is room for
unfoldable pub triple : Edge → List ℕ
triple e = e.letter ∷ e.target ∷ e.source ∷ []

abbrev pub triples : List Edge → List ℕ
triples = flat_map triple

unfoldable pub edge_room : Limits → (words : List ℕ) → ℕ
edge_room limits w = min ((length w - 3) / 3) limits.records

-- their count stops one above what a table can have
unfoldable pub counted_to : Limits → ℕ
counted_to limits = suc limits.records

pub record EdgesKept (limits : Limits) (es : List Edge) (words : List ℕ) (count : ℕ) : Type 0 where
  pub counted : count ≡ min (length es) (counted_to limits)
  pub begins : Begins (0 ∷ 0 ∷ 0 ∷ triples (take (edge_room limits words) es)) words

-- one more edge, behind so many
unfoldable pub with_edge : Limits → (words : List ℕ) → (count : ℕ) → Edge → List ℕ
with_edge limits w m e = cond (ltb m (edge_room limits w)) (sets w (3 + 3 * m) (triple e)) w

unfoldable pub one_more : Limits → (count : ℕ) → ℕ
one_more limits m = min (suc m) (counted_to limits)

-- BOTH in the lent buffers, while the states fit
pub record Shows {X : Type 0} (f : Format X) (b : Built X) (l : Lent) (p : Progress) : Type 0 where
  pub states : StatesKept f b.states l.sets p.states
  pub edges : EdgesKept f.limits b.edges l.words p.edges

-- what is left of something found: all of it is kept, or there are more states than fit. The buffers then hold what was found
-- before that, which nobody reads: the build is refused, and clears them.
abbrev pub Ends : {X : Type 0} → Format X → Built X → Lent → Option Progress → Type 0
Ends f b l (Some p) = Shows f b l p
Ends f b l None = f.capacity l.sets < length b.states

-- A GROWTH: what its buffers hold
abbrev pub held : Growth → Lent
held g = lent g.words.now g.sets.now

-- the buffers are the same ones before and after, and as long as they were
pub record SameBuffers (before after : Growth) : Type 0 where
  pub words : after.words.ghost_name ≡ before.words.ghost_name
  pub sets : after.sets.ghost_name ≡ before.sets.ghost_name
  pub words_length : length after.words.now ≡ length before.words.now
  pub sets_length : length after.sets.now ≡ length before.sets.now

-- one more edge, and nothing else
pub record EdgeAdded (limits : Limits) (e : Edge) (before after : Growth) : Type 0 where
  pub words : after.words.now ≡ with_edge limits before.words.now before.found.edges e
  pub sets : after.sets.now ≡ before.sets.now
  pub states : after.found.states ≡ before.found.states
  pub edges : after.found.edges ≡ one_more limits before.found.edges

-- WHAT A STEP OF EXPLORING DOES: where the buffers keep something found, they then keep what the step makes of it, or the step
-- answers that there are more states than fit
pub record Turns {X : Type 0} (f : Format X) (step : Built X → Built X) (before after : Growth) (answer : Option Unit) : Type 0 where
  pub same : SameBuffers before after
  pub from :
      (b : Built X) → Shows f b (held before) before.found → Ends f (step b) (held after) (option_map (λ _. after.found) answer)

-- what a step asks: the buffers keep something found, and the source and the letter are a state and a letter of it
pub record StepAsks {X : Type 0} (f : Format X) (g : Growth) (source letter : ℕ) : Type 0 where
  pub built : Built X
  pub shows : Shows f built (held g) g.found
  pub inside : source < g.found.states
  pub letter_inside : letter < f.letters

-- the same of all letters of a state
pub record ExpandAsks {X : Type 0} (f : Format X) (g : Growth) (source letters : ℕ) : Type 0 where
  pub built : Built X
  pub shows : Shows f built (held g) g.found
  pub inside : source < g.found.states
  pub letters_inside : letters ≤ f.letters

-- QUADRUPLES, in tables of a range
abbrev pub quadruples : Limits → Format Quadruple
quadruples limits = record { limits = limits; letters = row_letters; state_words = all_words; capacity = capacity limits }

-- and in wide tables, which the build makes
abbrev pub wide_quadruples : Format Quadruple
wide_quadruples = quadruples wide_range

-- the moves that a step reads off the table by state and by letter
unfoldable pub array_moves : (masks : List (List ℕ)) → Shape → Moves
array_moves m s = from_array m 0 s.marks s.inner

-- a quadruple behind so many others, and its number: it is one of them, or new, or new and there is no room for it
pub data Placed (limits : Limits) (x : Quadruple) (before after : Growth) (number : Option ℕ) : Type 0 where
  known :
      (n : ℕ) → number ≡ Some n → n < before.found.states → n ≡ looked_up before.sets.now before.found.states x →
      after.sets.now ≡ before.sets.now → after.found ≡ before.found → Placed limits x before after number
  fresh :
      number ≡ Some before.found.states → before.found.states ≡ looked_up before.sets.now before.found.states x →
      before.found.states < capacity limits before.sets.now →
      after.sets.now ≡ with_quadruple before.sets.now before.found.states x → after.found.states ≡ before.found.states + 1 →
      after.found.edges ≡ before.found.edges → Placed limits x before after number
  left_out :
      number ≡ None → before.found.states ≡ looked_up before.sets.now before.found.states x →
      capacity limits before.sets.now ≤ before.found.states → after.sets.now ≡ before.sets.now → after.found ≡ before.found →
      Placed limits x before after number

-- INITIAL STATES: all of them are kept, or they do not fit
unfoldable pub start_moves : Shape → Moves
start_moves s = from_array [] s.starts s.marks s.inner

abbrev pub Started : Limits → Shape → (sets_words : List ℕ) → (states : Option ℕ) → Type 0
Started limits shape s (Some n) = StatesKept (quadruples limits) (initials (start_moves shape)) s n
Started limits shape s None = capacity limits s < length (initials (start_moves shape))

-- WHAT IS READ OFF a pattern that passes the check
pub record ReadOff (table : List ℕ) (masks : List (List ℕ)) (shape : Shape) : Type 0 where
  pub passed : check_refusal table ≡ 0
  pub masked : masks ≡ masks_of (moves (meaning table))
  pub shaped : shape ≡ shape_of (moves (meaning table))

-- masks and shape of some pattern
pub record OfPattern (masks : List (List ℕ)) (shape : Shape) : Type 0 where
  pub table : List ℕ
  pub read_off : ReadOff table masks shape

-- what exploring asks: masks and shape are read off a pattern, and the buffers are zero
pub record ExploreAsks (masks : List (List ℕ)) (shape : Shape) (l : Lent) : Type 0 where
  pub of_pattern : OfPattern masks shape
  pub words_clear : Begins [] l.words
  pub sets_clear : Begins [] l.sets

-- what exploring says: it ends with the complement of whatever pattern they are read off
pub record ExploredTo (limits : Limits) (masks : List (List ℕ)) (shape : Shape) (l : Lent) (p : Option Progress) : Type 0 where
  pub ends : (t : List ℕ) → ReadOff t masks shape → Ends (quadruples limits) (complement t) l p

-- what a try of building a table says: it answers what the build does, and what it accepts is in the buffers
pub record Tried (limits : Limits) (t : List ℕ) (r : Result Size Refusal) (before after : Lent) : Type 0 where
  pub answer :
      counted r
      ≡ as_counts (build_refusal limits t (room_of before)) (check_place t) (length (complement t).states) (length (complement t).edges)
  pub words : OnOk r (after.words ≡ filled (complement_words t) before.words)
  pub sets : OnOk r (after.sets ≡ filled (sets_words t) before.sets)

-- what building says: it is a try of whatever pattern they are read off
pub record BuiltFrom
    (limits : Limits) (masks : List (List ℕ)) (shape : Shape) (r : Result Size Refusal) (before after : Lent) : Type 0 where
  pub says : (t : List ℕ) → ReadOff t masks shape → Tried limits t r before after
