-- What the check, the build and a tray refuse, and the second and the third demand, as statements over what the check, the build, the lasso
-- decision and a tray's call answer and leave (docs/RULES.md, "Refusals", "Numbering and result", "A tray of lassos" and "Runs, and what the
-- third demand compares"): of patterns, and of tables of any range in words of any bits.
-- Assumes nothing: these are definitions.
use Rattle.std.specs.Prelude.{◌≡◌, true, List, ◌⊎◌, ◌↔◌, ℕ, ◌^◌, ◌≤◌, ◌<◌, length, get_or, replicate}
use Rattle.basics.specs.declared.Written.{Written}
use Rattle.automata.specs.Automaton.{AcceptingRun, Takes, SingleRun, Same}
use Rattle.automata.specs.Lasso.{letter_at, Lasso}
use Rattle.automata.specs.System.{Member, Reached, Exactly}
use Rattle.tables.specs.Table.{Limits, pattern_range, table_words, k_of, meaning, table_refusal}
use Rattle.ncsb.specs.Bound.{bound}
use Rattle.ncsb.specs.Step.{Start, Step, RisingS}
use Rattle.ncsb.specs.declared.Quadruple.{Quadruple}
use Rattle.patterns.specs.Check.{check_refusal, no_place, checked}
use Rattle.patterns.specs.Forks.{SomeFork, ForksFirst}
use Rattle.patterns.specs.Pattern.{moves}
use Rattle.patterns.specs.declared.Checked.{Checked}
use Rattle.patterns.specs.declared.Checked.TheVariants.{Passed}
use Rattle.basics.specs.declared.Place.{Place}
use Rattle.complement.specs.Build.{Lent, Room, room_of, BuildSays, used, used_sets}
use Rattle.complement.specs.Complement.{system_of, complement, complement_automaton, complement_words, sets_words}
use Rattle.complement.specs.declared.Counts.{Counts}
use Rattle.lassos.specs.Decision.{Decision, Taken, NotTaken, Refused, LassoSays}
use Rattle.lassos.specs.Refusals.{lasso_refusal}
use Rattle.trays.specs.Answers.{TraySays}
use Rattle.trays.specs.Tray.{Parts, no_lasso, list_of}
use Rattle.tubochre.specs.Calls.{as_check_answer, LassoAnswers}
use Rattle.tubochre.specs.declared.Answer.{Answer}
use Rattle.tubochre.specs.declared.CheckAnswer.{CheckAnswer}

-- THE PLACE that the check and a build carry with their number
pub record PlacedExactly (t : List ℕ) (number : ℕ) (at : Place) : Type 0 where
  -- 10: where the pattern forks first
  pub forks : number ≡ 10 → ForksFirst (meaning t) at
  -- any other number: zero and zero
  pub none : (number ≡ 10 → ⊥) → at ≡ no_place

-- THE CHECK: each refusal comes in its case and in no other
pub record CheckedExactly (t : List ℕ) (r : CheckAnswer) : Type 0 where
  -- 2 to 9 are those of a pattern's table, and there is no 1
  pub table : (k : ℕ) → 1 ≤ k → k ≤ 9 → (r.number ≡ k) ↔ (table_refusal pattern_range t ≡ k)
  -- 10: none of them, and some state of Q2 has two targets on one letter; 0: none of them, and no state has
  pub forked : (r.number ≡ 10) ↔ ((table_refusal pattern_range t ≡ 0) × SomeFork (meaning t))
  pub passed : (r.number ≡ 0) ↔ ((table_refusal pattern_range t ≡ 0) × (SomeFork (meaning t) → ⊥))
  pub no_other : r.number ≤ 10
  pub place : PlacedExactly t r.number r.place

-- whatever the check answers
unfoldable pub CheckDemand : Type 0
CheckDemand = (t : List ℕ) (r : CheckAnswer) → r ≡ as_check_answer (checked t) → CheckedExactly t r

-- THE COMPLEMENT of a pattern that passes the check: exactly what is reached of the paper's quadruples
pub record ReachedExactly (t : List ℕ) : Type 0 where
  -- the system explored is the paper's: its initial quadruples, what follows a reached one on a letter, and which accept
  pub starts : (x : Quadruple) → Member x (system_of t).starts ↔ Start (meaning t) (moves (meaning t)) x
  pub steps :
      (x : Quadruple) → Reached (system_of t) x → (c : ℕ) (y : Quadruple) →
      Member y ((system_of t).nexts x c) ↔ Step (meaning t) (moves (meaning t)) x c y
  pub accepting : (x : Quadruple) → ((system_of t).accepting x ≡ true) ↔ (x.B ≡ 0)
  -- in which order: by rising S, and on each letter by rising S'
  pub starts_rise : RisingS (system_of t).starts
  pub steps_rise : (x : Quadruple) (c : ℕ) → RisingS ((system_of t).nexts x c)
  -- every reachable state and every edge and no other, once, numbered in order of discovery
  pub exactly : Exactly (system_of t) (complement t)

-- THE SECOND DEMAND, of an accepted build and the buffers that it left
pub record BuiltExactly (bits : ℕ) (range : Limits) (t : List ℕ) (r : Counts) (left : Lent) : Type 0 where
  -- what is built is the complement
  pub reached : ReachedExactly t
  -- the counts answered are its sizes
  pub states : r.states ≡ length (complement t).states
  pub edges : r.edges ≡ length (complement t).edges
  -- the used words are its table: a valid one of the range, which means it
  pub table : used r left.words ≡ complement_words t
  pub valid : table_refusal range (used r left.words) ≡ 0
  pub means : Same (meaning (used r left.words)) (complement_automaton t)
  -- each of them is a number of so many bits
  pub fit : (i : ℕ) → i < length (used r left.words) → get_or (used r left.words) i 0 < 2 ^ bits
  -- the used records are its states
  pub records : used_sets r left.sets ≡ sets_words t

-- whatever an accepted build answers and leaves is that
unfoldable pub SecondDemand : (bits : ℕ) → Limits → Type 0
SecondDemand bits range =
    (t : List ℕ) (r : Counts) (before after : Lent) → BuildSays range t r before after → r.number ≡ 0 →
    BuiltExactly bits range t r after

-- REFUSED BUILDS, by the whole complement of a pattern and the room that is lent. 11: more states than the lent records, or than a
-- table of the range can have
unfoldable pub TooManyStates : Limits → List ℕ → Room → Type 0
TooManyStates range t room =
    (room.records < length (complement t).states) ⊎ (range.states < length (complement t).states)

-- 12: more edges than a table of the range can have, or more words needed than are lent
unfoldable pub TooManyWords : Limits → List ℕ → Room → Type 0
TooManyWords range t room =
    (range.records < length (complement t).edges)
    ⊎ (room.words < table_words (length (complement t).states) (length (complement t).edges))

-- a build's number and place: each refusal comes in its case and in no other
pub record RefusedExactly (range : Limits) (t : List ℕ) (room : Room) (number : ℕ) (at : Place) : Type 0 where
  -- 2 to 10 are those of the check
  pub check : (k : ℕ) → 1 ≤ k → k ≤ 10 → (number ≡ k) ↔ (check_refusal t ≡ k)
  -- 11: the pattern passes, and its complement has too many states; 12: the states fit, and edges or words are too many
  pub states : (number ≡ 11) ↔ ((check_refusal t ≡ 0) × TooManyStates range t room)
  pub words : (number ≡ 12) ↔ ((check_refusal t ≡ 0) × (TooManyStates range t room → ⊥) × TooManyWords range t room)
  -- nothing is refused where all fits, and no other number is answered
  pub none : (number ≡ 0) ↔ ((check_refusal t ≡ 0) × (TooManyStates range t room → ⊥) × (TooManyWords range t room → ⊥))
  pub no_other : number ≤ 12
  -- the place, with 10 and with every other number
  pub place : PlacedExactly t number at
  -- what is counted is the whole reachable complement
  pub reached : check_refusal t ≡ 0 → ReachedExactly t

-- whatever a build answers
unfoldable pub RefusedBuilds : Limits → Type 0
RefusedBuilds range =
    (t : List ℕ) (r : Counts) (before after : Lent) → BuildSays range t r before after →
    RefusedExactly range t (room_of before) r.number r.place

-- THE SECOND DEMAND, of a lasso decision d on a table t, a prefix u and a loop v, with so many work words: a lasso is taken exactly if
-- an infinite run over it passes accepting states without end
pub record DecidedExactly (range : Limits) (t u v : List ℕ) (d : Decision) (work : ℕ) : Type 0 where
  -- a refusal is the first of 2 to 9 and 13 to 16 that is met, and nothing else is refused
  pub refused : (number : ℕ) → (d ≡ Refused number) ↔ ((lasso_refusal range t u v work ≡ number) × (1 ≤ number))
  -- where none is met, the table is a valid one of the range and the lasso is over its letters
  pub over : lasso_refusal range t u v work ≡ 0 → (table_refusal range t ≡ 0) × Lasso (k_of t) u v
  -- taken exactly if there is an accepting run, and not taken exactly if there is none
  pub taken : (d ≡ Taken) ↔ ((lasso_refusal range t u v work ≡ 0) × Takes (meaning t) (letter_at u v))
  pub not_taken : (d ≡ NotTaken) ↔ ((lasso_refusal range t u v work ≡ 0) × (Takes (meaning t) (letter_at u v) → ⊥))

-- whatever a lasso decision answers
unfoldable pub LassoDemand : Limits → Type 0
LassoDemand range =
    (t u v : List ℕ) (d : Decision) (w w_now : List ℕ) → LassoSays range t u v d w w_now → DecidedExactly range t u v d (length w)

-- A TRAY. What the byte of a lasso says, of a table that is not refused
pub record ByteExactly (range : Limits) (t : List ℕ) (x : Parts) (byte work : ℕ) : Type 0 where
  -- a byte is 1, 0, or 13 to 16
  pub no_other : (byte ≤ 1) ⊎ ((13 ≤ byte) × (byte ≤ 16))
  -- which refusal: the first that is met (0 and 1 are no refusal's number)
  pub refused : (number : ℕ) → 2 ≤ number → (byte ≡ number) ↔ (lasso_refusal range t x.prefix x.loop work ≡ number)
  -- 1 exactly if none is met and there is an accepting run, and 0 exactly if none is met and there is none
  pub taken : (byte ≡ 1) ↔ ((lasso_refusal range t x.prefix x.loop work ≡ 0) × Takes (meaning t) (letter_at x.prefix x.loop))
  pub not_taken :
      (byte ≡ 0) ↔ ((lasso_refusal range t x.prefix x.loop work ≡ 0) × (Takes (meaning t) (letter_at x.prefix x.loop) → ⊥))

-- what a tray's call answers on a table t and a list s, with so many bytes and work words, and the bytes that it leaves
pub record TrayExactly (range : Limits) (t s : List ℕ) (r : Written) (bytes work : ℕ) (left : List ℕ) : Type 0 where
  -- 17: no lassos make up the list; 18: lassos do, and they are not as many as the bytes
  pub cut : (r.number ≡ 17) ↔ ((xs : List Parts) → s ≡ list_of xs → ⊥)
  pub miscounted : (r.number ≡ 18) ↔ ((xs : List Parts) × (s ≡ list_of xs) × (length xs ≡ bytes → ⊥))
  -- then the table: 2 to 9 are its own, 0 where it is not refused, and there is no other number
  pub table :
      (k : ℕ) → k ≤ 9 →
      (r.number ≡ k) ↔ ((xs : List Parts) × (s ≡ list_of xs) × (length xs ≡ bytes) × (table_refusal range t ≡ k))
  pub no_other : (r.number ≤ 9) ⊎ ((r.number ≡ 17) ⊎ (r.number ≡ 18))
  -- an accepted call answers how many bytes it wrote, a refused one none
  pub count : r.number ≡ 0 → r.count ≡ bytes
  pub no_count : (r.number ≡ 0 → ⊥) → r.count ≡ 0
  -- the bytes, as many as were lent: zero after 17 and 18, the table's number in each after a refusal of the table, and else what is said
  -- of the lasso there
  pub same : length left ≡ bytes
  pub list_bytes : 17 ≤ r.number → left ≡ replicate bytes 0
  pub table_bytes : 1 ≤ r.number → r.number ≤ 9 → left ≡ replicate bytes r.number
  pub lasso_bytes :
      r.number ≡ 0 → (xs : List Parts) → s ≡ list_of xs → (i : ℕ) → i < length xs →
      ByteExactly range t (get_or xs i no_lasso) (get_or left i 0) work

-- whatever a tray's call answers and leaves
unfoldable pub TrayDemand : Limits → Type 0
TrayDemand range =
    (t s : List ℕ) (r : Written) (a a_now w w_now : List ℕ) → TraySays range t s r a a_now w w_now →
    TrayExactly range t s r (length a) (length w) a_now

-- THE THIRD DEMAND. A decision that does not refuse
unfoldable pub NotRefused : Decision → Type 0
NotRefused d = (number : ℕ) → d ≡ Refused number → ⊥

-- of a pattern t, the words c left of its complement, a lasso, and the state count
pub record Compared (range : Limits) (t c u v : List ℕ) (states : ℕ) : Type 0 where
  -- either the pattern takes the lasso and the complement has no accepting run over it, or the pattern does not and the complement
  -- has exactly one
  pub parted :
      (Takes (meaning t) (letter_at u v) × ((run : ℕ → ℕ) → AcceptingRun (meaning c) (letter_at u v) run → ⊥))
      ⊎ ((Takes (meaning t) (letter_at u v) → ⊥) × SingleRun (meaning c) (letter_at u v))
  -- both are valid tables of the range, so a decision refuses neither for its table
  pub tables : (table_refusal range t ≡ 0) × (table_refusal range c ≡ 0)
  -- only for a part of the lasso that is too long, or for too few work words
  pub refusals :
      (d : Decision) (w w_now : List ℕ) (number : ℕ) → LassoSays range t u v d w w_now ⊎ LassoSays range c u v d w w_now →
      d ≡ Refused number → (number ≡ 14) ⊎ (number ≡ 16)
  -- two decisions that do not refuse answer taken for exactly the one that takes it
  pub decisions :
      (d e : Decision) (w w_now z z_now : List ℕ) → LassoSays range t u v d w w_now → LassoSays range c u v e z z_now →
      NotRefused d → NotRefused e →
      (Takes (meaning t) (letter_at u v) × (d ≡ Taken) × (e ≡ NotTaken))
      ⊎ (Takes (meaning c) (letter_at u v) × (d ≡ NotTaken) × (e ≡ Taken))
  -- and so do two answers in numbers: where neither has a refusal's number, `taken` is 1 for exactly the one that takes it
  pub answers :
      (d e : Answer) (w w_now z z_now : List ℕ) → LassoAnswers range t u v d w w_now → LassoAnswers range c u v e z z_now →
      d.number ≡ 0 → e.number ≡ 0 →
      (Takes (meaning t) (letter_at u v) × (d.taken ≡ 1) × (e.taken ≡ 0))
      ⊎ (Takes (meaning c) (letter_at u v) × (d.taken ≡ 0) × (e.taken ≡ 1))
  -- and the states are few: 2^p·3^a·4^r
  pub few : states ≤ bound (moves (meaning t))

-- whatever pattern passes the check, whatever room its complement is built in without refusal, and whatever lasso over its letters
unfoldable pub ThirdDemand : Limits → Type 0
ThirdDemand range =
    (t : List ℕ) (answer : Checked) (r : Counts) (before after : Lent) (u v : List ℕ) →
    answer ≡ checked t → answer ≡ Passed → BuildSays range t r before after → r.number ≡ 0 →
    Lasso (k_of t) u v → Compared range t (used r after.words) u v r.states

-- THE THIRD DEMAND, of a tray. The bytes of a lasso on a pattern t and on the words c left of its complement: opposite, 1 for exactly the
-- one that takes it
pub data Opposite (t c : List ℕ) (x : Parts) (first second : ℕ) : Type 0 where
  by_pattern : Takes (meaning t) (letter_at x.prefix x.loop) → first ≡ 1 → second ≡ 0 → Opposite t c x first second
  by_complement : Takes (meaning c) (letter_at x.prefix x.loop) → first ≡ 0 → second ≡ 1 → Opposite t c x first second

-- of a pattern t, the words c left of its complement, the lassos tried on both, and what the two calls answered and left
pub record TrayCompared (t c : List ℕ) (xs : List Parts) (p q : Written) (left left' : List ℕ) : Type 0 where
  -- neither call is refused
  pub accepted : (p.number ≡ 0) × (q.number ≡ 0)
  -- where both bytes of a lasso are 0 or 1 they are opposite
  pub opposite :
      (i : ℕ) → i < length xs → get_or left i 0 ≤ 1 → get_or left' i 0 ≤ 1 →
      Opposite t c (get_or xs i no_lasso) (get_or left i 0) (get_or left' i 0)
  -- and where one is 13, 14 or 15, so is the other: only work words can be too few for one of the two
  pub alike :
      (i : ℕ) → i < length xs → (number : ℕ) → 13 ≤ number → number ≤ 15 → (get_or left i 0 ≡ number) ↔ (get_or left' i 0 ≡ number)

-- whatever pattern passes the check, whatever room its complement is built in without refusal, and whatever lassos are tried on both, with
-- a byte for each
unfoldable pub ThirdTray : Limits → Type 0
ThirdTray range =
    (t : List ℕ) (answer : Checked) (r : Counts) (before after : Lent) → answer ≡ checked t → answer ≡ Passed →
    BuildSays range t r before after → r.number ≡ 0 →
    (xs : List Parts) (p q : Written) (a a_now w w_now b b_now z z_now : List ℕ) → length xs ≡ length a → length xs ≡ length b →
    TraySays range t (list_of xs) p a a_now w w_now → TraySays range (used r after.words) (list_of xs) q b b_now z z_now →
    TrayCompared t (used r after.words) xs p q a_now b_now
