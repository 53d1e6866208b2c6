-- What the build refuses, answers and leaves (docs/RULES.md, "Refusals": the build uses 2 to 12). Assumes nothing: these are definitions.
use Rattle.std.specs.Prelude.{◌≡◌, Bool, ◌||◌, cond, List, ℕ, zero, suc, ◌*◌, ltb, length, take, Result, Ok, Err}
use Rattle.basics.specs.Buffers.{or_else, after_call}
use Rattle.basics.specs.Refusals.{number, no_place, place_of}
use Rattle.basics.specs.declared.Refusal.{Refusal}
use Rattle.tables.specs.Table.{Limits, table_words}
use Rattle.patterns.specs.Check.{check_refusal, check_place}
use Rattle.basics.specs.declared.Place.{Place}
use Rattle.record_words.specs.Record.{record_words, full_records}
use Rattle.complement.specs.Complement.{complement, complement_words, sets_words}
use Rattle.complement.specs.declared.Counts.{Counts}
use Rattle.complement.specs.declared.Size.{Size}

-- THE LENT BUFFERS of a build: the words of the table, and the words of the sets
pub record Lent : Type 0 where
  pub words : List ℕ
  pub sets : List ℕ

abbrev pub lent : (words sets : List ℕ) → Lent
lent o s = record { words = o; sets = s }

-- THE ROOM: the lent table words, and the full records among the lent sets words
pub record Room : Type 0 where
  pub words : ℕ
  pub records : ℕ

unfoldable pub room_of : Lent → Room
room_of l = record { words = length l.words; records = full_records l.sets }

-- more edges than a table can have, or more words than are lent
abbrev pub too_long : Limits → (words states edges : ℕ) → Bool
too_long limits w n m = ltb limits.records m || ltb w (table_words n m)

-- 11: more states than the lent records, or than a table can have; 12: the table is too long
unfoldable pub room_refusal : Limits → Room → (states edges : ℕ) → ℕ
room_refusal limits r n m =
    cond (ltb r.records n || ltb limits.states n) 11 (cond (too_long limits r.words n m) 12 0)

-- 2 to 10 of the check, then those: for a table of a range
unfoldable pub build_refusal : Limits → List ℕ → Room → ℕ
build_refusal limits t r =
    or_else (check_refusal t) (room_refusal limits r (length (complement t).states) (length (complement t).edges))

-- the answer for each number, place and both counts: the counts where the build is accepted, and else the number with its place
unfoldable pub as_counts : (number : ℕ) → Place → (states edges : ℕ) → Counts
as_counts zero p n m = record { number = 0; states = n; edges = m; place = no_place }
as_counts (suc r) p n m = record { number = suc r; states = 0; edges = 0; place = p }

-- an answer in numbers: zero and both counts, or the refusal's number and place
abbrev pub counted : Result Size Refusal → Counts
counted (Ok size) = record { number = 0; states = size.states; edges = size.edges; place = no_place }
counted (Err r) = record { number = number r; states = 0; edges = 0; place = place_of r }

-- what the build of a table of a range answers, with the check's place, and what it leaves of the lent buffers
pub record BuildSays (limits : Limits) (t : List ℕ) (r : Counts) (before after : Lent) : Type 0 where
  pub answer :
      r
      ≡ as_counts (build_refusal limits t (room_of before)) (check_place t) (length (complement t).states) (length (complement t).edges)
  pub words : after.words ≡ after_call (build_refusal limits t (room_of before)) (complement_words t) before.words
  pub sets : after.sets ≡ after_call (build_refusal limits t (room_of before)) (sets_words t) before.sets

-- THE COMPLEMENT: the used part of the table words, by the counts answered
unfoldable pub used : Counts → List ℕ → List ℕ
used r x = take (table_words r.states r.edges) x

-- and of the sets words
unfoldable pub used_sets : Counts → List ℕ → List ℕ
used_sets r x = take (record_words * r.states) x
