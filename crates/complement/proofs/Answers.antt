-- What the build answers: which refusal the counts found say, and that a refusal or an accepted build is what the definitions say. Assumes nothing.
use mathlib.Core.Path.{◌≡◌, refl, sym, ◌∙◌, ap}
use mathlib.Core.Bool.{Bool, true, false, cond}
use mathlib.Core.List.{List}
use mathlib.Core.Logic.{inl, inr}
use Prim.Native.Nat.{ℕ, zero, suc, ◌≤◌, ◌<◌, min}
use native.Mathlib.Omega.{arith}
use lib.Dec.{ltb}
use lib.ListN.{length}
use Rattle.std.proofs.Common.{Result, Ok, Err, is_err, replicate}
use Rattle.basics.specs.Buffers.{or_else, zeros, filled}
use Rattle.basics.specs.Refusals.{number, place_of}
use Rattle.basics.specs.declared.Refusal.{Refusal}
use Rattle.basics.specs.declared.Refusal.TheVariants as why
use Rattle.basics.proofs.Booleans.{either, ltb_lt, ltb_ge, lt_ltb, ge_ltb, ne_eqb, both_within}
use Rattle.basics.proofs.Refusals.{numbered}
use Rattle.basics.proofs.Refusing.{after_accepted, after_refused}
use Rattle.tables.specs.Table.{Limits, table_words}
use Rattle.patterns.specs.Check.{check_refusal, check_place, reading, masks_read}
use Rattle.patterns.specs.Reading.{read_as}
use Rattle.basics.specs.declared.Place.{Place}
use Rattle.patterns.proofs.Answers.{passed_no_place, reading_refused, reading_place, reading_passed, reading_shape, reading_masks}
use Rattle.ncsb.specs.declared.Shape.{Shape}
use Rattle.record_words.specs.Record.{full_records}
use Rattle.record_words.proofs.Laws.{full_kept}
use Rattle.complement.specs.Build.{Lent, lent, room_of, too_long, room_refusal, build_refusal, as_counts, counted, BuildSays}
use Rattle.complement.specs.Complement.{complement, complement_words, sets_words}
use Rattle.complement.specs.Found.{quadruples, counted_to, Shows, ReadOff, OfPattern, Tried}
use Rattle.complement.specs.Records.{capacity}
use Rattle.complement.specs.declared.Counts.{Counts}
use Rattle.complement.specs.declared.Size.{Size}
use Rattle.complement.specs.declared.explore.Progress.{Progress}
use Rattle.complement.proofs.Reaching.{SameSizes}
use Rattle.complement.proofs.Room.{states_over, table_over, all_fits, room_cases}
use Rattle.complement.proofs.Second.{counts_number}

-- NUMBERS, in any range: more states than fit; and the test of 12, whether the count of edges stopped or not
module _ (limits : Limits) (words records n m : ℕ) where
  states_many :
      min records limits.states < n → room_refusal limits (record { words = words; records = records }) n m ≡ 11
  states_many l =
      elim (room_cases limits (record { words = words; records = records }) n m) [
        | states_over many e ↦ e
        | table_over few fewer long e ↦ absurd (omega arith)
        | all_fits few fewer edges short e ↦ absurd (omega arith)
      ]

  states_fit :
      n ≤ min records limits.states →
      room_refusal limits (record { words = words; records = records }) n m ≡ cond (too_long limits words n m) 12 0
  unfolding room_refusal
  states_fit l =
      let few : n ≤ records = omega arith in
      let fewer : n ≤ limits.states = omega arith in rw (ge_ltb few, ge_ltb fewer) refl

  stopped_count : (q : ℕ) → q ≡ min m (counted_to limits) → too_long limits words n q ≡ too_long limits words n m
  unfolding counted_to
  stopped_count q e =
      elim (either (ltb limits.records m)) [
        | inl f ↦
            let g = ltb_lt limits.records m f in
            let over : limits.records < q = omega arith in rw (f, lt_ltb over) refl
        | inr f ↦
            let g = ltb_ge limits.records m f in
            let all : q ≡ m = omega arith in rw all refl
      ]

-- WHICH REFUSAL
module _ (limits : Limits) (t : List ℕ) (lends : Lent) where
  -- the check's own
  check_refuses : {k : ℕ} → k ≡ check_refusal t → (k ≡ 0 → ⊥) → build_refusal limits t (room_of lends) ≡ k
  unfolding build_refusal or_else
  check_refuses {k} e ne = rw (← e, ne_eqb k 0 ne) refl

  module _ (passed : check_refusal t ≡ 0) where
    room_only :
        build_refusal limits t (room_of lends)
        ≡ room_refusal limits (room_of lends) (length (complement t).states) (length (complement t).edges)
    unfolding build_refusal or_else
    room_only = rw passed refl

    -- 11
    states_refuse :
        {l : Lent} → capacity limits l.sets < length (complement t).states → SameSizes l lends →
        build_refusal limits t (room_of lends) ≡ 11
    unfolding capacity room_of
    states_refuse {l} many sizes =
        let over : min (full_records lends.sets) limits.states < length (complement t).states =
        rw (full_kept lends.sets l.sets sizes.sets) at many in
        room_only
        ∙ states_many limits (length lends.words) (full_records lends.sets) (length (complement t).states) (length (complement t).edges) over

    module _ {l : Lent} {p : Progress} (h : Shows (quadruples limits) (complement t) l p) (sizes : SameSizes l lends) where
      both_counts :
          build_refusal limits t (room_of lends)
          ≡ cond (too_long limits (length l.words) p.states p.edges) 12 0
      unfolding capacity room_of
      both_counts =
          let n = length (complement t).states in
          let m = length (complement t).edges in
          let fits : n ≤ min (full_records lends.sets) limits.states = rw (full_kept lends.sets l.sets sizes.sets) at h.states.fits in
          let count = h.states.counted in
          let stop = h.edges.counted in
          room_only ∙ states_fit limits (length lends.words) (full_records lends.sets) n m fits
          ∙ rw (sizes.words, count)
          (ap (λ (b : Bool). cond b 12 0) (sym (stopped_count limits (length lends.words) (full_records lends.sets) n m p.edges stop)))

      -- 12 where the table is too long, and else none
      pub length_refuses :
          {b c : Bool} → b ≡ too_long limits (length l.words) p.states p.edges → b ≡ c →
          build_refusal limits t (room_of lends) ≡ cond c 12 0
      length_refuses e f = both_counts ∙ rw (← e, f) refl

-- WHAT IS SAID
counts_refused :
    (k : ℕ) (p : Place) (n m : ℕ) → 1 ≤ k → record { number = k; states = 0; edges = 0; place = p } ≡ as_counts k p n m
unfolding as_counts
counts_refused zero p n m some = absurd (omega arith)
counts_refused (suc k) p n m some = refl

-- a refusal
tried_refused :
    {limits : Limits} {t : List ℕ} {lends after : Lent} (r : Refusal) → build_refusal limits t (room_of lends) ≡ number r →
    place_of r ≡ check_place t → Tried limits t (Err r) lends after
tried_refused {limits} {t} r e at =
    let n = length (complement t).states in
    let m = length (complement t).edges in
    record { answer = rw (e, ← at) (counts_refused (number r) (place_of r) n m (numbered r).from_one); words = tt; sets = tt }

-- an accepted build
pub tried_built :
    {limits : Limits} {t : List ℕ} {lends after : Lent} {size : Size} → build_refusal limits t (room_of lends) ≡ 0 →
    size.states ≡ length (complement t).states → size.edges ≡ length (complement t).edges →
    after.words ≡ filled (complement_words t) lends.words → after.sets ≡ filled (sets_words t) lends.sets →
    Tried limits t (Ok size) lends after
unfolding as_counts
tried_built e states edges words sets = record { answer = rw (e, states, edges) refl; words = words; sets = sets }

-- THE THREE REFUSALS of the build
module _ (limits : Limits) (t : List ℕ) {lends after : Lent} where
  -- the check's own, with its place
  pub refused_check : (r : Refusal) → read_as (Err r) ≡ reading t → Tried limits t (Err r) lends after
  refused_check r told =
      let some = (numbered r).from_one in
      tried_refused r (check_refuses limits t lends (reading_refused t r told) (λ none. omega arith)) (reading_place t r told)

  module _ (passed : check_refusal t ≡ 0) {l : Lent} (sizes : SameSizes l lends) where
    pub refused_states : capacity limits l.sets < length (complement t).states → Tried limits t (Err why.Room) lends after
    refused_states many = tried_refused why.Room (states_refuse limits t lends passed many sizes) (sym (passed_no_place t passed))

    pub refused_edges :
        {p : Progress} → Shows (quadruples limits) (complement t) l p → {b : Bool} →
        b ≡ too_long limits (length l.words) p.states p.edges → b ≡ true → Tried limits t (Err why.Table) lends after
    refused_edges shows e long =
        tried_refused why.Table (length_refuses limits t lends passed shows sizes e long) (sym (passed_no_place t passed))

-- WHAT IS READ OFF a pattern
module _
    (t : List ℕ) (shape : Shape) (before masks : List (List ℕ)) (told : read_as (Ok shape) ≡ reading t)
    (spread : masks ≡ masks_read t before) where
  pub read_off : ReadOff t masks shape
  read_off =
      record {
        passed = sym (reading_passed t shape told);
        masked = reading_masks t shape told before masks spread;
        shaped = reading_shape t shape told;
      }

  pub of_reading : OfPattern masks shape
  of_reading = record { table = t; read_off = read_off }

-- WHAT THE BUILD SAYS: an accepted try as it is, and a refused one once the buffers are cleared
module _ {limits : Limits} {t : List ℕ} {before after : Lent} where
  tried_number : {r : Result Size Refusal} → Tried limits t r before after → build_refusal limits t (room_of before) ≡ (counted r).number
  tried_number h = sym (ap (λ (c : Counts). c.number) h.answer ∙ counts_number _ _ _ _)

  pub says_tried : (r : Result Size Refusal) → Tried limits t r before after → is_err r ≡ false → BuildSays limits t (counted r) before after
  says_tried (Ok size) h e =
      let none = tried_number h in
      record {
        answer = h.answer;
        words = h.words ∙ sym (after_accepted _ none (complement_words t) before.words);
        sets = h.sets ∙ sym (after_accepted _ none (sets_words t) before.sets);
      }
  says_tried (Err r) h e = absurd (cc)

  pub says_cleared :
      (r : Result Size Refusal) {words sets : List ℕ} → Tried limits t r before after → is_err r ≡ true →
      words ≡ replicate (length before.words) 0 → sets ≡ replicate (length before.sets) 0 →
      BuildSays limits t (counted r) before (lent words sets)
  unfolding zeros
  says_cleared (Ok size) h e words sets = absurd (cc)
  says_cleared (Err r) h e words sets =
      let some = (numbered r).from_one in
      let number = tried_number h in
      record {
        answer = h.answer;
        words = words ∙ sym (after_refused _ (λ none. omega arith) (complement_words t) before.words);
        sets = sets ∙ sym (after_refused _ (λ none. omega arith) (sets_words t) before.sets);
      }

-- what a build that is not too long has
pub short_enough :
    (limits : Limits) (words n m : ℕ) {b : Bool} → b ≡ too_long limits words n m → b ≡ false →
    (m ≤ limits.records) × (table_words n m ≤ words)
short_enough limits words n m e f = both_within limits.records m words (table_words n m) (sym e ∙ f)
